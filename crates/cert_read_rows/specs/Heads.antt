-- Heads of the code as the plain ones that they stand for.
use Rattle.vlt_core.specs.View.{vars_of}
use Rattle.vlt_core.specs.HeldView.{toks_of}
use Rattle.cert_rows.specs.Rows as s
use Rattle.cert_read_rows.specs.declared.heads.Head.{Head}
use Rattle.cert_read_rows.specs.declared.heads.ArmHead.{ArmHead}

abbrev pub head_of : Head → s.Head
head_of h = (h.count, toks_of h.bound)

abbrev pub arm_of : ArmHead → s.ArmHead
arm_of h = (h.case, vars_of h.vars, h.count, toks_of h.bound)
