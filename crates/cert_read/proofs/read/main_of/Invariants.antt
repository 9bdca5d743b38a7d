use Rattle.std.proofs.Common.{◌≡◌, map, drop}
use Rattle.vlt_core.specs.View.{func_of}
use Rattle.cert_format.specs.Certificate.{main_from}
use Rattle.cert_read.proofs.read.main_of.Given as goal

abbrev pub invariant-loop-f : goal.invariant-loop-f
invariant-loop-f l = (main_from 0 (map func_of l.fns) ≡ main_from l.n (map func_of (drop l.f-index l.fns))) × (l.n ≡ l.f-index)
