use Rattle.std.proofs.Common.{◌≡◌, drop}
use Rattle.vlt_core.specs.KindedHeads as heads
use Rattle.vlt_core.specs.View.{vars_of}
use Rattle.cert_kinds_exprs.proofs.scopes.has_var.Given as goal

abbrev pub invariant-loop-w : goal.invariant-loop-w
invariant-loop-w l = heads.has (vars_of l.vars) l.v.0 ≡ heads.has (vars_of (drop l.w-index l.vars)) l.v.0
