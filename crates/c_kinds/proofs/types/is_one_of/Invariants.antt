use Rattle.std.proofs.Common.{◌≡◌, drop}
use Rattle.c_syntax.specs.Kinds.{is_one_of}
use Rattle.c_kinds.proofs.types.is_one_of.Given as goal

abbrev pub invariant-loop-other : goal.invariant-loop-other
invariant-loop-other l = is_one_of l.variable (drop l.other-index l.declared) ≡ is_one_of l.variable l.declared
