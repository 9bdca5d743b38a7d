use Rattle.vlt_core.specs.View.{program_of, func_of}
use Rattle.vlt_all_faults.specs.Tokens.{IsListed, IsBelow}
use Rattle.vlt_all_faults.proofs.list.with_vars.Given as goal

abbrev pub invariant-loop-var : goal.invariant-loop-var
invariant-loop-var l = IsListed (IsBelow l.keys l.var) (program_of l.p) (func_of l.f) l.list.items
