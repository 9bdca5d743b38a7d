use Rattle.vlt_core.specs.View.{program_of, func_of}
use Rattle.vlt_all_faults.specs.Tokens.{IsListed, IsBelow}
use Rattle.vlt_all_faults.proofs.list.with_keys.Given as goal

abbrev pub invariant-loop-key : goal.invariant-loop-key
invariant-loop-key l = IsListed (IsBelow l.key 0) (program_of l.p) (func_of l.f) l.list.items
