use Rattle.vlt_keyset.specs.Held.{map_of}
use Rattle.vlt_rows.specs.FlowView.{block_view}
use Rattle.vlt_faults.specs.Judge.Overs.{IsFirstOver, IsVarBelow}
use Rattle.vlt_faults.proofs.judge.tokens.judge_vars.Given as goal

abbrev pub invariant-loop-var : goal.invariant-loop-var
invariant-loop-var l = IsFirstOver (IsVarBelow l.var) (block_view l.body) (map_of l.start) l.first
