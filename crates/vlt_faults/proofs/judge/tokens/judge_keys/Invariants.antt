use Rattle.vlt_keyset.specs.Held.{map_of}
use Rattle.vlt_rows.specs.FlowView.{block_view}
use Rattle.vlt_faults.specs.Judge.Overs.{IsFirstOver, IsKeyBelow}
use Rattle.vlt_faults.proofs.judge.tokens.judge_keys.Given as goal

abbrev pub invariant-loop-key : goal.invariant-loop-key
invariant-loop-key l = IsFirstOver (IsKeyBelow l.key) (block_view l.body) (map_of l.start) l.first
