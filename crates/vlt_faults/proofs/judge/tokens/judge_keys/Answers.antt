use Rattle.std.proofs.Common.{arith, subst}
use Rattle.vlt_keyset.specs.Held.{map_of}
use Rattle.vlt_rows.specs.FlowView.{block_view}
use Rattle.vlt_faults.specs.Judge.Overs.{IsFirstOver, IsKeyBelow}
use Rattle.vlt_faults.proofs.OfJudge.Overs.{over_none, over_both, key_next, no_key}
use Rattle.vlt_faults.proofs.judge.tokens.judge_keys.Goals as goal

pub loop-key-init : goal.loop-key-init
loop-key-init c = over_none _ _ _ no_key

pub loop-key-preserved : goal.loop-key-preserved
loop-key-preserved c = over_both _ _ _ _ _ _ _ _ c.loop-key.invariant c.in_ok-judge_token.ensures.first c.earlier-first.ensures (key_next c.loop-key.key)

pub returns : goal.returns
returns c = subst (λ n. IsFirstOver (IsKeyBelow n) (block_view c.args.body.now) (map_of c.args.start.now) c.loop-key.first) (omega (arith, c.loop-key-test.false)) c.loop-key.invariant
