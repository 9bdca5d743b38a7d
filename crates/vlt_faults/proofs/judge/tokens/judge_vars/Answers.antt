use Rattle.std.proofs.Common.{arith, subst}
use Rattle.vlt_keyset.specs.Held.{map_of}
use Rattle.vlt_rows.specs.FlowView.{block_view}
use Rattle.vlt_faults.specs.Judge.Overs.{IsFirstOver, IsVarBelow}
use Rattle.vlt_faults.proofs.OfJudge.Overs.{over_none, over_both, var_next, no_var}
use Rattle.vlt_faults.proofs.judge.tokens.judge_vars.Goals as goal

pub loop-var-init : goal.loop-var-init
loop-var-init c = over_none _ _ _ no_var

pub loop-var-preserved : goal.loop-var-preserved
loop-var-preserved c = over_both _ _ _ _ _ _ _ _ c.loop-var.invariant c.in_ok-judge_token.ensures.first c.earlier-first.ensures (var_next c.loop-var.var)

pub returns : goal.returns
returns c = subst (λ n. IsFirstOver (IsVarBelow n) (block_view c.args.body.now) (map_of c.args.start.now) c.loop-var.first) (omega (arith, c.loop-var-test.false)) c.loop-var.invariant
