use Rattle.std.proofs.Common.{length, ap, arith}
use Rattle.vlt_keyset.specs.Held.{map_of}
use Rattle.vlt_keyset.specs.Pairs.{map_of_pairs}
use Rattle.vlt_keyset.proofs.Ordered.{split_at}
use Rattle.vlt_keyset.proofs.Places.{past_next, below_next, next_var, var_left}
use Rattle.vlt_keyset.proofs.apart.test_vars.Goals as goal

pub loop-v-preserved : goal.loop-v-preserved
loop-v-preserved c =
    (past_next _ _ _ _ (next_var _) c.in_ok-at.ensures.past, below_next (map_of c.args.held.now) (map_of_pairs c.args.pairs.now) _ _ (next_var _) c.loop-v.invariant.1 c.in_ok-at.ensures.below)

pub returns-then-at-pairs-clause-apart : goal.returns-then-at-pairs-clause-apart
returns-then-at-pairs-clause-apart c =
    var_left _ _ _ _ _ _ (omega (arith, c.loop-v-test.false, ap (λ h. length h.vars) c.held.view_is)) c.loop-v.invariant.0 c.loop-v.invariant.1 (split_at _ _ _ c.if-at-pairs.true c.index-pairs-at.is)
    c.missing.ensures.tok c.missing.ensures.found c.missing.ensures.wanted
