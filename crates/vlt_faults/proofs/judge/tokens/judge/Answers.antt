use Rattle.std.proofs.Common.{◌⊎◌}
use Rattle.vlt_faults.specs.Judge.Extents.{IsBeyond}
use Rattle.vlt_faults.specs.Judge.Overs.{IsKeyBelow}
use Rattle.vlt_faults.proofs.OfJudge.Overs.{over_both, over_beyond, any_token}
use Rattle.vlt_faults.proofs.judge.tokens.judge.Goals as goal

pub returns-clause-first : goal.returns-clause-first
returns-clause-first c =
    let e = c.in_ok-whole.whole in
    let other = over_beyond _ _ e _ c.in_ok-whole.ensures c.in_ok-other.ensures.first in
    let keys = over_both _ _ (λ t. IsKeyBelow e.keys t ⊎ IsBeyond e.keys e.vars t) _ _ _ _ _ c.in_ok-keys.ensures other c.earlier.ensures (λ t x. x) in
    over_both _ _ (λ t. Unit {0}) _ _ _ _ _ keys c.in_ok-vars.ensures c.earlier-2.ensures (λ t x. any_token e.keys e.vars t)
