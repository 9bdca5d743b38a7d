use Rattle.std.proofs.Common.{refl, true≢false}
use Rattle.vlt_points.proofs.Texts.{states_none, states_some}
use Rattle.vlt_points.proofs.words.add_states.Goals as goal

pub returns-in-None : goal.returns-in-None
returns-in-None c = states_none _ _ c.args.mask ((rw c.in-None.is at c.of.ensures.none).0 refl)

pub returns-in_ok-add_set-in-Some : goal.returns-in_ok-add_set-in-Some
returns-in_ok-add_set-in-Some c = states_some _ _ _ _ _ c.args.mask _ (λ e. true≢false ((rw c.in-Some.is at c.of.ensures.none).1 e)) c.ranges.mask.fits (rw c.in-Some.is at c.of.ensures.states) c.in_ok-extend_from_slice-in-Some.ensures.items c.in_ok-add_set-in-Some.ensures
