use Rattle.std.proofs.Common.{◌≡◌, ◌&&◌, ℕ, None, Some, Option, refl, ◌∙◌}
use Rattle.std.specs.Prelude.{IsNone, IfSome}
use Rattle.std.proofs.Math.Path.{fun_ext}
use Rattle.vlt_base.specs.States.{has_state, is_bit}
use Rattle.vlt_base.specs.declared.states.StateSet.{StateSet}
use Rattle.vlt_core.specs.HeldView.{IsSetOrNone}
use Rattle.vlt_core.proofs.Orders.{both_masks, none_both}
use Rattle.vlt_core.proofs.lookups.both.Goals as goal

in_both : (a b : StateSet) (m : ℕ) (o : Option StateSet) → ((i : ℕ) → is_bit m i ≡ (has_state a i && has_state b i)) →
    (IsNone o → m ≡ 0) → IfSome o (λ s. (i : ℕ) → has_state s i ≡ is_bit m i) → IsSetOrNone (λ i. has_state a i && has_state b i) o
in_both a b m None each empty has = none_both a b m each (empty refl)
in_both a b m (Some s) each empty has = fun_ext (λ i. has i ∙ each i)

pub returns : goal.returns
returns c = in_both c.args.a c.args.b _ c.of.result
    (λ i. both_masks c.args.a c.args.b c.mask.result c.mask-2.result i (c.mask.ensures.states i) (c.mask-2.ensures.states i)) c.of.ensures.none.0 c.of.ensures.states
