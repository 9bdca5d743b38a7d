-- Variables are filled with what was handed over, one after another.
use Rattle.std.proofs.Common.{◌≡◌, ℕ, suc, true, false, ◌&&◌, not, List, [], ◌∷◌, ◌++◌, length, map, Option, Some, None, is_some, refl, sym, ap, ◌∙◌, subst}
use Rattle.vlt_core.specs.Core.{Ty, a_var, Func, Program}
use Rattle.vlt_core.specs.Lookups.{var_type, is_owning_var, owns}
use Rattle.vlt_core.specs.Maps.{full, HeldMap, wants_absent, becomes_full, Row, row_passed, CanPass, map_after}
use Rattle.vlt_core.specs.Rows.{row, fill_rows}
use Rattle.vlt_core.specs.Types.{same_ty}
use Rattle.vlt_core.specs.declared.rules.TheConstants as rule
use Rattle.vlt_core.specs.KindedScopes.{Ids, with_binding, binding_broken}
use Rattle.vlt_core.specs.KindedOperands.{misfit}
use Rattle.vlt_core.specs.KindedStatements.{with_bindings, opened_broken}
use Rattle.vlt_meaning.specs.World.{World, Frame, not_empty}
use Rattle.vlt_meaning.specs.World as world
use Rattle.vlt_meaning.specs.Step as step
use Rattle.vlt_meaning.specs.Step.{goes, is_fillable, with_filled}
use Rattle.vlt_sound_worlds.specs.Roots.{in_hand}
use Rattle.vlt_sound_worlds.proofs.Members.{in_left}
use Rattle.vlt_sound_worlds.specs.Agrees.{HasVar, Handed, values_of, Context, scene, Agrees}
use Rattle.vlt_sound_worlds.specs.Typed.{IsTyped}
use Rattle.vlt_sound_worlds.specs.Safe.{Safe, goes_to}
use Rattle.vlt_sound_worlds.proofs.Empty.{both_empty, unless_so}
use Rattle.vlt_sound_worlds.proofs.Rows.{row_here}
use Rattle.vlt_sound_worlds.proofs.Safe.{so_safe}
use Rattle.vlt_sound_worlds.proofs.TypeFacts.{var_known, fits_wider}
use Rattle.vlt_sound_worlds.proofs.Owning.{row_tok, absent_is}
use Rattle.vlt_sound_worlds.proofs.Handing.{agrees_filled}
use Rattle.vlt_sound_worlds.proofs.Binding.{binding_kept, binding_from}
use Rattle.vlt_sound_statements.proofs.Swaps.{same_wide}
use Rattle.vlt_sound_statements.proofs.Parts.{placed_small}
use Rattle.vlt_sound_statements.proofs.Cells.{AreOwningHanded}

same_types : (w ty : Ty) (type : Option Ty) → type ≡ Some ty → misfit (Some w) type ≡ [] → same_ty w ty ≡ true
same_types w ty type known e = unless_so (same_ty w ty) rule.WRONG_TYPE (subst (λ t. misfit (Some w) t ≡ []) known e)

module _ (p : Program) (f : Func) (typed : IsTyped p f) {c : Context} where
  pub filled_safe : (vs : List ℕ) (hand : List Handed) (h : HeldMap) (ids : Ids) (frame : Frame) (w : World) →
      Agrees p f c h ids hand frame w.objects → AreOwningHanded hand →
      length (map (λ x. x.type) hand) ≡ length vs →
      opened_broken p f ids (map (λ x. x.type) hand) vs ≡ [] → CanPass (fill_rows f vs) h →
      Safe (goes_to p f c (map_after (fill_rows f vs) h) (with_bindings f vs ids) [])
      (with_filled f vs (map (λ x. x.value) hand) frame w (λ frame. goes frame w))
  unfolding with_filled
  filled_safe [] [] h ids frame w agrees own count kinded pass = agrees
  filled_safe [] (x ∷ hand) h ids frame w agrees own count kinded pass = cc
  filled_safe (v ∷ vs) [] h ids frame w agrees own count kinded pass = cc
  filled_safe (v ∷ vs) (x ∷ hand) h ids frame w agrees own count kinded pass =
      let A = misfit (Some x.type) (var_type f v) in
      let B = binding_broken f ids None v in
      let ids1 : Ids = with_binding f None v ids in
      let s2 = both_empty (A ++ B) (opened_broken p f ids1 (map (λ x. x.type) hand) vs) kinded in
      let s1 = both_empty A B s2.0 in
      let known = var_known f v (binding_kept f ids None v s1.1).within in
      let ty : Ty = known.0 in
      let wide = same_wide x.type ty own.0 (same_types x.type ty (var_type f v) known.1 s1.0) in
      let owner : is_owning_var f v ≡ true = ap owns known.1 ∙ wide.owning in
      let fr : Row = row (a_var v) wants_absent becomes_full in
      let rows : fill_rows f (v ∷ vs) ≡ fr ∷ fill_rows f vs = rw owner refl in
      let ok = subst (λ rs. CanPass rs h) rows pass in
      let h1 : HeldMap = row_passed fr h in
      let none : frame.vars v ≡ None =
      (subst (λ s. HasVar (is_owning_var f v) s (frame.vars v)) (absent_is (h (a_var v)) ok.0) (agrees.vars.full v)) owner in
      let fits =
      fits_wider p (scene c w.objects agrees.heads) frame.keys ty x.type x.value
      (λ n i. placed_small typed agrees in_hand n (in_left n (world.objects_in x.value) (values_of hand) i)) own.0 wide.back
      agrees.handed.0 in
      let next =
      agrees_filled agrees v h1 (row_tok fr h full (row_here fr h)) ty ids1 none known.1 wide.owning fits
      (binding_from f None v ids) in
      subst
      (λ rs. Safe (goes_to p f c (map_after rs h) (with_bindings f vs ids1) [])
      (with_filled f (v ∷ vs) (x.value ∷ map (λ x. x.value) hand) frame w (λ frame. goes frame w))) (sym rows)
      (so_safe (goes_to p f c (map_after (fill_rows f vs) h1) (with_bindings f vs ids1) [])
      (is_fillable f v frame) not_empty None w _
      (ap (λ a. not (is_owning_var f v && is_some a)) none ∙ ap (λ b. not (b && false)) owner)
      (filled_safe vs hand h1 ids1 (step.with_var v (Some x.value) frame) w next own.1 (ap less count) s2.1 ok.1))
    where
      less : ℕ → ℕ
      less (suc n) = n
      less n = n
