-- What fields of declared types are in programs that break no rule.
use Rattle.std.proofs.Common.{◌≡◌, inl, inr, ⊎_elim, ℕ, zero, suc, ◌==◌, ◌<◌, Bool, false, List, [], ◌∷◌, ◌++◌, length, Option, Some, None, refl, sym, ap, ◌∙◌, arith, slice_get}
use Rattle.std.proofs.lemmas.Bool.{eqb-true}
use Rattle.std.proofs.lemmas.Option.{slice_get_cases}
use Rattle.vlt_core.specs.Core.{Program}
use Rattle.vlt_core.specs.Types.{args_of, header_of, keys_of_ty}
use Rattle.vlt_core.specs.Core.{Ty, int, bool, tracked, owning, guarded, variant, owning_variant}
use Rattle.vlt_core.specs.KindedHeads.{unless, when_some, part_broken, states_broken, is_field_type}
use Rattle.vlt_core.specs.Kinded.{IsKinded}
use Rattle.vlt_core.specs.declared.rules.TheConstants as rule
use Rattle.vlt_sound_worlds.specs.Members.{In}
use Rattle.vlt_sound_worlds.specs.Fits.{option_join, header_type}
use Rattle.vlt_sound_worlds.proofs.Empty.{both_empty, unless_so}
use Rattle.vlt_sound.proofs.Decls.{field_row, field_kinded, part_keys}
use Rattle.vlt_sound.specs.Fields.{HasFields}

-- a key at a position of a type's arguments is one of the type's keys
arg_key : (ty : Ty) (j k : ℕ) → slice_get (args_of ty) j ≡ Some k → In k (keys_of_ty ty)
arg_key ty j k at = by ty (in_list (args_of ty) j at)
  where
    in_list : (ks : List ℕ) (j : ℕ) → slice_get ks j ≡ Some k → In k ks
    in_list [] j at = absurd (none at)
      where
        none : ◌≡◌ {A = Option ℕ} None (Some k) → ⊥
        none e = cc
    in_list (x ∷ ks) zero at = inl (some at)
      where
        some : Some x ≡ Some k → k ≡ x
        some e = cc
    in_list (x ∷ ks) (suc j) at = inr (in_list ks j at)

    by : (ty : Ty) → In k (args_of ty) → In k (keys_of_ty ty)
    by int i = i
    by bool i = i
    by (tracked q t args) i = inr i
    by (owning S t args) i = i
    by (guarded q t args) i = inr i
    by (variant t args) i = i
    by (owning_variant t args) i = i

-- what the rules say inside, by its clauses
abbrev fits : ℕ → Option ℕ → Bool
fits t None = false
fits t (Some u) = t == u

pub has_fields : (p : Program) → IsKinded p → HasFields p
has_fields p kinded = record {
  types = λ t i d at.
      let A = part_broken p (header_of p t) d.ty in
      let B = states_broken p t d.states in
      unless_so (is_field_type p d.ty) rule.FIELD_TYPE
      (both_empty (A ++ B) (unless (is_field_type p d.ty) rule.FIELD_TYPE) (field_row p kinded t i d at)).1;
  heads = λ t i j k u w d at type arg head.
      let all = field_kinded p kinded t i d at in
      let lt = part_keys p (header_of p t) d.ty all k (arg_key d.ty j k arg) in
      by t k w lt (slice_get (header_of p t) k) refl (all.args u j k w type arg head);
}
  where
    by : (t k w : ℕ) → k < length (header_of p t) → (o : Option (Option ℕ)) → slice_get (header_of p t) k ≡ o →
        when_some (slice_get (header_of p t) k) (λ h. unless (fits w h) rule.KEY_ARGUMENT) ≡ [] → header_type p t k ≡ Some w
    by t k w lt None at e = ⊎_elim
        (λ q. absurd (some q.0 (sym at ∙ q.2)))
        (λ past. let le = past.0 in absurd (omega arith))
        (slice_get_cases (header_of p t) k).1
      where
        some : (x : Option ℕ) → ◌≡◌ {A = Option (Option ℕ)} None (Some x) → ⊥
        some x q = cc
    by t k w lt (Some None) at e = let q = rw at at e in cc
    by t k w lt (Some (Some u)) at e =
        let q = rw at at e in
        ap option_join at ∙ ap Some (sym (eqb-true w u (unless_so (w == u) rule.KEY_ARGUMENT q)))
