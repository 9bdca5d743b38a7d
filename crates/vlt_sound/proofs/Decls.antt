-- What declared types say that break no rule.
use Rattle.std.proofs.Common.{◌≡◌, ⊎_elim, ℕ, ◌==◌, ◌<◌, ◌≤◌, nat_lt, Bool, true, false, List, [], ◌∷◌, ◌++◌, map, length, Option, Some, None, refl, sym, ap, subst, arith, slice_get, IsTrue}
use Rattle.std.proofs.lemmas.Bool.{ltb-true, lt-ltb}
use Rattle.std.proofs.lemmas.Option.{none-some, slice_get_cases}
use Rattle.std.specs.List.{flat_map}
use Rattle.vlt_core.specs.Core.{Ty, variant, CaseKey, CaseDecl, FieldDecl, TypeDecl, an_abstract, a_struct, a_variant, Header, Program}
use Rattle.vlt_core.specs.Lookups.{set_in, count_in, all_states, state_count, first_state, fields_in, fields_of, cases_in, case_at}
use Rattle.vlt_core.specs.Types.{decl_of, header_in, header_of, keys_of_ty, is_owning_type}
use Rattle.vlt_core.specs.KindedHeads.{Rules, unless, when_some, has_set, are_apart, part_broken, header_broken, states_broken, is_field_type, field_broken, is_payload_type, case_key_broken, case_broken}
use Rattle.vlt_core.specs.declared.rules.TheConstants as rule
use Rattle.vlt_core.specs.Kinded.{IsKinded}
use Rattle.vlt_core_laws.specs.States.{HasStates}
use Rattle.vlt_sound_worlds.specs.Members.{In}
use Rattle.vlt_sound_worlds.specs.Fits.{option_join, header_type}
use Rattle.vlt_sound_worlds.specs.Typed.{IsLimited}
use Rattle.vlt_sound_worlds.proofs.Empty.{both_empty, unless_so}
use Rattle.vlt_sound_statements.specs.Kinded.{BreakNone}
use Rattle.vlt_sound.specs.Sizes.{HasSizes}
use Rattle.vlt_sound.proofs.Rows.{flat_at, none_at, type_kinded}
use Rattle.vlt_sound.proofs.Types.{TyKinded, ty_kinded, variant_plain}

-- ---- copies of what rules say inside, by their clauses

abbrev fits_header : ℕ → Option ℕ → Bool
fits_header t None = false
fits_header t (Some u) = t == u

abbrev part_arg : Header → (key type : ℕ) → Rules
part_arg header k t = when_some (slice_get header k) (λ h. unless (fits_header t h) rule.KEY_ARGUMENT)

abbrev pub key_at : Program → CaseKey → Option (Option ℕ) → Rules
key_at p k (Some (Some t)) = when_some (decl_of p t) (λ d. states_broken p t k.states)
key_at p k _ = rule.CASE_KEY ∷ []

-- how many states a type with this set has, and whether the set is there
module _ (p : Program) where
  abbrev count_from : Option ℕ → ℕ
  count_from None = 1
  count_from (Some i) = count_in (slice_get p.sets i)

  abbrev set_there : Option ℕ → Bool
  set_there None = true
  set_there (Some i) = nat_lt i (length p.sets)

-- a field's or a payload's type
abbrev pub PartKinded : Program → Header → Ty → Type 0
PartKinded p header ty = TyKinded p (λ k. unless (nat_lt k (length header)) rule.KEY_NOT_IN_HEADER) (part_arg header) ty

pub part_keys : (p : Program) (header : Header) (ty : Ty) → PartKinded p header ty → (k : ℕ) → In k (keys_of_ty ty) →
    k < length header
part_keys p header ty kinded k i =
    ltb-true k (length header) (unless_so (nat_lt k (length header)) rule.KEY_NOT_IN_HEADER (kinded.keys k i))

module _ (p : Program) (kinded : IsKinded p) where
  -- ---- sets

  -- the set that a declared type names is there
  pub has_sets : (t : ℕ) → has_set p (decl_of p t) ≡ true
  has_sets t = by (decl_of p t) refl
    where
      by : (o : Option TypeDecl) → decl_of p t ≡ o → has_set p (decl_of p t) ≡ true
      by None at = ap (has_set p) at
      by (Some (an_abstract name set)) at =
          unless_so (has_set p (decl_of p t)) rule.UNKNOWN_NAME (type_kinded p kinded t (an_abstract name set) at).0
      by (Some (a_struct d)) at =
          let row = (type_kinded p kinded t (a_struct d) at).0 in
          let A = unless (has_set p (decl_of p t)) rule.UNKNOWN_NAME in
          let B = header_broken p d.header in
          let C = states_broken p t d.release in
          let three = both_empty (A ++ B ++ C) (flat_map (field_broken p t d.header) d.fields) row in
          let two = both_empty (A ++ B) C three.0 in
          unless_so (has_set p (decl_of p t)) rule.UNKNOWN_NAME (both_empty A B two.0).0
      by (Some (a_variant d)) at = ap (has_set p) at

  -- ---- fields

  pub field_row : (t i : ℕ) (d : FieldDecl) → slice_get (fields_of p t) i ≡ Some d →
      field_broken p t (header_of p t) d ≡ []
  field_row t i d at = by (decl_of p t) refl at
    where
      by : (o : Option TypeDecl) → decl_of p t ≡ o → slice_get (fields_in o) i ≡ Some d →
          field_broken p t (header_of p t) d ≡ []
      by None is at = absurd (none-some d at)
      by (Some (an_abstract name set)) is at = absurd (none-some d at)
      by (Some (a_variant v)) is at = absurd (none-some d at)
      by (Some (a_struct s)) is at =
          let row = (type_kinded p kinded t (a_struct s) is).0 in
          let A =
          unless (has_set p (decl_of p t)) rule.UNKNOWN_NAME ++ header_broken p s.header ++ states_broken p t s.release in
          let here =
          flat_at (field_broken p t s.header) s.fields i d (both_empty A (flat_map (field_broken p t s.header) s.fields) row).1 at in
          subst (λ hs. field_broken p t hs d ≡ []) (ap header_in (sym is)) here

  pub field_kinded : (t i : ℕ) (d : FieldDecl) → slice_get (fields_of p t) i ≡ Some d →
      PartKinded p (header_of p t) d.ty
  field_kinded t i d at =
      let A = part_broken p (header_of p t) d.ty in
      let B = states_broken p t d.states in
      let two = both_empty (A ++ B) (unless (is_field_type p d.ty) rule.FIELD_TYPE) (field_row t i d at) in
      ty_kinded p (λ k. unless (nat_lt k (length (header_of p t))) rule.KEY_NOT_IN_HEADER) (part_arg (header_of p t)) d.ty
      (both_empty A B two.0).0

  -- a field of a variant that is copied owns nothing
  pub field_plain : (t i u : ℕ) (d : FieldDecl) (args : List ℕ) → slice_get (fields_of p t) i ≡ Some d →
      d.ty ≡ variant u args → is_owning_type p u ≡ false
  field_plain t i u d args at is =
      let k : PartKinded p (header_of p t) (variant u args) = subst (PartKinded p (header_of p t)) is (field_kinded t i d at) in
      (variant_plain p u args (k.shape u refl)).1

  -- ---- cases

  pub case_row : (t c : ℕ) (d : CaseDecl) → case_at p t c ≡ Some d → case_broken p (header_of p t) d ≡ []
  case_row t c d at = by (decl_of p t) refl at
    where
      by : (o : Option TypeDecl) → decl_of p t ≡ o → slice_get (cases_in o) c ≡ Some d →
          case_broken p (header_of p t) d ≡ []
      by None is at = absurd (none-some d at)
      by (Some (an_abstract name set)) is at = absurd (none-some d at)
      by (Some (a_struct s)) is at = absurd (none-some d at)
      by (Some (a_variant v)) is at =
          let rows : BreakNone (header_broken p v.header ∷ map (case_broken p v.header) v.cases) =
          type_kinded p kinded t (a_variant v) is in
          subst (λ hs. case_broken p hs d ≡ []) (ap header_in (sym is)) (none_at (case_broken p v.header) v.cases c d rows.1 at)

  abbrev payload_broken : Header → Ty → Rules
  payload_broken header ty = part_broken p header ty ++ unless (is_payload_type ty) rule.PAYLOAD_TYPE

  pub payload_kinded : (t c i : ℕ) (d : CaseDecl) (ty : Ty) → case_at p t c ≡ Some d → slice_get d.payload i ≡ Some ty →
      (is_payload_type ty ≡ true) × PartKinded p (header_of p t) ty
  payload_kinded t c i d ty is at =
      let A = flat_map (payload_broken (header_of p t)) d.payload in
      let B = unless (are_apart (map (λ k. k.position) d.keys)) rule.CASE_KEY in
      let C = flat_map (case_key_broken p (header_of p t)) d.keys in
      let two = both_empty (A ++ B) C (case_row t c d is) in
      let here = flat_at (payload_broken (header_of p t)) d.payload i ty (both_empty A B two.0).0 at in
      let both = both_empty (part_broken p (header_of p t) ty) (unless (is_payload_type ty) rule.PAYLOAD_TYPE) here in (
        unless_so (is_payload_type ty) rule.PAYLOAD_TYPE both.1,
        ty_kinded p (λ k. unless (nat_lt k (length (header_of p t))) rule.KEY_NOT_IN_HEADER) (part_arg (header_of p t)) ty
            both.0,
      )

  -- a key that a case lists has a type
  pub case_key_kinded : (t c i : ℕ) (d : CaseDecl) (k : CaseKey) → case_at p t c ≡ Some d → slice_get d.keys i ≡ Some k →
      (u : ℕ) × (header_type p t k.position ≡ Some u)
  case_key_kinded t c i d k is at =
      let A = flat_map (payload_broken (header_of p t)) d.payload in
      let B = unless (are_apart (map (λ k. k.position) d.keys)) rule.CASE_KEY in
      let C = flat_map (case_key_broken p (header_of p t)) d.keys in
      let here : key_at p k (slice_get (header_of p t) k.position) ≡ [] =
      flat_at (case_key_broken p (header_of p t)) d.keys i k (both_empty (A ++ B) C (case_row t c d is)).1 at in
      by (slice_get (header_of p t) k.position) refl here
    where
      by : (o : Option (Option ℕ)) → slice_get (header_of p t) k.position ≡ o → key_at p k o ≡ [] →
          (u : ℕ) × (header_type p t k.position ≡ Some u)
      by None at e = cc
      by (Some None) at e = cc
      by (Some (Some u)) at e = (u, ap option_join at)

  -- ---- states

  count_most : HasSizes p → (o : Option ℕ) → set_there p o ≡ true → count_from p o ≤ 32
  count_most sizes None there = omega arith
  count_most sizes (Some i) there = ⊎_elim
      (λ at. subst (λ o. count_in o ≤ 32) (sym at.2) (sizes.most i at.0 at.2))
      (λ past. let lt = ltb-true i (length p.sets) there in let le = past.0 in absurd (omega arith))
      (slice_get_cases p.sets i).1

  pub limited : HasSizes p → IsLimited p
  limited sizes = record {
    narrow = λ t. record {
      below = λ s i.
          let lt = ltb-true s (state_count p t) i in
          let le : state_count p t ≤ 32 = count_most sizes (set_in (decl_of p t)) (has_sets t) in
          omega arith;
    };
  }

  pub first_there : HasStates p → (t : ℕ) → IsTrue (all_states p t first_state)
  first_there filled t =
      let some = filled.all t in
      let lt = ltb-true some.state (state_count p t) some.has in
      lt-ltb 0 (state_count p t) (omega arith)
