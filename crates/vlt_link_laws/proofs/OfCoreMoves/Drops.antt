-- What may be dropped may still be dropped where more is declared.
use Rattle.std.proofs.Common.{◌≡◌, ◌⊎◌, inl, inr, ⊎_elim, ℕ, zero, suc, Bool, true, false, true≢false, not, ◌&&◌, ◌||◌, if◌then◌else◌, List, [], ◌∷◌, ◌++◌, length, map, filter, Option, Some, None, refl, sym, ap, ap₂, ◌∙◌}
use Rattle.std.proofs.lemmas.List.{map-append}
use Rattle.std.specs.List.{list_any, flat_map}
use Rattle.vlt_core.specs.Core.{Ty, int, bool, tracked, owning, guarded, variant, owning_variant, FieldDecl, CaseDecl, TypeDecl, an_abstract, a_struct, a_variant, Program}
use Rattle.vlt_core.specs.Lookups.{is_owning, fields_in, fields_of, cases_in, cases_of, release_set}
use Rattle.vlt_core.specs.Types.{decl_of, is_struct, is_variant, is_filled, is_keyed, owning_parts, is_undroppable_part, part_type, holds_undroppable, is_droppable_struct, is_droppable, lies_within}
use Rattle.vlt_link_laws.specs.CoreMoves.Moves.{Moves, moved_ty, moved_field, moved_case}
use Rattle.vlt_link_laws.specs.CoreMoves.Keeps.{Keeps}
use Rattle.vlt_link_laws.specs.CoreMoves.Knows.{IsStruct, IsVariant}
use Rattle.vlt_core_laws.specs.Parts.{IsAmong, IsFree}
use Rattle.vlt_link_laws.proofs.OfCoreMoves.Looks.{same_owner, same_release}
use Rattle.vlt_core_laws.proofs.Dropping.{part_is_free}

and_both : (x y : Bool) → (x && y) ≡ true → (x ≡ true) × (y ≡ true)
and_both true y e = (refl, e)
and_both false y e = absurd (true≢false (sym e))

or_none : (x y : Bool) → (x || y) ≡ false → (x ≡ false) × (y ≡ false)
or_none true y e = absurd (true≢false e)
or_none false y e = (refl, e)

not_false : (b : Bool) → not b ≡ false → b ≡ true
not_false true e = refl
not_false false e = absurd (true≢false e)

not_true : (b : Bool) → not b ≡ true → b ≡ false
not_true true e = absurd (true≢false (sym e))
not_true false e = refl

pub struct_there : (p : Program) (t : ℕ) → is_struct (decl_of p t) ≡ true → IsStruct p t
struct_there p t e = by (decl_of p t) refl e
  where
    by : (o : Option TypeDecl) → decl_of p t ≡ o → is_struct o ≡ true → IsStruct p t
    by None at e = absurd (true≢false (sym e))
    by (Some (an_abstract name i)) at e = absurd (true≢false (sym e))
    by (Some (a_struct d)) at e = record { decl = d; is = at }
    by (Some (a_variant d)) at e = absurd (true≢false (sym e))

pub variant_there : (p : Program) (t : ℕ) → is_variant (decl_of p t) ≡ true → IsVariant p t
variant_there p t e = by (decl_of p t) refl e
  where
    by : (o : Option TypeDecl) → decl_of p t ≡ o → is_variant o ≡ true → IsVariant p t
    by None at e = absurd (true≢false (sym e))
    by (Some (an_abstract name i)) at e = absurd (true≢false (sym e))
    by (Some (a_struct d)) at e = absurd (true≢false (sym e))
    by (Some (a_variant d)) at e = record { decl = d; is = at }

none_of : (test : Ty → Bool) (g : Ty → Ty) (tys : List Ty) → ((ty : Ty) → IsAmong ty tys → test (g ty) ≡ false) → list_any test (map g tys) ≡ false
none_of test g [] none = refl
none_of test g (ty ∷ tys) none = ap₂ (λ x y. x || y) (none ty (inl refl)) (none_of test g tys (λ u i. none u (inr i)))

owning_among : (tys : List Ty) (ty : Ty) → IsAmong ty (filter is_owning tys) → is_owning ty ≡ true
owning_among [] ty i = absurd i
owning_among (u ∷ us) ty i = by (is_owning u) refl (owning_among us ty) i
  where
    by : (x : Bool) → is_owning u ≡ x → (IsAmong ty (filter is_owning us) → is_owning ty ≡ true) → IsAmong ty (if x then u ∷ filter is_owning us else filter is_owning us) → is_owning ty ≡ true
    by true e more i = ⊎_elim (λ same. ap is_owning same ∙ e) more i
    by false e more i = more i

-- a struct or a variant
abbrev IsSolid : Program → ℕ → Type 0
IsSolid p t = IsStruct p t ⊎ IsVariant p t

module _ (m : Moves) where
  filter_moves : (tys : List Ty) → filter is_owning (map (moved_ty m) tys) ≡ map (moved_ty m) (filter is_owning tys)
  filter_moves [] = refl
  filter_moves (ty ∷ tys) =
      ap₂ (λ (x : Bool) ts. if x then moved_ty m ty ∷ ts else ts) (same_owner m ty) (filter_moves tys) ∙ by (is_owning ty)
    where
      by : (x : Bool) → (if x then moved_ty m ty ∷ map (moved_ty m) (filter is_owning tys) else map (moved_ty m) (filter is_owning tys)) ≡ map (moved_ty m) (if x then ty ∷ filter is_owning tys else filter is_owning tys)
      by true = refl
      by false = refl

  fields_typed : (ds : List FieldDecl) → map (λ d. d.ty) (map (moved_field m) ds) ≡ map (moved_ty m) (map (λ d. d.ty) ds)
  fields_typed [] = refl
  fields_typed (d ∷ ds) = ap (λ ts. moved_ty m d.ty ∷ ts) (fields_typed ds)

  payloads_typed : (cs : List CaseDecl) → flat_map (λ c. c.payload) (map (moved_case m) cs) ≡ map (moved_ty m) (flat_map (λ c. c.payload) cs)
  payloads_typed [] = refl
  payloads_typed (c ∷ cs) = ap (λ ts. map (moved_ty m) c.payload ++ ts) (payloads_typed cs) ∙ sym (map-append (moved_ty m) c.payload (flat_map (λ c. c.payload) cs))

  keyed_same : (cs : List CaseDecl) → list_any (λ c. is_filled c.keys) (map (moved_case m) cs) ≡ list_any (λ c. is_filled c.keys) cs
  keyed_same [] = refl
  keyed_same (c ∷ cs) = ap (λ x. is_filled c.keys || x) (keyed_same cs)

  module _ (p q : Program) (keeps : Keeps m p q) where
    parts_move : (fs : List FieldDecl) (cs : List CaseDecl) →
        filter is_owning (map (λ d. d.ty) (map (moved_field m) fs) ++ flat_map (λ c. c.payload) (map (moved_case m) cs)) ≡ map (moved_ty m) (filter is_owning (map (λ d. d.ty) fs ++ flat_map (λ c. c.payload) cs))
    parts_move fs cs =
        ap (filter is_owning) (ap₂ (λ x y. x ++ y) (fields_typed fs) (payloads_typed cs) ∙ sym (map-append (moved_ty m) (map (λ d. d.ty) fs) (flat_map (λ c. c.payload) cs))) ∙
        filter_moves (map (λ d. d.ty) fs ++ flat_map (λ c. c.payload) cs)

    owned_move : (t : ℕ) → IsSolid p t → owning_parts q (m.types t) ≡ map (moved_ty m) (owning_parts p t)
    owned_move t (inl s) =
        ap (λ o. filter is_owning (map (λ d. d.ty) (fields_in o) ++ flat_map (λ c. c.payload) (cases_in o))) (keeps.structs t s.decl s.is) ∙
        (parts_move s.decl.fields [] ∙ sym (ap (λ o. map (moved_ty m) (filter is_owning (map (λ d. d.ty) (fields_in o) ++ flat_map (λ c. c.payload) (cases_in o)))) s.is))
    owned_move t (inr s) =
        ap (λ o. filter is_owning (map (λ d. d.ty) (fields_in o) ++ flat_map (λ c. c.payload) (cases_in o))) (keeps.variants t s.decl s.is) ∙
        (parts_move [] s.decl.cases ∙ sym (ap (λ o. map (moved_ty m) (filter is_owning (map (λ d. d.ty) (fields_in o) ++ flat_map (λ c. c.payload) (cases_in o)))) s.is))

    keyed_there : (t : ℕ) → IsVariant p t → is_keyed q (m.types t) ≡ is_keyed p t
    keyed_there t s =
        ap (λ o. list_any (λ c. is_filled c.keys) (cases_in o)) (keeps.variants t s.decl s.is) ∙ (keyed_same s.decl.cases ∙ sym (ap (λ o. list_any (λ c. is_filled c.keys) (cases_in o)) s.is))

    -- what is known of a part that isn't fast
    part_solid : (ty : Ty) → is_owning ty ≡ true → is_undroppable_part p ty ≡ false → IsSolid p (part_type ty) × (is_undroppable_part q (moved_ty m ty) ≡ false) × (part_type (moved_ty m ty) ≡ m.types (part_type ty))
    part_solid (owning S t args) o e =
        let both = and_both (is_struct (decl_of p t)) (lies_within S (release_set p t)) (not_false (is_struct (decl_of p t) && lies_within S (release_set p t)) e) in
        let s = struct_there p t both.0 in
        (inl s, ap₂ (λ x y. not (is_struct x && lies_within S y)) (keeps.structs t s.decl s.is) (same_release m p q keeps t s) ∙ ap not both.1, refl)
    part_solid (owning_variant t args) o e =
        let both = or_none (not (is_variant (decl_of p t))) (is_keyed p t) e in
        let s = variant_there p t (not_false (is_variant (decl_of p t)) both.0) in
        (inr s, ap₂ (λ x y. not (is_variant x) || y) (keeps.variants t s.decl s.is) (keyed_there t s) ∙ both.1, refl)
    part_solid int o e = absurd (true≢false (sym o))
    part_solid bool o e = absurd (true≢false (sym o))
    part_solid (tracked k t args) o e = absurd (true≢false (sym o))
    part_solid (guarded k t args) o e = absurd (true≢false (sym o))
    part_solid (variant t args) o e = absurd (true≢false (sym o))

    part_of : (t : ℕ) → IsFree p t → (ty : Ty) → IsAmong ty (owning_parts p t) → IsSolid p (part_type ty) × (is_undroppable_part q (moved_ty m ty) ≡ false) × (part_type (moved_ty m ty) ≡ m.types (part_type ty)) × IsFree p (part_type ty)
    part_of t free ty i =
        let h = part_is_free p t free ty i in
        let s = part_solid ty (owning_among (map (λ d. d.ty) (fields_of p t) ++ flat_map (λ c. c.payload) (cases_of p t)) ty i) h.0 in
        (s.0, s.1, s.2, h.1)

    fast_free : (t : ℕ) → IsSolid p t → IsFree p t → list_any (is_undroppable_part q) (owning_parts q (m.types t)) ≡ false
    fast_free t solid free = ap (list_any (is_undroppable_part q)) (owned_move t solid) ∙ none_of (is_undroppable_part q) (moved_ty m) (owning_parts p t) (λ ty i. (part_of t free ty i).1)

    free_moves : (n t : ℕ) → IsSolid p t → IsFree p t → holds_undroppable q n (m.types t) ≡ false
    free_moves zero t solid free = fast_free t solid free
    free_moves (suc n) t solid free =
        ap₂ (λ x y. x || y) (fast_free t solid free)
        (ap (list_any (λ ty. holds_undroppable q n (part_type ty))) (owned_move t solid) ∙
        none_of (λ ty. holds_undroppable q n (part_type ty)) (moved_ty m) (owning_parts p t)
        (λ ty i. let h = part_of t free ty i in ap (holds_undroppable q n) h.2 ∙ free_moves n (part_type ty) h.0 h.3))

    pub still_drops : (t : ℕ) → is_droppable_struct p t ≡ true → is_droppable_struct q (m.types t) ≡ true
    still_drops t e =
        let both = and_both (is_struct (decl_of p t)) (not (holds_undroppable p (length p.types) t)) e in
        let s = struct_there p t both.0 in
        ap₂ (λ x y. is_struct x && not y) (keeps.structs t s.decl s.is) (free_moves (length q.types) t (inl s) (record { is = not_true (holds_undroppable p (length p.types) t) both.1 }))

    pub still_drops_value : (ty : Ty) → is_droppable p ty ≡ true → is_droppable q (moved_ty m ty) ≡ true
    still_drops_value (owning S t args) e =
        let both = and_both (is_droppable_struct p t) (lies_within S (release_set p t)) e in
        let s = struct_there p t (and_both (is_struct (decl_of p t)) (not (holds_undroppable p (length p.types) t)) both.0).0 in
        ap₂ (λ x y. x && y) (still_drops t both.0) (ap (lies_within S) (same_release m p q keeps t s) ∙ both.1)
    still_drops_value (owning_variant t args) e =
        let both = and_both (is_variant (decl_of p t) && not (is_keyed p t)) (not (holds_undroppable p (length p.types) t)) e in
        let front = and_both (is_variant (decl_of p t)) (not (is_keyed p t)) both.0 in
        let s = variant_there p t front.0 in
        ap₂ (λ (x : Bool) y. x && not y)
        (ap₂ (λ x y. is_variant x && not y) (keeps.variants t s.decl s.is) (keyed_there t s ∙ not_true (is_keyed p t) front.1))
        (free_moves (length q.types) t (inr s) (record { is = not_true (holds_undroppable p (length p.types) t) both.1 }))
    still_drops_value int e = e
    still_drops_value bool e = e
    still_drops_value (tracked k t args) e = e
    still_drops_value (guarded k t args) e = e
    still_drops_value (variant t args) e = e
