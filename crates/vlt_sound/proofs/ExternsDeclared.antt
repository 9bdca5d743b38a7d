-- What is known of declared types that an external's result is of.
use Rattle.std.proofs.Common.{◌≡◌, ⊎_elim, ℕ, ◌≤◌, true, false, not, if◌then◌else◌, IsTrue, List, [], ◌∷◌, ◌++◌, map, length, Option, Some, None, refl, sym, ap, ◌∙◌, subst, slice_get}
use Rattle.std.proofs.lemmas.Option.{none-some, slice_get_cases, slice_get_past}
use Rattle.std.specs.List.{flat_map}
use Rattle.vlt_core.specs.Core.{States, owning, CaseKey, CaseDecl, TypeDecl, an_abstract, a_struct, a_variant, Header, Program}
use Rattle.vlt_core.specs.Lookups.{all_states, fields_in, fields_of, cases_in, case_at}
use Rattle.vlt_core.specs.Types.{decl_of, lies_within, is_struct, is_abstract, is_variant, header_in, header_of}
use Rattle.vlt_core.specs.KindedHeads.{Rules, unless, when_some, are_apart, states_broken, part_broken, header_broken, is_payload_type, case_key_broken, shape_broken}
use Rattle.vlt_core.specs.declared.rules.TheConstants as rule
use Rattle.vlt_core.specs.Kinded.{IsKinded}
use Rattle.vlt_sound_worlds.specs.Fits.{option_join, header_type}
use Rattle.vlt_sound_worlds.specs.Limited.{IsNarrow}
use Rattle.vlt_sound_worlds.proofs.Empty.{both_empty, unless_so, within_is}
use Rattle.vlt_sound.proofs.Rows.{flat_at, type_kinded}
use Rattle.vlt_sound.proofs.Decls.{key_at, has_sets, case_row}
use Rattle.vlt_sound_calls.specs.ReturnHeads.{IsHostType}

-- a type that isn't a struct has no fields
pub bare : (p : Program) (t : ℕ) → is_struct (decl_of p t) ≡ false → fields_of p t ≡ []
bare p t e = by (decl_of p t) e
  where
    by : (o : Option TypeDecl) → is_struct o ≡ false → fields_in o ≡ []
    by None e = refl
    by (Some (an_abstract name set)) e = refl
    by (Some (a_struct d)) e = cc
    by (Some (a_variant d)) e = refl

pub abstract_bare : (o : Option TypeDecl) → is_abstract o ≡ true → (is_struct o ≡ false) × (is_variant o ≡ false)
abstract_bare None e = cc
abstract_bare (Some (an_abstract name set)) e = (refl, refl)
abstract_bare (Some (a_struct d)) e = cc
abstract_bare (Some (a_variant d)) e = cc

module _ (p : Program) (kinded : IsKinded p) where
  -- states that break no rule are those of the type
  pub states_within : (t : ℕ) (states : States) → IsNarrow states → states_broken p t states ≡ [] → (s : ℕ) →
      IsTrue (states s) → IsTrue (all_states p t s)
  states_within t states narrow e =
      let q : unless (lies_within states (all_states p t)) rule.NOT_A_STATE ≡ [] =
      subst (λ b. (if b then unless (lies_within states (all_states p t)) rule.NOT_A_STATE else []) ≡ []) (has_sets p kinded t) e in
      (within_is states (all_states p t) narrow (unless_so (lies_within states (all_states p t)) rule.NOT_A_STATE q)).each

  -- an owning type that is neither a struct's nor a variant's
  pub host_type : (t : ℕ) (states : States) (args : List ℕ) → IsNarrow states → is_struct (decl_of p t) ≡ false →
      is_variant (decl_of p t) ≡ false → shape_broken p (owning states t args) ≡ [] → IsHostType p states t
  host_type t states args narrow no_struct no_variant e = record {
    bare = bare p t no_struct;
    states = states_within t states narrow
        (subst (λ b. (if b then [] else states_broken p t states) ≡ []) no_variant
        (both_empty (unless (not (is_variant (decl_of p t))) rule.WRONG_PREFIX)
        (if is_variant (decl_of p t) then [] else states_broken p t states) e).1);
  }

  -- the types of a header are there
  header_row : (t c : ℕ) (d : CaseDecl) → case_at p t c ≡ Some d → header_broken p (header_of p t) ≡ []
  header_row t c d at = by (decl_of p t) refl at
    where
      by : (o : Option TypeDecl) → decl_of p t ≡ o → slice_get (cases_in o) c ≡ Some d → header_broken p (header_of p t) ≡ []
      by None is at = absurd (none-some d at)
      by (Some (an_abstract name set)) is at = absurd (none-some d at)
      by (Some (a_struct s)) is at = absurd (none-some d at)
      by (Some (a_variant v)) is at =
          subst (λ hs. header_broken p hs ≡ []) (ap header_in (sym is)) (type_kinded p kinded t (a_variant v) is).0

  abbrev type_there : Option TypeDecl → Rules
  type_there None = rule.NOT_A_TYPE ∷ []
  type_there d = unless (not (is_variant d)) rule.HEADER_TYPE

  header_there : (header : Header) (i u : ℕ) → header_broken p header ≡ [] → slice_get header i ≡ Some (Some u) →
      (d : TypeDecl) × (decl_of p u ≡ Some d)
  header_there header i u e at = by (decl_of p u) refl row
    where
      row : type_there (decl_of p u) ≡ []
      row = flat_at (λ h. when_some h (λ t. type_there (decl_of p t))) header i (Some u) e at

      by : (o : Option TypeDecl) → decl_of p u ≡ o → type_there o ≡ [] → (d : TypeDecl) × (decl_of p u ≡ Some d)
      by None is e = cc
      by (Some d) is e = (d, is)

  -- a key that a case lists, its type, and its states
  pub record ListedKey (t : ℕ) (k : CaseKey) : Type 0 where
    pub of : ℕ
    pub header : header_type p t k.position ≡ Some of
    pub states : states_broken p of k.states ≡ []

  pub listed_key : (t c i : ℕ) (d : CaseDecl) (k : CaseKey) → case_at p t c ≡ Some d → slice_get d.keys i ≡ Some k →
      ListedKey t k
  listed_key t c i d k is at =
      let A = flat_map (λ ty. part_broken p (header_of p t) ty ++ unless (is_payload_type ty) rule.PAYLOAD_TYPE) d.payload in
      let B = unless (are_apart (map (λ k. k.position) d.keys)) rule.CASE_KEY in
      let C = flat_map (case_key_broken p (header_of p t)) d.keys in
      let here : key_at p k (slice_get (header_of p t) k.position) ≡ [] =
      flat_at (case_key_broken p (header_of p t)) d.keys i k (both_empty (A ++ B) C (case_row p kinded t c d is)).1 at in
      by (slice_get (header_of p t) k.position) refl here
    where
      by : (o : Option (Option ℕ)) → slice_get (header_of p t) k.position ≡ o → key_at p k o ≡ [] → ListedKey t k
      by None at e = cc
      by (Some None) at e = cc
      by (Some (Some u)) at e =
          let d' = header_there (header_of p t) k.position u (header_row t c d is) at in
          record {
            of = u;
            header = ap option_join at;
            states = subst (λ o. when_some o (λ d. states_broken p u k.states) ≡ []) d'.1 e;
          }

-- an argument stands for a key of a header that has a type
pub argument_there : (p : Program) (t : ℕ) (args : List ℕ) (i u : ℕ) → length args ≡ length (header_of p t) →
    header_type p t i ≡ Some u → (k : ℕ) × (slice_get args i ≡ Some k)
argument_there p t args i u count is = ⊎_elim
    (λ at. (at.0, at.2))
    (λ past. absurd (none-some u (sym (none past.0) ∙ is)))
    (slice_get_cases args i).1
  where
    none : length args ≤ i → header_type p t i ≡ None
    none le = ap option_join (slice_get_past (header_of p t) i (subst (λ n. n ≤ i) count le))
