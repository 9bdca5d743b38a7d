-- Sets of states that are listed lie within those of their type, and have a state.
use Rattle.std.proofs.Common.{◌≡◌, ℕ, ◌<◌, ◌≤◌, nat_lt, Bool, true, false, true≢false, ◌||◌, not, ◌==◌, if◌then◌else◌, List, [], ◌∷◌, ◌++◌, length, Option, Some, None, slice_get, unwrap_or, ⊎_elim, refl, sym, ◌∙◌, arith}
use Rattle.std.specs.List.{list_all}
use Rattle.std.proofs.lemmas.Bool.{eqb-true, lt-ltb, or_cases, or_left, eq-eqb}
use Rattle.std.proofs.lemmas.List.Folds.{list_any-append}
use Rattle.std.proofs.lemmas.Option.{cond_some, slice_get_cases}
use Rattle.vlt_syntax.specs.Tree as s
use Rattle.vlt_core.specs.Core.{States, SetDecl, TypeDecl, Program}
use Rattle.vlt_core.specs.Lookups.{set_in, state_count, all_states}
use Rattle.vlt_core.specs.Types.{decl_of, state_numbers, lies_within}
use Rattle.vlt_core.specs.KindedHeads.{unless, has_set, states_broken, state_broken}
use Rattle.vlt_core.specs.declared.rules.TheConstants as rule
use Rattle.vlt_kinds_types.specs.declared.shapes.Shape.{Shape}
use Rattle.vlt_kinds_types.specs.Files.{File, then_with, states_in, state_names, state_number, number_of}
use Rattle.vlt_kinds_types.specs.Types.{is_listed, with_listed, names_in_states, known_states, state_count_in, listed_numbers, set_of_numbers, states_listed}
use Rattle.vlt_resolve_laws.specs.KindsLaws.Shapes.{core_shape, Describes}
use Rattle.vlt_resolve_laws.specs.KindsLaws.Declared.{IsFilled}
use Rattle.vlt_resolve_laws.proofs.OfKindsLaws.Empty.{holds}

pub passes_all : {A : Type 0} (test : A → Bool) (xs : List A) → ((x : A) → test x ≡ true) → list_all test xs ≡ true
passes_all test [] each = refl
passes_all test (x ∷ xs) each = rw (each x) (passes_all test xs each)

pub lies_within_by : (a b : States) → ((i : ℕ) → a i ≡ true → b i ≡ true) → lies_within a b ≡ true
lies_within_by a b each = passes_all (λ i. not (a i) || b i) state_numbers (λ i. by (a i) (b i) (each i))
  where
    by : (x y : Bool) → (x ≡ true → y ≡ true) → (not x || y) ≡ true
    by true y go = go refl
    by false y go = refl

number_below : (known : List (List ℕ)) (n : s.Name) (i : ℕ) → state_number known n ≡ Some i → i < length known
number_below known n i e = let c = cond_some _ _ i e in search (c, arith)

listed_below : (known : List (List ℕ)) (seen : List ℕ) (ns : List s.Name) → ((j : ℕ) → is_listed seen j ≡ true → j < length known)
    → (j : ℕ) → is_listed (listed_numbers known seen ns) j ≡ true → j < length known
listed_below known seen [] below j there = below j there
listed_below known seen (n ∷ ns) below j there =
    listed_below known (with_listed seen (state_number known n)) ns (by (state_number known n) refl) j there
  where
    one : (i : ℕ) → i < length known → (b : Bool) (k : ℕ) → is_listed (if b then seen else seen ++ i ∷ []) k ≡ true → k < length known
    one i less true k there = below k there
    one i less false k there =
        ⊎_elim (λ old. below k old) (λ new. last k new) (or_cases (is_listed seen k) _ (sym (list_any-append (λ l. k == l) seen (i ∷ [])) ∙ there))
      where
        last : (k : ℕ) → ((k == i) || false) ≡ true → k < length known
        last k new = ⊎_elim (λ same. rw (eqb-true k i same) less) (λ no. absurd (true≢false (sym no))) (or_cases (k == i) false new)

    by : (o : Option ℕ) → state_number known n ≡ o → (k : ℕ) → is_listed (with_listed seen o) k ≡ true → k < length known
    by None is k there = below k there
    by (Some i) is k there = one i (number_below known n i is) (is_listed seen i) k there

counted_below : (known : Option (List (List ℕ))) (i : ℕ) → i < length (known_states known) → nat_lt i (state_count_in known) ≡ true
counted_below None i less = absurd (omega (arith, less))
counted_below (Some names) i less = lt-ltb i (length names) less

-- a state that is listed is one of the known ones
pub states_fit : (known : Option (List (List ℕ))) (ss : Option s.States) → 1 ≤ state_count_in known → (i : ℕ) → states_listed known ss i ≡ true
    → nat_lt i (state_count_in known) ≡ true
states_fit known None some i there = there
states_fit known (Some ss) some i there =
    by (listed_numbers (known_states known) [] (names_in_states ss)) (listed_below (known_states known) [] (names_in_states ss) (λ j no. absurd (true≢false (sym no)))) there
  where
    by : (ns : List ℕ) → ((j : ℕ) → is_listed ns j ≡ true → j < length (known_states known)) → set_of_numbers ns i ≡ true → nat_lt i (state_count_in known) ≡ true
    by [] below there = lt-ltb i (state_count_in known) (omega (arith, some, eqb-true i 0 there))
    by (n ∷ ns) below there = counted_below known i (below i there)

-- a state that is named is one of them too; another name stands for the first
number_fits : (known : Option (List (List ℕ))) (n : s.Name) → 1 ≤ state_count_in known → nat_lt (number_of (known_states known) n) (state_count_in known) ≡ true
number_fits known n some = by (state_number (known_states known) n) refl
  where
    by : (o : Option ℕ) → state_number (known_states known) n ≡ o → nat_lt (unwrap_or o 0) (state_count_in known) ≡ true
    by None is = lt-ltb 0 (state_count_in known) some
    by (Some i) is = counted_below known i (number_below (known_states known) n i is)

-- some state is listed
pub a_state : (known : Option (List (List ℕ))) (ss : Option s.States) → 1 ≤ state_count_in known → (i : ℕ) × (states_listed known ss i ≡ true)
a_state known None some = (0, lt-ltb 0 (state_count_in known) some)
a_state known (Some ss) some = by (listed_numbers (known_states known) [] (names_in_states ss))
  where
    by : (ns : List ℕ) → (i : ℕ) × (set_of_numbers ns i ≡ true)
    by [] = (0, refl)
    by (n ∷ ns) = (n, or_left (n == n) (is_listed ns n) (eq-eqb n n refl))

-- States that are listed have the property: of a type of the file, or where no set is known.
abbrev pub ListedAre : (file : File) → (P : States → Type 0) → Type 0
ListedAre file P = (shape : Option Shape) (ss : Option s.States) → 1 ≤ state_count_in (state_names file shape) → P (states_listed (state_names file shape) ss)

pub listed_filled : (file : File) → ListedAre file IsFilled
listed_filled file shape ss some = a_state (state_names file shape) ss some

-- ---- the states of a declared type

module _ (file : File) (p : Program) (describes : Describes file p) where
  abbrev names_of_set : Option ℕ → Option (List (List ℕ))
  names_of_set o = then_with o (λ i. states_in (slice_get file.sets i))

  abbrev FitsSet : Option ℕ → Type 0
  FitsSet None = Unit {0}
  FitsSet (Some i) = (d : SetDecl) × (slice_get p.sets i ≡ Some d)

  counted : (t : ℕ) (d : TypeDecl) → decl_of p t ≡ Some d → (o : Option ℕ) → set_in (Some d) ≡ o → FitsSet o → state_count p t ≡ state_count_in (names_of_set o)
  counted t d there None is fits = rw (there, is) refl
  counted t d there (Some i) is fits = rw (there, is, fits.1, ← describes.sets) (rw fits.1 refl)

  fits_set : (t : ℕ) (d : TypeDecl) → decl_of p t ≡ Some d → (o : Option ℕ) → set_in (Some d) ≡ o → FitsSet o
  fits_set t d there None is = tt
  fits_set t d there (Some i) is =
      ⊎_elim (λ found. (found.0, found.2)) (λ past. absurd (omega (arith, past.0, describes.known t i d there is))) (slice_get_cases p.sets i).1

  some_state : (o : Option ℕ) → FitsSet o → 1 ≤ state_count_in (names_of_set o)
  some_state None fits = omega arith
  some_state (Some i) fits = rw (← describes.sets, fits.1) (describes.filled i fits.0 fits.1)

  pub has_state : (t : ℕ) (d : TypeDecl) → decl_of p t ≡ Some d → 1 ≤ state_count_in (state_names file (Some (core_shape d)))
  unfolding state_names
  has_state t d there = some_state (set_in (Some d)) (fits_set t d there (set_in (Some d)) refl)

  pub count_is : (t : ℕ) (d : TypeDecl) → decl_of p t ≡ Some d → state_count p t ≡ state_count_in (state_names file (Some (core_shape d)))
  unfolding state_names
  count_is t d there = counted t d there (set_in (Some d)) refl (fits_set t d there (set_in (Some d)) refl)

  abbrev listed : TypeDecl → Option s.States → States
  listed d ss = states_listed (state_names file (Some (core_shape d))) ss

  -- states that are listed for a type break nothing
  pub states_unbroken : (t : ℕ) (d : TypeDecl) → decl_of p t ≡ Some d → (ss : Option s.States)
      → states_broken p t (states_listed (state_names file (Some (core_shape d))) ss) ≡ []
  states_unbroken t d there ss = by (has_set p (decl_of p t))
    where
      within : lies_within (listed d ss) (all_states p t) ≡ true
      within = lies_within_by (listed d ss) (all_states p t) (λ i e. rw (count_is t d there) (states_fit (state_names file (Some (core_shape d))) ss (has_state t d there) i e))

      by : (b : Bool) → (if b then unless (lies_within (listed d ss) (all_states p t)) rule.NOT_A_STATE else []) ≡ []
      by true = holds (lies_within (listed d ss) (all_states p t)) rule.NOT_A_STATE within
      by false = refl

  abbrev number_at : TypeDecl → s.Name → ℕ
  number_at d n = number_of (known_states (state_names file (Some (core_shape d)))) n

  -- nor does a state that is named
  pub state_unbroken : (t : ℕ) (d : TypeDecl) → decl_of p t ≡ Some d → (n : s.Name)
      → state_broken p t (number_of (known_states (state_names file (Some (core_shape d)))) n) ≡ []
  state_unbroken t d there n = by (has_set p (decl_of p t))
    where
      is_one : all_states p t (number_at d n) ≡ true
      is_one = rw (count_is t d there) (number_fits (state_names file (Some (core_shape d))) n (has_state t d there))

      by : (b : Bool) → (if b then unless (all_states p t (number_at d n)) rule.NOT_A_STATE else []) ≡ []
      by true = holds (all_states p t (number_at d n)) rule.NOT_A_STATE is_one
      by false = refl
