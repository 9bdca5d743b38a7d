-- What a head's places tell of its keys.
use Rattle.std.proofs.Common.{◌≡◌, ℕ, Bool, true, false, true≢false, List, [], ◌∷◌, Option, Some, None, ◌⊎◌, inl, inr, ⊎_elim, refl, sym, ap, ◌∙◌, subst, if◌then◌else◌, ◌==◌}
use Rattle.std.specs.Str.{bytes_eq}
use Rattle.std.proofs.lemmas.Bool.{eqb-true, not-false}
use Rattle.vlt_syntax.specs.Lists.{Each}
use Rattle.vlt_kinds_types.specs.declared.shapes.Wanted.{Wanted}
use Rattle.vlt_kinds_types.specs.declared.shapes.Wanted.TheVariants as wanted
use Rattle.vlt_kinds_types.specs.Types.{KeyUse}
use Rattle.vlt_kinds_heads.specs.Keys.{Keys, facts_of, note, typed_first, with_typing, after_typing, after_use, gives_type, after_fresh, fresh_typed, parameters_typed}
use Rattle.vlt_kinds_heads.specs.Heads.{type_rule, clash_with, clash, clashes}
use Rattle.vlt_kinds_heads.specs.declared.facts.Facts.{Facts}
use Rattle.vlt_kinds_heads.specs.declared.facts.Typing.{Typing}
use Rattle.vlt_resolve_laws.proofs.OfKindsLaws.Empty.{no_left, no_right, not_broken}
use Rattle.vlt_resolve_laws.proofs.OfKindsLaws.Tables.{same_name, IsIn, facts_noted, stays_in, is_noted, in_or_noted, IsField, field_stays, IsTable, table_noted}

-- some of the list is so
abbrev pub SomeOf : {A : Type 0} → (A → Type 0) → List A → Type 0
SomeOf P [] = ⊥
SomeOf P (x ∷ xs) = P x ⊎ SomeOf P xs

-- ---- notes, one after another

module _ {A : Type 0} (name : A → List ℕ) (change : A → Facts → Facts) where
  abbrev pub notes : Keys → List A → Keys
  notes keys [] = keys
  notes keys (x ∷ xs) = notes (note keys (name x) (change x)) xs

  pub notes_table : ((x : A) (f : Facts) → (change x f).number ≡ f.number) → (keys : Keys) (xs : List A) → IsTable 0 keys → IsTable 0 (notes keys xs)
  notes_table keeps keys [] table = table
  notes_table keeps keys (x ∷ xs) table = notes_table keeps (note keys (name x) (change x)) xs (table_noted keys (name x) (change x) (keeps x) table)

  pub notes_keep : (keys : Keys) (xs : List A) (j : List ℕ) → IsIn keys j → IsIn (notes keys xs) j
  notes_keep keys [] j x = x
  notes_keep keys (x ∷ xs) j is = notes_keep (note keys (name x) (change x)) xs j (stays_in keys j (name x) (change x) is)

  pub notes_add : (keys : Keys) (xs : List A) → Each (λ x. IsIn (notes keys xs) (name x)) xs
  notes_add keys [] = tt
  notes_add keys (x ∷ xs) = (notes_keep (note keys (name x) (change x)) xs (name x) (is_noted keys (name x) (change x)), notes_add (note keys (name x) (change x)) xs)

  -- a key comes from somewhere
  pub notes_from : (keys : Keys) (xs : List A) (j : List ℕ) → IsIn (notes keys xs) j → (IsIn keys j) ⊎ SomeOf (λ x. j ≡ name x) xs
  notes_from keys [] j is = inl is
  notes_from keys (x ∷ xs) j is = ⊎_elim (λ here. by (bytes_eq j (name x)) refl here) (λ more. inr (inr more)) (notes_from (note keys (name x) (change x)) xs j is)
    where
      by : (b : Bool) → bytes_eq j (name x) ≡ b → IsIn (note keys (name x) (change x)) j → (IsIn keys j) ⊎ SomeOf (λ x. j ≡ name x) (x ∷ xs)
      by true same here = inr (inl (same_name j (name x) same))
      by false same here = inl (in_or_noted keys j (name x) (change x) here same)

  module _ (field : Facts → Bool) (constant : IsField Bool field) where
    -- a fact that is so stays so
    pub step_sticks : ((x : A) (f : Facts) → field f ≡ true → field (change x f) ≡ true) → (keys : Keys) (x : A) (j : List ℕ) → field (facts_of keys j) ≡ true
        → field (facts_of (note keys (name x) (change x)) j) ≡ true
    step_sticks keeps keys x j so = by (bytes_eq j (name x)) refl
      where
        by : (b : Bool) → bytes_eq j (name x) ≡ b → field (facts_of (note keys (name x) (change x)) j) ≡ true
        by true same = subst (λ k. field (facts_of (note keys (name x) (change x)) k) ≡ true) (sym (same_name j (name x) same))
            (ap field (facts_noted keys (name x) (change x)) ∙ keeps x (facts_of keys (name x)) (subst (λ k. field (facts_of keys k) ≡ true) (same_name j (name x) same) so))
        by false same = field_stays field constant keys j (name x) (change x) same ∙ so

    pub sticks : ((x : A) (f : Facts) → field f ≡ true → field (change x f) ≡ true) → (keys : Keys) (xs : List A) (j : List ℕ) → field (facts_of keys j) ≡ true
        → field (facts_of (notes keys xs) j) ≡ true
    sticks keeps keys [] j so = so
    sticks keeps keys (x ∷ xs) j so = sticks keeps (note keys (name x) (change x)) xs j (step_sticks keeps keys x j so)

    pub tells : (P : A → Type 0) → ((x : A) (f : Facts) → P x → field (change x f) ≡ true) → ((x : A) (f : Facts) → field f ≡ true → field (change x f) ≡ true)
        → (keys : Keys) (xs : List A) → Each (λ x. P x → field (facts_of (notes keys xs) (name x)) ≡ true) xs
    tells P sets keeps keys [] = tt
    tells P sets keeps keys (x ∷ xs) = (
      λ p. sticks keeps (note keys (name x) (change x)) xs (name x) (ap field (facts_noted keys (name x) (change x)) ∙ sets x (facts_of keys (name x)) p),
      tells P sets keeps (note keys (name x) (change x)) xs,
    )

    -- a fact comes from somewhere
    pub told : (P : A → Type 0) → ((x : A) (f : Facts) → field (change x f) ≡ true → (field f ≡ true) ⊎ P x) → (keys : Keys) (xs : List A) (j : List ℕ)
        → field (facts_of (notes keys xs) j) ≡ true → (field (facts_of keys j) ≡ true) ⊎ SomeOf (λ x. (j ≡ name x) × P x) xs
    told P why keys [] j so = inl so
    told P why keys (x ∷ xs) j so = ⊎_elim (λ here. by (bytes_eq j (name x)) refl here) (λ more. inr (inr more)) (told P why (note keys (name x) (change x)) xs j so)
      where
        by : (b : Bool) → bytes_eq j (name x) ≡ b → field (facts_of (note keys (name x) (change x)) j) ≡ true → (field (facts_of keys j) ≡ true) ⊎ SomeOf (λ x. (j ≡ name x) × P x) (x ∷ xs)
        by true same so =
            let is = same_name j (name x) same in
            ⊎_elim (λ before. inl (subst (λ k. field (facts_of keys k) ≡ true) (sym is) before)) (λ p. inr (inl (is, p)))
            (why x (facts_of keys (name x)) (sym (ap field (facts_noted keys (name x) (change x))) ∙ subst (λ k. field (facts_of (note keys (name x) (change x)) k) ≡ true) is so))
        by false same so = inl (sym (field_stays field constant keys j (name x) (change x) same) ∙ so)

-- ---- typings

abbrev pub typing_at : Keys → List ℕ → Option Typing
typing_at keys k = (facts_of keys k).typing

module _ (keys : Keys) (k : List ℕ) (t at : ℕ) where
  typing_noted : typing_at (note keys k (with_typing t at)) k ≡ typed_first (typing_at keys k) t at
  typing_noted = ap (λ f. f.typing) (facts_noted keys k (with_typing t at))

  typing_other : (j : List ℕ) → bytes_eq j k ≡ false → typing_at (note keys k (with_typing t at)) j ≡ typing_at keys j
  typing_other j apart = field_stays (λ f. f.typing) (λ m n. refl) keys j k (with_typing t at) apart

-- a type that is given stays
use_keeps : (keys : Keys) (w : Wanted) (k : List ℕ) (at : ℕ) (j : List ℕ) (had : Typing) → typing_at keys j ≡ Some had → typing_at (after_typing keys w k at) j ≡ Some had
use_keeps keys wanted.Any k at j had is = is
use_keeps keys wanted.Unknown k at j had is = is
use_keeps keys (wanted.OfType t) k at j had is = by (bytes_eq j k) refl
  where
    by : (b : Bool) → bytes_eq j k ≡ b → typing_at (note keys k (with_typing t at)) j ≡ Some had
    by true same = subst (λ i. typing_at (note keys k (with_typing t at)) i ≡ Some had) (sym (same_name j k same))
        (typing_noted keys k t at ∙ ap (λ o. typed_first o t at) (subst (λ i. typing_at keys i ≡ Some had) (same_name j k same) is))
    by false same = typing_other keys k t at j same ∙ is

pub parameters_keep : (keys : Keys) (us : List KeyUse) (j : List ℕ) (had : Typing) → typing_at keys j ≡ Some had → typing_at (parameters_typed keys us) j ≡ Some had
parameters_keep keys [] j had is = is
parameters_keep keys (u ∷ us) j had is = parameters_keep (after_use keys u) us j had (use_keeps keys u.wanted u.key u.at j had is)

-- the key's object is of this type
abbrev pub IsOfType : Keys → List ℕ → (type : ℕ) → Type 0
IsOfType keys k t = (had : Typing) × (typing_at keys k ≡ Some had) × (had.type_id ≡ t)

abbrev pub IsAsWanted : Keys → List ℕ → Wanted → Type 0
IsAsWanted keys k (wanted.OfType t) = IsOfType keys k t
IsAsWanted keys k _ = Unit {0}

-- places that don't clash say what is so in the end
pub unclashed : (keys : Keys) (us : List KeyUse) → clashes keys us ≡ [] → Each (λ u. IsAsWanted (parameters_typed keys us) u.key u.wanted) us
unfolding clash
unclashed keys [] none = tt
unclashed keys (u ∷ us) none =
    (by u.wanted refl (no_left (clash keys u) _ none), unclashed (after_use keys u) us (no_right (clash keys u) _ none))
  where
    kept : (t : ℕ) → IsOfType (after_use keys u) u.key t → IsOfType (parameters_typed (after_use keys u) us) u.key t
    kept t x = (x.0, parameters_keep (after_use keys u) us u.key x.0 x.1, x.2)

    typed : (t : ℕ) → u.wanted ≡ wanted.OfType t → (o : Option Typing) → typing_at keys u.key ≡ o → clash_with o (wanted.OfType t) u.tracked u.at ≡ [] → IsOfType (after_use keys u) u.key t
    typed t is None had none =
        (record { type_id = t; at = u.at }, ap (λ w. typing_at (after_typing keys w u.key u.at) u.key) is ∙ (typing_noted keys u.key t u.at ∙ ap (λ o. typed_first o t u.at) had), refl)
    typed t is (Some x) had none =
        (x, use_keeps keys u.wanted u.key u.at u.key x had, eqb-true x.type_id t (not-false (x.type_id == t) (not_broken _ (type_rule u.tracked) u.at none)))

    by : (w : Wanted) → u.wanted ≡ w → clash keys u ≡ [] → IsAsWanted (parameters_typed (after_use keys u) us) u.key w
    by wanted.Any is none = tt
    by wanted.Unknown is none = tt
    by (wanted.OfType t) is none = kept t (typed t is (typing_at keys u.key) refl (clear t is none))
      where
        clear : (t : ℕ) → u.wanted ≡ wanted.OfType t → clash keys u ≡ [] → clash_with (typing_at keys u.key) (wanted.OfType t) u.tracked u.at ≡ []
        clear t is none = sym (ap (λ w. clash_with (typing_at keys u.key) w u.tracked u.at) is) ∙ none

-- a type comes from a place that says one
abbrev pub SaysType : Wanted → Type 0
SaysType (wanted.OfType t) = Unit {0}
SaysType _ = ⊥

use_from : (keys : Keys) (w : Wanted) (k : List ℕ) (at : ℕ) (j : List ℕ) (had : Typing) → typing_at (after_typing keys w k at) j ≡ Some had
    → (typing_at keys j ≡ Some had) ⊎ ((j ≡ k) × SaysType w)
use_from keys wanted.Any k at j had is = inl is
use_from keys wanted.Unknown k at j had is = inl is
use_from keys (wanted.OfType t) k at j had is = by (bytes_eq j k) refl
  where
    by : (b : Bool) → bytes_eq j k ≡ b → (typing_at keys j ≡ Some had) ⊎ ((j ≡ k) × SaysType (wanted.OfType t))
    by true same = inr (same_name j k same, tt)
    by false same = inl (sym (typing_other keys k t at j same) ∙ is)

pub parameters_from : (keys : Keys) (us : List KeyUse) (j : List ℕ) (had : Typing) → typing_at (parameters_typed keys us) j ≡ Some had
    → (typing_at keys j ≡ Some had) ⊎ SomeOf (λ u. (j ≡ u.key) × SaysType u.wanted) us
parameters_from keys [] j had is = inl is
parameters_from keys (u ∷ us) j had is =
    ⊎_elim (λ here. ⊎_elim (λ old. inl old) (λ new. inr (inl new)) (use_from keys u.wanted u.key u.at j had here)) (λ more. inr (inr more))
    (parameters_from (after_use keys u) us j had is)

-- ---- what typing leaves as it is

module _ {B : Type 0} (field : Facts → B) (constant : IsField B field) (blind : (t at : ℕ) (f : Facts) → field (with_typing t at f) ≡ field f) where
  pub use_blind : (keys : Keys) (w : Wanted) (k : List ℕ) (at : ℕ) (j : List ℕ) → field (facts_of (after_typing keys w k at) j) ≡ field (facts_of keys j)
  use_blind keys wanted.Any k at j = refl
  use_blind keys wanted.Unknown k at j = refl
  use_blind keys (wanted.OfType t) k at j = by (bytes_eq j k) refl
    where
      by : (b : Bool) → bytes_eq j k ≡ b → field (facts_of (note keys k (with_typing t at)) j) ≡ field (facts_of keys j)
      by true same = subst (λ i. field (facts_of (note keys k (with_typing t at)) i) ≡ field (facts_of keys i)) (sym (same_name j k same))
          (ap field (facts_noted keys k (with_typing t at)) ∙ blind t at (facts_of keys k))
      by false same = field_stays field constant keys j k (with_typing t at) same

  pub parameters_blind : (keys : Keys) (us : List KeyUse) (j : List ℕ) → field (facts_of (parameters_typed keys us) j) ≡ field (facts_of keys j)
  parameters_blind keys [] j = refl
  parameters_blind keys (u ∷ us) j = parameters_blind (after_use keys u) us j ∙ use_blind keys u.wanted u.key u.at j

  pub fresh_blind : (keys : Keys) (us : List KeyUse) (j : List ℕ) → field (facts_of (fresh_typed keys us) j) ≡ field (facts_of keys j)
  fresh_blind keys [] j = refl
  fresh_blind keys (u ∷ us) j = fresh_blind (after_fresh keys u) us j ∙ by (gives_type keys u)
    where
      by : (b : Bool) → field (facts_of (if b then after_use keys u else keys) j) ≡ field (facts_of keys j)
      by true = use_blind keys u.wanted u.key u.at j
      by false = refl

-- only a fresh key has a type from the result
pub fresh_from : (keys : Keys) (us : List KeyUse) (j : List ℕ) (had : Typing) → typing_at (fresh_typed keys us) j ≡ Some had
    → (typing_at keys j ≡ Some had) ⊎ ((facts_of keys j).is_fresh ≡ true)
fresh_from keys [] j had is = inl is
fresh_from keys (u ∷ us) j had is =
    ⊎_elim (λ here. by (gives_type keys u) refl here) (λ new. inr (sym (still (gives_type keys u)) ∙ new)) (fresh_from (after_fresh keys u) us j had is)
  where
    still : (b : Bool) → (facts_of (if b then after_use keys u else keys) j).is_fresh ≡ (facts_of keys j).is_fresh
    still true = use_blind (λ f. f.is_fresh) (λ m n. refl) (λ t at f. refl) keys u.wanted u.key u.at j
    still false = refl

    gives : (b : Bool) → (if b then (facts_of keys u.key).is_fresh else false) ≡ true → (facts_of keys u.key).is_fresh ≡ true
    gives true e = e
    gives false e = absurd (true≢false (sym e))

    by : (b : Bool) → gives_type keys u ≡ b → typing_at (if b then after_use keys u else keys) j ≡ Some had → (typing_at keys j ≡ Some had) ⊎ ((facts_of keys j).is_fresh ≡ true)
    by true fresh is = ⊎_elim (λ old. inl old) (λ new. inr (subst (λ k. (facts_of keys k).is_fresh ≡ true) (sym new.0) (gives u.tracked fresh))) (use_from keys u.wanted u.key u.at j had is)
    by false fresh is = inl is

-- ---- tables that are typed

use_table : (keys : Keys) (w : Wanted) (k : List ℕ) (at : ℕ) → IsTable 0 keys → IsTable 0 (after_typing keys w k at)
use_table keys wanted.Any k at table = table
use_table keys wanted.Unknown k at table = table
use_table keys (wanted.OfType t) k at table = table_noted keys k (with_typing t at) (λ f. refl) table

pub parameters_table : (keys : Keys) (us : List KeyUse) → IsTable 0 keys → IsTable 0 (parameters_typed keys us)
parameters_table keys [] table = table
parameters_table keys (u ∷ us) table = parameters_table (after_use keys u) us (use_table keys u.wanted u.key u.at table)

pub fresh_table : (keys : Keys) (us : List KeyUse) → IsTable 0 keys → IsTable 0 (fresh_typed keys us)
fresh_table keys [] table = table
fresh_table keys (u ∷ us) table = fresh_table (after_fresh keys u) us (by (gives_type keys u))
  where
    by : (b : Bool) → IsTable 0 (if b then after_use keys u else keys)
    by true = use_table keys u.wanted u.key u.at table
    by false = table

use_in : (keys : Keys) (w : Wanted) (k : List ℕ) (at : ℕ) (j : List ℕ) → IsIn keys j → IsIn (after_typing keys w k at) j
use_in keys wanted.Any k at j x = x
use_in keys wanted.Unknown k at j x = x
use_in keys (wanted.OfType t) k at j x = stays_in keys j k (with_typing t at) x

pub parameters_in : (keys : Keys) (us : List KeyUse) (j : List ℕ) → IsIn keys j → IsIn (parameters_typed keys us) j
parameters_in keys [] j x = x
parameters_in keys (u ∷ us) j x = parameters_in (after_use keys u) us j (use_in keys u.wanted u.key u.at j x)

pub fresh_in : (keys : Keys) (us : List KeyUse) (j : List ℕ) → IsIn keys j → IsIn (fresh_typed keys us) j
fresh_in keys [] j x = x
fresh_in keys (u ∷ us) j x = fresh_in (after_fresh keys u) us j (by (gives_type keys u))
  where
    by : (b : Bool) → IsIn (if b then after_use keys u else keys) j
    by true = use_in keys u.wanted u.key u.at j x
    by false = x

-- a key that is typed comes from before, or from a place
pub parameters_in_from : (keys : Keys) (us : List KeyUse) (j : List ℕ) → IsIn (parameters_typed keys us) j → (IsIn keys j) ⊎ SomeOf (λ u. j ≡ u.key) us
parameters_in_from keys [] j x = inl x
parameters_in_from keys (u ∷ us) j x = ⊎_elim (λ here. by u.wanted here) (λ more. inr (inr more)) (parameters_in_from (after_use keys u) us j x)
  where
    at : (t : ℕ) (b : Bool) → bytes_eq j u.key ≡ b → IsIn (note keys u.key (with_typing t u.at)) j → (IsIn keys j) ⊎ SomeOf (λ u. j ≡ u.key) (u ∷ us)
    at t true same x = inr (inl (same_name j u.key same))
    at t false same x = inl (in_or_noted keys j u.key (with_typing t u.at) x same)

    by : (w : Wanted) → IsIn (after_typing keys w u.key u.at) j → (IsIn keys j) ⊎ SomeOf (λ u. j ≡ u.key) (u ∷ us)
    by wanted.Any x = inl x
    by wanted.Unknown x = inl x
    by (wanted.OfType t) x = at t (bytes_eq j u.key) refl x

pub fresh_in_from : (keys : Keys) (us : List KeyUse) (j : List ℕ) → IsIn (fresh_typed keys us) j → (IsIn keys j) ⊎ SomeOf (λ u. j ≡ u.key) us
fresh_in_from keys [] j x = inl x
fresh_in_from keys (u ∷ us) j x = ⊎_elim (λ here. by (gives_type keys u) here) (λ more. inr (inr more)) (fresh_in_from (after_fresh keys u) us j x)
  where
    one : (IsIn keys j) ⊎ SomeOf (λ u. j ≡ u.key) (u ∷ []) → (IsIn keys j) ⊎ SomeOf (λ u. j ≡ u.key) (u ∷ us)
    one x = ⊎_elim (λ a. inl a) (λ b. inr (⊎_elim (λ c. inl c) (λ d. absurd d) b)) x

    by : (b : Bool) → IsIn (if b then after_use keys u else keys) j → (IsIn keys j) ⊎ SomeOf (λ u. j ≡ u.key) (u ∷ us)
    by true x = one (parameters_in_from keys (u ∷ []) j x)
    by false x = inl x
