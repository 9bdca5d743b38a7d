-- The keys of a head that is refused nothing.
use Rattle.std.proofs.Common.{◌≡◌, ℕ, Bool, true, false, true≢false, ◌&&◌, ◌||◌, List, [], ◌∷◌, Some, is_some, ◌⊎◌, inl, inr, ⊎_elim, refl, sym, ap, ◌∙◌, subst}
use Rattle.std.proofs.lemmas.Bool.{or_cases, and_parts}
use Rattle.std.proofs.lemmas.Option.{none-some}
use Rattle.vlt_syntax.specs.Tree.{Entry}
use Rattle.vlt_syntax.specs.Lists.{Each}
use Rattle.vlt_core.specs.declared.rules.TheConstants as rule
use Rattle.vlt_kinds_types.specs.Types.{KeyUse}
use Rattle.vlt_kinds_heads.specs.Places.{entry_key, is_fresh}
use Rattle.vlt_kinds_heads.specs.Keys.{Keys, facts_of, note, is_unknown, with_result, with_parameter, with_entry, following_result, after_parameters, following_entry, following_clause, places_after, typed_first, fresh_typed, parameters_typed, typed_keys, keys_after}
use Rattle.vlt_kinds_heads.specs.Heads.{again_refused, entries_again}
use Rattle.vlt_kinds_heads.specs.declared.facts.Facts.{Facts}
use Rattle.vlt_kinds_heads.specs.declared.facts.Typing.{Typing}
use Rattle.vlt_resolve_laws.proofs.OfKindsLaws.Empty.{no_left, no_right, not_broken}
use Rattle.vlt_resolve_laws.proofs.OfKindsLaws.Parts.{each_other}
use Rattle.vlt_resolve_laws.proofs.OfKindsLaws.Tables.{IsIn, facts_noted, IsField, IsTable}
use Rattle.vlt_resolve_laws.proofs.OfKindsLaws.Folds.{SomeOf, notes, notes_table, notes_keep, notes_add, notes_from, step_sticks, sticks, tells, told, typing_at, SaysType, parameters_from, parameters_blind, fresh_blind, fresh_from, parameters_table, fresh_table, parameters_in, fresh_in, parameters_in_from, fresh_in_from}

-- ---- folds as notes

abbrev pub use_key : KeyUse → List ℕ
use_key u = u.key

abbrev pub key_of : Entry → List ℕ
key_of e = (entry_key e).text

result_notes : (keys : Keys) (us : List KeyUse) → following_result keys us ≡ notes use_key with_result keys us
result_notes keys [] = refl
result_notes keys (u ∷ us) = result_notes (note keys u.key (with_result u)) us

parameter_notes : (keys : Keys) (us : List KeyUse) → after_parameters keys us ≡ notes use_key with_parameter keys us
parameter_notes keys [] = refl
parameter_notes keys (u ∷ us) = parameter_notes (note keys u.key (with_parameter u)) us

clause_notes : (keys : Keys) (es : List Entry) → following_clause keys es ≡ notes key_of with_entry keys es
clause_notes keys [] = refl
clause_notes keys (e ∷ es) = clause_notes (note keys (key_of e) (with_entry e)) es

-- ---- lists

pub some_in : {A : Type 0} (P Q R : A → Type 0) → ((x : A) → P x → Q x → R x) → (xs : List A) → SomeOf P xs → Each Q xs → SomeOf R xs
some_in P Q R go [] p q = absurd p
some_in P Q R go (x ∷ xs) p q = ⊎_elim (λ a. inl (go x a q.0)) (λ b. inr (some_in P Q R go xs b q.1)) p

pub from_some : {A : Type 0} {B : Type 0} (P : A → Type 0) → ((x : A) → P x → B) → (xs : List A) → SomeOf P xs → B
from_some P go [] p = absurd p
from_some P go (x ∷ xs) p = ⊎_elim (λ a. go x a) (λ b. from_some P go xs b) p

pub from_each : {A : Type 0} {B : Type 0} (P Q : A → Type 0) → ((x : A) → P x → Q x → B) → (xs : List A) → SomeOf P xs → Each Q xs → B
from_each P Q go [] p q = absurd p
from_each P Q go (x ∷ xs) p q = ⊎_elim (λ a. go x a q.0) (λ b. from_each P Q go xs b q.1) p

pub some_other : {A : Type 0} (P Q : A → Type 0) → ((x : A) → P x → Q x) → (xs : List A) → SomeOf P xs → SomeOf Q xs
some_other P Q go [] p = p
some_other P Q go (x ∷ xs) p = ⊎_elim (λ a. inl (go x a)) (λ b. inr (some_other P Q go xs b)) p

or_same : (a b : Bool) → (a || b) ≡ true → (a ≡ true) ⊎ (b ≡ true)
or_same a b e = or_cases a b e

or_first : (a b : Bool) → a ≡ true → (a || b) ≡ true
or_first true b e = refl
or_first false b e = absurd (true≢false (sym e))

or_second : (a b : Bool) → b ≡ true → (a || b) ≡ true
or_second true b e = refl
or_second false b e = e

module _ (rs ps : List KeyUse) (es : List Entry) where
  abbrev after_results : Keys
  after_results = notes use_key with_result [] rs

  abbrev after_types : Keys
  after_types = notes use_key with_parameter after_results ps

  abbrev places : Keys
  places = notes key_of with_entry after_types es

  abbrev pub all_keys : Keys
  all_keys = parameters_typed (fresh_typed places rs) ps

  pub places_are : places_after rs ps es ≡ places
  unfolding places_after
  places_are =
      clause_notes (after_parameters (following_result [] rs) ps) es
      ∙ ap (λ keys. notes key_of with_entry keys es) (parameter_notes (following_result [] rs) ps ∙ ap (λ keys. notes use_key with_parameter keys ps) (result_notes [] rs))

  pub keys_are : keys_after rs ps es ≡ all_keys
  unfolding keys_after typed_keys
  keys_are = ap (λ keys. parameters_typed (fresh_typed keys rs) ps) places_are

  pub is_table : IsTable 0 all_keys
  is_table =
      parameters_table (fresh_typed places rs) ps (fresh_table places rs
      (notes_table key_of with_entry (λ e f. refl) after_types es
      (notes_table use_key with_parameter (λ u f. refl) after_results ps
      (notes_table use_key with_result (λ u f. refl) [] rs tt))))

  typed_in : (j : List ℕ) → IsIn places j → IsIn all_keys j
  typed_in j x = parameters_in (fresh_typed places rs) ps j (fresh_in places rs j x)

  pub results_in : Each (λ u. IsIn all_keys u.key) rs
  results_in = each_other _ _ (λ u x. typed_in u.key (notes_keep key_of with_entry after_types es u.key (notes_keep use_key with_parameter after_results ps u.key x))) rs (notes_add use_key with_result [] rs)

  pub parameters_all_in : Each (λ u. IsIn all_keys u.key) ps
  parameters_all_in = each_other _ _ (λ u x. typed_in u.key (notes_keep key_of with_entry after_types es u.key x)) ps (notes_add use_key with_parameter after_results ps)

  pub entries_in : Each (λ e. IsIn all_keys (key_of e)) es
  entries_in = each_other _ _ (λ e x. typed_in (key_of e) x) es (notes_add key_of with_entry after_types es)

  -- each key is one of the result, of the parameters or of the clause
  abbrev ComesFrom : List ℕ → Type 0
  ComesFrom j = SomeOf (λ u. j ≡ u.key) rs ⊎ SomeOf (λ u. j ≡ u.key) ps ⊎ SomeOf (λ e. j ≡ key_of e) es

  from_places : (j : List ℕ) → IsIn places j → ComesFrom j
  from_places j x =
      ⊎_elim (λ a. ⊎_elim (λ b. ⊎_elim (λ c. absurd (none-some c.0 c.1)) (λ d. inl d) (notes_from use_key with_result [] rs j b)) (λ d. inr (inl d)) (notes_from use_key with_parameter after_results ps j a)) (λ d. inr (inr d))
      (notes_from key_of with_entry after_types es j x)

  pub comes_from : (j : List ℕ) → IsIn all_keys j → ComesFrom j
  comes_from j x =
      ⊎_elim (λ a. ⊎_elim (λ b. from_places j b) (λ d. inl d) (fresh_in_from places rs j a)) (λ d. inr (inl d))
      (parameters_in_from (fresh_typed places rs) ps j x)

  -- ---- facts

  module _ (field : Facts → Bool) (constant : IsField Bool field) (blind : (t at : ℕ) (f : Facts) → field (record f { typing = typed_first f.typing t at }) ≡ field f) where
    pub as_placed : (j : List ℕ) → field (facts_of all_keys j) ≡ field (facts_of places j)
    as_placed j = parameters_blind field constant blind (fresh_typed places rs) ps j ∙ fresh_blind field constant blind places rs j

  never : (b : Bool) → b ≡ true → b ≡ false → ⊥
  never true e f = true≢false f
  never false e f = true≢false (sym e)

  -- parameters
  in_clause_stays : (j : List ℕ) → (facts_of after_types j).in_parameters ≡ true → (facts_of places j).in_parameters ≡ true
  in_clause_stays j e = sticks key_of with_entry (λ f. f.in_parameters) (λ m n. refl) (λ x f e. e) after_types es j e

  pub in_parameters_all : Each (λ u. (facts_of all_keys u.key).in_parameters ≡ true) ps
  in_parameters_all = each_other _ _ (λ u x. as_placed (λ f. f.in_parameters) (λ m n. refl) (λ t at f. refl) u.key ∙ in_clause_stays u.key (x tt)) ps
      (tells use_key with_parameter (λ f. f.in_parameters) (λ m n. refl) (λ u. Unit {0}) (λ u f p. refl) (λ u f e. refl) after_results ps)

  pub in_parameters_from : (j : List ℕ) → (facts_of all_keys j).in_parameters ≡ true → SomeOf (λ u. j ≡ u.key) ps
  in_parameters_from j e =
      let here = sym (as_placed (λ f. f.in_parameters) (λ m n. refl) (λ t at f. refl) j) ∙ e in
      ⊎_elim (λ a. ⊎_elim (λ b. absurd (no_result b)) (λ d. some_weaker d) (told use_key with_parameter (λ f. f.in_parameters) (λ m n. refl) (λ u. Unit {0}) (λ u f e. inr tt) after_results ps j a))
      (λ d. from_some _ (λ x y. absurd y.1) es d)
      (told key_of with_entry (λ f. f.in_parameters) (λ m n. refl) (λ u. ⊥) (λ x f e. inl e) after_types es j here)
    where
      no_result : (facts_of after_results j).in_parameters ≡ true → ⊥
      no_result e = ⊎_elim (λ a. true≢false (sym a)) (λ d. from_some _ (λ x y. y.1) rs d) (told use_key with_result (λ f. f.in_parameters) (λ m n. refl) (λ u. ⊥) (λ u f e. inl e) [] rs j e)

      some_weaker : SomeOf (λ u. (j ≡ u.key) × Unit {0}) ps → SomeOf (λ u. j ≡ u.key) ps
      some_weaker d = some_other _ _ (λ u x. x.0) ps d

  pub tracked_from : (j : List ℕ) → (facts_of all_keys j).is_tracked_parameter ≡ true → SomeOf (λ u. (j ≡ u.key) × (u.tracked ≡ true)) ps
  tracked_from j e =
      let here = sym (as_placed (λ f. f.is_tracked_parameter) (λ m n. refl) (λ t at f. refl) j) ∙ e in
      ⊎_elim (λ a. ⊎_elim (λ b. absurd (no_result b)) (λ d. d) (told use_key with_parameter (λ f. f.is_tracked_parameter) (λ m n. refl) (λ u. u.tracked ≡ true) (λ u f e. or_same f.is_tracked_parameter u.tracked e) after_results ps j a))
      (λ d. from_some _ (λ x y. absurd y.1) es d)
      (told key_of with_entry (λ f. f.is_tracked_parameter) (λ m n. refl) (λ u. ⊥) (λ x f e. inl e) after_types es j here)
    where
      no_result : (facts_of after_results j).is_tracked_parameter ≡ true → ⊥
      no_result e = ⊎_elim (λ a. true≢false (sym a)) (λ d. from_some _ (λ x y. y.1) rs d) (told use_key with_result (λ f. f.is_tracked_parameter) (λ m n. refl) (λ u. ⊥) (λ u f e. inl e) [] rs j e)

  pub left_open_from : (j : List ℕ) → (facts_of all_keys j).is_left_open ≡ true → SomeOf (λ u. (j ≡ u.key) × (is_unknown u.wanted ≡ true)) ps
  left_open_from j e =
      let here = sym (as_placed (λ f. f.is_left_open) (λ m n. refl) (λ t at f. refl) j) ∙ e in
      ⊎_elim (λ a. ⊎_elim (λ b. absurd (no_result b)) (λ d. d) (told use_key with_parameter (λ f. f.is_left_open) (λ m n. refl) (λ u. is_unknown u.wanted ≡ true) (λ u f e. or_same f.is_left_open (is_unknown u.wanted) e) after_results ps j a))
      (λ d. from_some _ (λ x y. absurd y.1) es d)
      (told key_of with_entry (λ f. f.is_left_open) (λ m n. refl) (λ u. ⊥) (λ x f e. inl e) after_types es j here)
    where
      no_result : (facts_of after_results j).is_left_open ≡ true → ⊥
      no_result e = ⊎_elim (λ a. true≢false (sym a)) (λ d. from_some _ (λ x y. y.1) rs d) (told use_key with_result (λ f. f.is_left_open) (λ m n. refl) (λ u. ⊥) (λ u f e. inl e) [] rs j e)

  -- `new` keys
  pub fresh_all : Each (λ e. is_fresh e ≡ true → (facts_of all_keys (key_of e)).is_fresh ≡ true) es
  fresh_all = each_other _ _ (λ e x p. as_placed (λ f. f.is_fresh) (λ m n. refl) (λ t at f. refl) (key_of e) ∙ x p) es
      (tells key_of with_entry (λ f. f.is_fresh) (λ m n. refl) (λ e. is_fresh e ≡ true) (λ e f p. or_second f.is_fresh (is_fresh e) p) (λ e f q. or_first f.is_fresh (is_fresh e) q) after_types es)

  pub fresh_key_from : (j : List ℕ) → (facts_of all_keys j).is_fresh ≡ true → SomeOf (λ e. (j ≡ key_of e) × (is_fresh e ≡ true)) es
  fresh_key_from j e =
      let here = sym (as_placed (λ f. f.is_fresh) (λ m n. refl) (λ t at f. refl) j) ∙ e in
      ⊎_elim (λ a. absurd (no_type a)) (λ d. d) (told key_of with_entry (λ f. f.is_fresh) (λ m n. refl) (λ e. is_fresh e ≡ true) (λ x f e. or_same f.is_fresh (is_fresh x) e) after_types es j here)
    where
      no_result : (facts_of after_results j).is_fresh ≡ true → ⊥
      no_result e = ⊎_elim (λ a. true≢false (sym a)) (λ d. from_some _ (λ x y. y.1) rs d) (told use_key with_result (λ f. f.is_fresh) (λ m n. refl) (λ u. ⊥) (λ u f e. inl e) [] rs j e)

      no_type : (facts_of after_types j).is_fresh ≡ true → ⊥
      no_type e = ⊎_elim no_result (λ d. from_some _ (λ x y. y.1) ps d) (told use_key with_parameter (λ f. f.is_fresh) (λ m n. refl) (λ u. ⊥) (λ u f e. inl e) after_results ps j e)

  -- the key of the result
  pub result_key_from : (j : List ℕ) → (facts_of all_keys j).is_result_key ≡ true → SomeOf (λ u. (j ≡ u.key) × (u.tracked ≡ true)) rs
  result_key_from j e =
      let here = sym (as_placed (λ f. f.is_result_key) (λ m n. refl) (λ t at f. refl) j) ∙ e in
      ⊎_elim (λ a. ⊎_elim (λ b. by_result b) (λ d. from_some _ (λ x y. absurd y.1) ps d) (told use_key with_parameter (λ f. f.is_result_key) (λ m n. refl) (λ u. ⊥) (λ u f e. inl e) after_results ps j a))
      (λ d. from_some _ (λ x y. absurd y.1) es d)
      (told key_of with_entry (λ f. f.is_result_key) (λ m n. refl) (λ u. ⊥) (λ x f e. inl e) after_types es j here)
    where
      by_result : (facts_of after_results j).is_result_key ≡ true → SomeOf (λ u. (j ≡ u.key) × (u.tracked ≡ true)) rs
      by_result e = ⊎_elim (λ a. absurd (true≢false (sym a))) (λ d. d) (told use_key with_result (λ f. f.is_result_key) (λ m n. refl) (λ u. u.tracked ≡ true) (λ u f e. or_same f.is_result_key u.tracked e) [] rs j e)

  -- no place but the result's and the parameters' gives a type
  pub typing_from : (j : List ℕ) (had : Typing) → typing_at all_keys j ≡ Some had → ((facts_of all_keys j).is_fresh ≡ true) ⊎ SomeOf (λ u. (j ≡ u.key) × SaysType u.wanted) ps
  typing_from j had is =
      ⊎_elim (λ a. ⊎_elim (λ b. absurd (untyped b)) (λ fresh. inl (as_placed (λ f. f.is_fresh) (λ m n. refl) (λ t at f. refl) j ∙ fresh)) (fresh_from places rs j had a)) (λ d. inr d)
      (parameters_from (fresh_typed places rs) ps j had is)
    where
      untyped : typing_at places j ≡ Some had → ⊥
      untyped e =
          ⊎_elim
          (λ a. ⊎_elim (λ b. ⊎_elim (λ c. true≢false (sym c)) (λ d. from_some _ (λ x y. y.1) rs d) (told use_key with_result (λ f. is_some f.typing) (λ m n. refl) (λ u. ⊥) (λ u f e. inl e) [] rs j b))
          (λ d. from_some _ (λ x y. y.1) ps d) (told use_key with_parameter (λ f. is_some f.typing) (λ m n. refl) (λ u. ⊥) (λ u f e. inl e) after_results ps j a))
          (λ d. from_some _ (λ x y. y.1) es d)
          (told key_of with_entry (λ f. is_some f.typing) (λ m n. refl) (λ u. ⊥) (λ x f e. inl e) after_types es j (ap is_some e))

-- ---- a key that stands in the result again

abbrev stands_again : Facts → Bool
stands_again f = f.in_result && f.in_result_again

both_true : (a b : Bool) → (a && b) ≡ true → a ≡ true
both_true a b e = (and_parts a b e).0

again_keeps : (u : KeyUse) (f : Facts) → stands_again f ≡ true → stands_again (with_result u f) ≡ true
again_keeps u f e = both_true f.in_result f.in_result_again e

again_noted : (keys : Keys) (us : List KeyUse) (j : List ℕ) → (facts_of keys j).in_result ≡ true → SomeOf (λ u. j ≡ u.key) us → stands_again (facts_of (notes use_key with_result keys us) j) ≡ true
again_noted keys [] j was some = absurd some
again_noted keys (u ∷ us) j was some =
    ⊎_elim
    (λ here. sticks use_key with_result stands_again (λ m n. refl) again_keeps (note keys u.key (with_result u)) us j
    (subst (λ k. stands_again (facts_of (note keys u.key (with_result u)) k) ≡ true) (sym here)
    (ap stands_again (facts_noted keys u.key (with_result u)) ∙ subst (λ k. (facts_of keys k).in_result ≡ true) here was)))
    (λ more. again_noted (note keys u.key (with_result u)) us j (step_sticks use_key with_result (λ f. f.in_result) (λ m n. refl) (λ u f e. refl) keys u j was) more)
    some

pub stands_once : (u : KeyUse) (us ps : List KeyUse) (es : List Entry) → (facts_of (all_keys (u ∷ us) ps es) u.key).in_result_again ≡ false → SomeOf (λ v. u.key ≡ v.key) us → ⊥
stands_once u us ps es once some =
    let first = note [] u.key (with_result u) in
    let in_results = again_noted first us u.key (ap (λ f. f.in_result) (facts_noted [] u.key (with_result u))) some in
    let in_types = sticks use_key with_parameter stands_again (λ m n. refl) (λ u f e. e) (notes use_key with_result first us) ps u.key in_results in
    let in_places = sticks key_of with_entry stands_again (λ m n. refl) (λ e f q. q) (notes use_key with_parameter (notes use_key with_result first us) ps) es u.key in_types in
    let placed = as_placed (u ∷ us) ps es stands_again (λ m n. refl) (λ t at f. refl) u.key ∙ in_places in
    true≢false (sym (and_parts _ _ placed).1 ∙ once)

-- ---- a clause names each key once

abbrev pub AreApart : List Entry → Type 0
AreApart [] = Unit {0}
AreApart (e ∷ es) = Each (λ x. key_of e ≡ key_of x → ⊥) es × AreApart es

not_again : (keys : Keys) (es : List Entry) (j : List ℕ) → (facts_of keys j).in_clause ≡ true → entries_again keys es ≡ [] → Each (λ x. j ≡ key_of x → ⊥) es
unfolding again_refused
not_again keys [] j was none = tt
not_again keys (e ∷ es) j was none = (
  λ same. true≢false (sym (subst (λ k. (facts_of keys k).in_clause ≡ true) same was) ∙ not_broken _ rule.CLAUSE_KEY_AGAIN _ (no_left (again_refused keys e) _ none)),
  not_again (following_entry keys e) es j (step_sticks key_of with_entry (λ f. f.in_clause) (λ m n. refl) (λ e f q. refl) keys e j was) (no_right (again_refused keys e) _ none),
)

pub apart : (keys : Keys) (es : List Entry) → entries_again keys es ≡ [] → AreApart es
apart keys [] none = tt
apart keys (e ∷ es) none = (
  not_again (following_entry keys e) es (key_of e) (ap (λ f. f.in_clause) (facts_noted keys (key_of e) (with_entry e))) (no_right (again_refused keys e) _ none),
  apart (following_entry keys e) es (no_right (again_refused keys e) _ none),
)
