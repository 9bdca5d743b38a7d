-- Entries of a clause and keys of a case are few: their keys differ, and are those of a function or a header.
use Rattle.std.proofs.Common.{◌≡◌, ⊎_elim, ℕ, ◌<◌, ◌≤◌, ◌==◌, nat_lt, nat_le, Bool, true, false, not, if◌then◌else◌, List, [], ◌∷◌, ◌++◌, map, length, Option, Some, None, slice_get, refl, sym, ◌∙◌, subst, zero, suc, arith}
use Rattle.std.specs.Prelude.{eqb, filter}
use Rattle.std.specs.Option.{option_map}
use Rattle.std.specs.List.{list_any, flat_map, filter_map, cons_option, AllByRecursion, IsDistinct}
use Rattle.std.proofs.lemmas.Bool.{eqb-true, eq-eqb, ne_eqb, ltb-true, or_parts, and_parts}
use Rattle.std.proofs.lemmas.List.{length-map}
use Rattle.std.proofs.lemmas.Map.Steps.{length-le_from_distinct_below}
use Rattle.vlt_core.specs.Core.{TypeDecl, an_abstract, a_struct, a_variant, CaseKey, CaseDecl, Header, Entry, Func, Program}
use Rattle.vlt_core.specs.Lookups.{VariantOf, cases_in, case_at, keys_in, case_keys}
use Rattle.vlt_core.specs.Kinded.{HasKindedParts}
use Rattle.vlt_core.specs.KindedHeads.{Rules, unless, when_some, has, are_apart, states_broken, case_key_broken, case_broken, type_broken, listed_broken, is_bound_entry, entry_broken, result_broken, external_broken, is_main_head, head_broken}
use Rattle.vlt_core.specs.Types.{decl_of}
use Rattle.vlt_core.specs.declared.rules.TheConstants as rule
use Rattle.vlt_core_laws.proofs.Binding.{in_range}
use Rattle.vlt_core_laws.proofs.Ids.{or_split}
use Rattle.vlt_core_laws.proofs.Unbroken.{filled_not_empty, some_not_none, some_same, left_empty, right_empty, unless_holds}
use Rattle.vlt_core_laws.specs.Unbroken.{EachEmpty}
use Rattle.cert_rows.specs.Parts.{All}
use Rattle.cert_fit_laws.specs.Limits.{IsLimitedType, IsLimitedProgram}
use Rattle.cert_fit_laws.proofs.Listed.{all_at}
use Rattle.cert_fit_laws.proofs.NarrowNumbers.{within, all_flat}
use Rattle.cert_fit_laws.proofs.Tables.{type_empty}

-- ---- different numbers

is_false : (b : Bool) → not b ≡ true → b ≡ false
is_false true e = cc
is_false false e = refl

none_equal : (xs : List ℕ) (x : ℕ) → has xs x ≡ false → AllByRecursion (λ y. eqb x y ≡ false) xs
none_equal [] x e = tt
none_equal (y ∷ ys) x e =
    let both = or_parts (y == x) (has ys x) e in
    (ne_eqb x y (λ same. clash (sym (eq-eqb y x (sym same)) ∙ both.0)), none_equal ys x both.1)
  where
    clash : true ≡ false → ⊥
    clash e = cc

all_apart : (xs : List ℕ) → are_apart xs ≡ true → IsDistinct eqb xs
unfolding IsDistinct
all_apart [] e = tt
all_apart (x ∷ xs) e =
    let both = and_parts (not (has xs x)) (are_apart xs) e in
    (none_equal xs x (is_false (has xs x) both.0), all_apart xs both.1)

all_below : (xs : List ℕ) (m : ℕ) → All (λ n. nat_lt n m ≡ true) xs → (q : ℕ) → list_any (eqb q) xs ≡ true → q < m
all_below [] m all q i = cc
all_below (x ∷ xs) m all q i =
    ⊎_elim
    (λ same. subst (λ n. n < m) (sym (eqb-true q x same)) (ltb-true x m all.0))
    (λ more. all_below xs m all.1 q more)
    (or_split (eqb q x) (list_any (eqb q) xs) i)

-- different numbers below a bound are no more than the bound
apart_few : (xs : List ℕ) (m : ℕ) → are_apart xs ≡ true → All (λ n. nat_lt n m ≡ true) xs → length xs ≤ m
apart_few xs m apart all = length-le_from_distinct_below xs m (all_apart xs apart) (all_below xs m all)

all_mapped : {A B : Type 0} (P : B → Type 0) (go : A → B) (xs : List A) → All (λ x. P (go x)) xs → All P (map go xs)
all_mapped P go [] all = tt
all_mapped P go (x ∷ xs) all = (all.0, all_mapped P go xs all.1)

mapped_few : {A : Type 0} (go : A → ℕ) (xs : List A) (m n : ℕ) → are_apart (map go xs) ≡ true → All (λ x. nat_lt (go x) m ≡ true) xs → m ≤ n → length xs ≤ n
mapped_few go xs m n apart all few = low (length xs) (length (map go xs)) (length-map xs go) (apart_few (map go xs) m apart (all_mapped (λ k. nat_lt k m ≡ true) go xs all)) few
  where
    low : (a b : ℕ) → b ≡ a → b ≤ m → m ≤ n → a ≤ n
    low a b e x y = omega (arith, e, x, y)

-- ---- clauses

module _ (p : Program) (number : ℕ) (f : Func) (head : head_broken p number f ≡ []) where
  abbrev upto_keys : Rules
  upto_keys = unless (nat_le f.params (length f.vars)) rule.UNKNOWN_NAME ++ flat_map (λ d. type_broken p f d.ty) f.vars ++ when_some f.result (type_broken p f) ++ listed_broken p f 0 f.keys

  abbrev upto_apart : Rules
  upto_apart = upto_keys ++ unless (are_apart (map (λ e. e.key) f.clause)) rule.CLAUSE_KEY_AGAIN

  entries : upto_apart ++ flat_map (entry_broken p f) f.clause ≡ []
  entries = left_empty (upto_apart ++ flat_map (entry_broken p f) f.clause) (result_broken f) (left_empty _ (if f.external then external_broken p f else []) (left_empty _ (if number == p.main then unless (is_main_head f) rule.MAIN_HEAD else []) (left_empty _ (unless (nat_le (length (filter is_bound_entry f.clause)) 1) rule.SECOND_BOUND) head)))

  -- the key of each entry is one of the function's
  pub own_entries : All (λ e. nat_lt e.key (length f.keys) ≡ true) f.clause
  own_entries = all_flat (λ e. nat_lt e.key (length f.keys) ≡ true) (entry_broken p f) (λ e r. in_range (nat_lt e.key (length f.keys)) _ r) f.clause (right_empty upto_apart (flat_map (entry_broken p f) f.clause) entries)

  pub few_entries : length f.keys ≤ 256 → length f.clause ≤ 256
  few_entries few = mapped_few (λ (e : Entry). e.key) f.clause (length f.keys) 256
      (unless_holds (are_apart (map (λ e. e.key) f.clause)) rule.CLAUSE_KEY_AGAIN (right_empty upto_keys (unless (are_apart (map (λ e. e.key) f.clause)) rule.CLAUSE_KEY_AGAIN) (left_empty upto_apart (flat_map (entry_broken p f) f.clause) entries)))
      own_entries few

-- ---- cases

each_mapped : {A : Type 0} (go : A → Rules) (xs : List A) (i : ℕ) (x : A) → EachEmpty (map go xs) → slice_get xs i ≡ Some x → go x ≡ []
each_mapped go [] i x e at = absurd (some_not_none x (sym at))
each_mapped go (y ∷ ys) zero x e at = subst (λ z. go z ≡ []) (some_same y x at) e.0
each_mapped go (y ∷ ys) (suc i) x e at = each_mapped go ys i x e.1 at

few_mapped : {A B : Type 0} (go : A → Option B) (xs : List A) → length (filter_map go xs) ≤ length xs
few_mapped go [] = omega arith
few_mapped {B = B} go (x ∷ xs) = by (go x) (filter_map go xs) (few_mapped go xs)
  where
    next : (a b : ℕ) → a ≤ b → a ≤ suc b
    next a b x = omega (arith, x)

    up : (a b : ℕ) → a ≤ b → suc a ≤ suc b
    up a b x = omega (arith, x)

    by : (o : Option B) (ys : List B) → length ys ≤ length xs → length (cons_option o ys) ≤ suc (length xs)
    by None ys few = next (length ys) (length xs) few
    by (Some y) ys few = up (length ys) (length xs) few

module _ (p : Program) (kinded : HasKindedParts p) (is : IsLimitedProgram p) where
  module _ (header : Header) (short : length header ≤ 16) where
    abbrev of_key : CaseKey → Option (Option ℕ) → Rules
    of_key k (Some (Some t)) = when_some (decl_of p t) (λ d. states_broken p t k.states)
    of_key k _ = rule.CASE_KEY ∷ []

    key_within : (k : CaseKey) → case_key_broken p header k ≡ [] → nat_lt k.position (length header) ≡ true
    key_within k e = by (slice_get header k.position) refl e
      where
        by : (o : Option (Option ℕ)) → slice_get header k.position ≡ o → of_key k o ≡ [] → nat_lt k.position (length header) ≡ true
        by None at e = absurd (filled_not_empty rule.CASE_KEY [] e)
        by (Some None) at e = absurd (filled_not_empty rule.CASE_KEY [] e)
        by (Some (Some t)) at e = within header k.position (Some t) at

    few_keys : (d : CaseDecl) → case_broken p header d ≡ [] → length d.keys ≤ 16
    few_keys d e = mapped_few (λ (k : CaseKey). k.position) d.keys (length header) 16
        (unless_holds (are_apart (map (λ k. k.position) d.keys)) rule.CASE_KEY (right_empty _ (unless (are_apart (map (λ k. k.position) d.keys)) rule.CASE_KEY) (left_empty _ (flat_map (case_key_broken p header) d.keys) e)))
        (all_flat (λ k. nat_lt k.position (length header) ≡ true) (case_key_broken p header) key_within d.keys (right_empty _ (flat_map (case_key_broken p header) d.keys) e)) short

  few_listed : (t c : ℕ) (d : CaseDecl) → case_at p t c ≡ Some d → length d.keys ≤ 16
  few_listed t c d = by (slice_get p.types t) refl
    where
      by : (o : Option TypeDecl) → slice_get p.types t ≡ o → slice_get (cases_in o) c ≡ Some d → length d.keys ≤ 16
      by None at is = absurd (some_not_none d (sym is))
      by (Some (an_abstract name set)) at is = absurd (some_not_none d (sym is))
      by (Some (a_struct s)) at is = absurd (some_not_none d (sym is))
      by (Some (a_variant v)) at one =
          few_keys v.header (all_at IsLimitedType p.types t (a_variant v) is.types at).0 d
          (each_mapped (case_broken p v.header) v.cases c d (type_empty p t (a_variant v) kinded at).1 one)

  -- a case lists few keys
  pub few_case_keys : (v : VariantOf) (c : ℕ) → length (case_keys p v c) ≤ 16
  few_case_keys v c = by (case_at p v.type c) refl
    where
      none : 0 ≤ 16
      none = omega arith

      over : (a b : ℕ) → a ≤ b → b ≤ 16 → a ≤ 16
      over a b x y = omega (arith, x, y)

      by : (o : Option CaseDecl) → case_at p v.type c ≡ o → length (keys_in v.args o) ≤ 16
      by None at = none
      by (Some d) at = over _ (length d.keys) (few_mapped (λ k. option_map (λ j. record { key = j; states = k.states }) (slice_get v.args k.position)) d.keys) (few_listed v.type c d at)
