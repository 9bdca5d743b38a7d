-- With at most eight payloads in each case the registers suffice.
use Rattle.std.proofs.Common.{◌≡◌, ◌≤◌, ℕ, zero, suc, ◌+◌, max, Bool, true, false, if◌then◌else◌, List, [], ◌∷◌, ◌++◌, length, replicate, Some, refl, sym, ap, ◌∙◌, subst, arith}
use Rattle.std.specs.List.{count_by}
use Rattle.vlt_core.specs.Core as core
use Rattle.vlt_core.specs.Core.{Ty, CaseDecl, Program}
use Rattle.vlt_core.specs.Lookups.{is_owning, cases_of}
use Rattle.vlt_core.specs.Widths.{greatest, is_number, is_guarded, most_of}
use Rattle.vlt_meaning.specs.World as source
use Rattle.c_meaning.specs.World as cw
use Rattle.c_lower.specs.Slots.{Sort, of_number, of_reference, of_owner, variant_sorts}
use Rattle.c_lower_worlds.specs.Worlds.{slot_values, numbers_in, references_in}
use Rattle.c_lower_worlds.specs.Shapes.{HasShape}
use Rattle.c_lower_worlds.specs.Same.{rest_values}
use Rattle.c_lower_worlds.specs.Operands.{RegistersSuffice}
use Rattle.c_lower_worlds.specs.Sorts.{AreOfSorts}
use Rattle.c_lower_worlds.specs.Naming.Lists.{Each}
use Rattle.c_lower.specs.Statements.{after_first}
use Rattle.c_lower_worlds.proofs.VariantSlots.{shape_sorts, counted, counted_is}

-- no case has more than eight payloads
pub record FewPayloads (p : Program) : Type 0 where
  pub few : (t : ℕ) → Each (λ (c : CaseDecl). length c.payload ≤ 8) (cases_of p t)

counted_few : (test : Ty → Bool) (ts : List Ty) → counted test ts ≤ length ts
counted_few test [] = omega arith
counted_few test (t ∷ ts) = by (test t) (counted_few test ts)
  where
    by : (b : Bool) → counted test ts ≤ length ts → (if b then 1 + counted test ts else counted test ts) ≤ suc (length ts)
    by true h = omega arith
    by false h = omega arith

few_of : (test : Ty → Bool) (cases : List CaseDecl) → Each (λ (c : CaseDecl). length c.payload ≤ 8) cases → greatest (λ (c : CaseDecl). count_by test c.payload) cases ≤ 8
few_of test [] h = omega arith
few_of test (c ∷ cases) h =
    let a = counted_few test c.payload in
    let e = counted_is test c.payload in
    let rest = few_of test cases h.1 in
    let q : length c.payload ≤ 8 = h.0 in
    both (count_by test c.payload) (greatest (λ (c : CaseDecl). count_by test c.payload) cases) (omega arith) rest
  where
    both : (a b : ℕ) → a ≤ 8 → b ≤ 8 → max a b ≤ 8
    both a b h k = omega arith

-- ---- as many values of a kind as sorts

number_sorts : List Sort → ℕ
number_sorts [] = 0
number_sorts (of_number ∷ ss) = suc (number_sorts ss)
number_sorts (s ∷ ss) = number_sorts ss

reference_sorts : List Sort → ℕ
reference_sorts [] = 0
reference_sorts (of_number ∷ ss) = reference_sorts ss
reference_sorts (s ∷ ss) = suc (reference_sorts ss)

numbers_long : (ss : List Sort) (vs : List cw.Value) → AreOfSorts ss vs → length (numbers_in vs) ≡ number_sorts ss
unfolding number_sorts
numbers_long [] [] h = refl
numbers_long [] (a ∷ vs) h = absurd h
numbers_long (s ∷ ss) [] h = absurd h
numbers_long (of_number ∷ ss) (cw.number z ∷ vs) h = ap suc (numbers_long ss vs h.1)
numbers_long (of_number ∷ ss) (cw.reference r ∷ vs) h = absurd h.0
numbers_long (of_reference ∷ ss) (cw.number z ∷ vs) h = absurd h.0
numbers_long (of_reference ∷ ss) (cw.reference r ∷ vs) h = numbers_long ss vs h.1
numbers_long (of_owner ∷ ss) (cw.number z ∷ vs) h = absurd h.0
numbers_long (of_owner ∷ ss) (cw.reference r ∷ vs) h = numbers_long ss vs h.1

references_long : (ss : List Sort) (vs : List cw.Value) → AreOfSorts ss vs → length (references_in vs) ≡ reference_sorts ss
unfolding reference_sorts
references_long [] [] h = refl
references_long [] (a ∷ vs) h = absurd h
references_long (s ∷ ss) [] h = absurd h
references_long (of_number ∷ ss) (cw.number z ∷ vs) h = references_long ss vs h.1
references_long (of_number ∷ ss) (cw.reference r ∷ vs) h = absurd h.0
references_long (of_reference ∷ ss) (cw.number z ∷ vs) h = absurd h.0
references_long (of_reference ∷ ss) (cw.reference r ∷ vs) h = ap suc (references_long ss vs h.1)
references_long (of_owner ∷ ss) (cw.number z ∷ vs) h = absurd h.0
references_long (of_owner ∷ ss) (cw.reference r ∷ vs) h = ap suc (references_long ss vs h.1)

numbers_in_all : (a b c : ℕ) → number_sorts (replicate a of_number ++ replicate b of_reference ++ replicate c of_owner) ≡ a
unfolding number_sorts
numbers_in_all zero zero zero = refl
numbers_in_all zero zero (suc c) = numbers_in_all zero zero c
numbers_in_all zero (suc b) c = numbers_in_all zero b c
numbers_in_all (suc a) b c = ap suc (numbers_in_all a b c)

references_in_all : (a b c : ℕ) → reference_sorts (replicate a of_number ++ replicate b of_reference ++ replicate c of_owner) ≡ b + c
unfolding reference_sorts
references_in_all zero zero zero = omega arith
references_in_all zero zero (suc c) = let e = references_in_all zero zero c in omega arith
references_in_all zero (suc b) c = let e = references_in_all zero b c in omega arith
references_in_all (suc a) b c = references_in_all a b c

module _ (p : Program) (few : FewPayloads p) where
  rest_sorts : (s : Sort) (ss : List Sort) (vs : List cw.Value) → AreOfSorts (s ∷ ss) vs → AreOfSorts ss (after_first vs)
  rest_sorts s ss [] h = absurd h
  rest_sorts s ss (a ∷ vs) h = h.1

  variant_numbers : (t : ℕ) (vs : List cw.Value) → AreOfSorts (variant_sorts p t) vs → length (numbers_in (after_first vs)) ≤ 8
  variant_numbers t vs h =
      let a = most_of is_number p t in
      let e = numbers_long _ (after_first vs) (rest_sorts of_number _ vs h) ∙ numbers_in_all (most_of is_number p t) (most_of is_guarded p t) (most_of is_owning p t) in
      subst (λ n. n ≤ 8) (sym e) (few_of is_number (cases_of p t) (few.few t))

  variant_references : (t : ℕ) (vs : List cw.Value) → AreOfSorts (variant_sorts p t) vs → length (references_in (after_first vs)) ≤ 16
  variant_references t vs h =
      let e = references_long _ (after_first vs) (rest_sorts of_number _ vs h) ∙ references_in_all (most_of is_number p t) (most_of is_guarded p t) (most_of is_owning p t) in
      let b = few_of is_guarded (cases_of p t) (few.few t) in
      let c = few_of is_owning (cases_of p t) (few.few t) in
      subst (λ n. n ≤ 16) (sym e) (sum (most_of is_guarded p t) (most_of is_owning p t) b c)
    where
      sum : (b c : ℕ) → b ≤ 8 → c ≤ 8 → b + c ≤ 16
      sum b c h k = omega arith

  none : (n : ℕ) → 0 ≤ n
  none n = omega arith

  pub registers_suffice : RegistersSuffice p
  registers_suffice = record { numbers = numbers; references = references }
    where
      numbers : (types : List ℕ) (ty : Ty) (a : source.Value) → HasShape p types ty a → length (numbers_in (rest_values (Some ty) (slot_values p ty a))) ≤ 8
      numbers types core.int a h = none 8
      numbers types core.bool a h = none 8
      numbers types (core.tracked k t args) a h = none 8
      numbers types (core.guarded k t args) a h = none 8
      numbers types (core.owning states t args) a h = none 8
      numbers types (core.variant t args) a h = variant_numbers t (slot_values p (core.variant t args) a) (shape_sorts p types (core.variant t args) a h)
      numbers types (core.owning_variant t args) a h = variant_numbers t (slot_values p (core.owning_variant t args) a) (shape_sorts p types (core.owning_variant t args) a h)

      references : (types : List ℕ) (ty : Ty) (a : source.Value) → HasShape p types ty a → length (references_in (rest_values (Some ty) (slot_values p ty a))) ≤ 16
      references types core.int a h = none 16
      references types core.bool a h = none 16
      references types (core.tracked k t args) a h = none 16
      references types (core.guarded k t args) a h = none 16
      references types (core.owning states t args) a h = none 16
      references types (core.variant t args) a h = variant_references t (slot_values p (core.variant t args) a) (shape_sorts p types (core.variant t args) a h)
      references types (core.owning_variant t args) a h = variant_references t (slot_values p (core.owning_variant t args) a) (shape_sorts p types (core.owning_variant t args) a h)
