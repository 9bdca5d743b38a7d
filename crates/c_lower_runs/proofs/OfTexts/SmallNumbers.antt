-- Numbers of slots, cells, cases and functions can be written.
use Rattle.std.proofs.Common.{◌≡◌, ◌≤◌, ℕ, zero, suc, ◌+◌, ◌*◌, max, Bool, true, false, if◌then◌else◌, List, [], ◌∷◌, ◌++◌, take, length, length-append, replicate, Some, slice_get, arith}
use Rattle.std.specs.List.{count_by}
use Rattle.vlt_core.specs.Core as core
use Rattle.vlt_core.specs.Core.{Ty, FieldDecl, CaseDecl, Func, Program}
use Rattle.vlt_core.specs.Lookups.{is_owning, fields_of, cases_of, case_at}
use Rattle.vlt_core.specs.Widths.{greatest, is_number, is_guarded, most_of}
use Rattle.c_syntax.specs.Text.{max_number}
use Rattle.c_lower.specs.Slots.{of_number, of_reference, of_owner, slot_sorts, variant_sorts, first_numbers, field_sorts}
use Rattle.c_lower.specs.Statements.{name_of, is_alike, is_external_at}
use Rattle.c_lower_worlds.specs.Naming.Lists.{Each}
use Rattle.c_lower_worlds.proofs.VariantSlots.{counted, counted_is, length_replicate}
use Rattle.c_lower_runs.specs.Lowerable.{IsLowerable}
use Rattle.c_lower_runs.proofs.Conditions.{few_payloads}
use Rattle.c_lower_runs.specs.Texts.Printable.{IsPrintable}
use Rattle.c_lower_runs.proofs.OfTexts.SlotTypes.{FewCells, numbers_long, references_long}
use Rattle.c_lower_runs.proofs.OfTexts.TextSizes.{functions_small}
use Rattle.c_lower_runs.proofs.OfTexts.Lists.{get_below, filter_long}

counted_few : (test : Ty → Bool) (ts : List Ty) → counted test ts ≤ length ts
counted_few test [] = omega arith
counted_few test (t ∷ ts) = by (test t) (counted_few test ts)
  where
    by : (b : Bool) → counted test ts ≤ length ts → (if b then 1 + counted test ts else counted test ts) ≤ suc (length ts)
    by true h = omega (arith, h)
    by false h = omega (arith, h)

few_of : (test : Ty → Bool) (cases : List CaseDecl) → Each (λ (c : CaseDecl). length c.payload ≤ 8) cases → greatest (λ (c : CaseDecl). count_by test c.payload) cases ≤ 8
few_of test [] h = omega arith
few_of test (c ∷ cases) h =
    let a = counted_few test c.payload in
    let e = counted_is test c.payload in
    let q : length c.payload ≤ 8 = h.0 in
    both (count_by test c.payload) (greatest (λ (c : CaseDecl). count_by test c.payload) cases) (omega (arith, a, e, q)) (few_of test cases h.1)
  where
    both : (a b : ℕ) → a ≤ 8 → b ≤ 8 → max a b ≤ 8
    both a b h k = omega (arith, h, k)

module _ (p : Program) (h : IsLowerable p) where
  most_few : (test : Ty → Bool) (t : ℕ) → most_of test p t ≤ 8
  most_few test t = few_of test (cases_of p t) ((few_payloads p h).few t)

  variant_few : (t : ℕ) → length (variant_sorts p t) ≤ 25
  variant_few t =
      let n = most_of is_number p t in
      let r = most_of is_guarded p t in
      let o = most_of is_owning p t in
      let a = length-append (replicate n of_number ++ replicate r of_reference) (replicate o of_owner) in
      let b = length-append (replicate n of_number) (replicate r of_reference) in
      let c = length_replicate n of_number in
      let d = length_replicate r of_reference in
      let e = length_replicate o of_owner in
      let x = most_few is_number t in
      let y = most_few is_guarded t in
      let z = most_few is_owning t in
      omega (arith, a, b, c, d, e, x, y, z)

  slots_few : (ty : Ty) → length (slot_sorts p ty) ≤ 25
  slots_few core.int = omega arith
  slots_few core.bool = omega arith
  slots_few (core.tracked k t args) = omega arith
  slots_few (core.owning s t args) = omega arith
  slots_few (core.guarded k t args) = omega arith
  slots_few (core.variant t args) = variant_few t
  slots_few (core.owning_variant t args) = variant_few t

  pub slots_small : (ty : Ty) → length (slot_sorts p ty) ≤ max_number
  slots_small ty = let e = slots_few ty in omega (arith, e)

  fields_few : (ds : List FieldDecl) → length (field_sorts p ds) ≤ 25 * length ds
  fields_few [] = omega arith
  fields_few (d ∷ ds) =
      let a = length-append (slot_sorts p d.ty) (field_sorts p ds) in
      let b = slots_few d.ty in
      let c = fields_few ds in
      omega (arith, a, b, c)

  pub cells_small : IsPrintable p → FewCells p
  cells_small q = record {
    numbers = λ t. let a = numbers_long first_numbers (field_sorts p (fields_of p t)) in let b = fields_few (fields_of p t) in let c = q.fields t in omega (arith, a, b, c);
    references = λ t. let a = references_long first_numbers (field_sorts p (fields_of p t)) in let b = fields_few (fields_of p t) in let c = q.fields t in omega (arith, a, b, c);
  }

pub cases_small : (p : Program) → IsPrintable p → (type k : ℕ) (d : CaseDecl) → case_at p type k ≡ Some d → k ≤ max_number
cases_small p q type k d at = let a = get_below (cases_of p type) k d at in let b = q.cases type in omega (arith, a, b)

take_long : {A : Type 0} (n : ℕ) (xs : List A) → length (take n xs) ≤ length xs
take_long zero xs = omega arith
take_long (suc n) [] = omega arith
take_long (suc n) (x ∷ xs) = let h = take_long n xs in omega (arith, h)

pub names_small : (p : Program) → IsPrintable p → (g : ℕ) → (name_of p g).number ≤ max_number
names_small p q g =
    let glue = is_external_at (slice_get p.fns g) in
    let a = filter_long (λ (f : Func). is_alike glue f.external) (take g p.fns) in
    let b = take_long g p.fns in
    let c = functions_small p q in
    omega (arith, a, b, c)
