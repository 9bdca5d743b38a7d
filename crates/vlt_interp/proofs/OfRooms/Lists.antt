-- Sums and greatest numbers over lists that are mapped, and over positions.
use Rattle.std.proofs.Common.{◌≡◌, ◌≤◌, ◌+◌, ℕ, suc, max, List, [], ◌∷◌, map, length, drop, Option, Some, None, slice_get, refl, sym, ap, ◌∙◌, subst, arith}
use Rattle.std.specs.List.{sum_by, range_with_len}
use Rattle.std.proofs.lemmas.List.Sums.{sum_by-cons}
use Rattle.vlt_core.specs.Core.{FieldDecl, TypeDecl, Program}
use Rattle.vlt_core.specs.Lookups.{fields_in, fields_of}
use Rattle.vlt_core.specs.Widths.{greatest, slots_of, cells_of, widest_type}
use Rattle.vlt_core.specs.declared.program.TypeDecl.{TypeDecl as CodeDecl}
use Rattle.vlt_core.specs.View.{type_of}
use Rattle.vlt_interp.specs.Rooms.Sorts.{cells_in, capped_count}
use Rattle.std.proofs.lemmas.List.{drop_all}
use Rattle.vlt_interp.proofs.OfTasks.Sizes.{greatest_at}

pub sum_by-map : {A B : Type 0} (f : B → ℕ) (g : A → B) (xs : List A) → sum_by f (map g xs) ≡ sum_by (λ x. f (g x)) xs
sum_by-map f g [] = refl
sum_by-map f g (x ∷ xs) =
    let k = sum_by-map f g xs in
    sum_by-cons f (g x) (map g xs) ∙ ap (λ n. f (g x) + n) k ∙ sym (sum_by-cons (λ x. f (g x)) x xs)

-- what is given to the fields of the declared types is given to those of any number
pub fields_at_most : (f : List FieldDecl → ℕ) (n : ℕ) (p : Program) → f [] ≤ n → greatest (λ (t : TypeDecl). f (fields_in (Some t))) p.types ≤ n → (t : ℕ) → f (fields_of p t) ≤ n
fields_at_most f n p none all t = by (slice_get p.types t) refl
  where
    by : (o : Option TypeDecl) → slice_get p.types t ≡ o → f (fields_in o) ≤ n
    by None is = none
    by (Some d) is = let a = greatest_at (λ (t : TypeDecl). f (fields_in (Some t))) p.types t d is in omega (arith, a, all)

over_range : {A : Type 0} (f : ℕ → ℕ) (g : A → ℕ) (i : ℕ) (xs : List A) → ((j : ℕ) (x : A) → slice_get xs j ≡ Some x → f (i + j) ≡ g x) → greatest f (range_with_len i (length xs)) ≡ greatest g xs
over_range f g i [] each = refl
over_range f g i (x ∷ xs) each =
    let none : i + 0 ≡ i = omega arith in
    let here : f i ≡ g x = sym (ap f none) ∙ each 0 x refl in
    let rest = over_range f g (i + 1) xs (λ j y at. (let e : i + 1 + j ≡ i + suc j = omega arith in ap f e) ∙ each (suc j) y at) in
    ap (λ n. max n (greatest f (range_with_len (i + 1) (length xs)))) here ∙ ap (max (g x)) rest

-- the cells of an object of the widest type
pub widest_is : (p : Program) → greatest (cells_in p) p.types ≡ widest_type p
widest_is p = sym (over_range (cells_of p) (cells_in p) 0 p.types (λ j d at. (let e : 0 + j ≡ j = omega arith in ap (cells_of p) e) ∙ ap (λ (o : Option TypeDecl). sum_by (λ (x : FieldDecl). slots_of p x.ty) (fields_in o)) at))

pub widest_found : (p : Program) (most i : ℕ) (xs : List CodeDecl) → length xs ≤ i → max most (capped_count (greatest (cells_in p) (map type_of (drop i xs)))) ≡ capped_count (greatest (cells_in p) p.types) → most ≡ capped_count (widest_type p)
widest_found p most i xs end e =
    let none = drop_all i xs end in
    let k = subst (λ (l : List CodeDecl). max most (capped_count (greatest (cells_in p) (map type_of l))) ≡ capped_count (greatest (cells_in p) p.types)) none e in
    let g = widest_is p in
    omega (arith, k, g)
