-- Marks say what is reached.
use Rattle.std.proofs.Common.{◌≡◌, ◌∙◌, ◌<◌, ◌-◌, arith, ℕ, zero, suc, ◌+◌, Bool, true, false, ◌||◌, if◌then◌else◌, List, [], ◌∷◌, ◌++◌, map, filter, length, Option, Some, slice_get, refl, ap, sym}
use Rattle.std.proofs.lemmas.Bool.{false≢true}
use Rattle.std.specs.List.{list_any, flat_map}
use Rattle.std.specs.Cmp.Lexicographic.{pointwise}
use Rattle.std.proofs.Math.Bool.{beq}
use Rattle.vlt_core.specs.Core.{Ty, TypeDecl, an_abstract, a_struct, a_variant, FieldDecl, CaseDecl, Program}
use Rattle.vlt_core.specs.Lookups.{is_owning, fields_in, cases_in}
use Rattle.vlt_core.specs.Types.{is_undroppable_part, part_type, holds_undroppable, owning_parts}
use Rattle.vlt_kinds_queries.specs.Marks.{Marks, is_marked, AreMarks}
use Rattle.vlt_kinds_queries.specs.Rounds.{part_marked, decl_marked, marked_more, marks_after}

-- ---- lists

or_apart : (a b c d : Bool) → ((a || b) || (c || d)) ≡ ((a || c) || (b || d))
or_apart true b c d = refl
or_apart false true true d = refl
or_apart false true false d = refl
or_apart false false c d = refl

or_false : (b : Bool) → (b || false) ≡ b
or_false true = refl
or_false false = refl

-- of the owning parts, one test or the other
any_of_both : (p : Program) (marks : Marks) (tys : List Ty)
    → list_any (part_marked p marks) tys
    ≡ (list_any (is_undroppable_part p) (filter is_owning tys) || list_any (λ ty. is_marked marks (part_type ty)) (filter is_owning tys))
any_of_both p marks [] = refl
any_of_both p marks (ty ∷ tys) = by (is_owning ty) refl (any_of_both p marks tys)
  where
    by : (b : Bool) → is_owning ty ≡ b
        → list_any (part_marked p marks) tys
        ≡ (list_any (is_undroppable_part p) (filter is_owning tys) || list_any (λ ty. is_marked marks (part_type ty)) (filter is_owning tys))
        → list_any (part_marked p marks) (ty ∷ tys)
        ≡ (list_any (is_undroppable_part p) (filter is_owning (ty ∷ tys)) || list_any (λ ty. is_marked marks (part_type ty)) (filter is_owning (ty ∷ tys)))
    by true is more =
        ap (λ b. (if b then is_undroppable_part p ty || is_marked marks (part_type ty) else false) || list_any (part_marked p marks) tys) is
        ∙ ap (λ b. (is_undroppable_part p ty || is_marked marks (part_type ty)) || b) more
        ∙ or_apart (is_undroppable_part p ty) (is_marked marks (part_type ty)) (list_any (is_undroppable_part p) (filter is_owning tys)) (list_any (λ ty. is_marked marks (part_type ty)) (filter is_owning tys))
        ∙ sym (ap (λ b. list_any (is_undroppable_part p) (if b then ty ∷ filter is_owning tys else filter is_owning tys) || list_any (λ ty. is_marked marks (part_type ty)) (if b then ty ∷ filter is_owning tys else filter is_owning tys)) is)
    by false is more =
        ap (λ b. (if b then is_undroppable_part p ty || is_marked marks (part_type ty) else false) || list_any (part_marked p marks) tys) is
        ∙ more
        ∙ sym (ap (λ b. list_any (is_undroppable_part p) (if b then ty ∷ filter is_owning tys else filter is_owning tys) || list_any (λ ty. is_marked marks (part_type ty)) (if b then ty ∷ filter is_owning tys else filter is_owning tys)) is)

any_of_types : (f : Ty → Bool) (fs : List FieldDecl) → list_any (λ d. f d.ty) fs ≡ list_any f (map (λ d. d.ty) fs ++ [])
any_of_types f [] = refl
any_of_types f (d ∷ fs) = ap (λ b. f d.ty || b) (any_of_types f fs)

any_of_more : (f : Ty → Bool) (xs ys : List Ty) → list_any f (xs ++ ys) ≡ (list_any f xs || list_any f ys)
any_of_more f [] ys = refl
any_of_more f (x ∷ xs) ys = by (f x) (any_of_more f xs ys)
  where
    by : (b : Bool) → list_any f (xs ++ ys) ≡ (list_any f xs || list_any f ys) → (b || list_any f (xs ++ ys)) ≡ ((b || list_any f xs) || list_any f ys)
    by true more = refl
    by false more = more

any_of_payloads : (f : Ty → Bool) (cs : List CaseDecl) → list_any (λ c. list_any f c.payload) cs ≡ list_any f (flat_map (λ c. c.payload) cs)
any_of_payloads f [] = refl
any_of_payloads f (c ∷ cs) =
    ap (λ b. list_any f c.payload || b) (any_of_payloads f cs) ∙ sym (any_of_more f c.payload (flat_map (λ c. c.payload) cs))

-- ---- one type

abbrev parts_in : Option TypeDecl → List Ty
parts_in d = map (λ f. f.ty) (fields_in d) ++ flat_map (λ c. c.payload) (cases_in d)

marked_decl : (p : Program) (marks : Marks) (d : TypeDecl) → decl_marked p marks d ≡ list_any (part_marked p marks) (parts_in (Some d))
marked_decl p marks (an_abstract name set) = refl
marked_decl p marks (a_struct d) = any_of_types (part_marked p marks) d.fields
marked_decl p marks (a_variant d) = any_of_payloads (part_marked p marks) d.cases

marked_at : (p : Program) (marks : Marks) (ds : List TypeDecl) (t : ℕ)
    → is_marked (map (decl_marked p marks) ds) t ≡ list_any (part_marked p marks) (parts_in (slice_get ds t))
marked_at p marks [] t = refl
marked_at p marks (d ∷ ds) zero = marked_decl p marks d
marked_at p marks (d ∷ ds) (suc t) = marked_at p marks ds t

marked_type : (p : Program) (marks : Marks) (t : ℕ)
    → is_marked (marked_more p marks) t
    ≡ (list_any (is_undroppable_part p) (owning_parts p t) || list_any (λ ty. is_marked marks (part_type ty)) (owning_parts p t))
marked_type p marks t = marked_at p marks p.types t ∙ any_of_both p marks (parts_in (slice_get p.types t))

no_marks : (tys : List Ty) → list_any (λ ty. is_marked [] (part_type ty)) tys ≡ false
no_marks [] = refl
no_marks (ty ∷ tys) = no_marks tys

-- ---- rounds

marks_are : (p : Program) (k t : ℕ) → is_marked (marks_after p (suc k)) t ≡ holds_undroppable p k t
marks_are p zero t =
    marked_type p [] t ∙ ap (λ b. list_any (is_undroppable_part p) (owning_parts p t) || b) (no_marks (owning_parts p t))
    ∙ or_false (list_any (is_undroppable_part p) (owning_parts p t))
marks_are p (suc k) t =
    marked_type p (marks_after p (suc k)) t
    ∙ ap {A = ℕ → Bool} (λ f. list_any (is_undroppable_part p) (owning_parts p t) || list_any (λ ty. f (part_type ty)) (owning_parts p t)) (λ i u. marks_are p k u i)

-- a round that changes nothing is the last
marks_stay : (p : Program) (k n : ℕ) → marks_after p (suc k) ≡ marks_after p k → marks_after p (n + k) ≡ marks_after p k
marks_stay p k zero same = let none : 0 + k ≡ k = omega arith in ap (marks_after p) none
marks_stay p k (suc n) same =
    let more : suc n + k ≡ suc (n + k) = omega arith in
    ap (marks_after p) more ∙ ap (marked_more p) (marks_stay p k n same) ∙ same

marks_last : (p : Program) (k len : ℕ) → k < len → marks_after p (suc (suc k)) ≡ marks_after p (suc k)
    → marks_after p (suc k) ≡ marks_after p (suc len)
marks_last p k len within same =
    let size : (len - k) + suc k ≡ suc len = omega (arith, within) in
    sym (marks_stay p (suc k) (len - k) same) ∙ ap (marks_after p) size

pub last_round : (p : Program) (marks more : Marks) (k len : ℕ) → len ≡ length p.types → k < len → marks ≡ marks_after p (suc k) → more ≡ marked_more p marks → more ≡ marks
    → marks ≡ marks_after p (suc (length p.types))
last_round p marks more k len all within is next same =
    is ∙ marks_last p k len within (sym (ap (marked_more p) is) ∙ sym next ∙ same ∙ is) ∙ ap (λ n. marks_after p (suc n)) all

pub one_more_round : (p : Program) (marks more : Marks) (k : ℕ) → marks ≡ marks_after p (suc k) → more ≡ marked_more p marks
    → more ≡ marks_after p (suc (k + 1))
one_more_round p marks more k is next =
    let more_by_one : suc k ≡ k + 1 = omega arith in
    next ∙ ap (marked_more p) is ∙ ap (λ n. marked_more p (marks_after p n)) more_by_one

pub same_flags : (a b : List Bool) → true ≡ pointwise beq a b → a ≡ b
same_flags [] [] is = refl
same_flags [] (y ∷ ys) is = absurd (false≢true (sym is))
same_flags (x ∷ xs) [] is = absurd (false≢true (sym is))
same_flags (true ∷ xs) (true ∷ ys) is = ap (λ zs. true ∷ zs) (same_flags xs ys is)
same_flags (true ∷ xs) (false ∷ ys) is = absurd (false≢true (sym is))
same_flags (false ∷ xs) (true ∷ ys) is = absurd (false≢true (sym is))
same_flags (false ∷ xs) (false ∷ ys) is = ap (λ zs. false ∷ zs) (same_flags xs ys is)

pub are_marks : (p : Program) (marks : Marks) → marks ≡ marks_after p (suc (length p.types)) → AreMarks p marks
are_marks p marks is = record { each = λ t. ap (λ ms. is_marked ms t) is ∙ marks_are p (length p.types) t }
