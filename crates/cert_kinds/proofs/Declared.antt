-- The rows of declarations, one after another.
use Rattle.std.proofs.Common.{◌≡◌, refl, sym, ap, ◌∙◌, ◌<◌, ◌+◌, ℕ, suc, List, ◌∷◌, ◌++◌, map, drop, length, get_or, drop-cons, add-one, Bool, Option}
use Rattle.std.specs.List.{flat_map, enumerate_from}
use Rattle.std.proofs.lemmas.List.Concat.{flat_map-cons}
use Rattle.vlt_core.specs.Core.{TypeDecl, an_abstract, a_struct, a_variant, Program}
use Rattle.vlt_core.specs.KindedHeads.{Rules, unless, set_broken, type_rows}
use Rattle.vlt_core.specs.Kinded.{has_main, parts_broken, rows_broken}
use Rattle.vlt_core.specs.declared.rules.TheConstants.{NO_MAIN}
use Rattle.cert_kinds_types.specs.Least.{least}
use Rattle.cert_kinds_types.specs.TypeRows.{own_row, case_rows}
use Rattle.cert_kinds_tallies.specs.Tallies.{Tally, clean, with_row, tallied}
use Rattle.cert_kinds.specs.Whole.{types_rows, functions_rows}
use Rattle.cert_kinds.proofs.Tallying.{both}

pub rows_of_type : (p : Program) (t : ℕ) (d : TypeDecl) → type_rows p t d ≡ own_row p t d ∷ case_rows p d
rows_of_type p t (an_abstract name set) = refl
rows_of_type p t (a_struct d) = refl
rows_of_type p t (a_variant d) = refl

-- where a loop comes to the next of a list that has a row for each
pub row_next : {A B : Type 0} (g : A → Rules) (w : B → A) (t new : Tally) (rule : Option ℕ) (xs : List B) (i : ℕ) (x : B) → x ≡ get_or xs i x → i < length xs →
    rule ≡ least (g (w x)) → new ≡ with_row t rule →
    tallied t (map g (map w (drop i xs))) ≡ tallied new (map g (map w (drop (i + 1) xs)))
row_next g w t new rule xs i x is lt er en =
    ap (λ ys. tallied t (map g (map w ys))) (drop-cons xs i x lt)
    ∙ ap (λ y. tallied (with_row t (least (g (w y)))) (map g (map w (drop (suc i) xs)))) (sym is)
    ∙ ap (λ r. tallied (with_row t r) (map g (map w (drop (suc i) xs)))) (sym er)
    ∙ ap (λ u. tallied u (map g (map w (drop (suc i) xs)))) (sym en)
    ∙ ap (λ n. tallied new (map g (map w (drop n xs)))) (sym (add-one i))

-- the same where each of a numbered list has rows
pub rows_next : {A B : Type 0} (g : ℕ × A → List Rules) (w : B → A) (t new : Tally) (xs : List B) (i : ℕ) (x : B) → x ≡ get_or xs i x → i < length xs →
    new ≡ tallied t (g (i, w x)) →
    tallied t (flat_map g (enumerate_from i (map w (drop i xs)))) ≡ tallied new (flat_map g (enumerate_from (i + 1) (map w (drop (i + 1) xs))))
rows_next g w t new xs i x is lt en =
    ap (λ ys. tallied t (flat_map g (enumerate_from i (map w ys)))) (drop-cons xs i x lt)
    ∙ ap (λ y. tallied t (flat_map g (enumerate_from i (w y ∷ map w (drop (suc i) xs))))) (sym is)
    ∙ ap (tallied t) (flat_map-cons g (i, w x) (enumerate_from (i + 1) (map w (drop (suc i) xs))))
    ∙ both t (g (i, w x)) (flat_map g (enumerate_from (i + 1) (map w (drop (suc i) xs))))
    ∙ ap (λ u. tallied u (flat_map g (enumerate_from (i + 1) (map w (drop (suc i) xs))))) (sym en)
    ∙ ap (λ n. tallied new (flat_map g (enumerate_from (i + 1) (map w (drop n xs))))) (sym (add-one i))

-- the parts of a program, one after another
pub all_rows : (p : Program) (t : Tally) →
    tallied (tallied (tallied t (map set_broken p.sets)) (types_rows p p.types)) (functions_rows p p.fns) ≡ tallied t (parts_broken p)
all_rows p t =
    ap (λ u. tallied u (functions_rows p p.fns)) (sym (both t (map set_broken p.sets) (types_rows p p.types)))
    ∙ sym (both t (map set_broken p.sets ++ types_rows p p.types) (functions_rows p p.fns))

pub program_rows : (p : Program) (start own sets types all : Tally) (main : Bool) (rule : Option ℕ) → main ≡ has_main p → rule ≡ least (unless main NO_MAIN) →
    start ≡ clean 0 → own ≡ with_row start rule → sets ≡ tallied own (map set_broken p.sets) → types ≡ tallied sets (types_rows p p.types) →
    all ≡ tallied types (functions_rows p p.fns) → all ≡ tallied (clean 0) (rows_broken p)
program_rows p start own sets types all main rule em er es eo et ey ea =
    ea ∙ ap (λ u. tallied u (functions_rows p p.fns)) (ey ∙ ap (λ u. tallied u (types_rows p p.types)) et)
    ∙ all_rows p own
    ∙ ap (λ u. tallied u (parts_broken p)) (eo ∙ ap (λ u. with_row u rule) es ∙ ap (with_row (clean 0)) (er ∙ ap (λ b. least (unless b NO_MAIN)) em))
