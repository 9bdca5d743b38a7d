-- The rows that are written for a program are those of its certificate.
use Rattle.std.proofs.Common.{◌≡◌, ℕ, Bool, true, false, if◌then◌else◌, List, [], ◌∷◌, ◌++◌, map, length, Option, Some, None, is_some, refl, sym, ap, ◌∙◌}
use Rattle.std.specs.List.{flat_map}
use Rattle.std.proofs.lemmas.List.{map-append, append_assoc}
use Rattle.vlt_core.specs.Core as core
use Rattle.vlt_core.specs.Core.{Func, Program}
use Rattle.vlt_core.specs.Instances.{Bound, bound_in, origins}
use Rattle.vlt_core.specs.declared.notes.Annotation.{Annotation}
use Rattle.cert_rows.specs.Rows.{FnRow, Row, function, external, row_data}
use Rattle.cert_rows.specs.Rows as row
use Rattle.cert_format.specs.Places.{unplaced_func, unplaced_program}
use Rattle.cert_format.specs.Drafts.{list_rows}
use Rattle.cert_format.specs.Notes.{maps_of}
use Rattle.cert_format.specs.Bounds.{instances}
use Rattle.cert_format.specs.Certificate.{shape, fn_shape, type_rows, fn_row, function_rows, functions_data, program_data}
use Rattle.cert_values.specs.Heads.{plain_data}
use Rattle.cert_write.specs.Notes.{maps_in, fn_notes, notes_in}
use Rattle.cert_write.specs.Rows.{fn_data, fns_data, sets_data, types_data, rows_data, list_data}
use Rattle.cert_write.proofs.Keeping.{own_notes}
use Rattle.cert_write.proofs.Placing.{lengthy, same_list}
use Rattle.cert_write.proofs.Written.{list_same}

-- ---- one function

abbrev instances_of : Program → Func → Option Bound → Option ℕ
instances_of p f None = None
instances_of p f (Some b) = Some (length (origins p f))

by_bound : (p : Program) (f : Func) (b : Option Bound) → is_some (instances_of p f b) ≡ is_some b
by_bound p f None = refl
by_bound p f (Some b) = refl

is_bounded : (p : Program) (f : Func) → is_some (instances p f) ≡ is_some (bound_in f.clause)
is_bounded p f = by_bound p f (bound_in f.clause)

head_same : (o e : Bool) (k : Option ℕ) (r : FnRow) →
    plain_data (if e then external r else function r) ≡ row_data (shape o k) (if e then external r else function r)
head_same o true k r = refl
head_same o false k r = refl

-- the function's rows, without its places
fn_same : (o : Bool) (p : Program) (f : Func) (annotations : List Annotation) →
    map (row_data (fn_shape o p (unplaced_func f))) (function_rows (unplaced_func f) (fn_notes f annotations)) ≡ fn_data f annotations
fn_same o p f annotations =
    sym (ap (λ d. d ∷ list_data (is_some (bound_in f.clause)) (maps_in annotations) 0 f.body)
    (ap (λ n. plain_data (if f.external then external (named n) else function (named n))) (sym (lengthy f.body)) ∙
    head_same o f.external k (fn_row (unplaced_func f))) ∙
    ap (λ l. row_data (shape o k) head ∷ l)
    (ap (λ b. list_data b (maps_in annotations) 0 f.body) (sym (is_bounded p (unplaced_func f))) ∙
    list_same o k (maps_in annotations) 0 f.body ∙
    ap (λ ds. map (row_data (shape o k)) (list_rows ds))
    (sym (same_list (maps_of (fn_notes f annotations)) 0 f.body ∙ own_notes (maps_in annotations) f.body))))
  where
    k : Option ℕ
    k = instances p (unplaced_func f)

    named : ℕ → FnRow
    named n = (f.name, f.result, f.params, f.clause, f.keys, f.vars, n)

    head : Row
    head = if f.external then external (fn_row (unplaced_func f)) else function (fn_row (unplaced_func f))

fns_same : (o : Bool) (p : Program) (fs : List Func) (all : List (List Annotation)) →
    functions_data o p (map unplaced_func fs) (notes_in fs all) ≡ fns_data fs all
fns_same o p [] all = refl
fns_same o p (f ∷ fs) [] =
    ap (λ l. l ++ functions_data o p (map unplaced_func fs) (notes_in fs [])) (fn_same o p f []) ∙
    ap (λ l. fn_data f [] ++ l) (fns_same o p fs [])
fns_same o p (f ∷ fs) (annotations ∷ all) =
    ap (λ l. l ++ functions_data o p (map unplaced_func fs) (notes_in fs all)) (fn_same o p f annotations) ∙
    ap (λ l. fn_data f annotations ++ l) (fns_same o p fs all)

-- ---- types

cases_same : (o : Bool) (cs : List core.CaseDecl) → map (row_data (shape o None)) (map row.case_of cs) ≡ map plain_data (map row.case_of cs)
cases_same o [] = refl
cases_same o (c ∷ cs) = ap (λ l. plain_data (row.case_of c) ∷ l) (cases_same o cs)

type_same : (o : Bool) (d : core.TypeDecl) → map (row_data (shape o None)) (type_rows d) ≡ map plain_data (type_rows d)
type_same o (core.an_abstract name set) = refl
type_same o (core.a_struct d) = refl
type_same o (core.a_variant d) = ap (λ l. plain_data (row.variant_type d.name d.header (length d.cases)) ∷ l) (cases_same o d.cases)

types_same : (o : Bool) (ds : List core.TypeDecl) → map (row_data (shape o None)) (flat_map type_rows ds) ≡ types_data ds
types_same o [] = refl
types_same o (d ∷ ds) =
    map-append (row_data (shape o None)) (type_rows d) (flat_map type_rows ds) ∙
    ap (λ l. l ++ map (row_data (shape o None)) (flat_map type_rows ds)) (type_same o d) ∙
    ap (λ l. map plain_data (type_rows d) ++ l) (types_same o ds) ∙
    sym (map-append plain_data (type_rows d) (flat_map type_rows ds))

-- ---- the program

pub program_same : (o : Bool) (p : Program) (all : List (List Annotation)) → program_data o (unplaced_program p) (notes_in p.fns all) ≡ rows_data o p all
program_same o p all =
    ap (λ l. row_data (shape o None) (row.version o) ∷ (l ++ functions_data o (unplaced_program p) (map unplaced_func p.fns) (notes_in p.fns all)))
    (map-append (row_data (shape o None)) (map row.states p.sets) (flat_map type_rows p.types) ∙
    ap (λ l. sets_data o p.sets ++ l) (types_same o p.types)) ∙
    ap (λ l. row_data (shape o None) (row.version o) ∷ ((sets_data o p.sets ++ types_data p.types) ++ l)) (fns_same o (unplaced_program p) p.fns all) ∙
    ap (λ l. row_data (shape o None) (row.version o) ∷ l) (append_assoc (sets_data o p.sets) (types_data p.types) (fns_data p.fns all))
