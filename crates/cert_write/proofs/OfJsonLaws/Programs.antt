-- The rows of a program that has a certificate and whose names are UTF-8 are readable.
use Rattle.std.proofs.Common.{◌+◌, ℕ, Bool, true, false, if◌then◌else◌, List, [], ◌∷◌, map, None, refl, arith}
use Rattle.std.specs.List.{flat_map}
use Rattle.serde_json.specs.Written.{compact_text}
use Rattle.vlt_core.specs.Core as core
use Rattle.vlt_core.specs.Core.{SetDecl, TypeDecl, an_abstract, a_struct, a_variant, CaseDecl, Func, Program}
use Rattle.cert_rows.specs.Parts.{All, list}
use Rattle.cert_rows.specs.Values.{Shape}
use Rattle.cert_rows.specs.Rows.{Row, version, states, case_of, function, external, row_data, FitsRow}
use Rattle.cert_format.specs.Places.{unplaced_func, unplaced_program}
use Rattle.cert_format.specs.Notes.{Note, MapNotes, maps_of}
use Rattle.cert_format.specs.Drafts.{draft_rows, block_rows, list_rows, arms_rows}
use Rattle.cert_format.specs.Bodies.{draft_of, block_draft, list_draft, arms_draft, count, count_block}
use Rattle.cert_format.specs.Certificate.{shape, fn_shape, type_rows, fn_row, function_rows, functions_data, table_rows, program_data, FitFunctions, FitsCertificate, IsCertificateOf}
use Rattle.cert_format.specs.Text.{marked}
use Rattle.cert_format_laws.specs.Texts.{IsWrittenText}
use Rattle.cert_format_laws.proofs.Decoding.{all_joined}
use Rattle.cert_format_laws.proofs.Texts.{written}
use Rattle.cert_values.specs.Declarations.Names.{HasTextSet, HasTextType, HasTextFunc, HasTextNames}
use Rattle.cert_write.proofs.OfJsonLaws.Readable.{IsReadable, utf8, order, reads_back}
use Rattle.cert_write.proofs.OfJsonLaws.Parts.{list_readable}
use Rattle.cert_write.proofs.OfJsonLaws.Rows.{HasTextRow, row_is_readable}

-- ---- names of rows

sets_named : (ds : List SetDecl) → All HasTextSet ds → All HasTextRow (map states ds)
sets_named [] h = tt
sets_named (d ∷ ds) h = (h.0, sets_named ds h.1)

cases_named : (cs : List CaseDecl) → All (λ c. HasTextRow (case_of c)) cs → All HasTextRow (map case_of cs)
cases_named [] h = tt
cases_named (c ∷ cs) h = (h.0, cases_named cs h.1)

type_named : (d : TypeDecl) → HasTextType d → All HasTextRow (type_rows d)
type_named (an_abstract name set) h = (h, tt)
type_named (a_struct d) h = (h, tt)
type_named (a_variant d) h = (h.0, cases_named d.cases h.1)

types_named : (ds : List TypeDecl) → All HasTextType ds → All HasTextRow (flat_map type_rows ds)
types_named [] h = tt
types_named (d ∷ ds) h = all_joined HasTextRow (type_rows d) (flat_map type_rows ds) (type_named d h.0) (types_named ds h.1)

-- rows of statements have no names
module _ (a : MapNotes) where
  mutual
    form_named : (n : ℕ) (s : core.Form) → All HasTextRow (draft_rows (draft_of a n s))
    form_named n (core.simple s) = (tt, tt)
    form_named n (core.call f target keys args) = (tt, tt)
    form_named n (core.choose e x y) = (
      tt,
      all_joined HasTextRow (block_rows (block_draft a (n + 1) x)) (block_rows (block_draft a (n + 1 + count_block x) y))
          (block_named (n + 1) x) (block_named (n + 1 + count_block x) y),
    )
    form_named n (core.loop e x) = (tt, block_named (n + 1) x)
    form_named n (core.switch v arms end) = (tt, arms_named (n + 1) arms)
    form_named n (core.focus y z x) = (tt, block_named (n + 1) x)
    form_named n (core.scope x) = (tt, block_named (n + 1) x)
    form_named n (core.return o) = (tt, tt)
    form_named n (core.jump c) = (tt, tt)

    block_named : (n : ℕ) (b : core.Block) → All HasTextRow (block_rows (block_draft a n b))
    block_named n (core.block ss bound end) = list_named n ss

    list_named : (n : ℕ) (ss : core.Stmts) → All HasTextRow (list_rows (list_draft a n ss))
    list_named n core.done = tt
    list_named n (core.next at s rest) =
        all_joined HasTextRow (draft_rows (draft_of a n s)) (list_rows (list_draft a (n + count s) rest))
        (form_named n s) (list_named (n + count s) rest)

    arms_named : (n : ℕ) (arms : core.Arms) → All HasTextRow (arms_rows (arms_draft a n arms))
    arms_named n core.no_arms = tt
    arms_named n (core.arm c vs b rest) =
        all_joined HasTextRow (block_rows (block_draft a n b)) (arms_rows (arms_draft a (n + count_block b) rest))
        (block_named n b) (arms_named (n + count_block b) rest)

head_named : (b : Bool) (f : Func) → HasTextFunc f → HasTextRow (if b then external (fn_row f) else function (fn_row f))
head_named true f h = h
head_named false f h = h

function_named : (f : Func) (notes : List Note) → HasTextFunc f → All HasTextRow (function_rows f notes)
function_named f notes h = (head_named f.external f h, list_named (maps_of notes) 0 f.body)

-- ---- rows of the program

version_fits : (o : Bool) → FitsRow (shape o None) (version o)
version_fits true = ((omega arith, refl), refl)
version_fits false = ((omega arith, refl), refl)

rows_readable : (w : Shape) (rs : List Row) → All (FitsRow w) rs → All HasTextRow rs → All IsReadable (map (row_data w) rs)
rows_readable w [] h names = tt
rows_readable w (r ∷ rs) h names = (row_is_readable w r h.0 names.0, rows_readable w rs h.1 names.1)

functions_readable : (o : Bool) (p : Program) (fs : List Func) (all : List (List Note)) → FitFunctions o p fs all →
    All HasTextFunc fs → All IsReadable (functions_data o p fs all)
functions_readable o p [] [] fits names = tt
functions_readable o p [] (n ∷ all) fits names = absurd fits
functions_readable o p (f ∷ fs) [] fits names = absurd fits
functions_readable o p (f ∷ fs) (notes ∷ all) fits names =
    all_joined IsReadable (map (row_data (fn_shape o p f)) (function_rows f notes)) (functions_data o p fs all)
    (rows_readable (fn_shape o p f) (function_rows f notes) fits.0.rows (function_named f notes names.0))
    (functions_readable o p fs all fits.1 names.1)

program_readable : (o : Bool) (p : Program) (all : List (List Note)) → FitsCertificate o p all → HasTextNames p →
    All IsReadable (program_data o p all)
program_readable o p all fits names = (
  row_is_readable (shape o None) (version o) (version_fits o) tt,
  all_joined IsReadable (map (row_data (shape o None)) (table_rows p)) (functions_data o p p.fns all)
      (rows_readable (shape o None) (table_rows p) fits.tables
      (all_joined HasTextRow (map states p.sets) (flat_map type_rows p.types) (sets_named p.sets names.sets)
      (types_named p.types names.types)))
      (functions_readable o p p.fns all fits.functions names.fns),
)

-- ---- its text

module _ (o : Bool) (p : Program) (all : List (List Note)) (fits : FitsCertificate o p all) (names : HasTextNames p) where
  pub read_back : IsWrittenText (compact_text (list (program_data o p all))) (list (program_data o p all))
  read_back =
      let d = list (program_data o p all) in
      let h = list_readable (program_data o p all) (program_readable o p all fits names) in
      let nests = (written o p all fits).exact.nests in
      record { utf8 = utf8 d h; order = order d h; reads_back = reads_back d h (omega (arith, nests)) }

  pub certificate : IsCertificateOf (marked (compact_text (list (program_data o p all)))) p all
  certificate = (written o p all fits).certificate (compact_text (list (program_data o p all))) read_back

-- ---- names are not places

functions_unplaced : (fs : List Func) → All HasTextFunc fs → All HasTextFunc (map unplaced_func fs)
functions_unplaced [] h = tt
functions_unplaced (f ∷ fs) h = (h.0, functions_unplaced fs h.1)

pub unplaced_named : (p : Program) → HasTextNames p → HasTextNames (unplaced_program p)
unplaced_named p h = record { sets = h.sets; types = h.types; fns = functions_unplaced p.fns h.fns }
