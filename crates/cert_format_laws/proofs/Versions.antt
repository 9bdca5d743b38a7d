-- Without links and bound entries both versions fit.
use Rattle.std.proofs.Common.{◌≡◌, ◌≤◌, refl, sym, ap, ℕ, ◌+◌, ◌||◌, Bool, true, false, true≢false, if◌then◌else◌, List, [], ◌∷◌, map, Option, None, arith}
use Rattle.std.specs.List.{list_any, flat_map}
use Rattle.vlt_core.specs.Core as core
use Rattle.vlt_core.specs.Core.{Link, SetDecl, TypeDecl, Mode, kept, taken, given, fresh, up_to, Entry, Func, Program}
use Rattle.vlt_core.specs.KindedHeads.{is_bounded, is_bound_entry}
use Rattle.cert_rows.specs.Parts.{All}
use Rattle.cert_rows.specs.Values.{mode_number, entry}
use Rattle.cert_rows.specs.Rows.{FnRow, Row, states, case_of, function, external, simple, fn_fields, extern_fields, FitsRow}
use Rattle.cert_format.specs.Drafts.{list_rows, block_rows, draft_rows, arms_rows}
use Rattle.cert_format.specs.Notes.{MapNotes, Note, maps_of}
use Rattle.cert_format.specs.Bodies.{draft_of, block_draft, list_draft, arms_draft, count, count_block}
use Rattle.cert_format.specs.Bounds.{instances}
use Rattle.cert_format.specs.Certificate.{shape, fn_shape, type_rows, fn_row, body_draft, FitsFunction, FitFunctions, FitsCertificate}
use Rattle.cert_format_laws.specs.Versions.{is_linked, is_ordered}
use Rattle.cert_format_laws.proofs.Decoding.{all_joined, all_left, all_right}

neither : (a b : Bool) → (a || b) ≡ false → (a ≡ false) × (b ≡ false)
neither true b e = absurd (true≢false e)
neither false b e = (refl, e)

no_links : (ls : List Link) → is_linked ls ≡ false → ls ≡ []
no_links [] e = refl
no_links (l ∷ ls) e = absurd (true≢false e)

set_fits : (d : SetDecl) → is_linked d.links ≡ false → FitsRow (shape true None) (states d) → FitsRow (shape false None) (states d)
set_fits d e h = ((h.0.0.0, h.0.0.1), ap (λ l. record d { links = l }) (sym (no_links d.links e)))

sets_fit : (ds : List SetDecl) → list_any (λ d. is_linked d.links) ds ≡ false → All (FitsRow (shape true None)) (map states ds) →
    All (FitsRow (shape false None)) (map states ds)
sets_fit [] e h = tt
sets_fit (d ∷ ds) e h = let q = neither (is_linked d.links) (list_any (λ d. is_linked d.links) ds) e in (set_fits d q.0 h.0, sets_fit ds q.1 h.1)

-- rows that are the same in both versions
abbrev Alike : Row → Type 0
Alike r = (n : Option ℕ) → FitsRow (shape true n) r → FitsRow (shape false n) r

all_alike : (n : Option ℕ) (rs : List Row) → All Alike rs → All (FitsRow (shape true n)) rs → All (FitsRow (shape false n)) rs
all_alike n [] a h = tt
all_alike n (r ∷ rs) a h = (a.0 n h.0, all_alike n rs a.1 h.1)

cases_alike : (cs : List core.CaseDecl) → All Alike (map case_of cs)
cases_alike [] = tt
cases_alike (c ∷ cs) = ((λ n h. h), cases_alike cs)

type_alike : (d : TypeDecl) → All Alike (type_rows d)
type_alike (core.an_abstract name set) = ((λ n h. h), tt)
type_alike (core.a_struct d) = ((λ n h. h), tt)
type_alike (core.a_variant d) = ((λ n h. h), cases_alike d.cases)

types_alike : (ds : List TypeDecl) → All Alike (flat_map type_rows ds)
types_alike [] = tt
types_alike (d ∷ ds) = all_joined Alike (type_rows d) (flat_map type_rows ds) (type_alike d) (types_alike ds)

simple_alike : (s : core.Simple) → Alike (simple s)
simple_alike (core.set v e) = λ n h. h
simple_alike (core.input v more) = λ n h. h
simple_alike (core.print e) = λ n h. h
simple_alike (core.put x i e) = λ n h. h
simple_alike (core.make x os) = λ n h. h
simple_alike (core.become x s) = λ n h. h
simple_alike (core.release x) = λ n h. h
simple_alike (core.drop v) = λ n h. h
simple_alike (core.own v o) = λ n h. h
simple_alike (core.unpack x v) = λ n h. h
simple_alike (core.build v c os) = λ n h. h
simple_alike (core.swap x i v) = λ n h. h
simple_alike (core.open_into x vs) = λ n h. h
simple_alike (core.adopt y x r) = λ n h. h

module _ (a : MapNotes) where
  mutual
    alike : (n : ℕ) (s : core.Form) → All Alike (draft_rows (draft_of a n s))
    alike n (core.simple s) = (simple_alike s, tt)
    alike n (core.call f target keys args) = ((λ m h. h), tt)
    alike n (core.choose e x y) = (
      (λ m h. h),
      all_joined Alike (block_rows (block_draft a (n + 1) x))
          (block_rows (block_draft a (n + 1 + count_block x) y)) (block_alike (n + 1) x) (block_alike (n + 1 + count_block x) y),
    )
    alike n (core.loop e x) = ((λ m h. h), block_alike (n + 1) x)
    alike n (core.switch v arms end) = ((λ m h. h), arms_alike (n + 1) arms)
    alike n (core.focus y z x) = ((λ m h. h), block_alike (n + 1) x)
    alike n (core.scope x) = ((λ m h. h), block_alike (n + 1) x)
    alike n (core.return o) = ((λ m h. h), tt)
    alike n (core.jump c) = ((λ m h. h), tt)

    block_alike : (n : ℕ) (b : core.Block) → All Alike (block_rows (block_draft a n b))
    block_alike n (core.block ss bound end) = list_alike n ss

    list_alike : (n : ℕ) (ss : core.Stmts) → All Alike (list_rows (list_draft a n ss))
    list_alike n core.done = tt
    list_alike n (core.next at s rest) = all_joined Alike (draft_rows (draft_of a n s))
        (list_rows (list_draft a (n + count s) rest)) (alike n s) (list_alike (n + count s) rest)

    arms_alike : (n : ℕ) (arms : core.Arms) → All Alike (arms_rows (arms_draft a n arms))
    arms_alike n core.no_arms = tt
    arms_alike n (core.arm c vs b rest) = all_joined Alike (block_rows (block_draft a n b))
        (arms_rows (arms_draft a (n + count_block b) rest)) (block_alike n b) (arms_alike (n + count_block b) rest)

-- ---- clauses

mode_fits : (m : Mode) → is_bounded m ≡ false → mode_number m ≤ 3
mode_fits kept is = omega arith
mode_fits taken is = omega arith
mode_fits given is = omega arith
mode_fits fresh is = omega arith
mode_fits (up_to b) is = absurd (true≢false is)

entry_fits : (e : Entry) → is_bound_entry e ≡ false → (entry true).Fits e → (entry false).Fits e
entry_fits e is h = (((mode_fits e.mode is, h.0.0.1, h.0.0.2, h.0.0.3), h.0.1), h.1)

entries_fit : (es : List Entry) → list_any is_bound_entry es ≡ false → All (entry true).Fits es → All (entry false).Fits es
entries_fit [] e h = tt
entries_fit (x ∷ xs) e h = let q = neither (is_bound_entry x) (list_any is_bound_entry xs) e in (entry_fits x q.0 h.0, entries_fit xs q.1 h.1)

row_fits : (f : FnRow) → list_any is_bound_entry f.3 ≡ false → (fn_fields true).Fits f → (fn_fields false).Fits f
row_fits f e h = (h.0, h.1, h.2, entries_fit f.3 e h.3, h.4, h.5, h.6)

extern_fits : (f : FnRow) → list_any is_bound_entry f.3 ≡ false → (extern_fields true).Fits f → (extern_fields false).Fits f
extern_fits f e h = (h.0, h.1, h.2, entries_fit f.3 e h.3, h.4, h.5, h.6)

fn_fits : (p : Program) (f : Func) (notes : List Note) → list_any is_bound_entry f.clause ≡ false → FitsFunction true p f notes →
    FitsFunction false p f notes
fn_fits p f notes e fits = record {
  rows = (by f.external fits.rows.0, all_alike (instances p f) (list_rows (body_draft f notes)) (list_alike (maps_of notes) 0 f.body) fits.rows.1);
  depth = fits.depth;
  blank = fits.blank;
  bounds = fits.bounds;
  listed = fits.listed;
}
  where
    by : (b : Bool) → FitsRow (fn_shape true p f) (if b then external (fn_row f) else function (fn_row f)) →
        FitsRow (fn_shape false p f) (if b then external (fn_row f) else function (fn_row f))
    by true h = extern_fits (fn_row f) e h
    by false h = row_fits (fn_row f) e h

fns_fit : (p : Program) (fs : List Func) (all : List (List Note)) → list_any (λ f. list_any is_bound_entry f.clause) fs ≡ false →
    FitFunctions true p fs all → FitFunctions false p fs all
fns_fit p [] [] e fits = tt
fns_fit p [] (n ∷ all) e fits = fits
fns_fit p (f ∷ fs) [] e fits = fits
fns_fit p (f ∷ fs) (notes ∷ all) e fits =
    let q = neither (list_any is_bound_entry f.clause) (list_any (λ f. list_any is_bound_entry f.clause) fs) e in
    (fn_fits p f notes q.0 fits.0, fns_fit p fs all q.1 fits.1)

pub written_version : (p : Program) (all : List (List Note)) → FitsCertificate true p all → FitsCertificate (is_ordered p) p all
written_version p all fits = by (is_ordered p) refl
  where
    by : (b : Bool) → is_ordered p ≡ b → FitsCertificate b p all
    by true e = fits
    by false e =
        let q = neither (list_any (λ d. is_linked d.links) p.sets) (list_any (λ f. list_any is_bound_entry f.clause) p.fns) e in
        record {
          tables = all_joined (FitsRow (shape false None)) (map states p.sets) (flat_map type_rows p.types)
              (sets_fit p.sets q.0 (all_left (FitsRow (shape true None)) (map states p.sets) (flat_map type_rows p.types) fits.tables))
              (all_alike None (flat_map type_rows p.types) (types_alike p.types)
              (all_right (FitsRow (shape true None)) (map states p.sets) (flat_map type_rows p.types) fits.tables));
          functions = fns_fit p p.fns all q.1 fits.functions;
          few = fits.few;
          main = fits.main;
          unplaced = fits.unplaced;
        }
