-- What is written of a program that has a certificate is the certificate.
use Rattle.std.proofs.Common.{◌≡◌, ◌≤◌, ◌||◌, refl, ap, ◌∙◌, subst, Bool, true, false, List, [], ◌∷◌, map, None, arith}
use Rattle.serde_json.specs.Data.{Data, depth, items_depth}
use Rattle.serde_json.specs.Written.{has_float, items_have_float}
use Rattle.serde_json.specs.View.{items_of}
use Rattle.vlt_core.specs.Core.{Func, Program}
use Rattle.cert_rows.specs.Parts.{All, list}
use Rattle.cert_rows.specs.Values.{Shape}
use Rattle.cert_rows.specs.Rows.{Row, version, row_data, FitsRow}
use Rattle.cert_rows.proofs.Exact.{rows_exact}
use Rattle.cert_format.specs.Text.{is_plain}
use Rattle.cert_format.specs.Notes.{Note}
use Rattle.cert_format.specs.Certificate.{shape, fn_shape, function_rows, functions_data, table_rows, program_data, FitFunctions, FitsCertificate}
use Rattle.cert_format_laws.specs.Texts.{IsWritten}
use Rattle.cert_format_laws.proofs.Decoding.{all_joined}
use Rattle.cert_format_laws.proofs.Answering.{body_same}
use Rattle.cert_format_laws.proofs.Plain.{HasPlain, plain_text}
use Rattle.cert_format_laws.proofs.Plainly.{rows_are_plain, items_plain}

record Good (d : Data) : Type 0 where
  nests : depth d ≤ 5
  exact : has_float d ≡ false
  plain : HasPlain d

row_good : (w : Shape) (r : Row) → FitsRow w r → Good (row_data w r)
row_good w r h = let t = rows_exact w r in record { nests = t.nests; exact = t.whole; plain = rows_are_plain w r h }

rows_good : (w : Shape) (rs : List Row) → All (FitsRow w) rs → All Good (map (row_data w) rs)
rows_good w [] h = tt
rows_good w (r ∷ rs) h = (row_good w r h.0, rows_good w rs h.1)

functions_good : (o : Bool) (p : Program) (fs : List Func) (all : List (List Note)) → FitFunctions o p fs all → All Good (functions_data o p fs all)
functions_good o p [] [] fits = tt
functions_good o p [] (n ∷ all) fits = absurd fits
functions_good o p (f ∷ fs) [] fits = absurd fits
functions_good o p (f ∷ fs) (notes ∷ all) fits =
    all_joined Good (map (row_data (fn_shape o p f)) (function_rows f notes)) (functions_data o p fs all)
    (rows_good (fn_shape o p f) (function_rows f notes) fits.0.rows) (functions_good o p fs all fits.1)

version_fits : (o : Bool) → FitsRow (shape o None) (version o)
version_fits true = ((omega arith, refl), refl)
version_fits false = ((omega arith, refl), refl)

program_good : (o : Bool) (p : Program) (all : List (List Note)) → FitsCertificate o p all → All Good (program_data o p all)
program_good o p all fits = (
  row_good (shape o None) (version o) (version_fits o),
  all_joined Good (map (row_data (shape o None)) (table_rows p)) (functions_data o p p.fns all)
      (rows_good (shape o None) (table_rows p) fits.tables) (functions_good o p p.fns all fits.functions),
)

neither : (a b : Bool) → a ≡ false → b ≡ false → (a || b) ≡ false
neither a b p q = ap (λ x. x || b) p ∙ q

items_exact : (ds : List Data) → All Good ds → (items_depth (items_of ds) ≤ 5) × (items_have_float (items_of ds) ≡ false)
items_exact [] h = (omega arith, refl)
items_exact (d ∷ ds) h =
    let rest = items_exact ds h.1 in
    let a = h.0.nests in
    let b = rest.0 in
    (omega (arith, a, b), neither (has_float d) (items_have_float (items_of ds)) h.0.exact rest.1)

all_plain : (ds : List Data) → All Good ds → All HasPlain ds
all_plain [] h = tt
all_plain (d ∷ ds) h = (h.0.plain, all_plain ds h.1)

pub written : (o : Bool) (p : Program) (all : List (List Note)) → FitsCertificate o p all → IsWritten o p all
written o p all fits =
    let good = program_good o p all fits in
    let t = items_exact (program_data o p all) good in
    record {
      exact = record { nests = let a = t.0 in omega (arith, a); whole = t.1 };
      certificate = λ bytes x. record {
        ordered = o;
        json = record { body = bytes; marks = refl; utf8 = x.utf8; value = x.reads_back };
        plain = λ body e. subst (λ z. is_plain z ≡ true) (body_same bytes body e)
            (plain_text bytes (list (program_data o p all))
            (items_plain (program_data o p all) (all_plain (program_data o p all) good)) x.order);
        fits = fits;
      };
    }
