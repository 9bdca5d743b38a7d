-- The rows of a program nest little, and their numbers are whole.
use Rattle.std.proofs.Common.{◌≤◌, Bool, List, [], ◌∷◌, map, None, arith}
use Rattle.serde_json.specs.Data.{Data, depth, items_depth}
use Rattle.serde_json.specs.View.{items_of}
use Rattle.vlt_core.specs.Core.{Func, Program}
use Rattle.cert_rows.specs.Parts.{list}
use Rattle.cert_rows.specs.Values.{Shape}
use Rattle.cert_rows.specs.Rows.{Row, version, row_data}
use Rattle.cert_rows.specs.Laws.{IsExact, RowsAreExact}
use Rattle.cert_format.specs.Notes.{Note}
use Rattle.cert_format.specs.Certificate.{shape, fn_shape, function_rows, functions_data, table_rows, program_data}
use Rattle.cert_format_laws.proofs.Decoding.{all_joined}
use Rattle.cert_write.specs.Rows.{AreExact}

items_shallow : (ds : List Data) → AreExact ds → items_depth (items_of ds) ≤ 5
items_shallow [] h = omega arith
items_shallow (d ∷ ds) h = let a = h.0.nests in let b = items_shallow ds h.1 in omega (arith, a, b)

pub shallow : (ds : List Data) → AreExact ds → depth (list ds) ≤ 127
shallow ds h = let a = items_shallow ds h in omega (arith, a)

module _ (exact : RowsAreExact) where
  rows_exact : (w : Shape) (rows : List Row) → AreExact (map (row_data w) rows)
  rows_exact w [] = tt
  rows_exact w (r ∷ rows) = (exact w r, rows_exact w rows)

  functions_exact : (o : Bool) (p : Program) (fs : List Func) (all : List (List Note)) → AreExact (functions_data o p fs all)
  functions_exact o p [] all = tt
  functions_exact o p (f ∷ fs) [] =
      all_joined (IsExact 5) (map (row_data (fn_shape o p f)) (function_rows f [])) (functions_data o p fs [])
      (rows_exact (fn_shape o p f) (function_rows f [])) (functions_exact o p fs [])
  functions_exact o p (f ∷ fs) (notes ∷ all) =
      all_joined (IsExact 5) (map (row_data (fn_shape o p f)) (function_rows f notes)) (functions_data o p fs all)
      (rows_exact (fn_shape o p f) (function_rows f notes)) (functions_exact o p fs all)

  pub program_exact : (o : Bool) (p : Program) (all : List (List Note)) → AreExact (program_data o p all)
  program_exact o p all = (
    exact (shape o None) (version o),
    all_joined (IsExact 5) (map (row_data (shape o None)) (table_rows p)) (functions_data o p p.fns all)
        (rows_exact (shape o None) (table_rows p)) (functions_exact o p p.fns all),
  )
