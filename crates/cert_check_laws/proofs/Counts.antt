-- A program has fewer statements than the text of its certificate has bytes.
use Rattle.std.proofs.Common.{◌≡◌, ◌≤◌, ◌<◌, ◌+◌, ℕ, zero, suc, Bool, List, [], ◌∷◌, ◌++◌, map, length, take, None, refl, ap, arith}
use Rattle.std.specs.List.{fold}
use Rattle.std.proofs.lemmas.List.{length-append, length-map}
use Rattle.vlt_core.specs.Core as core
use Rattle.vlt_core.specs.Core.{Func, Program}
use Rattle.vlt_core.specs.Bodies.{body_flow}
use Rattle.vlt_core.specs.Flow as flow
use Rattle.vlt_core.specs.Least.{first_number}
use Rattle.cert_rows.specs.Rows.{row_data}
use Rattle.cert_format.specs.Text.{opening, closing, marked}
use Rattle.cert_format.specs.Notes.{Note, MapNotes, maps_of}
use Rattle.cert_format.specs.Drafts.{Draft, plain, choose, loop, switch, focus, scope, Block, block, Drafts, done, next, Arms, no_arms, arm, draft_rows, block_rows, list_rows, arms_rows}
use Rattle.cert_format.specs.Bodies.{size, size_block, size_list, size_arms, count_list, list_draft}
use Rattle.cert_format.specs.Certificate.{shape, fn_shape, body_draft, function_rows, functions_data, table_rows, program_data, IsCertificateOf}
use Rattle.cert_fit_laws.proofs.Sizes.{flow_size_block, draft_size_block}
use Rattle.cert_check_laws.proofs.Texts.{few_items}

-- ---- each statement has a row

mutual
  draft_count : (d : Draft) → length (draft_rows d) ≡ size d
  draft_count (plain r) = refl
  draft_count (choose e a b m) = omega (arith, length-append (block_rows a) (block_rows b), block_count a, block_count b)
  draft_count (loop e a m k) = omega (arith, block_count a)
  draft_count (switch v arms m) = omega (arith, arms_count arms)
  draft_count (focus y z a) = omega (arith, block_count a)
  draft_count (scope a) = omega (arith, block_count a)

  block_count : (b : Block) → length (block_rows b) ≡ size_block b
  block_count (block n bound ss) = list_count ss

  list_count : (ss : Drafts) → length (list_rows ss) ≡ size_list ss
  list_count done = refl
  list_count (next f rest) = omega (arith, length-append (draft_rows f) (list_rows rest), draft_count f, list_count rest)

  arms_count : (arms : Arms) → length (arms_rows arms) ≡ size_arms arms
  arms_count no_arms = refl
  arms_count (arm c vs b rest) = omega (arith, length-append (block_rows b) (arms_rows rest), block_count b, arms_count rest)

list_size : (a : MapNotes) (n : ℕ) (ss : core.Stmts) → size_list (list_draft a n ss) ≡ count_list ss
list_size a n ss = draft_size_block a (core.block ss [] 0) n

flow_count : (p : Program) (f : Func) → flow.size_block (body_flow p f) ≡ count_list f.body
flow_count p f = flow_size_block p f (core.block f.body [] f.end) []

function_count : (f : Func) (notes : List Note) → length (function_rows f notes) ≡ suc (count_list f.body)
function_count f notes = omega (arith, list_count (body_draft f notes), list_size (maps_of notes) 0 f.body)

-- ---- all functions

abbrev sizes : List Func → ℕ
sizes [] = 0
sizes (f ∷ fs) = count_list f.body + sizes fs

rows_of_all : (o : Bool) (p : Program) (fs : List Func) (all : List (List Note)) → sizes fs ≤ length (functions_data o p fs all)
rows_of_all o p [] all = omega arith
rows_of_all o p (f ∷ fs) [] =
    let row = row_data (fn_shape o p f) in
    omega (arith, length-append (map row (function_rows f [])) (functions_data o p fs []), length-map (function_rows f []) row, function_count f [], rows_of_all o p fs [])
rows_of_all o p (f ∷ fs) (notes ∷ all) =
    let row = row_data (fn_shape o p f) in
    omega (arith, length-append (map row (function_rows f notes)) (functions_data o p fs all), length-map (function_rows f notes) row, function_count f notes, rows_of_all o p fs all)

sum_below : (p : Program) (fs : List Func) (g n : ℕ) → fold (λ a f. a + flow.size_block (body_flow p f)) n (take g fs) ≤ n + sizes fs
sum_below p [] zero n = omega arith
sum_below p [] (suc g) n = omega arith
sum_below p (f ∷ fs) zero n = omega arith
sum_below p (f ∷ fs) (suc g) n = let rest = sum_below p fs g (n + flow.size_block (body_flow p f)) in let same = flow_count p f in omega (arith, rest, same)

marked_longer : (body : List ℕ) → length body ≤ length (marked body)
marked_longer body = omega (arith, length-append opening (body ++ closing), length-append body closing)

pub few_statements : (text : List ℕ) (p : Program) (all : List (List Note)) → IsCertificateOf text p all → (g : ℕ) → first_number p g < length text
few_statements text p all is g =
    let o = is.ordered in
    let items = few_items is.json.body (program_data o p all) is.json.value in
    let tables = map (row_data (shape o None)) (table_rows p) in
    let joined = length-append tables (functions_data o p p.fns all) in
    let rows = rows_of_all o p p.fns all in
    let sum = sum_below p p.fns g 0 in
    let longer = marked_longer is.json.body in
    let same = ap length is.json.marks in
    omega (arith, items, joined, rows, sum, longer, same)
