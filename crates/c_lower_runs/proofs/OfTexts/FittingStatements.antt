-- The code of operands and of statements without blocks keeps the limits on blocks and expressions.
use Rattle.std.proofs.Common.{◌≡◌, ◌≤◌, ℕ, suc, Bool, true, false, if◌then◌else◌, List, [], ◌∷◌, ◌++◌, map, filter, Option, Some, None, refl, arith}
use Rattle.std.proofs.lemmas.Bool.Decides.{nat_tests}
use Rattle.std.specs.List.{flat_map, enumerate_from}
use Rattle.vlt_core.specs.Core as core
use Rattle.vlt_core.specs.Core.{Ty, Expr, Operand, Simple, Func, Program, pure, move, pack}
use Rattle.vlt_core.specs.Lookups.{fields_of, var_type}
use Rattle.vlt_core.specs.Proper.{has_arities, all_in_operand, all_in_operands, all_in_simple, all_in_return}
use Rattle.c_syntax.specs.declared.program.CVar.{CVar}
use Rattle.c_syntax.specs.declared.program.CCell.{CCell}
use Rattle.c_syntax.specs.declared.program.CPrim.{CPrim}
use Rattle.c_syntax.specs.declared.program.CPrim.TheVariants as prim
use Rattle.c_syntax.specs.C as c
use Rattle.c_syntax.specs.C.{Call}
use Rattle.c_syntax.specs.Grammar.{HasNoText, IsCall}
use Rattle.c_lower.specs.Slots.{Numbers, vars_at, slot_vars, slot_of, Slot, var_slots, is_owner_sort, cell_counts, field_cells, object_type, touched_cells, cell_sorts}
use Rattle.c_lower.specs.Guards as g
use Rattle.c_lower.specs.Expressions.{Atom, atom_expr, atom_arg, first_atom, expr_code, operand_code, operand_codes}
use Rattle.c_lower.specs.Statements.{runtime_call, runtime_value, count_arg, field_puts, owner_atoms, make_code, owner_slots, swap_slot, swap_slots, open_slots, open_fields, owning_positions, variant_type, case_positions, atom_for, build_slots, after_first, simple_code, is_variant, result_gets, number_vars, reference_vars, results, call_stmts, call_code, name_of, is_reference_atom, is_alike, result_puts, rest_puts, return_stmts, return_code}
use Rattle.c_lower_worlds.proofs.OfOperators.Guards.{and_left, and_right}
use Rattle.c_lower_runs.specs.Texts.Printable.{depth, is_shallow}
use Rattle.c_lower_runs.proofs.OfTexts.Fitting.{Fits, AllFit, fits_both, fits_mapped, atom_no_text, atoms_no_text, set_atom, put_atom, set_one, return_fits, nothing_fits, call_fits, set_call_fits, runtime_fits, value_fits}
use Rattle.c_lower_runs.proofs.OfTexts.FittingCode.{copies_fit, puts_fit, expr_fits}

pub shallow : (e : Expr) → is_shallow e ≡ true → depth e ≤ 64
shallow e h = grind (arith, nat_tests)

pub expr_fit : (p : Program) (f : Func) (room : ℕ) (t : Numbers) (e : Expr) → 64 ≤ room → has_arities e ≡ true → is_shallow e ≡ true → AllFit room (expr_code p f t e).stmts
expr_fit p f room t e r h s = expr_fits p f room t e h (let d = shallow e s in omega (arith, r, d))

pub operand_fits : (p : Program) (f : Func) (room : ℕ) (t : Numbers) (o : Operand) → 64 ≤ room → all_in_operand has_arities o ≡ true → all_in_operand is_shallow o ≡ true →
    AllFit room (operand_code p f t o).stmts
operand_fits p f room t (pure e) r h s = expr_fit p f room t e r h s
operand_fits p f room t (move v) r h s = tt
operand_fits p f room t (pack x states) r h s = tt

pub operands_fit : (p : Program) (f : Func) (room : ℕ) (t : Numbers) (os : List Operand) → 64 ≤ room → all_in_operands has_arities os ≡ true → all_in_operands is_shallow os ≡ true →
    AllFit room (operand_codes p f t os).stmts
operands_fit p f room t [] r h s = tt
operands_fit p f room t (o ∷ os) r h s =
    let first = operand_code p f t o in
    let rest = operand_codes p f first.next os in
    fits_both room first.stmts rest.stmts
    (operand_fits p f room t o r (and_left (all_in_operand has_arities o) (all_in_operands has_arities os) h) (and_left (all_in_operand is_shallow o) (all_in_operands is_shallow os) s))
    (operands_fit p f room first.next os r (and_right (all_in_operand has_arities o) (all_in_operands has_arities os) h) (and_right (all_in_operand is_shallow o) (all_in_operands is_shallow os) s))

-- ---- statements without blocks

field_puts_fit : (p : Program) (room type block i : ℕ) (atoms : List (List Atom)) → AllFit room (field_puts p type block i atoms)
field_puts_fit p room type block i [] = tt
field_puts_fit p room type block i (atoms ∷ rest) =
    fits_both room _ (field_puts p type block (suc i) rest) (puts_fit room (field_cells p type i block) atoms) (field_puts_fit p room type block (suc i) rest)

make_fits : (p : Program) (f : Func) (room : ℕ) (t : Numbers) (x : ℕ) (os : List Operand) → AllFit room (operand_codes p f t os).stmts → AllFit room (make_code p f t x os).stmts
make_fits p f room t x os h =
    let args = operand_codes p f t os in
    let block = slot_of p f x in
    let type = object_type f x in
    let counts = cell_counts p type in
    let made = runtime_value block prim.New (count_arg counts.n ∷ count_arg counts.p ∷ []) in
    let fields = field_puts p type block.number 0 args.atoms in
    let atoms = owner_atoms p type 0 args.atoms in
    fits_both room (args.stmts ++ made ∷ fields) (map (λ a. runtime_call prim.Own (atom_arg a ∷ c.variable block ∷ [])) atoms)
    (fits_both room args.stmts (made ∷ fields) h
    (value_fits room block prim.New (count_arg counts.n ∷ count_arg counts.p ∷ []) tt, field_puts_fit p room type block.number 0 args.atoms))
    (fits_mapped room (λ a. runtime_call prim.Own (atom_arg a ∷ c.variable block ∷ [])) atoms
    (λ a. runtime_fits room prim.Own (atom_arg a ∷ c.variable block ∷ []) (atom_no_text a (c.variable block ∷ []) tt)))

variable_set : (room : ℕ) (v w : CVar) → Fits room (c.set v (c.variable w))
variable_set room v w = set_one room v (c.variable w) tt refl

cell_set : (room : ℕ) (v : CVar) (x : CCell) → Fits room (c.set v (c.cell x))
cell_set room v x = set_one room v (c.cell x) tt refl

variable_put : (room : ℕ) (x : CCell) (v : CVar) → Fits room (c.put x (c.variable v))
variable_put room x v = put_atom room x (Atom.variable v)

swap_fits : (room : ℕ) (block temp : CVar) (x : CCell) (s : Slot) → AllFit room (swap_slot block temp x s)
swap_fits room block temp x s =
    fits_both room
    (c.set temp (c.cell x) ∷ (if is_owner_sort s.sort then runtime_call prim.Disown (c.variable temp ∷ []) ∷ runtime_call prim.Own (c.variable s.var ∷ c.variable block ∷ []) ∷ [] else []))
    (c.put x (c.variable s.var) ∷ c.set s.var (c.variable temp) ∷ [])
    (cell_set room temp x, by (is_owner_sort s.sort)) (variable_put room x s.var, (variable_set room s.var temp, tt))
  where
    by : (b : Bool) → AllFit room (if b then runtime_call prim.Disown (c.variable temp ∷ []) ∷ runtime_call prim.Own (c.variable s.var ∷ c.variable block ∷ []) ∷ [] else [])
    by true = (runtime_fits room prim.Disown (c.variable temp ∷ []) tt, (runtime_fits room prim.Own (c.variable s.var ∷ c.variable block ∷ []) tt, tt))
    by false = tt

swaps_fit : (room : ℕ) (block : CVar) (temps : List CVar) (cells : List CCell) (slots : List Slot) → AllFit room (swap_slots block temps cells slots)
swaps_fit room block (temp ∷ temps) (x ∷ cells) (s ∷ slots) =
    fits_both room (swap_slot block temp x s) (swap_slots block temps cells slots) (swap_fits room block temp x s) (swaps_fit room block temps cells slots)
swaps_fit room block [] cells slots = tt
swaps_fit room block (temp ∷ temps) [] slots = tt
swaps_fit room block (temp ∷ temps) (x ∷ cells) [] = tt

opens_fit : (room : ℕ) (cells : List CCell) (slots : List Slot) → AllFit room (open_slots cells slots)
opens_fit room (x ∷ cells) (s ∷ slots) =
    fits_both room (c.set s.var (c.cell x) ∷ (if is_owner_sort s.sort then runtime_call prim.Disown (c.variable s.var ∷ []) ∷ [] else [])) (open_slots cells slots)
    (cell_set room s.var x, by (is_owner_sort s.sort)) (opens_fit room cells slots)
  where
    by : (b : Bool) → AllFit room (if b then runtime_call prim.Disown (c.variable s.var ∷ []) ∷ [] else [])
    by true = (runtime_fits room prim.Disown (c.variable s.var ∷ []) tt, tt)
    by false = tt
opens_fit room [] slots = tt
opens_fit room (x ∷ cells) [] = tt

open_fields_fit : (p : Program) (f : Func) (room x : ℕ) (is vs : List ℕ) → AllFit room (open_fields p f x is vs)
open_fields_fit p f room x (i ∷ is) (v ∷ vs) =
    fits_both room (open_slots (touched_cells p f x i) (var_slots p f v)) (open_fields p f x is vs) (opens_fit room (touched_cells p f x i) (var_slots p f v)) (open_fields_fit p f room x is vs)
open_fields_fit p f room x [] vs = tt
open_fields_fit p f room x (i ∷ is) [] = tt

builds_fit : (room i : ℕ) (positions : List ℕ) (atoms : List Atom) (slots : List Slot) → AllFit room (build_slots i positions atoms slots)
builds_fit room i positions atoms [] = tt
builds_fit room i positions atoms (s ∷ slots) = (set_atom room s.var (atom_for s.sort i positions atoms), builds_fit room (suc i) positions atoms slots)

pub simple_fits : (p : Program) (f : Func) (room : ℕ) (t : Numbers) (s : Simple) → 64 ≤ room → all_in_simple has_arities s ≡ true → all_in_simple is_shallow s ≡ true →
    AllFit room (simple_code p f t s).stmts
simple_fits p f room t (core.set v e) r h d =
    let x = expr_code p f t e in fits_both room x.stmts _ (expr_fit p f room t e r h d) (copies_fit room (slot_vars p f v) x.atoms)
simple_fits p f room t (core.input v more) r h d = (value_fits room (slot_of p f v) (if more then prim.More else prim.Read) [] tt, tt)
simple_fits p f room t (core.print e) r h d =
    let x = expr_code p f t e in
    fits_both room x.stmts (runtime_call prim.Print (atom_arg (first_atom x.atoms) ∷ []) ∷ []) (expr_fit p f room t e r h d)
    (runtime_fits room prim.Print (atom_arg (first_atom x.atoms) ∷ []) (atom_no_text (first_atom x.atoms) [] tt), tt)
simple_fits p f room t (core.put x i e) r h d =
    let y = expr_code p f t e in fits_both room y.stmts _ (expr_fit p f room t e r h d) (puts_fit room (touched_cells p f x i) y.atoms)
simple_fits p f room t (core.make x os) r h d = make_fits p f room t x os (operands_fit p f room t os r h d)
simple_fits p f room t (core.become x state) r h d = tt
simple_fits p f room t (core.release x) r h d = (runtime_fits room prim.Release (c.variable (slot_of p f x) ∷ []) tt, tt)
simple_fits p f room t (core.drop v) r h d =
    fits_mapped room (λ s. runtime_call prim.Release (c.variable s ∷ [])) (owner_slots (var_slots p f v)) (λ s. runtime_fits room prim.Release (c.variable s ∷ []) tt)
simple_fits p f room t (core.own v o) r h d =
    let x = operand_code p f t o in fits_both room x.stmts _ (operand_fits p f room t o r h d) (copies_fit room (slot_vars p f v) x.atoms)
simple_fits p f room t (core.unpack x v) r h d = (variable_set room (slot_of p f x) (slot_of p f v), tt)
simple_fits p f room t (core.build v k os) r h d =
    let args = operand_codes p f t os in
    fits_both room args.stmts
    (c.set (slot_of p f v) (g.whole k) ∷ build_slots 1 (case_positions p (variant_type f v) k) (map first_atom args.atoms) (after_first (var_slots p f v)))
    (operands_fit p f room t os r h d)
    (set_one room (slot_of p f v) (g.whole k) tt refl, builds_fit room 1 (case_positions p (variant_type f v) k) (map first_atom args.atoms) (after_first (var_slots p f v)))
simple_fits p f room t (core.swap x i v) r h d = swaps_fit room (slot_of p f x) (vars_at t (cell_sorts p f x i)) (touched_cells p f x i) (var_slots p f v)
simple_fits p f room t (core.open_into x vs) r h d =
    let is = owning_positions (fields_of p (object_type f x)) in
    fits_both room (open_fields p f x is vs) (runtime_call prim.Release (c.variable (slot_of p f x) ∷ []) ∷ []) (open_fields_fit p f room x is vs)
    (runtime_fits room prim.Release (c.variable (slot_of p f x) ∷ []) tt, tt)
simple_fits p f room t (core.adopt y x r2) r h d = (
  runtime_fits room prim.Own (c.variable (slot_of p f x) ∷ c.variable (slot_of p f r2) ∷ []) tt,
  (variable_set room (slot_of p f y) (slot_of p f x), tt),
)

-- ---- calls and returns

gets_fit : (room : ℕ) (f : CPrim) (vs : List CVar) → AllFit room (result_gets f vs)
gets_fit room f vs = fits_mapped room (λ q. runtime_value q.1 f (count_arg q.0 ∷ [])) (enumerate_from 0 vs) (λ q. value_fits room q.1 f (count_arg q.0 ∷ []) tt)

results_fit : (room : ℕ) (vs : List CVar) → AllFit room (results vs)
results_fit room vs =
    fits_both room (result_gets prim.GetN (number_vars vs)) (result_gets prim.GetP (reference_vars vs)) (gets_fit room prim.GetN (number_vars vs)) (gets_fit room prim.GetP (reference_vars vs))

flat_no_text : (atoms : List (List Atom)) → HasNoText (flat_map (map atom_arg) atoms)
flat_no_text [] = tt
flat_no_text (x ∷ atoms) = atoms_no_text x (flat_map (map atom_arg) atoms) (flat_no_text atoms)

call_stmts_fit : (p : Program) (f : Func) (room : ℕ) (call : Call) (target : Option ℕ) → IsCall call → AllFit room (call_stmts p f call target)
call_stmts_fit p f room call None h = (call_fits room call h, tt)
call_stmts_fit p f room call (Some v) h = (set_call_fits room (slot_of p f v) call h, by (is_variant (var_type f v)))
  where
    by : (b : Bool) → AllFit room (if b then results (after_first (slot_vars p f v)) else [])
    by true = results_fit room (after_first (slot_vars p f v))
    by false = tt

pub call_code_fits : (p : Program) (f : Func) (room : ℕ) (t : Numbers) (g : ℕ) (target : Option ℕ) (os : List Operand) → 64 ≤ room → all_in_operands has_arities os ≡ true →
    all_in_operands is_shallow os ≡ true → AllFit room (call_code p f t g target os).stmts
call_code_fits p f room t g target os r h d =
    let args = operand_codes p f t os in
    let call : Call = c.function (name_of p g) (flat_map (map atom_arg) args.atoms) in
    fits_both room args.stmts (call_stmts p f call target) (operands_fit p f room t os r h d) (call_stmts_fit p f room call target (flat_no_text args.atoms))

result_puts_fit : (room : ℕ) (f : CPrim) (atoms : List Atom) → AllFit room (result_puts f atoms)
result_puts_fit room f atoms =
    fits_mapped room (λ q. runtime_call f (count_arg q.0 ∷ atom_arg q.1 ∷ [])) (enumerate_from 0 atoms)
    (λ q. runtime_fits room f (count_arg q.0 ∷ atom_arg q.1 ∷ []) (atom_no_text q.1 [] tt))

pub return_stmts_fit : (room : ℕ) (ty : Option Ty) (atoms : List Atom) → AllFit room (return_stmts ty atoms)
return_stmts_fit room ty atoms =
    fits_both room (if is_variant ty then rest_puts (after_first atoms) else []) (c.return (Some (atom_expr (first_atom atoms))) ∷ []) (by (is_variant ty)) (return_fits room (first_atom atoms), tt)
  where
    by : (b : Bool) → AllFit room (if b then rest_puts (after_first atoms) else [])
    by true =
        fits_both room (result_puts prim.PutN (filter (λ a. is_alike (is_reference_atom a) false) (after_first atoms))) (result_puts prim.PutP (filter is_reference_atom (after_first atoms)))
        (result_puts_fit room prim.PutN (filter (λ a. is_alike (is_reference_atom a) false) (after_first atoms))) (result_puts_fit room prim.PutP (filter is_reference_atom (after_first atoms)))
    by false = tt

pub return_fit : (p : Program) (f : Func) (room : ℕ) (t : Numbers) (o : Option Operand) → 64 ≤ room → all_in_return has_arities o ≡ true → all_in_return is_shallow o ≡ true →
    AllFit room (return_code p f t o).stmts
return_fit p f room t None r h d = (nothing_fits room, tt)
return_fit p f room t (Some o) r h d =
    let x = operand_code p f t o in fits_both room x.stmts (return_stmts f.result x.atoms) (operand_fits p f room t o r h d) (return_stmts_fit room f.result x.atoms)
