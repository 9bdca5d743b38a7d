-- Slots, atoms and cells have the types of their sorts.
use Rattle.std.proofs.Common.{◌≡◌, ◌≤◌, ◌<◌, ℕ, zero, suc, Bool, true, false, if◌then◌else◌, List, [], ◌∷◌, map, take, Some, slice_get, refl, sym, subst, arith, ◌+◌, length}
use Rattle.vlt_core.specs.Core.{Ty, FieldDecl, Func, Program}
use Rattle.vlt_core.specs.Lookups.{var_type, fields_of}
use Rattle.c_syntax.specs.declared.program.CResult.{CResult}
use Rattle.c_syntax.specs.declared.program.CResult.TheVariants as result
use Rattle.c_syntax.specs.declared.program.CVar.{CVar}
use Rattle.c_syntax.specs.declared.program.CCell.{CCell}
use Rattle.c_syntax.specs.C as c
use Rattle.c_syntax.specs.Text.{max_number}
use Rattle.c_syntax.specs.Kinds.{value, type_of}
use Rattle.c_lower.specs.Slots.{Sort, of_number, of_reference, of_owner, slot_sorts, sorts_of, Numbers, first_numbers, past, past_all, var_at, vars_at, slot_vars, slot_of, first_slot, first_temps, cell_at, cells_at, field_sorts, cell_counts, sorts_of_field, sorts_at, field_cells, object_type, touched_cells, cell_sorts}
use Rattle.c_lower.specs.Expressions.{Atom, number, variable, null, atom_expr, atom_arg, first_atom, copies, reads}
use Rattle.c_lower.specs.Statements.{puts}
use Rattle.c_lower_worlds.specs.Operators.Codes.{IsBelow, AreUpTo}
use Rattle.c_lower_worlds.proofs.OfOperators.Codes.{up_self, more_more, below_more}
use Rattle.c_lower_worlds.proofs.OfOperators.Expressions.{up_all}
use Rattle.c_lower_worlds.proofs.OfOperators.Slots.{past_all_append}
use Rattle.c_lower_worlds.specs.Naming.Lists.{Each}
use Rattle.c_lower_worlds.proofs.VariableSlots.{below_temps}
use Rattle.c_lower_runs.proofs.OfTexts.Ruled.{Place, IsKnown, IsVar, IsCell, IsTyped, Suits, IsRuled, AllRuled}

abbrev pub kind_of : Sort → CResult
kind_of of_number = result.Number
kind_of _ = result.Reference

pub var_type_is : (t : Numbers) (s : Sort) → type_of (var_at t s) ≡ kind_of s
var_type_is t of_number = refl
var_type_is t of_reference = refl
var_type_is t of_owner = refl

-- a variable for each sort
abbrev pub VarsFit : Place → List Sort → List CVar → Type 0
VarsFit a [] [] = Unit {0}
VarsFit a (s ∷ ss) (v ∷ vs) = IsVar a (kind_of s) v × VarsFit a ss vs
VarsFit a _ _ = ⊥

-- an atom for each sort
abbrev pub AtomsFit : Place → List Sort → List Atom → Type 0
AtomsFit a [] [] = Unit {0}
AtomsFit a (s ∷ ss) (x ∷ xs) = IsTyped a (kind_of s) (atom_expr x) × AtomsFit a ss xs
AtomsFit a _ _ = ⊥

abbrev pub CellsFit : Place → List Sort → List CCell → Type 0
CellsFit a [] [] = Unit {0}
CellsFit a (s ∷ ss) (x ∷ xs) = IsCell a (kind_of s) x × CellsFit a ss xs
CellsFit a _ _ = ⊥

-- ---- numbers

-- numbers go up by one for a sort at most
pub numbers_long : (t : Numbers) (ss : List Sort) → (past_all t ss).n ≤ t.n + length ss
numbers_long t [] = omega arith
numbers_long t (of_number ∷ ss) = let k = numbers_long (past t of_number) ss in omega (arith, k)
numbers_long t (of_reference ∷ ss) = let k = numbers_long (past t of_reference) ss in omega (arith, k)
numbers_long t (of_owner ∷ ss) = let k = numbers_long (past t of_owner) ss in omega (arith, k)

pub references_long : (t : Numbers) (ss : List Sort) → (past_all t ss).p ≤ t.p + length ss
references_long t [] = omega arith
references_long t (of_number ∷ ss) = let k = references_long (past t of_number) ss in omega (arith, k)
references_long t (of_reference ∷ ss) = let k = references_long (past t of_reference) ss in omega (arith, k)
references_long t (of_owner ∷ ss) = let k = references_long (past t of_owner) ss in omega (arith, k)

-- ---- variables

pub vars_fit_below : (a : Place) (t : Numbers) (ss : List Sort) → Each (IsBelow a.most) (vars_at t ss) → VarsFit a ss (vars_at t ss)
vars_fit_below a t [] h = tt
vars_fit_below a t (s ∷ ss) h = (record { known = h.0; type = var_type_is t s }, vars_fit_below a (past t s) ss h.1)

pub temp_known : (a : Place) (t : Numbers) (s : Sort) → AreUpTo (past t s) a.most → IsVar a (kind_of s) (var_at t s)
temp_known a t of_number up = record { known = let n = up.n in omega (arith, n); type = refl }
temp_known a t of_reference up = record { known = let n = up.p in omega (arith, n); type = refl }
temp_known a t of_owner up = record { known = let n = up.p in omega (arith, n); type = refl }

pub temps_fit : (a : Place) (t : Numbers) (ss : List Sort) → AreUpTo (past_all t ss) a.most → VarsFit a ss (vars_at t ss)
temps_fit a t [] up = tt
temps_fit a t (s ∷ ss) up = (temp_known a t s (more_more (up_all (past t s) ss) up), temps_fit a (past t s) ss up)

pub slots_fit : (a : Place) (p : Program) (f : Func) (v : ℕ) → AreUpTo (first_temps p f) a.most → VarsFit a (sorts_of p (var_type f v)) (slot_vars p f v)
slots_fit a p f v up = vars_fit_below a _ (sorts_of p (var_type f v)) (by (slot_vars p f v) (below_temps p f v))
  where
    by : (vs : List CVar) → Each (IsBelow (first_temps p f)) vs → Each (IsBelow a.most) vs
    by [] h = tt
    by (v ∷ vs) h = (below_more up v h.0, by vs h.1)

pub typed_slots_fit : (a : Place) (p : Program) (f : Func) (v : ℕ) (ty : Ty) → AreUpTo (first_temps p f) a.most → var_type f v ≡ Some ty → VarsFit a (slot_sorts p ty) (slot_vars p f v)
typed_slots_fit a p f v ty up is = subst (λ o. VarsFit a (sorts_of p o) (slot_vars p f v)) is (slots_fit a p f v up)

pub first_fits : (a : Place) (s : Sort) (ss : List Sort) (vs : List CVar) → VarsFit a (s ∷ ss) vs → IsVar a (kind_of s) (first_slot vs)
first_fits a s ss [] h = absurd h
first_fits a s ss (v ∷ vs) h = h.0

-- the first slot of a variable of this type
pub slot_fits : (a : Place) (p : Program) (f : Func) (v : ℕ) (ty : Ty) (s : Sort) (ss : List Sort) → AreUpTo (first_temps p f) a.most → var_type f v ≡ Some ty → slot_sorts p ty ≡ s ∷ ss → IsVar a (kind_of s) (slot_of p f v)
slot_fits a p f v ty s ss up is e = first_fits a s ss (slot_vars p f v) (subst (λ ss. VarsFit a ss (slot_vars p f v)) e (typed_slots_fit a p f v ty up is))

-- ---- atoms

pub var_atoms : (a : Place) (ss : List Sort) (vs : List CVar) → VarsFit a ss vs → AtomsFit a ss (map variable vs)
var_atoms a [] [] h = tt
var_atoms a [] (v ∷ vs) h = absurd h
var_atoms a (s ∷ ss) [] h = absurd h
var_atoms a (s ∷ ss) (v ∷ vs) h = (h.0, var_atoms a ss vs h.1)

pub first_typed : (a : Place) (s : Sort) (ss : List Sort) (xs : List Atom) → AtomsFit a (s ∷ ss) xs → IsTyped a (kind_of s) (atom_expr (first_atom xs))
first_typed a s ss [] h = absurd h
first_typed a s ss (x ∷ xs) h = h.0

pub atom_suits : (a : Place) (t : CResult) (x : Atom) → IsTyped a t (atom_expr x) → Suits a (value t) (atom_arg x)
atom_suits a t (number z) h = h
atom_suits a t (variable v) h = h
atom_suits a t null h = h

pub var_suits : (a : Place) (t : CResult) (v : CVar) → IsVar a t v → Suits a (value t) (c.variable v)
var_suits a t v h = h

-- a variable is set to what has its type
pub set_ruled : (a : Place) (l : Bool) (t : CResult) (v : CVar) (e : c.Expr) → IsVar a t v → IsTyped a t e → IsRuled a l (c.set v e)
set_ruled a l t v e h k = (h.known, subst (λ t. IsTyped a t e) (sym h.type) k)

pub copies_ruled : (a : Place) (l : Bool) (ss : List Sort) (vs : List CVar) (xs : List Atom) → VarsFit a ss vs → AtomsFit a ss xs → AllRuled a l (copies vs xs)
copies_ruled a l [] [] [] h k = tt
copies_ruled a l [] [] (x ∷ xs) h k = absurd k
copies_ruled a l [] (v ∷ vs) xs h k = absurd h
copies_ruled a l (s ∷ ss) [] xs h k = absurd h
copies_ruled a l (s ∷ ss) (v ∷ vs) [] h k = absurd k
copies_ruled a l (s ∷ ss) (v ∷ vs) (x ∷ xs) h k = (set_ruled a l (kind_of s) v (atom_expr x) h.0 k.0, copies_ruled a l ss vs xs h.1 k.1)

pub reads_ruled : (a : Place) (l : Bool) (ss : List Sort) (vs : List CVar) (cells : List CCell) → VarsFit a ss vs → CellsFit a ss cells → AllRuled a l (reads vs cells)
reads_ruled a l [] [] [] h k = tt
reads_ruled a l [] [] (x ∷ xs) h k = absurd k
reads_ruled a l [] (v ∷ vs) xs h k = absurd h
reads_ruled a l (s ∷ ss) [] xs h k = absurd h
reads_ruled a l (s ∷ ss) (v ∷ vs) [] h k = absurd k
reads_ruled a l (s ∷ ss) (v ∷ vs) (x ∷ xs) h k = (set_ruled a l (kind_of s) v (c.cell x) h.0 k.0, reads_ruled a l ss vs xs h.1 k.1)

pub put_ruled : (a : Place) (l : Bool) (t : CResult) (x : CCell) (e : c.Expr) → IsCell a t x → IsTyped a t e → IsRuled a l (c.put x e)
put_ruled a l t x e h k = (record { base = h.base; type = refl; small = h.small }, subst (λ t. IsTyped a t e) (sym h.type) k)

pub puts_ruled : (a : Place) (l : Bool) (ss : List Sort) (cells : List CCell) (xs : List Atom) → CellsFit a ss cells → AtomsFit a ss xs → AllRuled a l (puts cells xs)
puts_ruled a l [] [] [] h k = tt
puts_ruled a l [] [] (x ∷ xs) h k = absurd k
puts_ruled a l [] (v ∷ vs) xs h k = absurd h
puts_ruled a l (s ∷ ss) [] xs h k = absurd h
puts_ruled a l (s ∷ ss) (v ∷ vs) [] h k = absurd k
puts_ruled a l (s ∷ ss) (v ∷ vs) (x ∷ xs) h k = (put_ruled a l (kind_of s) v (atom_expr x) h.0 k.0, puts_ruled a l ss vs xs h.1 k.1)

-- ---- cells

-- the positions of all cells can be written
pub record FewCells (p : Program) : Type 0 where
  pub numbers : (t : ℕ) → (cell_counts p t).n ≤ max_number
  pub references : (t : ℕ) → (cell_counts p t).p ≤ max_number

-- a reference
pub is_reference : (a : Place) (v : CVar) → IsVar a result.Reference v → v.reference ≡ true
is_reference a v h = by v.reference h.type
  where
    by : (r : Bool) → (if r then result.Reference else result.Number) ≡ result.Reference → r ≡ true
    by true e = refl
    by false e = cc

pub base_known : (a : Place) (v : CVar) → IsVar a result.Reference v → IsKnown a (record { reference = true; number = v.number })
base_known a v h = subst (λ (r : Bool). v.number < (if r then a.most.p else a.most.n)) (is_reference a v h) h.known

cell_fits : (a : Place) (v : CVar) (t u : Numbers) (s : Sort) → IsVar a result.Reference v → AreUpTo (past t s) u → u.n ≤ max_number → u.p ≤ max_number → IsCell a (kind_of s) (cell_at v.number t s)
cell_fits a v t u of_number h up n p = record { base = base_known a v h; type = refl; small = let m = up.n in omega (arith, m, n) }
cell_fits a v t u of_reference h up n p = record { base = base_known a v h; type = refl; small = let m = up.p in omega (arith, m, p) }
cell_fits a v t u of_owner h up n p = record { base = base_known a v h; type = refl; small = let m = up.p in omega (arith, m, p) }

cells_fit : (a : Place) (v : CVar) (t u : Numbers) (ss : List Sort) → IsVar a result.Reference v → AreUpTo (past_all t ss) u → u.n ≤ max_number → u.p ≤ max_number → CellsFit a ss (cells_at v.number t ss)
cells_fit a v t u [] h up n p = tt
cells_fit a v t u (s ∷ ss) h up n p = (cell_fits a v t u s h (more_more (up_all (past t s) ss) up) n p, cells_fit a v (past t s) u ss h up n p)

field_up : (p : Program) (ds : List FieldDecl) (i : ℕ) (t : Numbers) →
    AreUpTo (past_all (past_all t (field_sorts p (take i ds))) (sorts_of_field p (slice_get ds i))) (past_all t (field_sorts p ds))
field_up p [] zero t = up_self t
field_up p [] (suc i) t = up_self t
field_up p (d ∷ ds) zero t = rw (past_all_append t (slot_sorts p d.ty) (field_sorts p ds)) (up_all (past_all t (slot_sorts p d.ty)) (field_sorts p ds))
field_up p (d ∷ ds) (suc i) t =
    rw (past_all_append t (slot_sorts p d.ty) (field_sorts p ds), past_all_append t (slot_sorts p d.ty) (field_sorts p (take i ds)))
    (field_up p ds i (past_all t (slot_sorts p d.ty)))

-- the cells of a field of a block that a reference refers to
pub field_cells_fit : (a : Place) (p : Program) (v : CVar) (type i : ℕ) → FewCells p → IsVar a result.Reference v → CellsFit a (sorts_at p type i) (field_cells p type i v.number)
field_cells_fit a p v type i few h =
    cells_fit a v (past_all first_numbers (field_sorts p (take i (fields_of p type)))) (cell_counts p type) (sorts_at p type i) h
    (field_up p (fields_of p type) i first_numbers) (few.numbers type) (few.references type)

pub touched_cells_fit : (a : Place) (p : Program) (f : Func) (x i : ℕ) → FewCells p → IsVar a result.Reference (slot_of p f x) → CellsFit a (cell_sorts p f x i) (touched_cells p f x i)
touched_cells_fit a p f x i few h = field_cells_fit a p (slot_of p f x) (object_type f x) i few h
