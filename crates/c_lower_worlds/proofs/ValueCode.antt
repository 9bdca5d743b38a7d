-- The code of an expression with any value: its atoms have the values of all slots.
use Rattle.std.proofs.Common.{◌≡◌, ℕ, Bool, true, false, if◌then◌else◌, ℤ, List, [], ◌∷◌, map, take, Option, Some, None, Ok, refl, sym, ap, ◌∙◌, subst}
use Rattle.std.proofs.lemmas.Option.{none-some}
use Rattle.vlt_ops.specs.declared.Op.{Op}
use Rattle.vlt_ops.specs.declared.Op.TheVariants as op
use Rattle.vlt_core.specs.Core as core
use Rattle.vlt_core.specs.Core.{Ty, Func, Program}
use Rattle.vlt_core.specs.Lookups.{var_type, is_owning, fields_of}
use Rattle.vlt_core.specs.KindedOperands.{unless_owning}
use Rattle.vlt_meaning.specs.World as source
use Rattle.vlt_meaning.specs.Found.{Named}
use Rattle.c_syntax.specs.declared.program.CVar.{CVar}
use Rattle.c_syntax.specs.C as syntax
use Rattle.c_meaning.specs.World as cw
use Rattle.c_meaning.specs.World.{World, Value, Vars}
use Rattle.c_meaning.specs.Blocks.{Blocks}
use Rattle.c_meaning.specs.Values.{p_variable, cell_value, or_unset}
use Rattle.c_meaning.specs.Values as cvalues
use Rattle.c_meaning.specs.Run.{Frame, goes, with_var}
use Rattle.c_lower.specs.Slots.{Sort, of_number, of_reference, of_owner, Numbers, past, past_all, var_at, vars_at, cell_at, cells_at, slot_vars, slot_of, slot_sorts, sorts_of_field, field_sorts, first_numbers, first_temps, cell_sorts, object_type}
use Rattle.c_lower.specs.Expressions.{Atom, number, variable, null, atom_expr, first_atom, Code, expr_code, binary_code, reads}
use Rattle.c_lower_worlds.specs.Operators.Operators.{Does}
use Rattle.c_lower_worlds.specs.Operators.Codes.{IsBelow, AreAlike, AreUpTo, Gives}
use Rattle.c_lower_worlds.proofs.OfOperators.Codes.{up_self, up_past, alike_self, alike_more, below_more, goes_then}
use Rattle.c_lower_worlds.proofs.OfOperators.Doing.{set_goes}
use Rattle.c_lower_worlds.specs.Worlds.{Registers, c_world, slot_values}
use Rattle.c_lower_worlds.specs.Shapes.{types_of}
use Rattle.c_lower_worlds.specs.Frames.{HaveValues, HoldsTyped, HoldsVar, IsBetween}
use Rattle.c_lower_worlds.specs.SameStatements.{Begins}
use Rattle.c_lower_worlds.specs.Operands.{HaveAtoms}
use Rattle.c_lower_worlds.specs.Sorts.{AreOfSorts}
use Rattle.c_lower_worlds.proofs.FieldCells.{HaveCells}
use Rattle.c_lower_worlds.proofs.FrameChanges.{with_all, have_slots, have_same, var_kept}
use Rattle.c_lower_worlds.proofs.NumberCode.{Touched}
use Rattle.c_lower_worlds.proofs.VariantSlots.{shape_sorts}
use Rattle.c_lower_worlds.proofs.VariableSlots.{each_map, below_temps, slots_between, temp_apart}
use Rattle.c_lower_worlds.proofs.VariableValues.{temp_alike}

-- the code goes on, and its atoms have these values as long as no variable below the next temps changes
pub record Comes (x : Code) (t : Numbers) (frame : Frame) (w : World) (vs : List Value) : Type 0 where
  pub to : Frame
  pub does : Does x.stmts frame w (goes to w)
  pub alike : AreAlike t frame to
  pub have : (h : Frame) (bs : Blocks) → AreAlike x.next to h → HaveAtoms x.atoms vs h bs

-- variables that have values are atoms that have them
pub vars_atoms : (vs : List CVar) (values : List Value) (f : Frame) (bs : Blocks) → HaveValues vs values f → HaveAtoms (map variable vs) values f bs
vars_atoms [] [] f bs h = tt
vars_atoms [] (a ∷ values) f bs h = absurd h
vars_atoms (v ∷ vs) [] f bs h = absurd h
vars_atoms (v ∷ vs) (a ∷ values) f bs h = (ap or_unset h.0, vars_atoms vs values f bs h.1)

-- the slots of a variable, as atoms
pub slots_have : (p : Program) (f : Func) (v : ℕ) (t : Numbers) (values : List Value) (frame h : Frame) (bs : Blocks) → AreUpTo (first_temps p f) t → AreAlike t frame h →
    HaveValues (slot_vars p f v) values frame → HaveAtoms (map variable (slot_vars p f v)) values h bs
slots_have p f v t values frame h bs up alike have =
    vars_atoms (slot_vars p f v) values h bs
    (have_same (slot_vars p f v) values frame h
    (each_map (IsBelow (first_temps p f)) (λ u. frame.vars u ≡ h.vars u) (slot_vars p f v) (λ u b. alike.vars u (below_more up u b)) (below_temps p f v)) have)

-- ---- cells are read into temps

pub cell_alike : (base : ℕ) (t : Numbers) (s : Sort) (f g : Vars) (bs : Blocks) → f (p_variable base) ≡ g (p_variable base) → cell_value (cell_at base t s) f bs ≡ cell_value (cell_at base t s) g bs
cell_alike base t of_number f g bs e = rw e refl
cell_alike base t of_reference f g bs e = rw e refl
cell_alike base t of_owner f g bs e = rw e refl

pub cells_alike : (base : ℕ) (ss : List Sort) (t : Numbers) (vs : List Value) (f g : Vars) (bs : Blocks) → f (p_variable base) ≡ g (p_variable base) →
    HaveCells (cells_at base t ss) vs f bs → HaveCells (cells_at base t ss) vs g bs
cells_alike base [] t [] f g bs e h = tt
cells_alike base [] t (v ∷ vs) f g bs e h = absurd h
cells_alike base (s ∷ ss) t [] f g bs e h = absurd h
cells_alike base (s ∷ ss) t (v ∷ vs) f g bs e h = (sym (cell_alike base t s f g bs e) ∙ h.0, cells_alike base ss (past t s) vs f g bs e h.1)

reads_does : (base : ℕ) (ss : List Sort) (t u : Numbers) (vs : List Value) (f : Frame) (w : World) → IsBelow u (p_variable base) → HaveCells (cells_at base t ss) vs f.vars w.blocks →
    Does (reads (vars_at u ss) (cells_at base t ss)) f w (goes (with_all (vars_at u ss) vs f) w)
reads_does base [] t u [] f w b h = λ r rest n. refl
reads_does base [] t u (v ∷ vs) f w b h = absurd h
reads_does base (s ∷ ss) t u [] f w b h = absurd h
reads_does base (s ∷ ss) t u (v ∷ vs) f w b h =
    let g = with_var (var_at u s) v f in
    goes_then (syntax.set (var_at u s) (syntax.cell (cell_at base t s)) ∷ []) (reads (vars_at (past u s) ss) (cells_at base (past t s) ss)) f g w (goes (with_all (vars_at (past u s) ss) vs g) w)
    (set_goes (var_at u s) (syntax.cell (cell_at base t s)) v f w h.0)
    (reads_does base ss (past t s) (past u s) vs g w (below_more (up_past u s) (p_variable base) b)
    (cells_alike base ss (past t s) vs f.vars g.vars w.blocks (sym (var_kept (var_at u s) v (p_variable base) f (temp_apart u s u (p_variable base) (up_self u) b))) h.1))

-- temps change, and nothing below them
all_alike : (ss : List Sort) (u : Numbers) (vs : List Value) (f : Frame) → AreAlike u f (with_all (vars_at u ss) vs f)
all_alike [] u vs f = alike_self u f
all_alike (s ∷ ss) u [] f = alike_self u f
all_alike (s ∷ ss) u (v ∷ vs) f =
    alike_more (up_self u) (temp_alike u u s v f (up_self u))
    (alike_more (up_past u s) (alike_self u (with_var (var_at u s) v f)) (all_alike ss (past u s) vs (with_var (var_at u s) v f)))

temps_have : (ss : List Sort) (u : Numbers) (vs : List Value) (f h : Frame) (bs : Blocks) → AreOfSorts ss vs → AreAlike (past_all u ss) (with_all (vars_at u ss) vs f) h →
    HaveAtoms (map variable (vars_at u ss)) vs h bs
temps_have ss u vs f h bs k alike =
    vars_atoms (vars_at u ss) vs h bs
    (have_same (vars_at u ss) vs (with_all (vars_at u ss) vs f) h
    (each_map (IsBetween u (past_all u ss)) (λ x. (with_all (vars_at u ss) vs f).vars x ≡ h.vars x) (vars_at u ss) (λ x b. alike.vars x b.below) (slots_between u ss))
    (have_slots u ss vs f k))

pub unless_is : (o : Option Ty) (ty : Ty) → unless_owning o ≡ Some ty → o ≡ Some ty
unless_is None ty e = absurd (none-some ty e)
unless_is (Some t) ty e = by (is_owning t) e
  where
    by : (b : Bool) → (if b then None else Some t) ≡ Some ty → Some t ≡ Some ty
    by true e = absurd (none-some ty e)
    by false e = e

-- an atom is no cell
atom_blocks : (a : Atom) (vars : Vars) (bs cs : Blocks) → cvalues.value_of (atom_expr a) vars bs ≡ cvalues.value_of (atom_expr a) vars cs
atom_blocks (number z) vars bs cs = refl
atom_blocks (variable v) vars bs cs = refl
atom_blocks null vars bs cs = refl

-- an operator's code has one atom
pub one_atom : (o : Op) (left : Code) (right : Numbers → Code) → (a : Atom) × ((binary_code o left right).atoms ≡ a ∷ [])
one_atom op.Negate left right = (first_atom (binary_code op.Negate left right).atoms, refl)
one_atom op.Not left right = (first_atom (binary_code op.Not left right).atoms, refl)
one_atom op.Multiply left right = (first_atom (binary_code op.Multiply left right).atoms, refl)
one_atom op.Divide left right = (first_atom (binary_code op.Divide left right).atoms, refl)
one_atom op.Remainder left right = (first_atom (binary_code op.Remainder left right).atoms, refl)
one_atom op.Add left right = (first_atom (binary_code op.Add left right).atoms, refl)
one_atom op.Subtract left right = (first_atom (binary_code op.Subtract left right).atoms, refl)
one_atom op.Less left right = (first_atom (binary_code op.Less left right).atoms, refl)
one_atom op.LessOrEqual left right = (first_atom (binary_code op.LessOrEqual left right).atoms, refl)
one_atom op.Greater left right = (first_atom (binary_code op.Greater left right).atoms, refl)
one_atom op.GreaterOrEqual left right = (first_atom (binary_code op.GreaterOrEqual left right).atoms, refl)
one_atom op.Equal left right = (first_atom (binary_code op.Equal left right).atoms, refl)
one_atom op.NotEqual left right = (first_atom (binary_code op.NotEqual left right).atoms, refl)
one_atom op.BitAnd left right = (first_atom (binary_code op.BitAnd left right).atoms, refl)
one_atom op.BitXor left right = (first_atom (binary_code op.BitXor left right).atoms, refl)
one_atom op.BitOr left right = (first_atom (binary_code op.BitOr left right).atoms, refl)
one_atom op.And left right = (first_atom (binary_code op.And left right).atoms, refl)
one_atom op.Or left right = (first_atom (binary_code op.Or left right).atoms, refl)

pub number_comes : (x : Code) (t : Numbers) (frame : Frame) (w : World) (z : ℤ) (a : Atom) → x.atoms ≡ a ∷ [] → Gives x t frame w z → Comes x t frame w (cw.number z ∷ [])
number_comes x t frame w z a single h = record {
  to = h.to;
  does = h.does;
  alike = h.alike;
  have = λ g bs e. subst (λ atoms. HaveAtoms atoms (cw.number z ∷ []) g bs) (sym single)
      (atom_blocks a g.vars bs w.blocks ∙ subst (λ atoms. cvalues.value_of (atom_expr (first_atom atoms)) g.vars w.blocks ≡ Ok (cw.number z)) single (h.stays g e), tt);
}

pub var_has : (p : Program) (f : Func) (v : ℕ) (ty : Ty) (s : source.Frame) (w : source.World) (frame : Frame) (g : Registers) (k : ℕ) (a : source.Value) →
    Begins p f k s w frame g → s.vars v ≡ Some a → var_type f v ≡ Some ty → HaveValues (slot_vars p f v) (slot_values p ty a) frame
var_has p f v ty s w frame g k a h at declared =
    (subst (λ o. HoldsTyped p (types_of w.objects) o (slot_vars p f v) a frame) declared (subst (λ b. HoldsVar p (types_of w.objects) f v b frame) at (h.stands.vars v))).at

pub var_comes : (p : Program) (f : Func) (v : ℕ) (ty : Ty) (t : Numbers) (s : source.Frame) (w : source.World) (frame : Frame) (g : Registers) (k : ℕ) (a : source.Value) →
    AreUpTo (first_temps p f) t → Begins p f k s w frame g → s.vars v ≡ Some a → var_type f v ≡ Some ty →
    Comes (expr_code p f t (core.var v)) t frame (c_world p g w) (slot_values p ty a)
var_comes p f v ty t s w frame g k a up h at declared = record {
  to = frame;
  does = λ r rest n. refl;
  alike = alike_self t frame;
  have = λ x bs e. slots_have p f v t (slot_values p ty a) frame x bs up e here;
}
  where
    here : HaveValues (slot_vars p f v) (slot_values p ty a) frame
    here = (subst (λ o. HoldsTyped p (types_of w.objects) o (slot_vars p f v) a frame) declared (subst (λ b. HoldsVar p (types_of w.objects) f v b frame) at (h.stands.vars v))).at

pub field_comes : (p : Program) (f : Func) (x i : ℕ) (t : Numbers) (s : source.Frame) (w : source.World) (frame : Frame) (g : Registers) (k : ℕ) (h : Begins p f k s w frame g) (m : Named) (a : source.Value) →
    AreUpTo (first_temps p f) t → (touch : Touched p f s w frame g k h x i m a) → IsBelow (first_temps p f) (slot_of p f x) →
    Comes (expr_code p f t (core.field x i)) t frame (c_world p g w) (slot_values p touch.decl.ty a)
field_comes p f x i t s w frame g k h m a up touch below =
    subst (λ ss. Comes (record { stmts = reads (vars_at t ss) (cells_at base start ss); atoms = map variable (vars_at t ss); next = past_all t ss }) t frame (c_world p g w) (slot_values p touch.decl.ty a))
    (sym sorts)
    (record {
      to = with_all (vars_at t ty_sorts) values frame;
      does = reads_does base ty_sorts start t values frame (c_world p g w) (below_more up (p_variable base) (subst (IsBelow (first_temps p f)) (as_p (slot_of p f x) touch.refers) below)) touch.cells;
      alike = all_alike ty_sorts t values frame;
      have = λ y bs e. temps_have ty_sorts t values frame y bs (shape_sorts p (types_of w.objects) touch.decl.ty a touch.shape) e;
    })
  where
    base : ℕ
    base = (slot_of p f x).number

    start : Numbers
    start = past_all first_numbers (field_sorts p (take i (fields_of p (object_type f x))))

    ty_sorts : List Sort
    ty_sorts = slot_sorts p touch.decl.ty

    values : List Value
    values = slot_values p touch.decl.ty a

    sorts : cell_sorts p f x i ≡ ty_sorts
    sorts = ap (λ d. sorts_of_field p d) touch.at

    as_p : (v : CVar) → v.reference ≡ true → v ≡ p_variable v.number
    as_p v e = ap (λ r. record { reference = r; number = v.number }) e
