-- The slots of variables lie below the first temps.
use Rattle.std.proofs.Common.{◌≡◌, ℕ, zero, suc, true, ℤ, List, [], ◌∷◌, ◌++◌, map, take, Option, Some, None, slice_get, Ok, Err, refl, sym, ap, ◌∙◌, subst, arith}
use Rattle.vlt_core.specs.Core as core
use Rattle.vlt_core.specs.Core.{Ty, VarDecl, Func, Program}
use Rattle.vlt_meaning.specs.World as source
use Rattle.vlt_meaning.specs.Values.{number_of}
use Rattle.vlt_meaning.specs.Values as meaning
use Rattle.vlt_meaning.specs.Found.{Found, ◌>>=◌, or_fault}
use Rattle.c_syntax.specs.declared.program.CVar.{CVar}
use Rattle.c_meaning.specs.World.{World, number}
use Rattle.c_meaning.specs.Values.{value_of, or_unset, p_variable}
use Rattle.c_syntax.specs.C as c
use Rattle.c_syntax.specs.declared.program.CCell.TheVariants as cell
use Rattle.c_meaning.specs.Run.{Frame}
use Rattle.c_lower.specs.Slots.{Sort, of_number, of_reference, of_owner, Numbers, past, past_all, var_at, vars_at, slot_sorts, var_sorts, slot_of, first_slot, first_temps, first_numbers}
use Rattle.c_lower.specs.Expressions as code
use Rattle.c_lower.specs.Expressions.{expr_code}
use Rattle.c_lower_worlds.specs.Operators.Codes.{IsBelow, AreAlike, AreUpTo, Gives}
use Rattle.c_lower_worlds.specs.Operators.Slots.{NumbersStand, HasCell, LeavesStandThere}
use Rattle.c_lower_worlds.proofs.OfOperators.Codes.{below_more, up_self, alike_self, temp_gives}
use Rattle.c_lower_worlds.proofs.OfOperators.Doing.{set_goes}
use Rattle.c_lower_worlds.proofs.OfOperators.Expressions.{up_all}

pub past_all_append : (t : Numbers) (xs ys : List Sort) → past_all t (xs ++ ys) ≡ past_all (past_all t xs) ys
past_all_append t [] ys = refl
past_all_append t (x ∷ xs) ys = past_all_append (past t x) xs ys

var_below : (t : Numbers) (s : Sort) → IsBelow (past t s) (var_at t s)
var_below t of_number = omega (arith)
var_below t of_reference = omega (arith)
var_below t of_owner = omega (arith)

tail : List Sort → List Sort
tail [] = []
tail (s ∷ ss) = ss

-- every type has a slot
first_below : (t : Numbers) (p : Program) (ty : Ty) (more : List Sort) →
    IsBelow (past_all t (slot_sorts p ty ++ more)) (first_slot (vars_at t (slot_sorts p ty)))
unfolding tail
first_below t p ty more = by ty
  where
    one : (s : Sort) (ss : List Sort) → IsBelow (past_all t ((s ∷ ss) ++ more)) (first_slot (vars_at t (s ∷ ss)))
    one s ss = below_more (up_all (past t s) (ss ++ more)) (var_at t s) (var_below t s)

    by : (ty : Ty) → IsBelow (past_all t (slot_sorts p ty ++ more)) (first_slot (vars_at t (slot_sorts p ty)))
    by core.int = one of_number []
    by core.bool = one of_number []
    by (core.tracked k n args) = one of_reference []
    by (core.owning states n args) = one of_owner []
    by (core.guarded k n args) = one of_reference []
    by (core.variant n args) = one of_number (tail (slot_sorts p (core.variant n args)))
    by (core.owning_variant n args) = one of_number (tail (slot_sorts p (core.owning_variant n args)))

slot_below : (p : Program) (ds : List VarDecl) (v : ℕ) (t : Numbers) (d : VarDecl) → slice_get ds v ≡ Some d →
    IsBelow (past_all t (var_sorts p ds)) (first_slot (vars_at (past_all t (var_sorts p (take v ds))) (slot_sorts p d.ty)))
slot_below p [] v t d e = absurd (never v e)
  where
    never : (v : ℕ) → (let ds : List VarDecl = [] in slice_get ds v ≡ Some d) → ⊥
    never zero e = cc
    never (suc v) e = cc
slot_below p (x ∷ ds) zero t d e =
    subst (λ d. IsBelow (past_all t (var_sorts p (x ∷ ds))) (first_slot (vars_at t (slot_sorts p d.ty)))) (same e)
    (first_below t p x.ty (var_sorts p ds))
  where
    same : (let o : Option VarDecl = Some x in o ≡ Some d) → x ≡ d
    same e = cc
slot_below p (x ∷ ds) (suc v) t d e =
    rw (past_all_append t (slot_sorts p x.ty) (var_sorts p ds), past_all_append t (slot_sorts p x.ty) (var_sorts p (take v ds)))
    (slot_below p ds v (past_all t (slot_sorts p x.ty)) d e)

var_slot_below : (p : Program) (f : Func) (v : ℕ) (d : VarDecl) → slice_get f.vars v ≡ Some d → IsBelow (first_temps p f) (slot_of p f v)
var_slot_below p f v d e = rw e (slot_below p f.vars v first_numbers d e)

-- the atom of a variable is its first slot
atom_is : (t : Numbers) (p : Program) (ty : Ty) →
    code.first_atom (map code.variable (vars_at t (slot_sorts p ty))) ≡ code.variable (first_slot (vars_at t (slot_sorts p ty)))
atom_is t p core.int = refl
atom_is t p core.bool = refl
atom_is t p (core.tracked k n args) = refl
atom_is t p (core.owning states n args) = refl
atom_is t p (core.guarded k n args) = refl
atom_is t p (core.variant n args) = refl
atom_is t p (core.owning_variant n args) = refl

var_atom : (p : Program) (f : Func) (v : ℕ) (d : VarDecl) (u : Numbers) → slice_get f.vars v ≡ Some d →
    code.value_of (expr_code p f u (core.var v)) ≡ c.variable (slot_of p f v)
var_atom p f v d u e = rw e (ap code.atom_expr (atom_is (past_all first_numbers (var_sorts p (take v f.vars))) p d.ty))

-- a variable that has a number
var_number : (a : Option source.Value) (z : ℤ) → (or_fault source.no_value a >>= meaning.number_in) ≡ Ok z → a ≡ Some (source.one (source.number z))
var_number None z e = absurd (never e)
  where
    never : (let r : Found ℤ = Err (source.fault source.no_value None) in r ≡ Ok z) → ⊥
    never e = cc
var_number (Some (source.one (source.number y))) z e = ap (λ z. Some (source.one (source.number z))) (same e)
  where
    same : (let r : Found ℤ = Ok y in r ≡ Ok z) → y ≡ z
    same e = cc
var_number (Some (source.one (source.reference n))) z e = absurd (never e)
  where
    never : (let r : Found ℤ = Err (source.fault source.missing None) in r ≡ Ok z) → ⊥
    never e = cc
var_number (Some (source.one (source.owned n))) z e = absurd (never e)
  where
    never : (let r : Found ℤ = Err (source.fault source.missing None) in r ≡ Ok z) → ⊥
    never e = cc
var_number (Some (source.of_case k parts keys)) z e = absurd (never e)
  where
    never : (let r : Found ℤ = Err (source.fault source.missing None) in r ≡ Ok z) → ⊥
    never e = cc

variables_stand : (p : Program) (f : Func) (s : source.Frame) (objects : List source.Object) (frame : Frame) (w : World) →
    NumbersStand p f s frame → (v : ℕ) (z : ℤ) → number_of p f (core.var v) s objects ≡ Ok z →
    (u : Numbers) (g : Frame) → AreAlike (first_temps p f) frame g →
    value_of (code.value_of (expr_code p f u (core.var v))) g.vars w.blocks ≡ Ok (number z)
variables_stand p f s objects frame w stand v z e u g alike =
    let there = var_number (s.vars v) z e in
    let found = stand.declared v z there in
    let kept = alike.vars (slot_of p f v) (var_slot_below p f v found.0 found.1) in
    ap (λ x. value_of x g.vars w.blocks) (var_atom p f v found.0 u found.1)
    ∙ ap or_unset (sym kept ∙ stand.slots v z there)

-- ---- fields

-- a slot that refers to a block is the `p` variable of the block's cells
slot_is : (v : CVar) → v.reference ≡ true → v ≡ p_variable v.number
slot_is v e = ap (λ r. record { reference = r; number = v.number }) e

cell_kept : (base index : ℕ) (w : World) (frame g : Frame) → frame.vars (p_variable base) ≡ g.vars (p_variable base) →
    value_of (c.cell (cell.Number base index)) frame.vars w.blocks ≡ value_of (c.cell (cell.Number base index)) g.vars w.blocks
cell_kept base index w frame g e = rw e refl

field_gives : (p : Program) (f : Func) (x i : ℕ) (frame : Frame) (w : World) (z : ℤ) → HasCell p f x i frame w z → (u : Numbers) (g : Frame) →
    AreUpTo (first_temps p f) u → AreAlike (first_temps p f) frame g → Gives (expr_code p f u (core.field x i)) u g w z
field_gives p f x i frame w z has u g m alike =
    rw (has.cells, has.sorts)
    (temp_gives [] (c.cell (cell.Number base has.index)) u u g g w z (up_self u) (alike_self u g)
    (set_goes (var_at u of_number) (c.cell (cell.Number base has.index)) (number z) g w (sym kept ∙ has.value)))
  where
    base : ℕ
    base = (slot_of p f x).number

    below : IsBelow (first_temps p f) (p_variable base)
    below = subst (IsBelow (first_temps p f)) (slot_is (slot_of p f x) has.refers) (var_slot_below p f x has.declared.0 has.declared.1)

    kept : value_of (c.cell (cell.Number base has.index)) frame.vars w.blocks ≡ value_of (c.cell (cell.Number base has.index)) g.vars w.blocks
    kept = cell_kept base has.index w frame g (alike.vars (p_variable base) below)

pub leaves_stand : LeavesStandThere
leaves_stand p f s objects frame w vars fields = record {
  vars = variables_stand p f s objects frame w vars;
  fields = λ x i z e u g m alike. field_gives p f x i frame w z (fields x i z e) u g m alike;
}
