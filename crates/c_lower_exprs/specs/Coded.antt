-- What is promised of the statements that are added to others, and of the atoms that have the value.
use Rattle.std.specs.Prelude.{◌≡◌, ℕ, Bool, true, false, if◌then◌else◌, pos, List, [], ◌∷◌, ◌++◌, Option, Some, None}
use Rattle.vlt_core.specs.Core as core
use Rattle.vlt_ops.specs.declared.Op.{Op}
use Rattle.vlt_ops.specs.declared.Op.TheVariants as op
use Rattle.c_syntax.specs.declared.program.CPrim.TheVariants as prim
use Rattle.c_syntax.specs.C as c
use Rattle.c_syntax.specs.C.{Expr, Stmt}
use Rattle.c_syntax.specs.View.{stmts_made}
use Rattle.c_syntax.specs.declared.program.CVar.{CVar}
use Rattle.c_lower.specs.Slots.{Numbers, Sort, var_at}
use Rattle.c_lower.specs.Guards as g
use Rattle.c_lower.specs.Expressions as s
use Rattle.c_lower.specs.Expressions.{Code, first_atom}
use Rattle.c_lower_exprs.specs.declared.atom.Atom.{Atom}
use Rattle.c_lower_exprs.specs.declared.numbers.Temp.{Temp}
use Rattle.c_lower_exprs.specs.declared.temps.Value.{Value}
use Rattle.c_lower_exprs.specs.Tables.{numbers_of, IsTempAt}
use Rattle.c_lower_exprs.specs.declared.atom.Atom.TheVariants as atom

abbrev pub atom_of : Atom → s.Atom
atom_of (atom.Number z) = s.number z
atom_of (atom.Var v) = s.variable v
atom_of atom.Null = s.null

-- the least number or else the greatest
abbrev pub bound : Bool → Expr
bound low = if low then g.least else g.greatest

-- ---- guards: each part once

abbrev pub with_zero : Op → Expr → Expr
with_zero o a = c.binary o a (g.whole 0)

-- the first is beyond what the second leaves of a bound
abbrev pub beyond : (compare : Op) → Expr → (o : Op) → (low : Bool) → Expr → Expr
beyond compare a o low b = c.binary compare a (c.binary o (bound low) b)

abbrev pub half : (sign : Op) → Expr → (compare : Op) → Expr → (o : Op) → (low : Bool) → Expr
half sign b compare a o low = g.both (with_zero sign b) (beyond compare a o low b)

abbrev pub signs : (left : Op) → Expr → (right : Op) → Expr → Expr
signs left a right b = g.both (with_zero left a) (with_zero right b)

-- ---- values

-- The code is added, this atom has its value, and these numbers are after its temps.
pub record WritesValue (code : Code) (old new : List Stmt) (a : s.Atom) (t : Numbers) : Type 0 where
  pub stmts : new ≡ old ++ code.stmts
  pub atom : a ≡ first_atom code.atoms
  pub next : t ≡ code.next

-- The same, with all atoms that have the value.
pub record WritesAtoms (code : Code) (old new : List Stmt) (all : List s.Atom) (t : Numbers) : Type 0 where
  pub stmts : new ≡ old ++ code.stmts
  pub atoms : all ≡ code.atoms
  pub next : t ≡ code.next

-- the block of a trap
abbrev pub trap : (number : ℕ) → c.Stmts
trap n = c.next (c.call (c.primitive prim.Trap (c.number (pos n) ∷ []))) c.done

-- ---- what goes into a temp, after the guards

abbrev pub unary_set : Op → Expr → Numbers → Code
unary_set o a t = s.into_temp (g.unary_guards o a) t (c.unary o a)

abbrev pub binary_set : Op → (a b : Expr) → Numbers → Code
binary_set o a b t = s.into_temp (g.binary_guards o a b) t (c.binary o a b)

-- of an operator whose right side is run only where the left one doesn't decide, whether it is `&&`
abbrev pub lazy_kind : Op → Option Bool
lazy_kind op.And = Some true
lazy_kind op.Or = Some false
lazy_kind _ = None

-- the code of an operator of such a kind
abbrev pub binary_of_kind : Option Bool → Op → (left : Code) → (Numbers → Code) → Code
binary_of_kind (Some is_and) o left right = s.lazy_code is_and left right
binary_of_kind None o left right =
    let rest = right left.next in
    let a = s.value_of left in
    let b = s.value_of rest in
    s.into_temp (left.stmts ++ rest.stmts ++ g.binary_guards o a b) rest.next (c.binary o a b)

-- A temp at these numbers is set to an expression.
pub record SetsTemp (t : Numbers) (sort : Sort) (e : Expr) (old new : List Stmt) (x : Temp) : Type 0 where
  pub stmts : new ≡ old ++ c.set (var_at t sort) e ∷ []
  pub temp : IsTempAt t sort x

-- the right side, which is run where the left one, in the temp, doesn't decide
abbrev pub lazy_rest : (is_and : Bool) → (temp : CVar) → (body : List Stmt) → (right : Expr) → Stmt
lazy_rest is_and v body right =
    c.when ((if is_and then g.unequal else g.equal) (c.variable v) (g.whole 0)) (stmts_made (body ++ c.set v right ∷ []))

-- The right side is added, and the temp has the value.
pub record EndsLazy (is_and : Bool) (v : CVar) (body : List Stmt) (right : Expr) (t : Numbers) (old new : List Stmt) (x : Value) : Type 0 where
  pub stmts : new ≡ old ++ lazy_rest is_and v body right ∷ []
  pub atom : atom_of x.atom ≡ s.variable v
  pub next : numbers_of x.next ≡ t

-- every expression but variables and fields, which may be variants
abbrev pub has_one_atom : core.Expr → Bool
has_one_atom (core.var v) = false
has_one_atom (core.field x i) = false
has_one_atom _ = true

-- The same of several operands, with the atoms of each.
pub record WritesOperands (codes : s.Codes) (old new : List Stmt) (all : List (List s.Atom)) (t : Numbers) : Type 0 where
  pub stmts : new ≡ old ++ codes.stmts
  pub atoms : all ≡ codes.atoms
  pub next : t ≡ codes.next
