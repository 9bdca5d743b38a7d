-- The code of parts, one after another, is the code of the whole.
use Rattle.std.proofs.Common.{◌≡◌, Bool, true, if◌then◌else◌, List, [], ◌∷◌, ◌++◌, Option, Some, None, Result, Ok, Err, IfOk, refl, sym, ap, ◌∙◌, subst, append_assoc, rules}
use Rattle.vlt_core.specs.Core as core
use Rattle.vlt_core.specs.View.{expr_of}
use Rattle.vlt_core.specs.declared.program.Expr.{Expr as CodeExpr, the_lemmas}
use Rattle.vlt_core.specs.declared.program.Expr.{Bin}
use Rattle.vlt_ops.specs.declared.Op.{Op}
use Rattle.vlt_ops.specs.declared.Op.TheVariants as op
use Rattle.c_syntax.specs.C as c
use Rattle.c_syntax.specs.C.{Expr, Stmt}
use Rattle.c_syntax.specs.View.{stmts_made}
use Rattle.c_lower.specs.Slots.{Numbers, of_number, past, var_at}
use Rattle.c_lower.specs.Guards.{whole, equal, unequal, binary_guards}
use Rattle.c_lower.specs.Expressions.{Atom, variable, expr_code, Code, atom_expr, first_atom, value_of, binary_code}
use Rattle.c_lower_exprs.specs.declared.numbers.Temp.{Temp}
use Rattle.c_lower_exprs.specs.declared.temps.Value.{Value}
use Rattle.c_lower_exprs.specs.Tables.{numbers_of}
use Rattle.c_lower_exprs.specs.Coded.{WritesValue, WritesAtoms, SetsTemp, EndsLazy, atom_of, has_one_atom, binary_set, lazy_kind, binary_of_kind}

pub binary_is : (o : Op) (left : Code) (right : Numbers → Code) → binary_code o left right ≡ binary_of_kind (lazy_kind o) o left right
binary_is op.Negate left right = refl
binary_is op.Not left right = refl
binary_is op.Multiply left right = refl
binary_is op.Divide left right = refl
binary_is op.Remainder left right = refl
binary_is op.Add left right = refl
binary_is op.Subtract left right = refl
binary_is op.Less left right = refl
binary_is op.LessOrEqual left right = refl
binary_is op.Greater left right = refl
binary_is op.GreaterOrEqual left right = refl
binary_is op.Equal left right = refl
binary_is op.NotEqual left right = refl
binary_is op.BitAnd left right = refl
binary_is op.BitXor left right = refl
binary_is op.BitOr left right = refl
binary_is op.And left right = refl
binary_is op.Or left right = refl

-- what holds of each value that comes out holds still where more is known of it
pub if_more : {A E : Type 0} (r : Result A E) (P Q : A → Type 0) → ((x : A) → P x → Q x) → IfOk r P → IfOk r Q
if_more (Ok x) P Q more h = more x h
if_more (Err e) P Q more h = tt

appended_twice : (a b c d e : List Stmt) → ((a ++ b) ++ c) ++ (d ++ e) ≡ a ++ (b ++ c ++ d ++ e)
appended_twice a b c d e = simp append_assoc

appended_once : (a b : List Stmt) (x y : Stmt) → ((a ++ b) ++ x ∷ []) ++ y ∷ [] ≡ a ++ (b ++ x ∷ y ∷ [])
appended_once a b x y = simp append_assoc

pub plain_binary : (o : Op) (left : Code) (right : Numbers → Code) (old m1 m2 new : List Stmt) (a b x : Atom) (t1 t2 u : Numbers) → lazy_kind o ≡ None → WritesValue left old m1 a t1 → WritesValue (right t1) m1 m2 b t2 → WritesValue (binary_set o (atom_expr a) (atom_expr b) t2) m2 new x u → WritesValue (binary_code o left right) old new x u
plain_binary o left right old m1 m2 new a b x t1 t2 u kind first second third =
    subst (λ (code : Code). WritesValue code old new x u) (sym (binary_is o left right ∙ ap (λ k. binary_of_kind k o left right) kind)) (record {
      stmts =
          (let k : new ≡ ((old ++ left.stmts) ++ (right left.next).stmts) ++ (binary_guards o (value_of left) (value_of (right left.next)) ++ c.set (var_at (right left.next).next of_number) (c.binary o (value_of left) (value_of (right left.next))) ∷ []) = cc in
          k ∙ appended_twice old left.stmts (right left.next).stmts (binary_guards o (value_of left) (value_of (right left.next))) _);
      atom = cc;
      next = cc;
    })

pub lazy_binary : (o : Op) (is_and : Bool) (left : Code) (right : Numbers → Code) (old m1 m2 body new : List Stmt) (a b : Atom) (t1 t3 : Numbers) (temp : Temp) (x : Value) → lazy_kind o ≡ Some is_and → WritesValue left old m1 a t1 → SetsTemp t1 of_number (atom_expr a) m1 m2 temp → WritesValue (right (numbers_of temp.next)) [] body b t3 → EndsLazy is_and temp.variable body (atom_expr b) t3 m2 new x → WritesValue (binary_code o left right) old new (atom_of x.atom) (numbers_of x.next)
lazy_binary o is_and left right old m1 m2 body new a b t1 t3 temp x kind first begins second ends =
    let v = temp.variable in
    let t2 = numbers_of temp.next in
    let is_temp : v ≡ var_at t1 of_number = begins.temp.variable in
    let past_is : t2 ≡ past t1 of_number = begins.temp.next in
    let set_is : m2 ≡ m1 ++ c.set (var_at t1 of_number) (atom_expr a) ∷ [] = begins.stmts in
    let end : new ≡ m2 ++ c.when ((if is_and then unequal else equal) (c.variable v) (whole 0)) (stmts_made (body ++ c.set v (atom_expr b) ∷ [])) ∷ [] = ends.stmts in
    let value : atom_of x.atom ≡ variable v = ends.atom in
    let after : numbers_of x.next ≡ t3 = ends.next in
    subst (λ (code : Code). WritesValue code old new (atom_of x.atom) (numbers_of x.next)) (sym (binary_is o left right ∙ ap (λ k. binary_of_kind k o left right) kind)) (record {
      stmts =
          (let u = var_at left.next of_number in
          let rest = right (past left.next of_number) in
          let k : new ≡ ((old ++ left.stmts) ++ c.set u (value_of left) ∷ []) ++ c.when ((if is_and then unequal else equal) (c.variable u) (whole 0)) (stmts_made (rest.stmts ++ c.set u (value_of rest) ∷ [])) ∷ [] = cc in
          k ∙ appended_once old left.stmts (c.set u (value_of left)) _);
      atom = cc;
      next = cc;
    })

pub binary_seen : (o : Op) (l r : CodeExpr) → expr_of (Bin o l r) ≡ core.binary o (expr_of l) (expr_of r)
binary_seen o l r = search (rules, the_lemmas)

binary_one : (o : Op) (left : Code) (right : Numbers → Code) → (binary_code o left right).atoms ≡ first_atom (binary_code o left right).atoms ∷ []
binary_one o left right = subst (λ (code : Code). code.atoms ≡ first_atom code.atoms ∷ []) (sym (binary_is o left right)) (by (lazy_kind o))
  where
    by : (k : Option Bool) → (binary_of_kind k o left right).atoms ≡ first_atom (binary_of_kind k o left right).atoms ∷ []
    by None = refl
    by (Some is_and) = refl

one_is : (p : core.Program) (f : core.Func) (t : Numbers) (e : core.Expr) → has_one_atom e ≡ true → (expr_code p f t e).atoms ≡ first_atom (expr_code p f t e).atoms ∷ []
one_is p f t (core.number z) one = refl
one_is p f t (core.truth b) one = refl
one_is p f t (core.var v) one = cc
one_is p f t (core.field x i) one = cc
one_is p f t (core.unary o e) one = refl
one_is p f t (core.binary o d e) one = binary_one o (expr_code p f t d) (λ t. expr_code p f t e)

-- where there is one atom, that is the value
pub one_coded : (p : core.Program) (f : core.Func) (t : Numbers) (e : core.Expr) (old new : List Stmt) (a : Atom) (u : Numbers) (all : List Atom) (w : Numbers) → has_one_atom e ≡ true → WritesValue (expr_code p f t e) old new a u → (all ≡ a ∷ []) × (w ≡ u) → WritesAtoms (expr_code p f t e) old new all w
one_coded p f t e old new a u all w one h k = record {
  stmts = h.stmts;
  atoms = (let only = one_is p f t e one in k.0 ∙ ap (λ x. x ∷ []) h.atom ∙ sym only);
  next = k.1 ∙ h.next;
}
