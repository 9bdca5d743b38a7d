-- C statements that keep the limits on blocks and expressions.
use Rattle.std.proofs.Common.{◌≡◌, ◌≤◌, ℕ, suc, pos, List, [], ◌∷◌, ◌++◌, map, Some, None, refl, arith}
use Rattle.vlt_ops.specs.declared.Op.{Op}
use Rattle.vlt_ops.specs.declared.Op.TheVariants as op
use Rattle.vlt_ops.specs.Operator.{row_of}
use Rattle.c_syntax.specs.declared.program.CVar.{CVar}
use Rattle.c_syntax.specs.declared.program.CCell.{CCell}
use Rattle.c_syntax.specs.declared.program.CPrim.{CPrim}
use Rattle.c_syntax.specs.declared.program.CPrim.TheVariants as prim
use Rattle.c_syntax.specs.View.{stmts_made}
use Rattle.c_syntax.specs.C as c
use Rattle.c_syntax.specs.C.{Expr, Arg, Call, Stmt}
use Rattle.c_syntax.specs.Grammar.{HasArities, expr_depth, HasNoText, IsCall, IsStmt, AreStmts}
use Rattle.c_lower.specs.Guards as g
use Rattle.c_lower.specs.Expressions.{Atom, number, variable, null, atom_expr, atom_arg}
use Rattle.c_lower_worlds.specs.Naming.Lists.{Each}
use Rattle.c_lower_runs.proofs.OfTexts.Lists.{each_both}

-- the greatest depth of an expression
abbrev pub most : ℕ
most = 16

-- a statement in which blocks nest at most so deep
abbrev pub Fits : ℕ → Stmt → Type 0
Fits room x = IsStmt most room x

abbrev pub AllFit : ℕ → List Stmt → Type 0
AllFit room = Each (Fits room)

pub fits_both : (room : ℕ) (xs ys : List Stmt) → AllFit room xs → AllFit room ys → AllFit room (xs ++ ys)
fits_both room = each_both (Fits room)

pub fits_mapped : {A : Type 0} (room : ℕ) (go : A → Stmt) (xs : List A) → ((x : A) → Fits room (go x)) → AllFit room (map go xs)
fits_mapped room go [] h = tt
fits_mapped room go (x ∷ xs) h = (h x, fits_mapped room go xs h)

pub made_fit : (room : ℕ) (xs : List Stmt) → AllFit room xs → AreStmts most room (stmts_made xs)
made_fit room [] h = record { written = tt; expressions = omega arith; blocks = omega arith }
made_fit room (x ∷ xs) h =
    let rest = made_fit room xs h.1 in
    let first = h.0 in
    let e = first.expressions in
    let f = rest.expressions in
    let b = first.blocks in
    let d = rest.blocks in
    record { written = (first.written, rest.written); expressions = omega (arith, e, f); blocks = omega (arith, b, d) }

-- ---- atoms

pub atom_arity : (a : Atom) → HasArities (atom_expr a)
atom_arity (number z) = tt
atom_arity (variable v) = tt
atom_arity null = tt

pub atom_depth : (a : Atom) → expr_depth (atom_expr a) ≡ 1
atom_depth (number z) = refl
atom_depth (variable v) = refl
atom_depth null = refl

pub atom_no_text : (a : Atom) (xs : List Arg) → HasNoText xs → HasNoText (atom_arg a ∷ xs)
atom_no_text (number z) xs h = h
atom_no_text (variable v) xs h = h
atom_no_text null xs h = h

pub atoms_no_text : (atoms : List Atom) (xs : List Arg) → HasNoText xs → HasNoText (map atom_arg atoms ++ xs)
atoms_no_text [] xs h = h
atoms_no_text (a ∷ atoms) xs h = atom_no_text a (map atom_arg atoms ++ xs) (atoms_no_text atoms xs h)

-- ---- statements

pub set_fits : (room : ℕ) (v : CVar) (e : Expr) → HasArities e → expr_depth e ≤ most → Fits room (c.set v e)
set_fits room v e h d = record { written = h; expressions = d; blocks = omega arith }

pub put_fits : (room : ℕ) (x : CCell) (e : Expr) → HasArities e → expr_depth e ≤ most → Fits room (c.put x e)
put_fits room x e h d = record { written = h; expressions = d; blocks = omega arith }

one_deep : (e : Expr) → expr_depth e ≡ 1 → expr_depth e ≤ most
one_deep e h = rw h (omega arith)

pub set_atom : (room : ℕ) (v : CVar) (a : Atom) → Fits room (c.set v (atom_expr a))
set_atom room v a = set_fits room v (atom_expr a) (atom_arity a) (one_deep (atom_expr a) (atom_depth a))

pub put_atom : (room : ℕ) (x : CCell) (a : Atom) → Fits room (c.put x (atom_expr a))
put_atom room x a = put_fits room x (atom_expr a) (atom_arity a) (one_deep (atom_expr a) (atom_depth a))

pub set_one : (room : ℕ) (v : CVar) (e : Expr) → HasArities e → expr_depth e ≡ 1 → Fits room (c.set v e)
set_one room v e h d = set_fits room v e h (one_deep e d)

pub return_fits : (room : ℕ) (a : Atom) → Fits room (c.return (Some (atom_expr a)))
return_fits room a = record { written = atom_arity a; expressions = one_deep (atom_expr a) (atom_depth a); blocks = omega arith }

pub nothing_fits : (room : ℕ) → Fits room (c.return None)
nothing_fits room = record { written = tt; expressions = omega arith; blocks = omega arith }

pub call_fits : (room : ℕ) (f : Call) → IsCall f → Fits room (c.call f)
call_fits room f h = record { written = h; expressions = omega arith; blocks = omega arith }

pub set_call_fits : (room : ℕ) (v : CVar) (f : Call) → IsCall f → Fits room (c.set_call v f)
set_call_fits room v f h = record { written = h; expressions = omega arith; blocks = omega arith }

no_text : (f : CPrim) (xs : List Arg) → HasNoText xs → IsCall (c.primitive f xs)
no_text prim.Call xs h = tt
no_text _ xs h = h

pub runtime_fits : (room : ℕ) (f : CPrim) (xs : List Arg) → HasNoText xs → Fits room (c.call (c.primitive f xs))
runtime_fits room f xs h = call_fits room (c.primitive f xs) (no_text f xs h)

pub value_fits : (room : ℕ) (v : CVar) (f : CPrim) (xs : List Arg) → HasNoText xs → Fits room (c.set_call v (c.primitive f xs))
value_fits room v f xs h = set_call_fits room v (c.primitive f xs) (no_text f xs h)

pub when_fits : (room : ℕ) (e : Expr) (xs : List Stmt) → HasArities e → expr_depth e ≤ most → AllFit room xs → Fits (suc room) (c.when e (stmts_made xs))
when_fits room e xs h d all =
    let made = made_fit room xs all in
    let f = made.expressions in
    let b = made.blocks in
    record { written = (h, made.written); expressions = omega (arith, d, f); blocks = omega (arith, b) }

pub choose_fits : (room : ℕ) (e : Expr) (xs ys : List Stmt) → HasArities e → expr_depth e ≤ most → AllFit room xs → AllFit room ys →
    Fits (suc room) (c.choose e (stmts_made xs) (stmts_made ys))
choose_fits room e xs ys h d all others =
    let made = made_fit room xs all in
    let other = made_fit room ys others in
    let f = made.expressions in
    let b = made.blocks in
    let i = other.expressions in
    let j = other.blocks in
    record { written = (h, made.written, other.written); expressions = omega (arith, d, f, i); blocks = omega (arith, b, j) }

pub loop_fits : (room : ℕ) (xs : List Stmt) → AllFit room xs → Fits (suc room) (c.loop (stmts_made xs))
loop_fits room xs all =
    let made = made_fit room xs all in
    let f = made.expressions in
    let b = made.blocks in
    record { written = made.written; expressions = omega (arith, f); blocks = omega (arith, b) }

pub break_fits : (room : ℕ) → Fits room c.break
break_fits room = record { written = tt; expressions = omega arith; blocks = omega arith }

pub continue_fits : (room : ℕ) → Fits room c.continue
continue_fits room = record { written = tt; expressions = omega arith; blocks = omega arith }

-- ---- guards

pub two : (o : Op) (a b : Expr) → (row_of o).arity ≡ 2 → HasArities a → HasArities b → HasArities (c.binary o a b)
two o a b e x y = (e, x, y)

least_is : HasArities g.least
least_is = (refl, (refl, tt), tt)

positive_is : (a : Expr) → HasArities a → HasArities (g.is_positive a)
positive_is a x = (refl, x, tt)

negative_is : (a : Expr) → HasArities a → HasArities (g.is_negative a)
negative_is a x = (refl, x, tt)

trap_fits : (room : ℕ) (e : Expr) (k : ℕ) → HasArities e → expr_depth e ≤ most → Fits (suc room) (g.trap_if e k)
trap_fits room e k h d = when_fits room e (c.call (c.primitive prim.Trap (c.number (pos k) ∷ [])) ∷ []) h d (runtime_fits room prim.Trap (c.number (pos k) ∷ []) tt, tt)

sum_is : (a b : Expr) → HasArities a → HasArities b → HasArities (g.sum_overflows a b)
sum_is a b x y = (
  refl,
  (refl, positive_is b y, (refl, x, (refl, tt, y))),
  (refl, negative_is b y, (refl, x, (refl, least_is, y))),
)

difference_is : (a b : Expr) → HasArities a → HasArities b → HasArities (g.difference_overflows a b)
difference_is a b x y = (
  refl,
  (refl, negative_is b y, (refl, x, (refl, tt, y))),
  (refl, positive_is b y, (refl, x, (refl, least_is, y))),
)

product_is : (a b : Expr) → HasArities a → HasArities b → HasArities (g.product_overflows a b)
product_is a b x y = (
  refl,
  (
    refl,
    (
      refl,
      (refl, (refl, positive_is a x, positive_is b y), (refl, x, (refl, tt, y))),
      (refl, (refl, positive_is a x, negative_is b y), (refl, y, (refl, least_is, x))),
    ),
    (refl, (refl, negative_is a x, positive_is b y), (refl, x, (refl, least_is, y))),
  ),
  (refl, (refl, negative_is a x, negative_is b y), (refl, y, (refl, tt, x))),
)

quotient_is : (a b : Expr) → HasArities a → HasArities b → HasArities (g.quotient_overflows a b)
quotient_is a b x y = (refl, (refl, x, least_is), (refl, y, (refl, tt)))

zero_is : (b : Expr) → HasArities b → HasArities (g.equal b (g.whole 0))
zero_is b y = (refl, y, tt)

pub unary_fit : (room : ℕ) (o : Op) (a : Expr) → HasArities a → expr_depth a ≡ 1 → AllFit (suc room) (g.unary_guards o a)
unary_fit room op.Negate a x d = (trap_fits room (g.equal a g.least) 1 (refl, x, least_is) (rw d (omega arith)), tt)
unary_fit room _ a x d = tt

pub binary_fit : (room : ℕ) (o : Op) (a b : Expr) → HasArities a → HasArities b → expr_depth a ≡ 1 → expr_depth b ≡ 1 → AllFit (suc room) (g.binary_guards o a b)
binary_fit room op.Add a b x y d e = (trap_fits room (g.sum_overflows a b) 1 (sum_is a b x y) (rw (d, e) (omega arith)), tt)
binary_fit room op.Subtract a b x y d e = (trap_fits room (g.difference_overflows a b) 1 (difference_is a b x y) (rw (d, e) (omega arith)), tt)
binary_fit room op.Multiply a b x y d e = (trap_fits room (g.product_overflows a b) 1 (product_is a b x y) (rw (d, e) (omega arith)), tt)
binary_fit room op.Divide a b x y d e = (
  trap_fits room (g.equal b (g.whole 0)) 2 (zero_is b y) (rw e (omega arith)),
  (trap_fits room (g.quotient_overflows a b) 1 (quotient_is a b x y) (rw (d, e) (omega arith)), tt),
)
binary_fit room op.Remainder a b x y d e = (
  trap_fits room (g.equal b (g.whole 0)) 2 (zero_is b y) (rw e (omega arith)),
  (trap_fits room (g.quotient_overflows a b) 1 (quotient_is a b x y) (rw (d, e) (omega arith)), tt),
)
binary_fit room _ a b x y d e = tt
