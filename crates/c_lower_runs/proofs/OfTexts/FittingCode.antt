-- The code of expressions, operands and statements without blocks keeps the limits on blocks and expressions.
use Rattle.std.proofs.Common.{◌≡◌, ◌≤◌, ℕ, zero, suc, Bool, true, false, ◌&&◌, if◌then◌else◌, List, [], ◌∷◌, ◌++◌, refl, arith}
use Rattle.std.proofs.lemmas.Bool.{false≢true}
use Rattle.std.specs.List.{zip}
use Rattle.vlt_ops.specs.declared.Op.{Op}
use Rattle.vlt_ops.specs.declared.Op.TheVariants as op
use Rattle.vlt_ops.specs.Operator.{row_of}
use Rattle.vlt_core.specs.Core as core
use Rattle.vlt_core.specs.Core.{Expr, Func, Program}
use Rattle.vlt_core.specs.Proper.{is_prefix, is_binary, has_arities}
use Rattle.c_syntax.specs.declared.program.CVar.{CVar}
use Rattle.c_syntax.specs.declared.program.CCell.{CCell}
use Rattle.c_syntax.specs.View.{stmts_made}
use Rattle.c_syntax.specs.C as c
use Rattle.c_syntax.specs.C.{Stmt}
use Rattle.c_syntax.specs.Grammar.{HasArities, expr_depth}
use Rattle.c_lower.specs.Slots.{Numbers, of_number, past, var_at, vars_at, touched_cells, cell_sorts}
use Rattle.c_lower.specs.Guards as g
use Rattle.c_lower.specs.Expressions.{Atom, atom_expr, first_atom, Code, value_of, copies, reads, into_temp, lazy_code, binary_code, expr_code}
use Rattle.c_lower.specs.Statements.{puts}
use Rattle.c_lower_worlds.proofs.OfOperators.Guards.{and_left, and_right}
use Rattle.c_lower_runs.specs.Texts.Printable.{depth}
use Rattle.c_lower_runs.proofs.OfTexts.Fitting.{most, Fits, AllFit, fits_both, fits_mapped, atom_arity, atom_depth, set_fits, set_atom, put_atom, set_one, when_fits, two, unary_fit, binary_fit}

-- ---- expressions

depth_some : (e : Expr) → 1 ≤ depth e
depth_some (core.unary o e) = omega arith
depth_some (core.binary o a b) = omega arith
depth_some (core.number z) = omega arith
depth_some (core.truth b) = omega arith
depth_some (core.var v) = omega arith
depth_some (core.field x i) = omega arith

pub value_arity : (x : Code) → HasArities (value_of x)
value_arity x = atom_arity (first_atom x.atoms)

pub value_depth : (x : Code) → expr_depth (value_of x) ≡ 1
value_depth x = atom_depth (first_atom x.atoms)

prefix_arity : (o : Op) → is_prefix o ≡ true → (row_of o).arity ≡ 1
prefix_arity op.Negate e = refl
prefix_arity op.Not e = refl
prefix_arity _ e = absurd (false≢true e)

binary_arity : (o : Op) → is_binary o ≡ true → (row_of o).arity ≡ 2
binary_arity op.Negate e = absurd (false≢true e)
binary_arity op.Not e = absurd (false≢true e)
binary_arity _ e = refl

pub copies_fit : (room : ℕ) (vs : List CVar) (atoms : List Atom) → AllFit room (copies vs atoms)
copies_fit room vs atoms = fits_mapped room (λ q. c.set q.0 (atom_expr q.1)) (zip vs atoms) (λ q. set_atom room q.0 q.1)

reads_fit : (room : ℕ) (vs : List CVar) (cells : List CCell) → AllFit room (reads vs cells)
reads_fit room vs cells = fits_mapped room (λ q. c.set q.0 (c.cell q.1)) (zip vs cells) (λ q. set_one room q.0 (c.cell q.1) tt refl)

pub puts_fit : (room : ℕ) (cells : List CCell) (atoms : List Atom) → AllFit room (puts cells atoms)
puts_fit room cells atoms = fits_mapped room (λ q. c.put q.0 (atom_expr q.1)) (zip cells atoms) (λ q. put_atom room q.0 q.1)

temp_fits : (room : ℕ) (stmts : List Stmt) (t : Numbers) (e : c.Expr) → AllFit room stmts → HasArities e → expr_depth e ≤ most → AllFit room (into_temp stmts t e).stmts
temp_fits room stmts t e all h d = fits_both room stmts (c.set (var_at t of_number) e ∷ []) all (set_fits room (var_at t of_number) e h d, tt)

strict_fits : (room : ℕ) (o : Op) (left : Code) (right : Numbers → Code) → (row_of o).arity ≡ 2 → AllFit (suc room) left.stmts → AllFit (suc room) (right left.next).stmts →
    AllFit (suc room) (into_temp (left.stmts ++ (right left.next).stmts ++ g.binary_guards o (value_of left) (value_of (right left.next))) (right left.next).next (c.binary o (value_of left) (value_of (right left.next)))).stmts
strict_fits room o left right e l r =
    let rest = right left.next in
    temp_fits (suc room) (left.stmts ++ rest.stmts ++ g.binary_guards o (value_of left) (value_of rest)) rest.next (c.binary o (value_of left) (value_of rest))
    (fits_both (suc room) (left.stmts ++ rest.stmts) (g.binary_guards o (value_of left) (value_of rest)) (fits_both (suc room) left.stmts rest.stmts l r)
    ((binary_fit room o (value_of left) (value_of rest) (value_arity left) (value_arity rest) (value_depth left) (value_depth rest))))
    (two o (value_of left) (value_of rest) e (value_arity left) (value_arity rest))
    (rw (value_depth left, value_depth rest) (omega arith))

lazy_fits : (room : ℕ) (is_and : Bool) (left : Code) (right : Numbers → Code) → AllFit (suc room) left.stmts → ((t : Numbers) → AllFit room (right t).stmts) →
    AllFit (suc room) (lazy_code is_and left right).stmts
lazy_fits room is_and left right l r =
    let temp = var_at left.next of_number in
    let rest = right (past left.next of_number) in
    let test : c.Expr → c.Expr → c.Expr = if is_and then g.unequal else g.equal in
    fits_both (suc room) left.stmts (c.set temp (value_of left) ∷ c.when (test (c.variable temp) (g.whole 0)) (stmts_made (rest.stmts ++ c.set temp (value_of rest) ∷ [])) ∷ []) l
    (set_atom (suc room) temp (first_atom left.atoms), (by is_and temp rest (r (past left.next of_number)), tt))
  where
    by : (is_and : Bool) (temp : CVar) (rest : Code) → AllFit room rest.stmts →
        Fits (suc room) (c.when ((if is_and then g.unequal else g.equal) (c.variable temp) (g.whole 0)) (stmts_made (rest.stmts ++ c.set temp (value_of rest) ∷ [])))
    by true temp rest h =
        when_fits room (g.unequal (c.variable temp) (g.whole 0)) (rest.stmts ++ c.set temp (value_of rest) ∷ []) (refl, tt, tt) (omega arith)
        (fits_both room rest.stmts (c.set temp (value_of rest) ∷ []) h (set_atom room temp (first_atom rest.atoms), tt))
    by false temp rest h =
        when_fits room (g.equal (c.variable temp) (g.whole 0)) (rest.stmts ++ c.set temp (value_of rest) ∷ []) (refl, tt, tt) (omega arith)
        (fits_both room rest.stmts (c.set temp (value_of rest) ∷ []) h (set_atom room temp (first_atom rest.atoms), tt))

both_fit : (room : ℕ) (o : Op) (left : Code) (right : Numbers → Code) → (row_of o).arity ≡ 2 → AllFit (suc room) left.stmts → ((t : Numbers) → AllFit (suc room) (right t).stmts) →
    ((t : Numbers) → AllFit room (right t).stmts) → AllFit (suc room) (binary_code o left right).stmts
both_fit room op.And left right e l r inner = lazy_fits room true left right l inner
both_fit room op.Or left right e l r inner = lazy_fits room false left right l inner
both_fit room o left right e l r inner = strict_fits room o left right e l (r left.next)

pub expr_fits : (p : Program) (f : Func) (room : ℕ) (t : Numbers) (e : Expr) → has_arities e ≡ true → depth e ≤ suc room → AllFit room (expr_code p f t e).stmts
expr_fits p f room t (core.number z) h d = tt
expr_fits p f room t (core.truth b) h d = tt
expr_fits p f room t (core.var v) h d = tt
expr_fits p f room t (core.field x i) h d = reads_fit room (vars_at t (cell_sorts p f x i)) (touched_cells p f x i)
expr_fits p f zero t (core.unary o e) h d = absurd (omega (arith, d, depth_some e))
expr_fits p f (suc room) t (core.unary o e) h d =
    let code = expr_code p f t e in
    temp_fits (suc room) (code.stmts ++ g.unary_guards o (value_of code)) code.next (c.unary o (value_of code))
    (fits_both (suc room) code.stmts (g.unary_guards o (value_of code)) (expr_fits p f (suc room) t e (and_right (is_prefix o) (has_arities e) h) (omega (arith, d)))
    (unary_fit room o (value_of code) (value_arity code) (value_depth code)))
    (prefix_arity o (and_left (is_prefix o) (has_arities e) h), value_arity code) (rw (value_depth code) (omega arith))
expr_fits p f zero t (core.binary o a b) h d = absurd (omega (arith, d, depth_some a))
expr_fits p f (suc room) t (core.binary o a b) h d =
    let rest = and_right (is_binary o) (has_arities a && has_arities b) h in
    both_fit room o (expr_code p f t a) (λ t. expr_code p f t b) (binary_arity o (and_left (is_binary o) (has_arities a && has_arities b) h))
    (expr_fits p f (suc room) t a (and_left (has_arities a) (has_arities b) rest) (omega (arith, d)))
    (λ t. expr_fits p f (suc room) t b (and_right (has_arities a) (has_arities b) rest) (omega (arith, d)))
    (λ t. expr_fits p f room t b (and_right (has_arities a) (has_arities b) rest) (omega (arith, d)))
