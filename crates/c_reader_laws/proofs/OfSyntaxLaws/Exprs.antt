-- Expressions and calls are read back from their tokens, so no two are spelled alike.
use Rattle.std.proofs.Common.{◌≡◌, ◌≤◌, ℕ, zero, suc, pos, max, Bool, true, false, if◌then◌else◌, List, [], ◌∷◌, drop, Option, Some, None, refl, ap, ◌∙◌, arith}
use Rattle.vlt_ops.specs.declared.Op.{Op}
use Rattle.vlt_ops.specs.declared.Op.TheVariants as op
use Rattle.vlt_ops.specs.Operator.{row_of}
use Rattle.c_syntax.specs.declared.program.CVar.{CVar}
use Rattle.c_syntax.specs.declared.program.CCell.{CCell}
use Rattle.c_syntax.specs.declared.program.CCell.TheVariants as cell
use Rattle.c_syntax.specs.declared.token.CWord.TheVariants as w
use Rattle.c_syntax.specs.declared.token.CSign.TheVariants as s
use Rattle.c_syntax.specs.C as c
use Rattle.c_syntax.specs.C.{Expr, Arg, Call}
use Rattle.c_syntax.specs.Tokens as t
use Rattle.c_syntax.specs.Tokens.{Token}
use Rattle.c_syntax.specs.Grammar.{HasArities, expr_depth}
use Rattle.c_syntax.specs.Spelling.{prefix_sign, expr_then, arg_token, args_then, more_args_then, call_then}

-- a part, and the tokens after it
abbrev pub Part : Type 0 → Type 0
Part X = Option (X × List Token)

abbrev pub bind : {X Y : Type 0} → Option X → (X → Option Y) → Option Y
bind None k = None
bind (Some x) k = k x

-- ---- expressions

abbrev pub begins_arrow : List Token → Bool
begins_arrow (t.sign s.Arrow ∷ ts) = true
begins_arrow _ = false

abbrev begins_operator : List Token → Bool
begins_operator (t.operator o ∷ ts) = true
begins_operator _ = false

abbrev operator_of : List Token → Op
operator_of (t.operator o ∷ ts) = o
operator_of _ = op.Negate

abbrev unsigned : Op → Op
unsigned op.Subtract = op.Negate
unsigned o = o

-- a cell after its variable
abbrev pub read_cell : CVar → List Token → Part CCell
read_cell v (_ ∷ t.word w.Numbers ∷ _ ∷ t.number (pos k) ∷ _ ∷ ts) = Some (cell.Number v.number k, ts)
read_cell v (_ ∷ t.word w.References ∷ _ ∷ t.number (pos k) ∷ _ ∷ ts) = Some (cell.Reference v.number k, ts)
read_cell v _ = None

abbrev read_variable : CVar → List Token → Part Expr
read_variable v ts = if begins_arrow ts then bind (read_cell v ts) (λ p. Some (c.cell p.0, p.1)) else Some (c.variable v, ts)

abbrev read_paren : (List Token → Part Expr) → List Token → Part Expr
read_paren read ts =
    if begins_operator ts then bind (read (drop 1 ts)) (λ p. Some (c.unary (unsigned (operator_of ts)) p.0, drop 1 p.1))
    else bind (read ts) (λ p. bind (read (drop 1 p.1)) (λ q. Some (c.binary (operator_of p.1) p.0 q.0, drop 1 q.1)))

abbrev pub read_expr : ℕ → List Token → Part Expr
read_expr zero ts = None
read_expr (suc n) (t.number z ∷ ts) = Some (c.number z, ts)
read_expr (suc n) (t.word w.Null ∷ ts) = Some (c.null, ts)
read_expr (suc n) (t.variable v ∷ ts) = read_variable v ts
read_expr (suc n) (t.sign s.OpenParen ∷ ts) = read_paren (read_expr n) ts
read_expr (suc n) _ = None

sign_read : (o : Op) → (row_of o).arity ≡ 1 → unsigned (prefix_sign o) ≡ o
sign_read op.Negate h = refl
sign_read op.Not h = refl
sign_read op.Multiply h = refl
sign_read op.Divide h = refl
sign_read op.Remainder h = refl
sign_read op.Add h = refl
sign_read op.Subtract h = absurd (omega (arith, h))
sign_read op.Less h = refl
sign_read op.LessOrEqual h = refl
sign_read op.Greater h = refl
sign_read op.GreaterOrEqual h = refl
sign_read op.Equal h = refl
sign_read op.NotEqual h = refl
sign_read op.BitAnd h = refl
sign_read op.BitXor h = refl
sign_read op.BitOr h = refl
sign_read op.And h = refl
sign_read op.Or h = refl

no_operator : (e : Expr) (ts : List Token) → begins_operator (expr_then e ts) ≡ false
no_operator (c.number z) ts = refl
no_operator (c.variable v) ts = refl
no_operator (c.cell (cell.Number p k)) ts = refl
no_operator (c.cell (cell.Reference p k)) ts = refl
no_operator c.null ts = refl
no_operator (c.unary o e) ts = refl
no_operator (c.binary o a b) ts = refl

pub max_left : (a b n : ℕ) → max a b ≤ n → a ≤ n
max_left a b n h = omega (arith, h)

pub max_right : (a b n : ℕ) → max a b ≤ n → b ≤ n
max_right a b n h = omega (arith, h)

some_depth : (e : Expr) → 1 ≤ expr_depth e
some_depth (c.number z) = omega arith
some_depth (c.variable v) = omega arith
some_depth (c.cell x) = omega arith
some_depth c.null = omega arith
some_depth (c.unary o e) = omega arith
some_depth (c.binary o a b) = omega arith

pub expr_read : (n : ℕ) (e : Expr) (ts : List Token) → expr_depth e ≤ n → HasArities e → begins_arrow ts ≡ false → read_expr n (expr_then e ts) ≡ Some (e, ts)
expr_read zero e ts deep is after = let k = some_depth e in absurd (omega (arith, deep, k))
expr_read (suc n) (c.number z) ts deep is after = refl
expr_read (suc n) (c.variable v) ts deep is after = ap (λ b. if b then bind (read_cell v ts) (λ p. Some (c.cell p.0, p.1)) else Some (c.variable v, ts)) after
expr_read (suc n) (c.cell (cell.Number p k)) ts deep is after = refl
expr_read (suc n) (c.cell (cell.Reference p k)) ts deep is after = refl
expr_read (suc n) c.null ts deep is after = refl
expr_read (suc n) (c.unary o e) ts deep is after =
    ap (λ x. bind x (λ p. Some (c.unary (unsigned (prefix_sign o)) p.0, drop 1 p.1))) (expr_read n e (t.sign s.CloseParen ∷ ts) (omega (arith, deep)) is.1 refl)
    ∙ ap (λ x. Some (c.unary x e, ts)) (sign_read o is.0)
expr_read (suc n) (c.binary o a b) ts deep is after =
    let second : List Token = expr_then b (t.sign s.CloseParen ∷ ts) in
    let first : List Token = expr_then a (t.operator o ∷ second) in
    let both : max (expr_depth a) (expr_depth b) ≤ n = omega (arith, deep) in
    ap (λ x. if x then bind (read_expr n (drop 1 first)) (λ p. Some (c.unary (unsigned (operator_of first)) p.0, drop 1 p.1))
    else bind (read_expr n first) (λ p. bind (read_expr n (drop 1 p.1)) (λ q. Some (c.binary (operator_of p.1) p.0 q.0, drop 1 q.1)))) (no_operator a (t.operator o ∷ second))
    ∙ ap (λ x. bind x (λ p. bind (read_expr n (drop 1 p.1)) (λ q. Some (c.binary (operator_of p.1) p.0 q.0, drop 1 q.1)))) (expr_read n a (t.operator o ∷ second) (max_left (expr_depth a) (expr_depth b) n both) is.1 refl)
    ∙ ap (λ x. bind x (λ q. Some (c.binary o a q.0, drop 1 q.1))) (expr_read n b (t.sign s.CloseParen ∷ ts) (max_right (expr_depth a) (expr_depth b) n both) is.2 refl)

-- ---- calls

abbrev read_arg : Token → Option Arg
read_arg (t.number z) = Some (c.number z)
read_arg (t.variable v) = Some (c.variable v)
read_arg (t.word w.Null) = Some c.null
read_arg (t.text cs) = Some (c.text cs)
read_arg _ = None

abbrev read_more_args : List Token → Part (List Arg)
read_more_args (t.sign s.CloseParen ∷ ts) = Some ([], ts)
read_more_args (t.sign s.Comma ∷ x ∷ ts) = bind (read_arg x) (λ a. bind (read_more_args ts) (λ p. Some (a ∷ p.0, p.1)))
read_more_args _ = None

abbrev begins_close_paren : List Token → Bool
begins_close_paren (t.sign s.CloseParen ∷ ts) = true
begins_close_paren _ = false

abbrev read_first_arg : List Token → Part (List Arg)
read_first_arg [] = None
read_first_arg (x ∷ ts) = bind (read_arg x) (λ a. bind (read_more_args ts) (λ p. Some (a ∷ p.0, p.1)))

abbrev read_args : List Token → Part (List Arg)
read_args ts = if begins_close_paren ts then Some ([], drop 1 ts) else read_first_arg ts

abbrev pub read_call : List Token → Part Call
read_call (t.name f ∷ _ ∷ ts) = bind (read_args ts) (λ p. Some (c.function f p.0, p.1))
read_call (t.primitive f ∷ _ ∷ ts) = bind (read_args ts) (λ p. Some (c.primitive f p.0, p.1))
read_call _ = None

arg_read : (x : Arg) → read_arg (arg_token x) ≡ Some x
arg_read (c.number z) = refl
arg_read (c.variable v) = refl
arg_read c.null = refl
arg_read (c.text cs) = refl

arg_is_no_end : (x : Arg) (ts : List Token) → begins_close_paren (arg_token x ∷ ts) ≡ false
arg_is_no_end (c.number z) ts = refl
arg_is_no_end (c.variable v) ts = refl
arg_is_no_end c.null ts = refl
arg_is_no_end (c.text cs) ts = refl

more_args_read : (xs : List Arg) (ts : List Token) → read_more_args (more_args_then xs ts) ≡ Some (xs, ts)
more_args_read [] ts = refl
more_args_read (x ∷ xs) ts =
    ap (λ a. bind a (λ a. bind (read_more_args (more_args_then xs ts)) (λ p. Some (a ∷ p.0, p.1)))) (arg_read x)
    ∙ ap (λ o. bind o (λ p. Some (x ∷ p.0, p.1))) (more_args_read xs ts)

args_read : (xs : List Arg) (ts : List Token) → read_args (args_then xs ts) ≡ Some (xs, ts)
args_read [] ts = refl
args_read (x ∷ xs) ts =
    let all : List Token = arg_token x ∷ more_args_then xs ts in
    ap (λ b. if b then Some ([], drop 1 all) else read_first_arg all) (arg_is_no_end x (more_args_then xs ts))
    ∙ ap (λ a. bind a (λ a. bind (read_more_args (more_args_then xs ts)) (λ p. Some (a ∷ p.0, p.1)))) (arg_read x)
    ∙ ap (λ o. bind o (λ p. Some (x ∷ p.0, p.1))) (more_args_read xs ts)

pub call_read : (f : Call) (ts : List Token) → read_call (call_then f ts) ≡ Some (f, ts)
call_read (c.function f xs) ts = ap (λ o. bind o (λ p. Some (c.function f p.0, p.1))) (args_read xs ts)
call_read (c.primitive f xs) ts = ap (λ o. bind o (λ p. Some (c.primitive f p.0, p.1))) (args_read xs ts)
