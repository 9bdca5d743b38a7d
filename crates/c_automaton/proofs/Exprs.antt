-- The automaton takes expressions and calls.
use Rattle.std.proofs.Common.{◌≡◌, ℕ, suc, ◌+◌, ◌-◌, ◌≤◌, nat_le, Bool, true, false, if◌then◌else◌, List, [], ◌∷◌, ◌++◌, refl, ap, ◌∙◌, arith}
use Rattle.std.proofs.lemmas.Bool.Decides.{nat_tests}
use Rattle.vlt_base.specs.declared.limits.TheConstants.{C_EXPRESSION_DEPTH}
use Rattle.vlt_ops.specs.declared.Op.{Op}
use Rattle.vlt_ops.specs.declared.Op.TheVariants as op
use Rattle.vlt_ops.specs.Operator.{row_of}
use Rattle.c_syntax.specs.declared.program.CCell.TheVariants as cell
use Rattle.c_syntax.specs.declared.program.CPrim.{CPrim}
use Rattle.c_syntax.specs.declared.program.CPrim.TheVariants as prim
use Rattle.c_syntax.specs.declared.token.CSign.TheVariants as s
use Rattle.c_syntax.specs.C as c
use Rattle.c_syntax.specs.C.{Expr, Arg, Call}
use Rattle.c_syntax.specs.Tokens as t
use Rattle.c_syntax.specs.Tokens.{Token}
use Rattle.c_syntax.specs.Grammar.{Bounds, HasArities, expr_depth, HasNoText, IsCall}
use Rattle.c_syntax.specs.Spelling.{prefix_sign, expr_then, args_then, more_args_then, call_then}
use Rattle.c_automaton.specs.Automaton.{Symbol, sign, stmts, value, after_return, operand, operand_end, inside, operation, closing, args, more_args, parens_in, take, open_paren, react_inside, is_string_taker, Next, to, over, next, step}
use Rattle.c_automaton.proofs.After.{bind, after}

-- ---- an operand ends where no arrow comes

abbrev pub no_arrow : List Token → Bool
no_arrow [] = false
no_arrow (t.sign s.Arrow ∷ ts) = false
no_arrow (x ∷ ts) = true

pub operand_ends : (b : Bounds) (ys : List Symbol) (rest : List Token) → no_arrow rest ≡ true → after b rest (operand_end ∷ ys) ≡ after b rest ys
operand_ends b ys [] e = absurd cc
operand_ends b ys (t.sign s.Arrow ∷ rest) e = absurd cc
operand_ends b ys (x ∷ rest) e = refl

pub some_depth : (e : Expr) → 1 ≤ expr_depth e
some_depth (c.number z) = omega arith
some_depth (c.variable v) = omega arith
some_depth (c.cell x) = omega arith
some_depth c.null = omega arith
some_depth (c.unary o e) = omega arith
some_depth (c.binary o a b) = omega arith

pub le_true : (m n : ℕ) → m ≤ n → nat_le m n ≡ true
le_true m n h = grind (arith, nat_tests)

-- a parenthesis opens
opens : (b : Bounds) (xs ys : List Symbol) (below : Next) → parens_in (xs ++ ys) ≤ b.expressions - 1 → next b ys below (open_paren xs) ≡ to (xs ++ ys)
opens b xs ys below h = ap (λ d. if d then to (xs ++ ys) else over C_EXPRESSION_DEPTH) (le_true (parens_in (xs ++ ys)) (b.expressions - 1) h)

-- ---- operators

prefix_taken : (o : Op) → (row_of o).arity ≡ 1 → react_inside (t.operator (prefix_sign o)) ≡ take (operand ∷ closing ∷ [])
prefix_taken op.Negate h = refl
prefix_taken op.Not h = refl
prefix_taken op.Multiply h = absurd (omega (arith, h))
prefix_taken op.Divide h = absurd (omega (arith, h))
prefix_taken op.Remainder h = absurd (omega (arith, h))
prefix_taken op.Add h = absurd (omega (arith, h))
prefix_taken op.Subtract h = absurd (omega (arith, h))
prefix_taken op.Less h = absurd (omega (arith, h))
prefix_taken op.LessOrEqual h = absurd (omega (arith, h))
prefix_taken op.Greater h = absurd (omega (arith, h))
prefix_taken op.GreaterOrEqual h = absurd (omega (arith, h))
prefix_taken op.Equal h = absurd (omega (arith, h))
prefix_taken op.NotEqual h = absurd (omega (arith, h))
prefix_taken op.BitAnd h = absurd (omega (arith, h))
prefix_taken op.BitXor h = absurd (omega (arith, h))
prefix_taken op.BitOr h = absurd (omega (arith, h))
prefix_taken op.And h = absurd (omega (arith, h))
prefix_taken op.Or h = absurd (omega (arith, h))

after_prefix : (b : Bounds) (o : Op) (ys : List Symbol) (rest : List Token) → (row_of o).arity ≡ 1 → after b (t.operator (prefix_sign o) ∷ rest) (inside ∷ ys) ≡ after b rest (operand ∷ closing ∷ ys)
after_prefix b o ys rest h = ap (λ r. bind (after b rest) (next b ys (step b ys (t.operator (prefix_sign o))) r)) (prefix_taken o h)

after_operator : (b : Bounds) (o : Op) (ys : List Symbol) (rest : List Token) → (row_of o).arity ≡ 2 → after b (t.operator o ∷ rest) (operation ∷ ys) ≡ after b rest (operand ∷ closing ∷ ys)
after_operator b o ys rest h = rw h refl

-- ---- where an expression begins another symbol

inside_variable : (b : Bounds) (r : Bool) (ys : List Symbol) (n : ℕ) (rest : List Token) → after b (t.variable (record { reference = r; number = n }) ∷ rest) (inside ∷ ys) ≡ after b (t.variable (record { reference = r; number = n }) ∷ rest) (operand ∷ operation ∷ ys)
inside_variable b true ys n rest = refl
inside_variable b false ys n rest = refl

pub as_inside : (b : Bounds) (e : Expr) (ys : List Symbol) (rest : List Token) → after b (expr_then e rest) (inside ∷ ys) ≡ after b (expr_then e rest) (operand ∷ operation ∷ ys)
as_inside b (c.number z) ys rest = refl
as_inside b (c.variable v) ys rest = inside_variable b v.reference ys v.number rest
as_inside b (c.cell (cell.Number p k)) ys rest = refl
as_inside b (c.cell (cell.Reference p k)) ys rest = refl
as_inside b c.null ys rest = refl
as_inside b (c.unary o e) ys rest = refl
as_inside b (c.binary o x y) ys rest = refl

return_variable : (b : Bounds) (r : Bool) (ys : List Symbol) (n : ℕ) (rest : List Token) → after b (t.variable (record { reference = r; number = n }) ∷ rest) (after_return ∷ ys) ≡ after b (t.variable (record { reference = r; number = n }) ∷ rest) (operand ∷ sign s.Semicolon ∷ ys)
return_variable b true ys n rest = refl
return_variable b false ys n rest = refl

pub as_returned : (b : Bounds) (e : Expr) (ys : List Symbol) (rest : List Token) → after b (expr_then e rest) (after_return ∷ ys) ≡ after b (expr_then e rest) (operand ∷ sign s.Semicolon ∷ ys)
as_returned b (c.number z) ys rest = refl
as_returned b (c.variable v) ys rest = return_variable b v.reference ys v.number rest
as_returned b (c.cell (cell.Number p k)) ys rest = refl
as_returned b (c.cell (cell.Reference p k)) ys rest = refl
as_returned b c.null ys rest = refl
as_returned b (c.unary o e) ys rest = refl
as_returned b (c.binary o x y) ys rest = refl

pub as_value : (b : Bounds) (e : Expr) (ys : List Symbol) (rest : List Token) → after b (expr_then e rest) (value ∷ ys) ≡ after b (expr_then e rest) (operand ∷ ys)
as_value b (c.number z) ys rest = refl
as_value b (c.variable v) ys rest = refl
as_value b (c.cell (cell.Number p k)) ys rest = refl
as_value b (c.cell (cell.Reference p k)) ys rest = refl
as_value b c.null ys rest = refl
as_value b (c.unary o e) ys rest = refl
as_value b (c.binary o x y) ys rest = refl

-- ---- expressions

variable_taken : (b : Bounds) (r : Bool) (ys : List Symbol) (n : ℕ) (rest : List Token) → no_arrow rest ≡ true → after b (t.variable (record { reference = r; number = n }) ∷ rest) (operand ∷ ys) ≡ after b rest ys
variable_taken b true ys n rest e = operand_ends b ys rest e
variable_taken b false ys n rest e = refl

pub take_expr : (b : Bounds) (e : Expr) (ys : List Symbol) (rest : List Token) → HasArities e → expr_depth e + parens_in ys ≤ suc (b.expressions - 1) → no_arrow rest ≡ true → after b (expr_then e rest) (operand ∷ ys) ≡ after b rest ys
take_expr b (c.number z) ys rest is deep ends = refl
take_expr b (c.variable v) ys rest is deep ends = variable_taken b v.reference ys v.number rest ends
take_expr b (c.cell (cell.Number p k)) ys rest is deep ends = refl
take_expr b (c.cell (cell.Reference p k)) ys rest is deep ends = refl
take_expr b c.null ys rest is deep ends = refl
take_expr b (c.unary o e) ys rest is deep ends =
    let some = some_depth e in
    let following : List Token = t.operator (prefix_sign o) ∷ expr_then e (t.sign s.CloseParen ∷ rest) in
    ap (bind (after b following)) (opens b (inside ∷ []) ys (step b ys (t.sign s.OpenParen)) (omega (arith, deep, some)))
    ∙ after_prefix b o ys (expr_then e (t.sign s.CloseParen ∷ rest)) is.0
    ∙ take_expr b e (closing ∷ ys) (t.sign s.CloseParen ∷ rest) is.1 (omega (arith, deep)) refl
take_expr b (c.binary o x y) ys rest is deep ends =
    let some = some_depth x in
    let second : List Token = expr_then y (t.sign s.CloseParen ∷ rest) in
    let following : List Token = expr_then x (t.operator o ∷ second) in
    ap (bind (after b following)) (opens b (inside ∷ []) ys (step b ys (t.sign s.OpenParen)) (omega (arith, deep, some)))
    ∙ as_inside b x ys (t.operator o ∷ second)
    ∙ take_expr b x (operation ∷ ys) (t.operator o ∷ second) is.1 (omega (arith, deep)) refl
    ∙ after_operator b o ys second is.0
    ∙ take_expr b y (closing ∷ ys) (t.sign s.CloseParen ∷ rest) is.2 (omega (arith, deep)) refl

-- ---- calls

-- where strings may not stand, there are none
abbrev pub MayStand : Bool → List Arg → Type 0
MayStand true xs = Unit {0}
MayStand false xs = HasNoText xs

tail_stands : (texts : Bool) (x : Arg) (xs : List Arg) → MayStand texts (x ∷ xs) → MayStand texts xs
tail_stands true x xs h = tt
tail_stands false (c.number z) xs h = h
tail_stands false (c.variable v) xs h = h
tail_stands false c.null xs h = h
tail_stands false (c.text cs) xs h = absurd h

pub take_more_args : (b : Bounds) (texts : Bool) (xs : List Arg) (ys : List Symbol) (rest : List Token) → MayStand texts xs → after b (more_args_then xs rest) (more_args texts ∷ ys) ≡ after b rest ys
take_more_args b texts [] ys rest h = refl
take_more_args b texts (c.number z ∷ xs) ys rest h = take_more_args b texts xs ys rest (tail_stands texts (c.number z) xs h)
take_more_args b texts (c.variable v ∷ xs) ys rest h = take_more_args b texts xs ys rest (tail_stands texts (c.variable v) xs h)
take_more_args b texts (c.null ∷ xs) ys rest h = take_more_args b texts xs ys rest (tail_stands texts c.null xs h)
take_more_args b true (c.text cs ∷ xs) ys rest h = take_more_args b true xs ys rest h
take_more_args b false (c.text cs ∷ xs) ys rest h = absurd h

pub take_args : (b : Bounds) (texts : Bool) (xs : List Arg) (ys : List Symbol) (rest : List Token) → MayStand texts xs → after b (args_then xs rest) (args texts ∷ ys) ≡ after b rest ys
take_args b texts [] ys rest h = refl
take_args b texts (c.number z ∷ xs) ys rest h = take_more_args b texts xs ys rest (tail_stands texts (c.number z) xs h)
take_args b texts (c.variable v ∷ xs) ys rest h = take_more_args b texts xs ys rest (tail_stands texts (c.variable v) xs h)
take_args b texts (c.null ∷ xs) ys rest h = take_more_args b texts xs ys rest (tail_stands texts c.null xs h)
take_args b true (c.text cs ∷ xs) ys rest h = take_more_args b true xs ys rest h
take_args b false (c.text cs ∷ xs) ys rest h = absurd h

pub primitive_args : (p : CPrim) (xs : List Arg) → IsCall (c.primitive p xs) → MayStand (is_string_taker p) xs
primitive_args prim.New xs h = h
primitive_args prim.Own xs h = h
primitive_args prim.Disown xs h = h
primitive_args prim.Parent xs h = h
primitive_args prim.Release xs h = h
primitive_args prim.Trap xs h = h
primitive_args prim.Print xs h = h
primitive_args prim.Read xs h = h
primitive_args prim.More xs h = h
primitive_args prim.PutN xs h = h
primitive_args prim.GetN xs h = h
primitive_args prim.PutP xs h = h
primitive_args prim.GetP xs h = h
primitive_args prim.Call xs h = tt
primitive_args prim.ArgN xs h = h
primitive_args prim.ArgP xs h = h
primitive_args prim.Ask xs h = h
primitive_args prim.Int xs h = h
primitive_args prim.Pick xs h = h
primitive_args prim.Out xs h = h
primitive_args prim.Back xs h = h
primitive_args prim.End xs h = h

pub take_value_call : (b : Bounds) (f : Call) (ys : List Symbol) (rest : List Token) → IsCall f → after b (call_then f rest) (value ∷ ys) ≡ after b rest ys
take_value_call b (c.function f xs) ys rest h = take_args b false xs ys rest h
take_value_call b (c.primitive p xs) ys rest h = take_args b (is_string_taker p) xs ys rest (primitive_args p xs h)

pub take_call : (b : Bounds) (counts : Bool) (f : Call) (ys : List Symbol) (rest : List Token) → IsCall f → after b (call_then f (t.sign s.Semicolon ∷ rest)) (stmts counts ∷ ys) ≡ after b rest (stmts counts ∷ ys)
take_call b counts (c.function f xs) ys rest h = take_args b false xs (sign s.Semicolon ∷ stmts counts ∷ ys) (t.sign s.Semicolon ∷ rest) h
take_call b counts (c.primitive p xs) ys rest h = take_args b (is_string_taker p) xs (sign s.Semicolon ∷ stmts counts ∷ ys) (t.sign s.Semicolon ∷ rest) (primitive_args p xs h)
