-- Back over a token, symbol by symbol.
use Rattle.std.proofs.Common.{◌≡◌, ℕ, suc, ◌+◌, ◌≤◌, ◌==◌, pos, max, Bool, true, false, if◌then◌else◌, List, [], ◌∷◌, refl, ap, ◌∙◌, arith}
use Rattle.std.proofs.lemmas.Bool.{eqb-true}
use Rattle.vlt_ops.specs.declared.Op.{Op}
use Rattle.vlt_ops.specs.declared.Op.TheVariants as op
use Rattle.vlt_ops.specs.Operator.{row_of}
use Rattle.c_syntax.specs.declared.program.CName.{CName}
use Rattle.c_syntax.specs.declared.program.CPrim.{CPrim}
use Rattle.c_syntax.specs.declared.program.CPrim.TheVariants as prim
use Rattle.c_syntax.specs.declared.program.CCell.{CCell}
use Rattle.c_syntax.specs.declared.program.CCell.TheVariants as cell
use Rattle.c_syntax.specs.declared.token.CWord.TheVariants as w
use Rattle.c_syntax.specs.declared.token.CSign.TheVariants as s
use Rattle.c_syntax.specs.C as c
use Rattle.c_syntax.specs.C.{Expr, Arg, Call}
use Rattle.c_syntax.specs.Tokens as t
use Rattle.c_syntax.specs.Tokens.{Token}
use Rattle.c_syntax.specs.Grammar.{Bounds, expr_depth, IsCall}
use Rattle.c_syntax.specs.Spelling.{prefix_sign, expr_then, arg_token, call_then, stmt_then}
use Rattle.c_automaton.specs.Automaton as a
use Rattle.c_automaton.specs.Automaton.{Symbol, parens_in, Reaction, is_string_taker, with_after, react_operand, react_inside, react_operation, react_operand_end, react_arg, react_args, react_more_args, react}
use Rattle.c_automaton.proofs.Exprs.{MayStand, some_depth}
use Rattle.c_automaton.proofs.Parts.{Rest, reference, kind_word, Part, Spells, Backs}

pub if_back : (P : Reaction → Type 0) (d : Bool) (x y : Reaction) → (d ≡ true → P x) → P y → P (if d then x else y)
if_back P true x y p q = p refl
if_back P false x y p q = q

-- ---- expressions

variable_back : (b : Bounds) (r : Bool) (n : ℕ) (ys : List Symbol) (K : Rest) (ts : List Token) → Backs b a.operand ys K ts (t.variable (record { reference = r; number = n })) (if r then a.take (a.operand_end ∷ []) else a.take [])
variable_back b true n ys K ts = λ k p. let q = k n in let one = q.3 in (q.0, q.1, q.2, omega (arith, p, one), q.4, q.5)
variable_back b false n ys K ts = λ k p. (c.variable (record { reference = false; number = n }), ts, tt, omega (arith, p), refl, k)

pub back_operand : (b : Bounds) (ys : List Symbol) (K : Rest) (ts : List Token) (x : Token) → Backs b a.operand ys K ts x (react_operand x)
back_operand b ys K ts (t.number z) = λ k p. (c.number z, ts, tt, omega (arith, p), refl, k)
back_operand b ys K ts (t.word w.Null) = λ k p. (c.null, ts, tt, omega (arith, p), refl, k)
back_operand b ys K ts (t.variable v) = variable_back b v.reference v.number ys K ts
back_operand b ys K ts (t.sign s.OpenParen) = λ fits k p. k (omega (arith, fits, p))
back_operand b ys K ts _ = tt

-- what begins with an operand that one symbol stands after
through_variable : (b : Bounds) (y z : Symbol) (r : Bool) (n : ℕ) (ys : List Symbol) (K : Rest) (ts : List Token)
    → (Part b a.operand (z ∷ ys) (Spells b (z ∷ ys) K) (t.variable (record { reference = r; number = n }) ∷ ts) → Part b y ys (Spells b ys K) (t.variable (record { reference = r; number = n }) ∷ ts))
    → Backs b y ys K ts (t.variable (record { reference = r; number = n })) (with_after (if r then a.take (a.operand_end ∷ []) else a.take []) (z ∷ []))
through_variable b y z true n ys K ts f = λ k. f (variable_back b true n (z ∷ ys) K ts k)
through_variable b y z false n ys K ts f = λ k. f (variable_back b false n (z ∷ ys) K ts k)

pub through : (b : Bounds) (y z : Symbol) (ys : List Symbol) (K : Rest) (ts : List Token) (x : Token)
    → (Part b a.operand (z ∷ ys) (Spells b (z ∷ ys) K) (x ∷ ts) → Part b y ys (Spells b ys K) (x ∷ ts))
    → Backs b y ys K ts x (with_after (react_operand x) (z ∷ []))
through b y z ys K ts (t.number n) f = λ k. f (back_operand b (z ∷ ys) K ts (t.number n) k)
through b y z ys K ts (t.word w.Null) f = λ k. f (back_operand b (z ∷ ys) K ts (t.word w.Null) k)
through b y z ys K ts (t.variable v) f = through_variable b y z v.reference v.number ys K ts f
through b y z ys K ts (t.sign s.OpenParen) f = λ fits k. f (back_operand b (z ∷ ys) K ts (t.sign s.OpenParen) fits k)
through b y z ys K ts _ f = tt

-- ---- cells

abbrev pub cell_in : Bool → (n k : ℕ) → CCell
cell_in true n k = cell.Reference n k
cell_in false n k = cell.Number n k

-- after the arrow
abbrev pub tail_tokens : Bool → (k : ℕ) → List Token → List Token
tail_tokens r k rest = t.word (kind_word r) ∷ t.sign s.OpenBracket ∷ t.number (pos k) ∷ t.sign s.CloseBracket ∷ rest

abbrev pub CellTail : Bounds → List Symbol → Rest → List Token → Type 0
CellTail b zs K ts = (r : Bool) × (k : ℕ) × (rest : List Token) × (ts ≡ tail_tokens r k rest) × Spells b zs K rest

pub cell_tail : (b : Bounds) (zs : List Symbol) (K : Rest) (ts : List Token) → Spells b (a.cell_rest zs) K ts → CellTail b zs K ts
cell_tail b zs K ts k =
    let opening = k.3 in
    let index = opening.2 in
    let close = index.3 in (
      k.0,
      index.0,
      close.0,
      k.2 ∙ ap (λ r. t.word (kind_word k.0) ∷ r) (opening.1 ∙ ap (λ r. t.sign s.OpenBracket ∷ r) (index.2 ∙ ap (λ r. t.number (pos index.0) ∷ r) close.1)),
      close.2,
    )

cell_spelled : (r : Bool) (n k : ℕ) (rest : List Token) → reference n ∷ t.sign s.Arrow ∷ tail_tokens r k rest ≡ expr_then (c.cell (cell_in r n k)) rest
cell_spelled true n k rest = refl
cell_spelled false n k rest = refl

pub put_spelled : (r : Bool) (n k : ℕ) (e : Expr) (rest : List Token) → reference n ∷ t.sign s.Arrow ∷ tail_tokens r k (t.sign s.Assign ∷ expr_then e (t.sign s.Semicolon ∷ rest)) ≡ stmt_then (c.put (cell_in r n k) e) rest
put_spelled true n k e rest = refl
put_spelled false n k e rest = refl

pub back_operand_end : (b : Bounds) (ys : List Symbol) (K : Rest) (ts : List Token) (x : Token) → Backs b a.operand_end ys K ts x (react_operand_end x)
back_operand_end b ys K ts (t.sign s.Arrow) = λ k n.
    let q = cell_tail b ys K ts k in
    (c.cell (cell_in q.0 n q.1), q.2, tt, refl, ap (λ r. reference n ∷ t.sign s.Arrow ∷ r) q.3 ∙ cell_spelled q.0 n q.1 q.2, q.4)
back_operand_end b ys K ts x = λ k n. (c.variable (record { reference = true; number = n }), x ∷ ts, tt, refl, refl, k)

pub back_cell_kind : (b : Bounds) (ys : List Symbol) (K : Rest) (ts : List Token) (x : Token) → Backs b a.cell_kind ys K ts x (react a.cell_kind x)
back_cell_kind b ys K ts (t.word w.Numbers) = λ k. (false, ts, refl, k)
back_cell_kind b ys K ts (t.word w.References) = λ k. (true, ts, refl, k)
back_cell_kind b ys K ts _ = tt

-- ---- parentheses

prefix_back : (b : Bounds) (o : Op) (ys : List Symbol) (K : Rest) (ts : List Token) → (row_of o).arity ≡ 1 → Spells b (a.operand ∷ a.closing ∷ ys) K ts → Part b a.inside ys (Spells b ys K) (t.operator (prefix_sign o) ∷ ts)
prefix_back b o ys K ts one k = λ p.
    let q = k p in
    let deep = q.3 in
    let close = q.5 in
    (c.unary o q.0, close.0, (one, q.2), omega (arith, deep), ap (λ r. t.sign s.OpenParen ∷ t.operator (prefix_sign o) ∷ r) (q.4 ∙ ap (expr_then q.0) close.1), close.2)

inside_operand : (b : Bounds) (ys : List Symbol) (K : Rest) (ts : List Token) → Part b a.operand (a.operation ∷ ys) (Spells b (a.operation ∷ ys) K) ts → Part b a.inside ys (Spells b ys K) ts
inside_operand b ys K ts m = λ p.
    let q = m p in
    let z = q.5 q.0 q.2 q.3 in
    (z.0, z.1, z.2, z.3, ap (λ r. t.sign s.OpenParen ∷ r) q.4 ∙ z.4, z.5)

pub back_inside : (b : Bounds) (ys : List Symbol) (K : Rest) (ts : List Token) (x : Token) → Backs b a.inside ys K ts x (react_inside x)
back_inside b ys K ts (t.operator op.Subtract) = prefix_back b op.Negate ys K ts refl
back_inside b ys K ts (t.operator op.Not) = prefix_back b op.Not ys K ts refl
back_inside b ys K ts x = through b a.inside a.operation ys K ts x (inside_operand b ys K (x ∷ ts))

deep_left : (m k e : ℕ) → 1 ≤ m → suc k + m ≤ e → suc (suc k) ≤ e
deep_left m k e one h = omega (arith, one, h)

both_deep : (m n k e : ℕ) → suc k + m ≤ e → suc k + n ≤ e → k + suc (max m n) ≤ e
both_deep m n k e h i = omega (arith, h, i)

pub back_operation : (b : Bounds) (ys : List Symbol) (K : Rest) (ts : List Token) (x : Token) → Backs b a.operation ys K ts x (react_operation x)
back_operation b ys K ts (t.operator o) =
    if_back (Backs b a.operation ys K ts (t.operator o)) ((row_of o).arity == 2) (a.take (a.operand ∷ a.closing ∷ [])) a.refuse
    (λ two k x is deep.
    let q = k (deep_left (expr_depth x) (parens_in ys) b.expressions (some_depth x) deep) in
    let close = q.5 in (
      c.binary o x q.0,
      close.0,
      (eqb-true ((row_of o).arity) 2 two, is, q.2),
      both_deep (expr_depth x) (expr_depth q.0) (parens_in ys) b.expressions deep q.3,
      ap (λ r. t.sign s.OpenParen ∷ expr_then x (t.operator o ∷ r)) (q.4 ∙ ap (expr_then q.0) close.1),
      close.2,
    ))
    tt
back_operation b ys K ts _ = tt

-- ---- calls

pub back_arg : (b : Bounds) (n : Bool) (ys : List Symbol) (K : Rest) (ts : List Token) (x : Token) → Backs b (a.arg n) ys K ts x (react_arg n x)
back_arg b true ys K ts (t.number z) = λ k. (c.number z, ts, tt, refl, k)
back_arg b true ys K ts (t.variable v) = λ k. (c.variable v, ts, tt, refl, k)
back_arg b true ys K ts (t.word w.Null) = λ k. (c.null, ts, tt, refl, k)
back_arg b true ys K ts (t.text cs) = λ k. (c.text cs, ts, tt, refl, k)
back_arg b true ys K ts _ = tt
back_arg b false ys K ts (t.number z) = λ k. (c.number z, ts, tt, refl, k)
back_arg b false ys K ts (t.variable v) = λ k. (c.variable v, ts, tt, refl, k)
back_arg b false ys K ts (t.word w.Null) = λ k. (c.null, ts, tt, refl, k)
back_arg b false ys K ts _ = tt

-- what begins with an argument that another symbol stands after
through_arg : (b : Bounds) (y z : Symbol) (n : Bool) (ys : List Symbol) (K : Rest) (ts : List Token) (x : Token)
    → (Part b (a.arg n) (z ∷ ys) (Spells b (z ∷ ys) K) (x ∷ ts) → Part b y ys (Spells b ys K) (x ∷ ts))
    → Backs b y ys K ts x (with_after (react_arg n x) (z ∷ []))
through_arg b y z n ys K ts (t.number m) f = λ k. f (back_arg b n (z ∷ ys) K ts (t.number m) k)
through_arg b y z n ys K ts (t.variable v) f = λ k. f (back_arg b n (z ∷ ys) K ts (t.variable v) k)
through_arg b y z n ys K ts (t.word w.Null) f = λ k. f (back_arg b n (z ∷ ys) K ts (t.word w.Null) k)
through_arg b y z true ys K ts (t.text cs) f = λ k. f (back_arg b true (z ∷ ys) K ts (t.text cs) k)
through_arg b y z n ys K ts _ f = tt

more_stand : (n : Bool) (x : Arg) (xs : List Arg) → MayStand n (x ∷ []) → MayStand n xs → MayStand n (x ∷ xs)
more_stand true x xs h i = tt
more_stand false (c.number z) xs h i = i
more_stand false (c.variable v) xs h i = i
more_stand false c.null xs h i = i
more_stand false (c.text cs) xs h i = absurd h

pub none_stands : (n : Bool) → MayStand n []
none_stands true = tt
none_stands false = tt

args_begin : (b : Bounds) (n : Bool) (ys : List Symbol) (K : Rest) (ts : List Token) → Part b (a.arg n) (a.more_args n ∷ ys) (Spells b (a.more_args n ∷ ys) K) ts → Part b (a.args n) ys (Spells b ys K) ts
args_begin b n ys K ts k =
    let more = k.4 in
    (k.0 ∷ more.0, more.1, more_stand n k.0 more.0 k.2 more.2, k.3 ∙ ap (λ r. arg_token k.0 ∷ r) more.3, more.4)

pub back_args : (b : Bounds) (n : Bool) (ys : List Symbol) (K : Rest) (ts : List Token) (x : Token) → Backs b (a.args n) ys K ts x (react_args n x)
back_args b n ys K ts (t.sign s.CloseParen) = λ k. ([], ts, none_stands n, refl, k)
back_args b n ys K ts x = through_arg b (a.args n) (a.more_args n) n ys K ts x (args_begin b n ys K (x ∷ ts))

pub back_more_args : (b : Bounds) (n : Bool) (ys : List Symbol) (K : Rest) (ts : List Token) (x : Token) → Backs b (a.more_args n) ys K ts x (react_more_args n x)
back_more_args b n ys K ts (t.sign s.CloseParen) = λ k. ([], ts, none_stands n, refl, k)
back_more_args b n ys K ts (t.sign s.Comma) = λ k.
    let more = k.4 in
    (k.0 ∷ more.0, more.1, more_stand n k.0 more.0 k.2 more.2, ap (λ r. t.sign s.Comma ∷ r) (k.3 ∙ ap (λ r. arg_token k.0 ∷ r) more.3), more.4)
back_more_args b n ys K ts _ = tt

primitive_stands : (p : CPrim) (xs : List Arg) → MayStand (is_string_taker p) xs → IsCall (c.primitive p xs)
primitive_stands prim.New xs h = h
primitive_stands prim.Own xs h = h
primitive_stands prim.Disown xs h = h
primitive_stands prim.Parent xs h = h
primitive_stands prim.Release xs h = h
primitive_stands prim.Trap xs h = h
primitive_stands prim.Print xs h = h
primitive_stands prim.Read xs h = h
primitive_stands prim.More xs h = h
primitive_stands prim.PutN xs h = h
primitive_stands prim.GetN xs h = h
primitive_stands prim.PutP xs h = h
primitive_stands prim.GetP xs h = h
primitive_stands prim.Call xs h = tt
primitive_stands prim.ArgN xs h = h
primitive_stands prim.ArgP xs h = h
primitive_stands prim.Ask xs h = h
primitive_stands prim.Int xs h = h
primitive_stands prim.Pick xs h = h
primitive_stands prim.Out xs h = h
primitive_stands prim.Back xs h = h
primitive_stands prim.End xs h = h

-- a call after its name
abbrev pub CallTail : Bounds → List Symbol → Rest → Token → List Token → Type 0
CallTail b zs K first ts = (f : Call) × (rest : List Token) × IsCall f × (first ∷ ts ≡ call_then f rest) × Spells b zs K rest

pub function_tail : (b : Bounds) (f : CName) (zs : List Symbol) (K : Rest) (ts : List Token) → Spells b (a.sign s.OpenParen ∷ a.args false ∷ zs) K ts → CallTail b zs K (t.name f) ts
function_tail b f zs K ts k =
    let q = k.2 in
    (c.function f q.0, q.1, q.2, ap (λ r. t.name f ∷ r) (k.1 ∙ ap (λ r. t.sign s.OpenParen ∷ r) q.3), q.4)

pub primitive_tail : (b : Bounds) (p : CPrim) (zs : List Symbol) (K : Rest) (ts : List Token) → Spells b (a.sign s.OpenParen ∷ a.args (is_string_taker p) ∷ zs) K ts → CallTail b zs K (t.primitive p) ts
primitive_tail b p zs K ts k =
    let q = k.2 in
    (c.primitive p q.0, q.1, primitive_stands p q.0 q.2, ap (λ r. t.primitive p ∷ r) (k.1 ∙ ap (λ r. t.sign s.OpenParen ∷ r) q.3), q.4)
