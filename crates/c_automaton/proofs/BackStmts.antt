-- Back over a token of statements and functions, and of any symbol.
use Rattle.std.proofs.Common.{◌≡◌, ℕ, suc, ◌+◌, ◌-◌, ◌≤◌, ◌==◌, pos, max, Bool, true, false, if◌then◌else◌, List, [], ◌∷◌, Some, None, ◌⊎◌, inl, inr, refl, sym, ap, ◌∙◌, arith}
use Rattle.std.proofs.lemmas.Bool.{eqb-true}
use Rattle.c_syntax.specs.declared.program.CVar.{CVar}
use Rattle.c_syntax.specs.declared.program.CName.{CName}
use Rattle.c_syntax.specs.declared.program.CResult.{CResult}
use Rattle.c_syntax.specs.declared.program.CResult.TheVariants as result
use Rattle.c_syntax.specs.declared.token.CWord.{CWord}
use Rattle.c_syntax.specs.declared.token.CWord.TheVariants as w
use Rattle.c_syntax.specs.declared.token.CSign.{CSign}
use Rattle.c_syntax.specs.declared.token.CSign.TheVariants as s
use Rattle.c_syntax.specs.C as c
use Rattle.c_syntax.specs.C.{Expr, Call, Stmt, Stmts}
use Rattle.c_syntax.specs.Unit.{Declaration, Head, Body}
use Rattle.c_syntax.specs.Tokens as t
use Rattle.c_syntax.specs.Tokens.{Token}
use Rattle.c_syntax.specs.Grammar.{Bounds, HasArities, expr_depth, IsCall, IsWritten, AreWritten, deepest_in, deepest, nested_in, nested, AreBodies}
use Rattle.c_syntax.specs.Spelling.{type_then, result_then, head_then, vars_then, expr_then, call_then, stmt_then, stmts_then, bodies_then}
use Rattle.c_automaton.specs.Automaton as a
use Rattle.c_automaton.specs.Automaton.{Symbol, blocks_in, Reaction, word_number, sign_number, react_operand, react_value, react_return, react_reference, react_otherwise, react_stmts, react_after_head, react_params, react_more_params, react_body, react}
use Rattle.c_automaton.proofs.Same.{same_word, same_sign}
use Rattle.c_automaton.proofs.Parts.{Rest, reference, HasRoom, Part, Spells, Backs}
use Rattle.c_automaton.proofs.Back.{if_back, back_operand, through, tail_tokens, cell_in, cell_tail, put_spelled, back_operand_end, back_cell_kind, back_inside, back_operation, back_arg, back_args, back_more_args, function_tail, primitive_tail}

-- ---- one statement, and more

abbrev Stmtful : Bounds → Bool → List Symbol → Rest → List Token → Type 0
Stmtful b n ys K ts = Part b (a.stmts n) ys (Spells b ys K) ts

max_fits : (m n k : ℕ) → m ≤ k → n ≤ k → max m n ≤ k
max_fits m n k h i = omega (arith, h, i)

max_wide : (m n j k : ℕ) → j + m ≤ k → j + n ≤ k → j + max m n ≤ k
max_wide m n j k h i = omega (arith, h, i)

flat : (m j k : ℕ) → m ≡ 0 → j ≤ k → j + m ≤ k
flat m j k h i = omega (arith, h, i)

-- a statement stands before others
one_more : (b : Bounds) (n : Bool) (ys : List Symbol) (K : Rest) (ts rest : List Token) (x : Stmt) → IsWritten x → deepest_in x ≤ b.expressions → blocks_in (a.stmts n ∷ ys) + nested_in x ≤ b.blocks - 1 → ts ≡ stmt_then x rest → Stmtful b n ys K rest → Stmtful b n ys K ts
one_more b n ys K ts rest x is deep wide spelled more = λ p.
    let q = more p in (
      c.next x q.0,
      q.1,
      (is, q.2),
      max_fits (deepest_in x) (deepest q.0) b.expressions deep q.3,
      max_wide (nested_in x) (nested q.0) (blocks_in (a.stmts n ∷ ys)) (b.blocks - 1) wide q.4,
      spelled ∙ ap (stmt_then x) q.5,
      q.6,
    )

-- what is assigned, and the semicolon
abbrev Assigned : Bounds → List Symbol → Rest → CVar → List Token → Type 0
Assigned b zs K v ts = (x : Stmt) × (rest : List Token) × IsWritten x × (deepest_in x ≤ b.expressions) × (nested_in x ≡ 0) × (t.variable v ∷ t.sign s.Assign ∷ ts ≡ stmt_then x rest) × Spells b zs K rest

set_of : (b : Bounds) (v : CVar) (zs : List Symbol) (K : Rest) (ts : List Token)
    → ((e : Expr) × (rest : List Token) × HasArities e × (expr_depth e ≤ b.expressions) × (ts ≡ expr_then e rest) × Spells b (a.sign s.Semicolon ∷ zs) K rest)
    ⊎ ((f : Call) × (rest : List Token) × IsCall f × (ts ≡ call_then f rest) × Spells b (a.sign s.Semicolon ∷ zs) K rest)
    → Assigned b zs K v ts
set_of b v zs K ts (inl q) =
    let end = q.5 in
    (c.set v q.0, end.0, q.2, q.3, refl, ap (λ r. t.variable v ∷ t.sign s.Assign ∷ r) (q.4 ∙ ap (expr_then q.0) end.1), end.2)
set_of b v zs K ts (inr q) =
    let end = q.4 in
    (c.set_call v q.0, end.0, q.2, omega arith, refl, ap (λ r. t.variable v ∷ t.sign s.Assign ∷ r) (q.3 ∙ ap (call_then q.0) end.1), end.2)

assigned : (b : Bounds) (v : CVar) (zs : List Symbol) (K : Rest) (ts : List Token) → 1 ≤ b.expressions → Spells b (a.value ∷ a.sign s.Semicolon ∷ zs) K ts → Assigned b zs K v ts
assigned b v zs K ts some k = set_of b v zs K ts (k some)

back_reference : (b : Bounds) (ys : List Symbol) (K : Rest) (ts : List Token) (x : Token) → 1 ≤ b.expressions → Backs b a.after_reference ys K ts x (react_reference x)
back_reference b ys K ts (t.sign s.Arrow) some = λ k n.
    let q = cell_tail b (a.sign s.Assign ∷ a.operand ∷ a.sign s.Semicolon ∷ ys) K ts k in
    let equals = q.4 in
    let e = equals.2 some in
    let end = e.5 in
    let whole : expr_depth e.0 ≤ b.expressions = let deep = e.3 in omega (arith, deep) in (
      c.put (cell_in q.0 n q.1) e.0,
      end.0,
      e.2,
      whole,
      refl,
      ap (λ r. reference n ∷ t.sign s.Arrow ∷ r) (q.3 ∙ ap (tail_tokens q.0 q.1) (equals.1 ∙ ap (λ r. t.sign s.Assign ∷ r) (e.4 ∙ ap (expr_then e.0) end.1)))
          ∙ put_spelled q.0 n q.1 e.0 end.0,
      end.2,
    )
back_reference b ys K ts (t.sign s.Assign) some = λ k n. assigned b (record { reference = true; number = n }) ys K ts some k
back_reference b ys K ts _ some = tt

variable_begins : (b : Bounds) (n r : Bool) (m : ℕ) (ys : List Symbol) (K : Rest) (ts : List Token) → 1 ≤ b.expressions
    → Backs b (a.stmts n) ys K ts (t.variable (record { reference = r; number = m })) (if r then a.take (a.after_reference ∷ a.stmts n ∷ []) else a.take (a.sign s.Assign ∷ a.value ∷ a.sign s.Semicolon ∷ a.stmts n ∷ []))
variable_begins b n true m ys K ts some = λ k p.
    let q = k m in
    one_more b n ys K (reference m ∷ ts) q.1 q.0 q.2 q.3 (flat (nested_in q.0) (blocks_in (a.stmts n ∷ ys)) (b.blocks - 1) q.4 p) q.5 q.6 p
variable_begins b n false m ys K ts some = λ k p.
    let v : CVar = record { reference = false; number = m } in
    let q = assigned b v (a.stmts n ∷ ys) K k.0 some k.2 in
    one_more b n ys K (t.variable v ∷ ts) q.1 q.0 q.2 q.3 (flat (nested_in q.0) (blocks_in (a.stmts n ∷ ys)) (b.blocks - 1) q.4 p) (ap (λ r. t.variable v ∷ r) k.1 ∙ q.5) q.6 p

call_begins : (b : Bounds) (n : Bool) (first : Token) (ys : List Symbol) (K : Rest) (ts : List Token)
    → ((f : Call) × (rest : List Token) × IsCall f × (first ∷ ts ≡ call_then f rest) × Spells b (a.sign s.Semicolon ∷ a.stmts n ∷ ys) K rest)
    → Stmtful b n ys K (first ∷ ts)
call_begins b n first ys K ts q = λ p.
    let end = q.4 in
    one_more b n ys K (first ∷ ts) end.0 (c.call q.0) q.2 (omega arith) (omega (arith, p)) (q.3 ∙ ap (call_then q.0) end.1) end.2 p

-- ---- `if`, `while`, `return`

loop_begins : (b : Bounds) (n : Bool) (ys : List Symbol) (K : Rest) (ts : List Token) → suc (blocks_in (a.stmts n ∷ ys)) ≤ b.blocks - 1
    → Spells b (a.sign s.OpenParen ∷ a.one ∷ a.sign s.CloseParen ∷ a.sign s.OpenBrace ∷ a.stmts true ∷ a.stmts n ∷ ys) K ts → Stmtful b n ys K (t.word w.While ∷ ts)
loop_begins b n ys K ts fits k = λ p.
    let number = k.2 in
    let close = number.2 in
    let opening = close.2 in
    let block = opening.2 fits in
    let wide = block.4 in
    one_more b n ys K (t.word w.While ∷ ts) block.1 (c.loop block.0) block.2 block.3 (omega (arith, wide))
    (ap (λ r. t.word w.While ∷ r) (k.1 ∙ ap (λ r. t.sign s.OpenParen ∷ r) (number.1 ∙ ap (λ r. t.number (pos 1) ∷ r) (close.1 ∙ ap (λ r. t.sign s.CloseParen ∷ r) (opening.1 ∙ ap (λ r. t.sign s.OpenBrace ∷ r) block.5)))))
    block.6 p

-- what `if (e) {` and its statements spell, before those tokens
abbrev if_then : Expr → Stmts → List Token → List Token
if_then e xs rest = t.word w.If ∷ t.sign s.OpenParen ∷ expr_then e (t.sign s.CloseParen ∷ t.sign s.OpenBrace ∷ stmts_then xs (t.sign s.CloseBrace ∷ rest))

otherwise_comes : (b : Bounds) (n : Bool) (ys : List Symbol) (K : Rest) (ts rest : List Token) (e : Expr) (xs : Stmts) → HasArities e → expr_depth e ≤ b.expressions → AreWritten xs → deepest xs ≤ b.expressions
    → suc (blocks_in (a.stmts n ∷ ys)) + nested xs ≤ b.blocks - 1 → ts ≡ if_then e xs rest
    → Stmtful b n ys K rest ⊎ ((zs : Stmts) × (end : List Token) × AreWritten zs × (deepest zs ≤ b.expressions) × (suc (blocks_in (a.stmts n ∷ ys)) + nested zs ≤ b.blocks - 1)
    × (rest ≡ t.word w.Else ∷ t.sign s.OpenBrace ∷ stmts_then zs (t.sign s.CloseBrace ∷ end)) × Stmtful b n ys K end)
    → Stmtful b n ys K ts
otherwise_comes b n ys K ts rest e xs is small are deep wide spelled (inl more) =
    one_more b n ys K ts rest (c.when e xs) (is, are) (max_fits (expr_depth e) (deepest xs) b.expressions small deep) (omega (arith, wide)) spelled more
otherwise_comes b n ys K ts rest e xs is small are deep wide spelled (inr q) =
    let other = q.4 in
    one_more b n ys K ts q.1 (c.choose e xs q.0) (is, are, q.2) (max_fits (expr_depth e) (max (deepest xs) (deepest q.0)) b.expressions small (max_fits (deepest xs) (deepest q.0) b.expressions deep q.3))
    (omega (arith, wide, other)) (spelled ∙ ap (if_then e xs) q.5) q.6

if_begins : (b : Bounds) (n : Bool) (ys : List Symbol) (K : Rest) (ts : List Token) → 1 ≤ b.expressions → suc (blocks_in (a.stmts n ∷ ys)) ≤ b.blocks - 1
    → Spells b (a.sign s.OpenParen ∷ a.operand ∷ a.sign s.CloseParen ∷ a.sign s.OpenBrace ∷ a.stmts false ∷ a.otherwise ∷ a.stmts n ∷ ys) K ts → Stmtful b n ys K (t.word w.If ∷ ts)
if_begins b n ys K ts some fits k =
    let e = k.2 some in
    let close = e.5 in
    let opening = close.2 in
    let block = opening.2 fits in
    let whole : expr_depth e.0 ≤ b.expressions = let deep = e.3 in omega (arith, deep) in
    otherwise_comes b n ys K (t.word w.If ∷ ts) block.1 e.0 block.0 e.2 whole block.2 block.3 block.4
    (ap (λ r. t.word w.If ∷ r) (k.1 ∙ ap (λ r. t.sign s.OpenParen ∷ r) (e.4 ∙ ap (expr_then e.0) (close.1 ∙ ap (λ r. t.sign s.CloseParen ∷ r) (opening.1 ∙ ap (λ r. t.sign s.OpenBrace ∷ r) block.5)))))
    (block.6 fits)

back_otherwise : (b : Bounds) (ys : List Symbol) (K : Rest) (ts : List Token) (x : Token) → Backs b a.otherwise ys K ts x (react_otherwise x)
back_otherwise b ys K ts (t.word w.Else) = λ k p.
    let q = k.2 p in
    inr (q.0, q.1, q.2, q.3, q.4, ap (λ r. t.word w.Else ∷ r) (k.1 ∙ ap (λ r. t.sign s.OpenBrace ∷ r) q.5), q.6)
back_otherwise b ys K ts x = λ k p. inl k

returned_value : (b : Bounds) (ys : List Symbol) (K : Rest) (ts : List Token) → 1 ≤ b.expressions → Part b a.operand (a.sign s.Semicolon ∷ ys) (Spells b (a.sign s.Semicolon ∷ ys) K) ts → Part b a.after_return ys (Spells b ys K) ts
returned_value b ys K ts some m =
    let q = m some in
    let end = q.5 in
    let whole : expr_depth q.0 ≤ b.expressions = let deep = q.3 in omega (arith, deep) in
    (Some q.0, end.0, q.2, whole, ap (λ r. t.word w.Return ∷ r) (q.4 ∙ ap (expr_then q.0) end.1), end.2)

back_return : (b : Bounds) (ys : List Symbol) (K : Rest) (ts : List Token) (x : Token) → 1 ≤ b.expressions → Backs b a.after_return ys K ts x (react_return x)
back_return b ys K ts (t.sign s.Semicolon) some = λ k. (None, ts, tt, omega arith, refl, k)
back_return b ys K ts x some = through b a.after_return (a.sign s.Semicolon) ys K ts x (returned_value b ys K (x ∷ ts) some)

-- a reaction of one symbol as that of another that it can stand for
mapped : (b : Bounds) (y z : Symbol) (ys : List Symbol) (K : Rest) (ts : List Token) (x : Token) (r : Reaction)
    → (Part b y ys (Spells b ys K) (x ∷ ts) → Part b z ys (Spells b ys K) (x ∷ ts)) → Backs b y ys K ts x r → Backs b z ys K ts x r
mapped b y z ys K ts x (a.take xs) f back = λ k. f (back k)
mapped b y z ys K ts x (a.open_block xs) f back = λ fits k. f (back fits k)
mapped b y z ys K ts x (a.open_paren xs) f back = λ fits k. f (back fits k)
mapped b y z ys K ts x a.skip f back = λ k. f (back k)
mapped b y z ys K ts x a.refuse f back = tt

value_operand : (b : Bounds) (ys : List Symbol) (K : Rest) (ts : List Token) → Part b a.operand ys (Spells b ys K) ts → Part b a.value ys (Spells b ys K) ts
value_operand b ys K ts m = λ p.
    let q = m p in
    let whole : expr_depth q.0 ≤ b.expressions = let deep = q.3 in omega (arith, deep) in
    inl (q.0, q.1, q.2, whole, q.4, q.5)

back_value : (b : Bounds) (ys : List Symbol) (K : Rest) (ts : List Token) (x : Token) → Backs b a.value ys K ts x (react_value x)
back_value b ys K ts (t.name f) = λ k p. inr (function_tail b f ys K ts k)
back_value b ys K ts (t.primitive f) = λ k p. inr (primitive_tail b f ys K ts k)
back_value b ys K ts x = mapped b a.operand a.value ys K ts x (react_operand x) (value_operand b ys K (x ∷ ts)) (back_operand b ys K ts x)

-- ---- statements

back_stmts : (b : Bounds) (n : Bool) (ys : List Symbol) (K : Rest) (ts : List Token) (x : Token) → 1 ≤ b.expressions → Backs b (a.stmts n) ys K ts x (react_stmts n x)
back_stmts b n ys K ts (t.sign s.CloseBrace) some = λ k p. (c.done, ts, tt, omega arith, omega (arith, p), refl, k)
back_stmts b n ys K ts (t.variable v) some = variable_begins b n v.reference v.number ys K ts some
back_stmts b n ys K ts (t.name f) some = λ k. call_begins b n (t.name f) ys K ts (function_tail b f (a.sign s.Semicolon ∷ a.stmts n ∷ ys) K ts k)
back_stmts b n ys K ts (t.primitive f) some = λ k. call_begins b n (t.primitive f) ys K ts (primitive_tail b f (a.sign s.Semicolon ∷ a.stmts n ∷ ys) K ts k)
back_stmts b n ys K ts (t.word w.Return) some = λ k p. one_more b n ys K (t.word w.Return ∷ ts) k.1 (c.return k.0) k.2 k.3 (omega (arith, p)) k.4 k.5 p
back_stmts b n ys K ts (t.word w.Break) some = λ k p. one_more b n ys K (t.word w.Break ∷ ts) k.0 c.break tt (omega arith) (omega (arith, p)) (ap (λ r. t.word w.Break ∷ r) k.1) k.2 p
back_stmts b n ys K ts (t.word w.Continue) some = λ k p. one_more b n ys K (t.word w.Continue ∷ ts) k.0 c.continue tt (omega arith) (omega (arith, p)) (ap (λ r. t.word w.Continue ∷ r) k.1) k.2 p
back_stmts b n ys K ts (t.word w.If) some = λ fits k. if_begins b n ys K ts some fits k
back_stmts b n ys K ts (t.word w.While) some = λ fits k. loop_begins b n ys K ts fits k
back_stmts b n ys K ts _ some = tt

-- ---- declarations

body_stmts : (b : Bounds) (ys : List Symbol) (K : Rest) (ts : List Token) → Part b (a.stmts false) ys (Spells b ys K) ts → Part b a.body ys (Spells b ys K) ts
body_stmts b ys K ts m = λ p. let q = m p in ([], q.0, q.1, q.2, q.3, q.4, q.5, q.6)

abbrev declared : Bool → CVar → Declaration
declared r v = record { reference = r; variable = v }

variable_comes : (b : Bounds) (r : Bool) (ys : List Symbol) (K : Rest) (all ts : List Token) → all ≡ type_then r ts → Spells b (a.any_variable ∷ a.sign s.Semicolon ∷ a.body ∷ ys) K ts → Part b a.body ys (Spells b ys K) all
variable_comes b r ys K all ts is k = λ p.
    let end = k.3 in
    let q = end.2 p in
    (declared r k.0 ∷ q.0, q.1, q.2, q.3, q.4, q.5, is ∙ ap (type_then r) (k.2 ∙ ap (λ z. t.variable k.0 ∷ z) (end.1 ∙ ap (λ z. t.sign s.Semicolon ∷ z) q.6)), q.7)

back_body : (b : Bounds) (ys : List Symbol) (K : Rest) (ts : List Token) (x : Token) → 1 ≤ b.expressions → Backs b a.body ys K ts x (react_body x)
back_body b ys K ts (t.word w.Ref) some = λ k. variable_comes b true ys K (t.word w.Ref ∷ ts) ts refl k
back_body b ys K ts (t.word w.Long) some = λ k. variable_comes b false ys K (t.word w.Long ∷ ts) k.0 (ap (λ z. t.word w.Long ∷ z) k.1) k.2
back_body b ys K ts x some = mapped b (a.stmts false) a.body ys K ts x (react_stmts false x) (body_stmts b ys K (x ∷ ts)) (back_stmts b false ys K ts x some)

back_type : (b : Bounds) (ys : List Symbol) (K : Rest) (ts : List Token) (x : Token) → Backs b a.type ys K ts x (react a.type x)
back_type b ys K ts (t.word w.Ref) = λ k. (true, ts, refl, k)
back_type b ys K ts (t.word w.Long) = λ k. (false, k.0, ap (λ z. t.word w.Long ∷ z) k.1, k.2)
back_type b ys K ts _ = tt

parameter_comes : (b : Bounds) (r : Bool) (ys : List Symbol) (K : Rest) (all ts : List Token) → all ≡ type_then r ts → Spells b (a.any_variable ∷ a.more_params ∷ ys) K ts → Part b a.params ys (Spells b ys K) all
parameter_comes b r ys K all ts is k =
    let more = k.3 in
    (declared r k.0 ∷ more.0, more.1, is ∙ ap (type_then r) (k.2 ∙ ap (λ z. t.variable k.0 ∷ z) more.2), more.3)

back_params : (b : Bounds) (ys : List Symbol) (K : Rest) (ts : List Token) (x : Token) → Backs b a.params ys K ts x (react_params x)
back_params b ys K ts (t.word w.Void) = λ k. ([], k.0, ap (λ z. t.word w.Void ∷ z) k.1, k.2)
back_params b ys K ts (t.word w.Ref) = λ k. parameter_comes b true ys K (t.word w.Ref ∷ ts) ts refl k
back_params b ys K ts (t.word w.Long) = λ k. parameter_comes b false ys K (t.word w.Long ∷ ts) k.0 (ap (λ z. t.word w.Long ∷ z) k.1) k.2
back_params b ys K ts _ = tt

back_more_params : (b : Bounds) (ys : List Symbol) (K : Rest) (ts : List Token) (x : Token) → Backs b a.more_params ys K ts x (react_more_params x)
back_more_params b ys K ts (t.sign s.CloseParen) = λ k. ([], ts, refl, k)
back_more_params b ys K ts (t.sign s.Comma) = λ k.
    let v = k.3 in
    let more = v.3 in
    (declared k.0 v.0 ∷ more.0, more.1, ap (λ z. t.sign s.Comma ∷ z) (k.2 ∙ ap (type_then k.0) (v.2 ∙ ap (λ z. t.variable v.0 ∷ z) more.2)), more.3)
back_more_params b ys K ts _ = tt

-- ---- functions

abbrev head_with : CResult → CName → List Declaration → Head
head_with r f ds = record { result = r; name = f; params = ds }

abbrev HeadTail : Bounds → List Symbol → Rest → CResult → List Token → Type 0
HeadTail b zs K r all = (f : CName) × (ds : List Declaration) × (rest : List Token) × (all ≡ head_then (head_with r f ds) rest) × Spells b zs K rest

head_tail : (b : Bounds) (r : CResult) (zs : List Symbol) (K : Rest) (all ts : List Token) → all ≡ result_then r ts → Spells b (a.head_rest zs) K ts → HeadTail b zs K r all
head_tail b r zs K all ts is k =
    let opening = k.3 in
    let ds = opening.2 in
    (k.0, ds.0, ds.1, is ∙ ap (result_then r) (k.2 ∙ ap (λ z. t.name k.0 ∷ z) (opening.1 ∙ ap (λ z. t.sign s.OpenParen ∷ z) ds.2)), ds.3)

-- what stands after the opening brace of a body
abbrev BodyTail : Bounds → List Symbol → Rest → Head → List Token → Type 0
BodyTail b ys K h ts = (x : Body) × (bs : List Body) × (rest : List Token) × AreBodies b (x ∷ bs) × (head_then h (t.sign s.OpenBrace ∷ ts) ≡ bodies_then (x ∷ bs) rest) × Spells b ys K rest

body_tail : (b : Bounds) (h : Head) (ys : List Symbol) (K : Rest) (ts : List Token) → HasRoom b ys → Spells b (a.body ∷ a.bodies ∷ ys) K ts → BodyTail b ys K h ts
body_tail b h ys K ts p k =
    let q = k p in
    let more = q.7 p in
    let wide = q.5 in (
      record { head = h; vars = q.0; stmts = q.1 },
      more.0,
      more.1,
      (record { written = q.3; expressions = q.4; blocks = omega (arith, wide) }, more.2),
      ap (λ z. head_then h (t.sign s.OpenBrace ∷ z)) (q.6 ∙ ap (λ z. vars_then q.0 (stmts_then q.1 (t.sign s.CloseBrace ∷ z))) more.3),
      more.4,
    )

functions_begin : (b : Bounds) (r : CResult) (ys : List Symbol) (K : Rest) (all : List Token) → HeadTail b (a.after_head ∷ ys) K r all → Part b a.functions ys (Spells b ys K) all
functions_begin b r ys K all k = λ p.
    let q = k.4 p (head_with r k.0 k.1) in
    (q.0, q.1, q.2, q.3, k.3 ∙ q.4, q.5)

back_functions : (b : Bounds) (ys : List Symbol) (K : Rest) (ts : List Token) (x : Token) → Backs b a.functions ys K ts x (react a.functions x)
back_functions b ys K ts (t.word w.Void) = λ k. functions_begin b result.Nothing ys K (t.word w.Void ∷ ts) (head_tail b result.Nothing (a.after_head ∷ ys) K (t.word w.Void ∷ ts) ts refl k)
back_functions b ys K ts (t.word w.Ref) = λ k. functions_begin b result.Reference ys K (t.word w.Ref ∷ ts) (head_tail b result.Reference (a.after_head ∷ ys) K (t.word w.Ref ∷ ts) ts refl k)
back_functions b ys K ts (t.word w.Long) = λ k. functions_begin b result.Number ys K (t.word w.Long ∷ ts) (head_tail b result.Number (a.after_head ∷ ys) K (t.word w.Long ∷ ts) k.0 (ap (λ z. t.word w.Long ∷ z) k.1) k.2)
back_functions b ys K ts _ = tt

bodies_begin : (b : Bounds) (r : CResult) (ys : List Symbol) (K : Rest) (all : List Token) → HeadTail b (a.sign s.OpenBrace ∷ a.body ∷ a.bodies ∷ ys) K r all → Part b a.bodies ys (Spells b ys K) all
bodies_begin b r ys K all k = λ p.
    let opening = k.4 in
    let h : Head = head_with r k.0 k.1 in
    let q = body_tail b h ys K opening.0 p opening.2 in
    (q.0 ∷ q.1, q.2, q.3, k.3 ∙ ap (head_then h) opening.1 ∙ q.4, q.5)

back_bodies : (b : Bounds) (ys : List Symbol) (K : Rest) (ts : List Token) (x : Token) → Backs b a.bodies ys K ts x (react a.bodies x)
back_bodies b ys K ts (t.word w.Void) = λ k. bodies_begin b result.Nothing ys K (t.word w.Void ∷ ts) (head_tail b result.Nothing (a.sign s.OpenBrace ∷ a.body ∷ a.bodies ∷ ys) K (t.word w.Void ∷ ts) ts refl k)
back_bodies b ys K ts (t.word w.Ref) = λ k. bodies_begin b result.Reference ys K (t.word w.Ref ∷ ts) (head_tail b result.Reference (a.sign s.OpenBrace ∷ a.body ∷ a.bodies ∷ ys) K (t.word w.Ref ∷ ts) ts refl k)
back_bodies b ys K ts (t.word w.Long) = λ k. bodies_begin b result.Number ys K (t.word w.Long ∷ ts) (head_tail b result.Number (a.sign s.OpenBrace ∷ a.body ∷ a.bodies ∷ ys) K (t.word w.Long ∷ ts) k.0 (ap (λ z. t.word w.Long ∷ z) k.1) k.2)
back_bodies b ys K ts _ = tt

back_after_head : (b : Bounds) (ys : List Symbol) (K : Rest) (ts : List Token) (x : Token) → Backs b a.after_head ys K ts x (react_after_head x)
back_after_head b ys K ts (t.sign s.Semicolon) = λ k p h.
    let q = k p in
    (h ∷ q.0, q.1, q.2, q.3, ap (λ z. head_then h (t.sign s.Semicolon ∷ z)) q.4, q.5)
back_after_head b ys K ts (t.sign s.OpenBrace) = λ k p h.
    let q = body_tail b h ys K ts p k in
    ([], q.0 ∷ q.1, q.2, q.3, q.4, q.5)
back_after_head b ys K ts _ = tt

-- ---- any symbol

back_word : (b : Bounds) (y : CWord) (ys : List Symbol) (K : Rest) (ts : List Token) (x : Token) → Backs b (a.word y) ys K ts x (react (a.word y) x)
back_word b y ys K ts (t.word z) =
    if_back (Backs b (a.word y) ys K ts (t.word z)) (word_number y == word_number z) (a.take []) a.refuse
    (λ e k. (ts, ap (λ u. t.word u ∷ ts) (sym (same_word y z e)), k)) tt
back_word b y ys K ts _ = tt

back_sign : (b : Bounds) (y : CSign) (ys : List Symbol) (K : Rest) (ts : List Token) (x : Token) → Backs b (a.sign y) ys K ts x (react (a.sign y) x)
back_sign b y ys K ts (t.sign z) =
    if_back (Backs b (a.sign y) ys K ts (t.sign z)) (sign_number y == sign_number z) (a.take []) a.refuse
    (λ e k. (ts, ap (λ u. t.sign u ∷ ts) (sym (same_sign y z e)), k)) tt
back_sign b y ys K ts _ = tt

back_one : (b : Bounds) (ys : List Symbol) (K : Rest) (ts : List Token) (x : Token) → Backs b a.one ys K ts x (react a.one x)
back_one b ys K ts (t.number (pos n)) =
    if_back (Backs b a.one ys K ts (t.number (pos n))) (n == 1) (a.take []) a.refuse (λ e k. (ts, ap (λ u. t.number (pos u) ∷ ts) (eqb-true n 1 e), k)) tt
back_one b ys K ts _ = tt

pub back : (b : Bounds) (y : Symbol) (ys : List Symbol) (K : Rest) (ts : List Token) (x : Token) → 1 ≤ b.expressions → Backs b y ys K ts x (react y x)
back b a.include ys K ts t.include some = λ k. (ts, refl, k)
back b a.include ys K ts _ some = tt
back b a.line_end ys K ts t.line_end some = λ k. (ts, refl, k)
back b a.line_end ys K ts _ some = tt
back b a.define ys K ts t.define some = λ k. (ts, refl, k)
back b a.define ys K ts _ some = tt
back b (a.word y) ys K ts x some = back_word b y ys K ts x
back b (a.sign y) ys K ts x some = back_sign b y ys K ts x
back b a.any_variable ys K ts (t.variable v) some = λ k. (v, ts, refl, k)
back b a.any_variable ys K ts _ some = tt
back b a.any_name ys K ts (t.name f) some = λ k. (f, ts, refl, k)
back b a.any_name ys K ts _ some = tt
back b a.natural ys K ts (t.number (pos n)) some = λ k. (n, ts, refl, k)
back b a.natural ys K ts _ some = tt
back b a.one ys K ts x some = back_one b ys K ts x
back b a.functions ys K ts x some = back_functions b ys K ts x
back b a.bodies ys K ts x some = back_bodies b ys K ts x
back b a.after_head ys K ts x some = back_after_head b ys K ts x
back b a.type ys K ts x some = back_type b ys K ts x
back b a.params ys K ts x some = back_params b ys K ts x
back b a.more_params ys K ts x some = back_more_params b ys K ts x
back b a.body ys K ts x some = back_body b ys K ts x some
back b (a.stmts n) ys K ts x some = back_stmts b n ys K ts x some
back b a.otherwise ys K ts x some = back_otherwise b ys K ts x
back b a.after_reference ys K ts x some = back_reference b ys K ts x some
back b a.value ys K ts x some = back_value b ys K ts x
back b a.after_return ys K ts x some = back_return b ys K ts x some
back b a.cell_kind ys K ts x some = back_cell_kind b ys K ts x
back b a.operand ys K ts x some = back_operand b ys K ts x
back b a.operand_end ys K ts x some = back_operand_end b ys K ts x
back b a.inside ys K ts x some = back_inside b ys K ts x
back b a.operation ys K ts x some = back_operation b ys K ts x
back b a.closing ys K ts (t.sign s.CloseParen) some = λ k. (ts, refl, k)
back b a.closing ys K ts _ some = tt
back b (a.args n) ys K ts x some = back_args b n ys K ts x
back b (a.more_args n) ys K ts x some = back_more_args b n ys K ts x
back b (a.arg n) ys K ts x some = back_arg b n ys K ts x
