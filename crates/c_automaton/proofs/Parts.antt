-- What the symbols of a stack still stand for.
use Rattle.std.proofs.Common.{◌≡◌, ℕ, suc, ◌+◌, ◌-◌, ◌≤◌, pos, Bool, true, false, List, [], ◌∷◌, ◌++◌, Option, ◌⊎◌}
use Rattle.c_syntax.specs.declared.program.CVar.{CVar}
use Rattle.c_syntax.specs.declared.program.CName.{CName}
use Rattle.c_syntax.specs.declared.token.CWord.{CWord}
use Rattle.c_syntax.specs.declared.token.CWord.TheVariants as w
use Rattle.c_syntax.specs.declared.token.CSign.TheVariants as s
use Rattle.c_syntax.specs.C as c
use Rattle.c_syntax.specs.C.{Expr, Arg, Call, Stmt, Stmts}
use Rattle.c_syntax.specs.Unit.{Declaration, Head, Body}
use Rattle.c_syntax.specs.Tokens as t
use Rattle.c_syntax.specs.Tokens.{Token}
use Rattle.c_syntax.specs.Grammar.{Bounds, HasArities, expr_depth, IsCall, IsWritten, AreWritten, deepest_in, deepest, nested_in, nested, AreBodies}
use Rattle.c_syntax.specs.Spelling.{type_then, more_params_then, params_then, head_then, heads_then, vars_then, expr_then, arg_token, args_then, more_args_then, call_then, stmt_then, stmts_then, bodies_then}
use Rattle.c_automaton.specs.Automaton as a
use Rattle.c_automaton.specs.Automaton.{Symbol, blocks_in, parens_in, Reaction}
use Rattle.c_automaton.proofs.Exprs.{MayStand}

-- what comes after
abbrev pub Rest : Type 1
Rest = List Token → Type 0

abbrev pub reference : ℕ → Token
reference n = t.variable (record { reference = true; number = n })

abbrev pub kind_word : Bool → CWord
kind_word true = w.References
kind_word false = w.Numbers

-- a block may stand there
abbrev pub HasRoom : Bounds → List Symbol → Type 0
HasRoom b ys = blocks_in ys ≤ b.blocks - 1

-- an operand may
abbrev pub HasDepth : Bounds → List Symbol → Type 0
HasDepth b ys = suc (parens_in ys) ≤ b.expressions

-- These tokens begin with what the symbol stands for, above those symbols, and what is asked for comes after it.
abbrev pub Part : Bounds → Symbol → List Symbol → Rest → List Token → Type 0
Part b a.include ys K ts = (rest : List Token) × (ts ≡ t.include ∷ rest) × K rest
Part b a.line_end ys K ts = (rest : List Token) × (ts ≡ t.line_end ∷ rest) × K rest
Part b a.define ys K ts = (rest : List Token) × (ts ≡ t.define ∷ rest) × K rest
Part b (a.word x) ys K ts = (rest : List Token) × (ts ≡ t.word x ∷ rest) × K rest
Part b (a.sign x) ys K ts = (rest : List Token) × (ts ≡ t.sign x ∷ rest) × K rest
Part b a.any_variable ys K ts = (v : CVar) × (rest : List Token) × (ts ≡ t.variable v ∷ rest) × K rest
Part b a.any_name ys K ts = (f : CName) × (rest : List Token) × (ts ≡ t.name f ∷ rest) × K rest
Part b a.natural ys K ts = (k : ℕ) × (rest : List Token) × (ts ≡ t.number (pos k) ∷ rest) × K rest
Part b a.one ys K ts = (rest : List Token) × (ts ≡ t.number (pos 1) ∷ rest) × K rest
Part b a.functions ys K ts =
    HasRoom b ys → (hs : List Head) × (bs : List Body) × (rest : List Token) × AreBodies b bs × (ts ≡ heads_then hs (bodies_then bs rest)) × K rest
Part b a.bodies ys K ts = HasRoom b ys → (bs : List Body) × (rest : List Token) × AreBodies b bs × (ts ≡ bodies_then bs rest) × K rest
Part b a.after_head ys K ts =
    HasRoom b ys → (h : Head) → (hs : List Head) × (bs : List Body) × (rest : List Token) × AreBodies b bs × (head_then h ts ≡ heads_then hs (bodies_then bs rest)) × K rest
Part b a.type ys K ts = (r : Bool) × (rest : List Token) × (ts ≡ type_then r rest) × K rest
Part b a.params ys K ts = (ds : List Declaration) × (rest : List Token) × (ts ≡ params_then ds rest) × K rest
Part b a.more_params ys K ts = (ds : List Declaration) × (rest : List Token) × (ts ≡ more_params_then ds rest) × K rest
Part b a.body ys K ts =
    HasRoom b ys → (ds : List Declaration) × (xs : Stmts) × (rest : List Token) × AreWritten xs × (deepest xs ≤ b.expressions) × (blocks_in ys + nested xs ≤ b.blocks - 1)
    × (ts ≡ vars_then ds (stmts_then xs (t.sign s.CloseBrace ∷ rest))) × K rest
Part b (a.stmts n) ys K ts =
    HasRoom b (a.stmts n ∷ ys) → (xs : Stmts) × (rest : List Token) × AreWritten xs × (deepest xs ≤ b.expressions) × (blocks_in (a.stmts n ∷ ys) + nested xs ≤ b.blocks - 1)
    × (ts ≡ stmts_then xs (t.sign s.CloseBrace ∷ rest)) × K rest
Part b a.otherwise ys K ts =
    HasRoom b (a.otherwise ∷ ys)
    → K ts ⊎ ((xs : Stmts) × (rest : List Token) × AreWritten xs × (deepest xs ≤ b.expressions) × (suc (blocks_in ys) + nested xs ≤ b.blocks - 1)
    × (ts ≡ t.word w.Else ∷ t.sign s.OpenBrace ∷ stmts_then xs (t.sign s.CloseBrace ∷ rest)) × K rest)
Part b a.after_reference ys K ts =
    (n : ℕ) → (x : Stmt) × (rest : List Token) × IsWritten x × (deepest_in x ≤ b.expressions) × (nested_in x ≡ 0) × (reference n ∷ ts ≡ stmt_then x rest) × K rest
Part b a.value ys K ts =
    HasDepth b ys
    → ((e : Expr) × (rest : List Token) × HasArities e × (expr_depth e ≤ b.expressions) × (ts ≡ expr_then e rest) × K rest)
    ⊎ ((f : Call) × (rest : List Token) × IsCall f × (ts ≡ call_then f rest) × K rest)
Part b a.after_return ys K ts =
    (e : Option Expr) × (rest : List Token) × IsWritten (c.return e) × (deepest_in (c.return e) ≤ b.expressions) × (t.word w.Return ∷ ts ≡ stmt_then (c.return e) rest) × K rest
Part b a.cell_kind ys K ts = (r : Bool) × (rest : List Token) × (ts ≡ t.word (kind_word r) ∷ rest) × K rest
Part b a.operand ys K ts =
    HasDepth b ys → (e : Expr) × (rest : List Token) × HasArities e × (parens_in ys + expr_depth e ≤ b.expressions) × (ts ≡ expr_then e rest) × K rest
Part b a.operand_end ys K ts =
    (n : ℕ) → (e : Expr) × (rest : List Token) × HasArities e × (expr_depth e ≡ 1) × (reference n ∷ ts ≡ expr_then e rest) × K rest
Part b a.inside ys K ts =
    HasDepth b (a.inside ∷ ys)
    → (e : Expr) × (rest : List Token) × HasArities e × (parens_in ys + expr_depth e ≤ b.expressions) × (t.sign s.OpenParen ∷ ts ≡ expr_then e rest) × K rest
Part b a.operation ys K ts =
    (x : Expr) → HasArities x → suc (parens_in ys) + expr_depth x ≤ b.expressions
    → (e : Expr) × (rest : List Token) × HasArities e × (parens_in ys + expr_depth e ≤ b.expressions) × (t.sign s.OpenParen ∷ expr_then x ts ≡ expr_then e rest) × K rest
Part b a.closing ys K ts = (rest : List Token) × (ts ≡ t.sign s.CloseParen ∷ rest) × K rest
Part b (a.args n) ys K ts = (xs : List Arg) × (rest : List Token) × MayStand n xs × (ts ≡ args_then xs rest) × K rest
Part b (a.more_args n) ys K ts = (xs : List Arg) × (rest : List Token) × MayStand n xs × (ts ≡ more_args_then xs rest) × K rest
Part b (a.arg n) ys K ts = (x : Arg) × (rest : List Token) × MayStand n (x ∷ []) × (ts ≡ arg_token x ∷ rest) × K rest

-- all symbols of a stack, one after another
abbrev pub Spells : Bounds → List Symbol → Rest → List Token → Type 0
Spells b [] K ts = K ts
Spells b (y ∷ ys) K ts = Part b y ys (Spells b ys K) ts

-- where the reaction takes a token, what its stack spells comes after that token
abbrev pub Backs : Bounds → Symbol → List Symbol → Rest → List Token → Token → Reaction → Type 0
Backs b y ys K ts x (a.take xs) = Spells b (xs ++ ys) K ts → Part b y ys (Spells b ys K) (x ∷ ts)
Backs b y ys K ts x (a.open_block xs) = HasRoom b (xs ++ ys) → Spells b (xs ++ ys) K ts → Part b y ys (Spells b ys K) (x ∷ ts)
Backs b y ys K ts x (a.open_paren xs) = parens_in (xs ++ ys) ≤ b.expressions - 1 → Spells b (xs ++ ys) K ts → Part b y ys (Spells b ys K) (x ∷ ts)
Backs b y ys K ts x a.skip = Spells b ys K (x ∷ ts) → Part b y ys (Spells b ys K) (x ∷ ts)
Backs b y ys K ts x a.refuse = Unit {0}
