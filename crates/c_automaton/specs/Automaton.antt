-- A pushdown automaton that takes the tokens of C texts one by one, and never looks ahead. Nothing of the grammar is
-- defined by it: `Laws` says that it refuses where the grammar does.
use Rattle.std.specs.Prelude.{ℕ, suc, ◌-◌, ◌==◌, nat_le, pos, Bool, true, false, if◌then◌else◌, List, [], ◌∷◌, ◌++◌, Result, Ok, Err}
use Rattle.vlt_base.specs.declared.limits.TheConstants.{C_BLOCK_DEPTH, C_EXPRESSION_DEPTH}
use Rattle.vlt_ops.specs.declared.Op.TheVariants as op
use Rattle.vlt_ops.specs.Operator.{row_of}
use Rattle.c_syntax.specs.declared.program.CPrim.{CPrim}
use Rattle.c_syntax.specs.declared.program.CPrim.TheVariants as prim
use Rattle.c_syntax.specs.declared.token.CWord.{CWord}
use Rattle.c_syntax.specs.declared.token.CWord.TheVariants as w
use Rattle.c_syntax.specs.declared.token.CSign.{CSign}
use Rattle.c_syntax.specs.declared.token.CSign.TheVariants as s
use Rattle.c_syntax.specs.Tokens as t
use Rattle.c_syntax.specs.Tokens.{Token}
use Rattle.c_syntax.specs.Text.{Lexeme}
use Rattle.c_syntax.specs.Grammar.{Bounds}
use Rattle.c_automaton.specs.Refusals.{Refusal, unexpected_at, cut_short, over_limit}

-- ---- words and signs as numbers that can be compared

abbrev pub word_number : CWord → ℕ
word_number w.Void = 0
word_number w.Long = 1
word_number w.Ref = 2
word_number w.If = 3
word_number w.Else = 4
word_number w.While = 5
word_number w.Break = 6
word_number w.Continue = 7
word_number w.Return = 8
word_number w.Null = 9
word_number w.Numbers = 10
word_number w.References = 11

abbrev pub sign_number : CSign → ℕ
sign_number s.Arrow = 0
sign_number s.OpenBrace = 1
sign_number s.CloseBrace = 2
sign_number s.OpenParen = 3
sign_number s.CloseParen = 4
sign_number s.OpenBracket = 5
sign_number s.CloseBracket = 6
sign_number s.Semicolon = 7
sign_number s.Comma = 8
sign_number s.Assign = 9

-- ---- what the stack holds

pub data Symbol : Type 0 where
  -- one token
  include : Symbol
  line_end : Symbol
  define : Symbol
  word : CWord → Symbol
  sign : CSign → Symbol
  any_variable : Symbol
  any_name : Symbol
  -- a number that isn't negative, and the number 1
  natural : Symbol
  one : Symbol
  -- all functions, and those after a body
  functions : Symbol
  bodies : Symbol
  after_head : Symbol
  type : Symbol
  params : Symbol
  more_params : Symbol
  -- after the opening brace of a body
  body : Symbol
  -- Statements, and the brace after them. The block counts where it isn't a body, nor the first of an `if`, which `otherwise` counts.
  stmts : Bool → Symbol
  otherwise : Symbol
  -- after a reference that begins a statement, after `=`, after `return`
  after_reference : Symbol
  value : Symbol
  after_return : Symbol
  -- `n` or `r`
  cell_kind : Symbol
  operand : Symbol
  -- after a reference that is an operand
  operand_end : Symbol
  -- after an opening parenthesis, after the first operand in it, and before the closing one
  inside : Symbol
  operation : Symbol
  closing : Symbol
  -- arguments, among which may be strings or not
  args : Bool → Symbol
  more_args : Bool → Symbol
  arg : Bool → Symbol

-- how deep the blocks are that stand open, a body apart
abbrev pub blocks_in : List Symbol → ℕ
blocks_in [] = 0
blocks_in (stmts true ∷ ys) = suc (blocks_in ys)
blocks_in (otherwise ∷ ys) = suc (blocks_in ys)
blocks_in (_ ∷ ys) = blocks_in ys

-- how many parentheses of the expression that is read stand open
abbrev pub parens_in : List Symbol → ℕ
parens_in (inside ∷ ys) = suc (parens_in ys)
parens_in (operation ∷ ys) = suc (parens_in ys)
parens_in (closing ∷ ys) = suc (parens_in ys)
parens_in _ = 0

-- ---- what a symbol does with a token

pub data Reaction : Type 0 where
  -- takes it, and puts these in the symbol's place; the same where a block opens, and where a parenthesis of an expression does
  take : List Symbol → Reaction
  open_block : List Symbol → Reaction
  open_paren : List Symbol → Reaction
  -- nothing of the symbol comes
  skip : Reaction
  refuse : Reaction

-- these come after what was taken
abbrev pub with_after : Reaction → List Symbol → Reaction
with_after (take xs) ys = take (xs ++ ys)
with_after (open_block xs) ys = open_block (xs ++ ys)
with_after (open_paren xs) ys = open_paren (xs ++ ys)
with_after skip ys = skip
with_after refuse ys = refuse

abbrev pub taken_if : Bool → Reaction
taken_if b = if b then take [] else refuse

abbrev pub is_string_taker : CPrim → Bool
is_string_taker prim.Call = true
is_string_taker _ = false

-- `-> n [ 0 ]`, after the arrow
abbrev pub cell_rest : List Symbol → List Symbol
cell_rest ys = cell_kind ∷ sign s.OpenBracket ∷ natural ∷ sign s.CloseBracket ∷ ys

abbrev pub react_operand : Token → Reaction
react_operand (t.number z) = take []
react_operand (t.word w.Null) = take []
react_operand (t.variable v) = if v.reference then take (operand_end ∷ []) else take []
react_operand (t.sign s.OpenParen) = open_paren (inside ∷ [])
react_operand _ = refuse

abbrev pub react_inside : Token → Reaction
react_inside (t.operator op.Subtract) = take (operand ∷ closing ∷ [])
react_inside (t.operator op.Not) = take (operand ∷ closing ∷ [])
react_inside x = with_after (react_operand x) (operation ∷ [])

abbrev pub react_operation : Token → Reaction
react_operation (t.operator o) = if (row_of o).arity == 2 then take (operand ∷ closing ∷ []) else refuse
react_operation _ = refuse

abbrev pub react_operand_end : Token → Reaction
react_operand_end (t.sign s.Arrow) = take (cell_rest [])
react_operand_end _ = skip

abbrev pub react_arg : Bool → Token → Reaction
react_arg b (t.number z) = take []
react_arg b (t.variable v) = take []
react_arg b (t.word w.Null) = take []
react_arg b (t.text cs) = taken_if b
react_arg b _ = refuse

abbrev pub react_args : Bool → Token → Reaction
react_args b (t.sign s.CloseParen) = take []
react_args b x = with_after (react_arg b x) (more_args b ∷ [])

abbrev pub react_more_args : Bool → Token → Reaction
react_more_args b (t.sign s.CloseParen) = take []
react_more_args b (t.sign s.Comma) = take (arg b ∷ more_args b ∷ [])
react_more_args b _ = refuse

abbrev pub react_value : Token → Reaction
react_value (t.name f) = take (sign s.OpenParen ∷ args false ∷ [])
react_value (t.primitive p) = take (sign s.OpenParen ∷ args (is_string_taker p) ∷ [])
react_value x = react_operand x

abbrev pub react_return : Token → Reaction
react_return (t.sign s.Semicolon) = take []
react_return x = with_after (react_operand x) (sign s.Semicolon ∷ [])

abbrev pub react_reference : Token → Reaction
react_reference (t.sign s.Arrow) = take (cell_rest (sign s.Assign ∷ operand ∷ sign s.Semicolon ∷ []))
react_reference (t.sign s.Assign) = take (value ∷ sign s.Semicolon ∷ [])
react_reference _ = refuse

abbrev pub react_otherwise : Token → Reaction
react_otherwise (t.word w.Else) = take (sign s.OpenBrace ∷ stmts true ∷ [])
react_otherwise _ = skip

-- the symbols of these statements come after
abbrev pub react_stmts : Bool → Token → Reaction
react_stmts b (t.sign s.CloseBrace) = take []
react_stmts b (t.variable v) =
    if v.reference then take (after_reference ∷ stmts b ∷ []) else take (sign s.Assign ∷ value ∷ sign s.Semicolon ∷ stmts b ∷ [])
react_stmts b (t.name f) = take (sign s.OpenParen ∷ args false ∷ sign s.Semicolon ∷ stmts b ∷ [])
react_stmts b (t.primitive p) = take (sign s.OpenParen ∷ args (is_string_taker p) ∷ sign s.Semicolon ∷ stmts b ∷ [])
react_stmts b (t.word w.Return) = take (after_return ∷ stmts b ∷ [])
react_stmts b (t.word w.Break) = take (sign s.Semicolon ∷ stmts b ∷ [])
react_stmts b (t.word w.Continue) = take (sign s.Semicolon ∷ stmts b ∷ [])
react_stmts b (t.word w.If) =
    open_block (sign s.OpenParen ∷ operand ∷ sign s.CloseParen ∷ sign s.OpenBrace ∷ stmts false ∷ otherwise ∷ stmts b ∷ [])
react_stmts b (t.word w.While) =
    open_block (sign s.OpenParen ∷ one ∷ sign s.CloseParen ∷ sign s.OpenBrace ∷ stmts true ∷ stmts b ∷ [])
react_stmts b _ = refuse

abbrev pub react_type : List Symbol → Reaction → Token → Reaction
react_type ys other (t.word w.Ref) = take ys
react_type ys other (t.word w.Long) = take (word w.Long ∷ ys)
react_type ys other _ = other

-- a head after its result
abbrev pub head_rest : List Symbol → List Symbol
head_rest ys = any_name ∷ sign s.OpenParen ∷ params ∷ ys

abbrev pub react_head : List Symbol → Token → Reaction
react_head ys (t.word w.Void) = take (head_rest ys)
react_head ys x = react_type (head_rest ys) refuse x

abbrev pub react_after_head : Token → Reaction
react_after_head (t.sign s.Semicolon) = take (functions ∷ [])
react_after_head (t.sign s.OpenBrace) = take (body ∷ bodies ∷ [])
react_after_head _ = refuse

abbrev pub react_params : Token → Reaction
react_params (t.word w.Void) = take (sign s.CloseParen ∷ [])
react_params x = react_type (any_variable ∷ more_params ∷ []) refuse x

abbrev pub react_more_params : Token → Reaction
react_more_params (t.sign s.CloseParen) = take []
react_more_params (t.sign s.Comma) = take (type ∷ any_variable ∷ more_params ∷ [])
react_more_params _ = refuse

abbrev pub react_body : Token → Reaction
react_body x = react_type (any_variable ∷ sign s.Semicolon ∷ body ∷ []) (react_stmts false x) x

abbrev pub react : Symbol → Token → Reaction
react include t.include = take []
react line_end t.line_end = take []
react define t.define = take []
react (word a) (t.word b) = taken_if (word_number a == word_number b)
react (sign a) (t.sign b) = taken_if (sign_number a == sign_number b)
react any_variable (t.variable v) = take []
react any_name (t.name f) = take []
react natural (t.number (pos k)) = take []
react one (t.number (pos k)) = taken_if (k == 1)
react functions x = react_head (after_head ∷ []) x
react bodies x = react_head (sign s.OpenBrace ∷ body ∷ bodies ∷ []) x
react after_head x = react_after_head x
react type x = react_type [] refuse x
react params x = react_params x
react more_params x = react_more_params x
react body x = react_body x
react (stmts b) x = react_stmts b x
react otherwise x = react_otherwise x
react after_reference x = react_reference x
react value x = react_value x
react after_return x = react_return x
react cell_kind (t.word w.Numbers) = take []
react cell_kind (t.word w.References) = take []
react operand x = react_operand x
react operand_end x = react_operand_end x
react inside x = react_inside x
react operation x = react_operation x
react closing (t.sign s.CloseParen) = take []
react (args b) x = react_args b x
react (more_args b) x = react_more_args b x
react (arg b) x = react_arg b x
react _ _ = refuse

-- ---- one step, and all

pub data Next : Type 0 where
  to : List Symbol → Next
  unexpected : Next
  over : ℕ → Next

abbrev pub next : Bounds → List Symbol → Next → Reaction → Next
next b ys below (take xs) = to (xs ++ ys)
next b ys below (open_block xs) = if nat_le (blocks_in (xs ++ ys)) (b.blocks - 1) then to (xs ++ ys) else over C_BLOCK_DEPTH
next b ys below (open_paren xs) = if nat_le (parens_in (xs ++ ys)) (b.expressions - 1) then to (xs ++ ys) else over C_EXPRESSION_DEPTH
next b ys below skip = below
next b ys below refuse = unexpected

abbrev pub step : Bounds → List Symbol → Token → Next
step b [] x = unexpected
step b (y ∷ ys) x = next b ys (step b ys x) (react y x)

abbrev pub Verdict : Type 0
Verdict = Result (Unit {0}) Refusal

abbrev pub may_end : List Symbol → Bool
may_end [] = true
may_end (functions ∷ ys) = may_end ys
may_end (bodies ∷ ys) = may_end ys
may_end (otherwise ∷ ys) = may_end ys
may_end (operand_end ∷ ys) = may_end ys
may_end _ = false

abbrev pub onward : (List Symbol → Verdict) → ℕ → Next → Verdict
onward go at (to ys) = go ys
onward go at unexpected = Err (unexpected_at at)
onward go at (over n) = Err (over_limit n)

abbrev pub run : Bounds → List Symbol → List Lexeme → Verdict
run b ys [] = if may_end ys then Ok tt else Err cut_short
run b ys (x ∷ xs) = onward (λ zs. run b zs xs) x.at (step b ys x.token)

abbrev pub start : List Symbol
start = include ∷ line_end ∷ define ∷ natural ∷ line_end ∷ functions ∷ []
