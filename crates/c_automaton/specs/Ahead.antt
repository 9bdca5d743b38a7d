-- What comes, and the first tokens by which one symbol is told from another. Private contracts and proofs alone cite this.
use Rattle.std.specs.Prelude.{◌≡◌, ◌==◌, ◌||◌, if◌then◌else◌, ℕ, Bool, true, false, List, [], ◌∷◌}
use Rattle.vlt_ops.specs.declared.Op.TheVariants as op
use Rattle.c_syntax.specs.declared.program.CVar.{CVar}
use Rattle.c_syntax.specs.declared.token.CWord.{CWord}
use Rattle.c_syntax.specs.declared.token.CWord.TheVariants.{Long, Ref}
use Rattle.c_syntax.specs.declared.token.CSign.{CSign}
use Rattle.c_syntax.specs.declared.token.CSign.TheVariants.{Assign, CloseParen, OpenBrace, OpenParen, Semicolon}
use Rattle.c_syntax.specs.Tokens as t
use Rattle.c_syntax.specs.Tokens.{Token}
use Rattle.c_syntax.specs.Text.{Lexeme}
use Rattle.c_automaton.specs.Refusals.{Refusal, unexpected_at, cut_short}
use Rattle.c_automaton.specs.Automaton.{Symbol, sign, functions, bodies, after_head, body, stmts, otherwise, after_reference, value, operand, one, word_number, sign_number}

-- this token comes, and then those
pub record Begins (token : Token) (ts rest : List Lexeme) : Type 0 where
  pub place : ℕ
  pub is : ts ≡ record { token = token; at = place } ∷ rest

-- why nothing goes on with what comes
abbrev pub refusal_at : List Lexeme → Refusal
refusal_at [] = cut_short
refusal_at (l ∷ ls) = unexpected_at l.at

abbrev pub begins_with : (Token → Bool) → List Lexeme → Bool
begins_with is [] = false
begins_with is (l ∷ ls) = is l.token

abbrev pub is_sign : CSign → Token → Bool
is_sign x (t.sign y) = sign_number x == sign_number y
is_sign x _ = false

abbrev pub is_word : CWord → Token → Bool
is_word x (t.word y) = word_number x == word_number y
is_word x _ = false

abbrev pub begins_sign : CSign → List Lexeme → Bool
begins_sign x = begins_with (is_sign x)

abbrev pub begins_word : CWord → List Lexeme → Bool
begins_word x = begins_with (is_word x)

abbrev pub is_type : Token → Bool
is_type x = is_word Ref x || is_word Long x

-- the name of a function, or a primitive
abbrev pub is_callee : Token → Bool
is_callee (t.name f) = true
is_callee (t.primitive p) = true
is_callee _ = false

-- an operator that stands before its operand
abbrev pub is_prefix : Token → Bool
is_prefix (t.operator op.Subtract) = true
is_prefix (t.operator op.Not) = true
is_prefix _ = false

-- ---- what some symbols come to

-- all functions, or those after a body
abbrev pub functions_symbol : Bool → Symbol
functions_symbol true = functions
functions_symbol false = bodies

-- what comes after the head of one
abbrev pub after_head_of : Bool → List Symbol
after_head_of true = after_head ∷ []
after_head_of false = sign OpenBrace ∷ body ∷ bodies ∷ []

-- after the variable that begins a statement
abbrev pub after_variable_of : CVar → List Symbol
after_variable_of v = if v.reference then after_reference ∷ [] else sign Assign ∷ value ∷ sign Semicolon ∷ []

-- after `if` and `while`
abbrev pub if_rest : List Symbol
if_rest = sign OpenParen ∷ operand ∷ sign CloseParen ∷ sign OpenBrace ∷ stmts false ∷ otherwise ∷ []

abbrev pub while_rest : List Symbol
while_rest = sign OpenParen ∷ one ∷ sign CloseParen ∷ sign OpenBrace ∷ stmts true ∷ []
