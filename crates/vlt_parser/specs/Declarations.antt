-- What parts of the parser say of declarations.
use Rattle.std.specs.Prelude.{◌≡◌, ◌-◌, ℕ, Bool, true, false, List, [], ◌∷◌, Option, Result, Ok, Err}
use Rattle.vlt_tokens.specs.declared.token.Mark.TheVariants as mark
use Rattle.vlt_tokens.specs.declared.token.Word.TheVariants as word
use Rattle.vlt_tokens.specs.declared.token.Token.{Token as CodeToken}
use Rattle.vlt_syntax.specs.Tokens.{Token, sign, keyword}
use Rattle.vlt_syntax.specs.Tree.{Name, States, HeaderKey}
use Rattle.vlt_syntax.specs.Spelling.{name_then, at_states_then, marked_name_then, header_then}
use Rattle.vlt_syntax.specs.Grammar.{language}
use Rattle.vlt_syntax.specs.Places.{Placing, without_tokens, ◌◂◌, ◌⊛◌, enclosed_at, marked_at, name_at, states_at, header_key_at}
use Rattle.vlt_automaton.specs.Language.{Located, Left, Reaction, take, Symbol, run}
use Rattle.vlt_parser_exprs.specs.Ahead.{lexemes_from, Fails}
use Rattle.vlt_parser_exprs.specs.declared.error.ParseError.{ParseError}

-- what a field has after its type, with the semicolon
abbrev pub field_name_then : Name → Option States → List Token → List Token
field_name_then n ss rest = name_then n (at_states_then ss (sign mark.Semicolon ∷ rest))

abbrev pub field_name_at : Name × Option States → Placing (Name × Option States)
field_name_at f = without_tokens (λ n ss. (n, ss)) ⊛ name_at f.0 ⊛ marked_at states_at f.1 ◂ 1

-- `struct`, its name, its header, its state set and the opening brace
abbrev pub struct_head_then : Name → List HeaderKey → Option Name → List Token → List Token
struct_head_then n ps ss rest = keyword word.Struct ∷ name_then n (header_then ps (marked_name_then mark.At ss (sign mark.OpenBrace ∷ rest)))

-- what a struct has before its opening brace, with the brace
abbrev pub struct_head_at : Name × List HeaderKey × Option Name → Placing (Name × List HeaderKey × Option Name)
struct_head_at h = without_tokens (λ n ps ss. (n, ps, ss)) ◂ 1 ⊛ name_at h.0 ⊛ enclosed_at header_key_at h.1 ⊛ marked_at name_at h.2 ◂ 1

abbrev pub takes : Reaction → Bool
takes (take symbols) = true
takes _ = false

-- something begins with the token that comes
abbrev pub can_begin : (Token → Reaction) → List Located → Bool
can_begin start [] = false
can_begin start (x ∷ xs) = takes (start x.token)

-- what is left of the limits on states, on fields and on declarations after so many
abbrev pub states_left : ℕ → Left
states_left n = record { limit = 5; more = language.states - n }

abbrev pub fields_left : ℕ → Left
fields_left n = record { limit = 6; more = language.fields - n }

abbrev pub decls_left : ℕ → Left
decls_left n = record { limit = 4; more = language.decls - n }

-- all tokens are what the symbol takes, or are refused as the automaton refuses them
abbrev pub Ends : {A : Type 0} → Symbol → List CodeToken → Result A ParseError → Type 0
Ends symbol tokens (Ok x) = run (symbol ∷ []) (lexemes_from tokens 0) ≡ Ok tt
Ends symbol tokens (Err e) = Fails (run (symbol ∷ []) (lexemes_from tokens 0)) e
