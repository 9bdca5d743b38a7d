-- Which program a text stands for, and why a text stands for none.
use Rattle.std.specs.Prelude.{◌≡◌, ◌<◌, ◌≤◌, ℕ, suc, nat_lt, if◌then◌else◌, List, [], ◌++◌, length, take, map, Option, Some, None}
use Rattle.vlt_base.specs.declared.places.Span.{Span}
use Rattle.c_syntax.specs.C.{Program}
use Rattle.c_syntax.specs.Unit.{TranslationUnit}
use Rattle.c_syntax.specs.Tokens.{Token}
use Rattle.c_syntax.specs.Spelling.{spelling}
use Rattle.c_syntax.specs.Grammar.{Bounds, language, IsUnit}
use Rattle.c_syntax.specs.Text.{Lexeme, IsTokensOf, before_mark}
use Rattle.c_syntax.specs.Kinds.{unit_refusal}
use Rattle.c_syntax.specs.Programs.{IsProgramOf}

abbrev pub tokens_in : List Lexeme → List Token
tokens_in = map (λ l. l.token)

-- the first byte of each token
abbrev pub places_in : List Lexeme → List ℕ
places_in = map (λ l. l.at)

-- the bytes from the first mark of a certificate to the end of the text
abbrev pub cert_of : List ℕ → Option Span
cert_of bytes = if nat_lt (length (before_mark bytes)) (length bytes) then Some (record { from = length (before_mark bytes); to = length bytes }) else None

-- the text up to its certificate is of the grammar, within the limits
pub record IsUnitOf (bytes : List ℕ) (ls : List Lexeme) (u : TranslationUnit) : Type 0 where
  pub tokens : IsTokensOf (before_mark bytes) ls
  pub spelled : tokens_in ls ≡ spelling u
  pub within : IsUnit language u

-- the text stands for the program, and has the span of a certificate
pub record IsCProgramOf (bytes : List ℕ) (p : Program) (cert : Option Span) : Type 0 where
  pub lexemes : List Lexeme
  pub unit : TranslationUnit
  pub reads : IsUnitOf bytes lexemes unit
  pub kinds : unit_refusal (places_in lexemes) unit ≡ None
  pub program : IsProgramOf unit p
  pub span : cert ≡ cert_of bytes

-- the text is of the grammar, and this is the least of what is refused of it
pub record IsOfKind (bytes : List ℕ) (rule at : ℕ) : Type 0 where
  pub lexemes : List Lexeme
  pub unit : TranslationUnit
  pub reads : IsUnitOf bytes lexemes unit
  pub least : unit_refusal (places_in lexemes) unit ≡ Some (record { at = at; rule = rule })

-- ---- texts that aren't of the grammar

-- a text within some bounds that are asked for begins with these tokens
pub record Continues (asked : Bounds → Type 0) (ts : List Token) : Type 0 where
  pub bounds : Bounds
  pub is_asked : asked bounds
  pub unit : TranslationUnit
  pub within : IsUnit bounds unit
  pub more : List Token
  pub spelled : spelling unit ≡ ts ++ more

-- all bounds, the limits, those that keep the limit on blocks, and those that keep the limit on expressions
abbrev pub any_size : Bounds → Type 0
any_size b = Unit {0}

abbrev pub within_limits : Bounds → Type 0
within_limits b = b ≡ language

abbrev pub within_blocks : Bounds → Type 0
within_blocks b = b.blocks ≤ language.blocks

abbrev pub within_expressions : Bounds → Type 0
within_expressions b = b.expressions ≤ language.expressions

-- a text within the limits goes on up to this token, and none after it
pub record IsLastOf (ts : List Token) (i : ℕ) : Type 0 where
  pub inside : i < length ts
  pub before : Continues within_limits (take i ts)
  pub following : Continues within_limits (take (suc i) ts) → ⊥

-- no text at all goes on after this token
pub record IsUnexpectedAt (ts : List Token) (i : ℕ) : Type 0 where
  pub last : IsLastOf ts i
  pub none : Continues any_size (take (suc i) ts) → ⊥

-- each text that goes on after this token exceeds the limit
pub record IsOverLimitAt (kept : Bounds → Type 0) (ts : List Token) (i : ℕ) : Type 0 where
  pub last : IsLastOf ts i
  pub some : Continues any_size (take (suc i) ts)
  pub none : Continues kept (take (suc i) ts) → ⊥

-- a text within the limits goes on after all tokens, and they are none of any size
pub record IsCutShort (ts : List Token) : Type 0 where
  pub some : Continues within_limits ts
  pub none : (b : Bounds) (u : TranslationUnit) → IsUnit b u → spelling u ≡ ts → ⊥
