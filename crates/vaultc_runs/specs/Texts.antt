-- Which bytes are the text of a tree, and what is said of others.
use Rattle.std.specs.Prelude.{◌≡◌, ◌<◌, ◌≤◌, ◌⊎◌, ℕ, List, [], length, codes}
use Rattle.vlt_base.specs.Limits.{limit_of}
use Rattle.vlt_tokens.specs.Lexemes.{Lexeme}
use Rattle.vlt_lexer.specs.Text.{IsTokensOf, IsRefused}
use Rattle.vlt_lexer.specs.declared.LexError.{LexError}
use Rattle.vlt_lexer.specs.declared.LexError.TheVariants as lex
use Rattle.vlt_syntax.specs.Tree.{Tree}
use Rattle.vlt_syntax.specs.Grammar.{IsPlacedTreeOf}
use Rattle.vlt_syntax.specs.Refusals as grammar
use Rattle.vlt_syntax.specs.Refusals.{unexpected_at, over_limit, ended}
use Rattle.vlt_base.specs.declared.limits.TheConstants.{SOURCE_BYTES, TOKENS}
use Rattle.vaultc_runs.specs.declared.status.TheConstants.{NO_MEMORY, NO_TEXT}
use Rattle.vaultc_runs.specs.Lines.{Reply, reply, over_reply, place_reply}

-- more bytes than a source file may have
abbrev pub IsTooLong : List ℕ → Type 0
IsTooLong bytes = limit_of SOURCE_BYTES < length bytes

-- the bytes are these tokens, and there aren't too many
pub record AreTokens (bytes : List ℕ) (ls : List Lexeme) : Type 0 where
  pub tokens : IsTokensOf bytes ls
  pub few : length ls ≤ limit_of TOKENS

-- the bytes are a text of the tree, whose parts stand where they do in the bytes
abbrev pub IsTextOf : Tree → List ℕ → Type 0
IsTextOf t bytes = (ls : List Lexeme) × AreTokens bytes ls × IsPlacedTreeOf ls t

-- why bytes are refused: as no tokens, or by their tokens
pub data Refusal : Type 0 where
  unlexed : LexError → Refusal
  unparsed : grammar.Refusal → Refusal

abbrev pub AreRefused : List ℕ → Refusal → Type 0
AreRefused bytes (unlexed e) = IsRefused bytes e
AreRefused bytes (unparsed f) = (ls : List Lexeme) × AreTokens bytes ls × grammar.IsRefusal ls f

-- The bytes are a text of one tree, or they are refused for one reason.
pub record AreReadInOneWay (bytes : List ℕ) : Type 0 where
  pub either : ((t : Tree) × IsTextOf t bytes) ⊎ ((e : Refusal) × AreRefused bytes e)
  pub one_tree : (t u : Tree) → IsTextOf t bytes → IsTextOf u bytes → t ≡ u
  pub one_refusal : (d e : Refusal) → AreRefused bytes d → AreRefused bytes e → d ≡ e
  pub never_both : (t : Tree) (e : Refusal) → IsTextOf t bytes → AreRefused bytes e → ⊥

-- Want of memory refuses no bytes, and has no line.
abbrev pub unlexed_reply : List ℕ → LexError → Reply
unlexed_reply bytes (lex.NotUtf8 at) = place_reply (codes "utf8") bytes at
unlexed_reply bytes (lex.BadByte at) = place_reply (codes "byte") bytes at
unlexed_reply bytes (lex.NumberTooLarge at) = place_reply (codes "number") bytes at
unlexed_reply bytes (lex.OpenComment at) = place_reply (codes "comment") bytes at
unlexed_reply bytes (lex.Limit n) = over_reply n
unlexed_reply bytes lex.Memory = reply NO_MEMORY []

abbrev pub unparsed_reply : List ℕ → grammar.Refusal → Reply
unparsed_reply bytes (unexpected_at at) = place_reply (codes "token") bytes at
unparsed_reply bytes (over_limit n) = over_reply n
unparsed_reply bytes ended = reply NO_TEXT (codes "text end\n")

abbrev pub refusal_reply : List ℕ → Refusal → Reply
refusal_reply bytes (unlexed e) = unlexed_reply bytes e
refusal_reply bytes (unparsed f) = unparsed_reply bytes f
