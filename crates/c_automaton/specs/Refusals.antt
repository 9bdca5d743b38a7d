-- Why the tokens of a text are of no program, by the grammar.
use Rattle.std.specs.Prelude.{◌≡◌, ◌⊎◌, ℕ, List, Some, slice_get}
use Rattle.vlt_base.specs.declared.limits.TheConstants.{C_BLOCK_DEPTH, C_EXPRESSION_DEPTH}
use Rattle.c_syntax.specs.Tokens.{Token}
use Rattle.c_syntax.specs.Text.{Lexeme}
use Rattle.c_syntax.specs.Reading.{tokens_in, places_in, IsUnexpectedAt, IsOverLimitAt, IsCutShort, within_blocks, within_expressions}

-- this byte, the end, or a limit
pub data Refusal : Type 0 where
  unexpected_at : ℕ → Refusal
  cut_short : Refusal
  over_limit : ℕ → Refusal

-- the token after which no program within the limits goes on exceeds this limit
abbrev pub ExceedsAt : ℕ → List Token → ℕ → Type 0
ExceedsAt n ts i =
    ((n ≡ C_BLOCK_DEPTH) × IsOverLimitAt within_blocks ts i)
    ⊎ ((n ≡ C_EXPRESSION_DEPTH) × IsOverLimitAt within_expressions ts i)

-- the tokens, which begin at these places, are refused so
abbrev pub IsRefusal : List Lexeme → Refusal → Type 0
IsRefusal ls (unexpected_at at) = (i : ℕ) × (slice_get (places_in ls) i ≡ Some at) × IsUnexpectedAt (tokens_in ls) i
IsRefusal ls cut_short = IsCutShort (tokens_in ls)
IsRefusal ls (over_limit n) = (i : ℕ) × ExceedsAt n (tokens_in ls) i
