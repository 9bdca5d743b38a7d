-- Where tokens stop being the beginning of a tree of the language, and which limit they exceed, by the grammar alone.
use Rattle.std.specs.Prelude.{◌≡◌, ◌<◌, ◌≤◌, ℕ, suc, List, [], ◌∷◌, ◌++◌, take, length, slice_get, slice_index_or, Some, ◌⊎◌}
use Rattle.vlt_tokens.specs.Lexemes.{Lexeme}
use Rattle.vlt_syntax.specs.Tokens.{Token, tokens_in}
use Rattle.vlt_syntax.specs.Tree.{Tree}
use Rattle.vlt_syntax.specs.Grammar.{Bounds, IsTree, language}
use Rattle.vlt_syntax.specs.Spelling.{spelling}

-- The bound that the limit of a number is, limits 4 to 9 and 12. The others bound nothing of a tree.
abbrev pub bound_of : ℕ → Bounds → ℕ
bound_of limit b =
    slice_index_or (0 ∷ 0 ∷ 0 ∷ 0 ∷ b.decls ∷ b.states ∷ b.fields ∷ b.cases ∷ b.payload ∷ b.parameters ∷ 0 ∷ 0 ∷ b.depth ∷ []) limit 0

-- which bounds are asked for
abbrev pub Asked : Type 1
Asked = Bounds → Type 0

-- all trees: each is within some bounds
abbrev pub any_size : Asked
any_size b = Unit {0}

-- the trees within one limit, whatever they have of all else
abbrev pub within : ℕ → Asked
within limit b = bound_of limit b ≤ bound_of limit language

abbrev pub IsOneOf : Asked → Tree → Type 0
IsOneOf asked t = (b : Bounds) × asked b × IsTree b t

-- some such tree's spelling begins with these tokens
abbrev pub Continues : Asked → List Token → Type 0
Continues asked ts = (t : Tree) × (more : List Token) × IsOneOf asked t × (spelling t ≡ ts ++ more)

-- The token of this number, from 0, is the first with which no such tree goes on.
abbrev pub IsEndOf : Asked → List Token → ℕ → Type 0
IsEndOf asked ts i = (i < length ts) × Continues asked (take i ts) × (Continues asked (take (suc i) ts) → ⊥)

-- no tree goes on with this token
abbrev pub IsUnexpectedAt : List Token → ℕ → Type 0
IsUnexpectedAt ts i = IsEndOf any_size ts i

-- some tree goes on with this token, but none within the limit
abbrev pub IsOverLimitAt : (limit : ℕ) → List Token → ℕ → Type 0
IsOverLimitAt limit ts i = IsEndOf (within limit) ts i × Continues any_size (take (suc i) ts)

-- some tree goes on after the tokens, but they are none
abbrev pub IsCutShort : List Token → Type 0
IsCutShort ts = Continues any_size ts × ((t : Tree) → IsOneOf any_size t → spelling t ≡ ts → ⊥)

-- why a token is refused
pub data Cause : Type 0 where
  unexpected : Cause
  over : (limit : ℕ) → Cause

abbrev pub IsRefusedAt : Cause → List Token → ℕ → Type 0
IsRefusedAt unexpected ts i = IsUnexpectedAt ts i
IsRefusedAt (over limit) ts i = IsOverLimitAt limit ts i

abbrev pub number : Cause → ℕ
number unexpected = 0
number (over limit) = limit

-- Of all tokens that are refused the first decides, and there the limit of the lesser number.
pub record IsFirstRefused (c : Cause) (ts : List Token) (i : ℕ) : Type 0 where
  pub here : IsRefusedAt c ts i
  pub first : (d : Cause) (j : ℕ) → IsRefusedAt d ts j → (i < j) ⊎ ((i ≡ j) × (number c ≤ number d))

-- why tokens are no tree: by the token with this first byte, by a limit, or by their end
pub data Refusal : Type 0 where
  unexpected_at : (at : ℕ) → Refusal
  over_limit : (limit : ℕ) → Refusal
  ended : Refusal

-- the token of this number begins at this byte
pub record BeginsAt (ls : List Lexeme) (i at : ℕ) : Type 0 where
  pub lexeme : Lexeme
  pub there : slice_get ls i ≡ Some lexeme
  pub place : lexeme.from ≡ at

abbrev pub IsRefusal : List Lexeme → Refusal → Type 0
IsRefusal ls (unexpected_at at) = (i : ℕ) × IsFirstRefused unexpected (tokens_in ls) i × BeginsAt ls i at
IsRefusal ls (over_limit n) = (i : ℕ) × IsFirstRefused (over n) (tokens_in ls) i
IsRefusal ls ended = IsCutShort (tokens_in ls) × ((c : Cause) (i : ℕ) → IsRefusedAt c (tokens_in ls) i → ⊥)
