-- The tokens of a C text.
use Rattle.std.specs.Prelude.{◌≡◌, ℕ, ◌+◌, ◌*◌, ◌-◌, pos, Bool, true, false, not, ◌&&◌, ◌||◌, ◌==◌, nat_le, if◌then◌else◌, List, [], ◌∷◌, length, Option, Some, None, option_map, codes}
use Rattle.std.specs.Str.{bytes_eq}
use Rattle.vlt_ops.specs.declared.Op.TheVariants as op
use Rattle.c_syntax.specs.declared.token.CWord.{CWord}
use Rattle.c_syntax.specs.declared.token.CSign.TheVariants as s
use Rattle.c_syntax.specs.declared.token.TheConstants.CWord as words
use Rattle.c_syntax.specs.declared.program.TheConstants.CPrim as prims
use Rattle.c_syntax.specs.declared.program.CPrim.{CPrim}
use Rattle.c_syntax.specs.Tokens.{Token, include, line_end, define, word, sign, operator, primitive, variable, name, number, text, stray, word_text, prim_text, token_text}

-- ---- bytes

-- a space or LF
abbrev pub is_blank : ℕ → Bool
is_blank b = (b == 32) || (b == 10)

-- 0 to 9
abbrev pub is_digit : ℕ → Bool
is_digit b = nat_le 48 b && nat_le b 57

-- A to Z, a to z, 0 to 9 and `_`
abbrev pub is_run_byte : ℕ → Bool
is_run_byte b = is_digit b || (nat_le 65 b && nat_le b 90) || (nat_le 97 b && nat_le b 122) || (b == 95)

-- the bytes up to the first that isn't of the class, and what stands after them
abbrev pub run : (ℕ → Bool) → List ℕ → List ℕ
run is [] = []
run is (b ∷ bs) = if is b then b ∷ run is bs else []

abbrev pub past_run : (ℕ → Bool) → List ℕ → List ℕ
past_run is [] = []
past_run is (b ∷ bs) = if is b then past_run is bs else b ∷ bs

-- what stands after these bytes, where the text begins with them
abbrev pub following : List ℕ → List ℕ → Option (List ℕ)
following [] bs = Some bs
following (f ∷ fs) [] = None
following (f ∷ fs) (b ∷ bs) = if f == b then following fs bs else None

-- ---- runs

abbrev pub max_number : ℕ
max_number = 9223372036854775807

-- the number that one more digit makes, where it is one and the number is in range
abbrev pub with_digit : ℕ → ℕ → Option ℕ
with_digit n b = if is_digit b && nat_le (n * 10 + (b - 48)) max_number then Some (n * 10 + (b - 48)) else None

abbrev pub if_some : Option ℕ → (ℕ → Option ℕ) → Option ℕ
if_some None next = None
if_some (Some n) next = next n

-- the number that digits make after those of this one
abbrev pub digits_after : ℕ → List ℕ → Option ℕ
digits_after n [] = Some n
digits_after n (b ∷ bs) = if_some (with_digit n b) (λ m. digits_after m bs)

-- the number that a run is: `0`, or digits without a leading zero, at most 9223372036854775807
abbrev pub number_of : List ℕ → Option ℕ
number_of [] = None
number_of (b ∷ []) = digits_after 0 (b ∷ [])
number_of (b ∷ c ∷ bs) = if b == 48 then None else digits_after 0 (b ∷ c ∷ bs)

-- what a letter with a number is
abbrev pub letter_token : ℕ → ℕ → Token
letter_token b n =
    if b == 110 then variable (record { reference = false; number = n }) else
    if b == 112 then variable (record { reference = true; number = n }) else
    if b == 102 then name (record { glue = false; number = n }) else
    if b == 101 then name (record { glue = true; number = n }) else stray

abbrev pub token_or : Option Token → Token → Token
token_or None t = t
token_or (Some t) _ = t

-- the first item whose text is this one
abbrev pub item_with_text : {X : Type 0} → (X → List ℕ) → List X → List ℕ → Option X
item_with_text of [] cs = None
item_with_text of (x ∷ xs) cs = if bytes_eq (of x) cs then Some x else item_with_text of xs cs

unfoldable pub word_of : List ℕ → Option CWord
word_of cs = item_with_text word_text words.ALL cs

unfoldable pub prim_of : List ℕ → Option CPrim
prim_of cs = item_with_text prim_text prims.ALL cs

abbrev pub named_token : List ℕ → Token
named_token [] = stray
named_token (b ∷ bs) = token_or (option_map (letter_token b) (number_of bs)) stray

-- what a run of letters, digits and `_` is
abbrev pub run_token : List ℕ → Token
run_token bs =
    token_or (option_map word (word_of bs))
    (token_or (option_map primitive (prim_of bs))
    (token_or (option_map (λ n. number (pos n)) (number_of bs))
    (named_token bs)))

-- ---- pieces

-- a token, and what stands after it
abbrev pub Piece : Type 0
Piece = Token × List ℕ

-- the name in quotes that stands after a quote; else the quote is no token
abbrev pub is_text_name : List ℕ → Bool
is_text_name [] = false
is_text_name (b ∷ bs) = not (is_digit b)

abbrev pub quoted_end : List ℕ → Option (List ℕ) → List ℕ → Piece
quoted_end cs None bs = (stray, bs)
quoted_end cs (Some after) bs = if is_text_name cs then (text cs, after) else (stray, bs)

abbrev pub quoted_piece : List ℕ → Piece
quoted_piece bs = quoted_end (run is_run_byte bs) (following (34 ∷ []) (past_run is_run_byte bs)) bs

-- all signs, the longer ones first
abbrev pub signs : List Token
signs =
    sign s.Arrow ∷ operator op.And ∷ operator op.Or ∷ operator op.Equal ∷ operator op.NotEqual ∷ operator op.LessOrEqual ∷ operator op.GreaterOrEqual
    ∷ sign s.OpenBrace ∷ sign s.CloseBrace ∷ sign s.OpenParen ∷ sign s.CloseParen ∷ sign s.OpenBracket ∷ sign s.CloseBracket ∷ sign s.Semicolon ∷ sign s.Comma ∷ sign s.Assign
    ∷ operator op.Not ∷ operator op.Multiply ∷ operator op.Divide ∷ operator op.Remainder ∷ operator op.Add ∷ operator op.Subtract ∷ operator op.Less ∷ operator op.Greater
    ∷ operator op.BitAnd ∷ operator op.BitXor ∷ operator op.BitOr ∷ []

abbrev pub piece_or : Token → Option (List ℕ) → Piece → Piece
piece_or t None other = other
piece_or t (Some after) other = (t, after)

-- the first of these that begins the text; else its first byte is no token
abbrev pub first_beginning : List Token → List ℕ → Piece → Piece
first_beginning [] bs other = other
first_beginning (t ∷ ts) bs other = piece_or t (following (token_text t) bs) (first_beginning ts bs other)

unfoldable pub sign_piece : List ℕ → List ℕ → Piece
sign_piece bs after = first_beginning signs bs (stray, after)

-- the token with which a text begins whose first byte is this one and no blank
abbrev pub piece : ℕ → List ℕ → Piece
piece b bs =
    if is_run_byte b then (run_token (run is_run_byte (b ∷ bs)), past_run is_run_byte (b ∷ bs)) else
    if b == 34 then quoted_piece bs else sign_piece (b ∷ bs) bs

-- ---- a whole text

-- a token, and how many bytes stand before it
pub record Lexeme : Type 0 where
  pub token : Token
  pub at : ℕ

-- the rest of a text of so many bytes begins with this piece
abbrev pub IsAt : ℕ → List ℕ → Lexeme → Token → Type 0
IsAt total bs l t = (l.token ≡ t) × (l.at + length bs ≡ total)

-- the tokens of the rest of a text of so many bytes, between which blanks stand
abbrev pub AreTokensOf : ℕ → List ℕ → List Lexeme → Type 0
AreTokensOf total bs [] = past_run is_blank bs ≡ []
AreTokensOf total bs (l ∷ ls) = (b : ℕ) × (rest : List ℕ) × (past_run is_blank bs ≡ b ∷ rest) × IsAt total (b ∷ rest) l ((piece b rest).0) × AreTokensOf total ((piece b rest).1) ls

-- the token where this one has to stand
abbrev pub fixed_piece : Token → ℕ → List ℕ → Piece
fixed_piece t b bs = first_beginning (t ∷ []) (b ∷ bs) (stray, bs)

-- the two first lines have five tokens, without blanks between
abbrev pub first_pieces : List (ℕ → List ℕ → Piece)
first_pieces = fixed_piece include ∷ fixed_piece line_end ∷ fixed_piece define ∷ piece ∷ fixed_piece line_end ∷ []

abbrev pub AreFirst : List (ℕ → List ℕ → Piece) → ℕ → List ℕ → List Lexeme → Type 0
AreFirst [] total bs ls = AreTokensOf total bs ls
AreFirst (p ∷ ps) total [] ls = ls ≡ []
AreFirst (p ∷ ps) total (b ∷ bs) [] = ⊥
AreFirst (p ∷ ps) total (b ∷ bs) (l ∷ ls) = IsAt total (b ∷ bs) l ((p b bs).0) × AreFirst ps total ((p b bs).1) ls

-- the tokens of a C text without certificate
abbrev pub IsTokensOf : List ℕ → List Lexeme → Type 0
IsTokensOf bytes ls = AreFirst first_pieces (length bytes) bytes ls

-- ---- the certificate

abbrev pub mark : List ℕ
mark = codes "/*VAULT-CERT\n"

abbrev pub cut_at : Option (List ℕ) → List ℕ → List ℕ
cut_at None before = before
cut_at (Some _) before = []

-- the text before the first mark
abbrev pub before_mark : List ℕ → List ℕ
before_mark [] = []
before_mark (b ∷ bs) = cut_at (following mark (b ∷ bs)) (b ∷ before_mark bs)
