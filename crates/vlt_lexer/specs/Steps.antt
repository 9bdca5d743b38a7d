-- What one step of reading finds.
use Rattle.std.specs.Prelude.{◌≡◌, ◌<◌, ◌≤◌, ℕ, ◌==◌, ℤ, pos, Bool, true, if◌then◌else◌, List, [], ◌∷◌, ◌++◌, length, Option, Some, None, codes}
use Rattle.std.specs.Str.{chars, bytes_eq}
use Rattle.vlt_tokens.specs.declared.token.Word.{Word}
use Rattle.vlt_tokens.specs.declared.token.Mark.{Mark}
use Rattle.vlt_tokens.specs.declared.token.TokenKind.{TokenKind}
use Rattle.vlt_tokens.specs.declared.token.TokenKind.TheVariants as kind
use Rattle.vlt_tokens.specs.declared.token.TheConstants.Word as words
use Rattle.vlt_tokens.specs.declared.token.TheConstants.Mark as signs
use Rattle.vlt_tokens.specs.Spelling.{word_text, sign_text}
use Rattle.vlt_lexer.specs.declared.scan.Class.{Class}
use Rattle.vlt_lexer.specs.declared.scan.Class.TheVariants as class
use Rattle.vlt_lexer.specs.declared.scan.Piece.{Piece}
use Rattle.vlt_lexer.specs.declared.scan.Piece.TheVariants as piece
use Rattle.vlt_tokens.specs.Characters.{is_digit, is_name_start, is_name_more, following}
use Rattle.vlt_tokens.specs.Lexemes.{IsLongest, IsOf, max_number}
use Rattle.vlt_lexer.specs.Reading.{IsGap}

abbrev pub is_in : Class → ℕ → Bool
is_in class.Digit c = is_digit c
is_in class.NameMore c = is_name_more c

-- the characters of the class up to the first of another
abbrev pub run : (ℕ → Bool) → List ℕ → List ℕ
run is [] = []
run is (c ∷ cs) = if is c then c ∷ run is cs else []

-- what stands after them
abbrev pub past_run : (ℕ → Bool) → List ℕ → List ℕ
past_run is [] = []
past_run is (c ∷ cs) = if is c then past_run is cs else c ∷ cs

-- the number that digits stand for, while it is in range
abbrev pub Holds : Option ℤ → ℕ → Type 0
Holds None n = max_number < n
Holds (Some z) n = (z ≡ pos n) × (n ≤ max_number)

-- what stands after the name at the front of the text, if it begins with one
abbrev pub past_name : List ℕ → Option (List ℕ)
past_name [] = None
past_name (c ∷ cs) = if is_name_start c then Some (past_run is_name_more cs) else None

-- the first item whose text is this one
abbrev pub item_with_text : {X : Type 0} → (X → List ℕ) → List X → List ℕ → Option X
item_with_text text [] cs = None
item_with_text text (x ∷ xs) cs = if bytes_eq (text x) cs then Some x else item_with_text text xs cs

-- an item, where its text begins this one, with what stands after it
abbrev pub with_rest : {X : Type 0} → X → Option (List ℕ) → Option (X × List ℕ) → Option (X × List ℕ)
with_rest x None other = other
with_rest x (Some after) other = Some (x, after)

-- the first item whose text begins this one, and what stands after it
abbrev pub first_beginning : {X : Type 0} → (X → List ℕ) → List X → List ℕ → Option (X × List ℕ)
first_beginning text [] cs = None
first_beginning text (x ∷ xs) cs = with_rest x (following (text x) cs) (first_beginning text xs cs)

-- a text may begin with this character
abbrev pub may_begin : ℕ → List ℕ → Bool
may_begin c [] = true
may_begin c (d ∷ ds) = d == c

-- the keyword that is spelled so
unfoldable pub keyword_of : List ℕ → Option Word
keyword_of name = item_with_text word_text words.ALL name

-- the longest sign at the front of the text, and what stands after it
unfoldable pub sign_of : List ℕ → Option (Mark × List ℕ)
sign_of cs = first_beginning sign_text signs.ALL cs

-- what a name is: a keyword, or else a name
abbrev pub kind_of : Option Word → TokenKind
kind_of None = kind.Name
kind_of (Some w) = kind.Keyword w

abbrev pub IsNoComment : List ℕ → Type 0
IsNoComment cs = (following (codes "//") cs ≡ None) × (following (codes "/*") cs ≡ None)

-- what is found at the front of the text
abbrev pub IsFound : List ℕ → Option Piece → Type 0
IsFound cs None = cs ≡ []
IsFound cs (Some (piece.Gap after)) = IsGap cs (chars after.now)
IsFound cs (Some (piece.Token k after)) = (front : List ℕ) × (cs ≡ front ++ chars after.now) × IsLongest front cs × IsOf k front

-- what follows it is shorter
abbrev pub IsShorter : ℕ → Option Piece → Type 0
IsShorter n None = Unit {0}
IsShorter n (Some (piece.Gap after)) = length after.now < n
IsShorter n (Some (piece.Token k after)) = length after.now < n
