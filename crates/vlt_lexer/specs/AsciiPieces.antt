-- What ASCII bytes tell of the front of a text.
use Rattle.std.specs.Prelude.{ℕ, zero, suc, ◌+◌, ◌*◌, ◌%◌, ◌^◌, Bool, false, ◌||◌, ◌&&◌, ◌==◌, nat_le, List, [], ◌∷◌, Option, Some, None, if◌then◌else◌}
use Rattle.vlt_tokens.specs.declared.token.Word.{Word}
use Rattle.vlt_tokens.specs.declared.token.TheConstants.Word as words
use Rattle.vlt_tokens.specs.Spelling.{word_text}
use Rattle.vlt_tokens.specs.Characters.{is_blank, is_digit}
use Rattle.vlt_lexer.specs.declared.ascii_pieces.ByteClass.{ByteClass}
use Rattle.vlt_lexer.specs.declared.ascii_pieces.ByteClass.TheVariants as class

-- an ASCII character that begins a name
abbrev pub is_ascii_start : ℕ → Bool
is_ascii_start c = (nat_le 97 c && nat_le c 122) || (nat_le 65 c && nat_le c 90) || (c == 95)

-- one that continues a name
abbrev pub is_ascii_more : ℕ → Bool
is_ascii_more c = is_ascii_start c || is_digit c

abbrev pub class_of : ℕ → ByteClass
class_of c =
    if is_ascii_start c then class.Letter
    else if is_digit c then class.Digit
    else if is_blank c then class.Blank
    else if nat_le 128 c then class.NonAscii
    else class.Other

-- the key of a name with one more byte; of at most eight bytes the key is the one number that they make
abbrev pub next_key : ℕ → ℕ → ℕ
next_key k c = ((k * 256) % 2 ^ 64 + c) % 2 ^ 64

abbrev pub key_after : ℕ → List ℕ → ℕ
key_after k [] = k
key_after k (c ∷ cs) = key_after (next_key k c) cs

abbrev pub key_of : List ℕ → ℕ
key_of cs = key_after 0 cs

-- the first of these keywords that has this key
abbrev pub first_with_key : ℕ → List Word → Option Word
first_with_key k [] = None
first_with_key k (w ∷ ws) = if key_of (word_text w) == k then Some w else first_with_key k ws

abbrev pub word_with_key : ℕ → Option Word
word_with_key k = first_with_key k words.ALL

-- the classes of this many bytes, from this one on
abbrev pub classes_from : ℕ → ℕ → List ByteClass
classes_from zero c = []
classes_from (suc n) c = class_of c ∷ classes_from n (suc c)

-- the text begins with this character
abbrev pub starts_with : ℕ → List ℕ → Bool
starts_with d [] = false
starts_with d (c ∷ cs) = d == c
