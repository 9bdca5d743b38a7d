-- Files of numbers. A file is lines, a line is words, and each word has to be a number.
use Rattle.std.specs.Prelude.{ℕ, ◌+◌, ◌-◌, ◌*◌, ◌^◌, Bool, true, false, not, ◌&&◌, ◌==◌, nat_lt, nat_le, if◌then◌else◌, List, [], ◌∷◌, length, drop, filter, map, ℤ, pos, neg_ℤ, Option, Result, Ok, Err}
use Rattle.std.specs.List.{slice_split, list_all, list_any, flat_map, position_from}
use Rattle.std.specs.Option.{option_map_or}
use Rattle.std.specs.Str.{all_ascii_digits}
use Rattle.std.specs.Str.Parse.{starts_with_minus}

abbrev pub is_one_of : List ℕ → ℕ → Bool
is_one_of bytes byte = list_any (λ b. b == byte) bytes

-- a line feed
abbrev pub line_ends : List ℕ
line_ends = 10 ∷ []

-- a space, a tab and a carriage return
abbrev pub blanks : List ℕ
blanks = 32 ∷ 9 ∷ 13 ∷ []

-- the parts, of which an empty last one does not count
abbrev pub without_empty_end : List (List ℕ) → List (List ℕ)
without_empty_end [] = []
without_empty_end (part ∷ []) = if length part == 0 then [] else part ∷ []
without_empty_end (part ∷ next ∷ more) = part ∷ without_empty_end (next ∷ more)

-- the lines of a file: a last line feed begins no further line
abbrev pub lines_of : List ℕ → List (List ℕ)
lines_of text = without_empty_end (slice_split (is_one_of line_ends) text)

-- what stands between the blanks of a line
abbrev pub words_of : List ℕ → List (List ℕ)
words_of line = filter (λ word. nat_lt 0 (length word)) (slice_split (is_one_of blanks) line)

-- what decimal digits stand for: each counts by its place
abbrev pub magnitude_of : List ℕ → ℕ
magnitude_of [] = 0
magnitude_of (digit ∷ digits) = (digit - 48) * 10 ^ length digits + magnitude_of digits

-- a word without its `-`
abbrev pub digits_of : List ℕ → List ℕ
digits_of word = if starts_with_minus word then drop 1 word else word

-- whether so much fits 64 bits, below 0 or not
abbrev pub is_in_range : Bool → ℕ → Bool
is_in_range true magnitude = nat_le magnitude (2 ^ 63)
is_in_range false magnitude = nat_lt magnitude (2 ^ 63)

-- a number is one digit or more, perhaps after a `-`, and of 64 bits
abbrev pub is_number : List ℕ → Bool
is_number word =
    nat_lt 0 (length (digits_of word)) && all_ascii_digits (digits_of word)
    && is_in_range (starts_with_minus word) (magnitude_of (digits_of word))

abbrev pub value_of : List ℕ → ℤ
value_of word =
    if starts_with_minus word then neg_ℤ (pos (magnitude_of (digits_of word))) else pos (magnitude_of (digits_of word))

abbrev pub is_good : List ℕ → Bool
is_good line = list_all is_number (words_of line)

abbrev pub numbers_of : List ℕ → List ℤ
numbers_of line = map value_of (words_of line)

-- the first line with a word that is no number, counted from 1
abbrev pub first_bad_line : List ℕ → Option ℕ
first_bad_line text = position_from (λ line. not (is_good line)) 1 (lines_of text)

-- the numbers of an input file, or its first bad line
abbrev pub input_numbers : List ℕ → Result (List ℤ) ℕ
input_numbers text = option_map_or Err (first_bad_line text) (Ok (flat_map numbers_of (lines_of text)))

-- the answers of an answers file, one for each line, or its first bad line
abbrev pub answers_of : List ℕ → Result (List (List ℤ)) ℕ
answers_of text = option_map_or Err (first_bad_line text) (Ok (map numbers_of (lines_of text)))
