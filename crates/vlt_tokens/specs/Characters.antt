-- The characters that tokens and the gaps between them are made of, by their numbers.
use Rattle.std.specs.Prelude.{◌≡◌, ℕ, ◌+◌, ◌*◌, ◌-◌, Bool, true, ◌||◌, ◌&&◌, ◌==◌, nat_le, List, [], ◌∷◌, Option, Some, None, length, codes, encode_utf8_all, if◌then◌else◌}
use Rattle.unicode_ident.specs.Ident.{is_xid_start, is_xid_continue}

-- a space, a tab, LF or CR
abbrev pub is_blank : ℕ → Bool
is_blank c = (c == 32) || (c == 9) || (c == 10) || (c == 13)

-- 0 to 9
abbrev pub is_digit : ℕ → Bool
is_digit c = nat_le 48 c && nat_le c 57

abbrev pub is_name_start : ℕ → Bool
is_name_start c = (c == 95) || is_xid_start c

abbrev pub is_name_more : ℕ → Bool
is_name_more c = is_xid_continue c

-- each character of the list is of the class
abbrev pub EachIs : (ℕ → Bool) → List ℕ → Type 0
EachIs is [] = Unit {0}
EachIs is (c ∷ cs) = (is c ≡ true) × EachIs is cs

abbrev pub IsName : List ℕ → Type 0
IsName [] = ⊥
IsName (c ∷ cs) = (is_name_start c ≡ true) × EachIs is_name_more cs

abbrev pub IsDigits : List ℕ → Type 0
IsDigits [] = ⊥
IsDigits (c ∷ cs) = (is_digit c ≡ true) × EachIs is_digit cs

-- the number that digits stand for after the number that those before them stand for
abbrev pub value_after : ℕ → List ℕ → ℕ
value_after n [] = n
value_after n (c ∷ cs) = value_after (n * 10 + (c - 48)) cs

abbrev pub value_of : List ℕ → ℕ
value_of digits = value_after 0 digits

-- what stands after a line: nothing, or what follows its LF
abbrev pub after_line : List ℕ → List ℕ
after_line [] = []
after_line (c ∷ cs) = if c == 10 then cs else after_line cs

-- what stands after these characters, where the text begins with them
abbrev pub following : List ℕ → List ℕ → Option (List ℕ)
following [] cs = Some cs
following (f ∷ fs) [] = None
following (f ∷ fs) (c ∷ cs) = if f == c then following fs cs else None

-- the first, where there is one, and else the second
abbrev pub or_else : Option (List ℕ) → Option (List ℕ) → Option (List ℕ)
or_else None other = other
or_else (Some cs) other = Some cs

-- what stands after the first `*/`
abbrev pub after_close : List ℕ → Option (List ℕ)
after_close [] = None
after_close (c ∷ cs) = or_else (following (codes "*/") (c ∷ cs)) (after_close cs)

-- how many bytes the characters take
abbrev pub width : List ℕ → ℕ
width cs = length (encode_utf8_all cs)
