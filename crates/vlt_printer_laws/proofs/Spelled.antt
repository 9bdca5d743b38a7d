-- What keywords, signs and numbers are spelled as: their bytes are their characters.
use Rattle.std.proofs.Common.{◌≡◌, ℕ, ◌+◌, ◌-◌, ◌*◌, ◌/◌, ◌%◌, ◌<◌, ◌≤◌, true, List, [], ◌∷◌, ◌++◌, refl, sym, ◌∙◌, ap₂, arith, lit<, lt_of_le_of_lt, mod-lt, div-add-mod'}
use Rattle.std.specs.Prelude.{encode_utf8_all}
use Rattle.std.specs.Fmt.{decimal}
use Rattle.std.specs.Str.{bytes_eq}
use lib.Utf8.{encode}
use Rattle.std.proofs.Math.Utf8.{scalars, low_scalar}
use Rattle.std.proofs.lemmas.Bool.Decides.{nat_tests}
use Rattle.std.proofs.lemmas.Fmt.{decimal_by_steps_wide, IsAscii-decimal_wide}
use Rattle.std.proofs.lemmas.Slice.Eq.{bytes_eq-Decides}
use Rattle.std.proofs.lemmas.Str.{encodes-IsAscii}
use Rattle.vlt_tokens.specs.declared.token.Word.{Word}
use Rattle.vlt_tokens.specs.declared.token.Mark.{Mark}
use Rattle.vlt_tokens.specs.declared.token.TheConstants.Word as words
use Rattle.vlt_tokens.specs.declared.token.TheConstants.Mark as signs
use Rattle.vlt_tokens.specs.Spelling.{word_text, sign_text}
use Rattle.vlt_tokens.specs.Characters.{is_digit, EachIs, IsDigits, value_after, value_of}
use Rattle.vlt_tokens.specs.Lexemes.{max_number}
use Rattle.vlt_lexer.proofs.Tables.{word_found, sign_found, spelled_passes}
use Rattle.vlt_printer_laws.proofs.Scalars.{AreScalars, scalars_joined}

pub word_bytes : (w : Word) → word_text w ≡ encode_utf8_all (word_text w)
unfolding encode
word_bytes w = (bytes_eq-Decides _ _).0 (spelled_passes word_text (λ x. bytes_eq (word_text x) (encode_utf8_all (word_text x))) words.ALL (word_text w) w refl (word_found w))

pub word_scalars : (w : Word) → AreScalars (word_text w)
word_scalars w = spelled_passes word_text (λ x. scalars (word_text x)) words.ALL (word_text w) w refl (word_found w)

pub sign_bytes : (m : Mark) → sign_text m ≡ encode_utf8_all (sign_text m)
unfolding encode
sign_bytes m = (bytes_eq-Decides _ _).0 (spelled_passes sign_text (λ x. bytes_eq (sign_text x) (encode_utf8_all (sign_text x))) signs.ALL (sign_text m) m refl (sign_found m))

pub sign_scalars : (m : Mark) → AreScalars (sign_text m)
sign_scalars m = spelled_passes sign_text (λ x. scalars (sign_text x)) signs.ALL (sign_text m) m refl (sign_found m)

-- a number and its digits
pub record IsNumberText (n : ℕ) (ds : List ℕ) : Type 0 where
  pub digits : IsDigits ds
  pub value : value_of ds ≡ n
  pub scalar : AreScalars ds

one_digit : (n : ℕ) → n < 10 → IsNumberText n ((48 + n) ∷ [])
one_digit n small = record { digits = (grind (arith, nat_tests), tt); value = omega arith; scalar = rw (low_scalar (48 + n) (omega arith)) refl }

each_digit : (d : ℕ) (ds : List ℕ) → EachIs is_digit ds → is_digit d ≡ true → EachIs is_digit (ds ++ d ∷ [])
each_digit d [] each is = (is, tt)
each_digit d (c ∷ ds) each is = (each.0, each_digit d ds each.1 is)

more_digits : (d : ℕ) (ds : List ℕ) → IsDigits ds → is_digit d ≡ true → IsDigits (ds ++ d ∷ [])
more_digits d [] digits is = absurd digits
more_digits d (c ∷ ds) digits is = (digits.0, each_digit d ds digits.1 is)

value_more : (n d : ℕ) (ds : List ℕ) → value_after n (ds ++ d ∷ []) ≡ value_after n ds * 10 + (d - 48)
value_more n d [] = refl
value_more n d (c ∷ ds) = value_more (n * 10 + (c - 48)) d ds

one_more_digit : (n : ℕ) (ds : List ℕ) → 10 ≤ n → IsNumberText (n / 10) ds → IsNumberText n (ds ++ (48 + n % 10) ∷ [])
one_more_digit n ds big is =
    let d = one_digit (n % 10) (mod-lt n (omega arith)) in
    let whole : n / 10 * 10 + n % 10 ≡ n = div-add-mod' n 10 in
    let digit : 48 + n % 10 - 48 ≡ n % 10 = omega arith in
    record {
      digits = more_digits (48 + n % 10) ds is.digits d.digits.0;
      value = value_more 0 (48 + n % 10) ds ∙ ap₂ (λ a b. a * 10 + b) is.value digit ∙ whole;
      scalar = scalars_joined ds ((48 + n % 10) ∷ []) is.scalar d.scalar;
    }

pub number_text : (n : ℕ) → n ≤ max_number → IsNumberText n (decimal n)
number_text n small = decimal_by_steps_wide IsNumberText one_digit one_more_digit n (lt_of_le_of_lt small (lit< tt))

pub number_bytes : (n : ℕ) → n ≤ max_number → decimal n ≡ encode_utf8_all (decimal n)
number_bytes n small = sym (encodes-IsAscii (decimal n) (IsAscii-decimal_wide n (lt_of_le_of_lt small (lit< tt))))
