-- Letters of ASCII at the front of a text.
use Rattle.std.proofs.Common.{◌≡◌, ◌≢◌, ℕ, zero, suc, ◌+◌, ◌≤◌, ◌<◌, Bool, true, false, cond, if◌then◌else◌, ◌||◌, List, [], ◌∷◌, ◌++◌, length, drop, Some, None, refl, sym, ap, subst, ◌∙◌, arith, ◌==◌, nat_le, ◌⊎◌, inl, inr}
use Rattle.std.specs.Prelude.{slice_index}
use Rattle.std.specs.Str.{chars, IsUtf8}
use Rattle.std.proofs.Math.Seq.{drop-cons}
use Rattle.std.proofs.lemmas.Bool.Decides.{nat_tests, leb_tells}
use Rattle.std.proofs.lemmas.Str.{encode_ascii, chars_past_char, IsUtf8-past_char, chars-nil}
use lib.Utf8.{encode}
use Rattle.unicode_ident.proofs.IdentLemmas.{is_xid_start-ascii, is_xid_continue-ascii}
use Rattle.vlt_tokens.specs.Characters.{is_blank, is_digit, is_name_start, is_name_more}
use Rattle.vlt_lexer.specs.declared.ascii_pieces.ByteClass.{ByteClass}
use Rattle.vlt_lexer.specs.declared.ascii_pieces.ByteClass.TheVariants as class
use Rattle.vlt_lexer.specs.AsciiPieces.{is_ascii_start, is_ascii_more, class_of}
use Rattle.vlt_lexer.specs.Steps.{run, past_run, past_name}

-- ---- classes

pub opener_of : (c : ℕ) → class_of c ≡ class.Letter → is_ascii_start c ≡ true
opener_of c e = at (is_ascii_start c) (is_digit c) (is_blank c) (nat_le 128 c) e
  where
    at : (a b d w : Bool) → (if a then class.Letter else if b then class.Digit else if d then class.Blank else if w then class.NonAscii else class.Other) ≡ class.Letter → a ≡ true
    at true b d w h = refl
    at false true d w h = cc
    at false false true w h = cc
    at false false false true h = cc
    at false false false false h = cc

pub blank_of : (c : ℕ) → class_of c ≡ class.Blank → is_blank c ≡ true
blank_of c e = at (is_ascii_start c) (is_digit c) (is_blank c) (nat_le 128 c) e
  where
    at : (a b d w : Bool) → (if a then class.Letter else if b then class.Digit else if d then class.Blank else if w then class.NonAscii else class.Other) ≡ class.Blank → d ≡ true
    at true b d w h = cc
    at false true d w h = cc
    at false false true w h = refl
    at false false false true h = cc
    at false false false false h = cc

pub letter_of : (c : ℕ) → (class_of c ≡ class.Letter) ⊎ (class_of c ≡ class.Digit) → is_ascii_more c ≡ true
letter_of c e = at (is_ascii_start c) (is_digit c) (is_blank c) (nat_le 128 c) e
  where
    the : Bool → Bool → Bool → Bool → ByteClass
    the a b d w = if a then class.Letter else if b then class.Digit else if d then class.Blank else if w then class.NonAscii else class.Other

    at : (a b d w : Bool) → ((if a then class.Letter else if b then class.Digit else if d then class.Blank else if w then class.NonAscii else class.Other) ≡ class.Letter) ⊎ ((if a then class.Letter else if b then class.Digit else if d then class.Blank else if w then class.NonAscii else class.Other) ≡ class.Digit) → (a || b) ≡ true
    at true b d w h = refl
    at false true d w h = refl
    at false false true w (inl h) = cc
    at false false true w (inr h) = cc
    at false false false true (inl h) = cc
    at false false false true (inr h) = cc
    at false false false false (inl h) = cc
    at false false false false (inr h) = cc

pub no_letter_of : (c : ℕ) → class_of c ≢ class.Letter → class_of c ≢ class.Digit → is_ascii_more c ≡ false
no_letter_of c e f = at (is_ascii_start c) (is_digit c) (is_blank c) (nat_le 128 c) e f
  where
    at : (a b d w : Bool) → (if a then class.Letter else if b then class.Digit else if d then class.Blank else if w then class.NonAscii else class.Other) ≢ class.Letter → (if a then class.Letter else if b then class.Digit else if d then class.Blank else if w then class.NonAscii else class.Other) ≢ class.Digit → (a || b) ≡ false
    at true b d w h k = absurd (h refl)
    at false true d w h k = absurd (k refl)
    at false false d w h k = refl

pub other_of : (c : ℕ) → class_of c ≡ class.Other → c < 128
other_of c e = elim (leb_tells 128 c) [ inl big ↦ absurd (at (is_ascii_start c) (is_digit c) (is_blank c) (nat_le 128 c) e big.0) | inr small ↦ omega (arith, small.1) ]
  where
    at : (a b d w : Bool) → (if a then class.Letter else if b then class.Digit else if d then class.Blank else if w then class.NonAscii else class.Other) ≡ class.Other → w ≡ true → ⊥
    at true b d w h k = cc
    at false true d w h k = cc
    at false false true w h k = cc
    at false false false true h k = cc
    at false false false false h k = cc

pub blank_small : (c : ℕ) → is_blank c ≡ true → c < 128
blank_small c e = grind (arith, nat_tests)

pub letter_small : (c : ℕ) → is_ascii_more c ≡ true → c < 128
letter_small c e = grind (arith, nat_tests)

pub opener_letter : (c : ℕ) → is_ascii_start c ≡ true → is_ascii_more c ≡ true
opener_letter c e = ap (λ b. b || is_digit c) e

-- ---- runs, by index

pub drop_next : (bytes : List ℕ) (i : ℕ) → i < length bytes → drop i bytes ≡ slice_index bytes i ∷ drop (i + 1) bytes
drop_next bytes i l = let n : suc i ≡ i + 1 = omega arith in drop-cons bytes i 0 l ∙ ap (λ m. slice_index bytes i ∷ drop m bytes) n

pub letter_here : (bytes : List ℕ) (i : ℕ) → i < length bytes → is_ascii_more (slice_index bytes i) ≡ true
    → (run is_ascii_more (drop i bytes) ≡ slice_index bytes i ∷ run is_ascii_more (drop (i + 1) bytes)) × (past_run is_ascii_more (drop i bytes) ≡ past_run is_ascii_more (drop (i + 1) bytes))
letter_here bytes i l is =
    let e : drop i bytes ≡ slice_index bytes i ∷ drop (i + 1) bytes = drop_next bytes i l in (
      ap (run is_ascii_more) e ∙ ap (λ b. cond b (slice_index bytes i ∷ run is_ascii_more (drop (i + 1) bytes)) []) is,
      ap (past_run is_ascii_more) e ∙ ap (λ b. cond b (past_run is_ascii_more (drop (i + 1) bytes)) (slice_index bytes i ∷ drop (i + 1) bytes)) is,
    )

pub no_letter_here : (bytes : List ℕ) (i : ℕ) → i < length bytes → is_ascii_more (slice_index bytes i) ≡ false
    → (run is_ascii_more (drop i bytes) ≡ []) × (past_run is_ascii_more (drop i bytes) ≡ drop i bytes)
no_letter_here bytes i l is =
    let e : drop i bytes ≡ slice_index bytes i ∷ drop (i + 1) bytes = drop_next bytes i l in (
      ap (run is_ascii_more) e ∙ ap (λ b. cond b (slice_index bytes i ∷ run is_ascii_more (drop (i + 1) bytes)) []) is,
      ap (past_run is_ascii_more) e ∙ ap (λ b. cond b (past_run is_ascii_more (drop (i + 1) bytes)) (slice_index bytes i ∷ drop (i + 1) bytes)) is ∙ sym e,
    )

pub run_again : (is : ℕ → Bool) (cs : List ℕ) → run is (run is cs) ≡ run is cs
run_again is [] = refl
run_again is (c ∷ cs) = at (is c) refl (run_again is cs)
  where
    at : (b : Bool) → is c ≡ b → run is (run is cs) ≡ run is cs → run is (cond b (c ∷ run is cs) []) ≡ cond b (c ∷ run is cs) []
    at true h more = ap (λ b. cond b (c ∷ run is (run is cs)) []) h ∙ ap (λ t. c ∷ t) more
    at false h more = refl

-- ---- bytes and characters

-- a text that begins with an ASCII byte begins with that character
pub ascii_first : (c : ℕ) (bs : List ℕ) → c < 128 → IsUtf8 (c ∷ bs) → (chars (c ∷ bs) ≡ c ∷ chars bs) × IsUtf8 bs
ascii_first c bs small u =
    let e : c ∷ bs ≡ encode c ++ bs = ap (λ x. x ++ bs) (sym (encode_ascii c small)) in
    (chars_past_char (c ∷ bs) bs c u e, IsUtf8-past_char (c ∷ bs) bs c u e)

-- letters are characters, and so on
pub letters_first : (bs : List ℕ) → IsUtf8 bs → (chars bs ≡ run is_ascii_more bs ++ chars (past_run is_ascii_more bs)) × IsUtf8 (past_run is_ascii_more bs)
letters_first [] u = (refl, u)
letters_first (c ∷ bs) u = at (is_ascii_more c) refl (λ v. letters_first bs v)
  where
    at : (b : Bool) → is_ascii_more c ≡ b → (IsUtf8 bs → (chars bs ≡ run is_ascii_more bs ++ chars (past_run is_ascii_more bs)) × IsUtf8 (past_run is_ascii_more bs)) → (chars (c ∷ bs) ≡ cond b (c ∷ run is_ascii_more bs) [] ++ chars (cond b (past_run is_ascii_more bs) (c ∷ bs))) × IsUtf8 (cond b (past_run is_ascii_more bs) (c ∷ bs))
    at true h go =
        let one = ascii_first c bs (letter_small c h) u in
        let more = go one.1 in
        (one.0 ∙ ap (λ t. c ∷ t) more.0, more.1)
    at false h go = (refl, u)

-- of ASCII characters these are the name's
pub opener_is : (c : ℕ) → c < 128 → is_name_start c ≡ is_ascii_start c
opener_is c small = ap (λ a. (c == 95) || a) (is_xid_start-ascii c small) ∙ grind (arith, nat_tests)

pub letter_is : (c : ℕ) → c < 128 → is_name_more c ≡ is_ascii_more c
letter_is c small = is_xid_continue-ascii c small ∙ grind (arith, nat_tests)

-- what follows the letters is no wide character
abbrev pub EndsNarrow : List ℕ → Type 0
EndsNarrow [] = Unit {0}
EndsNarrow (c ∷ cs) = c < 128

stops : (bs : List ℕ) → IsUtf8 bs → EndsNarrow bs → past_run is_ascii_more bs ≡ bs → past_run is_name_more (chars bs) ≡ chars bs
stops [] u narrow same = ap (past_run is_name_more) chars-nil ∙ sym chars-nil
stops (c ∷ bs) u narrow same = at (is_ascii_more c) refl same
  where
    one : (chars (c ∷ bs) ≡ c ∷ chars bs) × IsUtf8 bs
    one = ascii_first c bs narrow u

    shorter : (xs : List ℕ) → length (past_run is_ascii_more xs) ≤ length xs
    shorter [] = omega arith
    shorter (x ∷ xs) = by (is_ascii_more x) (shorter xs)
      where
        by : (b : Bool) → length (past_run is_ascii_more xs) ≤ length xs → length (cond b (past_run is_ascii_more xs) (x ∷ xs)) ≤ suc (length xs)
        by true h = omega arith
        by false h = omega arith

    at : (b : Bool) → is_ascii_more c ≡ b → cond b (past_run is_ascii_more bs) (c ∷ bs) ≡ c ∷ bs → past_run is_name_more (chars (c ∷ bs)) ≡ chars (c ∷ bs)
    at true h e = absurd (omega (arith, ap length e, shorter bs))
    at false h e = ap (past_run is_name_more) one.0 ∙ ap (λ b. cond b (past_run is_name_more (chars bs)) (c ∷ chars bs)) (letter_is c narrow ∙ h) ∙ sym one.0

past_again : (bs : List ℕ) → past_run is_ascii_more (past_run is_ascii_more bs) ≡ past_run is_ascii_more bs
past_again [] = refl
past_again (c ∷ bs) = at (is_ascii_more c) refl (past_again bs)
  where
    at : (b : Bool) → is_ascii_more c ≡ b → past_run is_ascii_more (past_run is_ascii_more bs) ≡ past_run is_ascii_more bs → past_run is_ascii_more (cond b (past_run is_ascii_more bs) (c ∷ bs)) ≡ cond b (past_run is_ascii_more bs) (c ∷ bs)
    at true h more = more
    at false h more = ap (λ b. cond b (past_run is_ascii_more bs) (c ∷ bs)) h

-- the run of name characters is that of the letters
pub past_letters : (bs : List ℕ) → IsUtf8 bs → EndsNarrow (past_run is_ascii_more bs) → past_run is_name_more (chars bs) ≡ chars (past_run is_ascii_more bs)
past_letters [] u narrow = ap (past_run is_name_more) chars-nil ∙ sym chars-nil
past_letters (c ∷ bs) u narrow = at (is_ascii_more c) refl (λ v n. past_letters bs v n)
  where
    at : (b : Bool) → is_ascii_more c ≡ b → (IsUtf8 bs → EndsNarrow (past_run is_ascii_more bs) → past_run is_name_more (chars bs) ≡ chars (past_run is_ascii_more bs)) → past_run is_name_more (chars (c ∷ bs)) ≡ chars (past_run is_ascii_more (c ∷ bs))
    at true h go =
        let small = letter_small c h in
        let one = ascii_first c bs small u in
        let rest : past_run is_ascii_more (c ∷ bs) ≡ past_run is_ascii_more bs = ap (λ b. cond b (past_run is_ascii_more bs) (c ∷ bs)) h in
        ap (past_run is_name_more) one.0 ∙ ap (λ b. cond b (past_run is_name_more (chars bs)) (c ∷ chars bs)) (letter_is c small ∙ h)
        ∙ go one.1 (subst EndsNarrow rest narrow) ∙ ap chars (sym rest)
    at false h go =
        let rest : past_run is_ascii_more (c ∷ bs) ≡ c ∷ bs = ap (λ b. cond b (past_run is_ascii_more bs) (c ∷ bs)) h in
        stops (c ∷ bs) u (subst EndsNarrow rest narrow) rest ∙ ap chars (sym rest)

-- so a text that begins with a letter begins with that name
pub name_first : (c : ℕ) (bs : List ℕ) → IsUtf8 (c ∷ bs) → is_ascii_start c ≡ true → EndsNarrow (past_run is_ascii_more (c ∷ bs)) → past_name (chars (c ∷ bs)) ≡ Some (chars (past_run is_ascii_more (c ∷ bs)))
name_first c bs u is narrow =
    let letter = opener_letter c is in
    let small = letter_small c letter in
    let one = ascii_first c bs small u in
    let rest : past_run is_ascii_more (c ∷ bs) ≡ past_run is_ascii_more bs = ap (λ b. cond b (past_run is_ascii_more bs) (c ∷ bs)) letter in
    ap past_name one.0 ∙ ap (λ b. cond b (Some (past_run is_name_more (chars bs))) None) (opener_is c small ∙ is)
    ∙ ap (λ t. Some t) (past_letters bs one.1 (subst EndsNarrow rest narrow) ∙ ap chars (sym rest))

pub narrow_at : (bs : List ℕ) (n : ℕ) → (n < length bs → slice_index bs n < 128) → EndsNarrow (drop n bs)
narrow_at bs n h = elim (leb_tells (length bs) n) [
  | inl out ↦ past bs n out.1
  | inr within ↦ subst EndsNarrow (sym (drop-cons bs n 0 (omega (arith, within.1)))) (h (omega (arith, within.1)))
]
  where
    past : (l : List ℕ) (m : ℕ) → length l ≤ m → EndsNarrow (drop m l)
    past [] zero e = tt
    past [] (suc m) e = tt
    past (x ∷ l) zero e = absurd (omega arith)
    past (x ∷ l) (suc m) e = past l m (omega arith)
