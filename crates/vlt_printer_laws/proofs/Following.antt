-- What may stand after a text so that its last piece is still the longest one there.
use Rattle.std.proofs.Common.{◌≡◌, ℕ, Bool, true, false, not, ◌&&◌, ◌||◌, List, [], ◌∷◌, ◌++◌, refl, sym, ap, ◌∙◌, arith}
use Rattle.std.specs.Prelude.{◌==◌}
use Rattle.std.proofs.lemmas.Bool.{and_parts}
use Rattle.std.proofs.lemmas.Bool.Decides.{nat_tests}
use Rattle.unicode_ident.proofs.IdentLemmas.{is_xid_continue-ascii}
use Rattle.vlt_tokens.specs.declared.token.Mark.{Mark}
use Rattle.vlt_tokens.specs.declared.token.Mark.TheVariants as mark
use Rattle.vlt_tokens.specs.Spelling.{sign_text}
use Rattle.vlt_tokens.specs.Characters.{is_blank, is_digit, is_name_start, is_name_more, IsName, IsDigits}
use Rattle.vlt_lexer.proofs.Runs.{true_false}
use Rattle.vlt_lexer.proofs.Heads.{name_head, is_sign_head, sign_opens, sign_some}

-- the second character of a sign of two, or of what opens a comment
abbrev pub is_second : ℕ → Bool
is_second c = (c == 38) || (c == 42) || (c == 47) || (c == 61) || (c == 62) || (c == 124)

-- What a text ends in: `clear`, where anything may follow, as after a blank; something like a name; a sign; or one of these two.
pub data Last : Type 0 where
  clear : Last
  wordy : Last
  signed : Last
  either : Last

-- the character may follow such a text
abbrev pub goes : Last → ℕ → Bool
goes clear c = true
goes wordy c = not (is_name_more c)
goes signed c = not (is_second c)
goes either c = not (is_name_more c) && not (is_second c)

-- the text may follow
abbrev pub Fits : Last → List ℕ → Type 0
Fits last [] = Unit {0}
Fits last (c ∷ cs) = goes last c ≡ true

-- a name may follow
abbrev pub is_open : Last → Bool
is_open clear = true
is_open signed = true
is_open wordy = false
is_open either = false

-- whatever follows the second follows the first
abbrev pub within : Last → Last → Bool
within clear next = true
within last either = true
within wordy wordy = true
within signed signed = true
within _ _ = false

fits_each : (last next : Last) → ((c : ℕ) → goes next c ≡ true → goes last c ≡ true) → (cs : List ℕ) → Fits next cs → Fits last cs
fits_each last next weaker [] fits = tt
fits_each last next weaker (c ∷ cs) fits = weaker c fits

pub fits_within : (last next : Last) → within last next ≡ true → (cs : List ℕ) → Fits next cs → Fits last cs
fits_within clear next is cs fits = fits_each clear next (λ c h. refl) cs fits
fits_within wordy either is cs fits = fits_each wordy either (λ c h. (and_parts _ _ h).0) cs fits
fits_within signed either is cs fits = fits_each signed either (λ c h. (and_parts _ _ h).1) cs fits
fits_within either either is cs fits = fits
fits_within wordy wordy is cs fits = fits
fits_within signed signed is cs fits = fits
fits_within _ _ is cs fits = absurd (true_false (sym is))

-- a character that is no sign's second and goes on no name may follow anything
from_two : (last : Last) (c : ℕ) → is_name_more c ≡ false → is_second c ≡ false → goes last c ≡ true
from_two clear c more second = refl
from_two wordy c more second = rw more refl
from_two signed c more second = rw second refl
from_two either c more second = rw (more, second) refl

-- a character that is no sign's second may follow whatever a name may follow
from_open : (last : Last) (c : ℕ) → is_open last ≡ true → is_second c ≡ false → goes last c ≡ true
from_open clear c open_is second = refl
from_open signed c open_is second = rw second refl
from_open wordy c open_is second = absurd (true_false (sym open_is))
from_open either c open_is second = absurd (true_false (sym open_is))

blank_no_name : (c : ℕ) → is_blank c ≡ true → is_name_more c ≡ false
blank_no_name c is = is_xid_continue-ascii c (grind (arith, nat_tests)) ∙ grind (arith, nat_tests)

pub blank_goes : (last : Last) (c : ℕ) → is_blank c ≡ true → goes last c ≡ true
blank_goes last c is = from_two last c (blank_no_name c is) (grind (arith, nat_tests))

name_goes : (last : Last) (c : ℕ) → is_open last ≡ true → is_name_start c ≡ true → goes last c ≡ true
name_goes last c open_is starts = let no_sign = (name_head c starts).no_sign in from_open last c open_is (grind (arith, nat_tests))

pub name_fits : (last : Last) (cs after : List ℕ) → is_open last ≡ true → IsName cs → Fits last (cs ++ after)
name_fits last [] after open_is is = absurd is
name_fits last (c ∷ cs) after open_is is = name_goes last c open_is is.0

digit_no_second : (c : ℕ) → is_digit c ≡ true → is_second c ≡ false
digit_no_second c is = grind (arith, nat_tests)

pub digits_fit : (cs after : List ℕ) → IsDigits cs → Fits signed (cs ++ after)
digits_fit [] after is = absurd is
digits_fit (c ∷ cs) after is = from_open signed c refl (digit_no_second c is.0)

-- a digit goes on a name
pub digit_more : (c : ℕ) → is_digit c ≡ true → is_name_more c ≡ true
digit_more c is = is_xid_continue-ascii c (grind (arith, nat_tests)) ∙ grind (arith, nat_tests)

sign_no_name : (c : ℕ) → is_sign_head c ≡ true → is_name_more c ≡ false
sign_no_name c is = is_xid_continue-ascii c (grind (arith, nat_tests)) ∙ grind (arith, nat_tests)

-- a text begins with such a second character
abbrev pub begins_second : List ℕ → Bool
begins_second [] = false
begins_second (c ∷ cs) = is_second c

-- the sign may follow
abbrev pub sign_may : Last → Mark → Bool
sign_may clear m = true
sign_may wordy m = true
sign_may _ m = not (begins_second (sign_text m))

head_goes : (last : Last) (m : Mark) (c : ℕ) (cs : List ℕ) → sign_text m ≡ c ∷ cs → sign_may last m ≡ true → goes last c ≡ true
head_goes clear m c cs same may = refl
head_goes wordy m c cs same may = rw (sign_no_name c (sign_opens m c cs same)) refl
head_goes signed m c cs same may = sym (ap (λ t. not (begins_second t)) same) ∙ may
head_goes either m c cs same may = rw (sign_no_name c (sign_opens m c cs same)) (sym (ap (λ t. not (begins_second t)) same) ∙ may)

pub sign_fits : (last : Last) (m : Mark) (after : List ℕ) → sign_may last m ≡ true → Fits last (sign_text m ++ after)
sign_fits last m after may = go (sign_text m) refl
  where
    go : (t : List ℕ) → sign_text m ≡ t → Fits last (t ++ after)
    go [] same = absurd (sign_some m (sym same))
    go (c ∷ cs) same = head_goes last m c cs same may

-- a comma may follow anything
pub comma_may : (last : Last) → sign_may last mark.Comma ≡ true
comma_may clear = refl
comma_may wordy = refl
comma_may signed = refl
comma_may either = refl
