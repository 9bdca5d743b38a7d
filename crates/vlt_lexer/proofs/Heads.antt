-- What a piece's first character tells of it.
use Rattle.std.proofs.Common.{◌≡◌, ◌≢◌, ℕ, ◌≤◌, ◌<◌, Bool, true, false, List, [], ◌∷◌, ◌⊎◌, inl, inr, ◌&&◌, ◌||◌, nat_le, refl, sym, ap, ◌∙◌, arith}
use Rattle.std.specs.List.{list_all}
use Rattle.std.specs.Char.{is_ascii_alphabetic}
use Rattle.std.specs.Prelude.{◌==◌}
use Rattle.std.proofs.lemmas.Bool.Decides.{nat_tests, leb_tells}
use Rattle.unicode_ident.specs.Ident.{is_xid_start}
use Rattle.unicode_ident.proofs.IdentLemmas.{is_xid_start-ascii, is_xid_continue-ascii}
use Rattle.vlt_tokens.specs.declared.token.Word.{Word}
use Rattle.vlt_tokens.specs.declared.token.Mark.{Mark}
use Rattle.vlt_tokens.specs.declared.token.TheConstants.Word as words
use Rattle.vlt_tokens.specs.declared.token.TheConstants.Mark as signs
use Rattle.vlt_tokens.specs.Spelling.{word_text, sign_text}
use Rattle.vlt_tokens.specs.Characters.{is_blank, is_digit, is_name_start, is_name_more, EachIs, IsName}
use Rattle.vlt_lexer.proofs.Runs.{true_false}
use Rattle.vlt_lexer.proofs.Tables.{word_found, sign_found, spelled_passes}

abbrev pub is_between : ℕ → ℕ → ℕ → Bool
is_between low high c = nat_le low c && nat_le c high

-- what a sign may begin with
abbrev pub is_sign_head : ℕ → Bool
is_sign_head c = is_between 33 38 c || is_between 40 47 c || is_between 58 64 c || is_between 91 94 c || is_between 123 125 c

-- what a name may begin with is nothing else
pub record IsNameHead (c : ℕ) : Type 0 where
  pub no_blank : is_blank c ≡ false
  pub no_digit : is_digit c ≡ false
  pub no_sign : is_sign_head c ≡ false
  pub no_tick : c ≢ 39

-- a letter, `_`, or beyond ASCII
abbrev IsLettery : ℕ → Type 0
IsLettery c = (c ≡ 95) ⊎ (((65 ≤ c) × (c ≤ 90)) ⊎ (((97 ≤ c) × (c ≤ 122)) ⊎ (128 ≤ c)))

lettery : (c : ℕ) (b : Bool) → (c < 128 → b ≡ is_ascii_alphabetic c) → ((c == 95) || b) ≡ true → IsLettery c
lettery c b ascii h = elim (leb_tells 128 c) [ inl big ↦ inr (inr (inr big.1)) | inr small ↦ near (ascii (omega (arith, small.1))) ]
  where
    near : b ≡ is_ascii_alphabetic c → IsLettery c
    near e = let test : ((c == 95) || is_ascii_alphabetic c) ≡ true = ap (λ x. (c == 95) || x) (sym e) ∙ h in grind (arith, nat_tests)

from_lettery : (c : ℕ) → IsLettery c → IsNameHead c
from_lettery c (inl h) = record { no_blank = grind (arith, nat_tests); no_digit = grind (arith, nat_tests); no_sign = grind (arith, nat_tests); no_tick = λ e. omega arith }
from_lettery c (inr (inl h)) = record { no_blank = grind (arith, nat_tests); no_digit = grind (arith, nat_tests); no_sign = grind (arith, nat_tests); no_tick = λ e. omega arith }
from_lettery c (inr (inr (inl h))) = record { no_blank = grind (arith, nat_tests); no_digit = grind (arith, nat_tests); no_sign = grind (arith, nat_tests); no_tick = λ e. omega arith }
from_lettery c (inr (inr (inr h))) = record { no_blank = grind (arith, nat_tests); no_digit = grind (arith, nat_tests); no_sign = grind (arith, nat_tests); no_tick = λ e. omega arith }

pub name_head : (c : ℕ) → is_name_start c ≡ true → IsNameHead c
name_head c e = from_lettery c (lettery c (is_xid_start c) (λ small. is_xid_start-ascii c small) e)

pub digit_head : (c : ℕ) → is_digit c ≡ true → (is_blank c ≡ false) × (is_sign_head c ≡ false) × (c ≢ 39)
digit_head c e = (grind (arith, nat_tests), grind (arith, nat_tests), λ h. grind (arith, nat_tests))

pub sign_head : (c : ℕ) → is_sign_head c ≡ true → (is_blank c ≡ false) × (c ≢ 39)
sign_head c e = (grind (arith, nat_tests), λ h. grind (arith, nat_tests))

begins_so : List ℕ → Bool
begins_so [] = false
begins_so (c ∷ cs) = is_sign_head c

-- a sign begins with a character that is a sign's
pub sign_opens : (m : Mark) (c : ℕ) (cs : List ℕ) → sign_text m ≡ c ∷ cs → is_sign_head c ≡ true
unfolding begins_so
sign_opens m c cs e = sym (ap begins_so e) ∙ spelled_passes sign_text (λ x. begins_so (sign_text x)) signs.ALL (sign_text m) m refl (sign_found m)

-- and has one
pub sign_some : (m : Mark) → [] ≡ sign_text m → ⊥
unfolding begins_so
sign_some m e = true_false (sym (spelled_passes sign_text (λ x. begins_so (sign_text x)) signs.ALL (sign_text m) m refl (sign_found m)) ∙ sym (ap begins_so e))

small_starts : (c : ℕ) → is_between 97 122 c ≡ true → is_name_start c ≡ true
small_starts c e =
    let ascii : is_xid_start c ≡ is_ascii_alphabetic c = is_xid_start-ascii c (grind (arith, nat_tests)) in
    ap (λ x. (c == 95) || x) ascii ∙ grind (arith, nat_tests)

small_goes_on : (c : ℕ) → is_between 97 122 c ≡ true → is_name_more c ≡ true
small_goes_on c e = is_xid_continue-ascii c (grind (arith, nat_tests)) ∙ grind (arith, nat_tests)

each_small : (cs : List ℕ) → list_all (is_between 97 122) cs ≡ true → EachIs is_name_more cs
each_small [] e = tt
each_small (c ∷ cs) e = (small_goes_on c (grind arith), each_small cs (grind arith))

is_small_text : List ℕ → Bool
is_small_text [] = false
is_small_text (c ∷ cs) = list_all (is_between 97 122) (c ∷ cs)

small_name : (cs : List ℕ) → is_small_text cs ≡ true → IsName cs
unfolding is_small_text
small_name [] e = absurd (true_false (sym e))
small_name (c ∷ cs) e = (small_starts c (grind arith), each_small cs (grind arith))

-- a keyword is spelled like a name
pub word_name : (w : Word) → IsName (word_text w)
unfolding is_small_text
word_name w = small_name (word_text w) (spelled_passes word_text (λ x. is_small_text (word_text x)) words.ALL (word_text w) w refl (word_found w))
