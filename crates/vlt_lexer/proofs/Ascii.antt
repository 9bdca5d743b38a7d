-- What begins and continues a name, among the ASCII characters.
use Rattle.std.proofs.Common.{◌≡◌, ℕ, ◌<◌, ◌||◌, ◌==◌, Bool, true, false, refl, sym, ap, ◌∙◌}
use Rattle.std.proofs.lemmas.Bool.{ltb-true}
use Rattle.std.specs.Char.{is_ascii, is_ascii_alphabetic, is_ascii_alphanumeric}
use Rattle.unicode_ident.proofs.IdentLemmas.{is_xid_start-ascii, is_xid_continue-ascii}
use Rattle.vlt_tokens.specs.Characters.{is_name_start, is_name_more}

below : (c : ℕ) → true ≡ is_ascii c → c < 128
below c ascii = ltb-true c 128 (sym ascii)

then_is : (a b whole : Bool) → a ≡ true → whole ≡ (a || b) → a ≡ whole
then_is true b whole is e = sym e
then_is false b whole is e = cc

else_is : (a b whole : Bool) → a ≡ false → whole ≡ (a || b) → b ≡ whole
else_is true b whole is e = cc
else_is false b whole is e = sym e

swapped : (a b : Bool) → (a || b) ≡ (b || a)
swapped true true = refl
swapped true false = refl
swapped false true = refl
swapped false false = refl

starts : (c : ℕ) → true ≡ is_ascii c → is_name_start c ≡ (is_ascii_alphabetic c || (c == 95))
starts c ascii = ap (λ a. (c == 95) || a) (is_xid_start-ascii c (below c ascii)) ∙ swapped (c == 95) (is_ascii_alphabetic c)

continues : (c : ℕ) → true ≡ is_ascii c → is_name_more c ≡ (is_ascii_alphanumeric c || (c == 95))
continues c ascii = is_xid_continue-ascii c (below c ascii)

-- how a test of these two, one after the other, comes out
pub start_then : (c : ℕ) → true ≡ is_ascii c → true ≡ is_ascii_alphabetic c → true ≡ is_name_start c
start_then c ascii is = then_is true (c == 95) (is_name_start c) refl (starts c ascii ∙ ap (λ a. a || (c == 95)) (sym is))

pub start_else : (c : ℕ) → true ≡ is_ascii c → false ≡ is_ascii_alphabetic c → (c == 95) ≡ is_name_start c
start_else c ascii is = else_is false (c == 95) (is_name_start c) refl (starts c ascii ∙ ap (λ a. a || (c == 95)) (sym is))

pub more_then : (c : ℕ) → true ≡ is_ascii c → true ≡ is_ascii_alphanumeric c → true ≡ is_name_more c
more_then c ascii is = then_is true (c == 95) (is_name_more c) refl (continues c ascii ∙ ap (λ a. a || (c == 95)) (sym is))

pub more_else : (c : ℕ) → true ≡ is_ascii c → false ≡ is_ascii_alphanumeric c → (c == 95) ≡ is_name_more c
more_else c ascii is = else_is false (c == 95) (is_name_more c) refl (continues c ascii ∙ ap (λ a. a || (c == 95)) (sym is))
