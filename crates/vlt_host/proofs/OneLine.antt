-- What a line is as a call.
use Rattle.std.proofs.Common.{◌≡◌, ℕ, Bool, true, false, List, ◌∷◌, Some, None, Result, Ok, Err, refl, ap, ◌∙◌}
use Rattle.std.specs.Prelude.{if◌then◌else◌}
use Rattle.std.specs.Result.{is_err, MatchResult}
use Rattle.std.specs.Str.{IsUtf8, is_utf8}
use Rattle.std.proofs.lemmas.Str.{IsUtf8-from_is_utf8, is_utf8-from_IsUtf8}
use Rattle.std.specs.Option.{option_map}
use Rattle.vlt_numbers.specs.Text.{words_of}
use Rattle.vlt_host_meaning.specs.Calls.{Argument}
use Rattle.vlt_host.specs.CallsFile.{is_name, arguments_in, call_in, call_of_line}

pub utf_ok : {A E : Type 0} (P : A → Type 0) (Q : E → Type 0) (bs : List ℕ) (r : Result A E) → is_err r ≡ false →
    MatchResult r (λ s. P s × IsUtf8 bs) Q → is_utf8 bs ≡ true
utf_ok P Q bs (Ok s) e h = is_utf8-from_IsUtf8 bs h.1
utf_ok P Q bs (Err x) e h = cc

pub utf_err : {A E : Type 0} (P : A → Type 0) (Q : E → Type 0) (bs : List ℕ) (r : Result A E) → is_err r ≡ true →
    MatchResult r P (λ e. (IsUtf8 bs → ⊥) × Q e) → is_utf8 bs ≡ false
utf_err P Q bs (Ok s) e h = cc
utf_err P Q bs (Err x) e h = not_so (is_utf8 bs) (λ t. h.0 (IsUtf8-from_is_utf8 bs t))
  where
    not_so : (b : Bool) → (b ≡ true → ⊥) → b ≡ false
    not_so true off = absurd (off refl)
    not_so false off = refl

pub line_is : (line word after : List ℕ) (args : List Argument) → is_utf8 line ≡ true → words_of line ≡ word ∷ words_of after →
    is_name word ≡ true → arguments_in (words_of after) ≡ Some args → call_of_line line ≡ Some (record { name = word; args = args })
line_is line word after args utf words named are =
    ap (λ b. if b then call_in (words_of line) else None) utf ∙ (ap call_in words ∙
    (ap (λ b. if b then option_map (λ args. record { name = word; args = args }) (arguments_in (words_of after)) else None) named ∙
    ap (option_map (λ args. record { name = word; args = args })) are))

pub line_none : (line : List ℕ) → is_utf8 line ≡ false → call_of_line line ≡ None
line_none line e = ap (λ b. if b then call_in (words_of line) else None) e
