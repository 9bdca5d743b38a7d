-- Each kind of piece is the longest one where a text may follow it.
use Rattle.std.proofs.Common.{◌≡◌, ℕ, ◌≤◌, Bool, true, false, List, [], ◌∷◌, ◌++◌, length, refl, sym, ap, subst, ◌∙◌, arith}
use Rattle.std.proofs.lemmas.Bool.{not-true}
use Rattle.vlt_tokens.specs.declared.token.Mark.{Mark}
use Rattle.vlt_tokens.specs.declared.token.TheConstants.Mark as signs
use Rattle.vlt_tokens.specs.Spelling.{sign_text}
use Rattle.vlt_tokens.specs.Characters.{is_digit, is_name_more, EachIs, IsName, IsDigits}
use Rattle.vlt_tokens.specs.Lexemes.{IsLongest}
use Rattle.vlt_lexer.specs.Steps.{run}
use Rattle.vlt_lexer.proofs.Runs.{true_false, head_is, tail_is}
use Rattle.vlt_lexer.proofs.Tables.{sign_found, spelled_passes}
use Rattle.vlt_lexer.proofs.Heads.{name_head, digit_head, sign_head, is_sign_head, sign_opens, sign_some}
use Rattle.vlt_lexer.proofs.Pieces.{IsMark, a_sign, a_line, a_block, IsAt, at_name, at_tick, at_digits, at_mark, piece_at, longest_name, longest_digits, longest_tick}
use Rattle.vlt_printer_laws.proofs.Following.{is_second, wordy, signed, Fits, digit_more}

-- the text begins with no character of the class
abbrev Stops : (ℕ → Bool) → List ℕ → Type 0
Stops is [] = Unit {0}
Stops is (c ∷ cs) = is c ≡ false

-- the run is all that stands before such a text
run_whole : (is : ℕ → Bool) (front rest : List ℕ) → EachIs is front → Stops is rest → run is (front ++ rest) ≡ front
run_whole is [] [] each stops = refl
run_whole is [] (c ∷ cs) each stops = rw stops refl
run_whole is (d ∷ front) rest each stops = rw (each.0) (ap (λ x. d ∷ x) (run_whole is front rest each.1 stops))

names_stop : (rest : List ℕ) → Fits wordy rest → Stops is_name_more rest
names_stop [] fits = tt
names_stop (c ∷ cs) fits = not-true (is_name_more c) fits

digits_stop : (rest : List ℕ) → Fits wordy rest → Stops is_digit rest
digits_stop [] fits = tt
digits_stop (c ∷ cs) fits = at (is_digit c) refl
  where
    at : (b : Bool) → is_digit c ≡ b → is_digit c ≡ false
    at true is = absurd (true_false (sym (digit_more c is) ∙ not-true (is_name_more c) fits))
    at false is = is

pub name_longest : (cs rest : List ℕ) → IsName cs → Fits wordy rest → IsLongest cs (cs ++ rest)
name_longest [] rest is fits = absurd is
name_longest (c ∷ cs) rest is fits =
    subst (λ x. IsLongest (c ∷ x) (c ∷ (cs ++ rest))) (run_whole is_name_more cs rest is.1 (names_stop rest fits)) (longest_name c (cs ++ rest) is.0)

pub tick_longest : (cs rest : List ℕ) → IsName cs → Fits wordy rest → IsLongest (39 ∷ cs) (39 ∷ (cs ++ rest))
tick_longest [] rest is fits = absurd is
tick_longest (c ∷ cs) rest is fits =
    subst (λ x. IsLongest (39 ∷ c ∷ x) (39 ∷ c ∷ (cs ++ rest))) (run_whole is_name_more cs rest is.1 (names_stop rest fits)) (longest_tick 39 c (cs ++ rest) refl is.0)

pub digits_longest : (cs rest : List ℕ) → IsDigits cs → Fits wordy rest → IsLongest cs (cs ++ rest)
digits_longest [] rest is fits = absurd is
digits_longest (c ∷ cs) rest is fits =
    subst (λ x. IsLongest (c ∷ x) (c ∷ (cs ++ rest))) (run_whole is_digit cs rest is.1 (digits_stop rest fits)) (longest_digits c (cs ++ rest) is.0)

-- two characters at most, the second one of those that stand second in a sign
two_at_most : List ℕ → Bool
two_at_most [] = true
two_at_most (a ∷ []) = true
two_at_most (a ∷ b ∷ []) = is_second b
two_at_most (a ∷ b ∷ c ∷ cs) = false

mark_short : (other : List ℕ) → IsMark other → two_at_most other ≡ true
unfolding two_at_most
mark_short other (a_sign _ m same) = ap two_at_most same ∙ spelled_passes sign_text (λ x. two_at_most (sign_text x)) signs.ALL (sign_text m) m refl (sign_found m)
mark_short other (a_line _ same) = ap two_at_most same
mark_short other (a_block _ same) = ap two_at_most same

-- nothing of that kind is longer than a sign, where the text after the sign doesn't begin with such a second character
no_longer : (s : ℕ) (ss rest other after : List ℕ) → Fits signed rest → (s ∷ ss) ++ rest ≡ other ++ after → two_at_most other ≡ true → length other ≤ length (s ∷ ss)
unfolding two_at_most
no_longer s ss rest [] after fits e short = omega arith
no_longer s ss rest (a ∷ []) after fits e short = omega arith
no_longer s (x ∷ ss) rest (a ∷ b ∷ []) after fits e short = omega arith
no_longer s [] rest (a ∷ b ∷ []) after fits e short = absurd (second rest fits (tail_is e))
  where
    second : (rest : List ℕ) → Fits signed rest → rest ≡ b ∷ after → ⊥
    second [] fits same = cc
    second (c ∷ cs) fits same = true_false (sym short ∙ ap is_second (sym (head_is same)) ∙ not-true (is_second c) fits)
no_longer s ss rest (a ∷ b ∷ c ∷ cs) after fits e short = absurd (true_false (sym short))

pub sign_longest : (m : Mark) (rest : List ℕ) → Fits signed rest → IsLongest (sign_text m) (sign_text m ++ rest)
sign_longest m rest fits = go (sign_text m) refl
  where
    at : (s : ℕ) (ss other after : List ℕ) → is_sign_head s ≡ true → (s ∷ ss) ++ rest ≡ other ++ after → IsAt s other → length other ≤ length (s ∷ ss)
    at s ss other after head e (at_name _ ds same starts each) = absurd (true_false (sym head ∙ (name_head s starts).no_sign))
    at s ss other after head e (at_tick _ ds same ticks named) = absurd ((sign_head s head).1 ticks)
    at s ss other after head e (at_digits _ ds same starts each) = absurd (true_false (sym head ∙ (digit_head s starts).1))
    at s ss other after head e (at_mark _ starts which) = no_longer s ss rest other after fits e (mark_short other which)

    go : (t : List ℕ) → sign_text m ≡ t → IsLongest t (t ++ rest)
    go [] same = absurd (sign_some m (sym same))
    go (s ∷ ss) same = λ other after e p. at s ss other after (sign_opens m s ss same) e (piece_at s (ss ++ rest) other after e p)
