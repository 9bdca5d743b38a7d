-- What one step of reading finds, by what its code has seen.
use Rattle.std.proofs.Common.{◌≡◌, ℕ, ℤ, pos, ◌≤◌, ◌<◌, Bool, true, false, List, [], ◌∷◌, ◌++◌, length, Some, None, Option, refl, sym, ap, subst, ◌∙◌, arith}
use Rattle.std.specs.Prelude.{codes, cond}
use Rattle.std.proofs.lemmas.Int.{to_z-of_z}
use mir.Val.{SFits, to_z, of_z}
use mir.Syntax.{w64}
use Rattle.vlt_tokens.specs.declared.token.Mark.{Mark}
use Rattle.vlt_tokens.specs.declared.token.TokenKind.{TokenKind}
use Rattle.vlt_tokens.specs.declared.token.TokenKind.TheVariants as kind
use Rattle.vlt_lexer.specs.declared.scan.Stuck.TheVariants as stuck
use Rattle.vlt_tokens.specs.declared.token.TheConstants.Mark as signs
use Rattle.vlt_tokens.specs.Spelling.{sign_text}
use Rattle.vlt_tokens.specs.Characters.{is_blank, is_digit, is_name_start, is_name_more, IsName, IsDigits, value_of, following, after_line, after_close}
use Rattle.vlt_tokens.specs.Lexemes.{IsLongest, IsOf, max_number}
use Rattle.vlt_lexer.specs.Reading.{IsGap, line, block, IsStuck}
use Rattle.vlt_lexer.specs.Steps.{run, past_run, past_name, Holds, sign_of, first_beginning, IsNoComment}
use Rattle.vlt_lexer.proofs.Runs.{after_splits, run_splits, run_is, some_is}
use Rattle.vlt_lexer.proofs.Tables.{begun_splits}
use Rattle.vlt_lexer.proofs.Pieces.{sign_at, longest_name, longest_digits, longest_tick, longest_sign, no_piece}
use Rattle.vlt_lexer.proofs.Heads.{sign_head}

-- a token stands at the front of the text, and after it this
abbrev pub Stands : TokenKind → List ℕ → List ℕ → Type 0
Stands k cs after = (front : List ℕ) × (cs ≡ front ++ after) × IsLongest front cs × IsOf k front

pub line_gap : (cs inside after : List ℕ) → following (codes "//") cs ≡ Some inside → after ≡ after_line inside → IsGap cs after
line_gap cs inside after e a = line cs inside after (after_splits (codes "//") cs inside e) a

pub block_gap : (cs inside after : List ℕ) → following (codes "/*") cs ≡ Some inside → after_close inside ≡ Some after → IsGap cs after
block_gap cs inside after e a = block cs inside after (after_splits (codes "/*") cs inside e) a

-- a text that begins with a digit begins with digits, and no piece there is longer
digits_stand : (text : List ℕ) (c : ℕ) (cs : List ℕ) → text ≡ c ∷ cs → is_digit c ≡ true → IsDigits (run is_digit text) × IsLongest (run is_digit text) text
digits_stand text c cs e is =
    let front_is : run is_digit text ≡ c ∷ run is_digit cs = ap (run is_digit) e ∙ rw is refl in (
      subst IsDigits (sym front_is) (is, run_is is_digit cs),
      subst (λ t. IsLongest (run is_digit text) t) (sym e) (subst (λ f. IsLongest f (c ∷ cs)) (sym front_is) (longest_digits c cs is)),
    )

pub number_stands : (text : List ℕ) (c : ℕ) (cs : List ℕ) (z : ℤ) → text ≡ c ∷ cs → is_digit c ≡ true → Holds (Some z) (value_of (run is_digit text)) → Stands (kind.Number z) text (past_run is_digit text)
number_stands text c cs z e is held =
    let stand = digits_stand text c cs e is in
    (run is_digit text, run_splits is_digit text, stand.1, (stand.0, held.0, held.1))

pub number_stuck : (text : List ℕ) (c : ℕ) (cs : List ℕ) → text ≡ c ∷ cs → is_digit c ≡ true → Holds None (value_of (run is_digit text)) → IsStuck stuck.NumberTooLarge text
number_stuck text c cs e is held =
    let stand = digits_stand text c cs e is in
    (run is_digit text, past_run is_digit text, run_splits is_digit text, stand.0, stand.1, held)

-- a number in range is what its bits are read as
pub number_back : (z : ℤ) (n : ℕ) → z ≡ pos n → n ≤ max_number → to_z w64 (of_z w64 z) ≡ pos n
number_back z n e small = to_z-of_z w64 z (subst (SFits w64) (sym e) (omega arith)) ∙ e

pub digits_some : (cs : List ℕ) → IsDigits cs → 0 < length cs
digits_some [] is = absurd is
digits_some (c ∷ cs) is = omega arith

-- the name that a text begins with
named : (cs after : List ℕ) → past_name cs ≡ Some after → (c : ℕ) × (ds : List ℕ) × (cs ≡ c ∷ ds) × (is_name_start c ≡ true) × (after ≡ past_run is_name_more ds)
named [] after e = absurd cc
named (c ∷ ds) after e = at (is_name_start c) refl e
  where
    at : (b : Bool) → is_name_start c ≡ b → cond b (Some (past_run is_name_more ds)) None ≡ Some after → (x : ℕ) × (xs : List ℕ) × (c ∷ ds ≡ x ∷ xs) × (is_name_start x ≡ true) × (after ≡ past_run is_name_more xs)
    at true starts h = (c, ds, refl, starts, sym (some_is h))
    at false starts h = absurd cc

pub name_stands : (cs after : List ℕ) → past_name cs ≡ Some after → (front : List ℕ) × (cs ≡ front ++ after) × IsLongest front cs × IsName front
name_stands cs after e = at (named cs after e)
  where
    at : ((c : ℕ) × (ds : List ℕ) × (cs ≡ c ∷ ds) × (is_name_start c ≡ true) × (after ≡ past_run is_name_more ds)) → (front : List ℕ) × (cs ≡ front ++ after) × IsLongest front cs × IsName front
    at (c, ds, same, starts, rest) = (
      c ∷ run is_name_more ds,
      same ∙ ap (λ t. c ∷ t) (run_splits is_name_more ds ∙ ap (λ t. run is_name_more ds ++ t) (sym rest)),
      subst (λ t. IsLongest (c ∷ run is_name_more ds) t) (sym same) (longest_name c ds starts),
      (starts, run_is is_name_more ds),
    )

pub tick_stands : (cs : List ℕ) (c : ℕ) (ds after : List ℕ) → cs ≡ c ∷ ds → c ≡ 39 → past_name ds ≡ Some after → Stands kind.Tick cs after
tick_stands cs c ds after same ticks e = at (named ds after e)
  where
    at : ((d : ℕ) × (xs : List ℕ) × (ds ≡ d ∷ xs) × (is_name_start d ≡ true) × (after ≡ past_run is_name_more xs)) → Stands kind.Tick cs after
    at (d, xs, more, starts, rest) =
        let whole : cs ≡ c ∷ d ∷ xs = same ∙ ap (λ t. c ∷ t) more in (
          c ∷ d ∷ run is_name_more xs,
          whole ∙ ap (λ t. c ∷ d ∷ t) (run_splits is_name_more xs ∙ ap (λ t. run is_name_more xs ++ t) (sym rest)),
          subst (λ t. IsLongest (c ∷ d ∷ run is_name_more xs) t) (sym whole) (longest_tick c d xs ticks starts),
          (d ∷ run is_name_more xs, ap (λ n. n ∷ d ∷ run is_name_more xs) ticks, (starts, run_is is_name_more xs)),
        )

pub sign_stands : (cs : List ℕ) (m : Mark) (after : List ℕ) → sign_of cs ≡ Some (m, after) → IsNoComment cs → Stands (kind.Sign m) cs after
unfolding sign_of
sign_stands cs m after e plain = (sign_text m, begun_splits sign_text signs.ALL cs m after e, longest_sign cs m after e plain, refl)

pub bad_stuck : (cs : List ℕ) (c : ℕ) (ds : List ℕ) → cs ≡ c ∷ ds → is_blank c ≡ false → past_name cs ≡ None → is_digit c ≡ false → (c ≡ 39 → past_name ds ≡ None) → sign_of cs ≡ None → IsStuck stuck.BadByte cs
unfolding sign_of
bad_stuck cs c ds same no_blank no_name no_digit no_tick no_sign =
    let starts : is_name_start c ≡ false = starts_none c ds (sym (ap past_name same) ∙ no_name) in
    (c, ds, same, no_blank, λ piece rest e. no_piece c ds starts no_digit no_tick (sym (ap (first_beginning sign_text signs.ALL) same) ∙ no_sign) piece rest (sym same ∙ e))
  where
    starts_none : (c : ℕ) (ds : List ℕ) → past_name (c ∷ ds) ≡ None → is_name_start c ≡ false
    starts_none c ds none = at (is_name_start c) none
      where
        at : (b : Bool) → cond b (Some (past_run is_name_more ds)) None ≡ None → b ≡ false
        at true h = absurd cc
        at false h = refl

-- no sign begins with a `'`
no_sign_ticks : (c : ℕ) (ds : List ℕ) → c ≡ 39 → first_beginning sign_text signs.ALL (c ∷ ds) ≡ None
no_sign_ticks c ds ticks = at (first_beginning sign_text signs.ALL (c ∷ ds)) refl
  where
    at : (found : Option (Mark × List ℕ)) → first_beginning sign_text signs.ALL (c ∷ ds) ≡ found → found ≡ None
    at None e = refl
    at (Some (m, after)) e = absurd ((sign_head c (sign_at m c ds after (begun_splits sign_text signs.ALL (c ∷ ds) m after e))).1 ticks)

pub tick_stuck : (cs : List ℕ) (c : ℕ) (ds : List ℕ) → cs ≡ c ∷ ds → is_blank c ≡ false → past_name cs ≡ None → is_digit c ≡ false → c ≡ 39 → past_name ds ≡ None → IsStuck stuck.BadByte cs
unfolding sign_of
tick_stuck cs c ds same no_blank no_name no_digit ticks no_tick =
    bad_stuck cs c ds same no_blank no_name no_digit (λ t. no_tick) (ap (first_beginning sign_text signs.ALL) same ∙ no_sign_ticks c ds ticks)
