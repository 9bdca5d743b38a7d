-- A text has one list of tokens, or one refusal.
use Rattle.std.proofs.Common.{◌≡◌, ℕ, ◌≤◌, List, [], length, ◌⊎◌, inl, inr, refl, sym, ap, subst, ◌∙◌, arith}
use Rattle.std.specs.Prelude.{Result, Ok, Err, IfOk, IfErr, MatchResult}
use Rattle.std.specs.Str.{chars, IsUtf8, IsValidUpTo}
use Rattle.std.proofs.lemmas.Str.{utf8_valid_len-IsValidUpTo}
use Rattle.vlt_base.specs.Limits.{limit_of}
use Rattle.vlt_lexer.specs.declared.scan.Stuck.{Stuck}
use Rattle.vlt_lexer.specs.declared.scan.Stuck.TheVariants as stuck
use Rattle.vlt_lexer.specs.declared.LexError.{LexError}
use Rattle.vlt_lexer.specs.declared.LexError.TheVariants as error
use Rattle.vlt_tokens.specs.Characters.{width}
use Rattle.vlt_tokens.specs.Lexemes.{Lexeme}
use Rattle.vlt_lexer.specs.Reading.{Reads, IsStuck}
use Rattle.vlt_lexer.specs.Text.{IsTokensOf, AreSlicesOf, HasTooMany, StopsAt, IsRefused}
use Rattle.vlt_lexer.specs.Places.{error_at}
use Rattle.vlt_lexer.proofs.Slices.{tokens_slices}
use Rattle.vlt_lexer.proofs.OneReading.{IsEnd, one_reading, no_more_tokens, same_faults, end_not_empty}

pub one_list : (text : List ℕ) (ls ms : List Lexeme) → IsTokensOf text ls → IsTokensOf text ms → ls ≡ ms
one_list text ls ms (u, p) (v, q) = (one_reading (length text) (chars text) ls [] ms [] p (inl refl) q (inl refl)).0

-- why a text is refused, by three kinds of causes
pub data Cause (text : List ℕ) : LexError → Type 0 where
  no_text : (e : LexError) (at : ℕ) → e ≡ error.NotUtf8 at → (IsUtf8 text → ⊥) → IsValidUpTo text at → Cause text e
  a_stop : (e : LexError) (f : Stuck) (at : ℕ) → e ≡ error_at f at → IsUtf8 text → StopsAt f at text → Cause text e
  too_many : (e : LexError) → e ≡ error.Limit 3 → IsUtf8 text → HasTooMany text → Cause text e

pub cause : (text : List ℕ) (e : LexError) → IsRefused text e → Cause text e
cause text (error.NotUtf8 at) (never, valid) = no_text (error.NotUtf8 at) at refl never valid
cause text (error.BadByte at) (u, s) = a_stop (error.BadByte at) stuck.BadByte at refl u s
cause text (error.NumberTooLarge at) (u, s) = a_stop (error.NumberTooLarge at) stuck.NumberTooLarge at refl u s
cause text (error.OpenComment at) (u, s) = a_stop (error.OpenComment at) stuck.OpenComment at refl u s
cause text (error.Limit n) (u, three, many) = too_many (error.Limit n) (ap (λ x. error.Limit x) three) u many
cause text error.Memory none = absurd none

-- a reading within the limit that ends leaves no room for one beyond it
few_not_many : (text : List ℕ) (ls : List Lexeme) (left : List ℕ) → Reads (length text) (chars text) ls left → IsEnd left → length ls ≤ limit_of 3 → HasTooMany text → ⊥
few_not_many text ls left p ends few (ms, b, q, many) =
    let most : length ms ≤ length ls = no_more_tokens (length text) (chars text) ls left ms b p ends q in
    omega arith

-- what is read whole isn't refused
pub read_not_refused : (text : List ℕ) (ls : List Lexeme) (e : LexError) → IsTokensOf text ls → length ls ≤ limit_of 3 → Cause text e → ⊥
read_not_refused text ls e (u, p) few (no_text _ at same never valid) = never u
read_not_refused text ls e (u, p) few (a_stop _ f at same v (ms, left, q, within, stuck, place)) =
    let both = one_reading (length text) (chars text) ls [] ms left p (inl refl) q (inr (f, stuck)) in
    end_not_empty f left stuck (sym both.1)
read_not_refused text ls e (u, p) few (too_many _ same v many) = few_not_many text ls [] p (inl refl) few many

pub one_refusal : (text : List ℕ) (e d : LexError) → Cause text e → Cause text d → e ≡ d
one_refusal text e d (no_text _ at p never valid) (no_text _ to q neither also) = p ∙ ap (λ n. error.NotUtf8 n) (sym (utf8_valid_len-IsValidUpTo text at valid) ∙ utf8_valid_len-IsValidUpTo text to also) ∙ sym q
one_refusal text e d (no_text _ at p never valid) (a_stop _ g to q u s) = absurd (never u)
one_refusal text e d (no_text _ at p never valid) (too_many _ q u s) = absurd (never u)
one_refusal text e d (a_stop _ f at p u s) (no_text _ to q neither also) = absurd (neither u)
one_refusal text e d (a_stop _ f at p u (ls, left, r, few, stuck, place)) (a_stop _ g to q v (ms, last, t, within, also, there)) =
    let both = one_reading (length text) (chars text) ls left ms last r (inr (f, stuck)) t (inr (g, also)) in
    let faults : f ≡ g = same_faults f g left stuck (subst (IsStuck g) (sym both.1) also) in
    let places : at ≡ to = omega (arith, place, there, ap width both.1) in
    p ∙ ap (λ h. error_at h at) faults ∙ ap (error_at g) places ∙ sym q
one_refusal text e d (a_stop _ f at p u (ls, left, r, few, stuck, place)) (too_many _ q v many) = absurd (few_not_many text ls left r (inr (f, stuck)) few many)
one_refusal text e d (too_many _ p u many) (no_text _ to q neither also) = absurd (neither u)
one_refusal text e d (too_many _ p u many) (a_stop _ g to q v (ms, last, t, within, also, there)) = absurd (few_not_many text ms last t (inr (g, also)) within many)
one_refusal text e d (too_many _ p u many) (too_many _ q v also) = p ∙ sym q

module _ {X : Type 0} (see : X → List Lexeme) (text : List ℕ) where
  -- a right answer is the only one but want of memory

  pub all_tokens : (r : Result X LexError) → IfOk r (λ x. IsTokensOf text (see x)) → IfErr r (λ e. (e ≡ error.Memory) ⊎ IsRefused text e)
      → (ls : List Lexeme) → IsTokensOf text ls → length ls ≤ limit_of 3 → MatchResult r (λ x. see x ≡ ls) (λ e. e ≡ error.Memory)
  all_tokens (Ok x) ok err ls is few = one_list text (see x) ls ok is
  all_tokens (Err e) ok (inl memory) ls is few = memory
  all_tokens (Err e) ok (inr refused) ls is few = absurd (read_not_refused text ls e is few (cause text e refused))

  pub all_refusals : (r : Result X LexError) → IfOk r (λ x. IsTokensOf text (see x)) → IfOk r (λ x. length (see x) ≤ limit_of 3) → IfErr r (λ e. (e ≡ error.Memory) ⊎ IsRefused text e)
      → (refusal : LexError) → IsRefused text refusal → MatchResult r (λ x. ⊥) (λ e. (e ≡ error.Memory) ⊎ (e ≡ refusal))
  all_refusals (Ok x) ok few err refusal is = read_not_refused text (see x) refusal ok few (cause text refusal is)
  all_refusals (Err e) ok few (inl memory) refusal is = inl memory
  all_refusals (Err e) ok few (inr refused) refusal is = inr (one_refusal text e refusal (cause text e refused) (cause text refusal is))

  pub all_slices : (r : Result X LexError) → IfOk r (λ x. IsTokensOf text (see x)) → IfOk r (λ x. AreSlicesOf text 0 (see x))
  all_slices (Ok x) ok = tokens_slices text (see x) ok
  all_slices (Err e) ok = ok
