-- The pieces that ASCII bytes make.
use Rattle.std.proofs.Common.{◌≡◌, ◌≢◌, ℕ, suc, ◌+◌, ◌-◌, ◌≤◌, ◌<◌, Bool, true, false, cond, List, [], ◌∷◌, ◌++◌, length, take, drop, Some, None, refl, sym, ap, subst, ◌∙◌, arith, ◌==◌}
use Rattle.std.specs.Prelude.{slice_get, slice_index, codes}
use Rattle.std.specs.Str.{chars, IsUtf8, IsCharBoundary}
use Rattle.std.specs.Prelude.{encode_utf8_all}
use lib.Utf8.{encode}
use Rattle.std.proofs.lemmas.Str.{IsCharBoundary-from_drop, chars-nil, encodes-chars, byte_from_char}
use Rattle.std.proofs.lemmas.Bool.{eqb-true}
use Rattle.std.proofs.lemmas.List.{length-drop}
use Rattle.vlt_tokens.specs.declared.token.Mark.{Mark}
use Rattle.vlt_tokens.specs.declared.token.TokenKind.{TokenKind}
use Rattle.vlt_tokens.specs.declared.token.TokenKind.TheVariants as kind
use Rattle.vlt_tokens.specs.Characters.{is_blank, following}
use Rattle.vlt_tokens.specs.Lexemes.{IsOf}
use Rattle.vlt_lexer.specs.Reading.{IsGap, blank}
use Rattle.vlt_lexer.specs.AsciiPieces.{is_ascii_start, is_ascii_more, starts_with}
use Rattle.vlt_lexer.specs.Steps.{past_run, past_name, sign_of, keyword_of, kind_of, IsNoComment}
use Rattle.vlt_lexer.proofs.Runs.{some_is}
use Rattle.vlt_lexer.proofs.Bytes.{front_bytes}
use Rattle.vlt_lexer.proofs.Found.{Stands, name_stands, sign_stands}
use Rattle.vlt_lexer.proofs.Words.{kind_is}
use Rattle.vlt_lexer.proofs.Letters.{EndsNarrow, drop_next, ascii_first, blank_small, letters_first, name_first}

first_is : (bs : List ℕ) (c : ℕ) → Some c ≡ slice_get bs 0 → bs ≡ c ∷ drop 1 bs
first_is [] c e = absurd cc
first_is (b ∷ bs) c e = ap (λ x. x ∷ bs) (sym (some_is e))

pub one_first : (bs : List ℕ) (c : ℕ) → Some c ≡ slice_get bs 0 → c < 128 → IsUtf8 bs → (chars bs ≡ c ∷ chars (drop 1 bs)) × IsUtf8 (drop 1 bs)
one_first bs c e small u =
    let is = first_is bs c e in
    let r = ascii_first c (drop 1 bs) small (subst IsUtf8 is u) in
    (ap chars is ∙ r.0, r.1)

pub cut_one : (bs : List ℕ) (c : ℕ) → Some c ≡ slice_get bs 0 → c < 128 → IsUtf8 bs → IsCharBoundary bs 1
cut_one bs c e small u = IsCharBoundary-from_drop bs 1 (omega (arith, ap length (first_is bs c e))) (one_first bs c e small u).1

pub blank_front : (bs after : List ℕ) (c : ℕ) → Some c ≡ slice_get bs 0 → is_blank c ≡ true → IsUtf8 bs → after ≡ drop 1 bs → IsGap (chars bs) (chars after)
blank_front bs after c e is u rest = blank (chars bs) c (chars after) ((one_first bs c e (blank_small c is) u).0 ∙ ap (λ t. c ∷ chars t) (sym rest)) is

pub cut_letters : (bs : List ℕ) (n : ℕ) → n ≤ length bs → drop n bs ≡ past_run is_ascii_more bs → IsUtf8 bs → IsCharBoundary bs n
cut_letters bs n le e u = IsCharBoundary-from_drop bs n le (subst IsUtf8 (sym e) (letters_first bs u).1)

pub name_front : (bs after : List ℕ) (c n : ℕ) (k : TokenKind) → Some c ≡ slice_get bs 0 → is_ascii_start c ≡ true → IsUtf8 bs → n ≤ length bs → drop n bs ≡ past_run is_ascii_more bs → EndsNarrow (drop n bs)
    → after ≡ drop n bs → k ≡ kind_of (keyword_of (take n bs)) → Stands k (chars bs) (chars after)
name_front bs after c n k e is u le rest narrow same which =
    let shape = first_is bs c e in
    let found : past_name (chars bs) ≡ Some (chars (past_run is_ascii_more bs)) =
    subst (λ t. past_name (chars t) ≡ Some (chars (past_run is_ascii_more t))) (sym shape) (name_first c (drop 1 bs) (subst IsUtf8 shape u) is (subst (λ t. EndsNarrow (past_run is_ascii_more t)) shape (subst EndsNarrow rest narrow))) in
    let stands = name_stands (chars bs) (chars after) (found ∙ ap (λ t. Some (chars t)) (sym rest ∙ sym same)) in
    let v : IsUtf8 after = subst IsUtf8 (sym (same ∙ rest)) (letters_first bs u).1 in
    let count : length bs - length after ≡ n = omega (arith, ap length same, length-drop n bs, le) in
    let bytes = ap (λ m. take m bs) (sym count) ∙ front_bytes bs after stands.0 u v stands.1 in
    (stands.0, stands.1, stands.2, subst (λ x. IsOf x stands.0) (sym (which ∙ ap (λ t. kind_of (keyword_of t)) bytes)) (kind_is stands.0 stands.3))

no_comment : (c : ℕ) (cs : List ℕ) → c ≢ 47 → IsNoComment (c ∷ cs)
no_comment c cs other = at (47 == c) refl
  where
    at : (b : Bool) → (47 == c) ≡ b → (cond b (following (codes "/") cs) None ≡ None) × (cond b (following (codes "*") cs) None ≡ None)
    at true h = absurd (other (sym (eqb-true 47 c h)))
    at false h = (refl, refl)

pub sign_front : (bs after : List ℕ) (c : ℕ) (m : Mark) → Some c ≡ slice_get bs 0 → c < 128 → IsUtf8 bs → after ≡ drop 1 bs → ((cs : List ℕ) → sign_of (c ∷ cs) ≡ Some (m, cs)) → c ≢ 47 → Stands (kind.Sign m) (chars bs) (chars after)
sign_front bs after c m e small u same sign plain =
    let text : chars bs ≡ c ∷ chars after = (one_first bs c e small u).0 ∙ ap (λ t. c ∷ chars t) (sym same) in
    sign_stands (chars bs) m (chars after) (ap sign_of text ∙ sign (chars after)) (subst IsNoComment (sym text) (no_comment c (chars after) plain))

-- a blank more is past
pub blank_more : (bytes : List ℕ) (i : ℕ) → i < length bytes → is_blank (slice_index bytes i) ≡ true → IsUtf8 (drop i bytes) → IsGap (chars (drop i bytes)) (chars (drop (i + 1) bytes)) × IsUtf8 (drop (i + 1) bytes)
blank_more bytes i l is u =
    let shape : drop i bytes ≡ slice_index bytes i ∷ drop (i + 1) bytes = drop_next bytes i l in
    let one = ascii_first (slice_index bytes i) (drop (i + 1) bytes) (blank_small (slice_index bytes i) is) (subst IsUtf8 shape u) in
    (blank (chars (drop i bytes)) (slice_index bytes i) (chars (drop (i + 1) bytes)) (ap chars shape ∙ one.0) is, one.1)

-- ---- signs that a second character may make longer

second_is : (bs : List ℕ) (d : ℕ) → 1 < length bs → slice_index bs 1 ≡ d → drop 1 bs ≡ d ∷ drop 2 bs
second_is bs d l e = drop_next bs 1 l ∙ ap (λ x. x ∷ drop 2 bs) e

two_first : (bs : List ℕ) (c d : ℕ) → Some c ≡ slice_get bs 0 → c < 128 → 1 < length bs → slice_index bs 1 ≡ d → d < 128 → IsUtf8 bs → (chars bs ≡ c ∷ d ∷ chars (drop 2 bs)) × IsUtf8 (drop 2 bs)
two_first bs c d e small l next fits u =
    let one = one_first bs c e small u in
    let shape = second_is bs d l next in
    let two = ascii_first d (drop 2 bs) fits (subst IsUtf8 shape one.1) in
    (one.0 ∙ ap (λ t. c ∷ t) (ap chars shape ∙ two.0), two.1)

pub cut_two : (bs : List ℕ) (c d : ℕ) → Some c ≡ slice_get bs 0 → c < 128 → 1 < length bs → slice_index bs 1 ≡ d → d < 128 → IsUtf8 bs → IsCharBoundary bs 2
cut_two bs c d e small l next fits u = IsCharBoundary-from_drop bs 2 (omega (arith, l)) (two_first bs c d e small l next fits u).1

pub pair_front : (bs after : List ℕ) (c d : ℕ) (m : Mark) → Some c ≡ slice_get bs 0 → c < 128 → 1 < length bs → slice_index bs 1 ≡ d → d < 128 → IsUtf8 bs → after ≡ drop 2 bs → ((cs : List ℕ) → sign_of (c ∷ d ∷ cs) ≡ Some (m, cs)) → c ≢ 47 → Stands (kind.Sign m) (chars bs) (chars after)
pair_front bs after c d m e small l next fits u same sign plain =
    let text : chars bs ≡ c ∷ d ∷ chars after = (two_first bs c d e small l next fits u).0 ∙ ap (λ t. c ∷ d ∷ chars t) (sym same) in
    sign_stands (chars bs) m (chars after) (ap sign_of text ∙ sign (chars after)) (subst IsNoComment (sym text) (no_comment c (d ∷ chars after) plain))

not_second : (bs : List ℕ) (d : ℕ) → IsUtf8 bs → d < 128 → (0 < length bs → slice_index bs 0 ≢ d) → starts_with d (chars bs) ≡ false
not_second [] d u fits other = ap (starts_with d) chars-nil
not_second (b ∷ bs) d u fits other = at (chars (b ∷ bs)) refl
  where
    at : (cs : List ℕ) → chars (b ∷ bs) ≡ cs → starts_with d cs ≡ false
    at [] e = refl
    at (x ∷ xs) e = by (d == x) refl
      where
        by : (t : Bool) → (d == x) ≡ t → t ≡ false
        by false h = refl
        by true h =
            let same : d ≡ x = eqb-true d x h in
            let whole : b ∷ bs ≡ encode x ++ encode_utf8_all xs = sym (encodes-chars (b ∷ bs) u) ∙ ap encode_utf8_all e in
            absurd (other (omega arith) (byte_from_char (b ∷ bs) (encode_utf8_all xs) x whole (omega (arith, same, fits)) ∙ sym same))

pub alone_front : (bs after : List ℕ) (c d : ℕ) (m : Mark) → Some c ≡ slice_get bs 0 → c < 128 → d < 128 → (1 < length bs → slice_index bs 1 ≢ d) → IsUtf8 bs → after ≡ drop 1 bs → ((cs : List ℕ) → starts_with d cs ≡ false → sign_of (c ∷ cs) ≡ Some (m, cs)) → c ≢ 47 → Stands (kind.Sign m) (chars bs) (chars after)
alone_front bs after c d m e small fits other u same sign plain =
    let one = one_first bs c e small u in
    let shape = first_is bs c e in
    let size : length bs ≡ suc (length (drop 1 bs)) = ap length shape in
    let item : slice_index bs 1 ≡ slice_index (drop 1 bs) 0 = ap (λ l. slice_index l 1) shape in
    let none : starts_with d (chars after) ≡ false = ap (λ t. starts_with d (chars t)) same ∙ not_second (drop 1 bs) d one.1 fits (λ l h. other (omega (arith, size, l)) (item ∙ h)) in
    let text : chars bs ≡ c ∷ chars after = one.0 ∙ ap (λ t. c ∷ chars t) (sym same) in
    sign_stands (chars bs) m (chars after) (ap sign_of text ∙ sign (chars after) none) (subst IsNoComment (sym text) (no_comment c (chars after) plain))
