-- Short names and their keys.
use Rattle.std.proofs.Common.{◌≡◌, ℕ, zero, suc, ◌+◌, ◌*◌, ◌%◌, ◌^◌, ◌≤◌, ◌<◌, Bool, true, false, cond, List, [], ◌∷◌, length, Option, Some, None, refl, sym, ap, subst, ◌∙◌, arith, ◌==◌, nat_le, ◌&&◌, ◌-◌, inl, inr}
use Rattle.std.proofs.Math.Nat.{mod-eq_of_lt}
use Rattle.std.proofs.lemmas.Slice.Eq.{bytes_eq-Decides}
use Rattle.std.proofs.lemmas.Bool.{eqb-true, eq-eqb}
use Rattle.std.proofs.lemmas.Bool.Decides.{nat_tests, leb_tells}
use Rattle.std.specs.Str.{bytes_eq}
use Rattle.vlt_tokens.specs.declared.token.Word.{Word}
use Rattle.vlt_tokens.specs.declared.token.TheConstants.Word as words
use Rattle.vlt_tokens.specs.Spelling.{word_text}
use Rattle.vlt_lexer.specs.Steps.{item_with_text, keyword_of, run}
use Rattle.vlt_lexer.specs.AsciiPieces.{is_ascii_more, next_key, key_after, key_of, first_with_key, word_with_key}
use Rattle.vlt_lexer.proofs.Runs.{tail_is}
use Rattle.vlt_lexer.proofs.Tables.{word_found, spelled_is, spelled_passes}

-- each is a byte, and not 0
abbrev pub EachByte : List ℕ → Type 0
EachByte [] = Unit {0}
EachByte (c ∷ cs) = (0 < c) × (c < 256) × EachByte cs

abbrev pub power : ℕ → ℕ
power zero = 1
power (suc n) = 256 * power n

power_grows : (n d : ℕ) → power n ≤ power (d + n)
power_grows n zero = subst (λ m. power n ≤ power m) (sum_zero n) (omega arith)
  where
    sum_zero : (m : ℕ) → m ≡ zero + m
    sum_zero m = omega arith
power_grows n (suc d) = subst (λ m. power n ≤ power m) (sum_next d n) (omega (arith, power_grows n d))
  where
    sum_next : (x m : ℕ) → suc (x + m) ≡ suc x + m
    sum_next x m = omega arith

room : (n d : ℕ) → d + n ≡ 7 → power n ≤ 2 ^ 56
room n d e = subst (λ m. power n ≤ power m) e (power_grows n d)

-- with a byte more, where there is room for one
exact : (n d k c : ℕ) → d + n ≡ 7 → k < power n → c < 256 → (next_key k c ≡ k * 256 + c) × (k * 256 + c < power (suc n))
exact n d k c e small byte =
    let r = room n d e in
    let first : (k * 256) % 2 ^ 64 ≡ k * 256 = mod-eq_of_lt (omega arith) in
    let second : (k * 256 + c) % 2 ^ 64 ≡ k * 256 + c = mod-eq_of_lt (omega arith) in
    (ap (λ x. (x + c) % 2 ^ 64) first ∙ second, omega arith)

-- as many bytes with one key are the same
pub same_after : (xs ys : List ℕ) (n d k l : ℕ) → length xs ≡ length ys → d + length xs + n ≡ 8 → k < power n → l < power n → EachByte xs → EachByte ys → key_after k xs ≡ key_after l ys → (k ≡ l) × (xs ≡ ys)
same_after [] [] n d k l same fit small also p q e = (e, refl)
same_after [] (y ∷ ys) n d k l same fit small also p q e = absurd (omega arith)
same_after (x ∷ xs) [] n d k l same fit small also p q e = absurd (omega arith)
same_after (x ∷ xs) (y ∷ ys) n d k l same fit small also p q e =
    let a = exact n (d + length xs) k x (omega arith) small p.1 in
    let b = exact n (d + length xs) l y (omega arith) also q.1 in
    let r = same_after xs ys (suc n) d (k * 256 + x) (l * 256 + y) (omega arith) (omega arith) a.1 b.1 p.2 q.2
    (sym (ap (λ z. key_after z xs) a.0) ∙ e ∙ ap (λ z. key_after z ys) b.0) in
    let heads : x ≡ y = omega (arith, r.0, p.1, q.1) in
    (omega (arith, r.0, p.1, q.1), ap (λ z. z ∷ xs) heads ∙ ap (λ zs. y ∷ zs) r.1)

-- bytes after a number that isn't 0 have another key than fewer bytes alone
longer_after : (xs ys : List ℕ) (n d l : ℕ) → length xs ≤ length ys → d + length ys + n ≡ 8 → 0 < l → l < power n → EachByte xs → EachByte ys → key_after 0 xs ≡ key_after l ys → ⊥
longer_after xs [] n d l le fit some small p q e =
    let r = same_after xs [] n d 0 l (omega arith) (omega arith) (omega arith) small p q e in omega (arith, r.0, some)
longer_after xs (y ∷ ys) n d l le fit some small p q e = at (nat_le (length xs) (length ys)) refl (λ k s. longer_after xs ys (suc n) d (l * 256 + y) k (omega arith) (omega arith) s p q.2)
  where
    at : (b : Bool) → nat_le (length xs) (length ys) ≡ b → (length xs ≤ length ys → l * 256 + y < power (suc n) → key_after 0 xs ≡ key_after (l * 256 + y) ys → ⊥) → ⊥
    at true h go =
        let a = exact n (d + length ys) l y (omega arith) small q.1 in
        go (grind (arith, nat_tests)) a.1 (e ∙ ap (λ z. key_after z ys) a.0)
    at false h go =
        let same : length xs ≡ length (y ∷ ys) = grind (arith, nat_tests) in
        let r = same_after xs (y ∷ ys) n d 0 l same (omega arith) (omega arith) small p q e in omega (arith, r.0, some)

shorter_no : (xs ys : List ℕ) → length xs < length ys → length ys ≤ 8 → EachByte xs → EachByte ys → key_of xs ≡ key_of ys → ⊥
shorter_no xs [] less fit p q e = omega arith
shorter_no xs (y ∷ ys) less fit p q e =
    let a = exact 0 7 0 y refl (omega arith) q.1 in
    let same : 0 * 256 + y ≡ y = omega arith in
    longer_after xs ys 1 (7 - length ys) y (omega arith) (omega arith) q.0 (omega (arith, q.1)) p q.2 (e ∙ ap (λ z. key_after z ys) (a.0 ∙ same))

-- short names with one key are the same
pub same_keys : (xs ys : List ℕ) → length xs ≤ 8 → length ys ≤ 8 → EachByte xs → EachByte ys → key_of xs ≡ key_of ys → xs ≡ ys
same_keys xs ys fit also p q e = elim (leb_tells (length ys) (length xs)) [
  | inr less ↦ absurd (shorter_no xs ys (omega (arith, less.1)) also p q e)
  | inl le ↦ elim (leb_tells (length xs) (length ys)) [
    | inr more ↦ absurd (shorter_no ys xs (omega (arith, more.1)) fit q p (sym e))
    | inl ge ↦ (same_after xs ys 0 (8 - length xs) 0 0 (omega (arith, le.1, ge.1)) (omega arith) (omega arith) (omega arith) p q e).1
  ]
]

-- ---- keywords

-- a letter is a byte and not 0
pub letters_bytes : (cs : List ℕ) → run is_ascii_more cs ≡ cs → EachByte cs
letters_bytes [] e = tt
letters_bytes (c ∷ cs) e = at (is_ascii_more c) refl e (letters_bytes cs)
  where
    at : (b : Bool) → is_ascii_more c ≡ b → cond b (c ∷ run is_ascii_more cs) [] ≡ c ∷ cs → (run is_ascii_more cs ≡ cs → EachByte cs) → (0 < c) × (c < 256) × EachByte cs
    at true h same go = (grind (arith, nat_tests), grind (arith, nat_tests), go (tail_is same))
    at false h same go = cc

is_short_word : List ℕ → Bool
is_short_word cs = nat_le (length cs) 8 && bytes_eq (run is_ascii_more cs) cs

word_short : (w : Word) → (length (word_text w) ≤ 8) × EachByte (word_text w)
unfolding is_short_word
word_short w =
    let is = spelled_passes word_text (λ x. is_short_word (word_text x)) words.ALL (word_text w) w refl (word_found w) in
    (grind (arith, nat_tests), letters_bytes (word_text w) ((bytes_eq-Decides _ _).0 (grind arith)))

-- no keyword is longer
pub long_no_word : (name : List ℕ) → 8 < length name → keyword_of name ≡ None
unfolding keyword_of
long_no_word name long = at (item_with_text word_text words.ALL name) refl
  where
    at : (o : Option Word) → item_with_text word_text words.ALL name ≡ o → o ≡ None
    at None e = refl
    at (Some w) e = absurd (omega (arith, ap length (spelled_is word_text words.ALL name w e), (word_short w).0))

-- a keyword is found by its key
by_key : (ws : List Word) (name : List ℕ) → length name ≤ 8 → run is_ascii_more name ≡ name → first_with_key (key_of name) ws ≡ item_with_text word_text ws name
by_key [] name fit letters = refl
by_key (w ∷ ws) name fit letters = at (bytes_eq (word_text w) name) refl (by_key ws name fit letters)
  where
    at : (b : Bool) → bytes_eq (word_text w) name ≡ b → first_with_key (key_of name) ws ≡ item_with_text word_text ws name
        → cond (key_of (word_text w) == key_of name) (Some w) (first_with_key (key_of name) ws) ≡ cond b (Some w) (item_with_text word_text ws name)
    at true h more = ap (λ b. cond b (Some w) (first_with_key (key_of name) ws)) (eq-eqb (key_of (word_text w)) (key_of name) (ap key_of ((bytes_eq-Decides (word_text w) name).0 h)))
    at false h more = ap (λ b. cond b (Some w) (first_with_key (key_of name) ws)) (other (key_of (word_text w) == key_of name) refl) ∙ more
      where
        other : (b : Bool) → (key_of (word_text w) == key_of name) ≡ b → b ≡ false
        other false k = refl
        other true k =
            let same = same_keys (word_text w) name (word_short w).0 fit (word_short w).1 (letters_bytes name letters) (eqb-true (key_of (word_text w)) (key_of name) k) in
            sym ((bytes_eq-Decides (word_text w) name).1 same) ∙ h

pub word_by_key : (name : List ℕ) → length name ≤ 8 → run is_ascii_more name ≡ name → word_with_key (key_of name) ≡ keyword_of name
unfolding keyword_of
word_by_key name fit letters = by_key words.ALL name fit letters
