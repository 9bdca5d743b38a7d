-- Each keyword and each sign is the one item of its table that is spelled so.
use Rattle.std.proofs.Common.{◌≡◌, ◌∙◌, ℕ, Bool, true, false, List, [], ◌∷◌, Option, Some, None, ◌⊎◌, inl, inr, ◌++◌, ◌&&◌, nat_le, length, ◌≤◌, refl, sym, ap, subst, cond, arith}
use Rattle.std.specs.List.{list_all}
use Rattle.std.proofs.lemmas.Slice.Eq.{bytes_eq-Decides}
use Rattle.std.proofs.lemmas.Bool.Decides.{nat_tests}
use Rattle.vlt_lexer.proofs.Runs.{some_is, not_after, after_splits, true_false, head_is}
use Rattle.std.specs.Prelude.{filter, slice_get}
use Rattle.std.proofs.lemmas.Bool.{eq-eqb}
use Rattle.std.specs.Str.{bytes_eq}
use Rattle.vlt_tokens.specs.declared.token.Word.{Word}
use Rattle.vlt_tokens.specs.declared.token.Word.TheVariants as word
use Rattle.vlt_tokens.specs.declared.token.Mark.{Mark}
use Rattle.vlt_tokens.specs.declared.token.Mark.TheVariants as sign
use Rattle.vlt_tokens.specs.declared.token.TheConstants.Word as words
use Rattle.vlt_tokens.specs.declared.token.TheConstants.Mark as signs
use Rattle.vlt_tokens.specs.Spelling.{word_text, sign_text}
use Rattle.vlt_lexer.specs.Steps.{item_with_text, first_beginning, with_rest, may_begin}
use Rattle.vlt_tokens.specs.Characters.{following}

pub word_found : (w : Word) → item_with_text word_text words.ALL (word_text w) ≡ Some w
word_found word.Abstract = refl
word_found word.Adopt = refl
word_found word.As = refl
word_found word.Become = refl
word_found word.Bool = refl
word_found word.Break = refl
word_found word.Case = refl
word_found word.Continue = refl
word_found word.Else = refl
word_found word.Extern = refl
word_found word.False = refl
word_found word.Focus = refl
word_found word.If = refl
word_found word.Input = refl
word_found word.Int = refl
word_found word.Into = refl
word_found word.More = refl
word_found word.New = refl
word_found word.Open = refl
word_found word.Print = refl
word_found word.Release = refl
word_found word.Return = refl
word_found word.Stateset = refl
word_found word.Struct = refl
word_found word.Swap = refl
word_found word.Switch = refl
word_found word.Tracked = refl
word_found word.True = refl
word_found word.Variant = refl
word_found word.Void = refl
word_found word.While = refl

pub sign_found : (m : Mark) → item_with_text sign_text signs.ALL (sign_text m) ≡ Some m
sign_found sign.OpenBrace = refl
sign_found sign.CloseBrace = refl
sign_found sign.OpenParen = refl
sign_found sign.CloseParen = refl
sign_found sign.OpenBracket = refl
sign_found sign.CloseBracket = refl
sign_found sign.Less = refl
sign_found sign.Greater = refl
sign_found sign.Comma = refl
sign_found sign.Semicolon = refl
sign_found sign.Colon = refl
sign_found sign.Dot = refl
sign_found sign.At = refl
sign_found sign.Arrow = refl
sign_found sign.Assign = refl
sign_found sign.Plus = refl
sign_found sign.Minus = refl
sign_found sign.Star = refl
sign_found sign.Slash = refl
sign_found sign.Percent = refl
sign_found sign.Not = refl
sign_found sign.And = refl
sign_found sign.Or = refl
sign_found sign.Xor = refl
sign_found sign.AndAnd = refl
sign_found sign.OrOr = refl
sign_found sign.Equal = refl
sign_found sign.NotEqual = refl
sign_found sign.LessEqual = refl
sign_found sign.GreaterEqual = refl

module _ {X : Type 0} (text : X → List ℕ) where
  -- the first item is found, or one is found among the others
  found_in : (y : X) (ys : List X) (cs : List ℕ) (x : X) → item_with_text text (y ∷ ys) cs ≡ Some x → ((text y ≡ cs) × (x ≡ y)) ⊎ (item_with_text text ys cs ≡ Some x)
  found_in y ys cs x e = at (bytes_eq (text y) cs) refl e
    where
      at : (b : Bool) → bytes_eq (text y) cs ≡ b → cond b (Some y) (item_with_text text ys cs) ≡ Some x → ((text y ≡ cs) × (x ≡ y)) ⊎ (item_with_text text ys cs ≡ Some x)
      at true same h = inl ((bytes_eq-Decides (text y) cs).0 same, sym (some_is h))
      at false same h = inr h

  -- what is found is spelled so
  pub spelled_is : (xs : List X) (cs : List ℕ) (x : X) → item_with_text text xs cs ≡ Some x → text x ≡ cs
  spelled_is [] cs x e = absurd cc
  spelled_is (y ∷ ys) cs x e = elim (found_in y ys cs x e) [ inl h ↦ ap text h.1 ∙ h.0 | inr h ↦ spelled_is ys cs x h ]

  -- what holds of each item of a table holds of one that is found
  pub spelled_passes : (test : X → Bool) (xs : List X) (cs : List ℕ) (x : X) → list_all test xs ≡ true → item_with_text text xs cs ≡ Some x → test x ≡ true
  spelled_passes test [] cs x all e = absurd cc
  spelled_passes test (y ∷ ys) cs x all e = elim (found_in y ys cs x e) [ inl h ↦ ap test h.1 ∙ grind arith | inr h ↦ spelled_passes test ys cs x (grind arith) h ]

  none_in : (y : X) (ys : List X) (cs : List ℕ) → first_beginning text (y ∷ ys) cs ≡ None → (following (text y) cs ≡ None) × (first_beginning text ys cs ≡ None)
  none_in y ys cs e = at (following (text y) cs) refl e
    where
      at : (b : Option (List ℕ)) → following (text y) cs ≡ b → with_rest y b (first_beginning text ys cs) ≡ None → (following (text y) cs ≡ None) × (first_beginning text ys cs ≡ None)
      at None h n = (h, n)
      at (Some r) h n = absurd cc

  begun_in : (y : X) (ys : List X) (cs : List ℕ) (x : X) (r : List ℕ) → first_beginning text (y ∷ ys) cs ≡ Some (x, r) → ((following (text y) cs ≡ Some r) × (x ≡ y)) ⊎ ((following (text y) cs ≡ None) × (first_beginning text ys cs ≡ Some (x, r)))
  begun_in y ys cs x r e = at (following (text y) cs) refl e
    where
      at : (b : Option (List ℕ)) → following (text y) cs ≡ b → with_rest y b (first_beginning text ys cs) ≡ Some (x, r) → ((following (text y) cs ≡ Some r) × (x ≡ y)) ⊎ ((following (text y) cs ≡ None) × (first_beginning text ys cs ≡ Some (x, r)))
      at None h n = inr (h, n)
      at (Some q) h n = let same : (y, q) ≡ (x, r) = some_is n in inl (h ∙ ap (λ p. Some p.1) same, sym (ap (λ p. p.0) same))

  -- where no item's text begins the text, none that is found does
  pub none_begins : (xs : List X) (cs : List ℕ) (m : X) (rest : List ℕ) → first_beginning text xs cs ≡ None → item_with_text text xs (text m) ≡ Some m → cs ≡ text m ++ rest → ⊥
  none_begins [] cs m rest none there e = cc
  none_begins (y ∷ ys) cs m rest none there e =
      let ns = none_in y ys cs none in
      elim (found_in y ys (text m) m there) [
        | inl h ↦ not_after (text y) cs rest ns.0 (e ∙ ap (λ t. t ++ rest) (sym h.0))
        | inr h ↦ none_begins ys cs m rest ns.1 h e
      ]

  -- what is found begins the text
  pub begun_splits : (xs : List X) (cs : List ℕ) (x : X) (r : List ℕ) → first_beginning text xs cs ≡ Some (x, r) → cs ≡ text x ++ r
  begun_splits [] cs x r e = absurd cc
  begun_splits (y ∷ ys) cs x r e = elim (begun_in y ys cs x r e) [
    | inl h ↦ after_splits (text y) cs r h.0 ∙ ap (λ z. text z ++ r) (sym h.1)
    | inr h ↦ begun_splits ys cs x r h.1
  ]

  -- an item that doesn't begin so isn't spelled so, and its text begins no text that does
  not_spelled : (t : List ℕ) (c : ℕ) (cs : List ℕ) → may_begin c t ≡ false → bytes_eq t (c ∷ cs) ≡ false
  not_spelled [] c cs e = absurd cc
  not_spelled (d ∷ ds) c cs e = at (bytes_eq (d ∷ ds) (c ∷ cs)) refl
    where
      at : (b : Bool) → bytes_eq (d ∷ ds) (c ∷ cs) ≡ b → b ≡ false
      at false h = refl
      at true h = absurd (true_false (sym (eq-eqb d c (head_is ((bytes_eq-Decides (d ∷ ds) (c ∷ cs)).0 h))) ∙ e))

  not_begun : (t : List ℕ) (c : ℕ) (cs : List ℕ) → may_begin c t ≡ false → following t (c ∷ cs) ≡ None
  not_begun [] c cs e = absurd cc
  not_begun (d ∷ ds) c cs e = ap (λ b. cond b (following ds cs) None) e

  -- so the items that may begin so suffice
  spelled_from : (xs : List X) (c : ℕ) (cs : List ℕ) → item_with_text text (filter (λ x. may_begin c (text x)) xs) (c ∷ cs) ≡ item_with_text text xs (c ∷ cs)
  spelled_from [] c cs = refl
  spelled_from (x ∷ xs) c cs = at (may_begin c (text x)) refl (spelled_from xs c cs)
    where
      at : (b : Bool) → may_begin c (text x) ≡ b → item_with_text text (filter (λ x. may_begin c (text x)) xs) (c ∷ cs) ≡ item_with_text text xs (c ∷ cs) → item_with_text text (cond b (x ∷ filter (λ x. may_begin c (text x)) xs) (filter (λ x. may_begin c (text x)) xs)) (c ∷ cs) ≡ item_with_text text (x ∷ xs) (c ∷ cs)
      at true h rest = ap (λ r. cond (bytes_eq (text x) (c ∷ cs)) (Some x) r) rest
      at false h rest = rest ∙ sym (ap (λ b. cond b (Some x) (item_with_text text xs (c ∷ cs))) (not_spelled (text x) c cs h))

  pub spelled_at : (xs : List X) (cs : List ℕ) (c d : ℕ) → c ≡ d → Some d ≡ slice_get cs 0 → item_with_text text (filter (λ x. may_begin c (text x)) xs) cs ≡ item_with_text text xs cs
  spelled_at xs [] c d h e = absurd cc
  spelled_at xs (x ∷ cs) c d h e = subst (λ x. item_with_text text (filter (λ x. may_begin c (text x)) xs) (x ∷ cs) ≡ item_with_text text xs (x ∷ cs)) (h ∙ some_is e) (spelled_from xs c cs)

  pub begun_from : (xs : List X) (c : ℕ) (cs : List ℕ) → first_beginning text (filter (λ x. may_begin c (text x)) xs) (c ∷ cs) ≡ first_beginning text xs (c ∷ cs)
  begun_from [] c cs = refl
  begun_from (x ∷ xs) c cs = at (may_begin c (text x)) refl (begun_from xs c cs)
    where
      at : (b : Bool) → may_begin c (text x) ≡ b → first_beginning text (filter (λ x. may_begin c (text x)) xs) (c ∷ cs) ≡ first_beginning text xs (c ∷ cs) → first_beginning text (cond b (x ∷ filter (λ x. may_begin c (text x)) xs) (filter (λ x. may_begin c (text x)) xs)) (c ∷ cs) ≡ first_beginning text (x ∷ xs) (c ∷ cs)
      at true h rest = ap (λ r. with_rest x (following (text x) (c ∷ cs)) r) rest
      at false h rest = rest ∙ sym (ap (λ b. with_rest x b (first_beginning text xs (c ∷ cs))) (not_begun (text x) c cs h))

  -- no item of the table is longer than one before it
  abbrev pub falls : List X → Bool
  falls [] = true
  falls (y ∷ ys) = list_all (λ z. nat_le (length (text z)) (length (text y))) ys && falls ys

  -- in such a table the first item that begins the text is the longest that does
  pub longest_begins : (xs : List X) (cs : List ℕ) (x : X) (r : List ℕ) (m : X) (rest : List ℕ) → falls xs ≡ true → first_beginning text xs cs ≡ Some (x, r) → item_with_text text xs (text m) ≡ Some m → cs ≡ text m ++ rest → length (text m) ≤ length (text x)
  longest_begins [] cs x r m rest fall first there e = absurd cc
  longest_begins (y ∷ ys) cs x r m rest fall first there e = elim (begun_in y ys cs x r first) [
    | inl h ↦ elim (found_in y ys (text m) m there) [
      | inl k ↦ omega (arith, ap length (sym k.0 ∙ ap text (sym h.1)))
      | inr k ↦
          let short : nat_le (length (text m)) (length (text y)) ≡ true = spelled_passes (λ z. nat_le (length (text z)) (length (text y))) ys (text m) m (grind arith) k in
          let same : length (text x) ≡ length (text y) = ap (λ z. length (text z)) h.1 in
          grind (arith, nat_tests)
    ]
    | inr h ↦ elim (found_in y ys (text m) m there) [
      | inl k ↦ absurd (not_after (text y) cs rest h.0 (e ∙ ap (λ t. t ++ rest) (sym k.0)))
      | inr k ↦ longest_begins ys cs x r m rest (grind arith) h.1 k e
    ]
  ]

pub signs_fall : falls sign_text signs.ALL ≡ true
signs_fall = refl
