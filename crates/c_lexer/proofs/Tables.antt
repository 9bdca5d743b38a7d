-- The items of a table that a look at one byte leaves are those that matter.
use Rattle.std.proofs.Common.{◌≡◌, ◌∙◌, ℕ, Bool, true, false, List, [], ◌∷◌, length, nat_le, drop, Some, None, refl, sym, ap, map, cond}
use Rattle.std.specs.Prelude.{filter, slice_get, ◌==◌}
use Rattle.std.proofs.lemmas.Bool.{eq-eqb}
use Rattle.std.specs.Str.{bytes_eq}
use Rattle.std.proofs.lemmas.Slice.Eq.{bytes_eq-Decides}
use Rattle.c_syntax.specs.Tokens.{token_text, word_text, prim_text, stray}
use Rattle.c_syntax.specs.Text.{following, first_beginning, item_with_text, piece_or, sign_piece, Piece}
use Rattle.c_syntax.specs.declared.token.TheConstants.CWord as words
use Rattle.c_syntax.specs.declared.program.TheConstants.CPrim as prims
use Rattle.c_lexer.specs.declared.scan.Mark.{Mark}
use Rattle.c_lexer.specs.declared.scan.TheConstants.Mark as marks
use Rattle.c_lexer.specs.Steps.{may_begin, mark_token}

true_false : true ≡ false → ⊥
true_false e = cc

module _ {X : Type 0} (text : X → List ℕ) (test : List ℕ → Bool) where
  -- an item whose text fails a test isn't spelled like what passes it
  not_spelled : (t cs : List ℕ) → test cs ≡ true → test t ≡ false → bytes_eq t cs ≡ false
  not_spelled t cs passes fails = at (bytes_eq t cs) refl
    where
      at : (b : Bool) → bytes_eq t cs ≡ b → b ≡ false
      at false h = refl
      at true h = absurd (true_false (sym passes ∙ sym (ap test ((bytes_eq-Decides t cs).0 h)) ∙ fails))

  pub spelled_among : (xs : List X) (cs : List ℕ) → test cs ≡ true → item_with_text text (filter (λ x. test (text x)) xs) cs ≡ item_with_text text xs cs
  spelled_among [] cs passes = refl
  spelled_among (x ∷ xs) cs passes = at (test (text x)) refl (spelled_among xs cs passes)
    where
      at : (b : Bool) → test (text x) ≡ b → item_with_text text (filter (λ x. test (text x)) xs) cs ≡ item_with_text text xs cs → item_with_text text (cond b (x ∷ filter (λ x. test (text x)) xs) (filter (λ x. test (text x)) xs)) cs ≡ item_with_text text (x ∷ xs) cs
      at true h rest = ap (λ r. cond (bytes_eq (text x) cs) (Some x) r) rest
      at false h rest = rest ∙ sym (ap (λ b. cond b (Some x) (item_with_text text xs cs)) (not_spelled (text x) cs passes h))

-- a text that doesn't begin with a byte begins no text that does
not_begun : (t : List ℕ) (b : ℕ) (bs : List ℕ) → may_begin b t ≡ false → following t (b ∷ bs) ≡ None
not_begun [] b bs e = absurd cc
not_begun (d ∷ ds) b bs e = ap (λ x. cond x (following ds bs) None) e

pub begun_among : (ms : List Mark) (b : ℕ) (bs : List ℕ) (other : Piece) → first_beginning (map mark_token (filter (λ m. may_begin b (token_text (mark_token m))) ms)) (b ∷ bs) other ≡ first_beginning (map mark_token ms) (b ∷ bs) other
begun_among [] b bs other = refl
begun_among (m ∷ ms) b bs other = at (may_begin b (token_text (mark_token m))) refl (begun_among ms b bs other)
  where
    at : (x : Bool) → may_begin b (token_text (mark_token m)) ≡ x
        → first_beginning (map mark_token (filter (λ m. may_begin b (token_text (mark_token m))) ms)) (b ∷ bs) other ≡ first_beginning (map mark_token ms) (b ∷ bs) other
        → first_beginning (map mark_token (cond x (m ∷ filter (λ m. may_begin b (token_text (mark_token m))) ms) (filter (λ m. may_begin b (token_text (mark_token m))) ms))) (b ∷ bs) other ≡ first_beginning (map mark_token (m ∷ ms)) (b ∷ bs) other
    at true h rest = ap (λ r. piece_or (mark_token m) (following (token_text (mark_token m)) (b ∷ bs)) r) rest
    at false h rest = rest ∙ sym (ap (λ x. piece_or (mark_token m) x (first_beginning (map mark_token ms) (b ∷ bs) other)) (not_begun (token_text (mark_token m)) b bs h))

-- ---- looking at the first byte, and at the fourth

is_same : (b c : ℕ) → Some b ≡ Some c → (c == b) ≡ true
is_same b c e = eq-eqb c b cc

pub word_from : (b : ℕ) (cs : List ℕ) → Some b ≡ slice_get cs 0 → item_with_text word_text (filter (λ w. may_begin b (word_text w)) words.ALL) cs ≡ item_with_text word_text words.ALL cs
word_from b [] e = absurd cc
word_from b (c ∷ cs) e = spelled_among word_text (may_begin b) words.ALL (c ∷ cs) (is_same b c e)

is_empty : List ℕ → Bool
is_empty [] = true
is_empty (c ∷ cs) = false

pub no_word : (cs : List ℕ) → None ≡ slice_get cs 0 → item_with_text word_text words.ALL cs ≡ None
unfolding is_empty
no_word [] e = sym (spelled_among word_text is_empty words.ALL [] refl)
no_word (c ∷ cs) e = absurd cc

fourth : (b : ℕ) (cs : List ℕ) → Some b ≡ slice_get cs 3 → may_begin b (drop 3 cs) ≡ true
fourth b [] e = absurd cc
fourth b (c ∷ []) e = absurd cc
fourth b (c ∷ d ∷ []) e = absurd cc
fourth b (c ∷ d ∷ f ∷ []) e = absurd cc
fourth b (c ∷ d ∷ f ∷ g ∷ cs) e = is_same b g e

pub primitive_with : (b : ℕ) (cs : List ℕ) → Some b ≡ slice_get cs 3 → item_with_text prim_text (filter (λ p. may_begin b (drop 3 (prim_text p))) prims.ALL) cs ≡ item_with_text prim_text prims.ALL cs
primitive_with b cs e = spelled_among prim_text (λ t. may_begin b (drop 3 t)) prims.ALL cs (fourth b cs e)

is_short : List ℕ → Bool
is_short cs = nat_le (length cs) 3

short : (cs : List ℕ) → None ≡ slice_get cs 3 → is_short cs ≡ true
unfolding is_short
short [] e = refl
short (c ∷ []) e = refl
short (c ∷ d ∷ []) e = refl
short (c ∷ d ∷ f ∷ []) e = refl
short (c ∷ d ∷ f ∷ g ∷ cs) e = absurd cc

pub no_primitive : (cs : List ℕ) → None ≡ slice_get cs 3 → item_with_text prim_text prims.ALL cs ≡ None
unfolding is_short
no_primitive cs e = sym (spelled_among prim_text is_short prims.ALL cs (short cs e))

pub sign_is : (b : ℕ) (after text : List ℕ) (ms : List Mark) → text ≡ b ∷ after → ms ≡ filter (λ m. may_begin b (token_text (mark_token m))) marks.ALL → first_beginning (map mark_token ms) text (stray, after) ≡ sign_piece text after
unfolding sign_piece
sign_is b after text ms begins is =
    ap (λ xs. first_beginning (map mark_token xs) text (stray, after)) is
    ∙ ap (λ x. first_beginning (map mark_token (filter (λ m. may_begin b (token_text (mark_token m))) marks.ALL)) x (stray, after)) begins
    ∙ begun_among marks.ALL b after (stray, after)
    ∙ sym (ap (λ x. first_beginning (map mark_token marks.ALL) x (stray, after)) begins)
