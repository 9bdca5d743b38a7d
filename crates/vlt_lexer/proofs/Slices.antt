-- Tokens are slices of the text, in order.
use Rattle.std.proofs.Common.{◌≡◌, ℕ, ◌+◌, ◌-◌, ◌<◌, ◌≤◌, Bool, true, false, cond, eqb, List, [], ◌∷◌, ◌++◌, length, take, drop, Option, Some, None, refl, sym, ap, subst, ◌∙◌, arith, append_assoc}
use Rattle.std.specs.Prelude.{codes, encode_utf8_all, slice_range}
use Rattle.std.specs.Str.{chars}
use Rattle.std.proofs.lemmas.List.{length-append, take_at}
use Rattle.std.proofs.Math.Seq.{drop-append_seam}
use Rattle.std.proofs.lemmas.Str.{encodes-chars, encodes-append, length-le-encodes}
use Rattle.vlt_tokens.specs.Characters.{width, following, or_else, after_line, after_close}
use Rattle.vlt_tokens.specs.Lexemes.{IsPiece, Lexeme}
use Rattle.vlt_lexer.specs.Reading.{IsGap, blank, line, block, Reads, nothing, gap, token}
use Rattle.vlt_lexer.specs.Text.{IsTokensOf, AreSlicesOf}
use Rattle.vlt_lexer.proofs.Runs.{after_splits, some_is}
use Rattle.vlt_lexer.proofs.OneKind.{piece_of, no_empty_piece}

-- one text is the other after some front
abbrev IsAfter : List ℕ → List ℕ → Type 0
IsAfter after cs = (front : List ℕ) × (cs ≡ front ++ after)

after_one : (c : ℕ) (cs after : List ℕ) → IsAfter after cs → IsAfter after (c ∷ cs)
after_one c cs after h = (c ∷ h.0, ap (λ t. c ∷ t) h.1)

line_after : (cs : List ℕ) → IsAfter (after_line cs) cs
line_after [] = ([], refl)
line_after (c ∷ cs) = at (eqb c 10) (line_after cs)
  where
    at : (b : Bool) → IsAfter (after_line cs) cs → IsAfter (cond b cs (after_line cs)) (c ∷ cs)
    at true h = (c ∷ [], refl)
    at false h = after_one c cs (after_line cs) h

close_after : (cs after : List ℕ) → after_close cs ≡ Some after → IsAfter after cs
close_after [] after e = absurd cc
close_after (c ∷ cs) after e = at (following (codes "*/") (c ∷ cs)) refl e (close_after cs after)
  where
    at : (b : Option (List ℕ)) → following (codes "*/") (c ∷ cs) ≡ b → or_else b (after_close cs) ≡ Some after → (after_close cs ≡ Some after → IsAfter after cs) → IsAfter after (c ∷ cs)
    at None h n rest = after_one c cs after (rest n)
    at (Some r) h n rest = (codes "*/", after_splits (codes "*/") (c ∷ cs) r h ∙ ap (λ t. codes "*/" ++ t) (some_is n))

after_two : (front inside after cs : List ℕ) → cs ≡ front ++ inside → IsAfter after inside → IsAfter after cs
after_two front inside after cs e h = (front ++ h.0, e ∙ ap (λ t. front ++ t) h.1 ∙ sym (append_assoc front h.0 after))

gap_after : (cs after : List ℕ) → IsGap cs after → IsAfter after cs
gap_after cs after (blank _ c _ e is) = (c ∷ [], e)
gap_after cs after (line _ inside _ e is) = after_two (codes "//") inside after cs e (subst (λ t. IsAfter t inside) (sym is) (line_after inside))
gap_after cs after (block _ inside _ e is) = after_two (codes "/*") inside after cs e (close_after inside after is)

-- the text is so many bytes and then these characters
abbrev Follows : List ℕ → List ℕ → List ℕ → Type 0
Follows text before cs = text ≡ before ++ encode_utf8_all cs

follows_more : (text before cs front after : List ℕ) → Follows text before cs → cs ≡ front ++ after → Follows text (before ++ encode_utf8_all front) after
follows_more text before cs front after f e =
    f ∙ ap (λ t. before ++ t) (ap encode_utf8_all e ∙ encodes-append front after) ∙ sym (append_assoc before (encode_utf8_all front) (encode_utf8_all after))

some_piece : (piece : List ℕ) → IsPiece piece → 0 < length piece
some_piece [] is = absurd (no_empty_piece [] refl is)
some_piece (c ∷ cs) is = omega arith

slice_is : (before part after text : List ℕ) (from to : ℕ) → text ≡ before ++ (part ++ after) → from ≡ length before → to ≡ length before + length part → slice_range text from to ≡ part
slice_is before part after text from to e f t =
    let count : to - from ≡ length part = omega arith in
    let rest : drop from text ≡ part ++ after = ap (λ n. drop n text) f ∙ ap (drop (length before)) e ∙ drop-append_seam before (part ++ after) in
    ap (take (to - from)) rest ∙ take_at part after (to - from) (sym count)

pub slices : (text before cs : List ℕ) (ls : List Lexeme) (left : List ℕ) (start : ℕ) → Reads (length text) cs ls left → Follows text before cs → start ≤ length before → AreSlicesOf text start ls
slices text before cs _ left start (nothing _) f n = tt
slices text before cs ls left start (gap _ after _ _ g r) f n =
    let h = gap_after cs after g in
    slices text (before ++ encode_utf8_all h.0) after ls left start r (follows_more text before cs h.0 after f h.1) (omega (arith, length-append before (encode_utf8_all h.0)))
slices text before cs _ left start (token _ l after ls _ t r) f n =
    let bytes : encode_utf8_all cs ≡ encode_utf8_all t.piece ++ encode_utf8_all after = ap encode_utf8_all t.begins ∙ encodes-append t.piece after in
    let wide : width cs ≡ width t.piece + width after = ap length bytes ∙ length-append (encode_utf8_all t.piece) (encode_utf8_all after) in
    let whole : length text ≡ length before + width cs = ap length f ∙ length-append before (encode_utf8_all cs) in
    let some : 0 < width t.piece = (let a = some_piece t.piece (piece_of l.kind t.piece t.kind) in let b = length-le-encodes t.piece in omega arith) in
    let from : l.from ≡ length before = omega (arith, t.from, whole) in
    let to : l.to ≡ length before + width t.piece = omega (arith, t.to, whole, wide) in
    let text_is : slice_range text l.from l.to ≡ encode_utf8_all t.piece = slice_is before (encode_utf8_all t.piece) (encode_utf8_all after) text l.from l.to (f ∙ ap (λ b. before ++ b) bytes) from to in (
      omega arith,
      omega arith,
      omega arith,
      t.text ∙ sym text_is,
      slices text (before ++ encode_utf8_all t.piece) after ls left l.to r (follows_more text before cs t.piece after f t.begins) (omega (arith, length-append before (encode_utf8_all t.piece))),
    )

pub tokens_slices : (text : List ℕ) (ls : List Lexeme) → IsTokensOf text ls → AreSlicesOf text 0 ls
tokens_slices text ls (u, r) = slices text [] (chars text) ls [] 0 r (sym (encodes-chars text u)) (omega arith)
