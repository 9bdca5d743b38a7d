-- What a refusal names is no further than the text's end.
use Rattle.std.proofs.Common.{◌≡◌, ◌≤◌, ℕ, zero, suc, List, [], ◌∷◌, length, slice_get, Option, Some, None, Err, sym, subst, arith}
use Rattle.std.proofs.lemmas.Option.{none-some, same_Some}
use Rattle.c_syntax.specs.Text.{Lexeme, Piece, AreTokensOf, AreFirst, IsTokensOf, first_pieces, following, mark, cut_at, before_mark, piece}
use Rattle.c_syntax.specs.Reading.{places_in}
use Rattle.c_kinds.specs.Laws.{AreWithin}
use Rattle.c_kinds.proofs.Within.{told_within}
use Rattle.c_reader.specs.declared.error.CError.{CError}
use Rattle.c_reader.specs.declared.error.CError.TheVariants.{Unexpected, EndOfText, Kind, Limit, Memory}
use Rattle.c_reader.specs.Reads.{IsReadAs, IsWithin}

tokens_within : (total : ℕ) (bs : List ℕ) (ls : List Lexeme) → AreTokensOf total bs ls → AreWithin total (places_in ls)
tokens_within total bs [] are = tt
tokens_within total bs (l ∷ ls) are =
    let at = are.3.1 in
    (omega (arith, at), tokens_within total ((piece are.0 are.1).1) ls are.4)

first_within : (ps : List (ℕ → List ℕ → Piece)) (total : ℕ) (bs : List ℕ) (ls : List Lexeme) → AreFirst ps total bs ls → AreWithin total (places_in ls)
first_within [] total bs ls are = tokens_within total bs ls are
first_within (p ∷ ps) total [] ls are = subst (λ xs. AreWithin total (places_in xs)) (sym are) tt
first_within (p ∷ ps) total (b ∷ bs) [] are = absurd are
first_within (p ∷ ps) total (b ∷ bs) (l ∷ ls) are =
    let at = are.0.1 in
    (omega (arith, at), first_within ps total ((p b bs).1) ls are.1)

mark_short : (bs : List ℕ) → length (before_mark bs) ≤ length bs
mark_short [] = omega arith
mark_short (b ∷ bs) = by (following mark (b ∷ bs)) (mark_short bs)
  where
    by : (o : Option (List ℕ)) → length (before_mark bs) ≤ length bs → length (cut_at o (b ∷ before_mark bs)) ≤ suc (length bs)
    by None h = omega (arith, h)
    by (Some after) h = omega arith

wider : (m n : ℕ) (ps : List ℕ) → m ≤ n → AreWithin m ps → AreWithin n ps
wider m n [] e h = tt
wider m n (p ∷ ps) e h = let k = h.0 in (omega (arith, e, k), wider m n ps e h.1)

text_within : (text : List ℕ) (ls : List Lexeme) → IsTokensOf (before_mark text) ls → AreWithin (length text) (places_in ls)
text_within text ls are =
    wider (length (before_mark text)) (length text) (places_in ls) (mark_short text) (first_within first_pieces (length (before_mark text)) (before_mark text) ls are)

one_within : (n : ℕ) (ps : List ℕ) (i at : ℕ) → AreWithin n ps → slice_get ps i ≡ Some at → at ≤ n
one_within n [] i at h e = absurd (none-some at e)
one_within n (p ∷ ps) zero at h e = subst (λ x. x ≤ n) (same_Some p at e) h.0
one_within n (p ∷ ps) (suc i) at h e = one_within n ps i at h.1 e

pub read_within : (text : List ℕ) (e : CError) → IsReadAs text (Err e) → IsWithin text e
read_within text (Unexpected at) is = one_within (length text) (places_in is.lexemes) is.is.0 at (text_within text is.lexemes is.tokens) is.is.1
read_within text EndOfText is = tt
read_within text (Kind rule at) is =
    told_within (places_in is.lexemes) is.unit (length text) (record { at = at; rule = rule }) (text_within text is.lexemes is.reads.tokens) is.least
read_within text (Limit n) is = tt
read_within text Memory is = tt
