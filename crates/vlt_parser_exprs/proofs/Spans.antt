-- The spans of single tokens.
use Rattle.std.proofs.Common.{◌≡◌, ℕ, zero, suc, ◌+◌, ◌-◌, List, [], ◌∷◌, map, refl, sym, ap, ◌∙◌, arith, slice_index_or}
use Rattle.vlt_base.specs.declared.places.Span.{Span}
use Rattle.vlt_tokens.specs.declared.token.Token.{Token as CodeToken}
use Rattle.vlt_tokens.specs.Lexemes.{lexemes}
use Rattle.vlt_syntax.specs.Tree.{Name}
use Rattle.vlt_syntax.specs.Places.{name_at}
use Rattle.vlt_parser_exprs.specs.Reading.{spans, Stands}

from_of : (tokens : List CodeToken) (i : ℕ) (d : CodeToken) → d.at.from ≡ 0 → (slice_index_or tokens i d).at.from ≡ slice_index_or (map (λ l. l.from) (lexemes tokens)) i 0
from_of [] i d none = none
from_of (x ∷ xs) zero d none = refl
from_of (x ∷ xs) (suc i) d none = from_of xs i d none

to_of : (tokens : List CodeToken) (i : ℕ) (d : CodeToken) → d.at.to ≡ 0 → (slice_index_or tokens i d).at.to ≡ slice_index_or (map (λ l. l.to) (lexemes tokens)) i 0
to_of [] i d none = none
to_of (x ∷ xs) zero d none = refl
to_of (x ∷ xs) (suc i) d none = to_of xs i d none

-- from the first byte of a token up to after another
pub span_is : (tokens : List CodeToken) (i j : ℕ) (d : CodeToken) → d.at.from ≡ 0 → d.at.to ≡ 0
    → (let r : Span = record { from = (slice_index_or tokens i d).at.from; to = (slice_index_or tokens (j - 1) d).at.to } in r ≡ spans tokens i j)
span_is tokens i j d none also =
    ap (λ f. let r : Span = record { from = f; to = (slice_index_or tokens (j - 1) d).at.to } in r) (from_of tokens i d none)
    ∙ ap (λ t. let r : Span = record { from = slice_index_or (map (λ l. l.from) (lexemes tokens)) i 0; to = t } in r) (to_of tokens (j - 1) d also)

-- the span of one token
pub one_span : (tokens : List CodeToken) (i : ℕ) (x : CodeToken) → ((d : CodeToken) → x ≡ slice_index_or tokens i d) → spans tokens i (i + 1) ≡ x.at
one_span tokens i x is =
    let other : CodeToken = record { kind = x.kind; text = x.text; at = record { from = 0; to = 0 } } in
    let same : (i + 1) - 1 ≡ i = omega arith in
    sym (span_is tokens i (i + 1) other refl refl)
    ∙ ap (λ j. let r : Span = record { from = (slice_index_or tokens i other).at.from; to = (slice_index_or tokens j other).at.to } in r) same
    ∙ ap (λ z. z.at) (sym (is other))

pub name_stands : (tokens : List CodeToken) (i : ℕ) (x : CodeToken) (text : List ℕ) → ((d : CodeToken) → x ≡ slice_index_or tokens i d) → Stands name_at tokens i (record { text = text; at = x.at }) (i + 1)
name_stands tokens i x text is = ap (λ at. let n : Name = record { text = text; at = at } in (n, i + 1)) (one_span tokens i x is)
