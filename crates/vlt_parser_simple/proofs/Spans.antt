-- The spans of `input()` and `more()`.
use Rattle.std.proofs.Common.{◌≡◌, ℕ, ◌+◌, List, sym, ap, ◌∙◌, arith}
use Rattle.vlt_base.specs.declared.places.Span.{Span}
use Rattle.vlt_tokens.specs.declared.token.Token.{Token as CodeToken}
use Rattle.vlt_syntax.specs.Tree as s
use Rattle.vlt_syntax.specs.Places.{right_at}
use Rattle.vlt_parser_exprs.specs.Reading.{spans, Stands}

pub input_stands : (tokens : List CodeToken) (at next : ℕ) (span : Span) → next ≡ at + 1 + 1 + 1 → span ≡ spans tokens at next → Stands right_at tokens at (s.input span) next
input_stands tokens at next span is same =
    let three : at + 3 ≡ next = omega (arith, is) in
    ap (λ n. (s.input (spans tokens at n), n)) three ∙ ap (λ z. (s.input z, next)) (sym same)

pub more_stands : (tokens : List CodeToken) (at next : ℕ) (span : Span) → next ≡ at + 1 + 1 + 1 → span ≡ spans tokens at next → Stands right_at tokens at (s.more span) next
more_stands tokens at next span is same =
    let three : at + 3 ≡ next = omega (arith, is) in
    ap (λ n. (s.more (spans tokens at n), n)) three ∙ ap (λ z. (s.more z, next)) (sym same)
