-- No place of a text's tree lies after the text.
use Rattle.std.proofs.Common.{◌≡◌, ◌-◌, ◌≤◌, ℕ, zero, suc, List, [], ◌∷◌, map, length, min, sym, ap, ap₂, ◌∙◌, arith}
use Rattle.std.specs.Prelude.{slice_index_or}
use Rattle.std.proofs.Math.Nat.{min-eq_left}
use Rattle.vlt_base.specs.declared.places.Span.{Span}
use Rattle.vlt_tokens.specs.Lexemes.{Lexeme}
use Rattle.vlt_lexer.specs.Text.{IsTokensOf, AreSlicesOf}
use Rattle.vlt_lexer.proofs.Slices.{tokens_slices}
use Rattle.vlt_syntax.specs.Tree.{Tree}
use Rattle.vlt_syntax.specs.Places.{each_at, decl_at, span_in, StandsIn}
use Rattle.vlt_syntax_copies.specs.Mapped.{mapped_decl}
use Rattle.vlt_syntax_copies.specs.Within.{cut_span, AreWithin}
use Rattle.vlt_syntax_copies.proofs.Placed.{each_kept, decl}

begins : (bytes : List ℕ) (start : ℕ) (ls : List Lexeme) → AreSlicesOf bytes start ls → (i : ℕ) → slice_index_or (map (λ l. l.from) ls) i 0 ≤ length bytes
begins bytes start [] are i = omega arith
begins bytes start (l ∷ ls) are zero = omega (arith, are.1, are.2)
begins bytes start (l ∷ ls) are (suc i) = begins bytes l.to ls are.4 i

ends : (bytes : List ℕ) (start : ℕ) (ls : List Lexeme) → AreSlicesOf bytes start ls → (i : ℕ) → slice_index_or (map (λ l. l.to) ls) i 0 ≤ length bytes
ends bytes start [] are i = omega arith
ends bytes start (l ∷ ls) are zero = are.2
ends bytes start (l ∷ ls) are (suc i) = ends bytes l.to ls are.4 i

below : (n m end : ℕ) → n ≤ m → m ≤ end → min n end ≡ n
below n m end low high =
    let most : n ≤ end = omega (arith, low, high) in
    min-eq_left most

kept : (bytes : List ℕ) (ls : List Lexeme) (end : ℕ) → AreSlicesOf bytes 0 ls → length bytes ≤ end → (i j : ℕ) → cut_span end (span_in ls i j) ≡ span_in ls i j
kept bytes ls end are short i j =
    ap₂ (λ x y. let made : Span = record { from = x; to = y } in made)
    (below _ (length bytes) end (begins bytes 0 ls are i) short)
    (below _ (length bytes) end (ends bytes 0 ls are (j - 1)) short)

pub text_within : (bytes : List ℕ) (ls : List Lexeme) (t : Tree) (end : ℕ) → IsTokensOf bytes ls → StandsIn ls t → length bytes ≤ end → AreWithin end t
text_within bytes ls t end tokens stands short =
    let same : (each_at decl_at t.decls (span_in ls) 0).0 ≡ t.decls = ap (λ (x : Tree). x.decls) stands in
    let cut = cut_span end in
    let stays = kept bytes ls end (tokens_slices bytes ls tokens) short in
    ap (map (mapped_decl cut)) (sym same) ∙
    (each_kept (span_in ls) cut stays (mapped_decl cut) decl_at (decl (span_in ls) cut stays) t.decls 0 ∙ same)
