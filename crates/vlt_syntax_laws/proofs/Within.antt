-- The place of a token that is refused is one of the text.
use Rattle.std.proofs.Common.{◌≡◌, ℕ, zero, suc, ◌≤◌, List, [], ◌∷◌, length, slice_get, Some, subst, arith}
use Rattle.vlt_tokens.specs.Lexemes.{Lexeme}
use Rattle.vlt_lexer.specs.Text.{AreSlicesOf}
use Rattle.vlt_syntax.specs.Refusals.{unexpected_at, IsRefusal}

lexeme_within : (bytes : List ℕ) (start : ℕ) (ls : List Lexeme) (i : ℕ) (l : Lexeme) → AreSlicesOf bytes start ls → slice_get ls i ≡ Some l → l.from ≤ length bytes
lexeme_within bytes start [] i l are e = absurd cc
lexeme_within bytes start (x ∷ xs) zero l are e =
    let same : x ≡ l = cc in
    let within : x.from ≤ length bytes = omega (arith, are.1, are.2) in
    subst (λ z. z.from ≤ length bytes) same within
lexeme_within bytes start (x ∷ xs) (suc i) l are e = lexeme_within bytes x.to xs i l are.4 e

pub place_within : (bytes : List ℕ) (ls : List Lexeme) (at : ℕ) → AreSlicesOf bytes 0 ls → IsRefusal ls (unexpected_at at) → at ≤ length bytes
place_within bytes ls at are (i, first, begins) = subst (λ n. n ≤ length bytes) begins.place (lexeme_within bytes 0 ls i begins.lexeme are begins.there)
