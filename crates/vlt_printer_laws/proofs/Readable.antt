-- Texts that are read to their end, built from the right.
use Rattle.std.proofs.Common.{◌≡◌, ◌≤◌, ℕ, ◌+◌, ◌-◌, ◌<◌, true, List, [], ◌∷◌, ◌++◌, length, refl, sym, ap, ap₂, subst, ◌∙◌, arith, length-append}
use Rattle.std.specs.Prelude.{encode_utf8_all}
use Rattle.std.specs.Str.{chars}
use Rattle.std.proofs.lemmas.Bool.Decides.{nat_tests}
use Rattle.std.proofs.lemmas.Str.{encode_ascii, encodes-append, chars-encodes}
use Rattle.std.proofs.Math.Utf8.{low_scalar}
use Rattle.vlt_tokens.specs.declared.token.TokenKind.{TokenKind}
use Rattle.vlt_tokens.specs.Characters.{is_blank, width}
use Rattle.vlt_tokens.specs.Lexemes.{IsLongest, IsOf, Lexeme}
use Rattle.vlt_lexer.specs.Reading.{IsToken, blank, Reads, nothing, gap, token}
use Rattle.vlt_lexer.specs.Text.{IsTokensOf}
use Rattle.vlt_syntax.specs.Tokens.{Token, token_from, tokens_in}
use Rattle.vlt_printer_laws.proofs.Scalars.{AreScalars, scalars_joined}

-- the rest of a text of so many bytes is read to its end as these tokens
abbrev pub ReadsAs : ℕ → List ℕ → List Token → Type 0
ReadsAs total cs ts = (ls : List Lexeme) × Reads total cs ls [] × (tokens_in ls ≡ ts)

-- the bytes are these characters, which are read as these tokens, whatever stands before them
pub record Readable (bytes cs : List ℕ) (ts : List Token) : Type 0 where
  pub bytes_are : bytes ≡ encode_utf8_all cs
  pub scalar : AreScalars cs
  pub reads : (total : ℕ) → width cs ≤ total → ReadsAs total cs ts

pub nothing_readable : Readable [] [] []
nothing_readable = record { bytes_are = refl; scalar = refl; reads = λ total fits. ([], nothing [], refl) }

small_blank : (c : ℕ) → is_blank c ≡ true → c < 128
small_blank c is = grind (arith, nat_tests)

-- a blank before a text
pub blank_readable : (c : ℕ) (after cs : List ℕ) (ts : List Token) → is_blank c ≡ true → Readable after cs ts → Readable (c ∷ after) (c ∷ cs) ts
blank_readable c after cs ts is r =
    let small = small_blank c is in
    let one = encode_ascii c small in
    let bytes_are : c ∷ after ≡ encode_utf8_all (c ∷ cs) = ap₂ (λ a b. a ++ b) (sym one) r.bytes_are in
    let wide : width (c ∷ cs) ≡ 1 + width cs = ap length (ap (λ x. x ++ encode_utf8_all cs) one) ∙ omega arith in
    record {
      bytes_are = bytes_are;
      scalar = rw (low_scalar c (omega arith)) r.scalar;
      reads = λ total fits. let h = r.reads total (omega arith) in (h.0, gap (c ∷ cs) cs h.0 [] (blank (c ∷ cs) c cs refl is) h.1, h.2);
    }

joined_width : (front rest : List ℕ) → width (front ++ rest) ≡ width front + width rest
joined_width front rest = ap length (encodes-append front rest) ∙ length-append (encode_utf8_all front) (encode_utf8_all rest)

-- a token before a text, where it is the longest piece there
pub token_readable : (k : TokenKind) (piece bytes after cs : List ℕ) (ts : List Token) → IsOf k piece → bytes ≡ encode_utf8_all piece → AreScalars piece
    → IsLongest piece (piece ++ cs) → Readable after cs ts → Readable (bytes ++ after) (piece ++ cs) (token_from k bytes ∷ ts)
token_readable k piece bytes after cs ts is e s longest r = record {
  bytes_are = ap₂ (λ a b. a ++ b) e r.bytes_are ∙ sym (encodes-append piece cs);
  scalar = scalars_joined piece cs s r.scalar;
  reads = reads;
}
  where
    reads : (total : ℕ) → width (piece ++ cs) ≤ total → ReadsAs total (piece ++ cs) (token_from k bytes ∷ ts)
    reads total fits =
        let wide : width (piece ++ cs) ≡ width piece + width cs = joined_width piece cs in
        let h = r.reads total (omega arith) in
        let l : Lexeme = record { kind = k; text = bytes; from = total - width (piece ++ cs); to = total - width cs } in
        let t : IsToken total (piece ++ cs) l cs = record {
          piece = piece;
          begins = refl;
          longest = longest;
          kind = is;
          text = e;
          from = omega arith;
          to = omega arith;
        } in
        (l ∷ h.0, token (piece ++ cs) l cs h.0 [] t h.1, ap (λ x. token_from k bytes ∷ x) h.2)

-- such a text is one of these tokens
pub readable_tokens : (bytes cs : List ℕ) (ts : List Token) → Readable bytes cs ts → (ms : List Lexeme) × IsTokensOf bytes ms × (tokens_in ms ≡ ts)
readable_tokens bytes cs ts r =
    let same : chars bytes ≡ cs = ap chars r.bytes_are ∙ chars-encodes cs r.scalar in
    let h = r.reads (length bytes) (omega (arith, ap length r.bytes_are)) in
    (h.0, ((cs, (r.scalar, sym r.bytes_are)), subst (λ x. Reads (length bytes) x h.0 []) (sym same) h.1), h.2)
