-- The canonical text of a program is a text of that program.
use Rattle.std.proofs.Common.{◌≡◌, ◌<◌, ℕ, ◌+◌, nat_lt, true, false, List, [], ◌∷◌, ◌++◌, length, Option, Some, None, refl, sym, ap, ◌∙◌, subst, arith, append_assoc}
use Rattle.std.specs.Fmt.{decimal}
use Rattle.std.proofs.lemmas.Bool.Decides.{nat_tests}
use Rattle.std.proofs.lemmas.List.{length-append, append-nil}
use Rattle.vlt_base.specs.declared.places.Span.{Span}
use Rattle.c_syntax.specs.C.{Program}
use Rattle.c_syntax.specs.Tokens.{Token, include_text, define_text}
use Rattle.c_syntax.specs.Text.{Lexeme, mark, before_mark, IsTokensOf}
use Rattle.c_syntax.specs.Spelling.{functions_then}
use Rattle.c_syntax.specs.Grammar.{language}
use Rattle.c_syntax.specs.Reading.{cert_of, places_in, IsUnitOf, IsCProgramOf}
use Rattle.c_syntax.specs.Canonical.{unit_of, text_of_tokens, canonical_text, IsProgram}
use Rattle.c_reader_laws.specs.PrinterLaws.ReadAgain.{ReadsAs, AreReadAgain}
use Rattle.c_reader_laws.proofs.OfPrinterLaws.Plain.{ArePlain, functions_plain}
use Rattle.c_reader_laws.proofs.OfPrinterLaws.Lexed.{first_lines, all_lexed, all_tokens, text_read, text_unmarked}
use Rattle.c_reader_laws.proofs.OfPrinterLaws.Units.{program_again}

-- the tokens after the two first lines
abbrev tokens_of : Program → List Token
tokens_of p = functions_then (unit_of p) []

-- the canonical text, put together from its end
abbrev text_of : Program → List ℕ
text_of p = first_lines (unit_of p).main (text_of_tokens (tokens_of p))

laid : (p : Program) → canonical_text p ≡ text_of p
laid p = ap (λ y. include_text ++ 10 ∷ (define_text ++ y)) (append_assoc (decimal (unit_of p).main) (10 ∷ []) (text_of_tokens (tokens_of p)))

plain : (p : Program) → IsProgram p → ArePlain (tokens_of p)
plain p is = functions_plain language (unit_of p).heads (unit_of p).bodies is.within

-- no mark of a certificate stands in the text
unmarked : (p : Program) (tail : List ℕ) → IsProgram p → before_mark (text_of p ++ tail) ≡ text_of p ++ before_mark tail
unmarked p tail is = let r = is.readable in text_unmarked (unit_of p).main (tokens_of p) tail r.1.1.1.0 (plain p is) r.1.1.1.1.1

abbrev lexemes_of : Program → List Lexeme
lexemes_of p = all_lexed (length (text_of p)) (unit_of p).main (tokens_of p)

unit_again : (p : Program) (bytes : List ℕ) → IsProgram p → before_mark bytes ≡ text_of p → IsUnitOf bytes (lexemes_of p) (unit_of p)
unit_again p bytes is cut =
    let r = is.readable in
    let read : IsTokensOf (text_of p) (lexemes_of p) = text_read (length (text_of p)) (unit_of p).main (tokens_of p) r.1.1.1.0 (plain p is) r.1.1.1.1.1 (omega arith) in
    record {
      tokens = subst (λ bs. IsTokensOf bs (lexemes_of p)) (sym cut) read;
      spelled = all_tokens (length (text_of p)) (unit_of p).main (tokens_of p);
      within = is.within;
    }

reads : (p : Program) (bytes : List ℕ) (cert : Option Span) → IsProgram p → before_mark bytes ≡ text_of p → cert ≡ cert_of bytes → IsCProgramOf bytes p cert
reads p bytes cert is cut span = record {
  lexemes = lexemes_of p;
  unit = unit_of p;
  reads = unit_again p bytes is cut;
  kinds = is.kinds (places_in (lexemes_of p));
  program = program_again p is;
  span = span;
}

-- ---- the certificate

whole : (bytes : List ℕ) → before_mark bytes ≡ bytes → None ≡ cert_of bytes
whole bytes cut = rw cut (rw (equal (length bytes)) refl)
  where
    equal : (n : ℕ) → nat_lt n n ≡ false
    equal n = grind (arith, nat_tests)

cut_off : (bytes front : List ℕ) → before_mark bytes ≡ front → length front < length bytes → Some (record { from = length front; to = length bytes }) ≡ cert_of bytes
cut_off bytes front cut less = rw cut (rw (is_less (length front) (length bytes) less) refl)
  where
    is_less : (m n : ℕ) → m < n → nat_lt m n ≡ true
    is_less m n h = grind (arith, h, nat_tests)

text_again : (p : Program) → IsProgram p → ReadsAs (text_of p) p
text_again p is = record {
  alone = let cut : before_mark (text_of p) ≡ text_of p = ap before_mark (sym (append-nil (text_of p))) ∙ unmarked p [] is ∙ append-nil (text_of p) in reads p (text_of p) None is cut (whole (text_of p) cut);
  certified = λ more.
      let bytes : List ℕ = text_of p ++ mark ++ more in
      let joined : bytes ≡ text_of p ++ (mark ++ more) = append_assoc (text_of p) mark more in
      let cut : before_mark bytes ≡ text_of p = ap before_mark joined ∙ unmarked p (mark ++ more) is ∙ append-nil (text_of p) in
      let size : length bytes ≡ length (text_of p) + length (mark ++ more) = ap length joined ∙ length-append (text_of p) (mark ++ more) in
      let some : length (mark ++ more) ≡ length mark + length more = length-append mark more in
      reads p bytes (Some (record { from = length (text_of p); to = length bytes })) is cut (cut_off bytes (text_of p) cut (omega (arith, size, some)));
}

pub read_again : AreReadAgain
read_again p is = subst (λ text. ReadsAs text p) (sym (laid p)) (text_again p is)
