-- How a reading grows by one step.
use Rattle.std.proofs.Common.{◌≡◌, ℕ, ◌+◌, ◌-◌, List, [], ◌∷◌, ◌++◌, length, take, refl, sym, ap, subst, ◌∙◌, arith, append-nil}
use Rattle.std.specs.Str.{chars, IsUtf8}
use Rattle.vlt_tokens.specs.declared.token.Token.{Token}
use Rattle.vlt_lexer.specs.declared.scan.Stuck.{Stuck}
use Rattle.vlt_lexer.specs.declared.scan.Stuck.TheVariants as stuck
use Rattle.vlt_tokens.specs.Lexemes.{Lexeme, lexeme, lexemes}
use Rattle.vlt_lexer.specs.Reading.{IsGap, IsToken, Reads, nothing, gap, token}
use Rattle.vlt_lexer.specs.Text.{StopsAt, IsRefused}
use Rattle.vlt_lexer.specs.Places.{error_at}
use Rattle.vlt_lexer.proofs.Bytes.{front_bytes, width_chars}
use Rattle.vlt_lexer.proofs.Found.{Stands}

pub stands_token : (total : ℕ) (left after : List ℕ) (l : Lexeme) → IsUtf8 left → IsUtf8 after → Stands l.kind (chars left) (chars after)
    → l.text ≡ take (length left - length after) left → l.from + length left ≡ total → l.to + length after ≡ total → IsToken total (chars left) l (chars after)
stands_token total left after l u v stands text from to = record {
  piece = stands.0;
  begins = stands.1;
  longest = stands.2;
  kind = stands.3;
  text = text ∙ front_bytes left after stands.0 u v stands.1;
  from = ap (λ n. l.from + n) (width_chars left u) ∙ from;
  to = ap (λ n. l.to + n) (width_chars after v) ∙ to;
}

-- whatever is read from here on is read after what was found
pub record Found (total : ℕ) (text : List ℕ) (found : List Token) (left : List ℕ) : Type 0 where
  pub goes_on : (ls : List Lexeme) (last : List ℕ) → Reads total left ls last → Reads total text (lexemes found ++ ls) last

pub found_none : (total : ℕ) (text : List ℕ) → Found total text [] text
found_none total text = record { goes_on = λ ls last r. r }

pub found_gap : (total : ℕ) (text : List ℕ) (found : List Token) (left after : List ℕ) → IsGap left after → Found total text found left → Found total text found after
found_gap total text found left after g f = record { goes_on = λ ls last r. f.goes_on ls last (gap left after ls last g r) }

one_more : (found : List Token) (t : Token) (ls : List Lexeme) → lexemes (found ++ t ∷ []) ++ ls ≡ lexemes found ++ lexeme t ∷ ls
one_more [] t ls = refl
one_more (s ∷ found) t ls = ap (λ x. lexeme s ∷ x) (one_more found t ls)

pub found_token : (total : ℕ) (text : List ℕ) (found new : List Token) (t : Token) (left after : List ℕ) → new ≡ found ++ t ∷ [] → IsToken total left (lexeme t) after → Found total text found left → Found total text new after
found_token total text found new t left after e is f = record {
  goes_on = λ ls last r. subst (λ x. Reads total text x last) (sym (ap (λ x. lexemes x ++ ls) e ∙ one_more found t ls)) (f.goes_on (lexeme t ∷ ls) last (token left (lexeme t) after ls last is r));
}

-- what was found is read
pub found_reads : (total : ℕ) (text : List ℕ) (found : List Token) (left : List ℕ) → Found total text found left → Reads total text (lexemes found) left
found_reads total text found left f = subst (λ x. Reads total text x left) (append-nil (lexemes found)) (f.goes_on [] left (nothing left))

pub length_lexemes : (found : List Token) → length (lexemes found) ≡ length found
length_lexemes [] = refl
length_lexemes (t ∷ found) = omega (arith, length_lexemes found)

pub placed_refused : (f : Stuck) (at : ℕ) (text : List ℕ) → IsUtf8 text → StopsAt f at text → IsRefused text (error_at f at)
placed_refused stuck.BadByte at text u h = (u, h)
placed_refused stuck.NumberTooLarge at text u h = (u, h)
placed_refused stuck.OpenComment at text u h = (u, h)

-- past blanks, no more is read
pub found_skipped : (total : ℕ) (text : List ℕ) (found : List Token) (left front : List ℕ) → ((whole : ℕ) (ls : List Lexeme) (last : List ℕ) → Reads whole front ls last → Reads whole left ls last) → Found total text found left → Found total text found front
found_skipped total text found left front reads f = record { goes_on = λ ls last r. f.goes_on ls last (reads total ls last r) }
