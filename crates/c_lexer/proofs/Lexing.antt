-- Token by token.
use Rattle.std.proofs.Common.{◌≡◌, ℕ, ◌+◌, ◌-◌, List, [], ◌∷◌, ◌++◌, Some, None, length, take, arith, refl, sym, ap, subst, ◌∙◌, append_assoc}
use Rattle.std.proofs.lemmas.List.{map-append, length-append, take_at, append-nil}
use Rattle.c_syntax.specs.Tokens.{Token}
use Rattle.c_syntax.specs.Text.{before_mark, following, cut_at, mark, Lexeme, Piece, piece, past_run, is_blank, IsAt, AreTokensOf, AreFirst}
use Rattle.c_lexer.specs.declared.token.Lexeme.{Lexeme as CodeLexeme}
use Rattle.c_syntax.specs.Reading.{tokens_in}
use Rattle.c_lexer.specs.View.{lexeme_of, lexemes_of, tokens_from}
use Rattle.c_lexer.specs.Steps.{IsFirst, IsPiece}

-- the tokens of the rest of a text, which begins with no blank
abbrev pub AreNext : ℕ → List ℕ → List Lexeme → Type 0
AreNext total bs [] = bs ≡ []
AreNext total bs (l ∷ ls) = (b : ℕ) × (rest : List ℕ) × (bs ≡ b ∷ rest) × IsAt total (b ∷ rest) l ((piece b rest).0) × AreTokensOf total ((piece b rest).1) ls

pub are_next : (total : ℕ) (bs : List ℕ) (ls : List Lexeme) → AreNext total (past_run is_blank bs) ls → AreTokensOf total bs ls
are_next total bs [] h = h
are_next total bs (l ∷ ls) h = h

pub next_step : (total : ℕ) (bytes after : List ℕ) (token : Token) (l : Lexeme) (ls : List Lexeme) → IsPiece bytes token after → l.token ≡ token → l.at + length bytes ≡ total
    → AreNext total (past_run is_blank after) ls → AreNext total bytes (l ∷ ls)
next_step total bytes after token l ls f is at rest =
    (f.byte, f.rest, f.begins, (is ∙ f.is, ap (λ x. l.at + length x) (sym f.begins) ∙ at), subst (λ x. AreTokensOf total x ls) f.following (are_next total after ls rest))

pub first_step : (p : ℕ → List ℕ → Piece) (ps : List (ℕ → List ℕ → Piece)) (total : ℕ) (bytes after : List ℕ) (token : Token) (l : Lexeme) (ls : List Lexeme) → IsFirst p bytes token after → l.token ≡ token → l.at + length bytes ≡ total
    → AreFirst ps total after ls → AreFirst (p ∷ ps) total bytes (l ∷ ls)
first_step p ps total bytes after token l ls f is at rest =
    subst (λ x. AreFirst (p ∷ ps) total x (l ∷ ls)) (sym f.begins) ((is ∙ f.is, ap (λ x. l.at + length x) (sym f.begins) ∙ at), subst (λ x. AreFirst ps total x ls) f.following rest)

-- one more in the code's list
pub one_more : (all before : List CodeLexeme) (l : CodeLexeme) (ls : List Lexeme) → all ≡ before ++ l ∷ [] → lexemes_of all ++ ls ≡ lexemes_of before ++ lexeme_of l ∷ ls
one_more all before l ls grown =
    ap (λ x. lexemes_of x ++ ls) grown ∙ ap (λ x. x ++ ls) (map-append lexeme_of before (l ∷ [])) ∙ append_assoc (lexemes_of before) (lexeme_of l ∷ []) ls

-- where nothing is left, no token stands
pub no_first : (ps : List (ℕ → List ℕ → Piece)) (total : ℕ) (bytes : List ℕ) → bytes ≡ [] → AreFirst ps total bytes []
no_first [] total bytes e = ap (past_run is_blank) e
no_first (p ∷ ps) total bytes e = subst (λ x. AreFirst (p ∷ ps) total x []) (sym e) refl

-- ---- the certificate

-- no mark begins in what stands before the rest
pub record Cuts (bytes rest : List ℕ) : Type 0 where
  pub front : List ℕ
  pub whole : bytes ≡ front ++ rest
  pub same : before_mark bytes ≡ front ++ before_mark rest

pub cut_start : (bytes : List ℕ) → Cuts bytes bytes
cut_start bytes = record { front = []; whole = refl; same = refl }

pub cut_more : (bytes rest after : List ℕ) (b : ℕ) → Cuts bytes rest → rest ≡ b ∷ after → following mark rest ≡ None → Cuts bytes after
cut_more bytes rest after b h is none =
    let here : before_mark (b ∷ after) ≡ b ∷ before_mark after = ap (λ x. cut_at x (b ∷ before_mark after)) (ap (following mark) (sym is) ∙ none) in
    record {
      front = h.front ++ b ∷ [];
      whole = h.whole ∙ ap (λ x. h.front ++ x) is ∙ sym (append_assoc h.front (b ∷ []) after);
      same = h.same ∙ ap (λ x. h.front ++ x) (ap before_mark is ∙ here) ∙ sym (append_assoc h.front (b ∷ []) (before_mark after));
    }

pub cut_here : (bytes rest after after_mark : List ℕ) (b : ℕ) → Cuts bytes rest → rest ≡ b ∷ after → following mark rest ≡ Some after_mark → take (length bytes - length rest) bytes ≡ before_mark bytes
cut_here bytes rest after after_mark b h is some =
    let size : length bytes ≡ length h.front + length rest = ap length h.whole ∙ length-append h.front rest in
    let none : before_mark rest ≡ [] = ap before_mark is ∙ ap (λ x. cut_at x (b ∷ before_mark after)) (ap (following mark) (sym is) ∙ some) in
    ap (take (length bytes - length rest)) h.whole ∙ take_at h.front rest (length bytes - length rest) (omega (arith, size))
    ∙ sym (h.same ∙ ap (λ x. h.front ++ x) none ∙ append-nil h.front)

pub cut_none : (bytes rest : List ℕ) → Cuts bytes rest → rest ≡ [] → bytes ≡ before_mark bytes
cut_none bytes rest h is = h.whole ∙ sym (h.same ∙ ap (λ x. h.front ++ x) (ap before_mark is ∙ sym is))

-- ---- views

pub tokens_same : (ls : List CodeLexeme) → tokens_in (lexemes_of ls) ≡ tokens_from ls 0
tokens_same [] = refl
tokens_same (l ∷ ls) = ap (λ ts. (lexeme_of l).token ∷ ts) (tokens_same ls)
