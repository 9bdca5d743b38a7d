-- What all tokens of texts have, each token has that is one of a text; and the tree of one text is spelled with those of texts.
use Rattle.std.proofs.Common.{◌≡◌, ◌≤◌, inl, inr, ℕ, List, [], ◌∷◌, length, refl, sym, subst}
use Rattle.std.proofs.lemmas.List.{length-map}
use Rattle.vlt_base.specs.Limits.{limit_of}
use Rattle.vlt_tokens.specs.Lexemes.{Lexeme}
use Rattle.vlt_lexer.specs.Text.{IsTokensOf}
use Rattle.vlt_syntax.specs.Tokens.{Token, token_from, tokens_in}
use Rattle.vlt_syntax.specs.Tree.{Decl, Tree}
use Rattle.vlt_syntax.specs.Lists.{Each, each_then}
use Rattle.vlt_syntax.specs.Spelling.{decl_then, spelling}
use Rattle.cert_text_laws.specs.Texts.{IsAmong, IsInText, IsShort}
use Rattle.cert_text_laws.proofs.Shorter.{over, after_decl}

-- ---- from texts to a token

among_has : (P : Token → Type 0) (x : Token) (ys : List Token) → Each P ys → IsAmong x ys → P x
among_has P x [] h m = absurd m
among_has P x (y ∷ ys) h (inl e) = subst P (sym e) h.0
among_has P x (y ∷ ys) h (inr more) = among_has P x ys h.1 more

module _ (P : Token → Type 0) (all : (bytes : List ℕ) (ls : List Lexeme) → IsTokensOf bytes ls → Each P (tokens_in ls)) where
  pub each_has : (xs : List Token) → Each IsInText xs → Each P xs
  each_has [] h = tt
  each_has (x ∷ xs) h = (among_has P x (tokens_in h.0.lexemes) (all h.0.bytes h.0.lexemes h.0.read) h.0.one, each_has xs h.1)

-- ---- the tree of one text

among_more : (y : Token) (ys xs : List Token) → Each (λ x. IsAmong x ys) xs → Each (λ x. IsAmong x (y ∷ ys)) xs
among_more y ys [] h = tt
among_more y ys (x ∷ xs) h = (inr h.0, among_more y ys xs h.1)

all_among : (xs : List Token) → Each (λ x. IsAmong x xs) xs
all_among [] = tt
all_among (x ∷ xs) = (inl refl, among_more x xs xs (all_among xs))

module _ (bytes : List ℕ) (ls : List Lexeme) (read : IsTokensOf bytes ls) where
  all_in : (xs : List Token) → Each (λ x. IsAmong x (tokens_in ls)) xs → Each IsInText xs
  all_in [] h = tt
  all_in (x ∷ xs) h = (record { bytes = bytes; lexemes = ls; read = read; one = h.0 }, all_in xs h.1)

  pub spelled_in : (t : Tree) → tokens_in ls ≡ spelling t → Each IsInText (spelling t)
  spelled_in t e = subst (Each IsInText) e (all_in (tokens_in ls) (all_among (tokens_in ls)))

short_each : (ds : List Decl) (rest : List Token) → length (each_then decl_then ds rest) ≤ limit_of 3 → Each IsShort ds
short_each [] rest h = tt
short_each (d ∷ ds) rest h = ((each_then decl_then ds rest, h), short_each ds rest (over (after_decl d _) h))

pub short_in : (ls : List Lexeme) (t : Tree) → length ls ≤ limit_of 3 → tokens_in ls ≡ spelling t → Each IsShort t.decls
short_in ls t few e =
    short_each t.decls [] (subst (λ ts. length ts ≤ limit_of 3) e (subst (λ n. n ≤ limit_of 3) (sym (length-map ls (λ (l : Lexeme). token_from l.kind l.text))) few))
