-- By the grammar alone: tokens are refused in one way, and those of a tree in none.
use Rattle.std.proofs.Common.{◌≡◌, ℕ, zero, suc, ◌≤◌, List, [], ◌∷◌, ◌++◌, take, slice_get, Some, refl, sym, ap, subst, ◌∙◌, inl, inr, arith, append_assoc}
use Rattle.vlt_tokens.specs.Lexemes.{Lexeme}
use Rattle.vlt_syntax.specs.Tokens.{Token, tokens_in}
use Rattle.vlt_syntax.specs.Tree.{Tree}
use Rattle.vlt_syntax.specs.Grammar.{IsTree, language}
use Rattle.vlt_syntax.specs.Spelling.{spelling}
use Rattle.vlt_syntax.specs.Refusals.{Asked, any_size, within, Continues, IsUnexpectedAt, IsOverLimitAt, Cause, unexpected, over, number, IsFirstRefused, Refusal, unexpected_at, over_limit, ended, BeginsAt, IsRefusal}

pub prefix : (i j : ℕ) (ts : List Token) → i ≤ j → (zs : List Token) × (take j ts ≡ take i ts ++ zs)
prefix zero j ts h = (take j ts, refl)
prefix (suc i) zero ts h = absurd (omega arith)
prefix (suc i) (suc j) [] h = ([], refl)
prefix (suc i) (suc j) (t ∷ ts) h = let p = prefix i j ts (omega arith) in (p.0, ap (λ xs. t ∷ xs) p.1)

-- where a longer beginning goes on, a shorter one does
pub shorter : (asked : Asked) (i j : ℕ) (ts : List Token) → i ≤ j → Continues asked (take j ts) → Continues asked (take i ts)
shorter asked i j ts le (t, more, one, e) =
    let p = prefix i j ts le in
    (t, p.0 ++ more, one, e ∙ ap (λ xs. xs ++ more) p.1 ∙ append_assoc (take i ts) p.0 more)

whole : (i : ℕ) (ts : List Token) → (zs : List Token) × (ts ≡ take i ts ++ zs)
whole zero ts = (ts, refl)
whole (suc i) [] = ([], refl)
whole (suc i) (t ∷ ts) = let p = whole i ts in (p.0, ap (λ xs. t ∷ xs) p.1)

pub shorter_all : (asked : Asked) (i : ℕ) (ts : List Token) → Continues asked ts → Continues asked (take i ts)
shorter_all asked i ts (t, more, one, e) =
    let p = whole i ts in
    (t, p.0 ++ more, one, e ∙ ap (λ xs. xs ++ more) p.1 ∙ append_assoc (take i ts) p.0 more)

-- within all limits is within one
pub also_any : (limit : ℕ) (ts : List Token) → Continues (within limit) ts → Continues any_size ts
also_any limit ts (t, more, (b, asked, is), e) = (t, more, (b, tt, is), e)

-- two tokens that are refused can't both come first
one_place : (c d : Cause) (ts : List Token) (i j : ℕ) → IsFirstRefused c ts i → IsFirstRefused d ts j → (i ≡ j) × (number c ≡ number d)
one_place c d ts i j p q = elim (p.first d j q.here) [
  | inl less ↦ elim (q.first c i p.here) [
    | inl more ↦ absurd (omega (arith, less, more))
    | inr more ↦ absurd (omega (arith, less, more.0))
  ]
  | inr same ↦ elim (q.first c i p.here) [
    | inl more ↦ absurd (omega (arith, same.0, more))
    | inr more ↦ (same.0, omega (arith, same.1, more.1))
  ]
]

same_byte : (ls : List Lexeme) (i j m n : ℕ) → i ≡ j → BeginsAt ls i m → BeginsAt ls j n → m ≡ n
same_byte ls i j m n e p q = sym p.place ∙ ap (λ l. l.from) (same_lexeme p.lexeme q.lexeme (sym p.there ∙ ap (slice_get ls) e ∙ q.there)) ∙ q.place where
  same_lexeme : (l k : Lexeme) → Some l ≡ Some k → l ≡ k
  same_lexeme l k e = cc

-- a token that no tree goes on with is over no limit
unlike : (ts : List Token) (i j n : ℕ) → i ≡ j → IsUnexpectedAt ts i → IsOverLimitAt n ts j → ⊥
unlike ts i j n e p q = p.2 (subst (λ k. Continues any_size (take (suc k) ts)) (sym e) q.1)

pub one_refusal : (ls : List Lexeme) (f g : Refusal) → IsRefusal ls f → IsRefusal ls g → f ≡ g
one_refusal ls (unexpected_at m) (unexpected_at n) (i, p, a) (j, q, b) = ap (λ at. unexpected_at at) (same_byte ls i j m n (one_place unexpected unexpected (tokens_in ls) i j p q).0 a b)
one_refusal ls (unexpected_at m) (over_limit n) (i, p, a) (j, q) = absurd (unlike (tokens_in ls) i j n (one_place unexpected (over n) (tokens_in ls) i j p q).0 p.here q.here)
one_refusal ls (unexpected_at m) ended (i, p, a) q = absurd (q.1 unexpected i p.here)
one_refusal ls (over_limit m) (unexpected_at n) (i, p) (j, q, b) = absurd (unlike (tokens_in ls) j i m (one_place unexpected (over m) (tokens_in ls) j i q p).0 q.here p.here)
one_refusal ls (over_limit m) (over_limit n) (i, p) (j, q) = ap (λ k. over_limit k) (one_place (over m) (over n) (tokens_in ls) i j p q).1
one_refusal ls (over_limit m) ended (i, p) q = absurd (q.1 (over m) i p.here)
one_refusal ls ended (unexpected_at n) p (j, q, b) = absurd (p.1 unexpected j q.here)
one_refusal ls ended (over_limit n) p (j, q) = absurd (p.1 (over n) j q.here)
one_refusal ls ended ended p q = refl

-- the tokens of a tree aren't refused
pub tree_not_refused : (ls : List Lexeme) (t : Tree) (f : Refusal) → IsTree language t → tokens_in ls ≡ spelling t → IsRefusal ls f → ⊥
tree_not_refused ls t (unexpected_at m) is e (i, p, a) = let w = whole (suc i) (tokens_in ls) in p.here.2 (t, w.0, (language, tt, is), sym e ∙ w.1)
tree_not_refused ls t (over_limit n) is e (i, p) = let w = whole (suc i) (tokens_in ls) in p.here.0.2 (t, w.0, (language, omega arith, is), sym e ∙ w.1)
tree_not_refused ls t ended is e p = p.0.1 t (language, tt, is) (sym e)
