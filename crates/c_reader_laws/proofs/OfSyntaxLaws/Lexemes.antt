-- A text has one list of tokens.
use Rattle.std.proofs.Common.{◌≡◌, ℕ, List, [], ◌∷◌, length, refl, sym, ap, ap₂, ◌∙◌, subst, arith}
use Rattle.c_syntax.specs.Tokens.{Token}
use Rattle.c_syntax.specs.Text.{Lexeme, Piece, AreTokensOf, AreFirst, IsTokensOf, IsAt, first_pieces, piece}

first_of : ℕ → List ℕ → ℕ
first_of d [] = d
first_of d (b ∷ bs) = b

others : List ℕ → List ℕ
others [] = []
others (b ∷ bs) = bs

same_first : (a b : ℕ) (xs bs : List ℕ) → a ∷ xs ≡ b ∷ bs → a ≡ b
unfolding first_of
same_first a b xs bs e = ap (first_of a) e

same_others : (a b : ℕ) (xs bs : List ℕ) → a ∷ xs ≡ b ∷ bs → xs ≡ bs
unfolding others
same_others a b xs bs e = ap others e

never_empty : (b : ℕ) (bs : List ℕ) → b ∷ bs ≡ [] → ⊥
never_empty b bs e = let n : length (b ∷ bs) ≡ 0 = ap length e in absurd (omega (arith, n))

same_lexeme : (total : ℕ) (xs bs : List ℕ) (l m : Lexeme) (t u : Token) → xs ≡ bs → t ≡ u → IsAt total xs l t → IsAt total bs m u → l ≡ m
same_lexeme total xs bs l m t u same equal here there =
    let far : length xs ≡ length bs = ap length same in
    let at : l.at ≡ m.at = let h = here.1 in let k = there.1 in omega (arith, far, h, k) in
    let token : l.token ≡ m.token = here.0 ∙ equal ∙ sym there.0 in
    ap₂ (λ x n. record { token = x; at = n }) token at

tokens_once : (total : ℕ) (bs : List ℕ) (ls ms : List Lexeme) → AreTokensOf total bs ls → AreTokensOf total bs ms → ls ≡ ms
tokens_once total bs [] [] p q = refl
tokens_once total bs [] (m ∷ ms) p q = absurd (never_empty q.0 q.1 (sym q.2 ∙ p))
tokens_once total bs (l ∷ ls) [] p q = absurd (never_empty p.0 p.1 (sym p.2 ∙ q))
tokens_once total bs (l ∷ ls) (m ∷ ms) p q =
    let both : p.0 ∷ p.1 ≡ q.0 ∷ q.1 = sym p.2 ∙ q.2 in
    let pieces : piece p.0 p.1 ≡ piece q.0 q.1 = ap₂ piece (same_first p.0 q.0 p.1 q.1 both) (same_others p.0 q.0 p.1 q.1 both) in
    let first : l ≡ m = same_lexeme total (p.0 ∷ p.1) (q.0 ∷ q.1) l m ((piece p.0 p.1).0) ((piece q.0 q.1).0) both (ap (λ x. x.0) pieces) p.3 q.3 in
    let rest : ls ≡ ms = tokens_once total ((piece p.0 p.1).1) ls ms p.4 (subst (λ x. AreTokensOf total (x.1) ms) (sym pieces) q.4) in
    ap₂ (λ x xs. x ∷ xs) first rest

first_once : (ps : List (ℕ → List ℕ → Piece)) (total : ℕ) (bs : List ℕ) (ls ms : List Lexeme) → AreFirst ps total bs ls → AreFirst ps total bs ms → ls ≡ ms
first_once [] total bs ls ms p q = tokens_once total bs ls ms p q
first_once (f ∷ fs) total [] ls ms p q = p ∙ sym q
first_once (f ∷ fs) total (b ∷ bs) [] ms p q = absurd p
first_once (f ∷ fs) total (b ∷ bs) (l ∷ ls) [] p q = absurd q
first_once (f ∷ fs) total (b ∷ bs) (l ∷ ls) (m ∷ ms) p q =
    ap₂ (λ x xs. x ∷ xs) (same_lexeme total (b ∷ bs) (b ∷ bs) l m ((f b bs).0) ((f b bs).0) refl refl p.0 q.0) (first_once fs total ((f b bs).1) ls ms p.1 q.1)

pub one_list : (bytes : List ℕ) (ls ms : List Lexeme) → IsTokensOf bytes ls → IsTokensOf bytes ms → ls ≡ ms
one_list bytes ls ms p q = first_once first_pieces (length bytes) bytes ls ms p q
