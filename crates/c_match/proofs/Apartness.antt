-- First differences of pieces: there is one at most, none in the lowering itself, and surely one in another program.
use Rattle.std.proofs.Common.{◌≡◌, inl, inr, ⊎_elim, ℕ, List, [], ◌∷◌, map, Option, None, refl, sym, ap₂, ◌∙◌}
use Rattle.vlt_base.specs.Sure.{Surely}
use Rattle.vlt_base.proofs.Surely.{sure, surely, so, one_way}
use Rattle.c_match.specs.Pieces.{Piece}
use Rattle.c_match.specs.Owned.{Owned}
use Rattle.c_match.specs.Apart.{IsFirstApart}

abbrev pub pieces_in : List Owned → List Piece
pieces_in = map (λ x. x.piece)

nothing_there : {A : Type 0} (x : A) (xs : List A) → [] ≡ x ∷ xs → ⊥
nothing_there x xs e = cc

head_same : {A : Type 0} (x y : A) (xs ys : List A) → x ∷ xs ≡ y ∷ ys → x ≡ y
head_same x y xs ys e = cc

tail_same : {A : Type 0} (x y : A) (xs ys : List A) → x ∷ xs ≡ y ∷ ys → xs ≡ ys
tail_same x y xs ys e = cc

pub apart_once : (xs : List Owned) (ys : List Piece) (m n : Option ℕ) → IsFirstApart xs ys m → IsFirstApart xs ys n → m ≡ n
apart_once [] [] m n a b = absurd a
apart_once [] (y ∷ ys) m n a b = a ∙ sym b
apart_once (x ∷ xs) [] m n a b = a ∙ sym b
apart_once (x ∷ xs) (y ∷ ys) m n (inl a) (inl b) = a.1 ∙ sym b.1
apart_once (x ∷ xs) (y ∷ ys) m n (inl a) (inr b) = absurd (a.0 b.0)
apart_once (x ∷ xs) (y ∷ ys) m n (inr a) (inl b) = absurd (b.0 a.0)
apart_once (x ∷ xs) (y ∷ ys) m n (inr a) (inr b) = apart_once xs ys m n a.1 b.1

pub never_apart : (xs : List Owned) (ys : List Piece) (n : Option ℕ) → pieces_in xs ≡ ys → IsFirstApart xs ys n → ⊥
never_apart [] [] n e a = a
never_apart [] (y ∷ ys) n e a = nothing_there y ys e
never_apart (x ∷ xs) [] n e a = nothing_there x.piece (pieces_in xs) (sym e)
never_apart (x ∷ xs) (y ∷ ys) n e (inl a) = a.0 (head_same x.piece y (pieces_in xs) ys e)
never_apart (x ∷ xs) (y ∷ ys) n e (inr a) = never_apart xs ys n (tail_same x.piece y (pieces_in xs) ys e) a.1

pub surely_apart : (xs : List Owned) (ys : List Piece) → (pieces_in xs ≡ ys → ⊥) → Surely ((n : Option ℕ) × IsFirstApart xs ys n)
surely_apart [] [] other = absurd (other refl)
surely_apart [] (y ∷ ys) other = sure (None, refl)
surely_apart (x ∷ xs) [] other = sure (x.owner, refl)
surely_apart (x ∷ xs) (y ∷ ys) other = surely (one_way (x.piece ≡ y)) (λ w. ⊎_elim
    (λ same. so (surely_apart xs ys (λ e. other (ap₂ (λ z zs. z ∷ zs) same e))) (λ q. (q.0, inr (same, q.1))))
    (λ differs. sure (x.owner, inl (differs, refl))) w)
