-- Lists of numbers, one after the other.
use Rattle.std.proofs.Common.{◌≡◌, ◌⊎◌, inl, inr, ⊎_elim, ℕ, List, [], ◌∷◌, ◌++◌, refl, subst}
use Rattle.std.proofs.lemmas.Bool.{cases_eq}
use Rattle.vlt_sound_worlds.specs.Members.{In, IsOnce}

pub in_or_not : (n : ℕ) (xs : List ℕ) → In n xs ⊎ (In n xs → ⊥)
in_or_not n [] = inr (λ i. i)
in_or_not n (m ∷ ms) = ⊎_elim (λ e. inl (inl e)) (λ other. rest other (in_or_not n ms)) (cases_eq n m)
  where
    rest : (n ≡ m → ⊥) → In n ms ⊎ (In n ms → ⊥) → In n (m ∷ ms) ⊎ (In n (m ∷ ms) → ⊥)
    rest other (inl i) = inl (inr i)
    rest other (inr off) = inr (λ i. ⊎_elim other off i)

pub in_left : (n : ℕ) (xs ys : List ℕ) → In n xs → In n (xs ++ ys)
in_left n [] ys i = absurd i
in_left n (m ∷ ms) ys i = ⊎_elim inl (λ r. inr (in_left n ms ys r)) i

pub in_right : (n : ℕ) (xs ys : List ℕ) → In n ys → In n (xs ++ ys)
in_right n [] ys i = i
in_right n (m ∷ ms) ys i = inr (in_right n ms ys i)

pub in_either : (n : ℕ) (xs ys : List ℕ) → In n (xs ++ ys) → In n xs ⊎ In n ys
in_either n [] ys i = inr i
in_either n (m ∷ ms) ys i = ⊎_elim (λ e. inl (inl e)) (λ r. ⊎_elim (λ a. inl (inr a)) inr (in_either n ms ys r)) i

pub once_left : (xs ys : List ℕ) → IsOnce (xs ++ ys) → IsOnce xs
once_left [] ys o = tt
once_left (m ∷ ms) ys o = (λ i. o.0 (in_left m ms ys i), once_left ms ys o.1)

pub once_right : (xs ys : List ℕ) → IsOnce (xs ++ ys) → IsOnce ys
once_right [] ys o = o
once_right (m ∷ ms) ys o = once_right ms ys o.1

-- what stands in the first list isn't in the second
pub once_apart : (xs ys : List ℕ) → IsOnce (xs ++ ys) → (n : ℕ) → In n xs → In n ys → ⊥
once_apart [] ys o n i j = i
once_apart (m ∷ ms) ys o n i j =
    ⊎_elim (λ e. o.0 (subst (λ k. In k (ms ++ ys)) e (in_right n ms ys j))) (λ r. once_apart ms ys o.1 n r j) i

pub once_both : (xs ys : List ℕ) → IsOnce xs → IsOnce ys → ((n : ℕ) → In n xs → In n ys → ⊥) → IsOnce (xs ++ ys)
once_both [] ys a b apart = b
once_both (m ∷ ms) ys a b apart =
    (λ i. ⊎_elim a.0 (apart m (inl refl)) (in_either m ms ys i), once_both ms ys a.1 b (λ n i j. apart n (inr i) j))
