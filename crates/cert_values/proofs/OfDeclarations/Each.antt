-- What holds of all items holds of one.
use Rattle.std.proofs.Common.{◌≡◌, ◌<◌, ℕ, zero, suc, sym, subst, List, [], ◌∷◌, map, length, get_or, arith}
use Rattle.cert_rows.specs.Parts.{All}

pub all_at : {A B : Type 0} (P : B → Type 0) (f : A → B) (xs : List A) (i : ℕ) (x : A) → i < length xs → x ≡ get_or xs i x → All P (map f xs) → P (f x)
all_at P f [] i x less is all = absurd (omega (arith, less))
all_at P f (y ∷ ys) zero x less is all = subst (λ z. P (f z)) (sym is) all.0
all_at P f (y ∷ ys) (suc i) x less is all = all_at P f ys i x (omega (arith, less)) is all.1
