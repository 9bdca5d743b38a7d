-- Lists of refusals that are empty.
use Rattle.std.proofs.Common.{◌≡◌, ℕ, Bool, true, false, not, List, [], ◌∷◌, ◌++◌, refl}
use Rattle.vlt_kinds_types.specs.Names.Refusals.{refusal, refuse_if}

pub cons_not_nil : {A : Type 0} (x : A) (xs : List A) → x ∷ xs ≡ [] → ⊥
cons_not_nil x xs e = cc

pub no_left : {A : Type 0} (xs ys : List A) → xs ++ ys ≡ [] → xs ≡ []
no_left [] ys e = refl
no_left (x ∷ xs) ys e = absurd (cons_not_nil x (xs ++ ys) e)

pub no_right : {A : Type 0} (xs ys : List A) → xs ++ ys ≡ [] → ys ≡ []
no_right [] ys e = e
no_right (x ∷ xs) ys e = absurd (cons_not_nil x (xs ++ ys) e)

pub none_of_both : {A : Type 0} (xs ys : List A) → xs ≡ [] → ys ≡ [] → xs ++ ys ≡ []
none_of_both [] ys e f = f
none_of_both (x ∷ xs) ys e f = absurd (cons_not_nil x xs e)

pub not_broken : (b : Bool) (rule at : ℕ) → refuse_if b rule at ≡ [] → b ≡ false
not_broken true rule at e = absurd (cons_not_nil (refusal rule at) [] e)
not_broken false rule at e = refl

pub quiet : (b : Bool) (rule at : ℕ) → b ≡ false → refuse_if b rule at ≡ []
quiet b rule at e = rw e refl

pub not_false : (b : Bool) → not b ≡ false → b ≡ true
not_false true e = refl
not_false false e = cc
