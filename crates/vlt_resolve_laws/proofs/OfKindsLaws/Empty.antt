-- Lists of refusals and of broken rules that are empty.
use Rattle.std.proofs.Common.{◌≡◌, ℕ, Bool, true, false, List, [], ◌∷◌, ◌++◌, refl}
use Rattle.std.specs.List.{flat_map}
use Rattle.vlt_syntax.specs.Lists.{Each}
use Rattle.vlt_core.specs.KindedHeads.{unless}
use Rattle.vlt_kinds_types.specs.Names.Refusals.{refusal, refuse_if, of_each}

pub cons_not_nil : {A : Type 0} (x : A) (xs : List A) → x ∷ xs ≡ [] → ⊥
cons_not_nil x xs e = cc

pub no_left : {A : Type 0} (xs ys : List A) → xs ++ ys ≡ [] → xs ≡ []
no_left [] ys e = refl
no_left (x ∷ xs) ys e = absurd (cons_not_nil x (xs ++ ys) e)

pub no_right : {A : Type 0} (xs ys : List A) → xs ++ ys ≡ [] → ys ≡ []
no_right [] ys e = e
no_right (x ∷ xs) ys e = absurd (cons_not_nil x (xs ++ ys) e)

pub none_of_both : {A : Type 0} (xs ys : List A) → xs ≡ [] → ys ≡ [] → xs ++ ys ≡ []
none_of_both [] ys e f = f
none_of_both (x ∷ xs) ys e f = absurd (cons_not_nil x xs e)

pub not_broken : (b : Bool) (rule at : ℕ) → refuse_if b rule at ≡ [] → b ≡ false
not_broken true rule at e = absurd (cons_not_nil (refusal rule at) [] e)
not_broken false rule at e = refl

pub holds : (b : Bool) (rule : ℕ) → b ≡ true → unless b rule ≡ []
holds b rule e = rw e refl

pub none_in_each : {A B : Type 0} (f : A → List B) (xs : List A) → of_each f xs ≡ [] → Each (λ x. f x ≡ []) xs
none_in_each f [] e = tt
none_in_each f (x ∷ xs) e = (no_left (f x) (of_each f xs) e, none_in_each f xs (no_right (f x) (of_each f xs) e))

pub none_of_each : {A B : Type 0} (f : A → List B) (xs : List A) → Each (λ x. f x ≡ []) xs → flat_map f xs ≡ []
none_of_each f [] e = refl
none_of_each f (x ∷ xs) e = none_of_both (f x) (flat_map f xs) e.0 (none_of_each f xs e.1)
