-- Lists of broken rules that are empty.
use Rattle.std.proofs.Common.{◌≡◌, ◌+◌, ℕ, zero, suc, Bool, true, false, List, [], ◌∷◌, ◌++◌, Some, None, refl, sym, subst}
use Rattle.std.specs.Prelude.{slice_get}
use Rattle.std.specs.List.{flat_map, enumerate_from}
use Rattle.std.proofs.lemmas.List.Concat.{flat_map-cons}
use Rattle.vlt_core.specs.KindedHeads.{Rules, unless}
use Rattle.vlt_core.specs.Kinded.{first_broken, least_of}
use Rattle.vlt_core_laws.specs.Unbroken.{EachEmpty}

pub filled_not_empty : {A : Type 0} (x : A) (xs : List A) → x ∷ xs ≡ [] → ⊥
filled_not_empty x xs e = cc

pub some_not_none : {A : Type 0} (x : A) → Some x ≡ None → ⊥
some_not_none x e = cc

pub some_same : {A : Type 0} (x y : A) → Some x ≡ Some y → x ≡ y
some_same x y e = cc

pub left_empty : {A : Type 0} (xs ys : List A) → xs ++ ys ≡ [] → xs ≡ []
left_empty [] ys e = refl
left_empty (x ∷ xs) ys e = absurd (filled_not_empty x (xs ++ ys) e)

pub right_empty : {A : Type 0} (xs ys : List A) → xs ++ ys ≡ [] → ys ≡ []
right_empty [] ys e = e
right_empty (x ∷ xs) ys e = absurd (filled_not_empty x (xs ++ ys) e)

pub unless_holds : (b : Bool) (r : ℕ) → unless b r ≡ [] → b ≡ true
unless_holds true r e = refl
unless_holds false r e = absurd (filled_not_empty r [] e)

pub each_left : (xs ys : List Rules) → EachEmpty (xs ++ ys) → EachEmpty xs
each_left [] ys e = tt
each_left (x ∷ xs) ys e = (e.0, each_left xs ys e.1)

pub each_right : (xs ys : List Rules) → EachEmpty (xs ++ ys) → EachEmpty ys
each_right [] ys e = e
each_right (x ∷ xs) ys e = each_right xs ys e.1

pub each_of_first : (n : ℕ) (rows : List Rules) → first_broken n rows ≡ None → EachEmpty rows
each_of_first n [] e = tt
each_of_first n ([] ∷ rows) e = (refl, each_of_first (suc n) rows e)
each_of_first n ((r ∷ rs) ∷ rows) e = absurd (some_not_none (n, least_of r rs) e)

pub each_numbered : {A : Type 0} (go : ℕ × A → List Rules) (n i : ℕ) (xs : List A) (x : A) → EachEmpty (flat_map go (enumerate_from n xs)) →
    slice_get xs i ≡ Some x → (m : ℕ) × EachEmpty (go (m, x))
each_numbered go n i [] x e at = absurd (some_not_none x (sym at))
each_numbered go n zero (y ∷ ys) x e at =
    let both = subst EachEmpty (flat_map-cons go (n, y) (enumerate_from (n + 1) ys)) e in
    (n, subst (λ z. EachEmpty (go (n, z))) (some_same y x at) (each_left (go (n, y)) (flat_map go (enumerate_from (n + 1) ys)) both))
each_numbered go n (suc i) (y ∷ ys) x e at =
    let both = subst EachEmpty (flat_map-cons go (n, y) (enumerate_from (n + 1) ys)) e in
    each_numbered go (n + 1) i ys x (each_right (go (n, y)) (flat_map go (enumerate_from (n + 1) ys)) both) at
