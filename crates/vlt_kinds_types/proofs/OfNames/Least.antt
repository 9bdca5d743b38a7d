-- The least of refusals that stand after each other.
use Rattle.std.proofs.Common.{◌≡◌, ◌∙◌, List, [], ◌∷◌, ◌++◌, map, Option, refl, ap}
use Rattle.vlt_kinds_types.specs.declared.names.found.Refusal.{Refusal}
use Rattle.vlt_kinds_types.specs.Names.Refusals.{lesser, least_from, of_each, found_each}

pub least_of_both : (rs ss : List Refusal) (found : Option Refusal)
    → least_from found (rs ++ ss) ≡ least_from (least_from found rs) ss
least_of_both [] ss found = refl
least_of_both (r ∷ rs) ss found = least_of_both rs ss (lesser found r)

pub each_is : {A : Type 0} (f : A → List Refusal) (xs : List A) (found : Option Refusal)
    → least_from found (of_each f xs) ≡ found_each f xs found
each_is f [] found = refl
each_is f (x ∷ xs) found = least_of_both (f x) (of_each f xs) found ∙ each_is f xs (least_from found (f x))

pub mapped_twice : {A B C : Type 0} → (g : B → C) (f : A → B) (xs : List A) → map g (map f xs) ≡ map (λ x. g (f x)) xs
mapped_twice g f [] = refl
mapped_twice g f (x ∷ xs) = ap (λ ys. g (f x) ∷ ys) (mapped_twice g f xs)
