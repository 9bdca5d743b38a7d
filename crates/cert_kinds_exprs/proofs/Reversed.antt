-- Lists that are seen the other way round.
use Rattle.std.proofs.Common.{◌≡◌, ap, ◌∙◌, ℕ, List, [], ◌∷◌, ◌++◌, map, reverse, append-nil}
use Rattle.std.proofs.lemmas.List.{reverse-append, map-append}
use Rattle.vlt_core.specs.KindedHeads.{has}
use Rattle.cert_kinds_heads.proofs.Lists as lists

pub has_reverse : (xs : List ℕ) (n : ℕ) → has (reverse xs) n ≡ has xs n
has_reverse xs n = lists.has_reverse xs n

pub pushed : {A : Type 0} (g : A → ℕ) (xs : List A) (x : A) → reverse (map g (xs ++ x ∷ [])) ≡ g x ∷ reverse (map g xs)
pushed g xs x = ap reverse (map-append g xs (x ∷ [])) ∙ reverse-append (map g xs) (g x ∷ [])

pub bound_more : {A B : Type 0} (g : A → B) (xs : List A) (x : A) → map g (xs ++ x ∷ []) ≡ map g xs ++ g x ∷ []
bound_more g xs x = map-append g xs (x ∷ [])

pub bound_none : {B : Type 0} (xs : List B) → xs ++ [] ≡ xs
bound_none xs = append-nil xs
