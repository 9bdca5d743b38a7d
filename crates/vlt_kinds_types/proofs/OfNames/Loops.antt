-- One more turn of a loop over a list of the code.
use Rattle.std.proofs.Common.{◌≡◌, ◌∙◌, ◌<◌, ◌+◌, ℕ, List, [], ◌∷◌, ◌++◌, map, length, drop, get_or, Option, ap, sym}
use Rattle.std.proofs.lemmas.List.{at_drop_more, map-append, append_assoc}
use Rattle.vlt_kinds_types.specs.declared.names.found.Refusal.{Refusal}
use Rattle.vlt_kinds_types.specs.Names.Refusals.{least_from, found_each}
use Rattle.vlt_kinds_types.specs.Names.Along.{found_along}

-- what is refused in each item
pub found_next : {A B : Type 0} (f : B → List Refusal) (g : A → B) (xs : List A) (i : ℕ) (x : A) (found after : Option Refusal)
    → i < length xs → x ≡ get_or xs i x → after ≡ least_from found (f (g x))
    → found_each f (map g (drop (i + 1) xs)) after ≡ found_each f (map g (drop i xs)) found
found_next f g xs i x found after within is step =
    ap (found_each f (map g (drop (i + 1) xs))) (step ∙ ap (λ y. least_from found (f (g y))) is)
    ∙ sym (at_drop_more (λ ys. found_each f (map g ys) found) xs i x within)

-- where what is known goes on from item to item
pub along_next : {S A B : Type 0} (next : S → B → S) (f : S → B → List Refusal) (g : A → B) (xs : List A) (i : ℕ) (x : A) (s t : S)
    (found after : Option Refusal) → i < length xs → x ≡ get_or xs i x → t ≡ next s (g x) → after ≡ least_from found (f s (g x))
    → found_along next f t (map g (drop (i + 1) xs)) after ≡ found_along next f s (map g (drop i xs)) found
along_next next f g xs i x s t found after within is going step =
    ap (λ o. found_along next f t (map g (drop (i + 1) xs)) o) (step ∙ ap (λ y. least_from found (f s (g y))) is)
    ∙ ap (λ u. found_along next f u (map g (drop (i + 1) xs)) (least_from found (f s (g (get_or xs i x)))))
    (going ∙ ap (λ y. next s (g y)) is)
    ∙ sym (at_drop_more (λ ys. found_along next f s (map g ys) found) xs i x within)

-- what each item becomes
pub made_next : {A B C D : Type 0} (view : C → D) (made : B → D) (g : A → B) (xs : List A) (i : ℕ) (x : A) (done after : List C) (y : C)
    → i < length xs → x ≡ get_or xs i x → after ≡ done ++ y ∷ [] → view y ≡ made (g x)
    → map view after ++ map made (map g (drop (i + 1) xs)) ≡ map view done ++ map made (map g (drop i xs))
made_next view made g xs i x done after y within is pushed becomes =
    ap (λ ys. map view ys ++ map made (map g (drop (i + 1) xs))) pushed
    ∙ ap (λ ys. ys ++ map made (map g (drop (i + 1) xs))) (map-append view done (y ∷ []))
    ∙ append_assoc (map view done) (view y ∷ []) (map made (map g (drop (i + 1) xs)))
    ∙ ap (λ z. map view done ++ (z ∷ map made (map g (drop (i + 1) xs)))) (becomes ∙ ap (λ z. made (g z)) is)
    ∙ ap (λ ys. map view done ++ ys) (sym (at_drop_more (λ ys. map made (map g ys)) xs i x within))
