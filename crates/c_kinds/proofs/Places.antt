-- The places of the tokens to come.
use Rattle.std.proofs.Common.{◌≡◌, ◌≤◌, ◌-◌, ℕ, List, [], length, drop, take, map, sym, ap, ◌∙◌}
use Rattle.std.proofs.lemmas.List.{drop-map, drop_all, length-drop}
use Rattle.std.proofs.Math.Seq.{take-length}

pub slice_places : {X Y : Type 0} (f : X → Y) (n : ℕ) (xs : List X) → map f (take (length xs - n) (drop n xs)) ≡ drop n (map f xs)
slice_places f n xs = ap (λ m. map f (take m (drop n xs))) (sym (length-drop n xs)) ∙ ap (map f) (take-length (drop n xs)) ∙ sym (drop-map f n xs)

pub drop_short : {X Y : Type 0} (f : X → Y) (n : ℕ) (xs : List X) → length xs ≤ n → drop n (map f xs) ≡ []
drop_short f n xs h = drop-map f n xs ∙ ap (map f) (drop_all n xs h)
