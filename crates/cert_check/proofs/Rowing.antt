-- Rows passed one after another.
use Rattle.std.proofs.Common.{◌≡◌, ◌<◌, ◌≤◌, ◌+◌, ℕ, suc, List, [], ◌∷◌, map, length, drop, drop-cons, add-one, get_or, refl, sym, ap, ◌∙◌, subst}
use Rattle.std.proofs.lemmas.List.{drop_all}
use Rattle.vlt_core.specs.Maps.{Row, HeldMap, row_passed, map_after}
use Rattle.cert_check.specs.Tests.{row_test, row_tests, Failure, Hold, FirstFails}
use Rattle.cert_check.proofs.Sequences.{IsRest, rest_all, rest_trans, rest_after, first_here}

pub split_at : {X : Type 0} (xs : List X) (i : ℕ) (x : X) → i < length xs → x ≡ get_or xs i x → drop i xs ≡ x ∷ drop (i + 1) xs
split_at xs i x lt read = rw add-one (drop-cons xs i x lt ∙ ap (λ y. y ∷ drop (suc i) xs) (sym read))

-- the first i of the things were passed, whose rows these are
pub record Rowing {X : Type 0} (f : X → Row) (n : ℕ) (xs : List X) (h : HeldMap) (i : ℕ) (cur : HeldMap) : Type 0 where
  pub rest : IsRest (row_tests n (map f (drop i xs)) cur) (row_tests n (map f xs) h)
  pub after : map_after (map f (drop i xs)) cur ≡ map_after (map f xs) h

pub rowing_first : {X : Type 0} (f : X → Row) (n : ℕ) (xs : List X) (h : HeldMap) → Rowing f n xs h 0 h
rowing_first f n xs h = record { rest = rest_all (row_tests n (map f xs) h); after = refl }

pub rowing_more : {X : Type 0} (f : X → Row) (n : ℕ) (xs : List X) (h : HeldMap) (i : ℕ) (cur new : HeldMap) (x : X) → drop i xs ≡ x ∷ drop (i + 1) xs → Rowing f n xs h i cur →
    Hold (row_test n (f x).tok (cur (f x).tok) (f x).wanted ∷ []) → new ≡ row_passed (f x) cur → Rowing f n xs h (i + 1) new
rowing_more f n xs h i cur new x split g held passed =
    let rest = subst (λ l. IsRest (row_tests n (map f l) cur) (row_tests n (map f xs) h)) split g.rest in
    let after = subst (λ l. map_after (map f l) cur ≡ map_after (map f xs) h) split g.after in
    record {
      rest = subst (λ m. IsRest (row_tests n (map f (drop (i + 1) xs)) m) (row_tests n (map f xs) h)) (sym passed)
          (rest_trans _ _ _ (rest_after (row_test n (f x).tok (cur (f x).tok) (f x).wanted ∷ []) (row_tests n (map f (drop (i + 1) xs)) (row_passed (f x) cur)) held) rest);
      after = ap (map_after (map f (drop (i + 1) xs))) passed ∙ after;
    }

pub rowing_stops : {X : Type 0} (f : X → Row) (n : ℕ) (xs : List X) (h : HeldMap) (i : ℕ) (cur : HeldMap) (x : X) → drop i xs ≡ x ∷ drop (i + 1) xs → Rowing f n xs h i cur →
    (z : Failure) → FirstFails (row_test n (f x).tok (cur (f x).tok) (f x).wanted ∷ []) z → FirstFails (row_tests n (map f xs) h) z
rowing_stops f n xs h i cur x split g z t =
    let rest = subst (λ l. IsRest (row_tests n (map f l) cur) (row_tests n (map f xs) h)) split g.rest in
    rest.first z (first_here (row_test n (f x).tok (cur (f x).tok) (f x).wanted ∷ []) (row_tests n (map f (drop (i + 1) xs)) (row_passed (f x) cur)) z t)

pub rowing_ends : {X : Type 0} (f : X → Row) (n : ℕ) (xs : List X) (h : HeldMap) (i : ℕ) (cur : HeldMap) → length xs ≤ i → Rowing f n xs h i cur → Hold (row_tests n (map f xs) h) × (cur ≡ map_after (map f xs) h)
rowing_ends f n xs h i cur past g =
    let all : drop i xs ≡ [] = drop_all i xs past in
    (g.rest.hold (subst (λ l. Hold (row_tests n (map f l) cur)) (sym all) tt), subst (λ l. map_after (map f l) cur ≡ map_after (map f xs) h) all g.after)

pub map_twice : {X Y Z : Type 0} (g : Y → Z) (f : X → Y) (xs : List X) → map (λ x. g (f x)) xs ≡ map g (map f xs)
map_twice g f [] = refl
map_twice g f (x ∷ xs) = ap (λ l. g (f x) ∷ l) (map_twice g f xs)
