-- Rows, one after another.
use Rattle.std.proofs.Common.{◌≡◌, ◌↔◌, ◌≤◌, ◌+◌, ℕ, true, false, List, [], ◌∷◌, map, length, drop, refl, sym, ap, subst}
use Rattle.std.proofs.lemmas.List.{drop_all}
use Rattle.vlt_core.specs.Core.{Tok}
use Rattle.vlt_core.specs.Maps.{Row, is_tok}
use Rattle.vlt_core.specs.Found.{One, WantsOne, LeftBy, image_if, image, images}
use Rattle.vlt_core_laws.specs.Sweep.{Many, In, IsImage}
use Rattle.vlt_core_laws.proofs.Smooth.{smooth_images}
use Rattle.vlt_faults.specs.Finding.Passes.{IsMoved}

pub moved_own : (t : Tok) (r : Row) (m m' : Many) → is_tok t r.tok ≡ true → ((o : One) → In m' o ↔ ((x : One) × In m x × WantsOne r.wanted x × LeftBy r.after x o)) → IsMoved t r m m'
moved_own t r m m' e f = record { each = λ o. subst (λ b. In m' o ↔ image_if b r (In m) o) (sym e) (f o) }

pub moved_other : (t : Tok) (r : Row) (m : Many) → is_tok t r.tok ≡ false → IsMoved t r m m
moved_other t r m e = record { each = λ o. subst (λ b. In m o ↔ image_if b r (In m) o) (sym e) (λ x. x, λ x. x) }

-- the first i of the rows were passed
pub record Going {X : Type 0} (t : Tok) (f : X → Row) (xs : List X) (m : Many) (i : ℕ) (cur : Many) : Type 0 where
  pub each : (o : One) → images t (map f (drop i xs)) (In cur) o ↔ images t (map f xs) (In m) o

pub going_more : {X : Type 0} (t : Tok) (f : X → Row) (xs : List X) (m : Many) (i : ℕ) (cur new : Many) (x : X) → drop i xs ≡ x ∷ drop (i + 1) xs → Going t f xs m i cur → IsMoved t (f x) cur new → Going t f xs m (i + 1) new
going_more t f xs m i cur new x split g e =
    let each = subst (λ l. (o : One) → images t (map f l) (In cur) o ↔ images t (map f xs) (In m) o) split g.each in
    let rest = smooth_images t (map f (drop (i + 1) xs)) in
    record { each = λ o. (λ y. (each o).0 (rest.more (In new) (image t (f x) (In cur)) (λ o z. (e.each o).0 z) o y), λ y. rest.more (image t (f x) (In cur)) (In new) (λ o z. (e.each o).1 z) o ((each o).1 y)) }

pub going_ends : {X : Type 0} (t : Tok) (f : X → Row) (xs : List X) (m : Many) (i : ℕ) (cur : Many) → length xs ≤ i → Going t f xs m i cur → IsImage t (map f xs) m cur
going_ends t f xs m i cur past g =
    let each = subst (λ l. (o : One) → images t (map f l) (In cur) o ↔ images t (map f xs) (In m) o) (drop_all i xs past) g.each in
    record { each = each }

pub map_twice : {X Y Z : Type 0} (g : Y → Z) (f : X → Y) (xs : List X) → map (λ x. g (f x)) xs ≡ map g (map f xs)
map_twice g f [] = refl
map_twice g f (x ∷ xs) = ap (λ l. g (f x) ∷ l) (map_twice g f xs)
