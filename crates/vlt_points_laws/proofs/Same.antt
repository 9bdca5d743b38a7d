-- What is found is the same where the same comes.
use Rattle.std.proofs.Common.{ℕ, Bool, true, false, List, [], ◌∷◌, ◌++◌, refl}
use Rattle.vlt_core.specs.Core.{Tok}
use Rattle.vlt_core.specs.Maps.{Row}
use Rattle.vlt_core.specs.Flow.{Flow, step, choose, loop, switch, scope, focus, return, jump, Block, block, Stmts, done, next, Arms, no_arms, arm, passes_stmts}
use Rattle.vlt_core.specs.Found.{Ones, images, out, out_stmts, to_next, head_of}
use Rattle.vlt_core_laws.specs.Sweep.{Many, In, IsSameOnes}
use Rattle.vlt_core_laws.proofs.Smooth.{smooth_images, smooth_form, smooth_stmts, smooth_heads}
use Rattle.vlt_core_laws.proofs.Sweeping.{smooth_round}
use Rattle.vlt_points_laws.specs.Points.{IsTableOf, Before, Then, NoPoint, OnlyIf, AreFound, AreFoundBlock, AreFoundStmts, AreFoundArms}

images_same : (t : Tok) (rs : List Row) (S T : Ones) → IsSameOnes S T → IsSameOnes (images t rs S) (images t rs T)
images_same t rs S T e = record { there = (smooth_images t rs).more S T e.there; back = (smooth_images t rs).more T S e.back }

head_same : (t : Tok) (rs : List Row) (s : Block) (S T : Ones) → IsSameOnes S T → IsSameOnes (head_of t rs s S) (head_of t rs s T)
head_same t rs s S T e = record {
  there = (smooth_heads _ (smooth_round t rs s)).more S T e.there;
  back = (smooth_heads _ (smooth_round t rs s)).more T S e.back;
}

form_same : (t : Tok) (s : Flow) (S T : Ones) → IsSameOnes S T → IsSameOnes (out t s S to_next) (out t s T to_next)
form_same t s S T e = record { there = (smooth_form s t to_next).more S T e.there; back = (smooth_form s t to_next).more T S e.back }

stmts_same : (t : Tok) (ss : Stmts) (S T : Ones) → IsSameOnes S T → IsSameOnes (out_stmts t ss S to_next) (out_stmts t ss T to_next)
stmts_same t ss S T e = record { there = (smooth_stmts ss t to_next).more S T e.there; back = (smooth_stmts ss t to_next).more T S e.back }

table_same : (S T : Ones) (m : Many) → IsSameOnes S T → IsTableOf S m → IsTableOf T m
table_same S T m e x = λ o. (λ q. e.there o ((x o).0 q), λ q. (x o).1 (e.back o q))

before_same : (S T : Ones) (F G : List Many → Type 0) → IsSameOnes S T → ((ms : List Many) → F ms → G ms) → (ms : List Many) → Before S F ms → Before T G ms
before_same S T F G e f ms x = (x.0, table_same S T x.0 e x.1, (x.2.0, f x.2.0 x.2.1, x.2.2))

then_same : (F F' G G' : List Many → Type 0) → ((ms : List Many) → F ms → F' ms) → ((ms : List Many) → G ms → G' ms) → (ms : List Many) → Then F G ms → Then F' G' ms
then_same F F' G G' f g ms x = (x.0, f x.0 x.1, (x.2.0, g x.2.0 x.2.1, x.2.2))

if_same : (b : Bool) (F G : List Many → Type 0) → ((ms : List Many) → F ms → G ms) → (ms : List Many) → OnlyIf b F ms → OnlyIf b G ms
if_same true F G f ms x = f ms x
if_same false F G f ms x = x

module _ (t : Tok) where
  mutual
    pub found_same : (s : Flow) (S T : Ones) → IsSameOnes S T → (ms : List Many) → AreFound t s S ms → AreFound t s T ms
    found_same (choose rs a b) S T e ms x =
        let i = images_same t rs S T e in
        before_same S T (Then (AreFoundBlock t a (images t rs S)) (AreFoundBlock t b (images t rs S))) (Then (AreFoundBlock t a (images t rs T)) (AreFoundBlock t b (images t rs T))) e
        (then_same (AreFoundBlock t a (images t rs S)) (AreFoundBlock t a (images t rs T)) (AreFoundBlock t b (images t rs S)) (AreFoundBlock t b (images t rs T))
        (block_found_same a (images t rs S) (images t rs T) i) (block_found_same b (images t rs S) (images t rs T) i)) ms x
    found_same (loop rs s) S T e ms x =
        let h = head_same t rs s S T e in
        let A = head_of t rs s S in let B = head_of t rs s T in
        before_same A B (AreFoundBlock t s (images t rs A)) (AreFoundBlock t s (images t rs B)) h
        (block_found_same s (images t rs A) (images t rs B) (images_same t rs A B h)) ms x
    found_same (switch rs arms end) S T e ms x =
        before_same S T (AreFoundArms t arms (images t rs S)) (AreFoundArms t arms (images t rs T)) e
        (arms_found_same arms (images t rs S) (images t rs T) (images_same t rs S T e)) ms x
    found_same (scope s) S T e ms x = before_same S T (AreFoundBlock t s S) (AreFoundBlock t s T) e (block_found_same s S T e) ms x
    found_same (focus rs s es) S T e ms x =
        before_same S T (AreFoundBlock t s (images t rs S)) (AreFoundBlock t s (images t rs T)) e
        (block_found_same s (images t rs S) (images t rs T) (images_same t rs S T e)) ms x
    found_same (step rs) S T e ms x = before_same S T NoPoint NoPoint e (λ ns y. y) ms x
    found_same (return rs) S T e ms x = before_same S T NoPoint NoPoint e (λ ns y. y) ms x
    found_same (jump c left) S T e ms x = before_same S T NoPoint NoPoint e (λ ns y. y) ms x

    pub block_found_same : (s : Block) (S T : Ones) → IsSameOnes S T → (ms : List Many) → AreFoundBlock t s S ms → AreFoundBlock t s T ms
    block_found_same (block ss bound end) S T e ms x =
        let A = out_stmts t ss S to_next in let B = out_stmts t ss T to_next in
        then_same (AreFoundStmts t ss S) (AreFoundStmts t ss T) (OnlyIf (passes_stmts ss) (Before A NoPoint)) (OnlyIf (passes_stmts ss) (Before B NoPoint))
        (stmts_found_same ss S T e)
        (if_same (passes_stmts ss) (Before A NoPoint) (Before B NoPoint) (before_same A B NoPoint NoPoint (stmts_same t ss S T e) (λ ns y. y))) ms x

    pub stmts_found_same : (ss : Stmts) (S T : Ones) → IsSameOnes S T → (ms : List Many) → AreFoundStmts t ss S ms → AreFoundStmts t ss T ms
    stmts_found_same done S T e ms x = x
    stmts_found_same (next at s rest) S T e ms x =
        let A = out t s S to_next in let B = out t s T to_next in
        then_same (AreFound t s S) (AreFound t s T) (AreFoundStmts t rest A) (AreFoundStmts t rest B)
        (found_same s S T e) (stmts_found_same rest A B (form_same t s S T e)) ms x

    pub arms_found_same : (arms : Arms) (S T : Ones) → IsSameOnes S T → (ms : List Many) → AreFoundArms t arms S ms → AreFoundArms t arms T ms
    arms_found_same no_arms S T e ms x = x
    arms_found_same (arm rs s rest) S T e ms x =
        then_same (AreFoundBlock t s (images t rs S)) (AreFoundBlock t s (images t rs T)) (AreFoundArms t rest S) (AreFoundArms t rest T)
        (block_found_same s (images t rs S) (images t rs T) (images_same t rs S T e)) (arms_found_same rest S T e) ms x

  -- ---- parts, by what code finds of them

  just : (m : Many) → IsTableOf (In m) m
  just m o = (λ q. q, λ q. q)

  pub choose_found : (rs : List Row) (a b : Block) (m p : Many) (xs ys : List Many) → IsSameOnes (In p) (images t rs (In m)) →
      AreFoundBlock t a (In p) xs → AreFoundBlock t b (In p) ys → AreFound t (choose rs a b) (In m) (m ∷ (xs ++ ys))
  choose_found rs a b m p xs ys e x y =
      (m, just m, (xs ++ ys, (xs, block_found_same a (In p) (images t rs (In m)) e xs x, (ys, block_found_same b (In p) (images t rs (In m)) e ys y, refl)), refl))

  pub loop_found : (rs : List Row) (s : Block) (S : Ones) (top p : Many) (xs : List Many) → IsSameOnes (In top) (head_of t rs s S) → IsSameOnes (In p) (images t rs (In top)) →
      AreFoundBlock t s (In p) xs → AreFound t (loop rs s) S (top ∷ xs)
  loop_found rs s S top p xs h e x =
      let H = head_of t rs s S in
      let i = images_same t rs (In top) H h in
      let j : IsSameOnes (In p) (images t rs H) = record { there = λ o q. i.there o (e.there o q); back = λ o q. e.back o (i.back o q) } in
      (top, table_same (In top) H top h (just top), (xs, block_found_same s (In p) (images t rs H) j xs x, refl))

  pub switch_found : (rs : List Row) (arms : Arms) (end : ℕ) (m p : Many) (xs : List Many) → IsSameOnes (In p) (images t rs (In m)) →
      AreFoundArms t arms (In p) xs → AreFound t (switch rs arms end) (In m) (m ∷ xs)
  switch_found rs arms end m p xs e x = (m, just m, (xs, arms_found_same arms (In p) (images t rs (In m)) e xs x, refl))

  pub focus_found : (rs es : List Row) (s : Block) (m p : Many) (xs : List Many) → IsSameOnes (In p) (images t rs (In m)) →
      AreFoundBlock t s (In p) xs → AreFound t (focus rs s es) (In m) (m ∷ xs)
  focus_found rs es s m p xs e x = (m, just m, (xs, block_found_same s (In p) (images t rs (In m)) e xs x, refl))

  pub scope_found : (s : Block) (m : Many) (xs : List Many) → AreFoundBlock t s (In m) xs → AreFound t (scope s) (In m) (m ∷ xs)
  scope_found s m xs x = (m, just m, (xs, x, refl))

  pub step_found : (rs : List Row) (m : Many) → AreFound t (step rs) (In m) (m ∷ [])
  step_found rs m = (m, just m, ([], refl, refl))

  pub return_found : (rs : List Row) (m : Many) → AreFound t (return rs) (In m) (m ∷ [])
  return_found rs m = (m, just m, ([], refl, refl))

  pub jump_found : (c : Bool) (left : List Tok) (m : Many) → AreFound t (jump c left) (In m) (m ∷ [])
  jump_found c left m = (m, just m, ([], refl, refl))
