-- A number belongs to one row or join: what is told of it twice is told of the same one.
use Rattle.std.proofs.Common.{◌≡◌, ◌+◌, ◌≤◌, ◌<◌, ◌⊎◌, ℕ, Bool, true, false, List, [], ◌∷◌, map, length, inl, inr, ⊎_elim, ap, arith}
use Rattle.std.proofs.lemmas.List.{length-map}
use Rattle.vlt_core.specs.Core.{Tok}
use Rattle.vlt_core.specs.Maps.{Row, away_row, is_tok}
use Rattle.vlt_core.specs.Flow.{Flow, step, choose, loop, switch, scope, focus, return, jump, Block, block, Stmts, done, next, Arms, no_arms, arm, end_of}
use Rattle.vlt_core.specs.Found.{Ones, image, images, out, out_block, out_stmts, to_next, head_of}
use Rattle.vlt_core.specs.Faults.{If, Spot, head_spot, row_spot, join_spot, spots, spots_block, spots_stmts, spots_arms, RowAt, SpotAt, SpotAtBlock, SpotAtStmts, SpotAtArms}

-- the number lies from n on, and below m
pub record Between (n m k : ℕ) : Type 0 where
  pub from : n ≤ k
  pub to : k < m

widened : (n m n' m' k : ℕ) → n' ≤ n → m ≤ m' → Between n m k → Between n' m' k
widened n m n' m' k a b x = record { from = omega (arith, x.from); to = omega (arith, x.to) }

of_spot : (p q : Spot) (n m : ℕ) → p ≡ q → n ≤ q.number → q.number < m → Between n m p.number
of_spot p q n m e a b =
    let same : p.number ≡ q.number = ap (λ x. x.number) e in
    record { from = omega arith; to = omega arith }

-- ---- where a spot's number lies

module _ (P : Row → Ones → Type 0) (Q : Ones → Type 0) (p : Spot) (t : Tok) where
  pub rows_between : (at n : ℕ) (rs : List Row) (S : Ones) → RowAt P Q p t at n rs S → Between n (n + length rs) p.number
  rows_between at n [] S x = absurd x
  rows_between at n (r ∷ rs) S x = ⊎_elim
      (λ y. of_spot p (row_spot at n) n (n + length (r ∷ rs)) y.0 (omega arith) (omega arith))
      (λ y. widened (n + 1) (n + 1 + length rs) n (n + length (r ∷ rs)) p.number (omega arith) (omega arith) (rows_between at (n + 1) rs (image t r S) y)) x

  mutual
    pub form_between : (s : Flow) (at n : ℕ) (S : Ones) → SpotAt P Q p t at n s S → Between n (n + spots s) p.number
    form_between (step rs) at n S x = rows_between at n rs S x
    form_between (choose rs a b) at n S x =
        let m = n + length rs in let k = n + length rs + spots_block a in
        ⊎_elim (λ y. widened n m n (n + spots (choose rs a b)) p.number (omega arith) (omega arith) (rows_between at n rs S y)) (⊎_elim
        (λ y. widened m (m + spots_block a) n (n + spots (choose rs a b)) p.number (omega arith) (omega arith) (block_between a m (images t rs S) y)) (⊎_elim
        (λ y. widened k (k + spots_block b) n (n + spots (choose rs a b)) p.number (omega arith) (omega arith) (block_between b k (images t rs S) y))
        (λ y. of_spot p _ n (n + spots (choose rs a b)) y.0 (omega arith) (omega arith)))) x
    form_between (loop rs s) at n S x =
        let m = n + 1 + length rs in
        ⊎_elim (λ y. of_spot p _ n (n + spots (loop rs s)) y.0 (omega arith) (omega arith)) (⊎_elim
        (λ y. widened (n + 1) m n (n + spots (loop rs s)) p.number (omega arith) (omega arith) (rows_between at (n + 1) rs (head_of t rs s S) y)) (⊎_elim
        (λ y. widened m (m + spots_block s) n (n + spots (loop rs s)) p.number (omega arith) (omega arith) (block_between s m (images t rs (head_of t rs s S)) y))
        (λ y. of_spot p _ n (n + spots (loop rs s)) y.0 (omega arith) (omega arith)))) x
    form_between (switch rs arms end) at n S x =
        let m = n + length rs in
        ⊎_elim (λ y. widened n m n (n + spots (switch rs arms end)) p.number (omega arith) (omega arith) (rows_between at n rs S y)) (⊎_elim
        (λ y. widened m (m + spots_arms arms) n (n + spots (switch rs arms end)) p.number (omega arith) (omega arith) (arms_between arms at m (images t rs S) y))
        (λ y. of_spot p _ n (n + spots (switch rs arms end)) y.0 (omega arith) (omega arith))) x
    form_between (scope s) at n S x = block_between s n S x
    form_between (focus rs s es) at n S x =
        let m = n + length rs in let k = m + spots_block s in
        ⊎_elim (λ y. widened n m n (n + spots (focus rs s es)) p.number (omega arith) (omega arith) (rows_between at n rs S y)) (⊎_elim
        (λ y. widened m k n (n + spots (focus rs s es)) p.number (omega arith) (omega arith) (block_between s m (images t rs S) y))
        (λ y. widened k (k + length es) n (n + spots (focus rs s es)) p.number (omega arith) (omega arith) (rows_between (end_of s) k es (out_block t s (images t rs S) to_next) y))) x
    form_between (return rs) at n S x = rows_between at n rs S x
    form_between (jump c left) at n S x =
        let same : length (map away_row left) ≡ length left = length-map left away_row in
        widened n (n + length (map away_row left)) n (n + length left) p.number (omega arith) (omega (arith, same)) (rows_between at n (map away_row left) S x)

    pub block_between : (s : Block) (n : ℕ) (S : Ones) → SpotAtBlock P Q p t n s S → Between n (n + spots_block s) p.number
    block_between (block ss bound end) n S x =
        let m = n + spots_stmts ss in
        let same : length (map away_row bound) ≡ length bound = length-map bound away_row in
        ⊎_elim
        (λ y. widened n m n (n + (spots_stmts ss + length bound)) p.number (omega arith) (omega arith) (stmts_between ss n S y))
        (λ y. widened m (m + length (map away_row bound)) n (n + (spots_stmts ss + length bound)) p.number (omega arith) (omega (arith, same)) (rows_between end m (map away_row bound) (out_stmts t ss S to_next) y)) x

    pub stmts_between : (ss : Stmts) (n : ℕ) (S : Ones) → SpotAtStmts P Q p t n ss S → Between n (n + spots_stmts ss) p.number
    stmts_between done n S x = absurd x
    stmts_between (next at s rest) n S x = ⊎_elim
        (λ y. widened n (n + spots s) n (n + (spots s + spots_stmts rest)) p.number (omega arith) (omega arith) (form_between s at n S y))
        (λ y. widened (n + spots s) (n + spots s + spots_stmts rest) n (n + (spots s + spots_stmts rest)) p.number (omega arith) (omega arith) (stmts_between rest (n + spots s) (out t s S to_next) y)) x

    pub arms_between : (arms : Arms) (at n : ℕ) (S : Ones) → SpotAtArms P Q p t at n arms S → Between n (n + spots_arms arms) p.number
    arms_between no_arms at n S x = absurd x
    arms_between (arm rs s rest) at n S x =
        let m = n + length rs in let k = m + spots_block s in
        ⊎_elim (λ y. widened n m n (n + spots_arms (arm rs s rest)) p.number (omega arith) (omega arith) (rows_between at n rs S y)) (⊎_elim
        (λ y. widened m k n (n + spots_arms (arm rs s rest)) p.number (omega arith) (omega arith) (block_between s m (images t rs S) y))
        (λ y. widened k (k + spots_arms rest) n (n + spots_arms (arm rs s rest)) p.number (omega arith) (omega arith) (arms_between rest at k S y))) x

-- ---- one row or join

-- two sums agree on the side, where a number tells the sides apart
either : (k m : ℕ) {A B C D : Type 0} → (A → k < m) → (B → m ≤ k) → (C → k < m) → (D → m ≤ k) → A ⊎ B → C ⊎ D → (A × C) ⊎ (B × D)
either k m a b c d x y = ⊎_elim
    (λ x. ⊎_elim (λ y. inl (x, y)) (λ y. absurd (apart (a x) (d y))) y)
    (λ x. ⊎_elim (λ y. absurd (apart (c y) (b x))) (λ y. inr (x, y)) y) x
  where
    apart : k < m → m ≤ k → ⊥
    apart u v = omega (arith, u, v)

module _ (P R : Row → Ones → Type 0) (Q J : Ones → Type 0) (p : Spot) (t : Tok) where
  abbrev pub Both : Row → Ones → Type 0
  Both r S = P r S × R r S

  abbrev pub Joined : Ones → Type 0
  Joined S = Q S × J S

  if_both : (b : Bool) (r : Row) (S : Ones) → If b (P r S) → If b (R r S) → If b (Both r S)
  if_both true r S x y = (x, y)
  if_both false r S x y = x

  -- the row's own number, or a later one
  rows_together : (at n : ℕ) (rs : List Row) (S : Ones) → RowAt P Q p t at n rs S → RowAt R J p t at n rs S → RowAt Both Joined p t at n rs S
  rows_together at n [] S x y = x
  rows_together at n (r ∷ rs) S x y = ⊎_elim
      (λ z. inl (z.0.0, if_both (is_tok t r.tok) r S z.0.1 z.1.1))
      (λ z. inr (rows_together at (n + 1) rs (image t r S) z.0 z.1))
      (either p.number (n + 1)
      (λ z. here z.0) (λ z. (rows_between P Q p t at (n + 1) rs (image t r S) z).from)
      (λ z. here z.0) (λ z. (rows_between R J p t at (n + 1) rs (image t r S) z).from) x y)
    where
      here : p ≡ row_spot at n → p.number < n + 1
      here e = (of_spot p (row_spot at n) n (n + 1) e (omega arith) (omega arith)).to

  -- two sums whose first parts lie below a number, and whose second parts don't
  parts : (n m k : ℕ) {A B C D : Type 0} → (A → Between n m p.number) → (B → Between m k p.number) →
      (C → Between n m p.number) → (D → Between m k p.number) → A ⊎ B → C ⊎ D → (A × C) ⊎ (B × D)
  parts n m k a b c d x y = either p.number m (λ z. (a z).to) (λ z. (b z).from) (λ z. (c z).to) (λ z. (d z).from) x y

  sum_between : (n m k : ℕ) {A B : Type 0} → n ≤ m → m ≤ k → (A → Between n m p.number) → (B → Between m k p.number) → A ⊎ B → Between n k p.number
  sum_between n m k u v a b x = ⊎_elim (λ z. widened n m n k p.number (omega arith) v (a z)) (λ z. widened m k n k p.number u (omega arith) (b z)) x

  at_join_number : (e n : ℕ) {A : Type 0} → (p ≡ join_spot e n) × A → Between n (n + 1) p.number
  at_join_number e n x = of_spot p (join_spot e n) n (n + 1) x.0 (omega arith) (omega arith)

  mutual
    pub form_together : (s : Flow) (at n : ℕ) (S : Ones) → SpotAt P Q p t at n s S → SpotAt R J p t at n s S → SpotAt Both Joined p t at n s S
    form_together (step rs) at n S x y = rows_together at n rs S x y
    form_together (choose rs a b) at n S x y =
        let m = n + length rs in let k = m + spots_block a in let l = k + spots_block b in
        let T = images t rs S in
        ⊎_elim (λ z. inl (rows_together at n rs S z.0 z.1)) (λ z. inr (⊎_elim
        (λ z. inl (block_together a m T z.0 z.1)) (λ z. inr (⊎_elim
        (λ z. inl (block_together b k T z.0 z.1))
        (λ z. inr (z.0.0, (z.0.1, z.1.1)))
        (parts k l (l + 1) (block_between P Q p t b k T) (at_join_number (end_of b) l) (block_between R J p t b k T) (at_join_number (end_of b) l) z.0 z.1)))
        (parts m k (l + 1) (block_between P Q p t a m T) (sum_between k l (l + 1) (omega arith) (omega arith) (block_between P Q p t b k T) (at_join_number (end_of b) l))
        (block_between R J p t a m T) (sum_between k l (l + 1) (omega arith) (omega arith) (block_between R J p t b k T) (at_join_number (end_of b) l)) z.0 z.1)))
        (parts n m (l + 1) (rows_between P Q p t at n rs S)
        (sum_between m k (l + 1) (omega arith) (omega arith) (block_between P Q p t a m T) (sum_between k l (l + 1) (omega arith) (omega arith) (block_between P Q p t b k T) (at_join_number (end_of b) l)))
        (rows_between R J p t at n rs S)
        (sum_between m k (l + 1) (omega arith) (omega arith) (block_between R J p t a m T) (sum_between k l (l + 1) (omega arith) (omega arith) (block_between R J p t b k T) (at_join_number (end_of b) l))) x y)
    form_together (loop rs s) at n S x y =
        let m = n + 1 + length rs in let k = m + spots_block s in
        let H = head_of t rs s S in let T = images t rs H in
        ⊎_elim (λ z. inl (z.0.0, (z.0.1, z.1.1))) (λ z. inr (⊎_elim
        (λ z. inl (rows_together at (n + 1) rs H z.0 z.1)) (λ z. inr (⊎_elim
        (λ z. inl (block_together s m T z.0 z.1))
        (λ z. inr (z.0.0, (z.0.1, z.1.1)))
        (parts m k (k + 1) (block_between P Q p t s m T) (at_join_number (end_of s) k) (block_between R J p t s m T) (at_join_number (end_of s) k) z.0 z.1)))
        (parts (n + 1) m (k + 1) (rows_between P Q p t at (n + 1) rs H) (sum_between m k (k + 1) (omega arith) (omega arith) (block_between P Q p t s m T) (at_join_number (end_of s) k))
        (rows_between R J p t at (n + 1) rs H) (sum_between m k (k + 1) (omega arith) (omega arith) (block_between R J p t s m T) (at_join_number (end_of s) k)) z.0 z.1)))
        (parts n (n + 1) (k + 1) at_head
        (sum_between (n + 1) m (k + 1) (omega arith) (omega arith) (rows_between P Q p t at (n + 1) rs H) (sum_between m k (k + 1) (omega arith) (omega arith) (block_between P Q p t s m T) (at_join_number (end_of s) k)))
        at_head
        (sum_between (n + 1) m (k + 1) (omega arith) (omega arith) (rows_between R J p t at (n + 1) rs H) (sum_between m k (k + 1) (omega arith) (omega arith) (block_between R J p t s m T) (at_join_number (end_of s) k))) x y)
      where
        at_head : {A : Type 0} → (p ≡ head_spot at n) × A → Between n (n + 1) p.number
        at_head x = of_spot p (head_spot at n) n (n + 1) x.0 (omega arith) (omega arith)
    form_together (switch rs arms end) at n S x y =
        let m = n + length rs in let k = m + spots_arms arms in let T = images t rs S in
        ⊎_elim (λ z. inl (rows_together at n rs S z.0 z.1)) (λ z. inr (⊎_elim
        (λ z. inl (arms_together arms at m T z.0 z.1))
        (λ z. inr (z.0.0, (z.0.1, z.1.1)))
        (parts m k (k + 1) (arms_between P Q p t arms at m T) (at_join_number end k) (arms_between R J p t arms at m T) (at_join_number end k) z.0 z.1)))
        (parts n m (k + 1) (rows_between P Q p t at n rs S) (sum_between m k (k + 1) (omega arith) (omega arith) (arms_between P Q p t arms at m T) (at_join_number end k))
        (rows_between R J p t at n rs S) (sum_between m k (k + 1) (omega arith) (omega arith) (arms_between R J p t arms at m T) (at_join_number end k)) x y)
    form_together (scope s) at n S x y = block_together s n S x y
    form_together (focus rs s es) at n S x y =
        let m = n + length rs in let k = m + spots_block s in let T = images t rs S in let U = out_block t s T to_next in
        ⊎_elim (λ z. inl (rows_together at n rs S z.0 z.1)) (λ z. inr (⊎_elim
        (λ z. inl (block_together s m T z.0 z.1))
        (λ z. inr (rows_together (end_of s) k es U z.0 z.1))
        (parts m k (k + length es) (block_between P Q p t s m T) (rows_between P Q p t (end_of s) k es U)
        (block_between R J p t s m T) (rows_between R J p t (end_of s) k es U) z.0 z.1)))
        (parts n m (k + length es) (rows_between P Q p t at n rs S) (sum_between m k (k + length es) (omega arith) (omega arith) (block_between P Q p t s m T) (rows_between P Q p t (end_of s) k es U))
        (rows_between R J p t at n rs S) (sum_between m k (k + length es) (omega arith) (omega arith) (block_between R J p t s m T) (rows_between R J p t (end_of s) k es U)) x y)
    form_together (return rs) at n S x y = rows_together at n rs S x y
    form_together (jump c left) at n S x y = rows_together at n (map away_row left) S x y

    pub block_together : (s : Block) (n : ℕ) (S : Ones) → SpotAtBlock P Q p t n s S → SpotAtBlock R J p t n s S → SpotAtBlock Both Joined p t n s S
    block_together (block ss bound end) n S x y =
        let m = n + spots_stmts ss in let k = m + length (map away_row bound) in let T = out_stmts t ss S to_next in
        ⊎_elim (λ z. inl (stmts_together ss n S z.0 z.1)) (λ z. inr (rows_together end m (map away_row bound) T z.0 z.1))
        (parts n m k (stmts_between P Q p t ss n S) (rows_between P Q p t end m (map away_row bound) T)
        (stmts_between R J p t ss n S) (rows_between R J p t end m (map away_row bound) T) x y)

    pub stmts_together : (ss : Stmts) (n : ℕ) (S : Ones) → SpotAtStmts P Q p t n ss S → SpotAtStmts R J p t n ss S → SpotAtStmts Both Joined p t n ss S
    stmts_together done n S x y = x
    stmts_together (next at s rest) n S x y =
        let m = n + spots s in let k = m + spots_stmts rest in let T = out t s S to_next in
        ⊎_elim (λ z. inl (form_together s at n S z.0 z.1)) (λ z. inr (stmts_together rest m T z.0 z.1))
        (parts n m k (form_between P Q p t s at n S) (stmts_between P Q p t rest m T)
        (form_between R J p t s at n S) (stmts_between R J p t rest m T) x y)

    pub arms_together : (arms : Arms) (at n : ℕ) (S : Ones) → SpotAtArms P Q p t at n arms S → SpotAtArms R J p t at n arms S → SpotAtArms Both Joined p t at n arms S
    arms_together no_arms at n S x y = x
    arms_together (arm rs s rest) at n S x y =
        let m = n + length rs in let k = m + spots_block s in let l = k + spots_arms rest in let T = images t rs S in
        ⊎_elim (λ z. inl (rows_together at n rs S z.0 z.1)) (λ z. inr (⊎_elim
        (λ z. inl (block_together s m T z.0 z.1))
        (λ z. inr (arms_together rest at k S z.0 z.1))
        (parts m k l (block_between P Q p t s m T) (arms_between P Q p t rest at k S) (block_between R J p t s m T) (arms_between R J p t rest at k S) z.0 z.1)))
        (parts n m l (rows_between P Q p t at n rs S) (sum_between m k l (omega arith) (omega arith) (block_between P Q p t s m T) (arms_between P Q p t rest at k S))
        (rows_between R J p t at n rs S) (sum_between m k l (omega arith) (omega arith) (block_between R J p t s m T) (arms_between R J p t rest at k S)) x y)
