-- What is so of a spot is so of it with weaker facts on rows and joins.
use Rattle.std.proofs.Common.{◌+◌, ℕ, Bool, true, false, List, [], ◌∷◌, map, length, inl, inr, ⊎_elim}
use Rattle.vlt_core.specs.Core.{Tok}
use Rattle.vlt_core.specs.Maps.{Row, is_tok, away_row}
use Rattle.vlt_core.specs.Flow.{Flow, step, choose, loop, switch, scope, focus, return, jump, Block, block, Stmts, done, next, Arms, no_arms, arm, end_of}
use Rattle.vlt_core.specs.Found.{Ones, image, images, out, out_block, out_stmts, to_next, head_of}
use Rattle.vlt_core.specs.Faults.{If, Spot, spots, spots_block, spots_stmts, RowAt, SpotAt, SpotAtBlock, SpotAtStmts, SpotAtArms}

module _ (P R : Row → Ones → Type 0) (Q J : Ones → Type 0) (f : (r : Row) (S : Ones) → P r S → R r S) (g : (S : Ones) → Q S → J S) (p : Spot) (t : Tok) where
  wide_if : (b : Bool) (r : Row) (S : Ones) → If b (P r S) → If b (R r S)
  wide_if true r S x = f r S x
  wide_if false r S x = x

  wide_rows : (at n : ℕ) (rs : List Row) (S : Ones) → RowAt P Q p t at n rs S → RowAt R J p t at n rs S
  wide_rows at n [] S x = x
  wide_rows at n (r ∷ rs) S x = ⊎_elim (λ y. inl (y.0, wide_if (is_tok t r.tok) r S y.1)) (λ y. inr (wide_rows at (n + 1) rs (image t r S) y)) x

  mutual
    pub wide : (s : Flow) (at n : ℕ) (S : Ones) → SpotAt P Q p t at n s S → SpotAt R J p t at n s S
    wide (step rs) at n S x = wide_rows at n rs S x
    wide (choose rs a b) at n S x = ⊎_elim (λ y. inl (wide_rows at n rs S y)) (⊎_elim
        (λ y. inr (inl (wide_block a (n + length rs) (images t rs S) y))) (⊎_elim
        (λ y. inr (inr (inl (wide_block b (n + length rs + spots_block a) (images t rs S) y))))
        (λ y. inr (inr (inr (y.0, g _ y.1)))))) x
    wide (loop rs s) at n S x = ⊎_elim (λ y. inl (y.0, g _ y.1)) (⊎_elim
        (λ y. inr (inl (wide_rows at (n + 1) rs (head_of t rs s S) y))) (⊎_elim
        (λ y. inr (inr (inl (wide_block s (n + 1 + length rs) (images t rs (head_of t rs s S)) y))))
        (λ y. inr (inr (inr (y.0, g _ y.1)))))) x
    wide (switch rs arms end) at n S x = ⊎_elim (λ y. inl (wide_rows at n rs S y)) (⊎_elim
        (λ y. inr (inl (wide_arms arms at (n + length rs) (images t rs S) y)))
        (λ y. inr (inr (y.0, g _ y.1)))) x
    wide (scope s) at n S x = wide_block s n S x
    wide (focus rs s es) at n S x = ⊎_elim (λ y. inl (wide_rows at n rs S y)) (⊎_elim
        (λ y. inr (inl (wide_block s (n + length rs) (images t rs S) y)))
        (λ y. inr (inr (wide_rows (end_of s) (n + length rs + spots_block s) es (out_block t s (images t rs S) to_next) y)))) x
    wide (return rs) at n S x = wide_rows at n rs S x
    wide (jump c left) at n S x = wide_rows at n (map away_row left) S x

    pub wide_block : (s : Block) (n : ℕ) (S : Ones) → SpotAtBlock P Q p t n s S → SpotAtBlock R J p t n s S
    wide_block (block ss bound end) n S x = ⊎_elim (λ y. inl (wide_stmts ss n S y))
        (λ y. inr (wide_rows end (n + spots_stmts ss) (map away_row bound) (out_stmts t ss S to_next) y)) x

    wide_stmts : (ss : Stmts) (n : ℕ) (S : Ones) → SpotAtStmts P Q p t n ss S → SpotAtStmts R J p t n ss S
    wide_stmts done n S x = x
    wide_stmts (next at s rest) n S x = ⊎_elim (λ y. inl (wide s at n S y)) (λ y. inr (wide_stmts rest (n + spots s) (out t s S to_next) y)) x

    wide_arms : (arms : Arms) (at n : ℕ) (S : Ones) → SpotAtArms P Q p t at n arms S → SpotAtArms R J p t at n arms S
    wide_arms no_arms at n S x = x
    wide_arms (arm rs s rest) at n S x = ⊎_elim (λ y. inl (wide_rows at n rs S y)) (⊎_elim
        (λ y. inr (inl (wide_block s (n + length rs) (images t rs S) y)))
        (λ y. inr (inr (wide_arms rest at (n + length rs + spots_block s) S y)))) x
