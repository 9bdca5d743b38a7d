-- Something is faulty just where some spot is.
use Rattle.std.proofs.Common.{◌+◌, ℕ, List, [], ◌∷◌, map, length, refl, inl, inr, ⊎_elim}
use Rattle.vlt_core.specs.Core.{Tok}
use Rattle.vlt_core.specs.Maps.{Row, away_row}
use Rattle.vlt_core.specs.Flow.{Flow, step, choose, loop, switch, scope, focus, return, jump, Block, block, Stmts, done, next, Arms, no_arms, arm, end_of}
use Rattle.vlt_core.specs.Found.{Ones, image, images, out, out_block, out_stmts, to_next, head_of}
use Rattle.vlt_core_laws.specs.Faulted.{HasRowFault, HasFault, HasFaultBlock, HasFaultStmts, HasFaultArms}
use Rattle.vlt_core.specs.Faults.{Spot, row_spot, head_spot, join_spot, spots, spots_block, spots_stmts, spots_arms, RowAt, SpotAt, SpotAtBlock, SpotAtStmts, SpotAtArms, IsUnwanted, IsMixed}

rows_spot : (at c : ℕ) (t : Tok) (rs : List Row) (S : Ones) → HasRowFault t rs S → (p : Spot) × RowAt IsUnwanted IsMixed p t at c rs S
rows_spot at c t [] S x = absurd x
rows_spot at c t (r ∷ rs) S x = ⊎_elim (λ y. (row_spot at c, inl (refl, y))) (λ y. let z = rows_spot at (c + 1) t rs (image t r S) y in (z.0, inr z.1)) x

mutual
  pub some_spot : (s : Flow) (t : Tok) (at c : ℕ) (S : Ones) → HasFault t s S → (p : Spot) × SpotAt IsUnwanted IsMixed p t at c s S
  some_spot (step rs) t at c S x = rows_spot at c t rs S x
  some_spot (choose rs a b) t at c S x = ⊎_elim (λ y. let z = rows_spot at c t rs S y in (z.0, inl z.1)) (⊎_elim
      (λ y. let z = some_spot_block a t (c + length rs) (images t rs S) y in (z.0, inr (inl z.1))) (⊎_elim
      (λ y. let z = some_spot_block b t (c + length rs + spots_block a) (images t rs S) y in (z.0, inr (inr (inl z.1))))
      (λ y. (join_spot (end_of b) (c + length rs + spots_block a + spots_block b), inr (inr (inr (refl, y))))))) x
  some_spot (loop rs s) t at c S x = ⊎_elim (λ y. (head_spot at c, inl (refl, y))) (⊎_elim
      (λ y. let z = rows_spot at (c + 1) t rs (head_of t rs s S) y in (z.0, inr (inl z.1))) (⊎_elim
      (λ y. let z = some_spot_block s t (c + 1 + length rs) (images t rs (head_of t rs s S)) y in (z.0, inr (inr (inl z.1))))
      (λ y. (join_spot (end_of s) (c + 1 + length rs + spots_block s), inr (inr (inr (refl, y))))))) x
  some_spot (switch rs arms end) t at c S x = ⊎_elim (λ y. let z = rows_spot at c t rs S y in (z.0, inl z.1)) (⊎_elim
      (λ y. let z = some_spot_arms arms t at (c + length rs) (images t rs S) y in (z.0, inr (inl z.1)))
      (λ y. (join_spot end (c + length rs + spots_arms arms), inr (inr (refl, y))))) x
  some_spot (scope s) t at c S x = some_spot_block s t c S x
  some_spot (focus rs s es) t at c S x = ⊎_elim (λ y. let z = rows_spot at c t rs S y in (z.0, inl z.1)) (⊎_elim
      (λ y. let z = some_spot_block s t (c + length rs) (images t rs S) y in (z.0, inr (inl z.1)))
      (λ y. let z = rows_spot (end_of s) (c + length rs + spots_block s) t es (out_block t s (images t rs S) to_next) y in (z.0, inr (inr z.1)))) x
  some_spot (return rs) t at c S x = rows_spot at c t rs S x
  some_spot (jump d left) t at c S x = rows_spot at c t (map away_row left) S x

  pub some_spot_block : (s : Block) (t : Tok) (c : ℕ) (S : Ones) → HasFaultBlock t s S → (p : Spot) × SpotAtBlock IsUnwanted IsMixed p t c s S
  some_spot_block (block ss bound end) t c S x = ⊎_elim
      (λ y. let z = some_spot_stmts ss t c S y in (z.0, inl z.1))
      (λ y. let z = rows_spot end (c + spots_stmts ss) t (map away_row bound) (out_stmts t ss S to_next) y in (z.0, inr z.1)) x

  some_spot_stmts : (ss : Stmts) (t : Tok) (c : ℕ) (S : Ones) → HasFaultStmts t ss S → (p : Spot) × SpotAtStmts IsUnwanted IsMixed p t c ss S
  some_spot_stmts done t c S x = absurd x
  some_spot_stmts (next at s rest) t c S x = ⊎_elim
      (λ y. let z = some_spot s t at c S y in (z.0, inl z.1))
      (λ y. let z = some_spot_stmts rest t (c + spots s) (out t s S to_next) y in (z.0, inr z.1)) x

  some_spot_arms : (arms : Arms) (t : Tok) (at c : ℕ) (S : Ones) → HasFaultArms t arms S → (p : Spot) × SpotAtArms IsUnwanted IsMixed p t at c arms S
  some_spot_arms no_arms t at c S x = absurd x
  some_spot_arms (arm rs s rest) t at c S x = ⊎_elim (λ y. let z = rows_spot at c t rs S y in (z.0, inl z.1)) (⊎_elim
      (λ y. let z = some_spot_block s t (c + length rs) (images t rs S) y in (z.0, inr (inl z.1)))
      (λ y. let z = some_spot_arms rest t at (c + length rs + spots_block s) S y in (z.0, inr (inr z.1)))) x

rows_faulty : (p : Spot) (at n : ℕ) (t : Tok) (rs : List Row) (S : Ones) → RowAt IsUnwanted IsMixed p t at n rs S → HasRowFault t rs S
rows_faulty p at n t [] S x = absurd x
rows_faulty p at n t (r ∷ rs) S x = ⊎_elim (λ y. inl y.1) (λ y. inr (rows_faulty p at (n + 1) t rs (image t r S) y)) x

-- where a spot is faulty, something is
mutual
  pub faulty : (s : Flow) (p : Spot) (t : Tok) (at n : ℕ) (S : Ones) → SpotAt IsUnwanted IsMixed p t at n s S → HasFault t s S
  faulty (step rs) p t at n S x = rows_faulty p at n t rs S x
  faulty (choose rs a b) p t at n S x = ⊎_elim (λ y. inl (rows_faulty p at n t rs S y)) (⊎_elim
      (λ y. inr (inl (faulty_block a p t (n + length rs) (images t rs S) y))) (⊎_elim
      (λ y. inr (inr (inl (faulty_block b p t (n + length rs + spots_block a) (images t rs S) y))))
      (λ y. inr (inr (inr y.1))))) x
  faulty (loop rs s) p t at n S x = ⊎_elim (λ y. inl y.1) (⊎_elim
      (λ y. inr (inl (rows_faulty p at (n + 1) t rs (head_of t rs s S) y))) (⊎_elim
      (λ y. inr (inr (inl (faulty_block s p t (n + 1 + length rs) (images t rs (head_of t rs s S)) y))))
      (λ y. inr (inr (inr y.1))))) x
  faulty (switch rs arms end) p t at n S x = ⊎_elim (λ y. inl (rows_faulty p at n t rs S y)) (⊎_elim
      (λ y. inr (inl (faulty_arms arms p t at (n + length rs) (images t rs S) y)))
      (λ y. inr (inr y.1))) x
  faulty (scope s) p t at n S x = faulty_block s p t n S x
  faulty (focus rs s es) p t at n S x = ⊎_elim (λ y. inl (rows_faulty p at n t rs S y)) (⊎_elim
      (λ y. inr (inl (faulty_block s p t (n + length rs) (images t rs S) y)))
      (λ y. inr (inr (rows_faulty p (end_of s) (n + length rs + spots_block s) t es (out_block t s (images t rs S) to_next) y)))) x
  faulty (return rs) p t at n S x = rows_faulty p at n t rs S x
  faulty (jump c left) p t at n S x = rows_faulty p at n t (map away_row left) S x

  pub faulty_block : (s : Block) (p : Spot) (t : Tok) (n : ℕ) (S : Ones) → SpotAtBlock IsUnwanted IsMixed p t n s S → HasFaultBlock t s S
  faulty_block (block ss bound end) p t n S x = ⊎_elim
      (λ y. inl (faulty_stmts ss p t n S y))
      (λ y. inr (rows_faulty p end (n + spots_stmts ss) t (map away_row bound) (out_stmts t ss S to_next) y)) x

  faulty_stmts : (ss : Stmts) (p : Spot) (t : Tok) (n : ℕ) (S : Ones) → SpotAtStmts IsUnwanted IsMixed p t n ss S → HasFaultStmts t ss S
  faulty_stmts done p t n S x = absurd x
  faulty_stmts (next at s rest) p t n S x = ⊎_elim
      (λ y. inl (faulty s p t at n S y))
      (λ y. inr (faulty_stmts rest p t (n + spots s) (out t s S to_next) y)) x

  faulty_arms : (arms : Arms) (p : Spot) (t : Tok) (at n : ℕ) (S : Ones) → SpotAtArms IsUnwanted IsMixed p t at n arms S → HasFaultArms t arms S
  faulty_arms no_arms p t at n S x = absurd x
  faulty_arms (arm rs s rest) p t at n S x = ⊎_elim (λ y. inl (rows_faulty p at n t rs S y)) (⊎_elim
      (λ y. inr (inl (faulty_block s p t (n + length rs) (images t rs S) y)))
      (λ y. inr (inr (faulty_arms rest p t at (n + length rs + spots_block s) S y)))) x
