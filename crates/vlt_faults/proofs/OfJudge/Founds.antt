-- What is told of a spot depends on what comes to it alone.
use Rattle.std.proofs.Common.{ℕ, List, [], inl, ⊎_elim}
use Rattle.vlt_core.specs.Core.{Tok}
use Rattle.vlt_core.specs.Maps.{Row}
use Rattle.vlt_core.specs.Flow.{step, Block, block, Stmts}
use Rattle.vlt_core.specs.Found.{Ones}
use Rattle.vlt_core.specs.Faults.{Spot, RowAt, SpotAtBlock, SpotAtStmts, IsMixed, IsUnwanted, FaultKind}
use Rattle.vlt_core_laws.proofs.Congruent.{OfFoundRows, OfFoundJoins, mixed_of_found, unwanted_of_found, row_told_of_found, join_told_of_found, same_spot, same_spot_block}
use Rattle.vlt_core_laws.specs.Sweep.{IsSameOnes}
use Rattle.vlt_faults.specs.Judge.Blames.{TellsUnwanted, TellsMixed}

pub unwanted_told : (kind : FaultKind) → OfFoundRows (TellsUnwanted kind)
unwanted_told kind = record {
  same = λ r S T f g x. (unwanted_of_found.same r S T f g x.0, λ one. (row_told_of_found kind).same r S T f g (x.1 (λ o o' a b. one o o' (f o a) (f o' b))));
}

pub mixed_told : (kind : FaultKind) → OfFoundJoins (TellsMixed kind)
mixed_told kind = record {
  same = λ S T f g x. (mixed_of_found.same S T f g x.0, λ one. (join_told_of_found kind).same S T f g (x.1 (λ o o' a b. one o o' (f o a.0, a.1) (f o' b.0, b.1))));
}

pub turned : (S T : Ones) → IsSameOnes S T → IsSameOnes T S
turned S T e = record { there = e.back; back = e.there }

module _ (t : Tok) (S T : Ones) (e : IsSameOnes S T) where
  pub rows_moved : (p : Spot) (at n : ℕ) (rs : List Row) → RowAt IsUnwanted IsMixed p t at n rs S → RowAt IsUnwanted IsMixed p t at n rs T
  rows_moved p at n rs x = same_spot IsUnwanted IsMixed unwanted_of_found mixed_of_found (step rs) p t at n S T e.there e.back x

  pub rows_told : (kind : FaultKind) (p : Spot) (at n : ℕ) (rs : List Row) → RowAt (TellsUnwanted kind) (TellsMixed kind) p t at n rs S → RowAt (TellsUnwanted kind) (TellsMixed kind) p t at n rs T
  rows_told kind p at n rs x = same_spot (TellsUnwanted kind) (TellsMixed kind) (unwanted_told kind) (mixed_told kind) (step rs) p t at n S T e.there e.back x

  pub block_moved : (p : Spot) (n : ℕ) (s : Block) → SpotAtBlock IsUnwanted IsMixed p t n s S → SpotAtBlock IsUnwanted IsMixed p t n s T
  block_moved p n s x = same_spot_block IsUnwanted IsMixed unwanted_of_found mixed_of_found s p t n S T e.there e.back x

  pub block_told : (kind : FaultKind) (p : Spot) (n : ℕ) (s : Block) → SpotAtBlock (TellsUnwanted kind) (TellsMixed kind) p t n s S → SpotAtBlock (TellsUnwanted kind) (TellsMixed kind) p t n s T
  block_told kind p n s x = same_spot_block (TellsUnwanted kind) (TellsMixed kind) (unwanted_told kind) (mixed_told kind) s p t n S T e.there e.back x

  -- as those of a block that binds nothing
  pub stmts_moved : (p : Spot) (n : ℕ) (ss : Stmts) → SpotAtStmts IsUnwanted IsMixed p t n ss S → SpotAtStmts IsUnwanted IsMixed p t n ss T
  stmts_moved p n ss x = ⊎_elim (λ y. y) (λ y. absurd y) (block_moved p n (block ss [] 0) (inl x))

  pub stmts_told : (kind : FaultKind) (p : Spot) (n : ℕ) (ss : Stmts) → SpotAtStmts (TellsUnwanted kind) (TellsMixed kind) p t n ss S → SpotAtStmts (TellsUnwanted kind) (TellsMixed kind) p t n ss T
  stmts_told kind p n ss x = ⊎_elim (λ y. y) (λ y. absurd y) (block_told kind p n (block ss [] 0) (inl x))
