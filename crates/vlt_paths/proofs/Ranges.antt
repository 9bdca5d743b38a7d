-- The joins of a part have the numbers of its spots.
use Rattle.std.proofs.Common.{◌≡◌, ◌≤◌, ◌<◌, ℕ, zero, suc, ◌+◌, List, [], ◌∷◌, map, length, ap, inl, inr, arith}
use Rattle.vlt_core.specs.Core.{Tok}
use Rattle.vlt_core.specs.Maps.{Row, away_row}
use Rattle.vlt_core.specs.Flow.{Flow, step, choose, loop, switch, scope, focus, return, jump, Block, block, Stmts, done, next, Arms, no_arms, arm, end_of}
use Rattle.vlt_core.specs.Found.{One}
use Rattle.vlt_core.specs.Faults.{Spot, spots, spots_block, spots_stmts, spots_arms}
use Rattle.vlt_core.specs.Witness.{Choice, NoRow, IsJoin, RowMet, Met, MetBlock, MetStmts, MetArm}

module _ (t : Tok) (s : Spot) (is : One → Type 0) where
  pub no_row : (at : ℕ) (rs : List Row) (o : One) → RowMet NoRow (IsJoin s is) t at rs o → ⊥
  no_row at [] o h = h
  no_row at (r ∷ rs) o (inl h) = h
  no_row at (r ∷ rs) o (inr h) = no_row at rs h.0 h.2

  abbrev pub Within : (k n : ℕ) → Type 0
  Within k n = (k ≤ s.number) × (s.number < k + n)

  last_one : (k n : ℕ) (x : ℕ) → x ≡ s.number → x ≡ k + n → (k ≤ s.number) × (s.number < k + (n + 1))
  last_one k n x e f = (omega (arith, e, f), omega (arith, e, f))

  wider : (k n j m : ℕ) → Within k n → j ≤ k → k + n ≤ j + m → Within j m
  wider k n j m w a b = let x = w.0 in let y = w.1 in (omega (arith, x, a), omega (arith, y, b))

  mutual
    pub in_form : (at k : ℕ) (f : Flow) (o : One) (cs : List Choice) → Met NoRow (IsJoin s is) t at k f o cs → Within k (spots f)
    in_form at k (step rs) o cs h = absurd (no_row at rs o h.1)
    in_form at k (choose rs a b) o cs (inl h) = absurd (no_row at rs o h.1)
    in_form at k (choose rs a b) o cs (inr (inl (m, l, (es, inl h)))) =
        wider (k + length rs) (spots_block a) k (spots (choose rs a b)) (in_block (k + length rs) a m es h.1) (omega arith) (omega arith)
    in_form at k (choose rs a b) o cs (inr (inl (m, l, (es, inr h)))) =
        wider (k + length rs + spots_block a) (spots_block b) k (spots (choose rs a b)) (in_block (k + length rs + spots_block a) b m es h.1) (omega arith) (omega arith)
    in_form at k (choose rs a b) o cs (inr (inr h)) = let e = ap (λ x. x.number) h.2.0 in (omega (arith, e), omega (arith, e))
    in_form at k (loop rs b) o cs (inl (n, (q, (ds, r, inl h)))) = let e = ap (λ x. x.number) h.1.0 in (omega (arith, e), omega (arith, e))
    in_form at k (loop rs b) o cs (inl (n, (q, (ds, r, inr (inl h))))) = absurd (no_row at rs q h.1)
    in_form at k (loop rs b) o cs (inl (n, (q, (ds, r, inr (inr h))))) =
        wider (k + 1 + length rs) (spots_block b) k (spots (loop rs b)) (in_block (k + 1 + length rs) b h.0 h.2.0 h.2.2) (omega arith) (omega arith)
    in_form at k (loop rs b) o cs (inr h) = let e = ap (λ x. x.number) h.2.0 in (omega (arith, e), omega (arith, e))
    in_form at k (switch rs arms end) o cs (inl h) = absurd (no_row at rs o h.1)
    in_form at k (switch rs arms end) o cs (inr (inl h)) =
        wider (k + length rs) (spots_arms arms) k (spots (switch rs arms end)) (in_arm at (k + length rs) h.2.0 arms h.0 h.2.1.0 h.2.1.2) (omega arith) (omega arith)
    in_form at k (switch rs arms end) o cs (inr (inr h)) = let e = ap (λ x. x.number) h.2.0 in (omega (arith, e), omega (arith, e))
    in_form at k (scope b) o cs h = in_block k b o cs h
    in_form at k (focus rs b es) o cs (inl h) = absurd (no_row at rs o h.1)
    in_form at k (focus rs b es) o cs (inr (inl h)) =
        wider (k + length rs) (spots_block b) k (spots (focus rs b es)) (in_block (k + length rs) b h.0 cs h.2) (omega arith) (omega arith)
    in_form at k (focus rs b es) o cs (inr (inr h)) = absurd (no_row (end_of b) es h.2.0 h.2.2)
    in_form at k (return rs) o cs h = absurd (no_row at rs o h.1)
    in_form at k (jump continues left) o cs h = absurd (no_row at (map away_row left) o h.1)

    pub in_block : (k : ℕ) (b : Block) (o : One) (cs : List Choice) → MetBlock NoRow (IsJoin s is) t k b o cs → Within k (spots_block b)
    in_block k (block ss bound end) o cs (inl h) = wider k (spots_stmts ss) k (spots_block (block ss bound end)) (in_stmts k ss o cs h) (omega arith) (omega arith)
    in_block k (block ss bound end) o cs (inr h) = absurd (no_row end (map away_row bound) h.0 h.2)

    pub in_stmts : (k : ℕ) (ss : Stmts) (o : One) (cs : List Choice) → MetStmts NoRow (IsJoin s is) t k ss o cs → Within k (spots_stmts ss)
    in_stmts k done o cs h = absurd h
    in_stmts k (next at f rest) o cs (inl h) = wider k (spots f) k (spots_stmts (next at f rest)) (in_form at k f o cs h) (omega arith) (omega arith)
    in_stmts k (next at f rest) o cs (inr h) = wider (k + spots f) (spots_stmts rest) k (spots_stmts (next at f rest)) (in_stmts (k + spots f) rest h.0 h.1.0 h.1.2) (omega arith) (omega arith)

    pub in_arm : (at k i : ℕ) (arms : Arms) (o : One) (cs : List Choice) → MetArm NoRow (IsJoin s is) t at k i arms o cs → Within k (spots_arms arms)
    in_arm at k i no_arms o cs h = absurd h
    in_arm at k zero (arm rs b rest) o cs (inl h) = absurd (no_row at rs o h.1)
    in_arm at k zero (arm rs b rest) o cs (inr h) =
        wider (k + length rs) (spots_block b) k (spots_arms (arm rs b rest)) (in_block (k + length rs) b h.0 cs h.2) (omega arith) (omega arith)
    in_arm at k (suc i) (arm rs b rest) o cs h =
        wider (k + length rs + spots_block b) (spots_arms rest) k (spots_arms (arm rs b rest)) (in_arm at (k + length rs + spots_block b) i rest o cs h) (omega arith) (omega arith)
