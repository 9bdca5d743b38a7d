-- Rows of a flat table, of as many cells each.
use Rattle.std.proofs.Common.{◌≢◌, ◌⊎◌, inl, inr, ℕ, zero, suc, ◌+◌, ◌*◌, ◌<◌, ◌≤◌, refl, ap, arith}
use Rattle.std.proofs.Math.Nat.{mul-le-mul_right}

next_row : (c d w : ℕ) → c < d → c * w + w ≤ d * w
next_row c d w l = let m : (c + 1) * w ≤ d * w = mul-le-mul_right w (omega (arith, l)) in omega (arith, m)

pub below_or_above : (c d : ℕ) → c ≢ d → (c < d) ⊎ (d < c)
below_or_above zero zero n = absurd (n refl)
below_or_above zero (suc d) n = inl (omega arith)
below_or_above (suc c) zero n = inr (omega arith)
below_or_above (suc c) (suc d) n = by (below_or_above c d (λ e. n (ap suc e)))
  where
    by : (c < d) ⊎ (d < c) → (suc c < suc d) ⊎ (suc d < suc c)
    by (inl l) = inl (omega (arith, l))
    by (inr l) = inr (omega (arith, l))

-- cells of different rows are different
pub rows_apart : (c d w i j : ℕ) → c ≢ d → i < w → j < w → c * w + i ≢ d * w + j
rows_apart c d w i j n li lj e = by (below_or_above c d n)
  where
    by : (c < d) ⊎ (d < c) → ⊥
    by (inl l) = let m = next_row c d w l in omega (arith, m, li, lj, e)
    by (inr l) = let m = next_row d c w l in omega (arith, m, li, lj, e)

-- a row is within the table
pub row_within : (c n w i : ℕ) → c < n → i < w → c * w + i < n * w
row_within c n w i l m = let k = next_row c n w l in omega (arith, k, m)

pub row_fits : (c n w i : ℕ) → c < n → i ≤ w → c * w + i ≤ n * w
row_fits c n w i l m = let k = next_row c n w l in omega (arith, k, m)
