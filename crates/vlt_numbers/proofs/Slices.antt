-- One of the lists that a list is cut into.
use Rattle.std.proofs.Common.{◌≡◌, ℕ, zero, suc, ◌<◌, ◌≤◌, leb, List, [], ◌∷◌, length, get_or, ℤ, IsTrue, Some, None, refl, arith}
use Rattle.std.specs.List.{slice_range, slice_get}
use Rattle.std.proofs.lemmas.Bool.{leb-true}
use Rattle.vlt_numbers.specs.Ends.{are_ends, cut_at}
use Rattle.vlt_numbers.proofs.Reading.{both, starts_below}

pub slice_get-cut_at : (start : ℕ) (ends : List ℕ) (numbers : List ℤ) (i : ℕ) → i < length ends
    → slice_get (cut_at start ends numbers) i ≡ Some (slice_range numbers (get_or (start ∷ ends) i 0) (get_or ends i 0))
slice_get-cut_at start [] numbers i h = absurd (omega arith)
slice_get-cut_at start (end ∷ ends) numbers zero h = refl
slice_get-cut_at start (end ∷ ends) numbers (suc i) h = slice_get-cut_at end ends numbers i (omega arith)

pub slice_get-cut_at_past : (start : ℕ) (ends : List ℕ) (numbers : List ℤ) (i : ℕ) → length ends ≤ i → slice_get (cut_at start ends numbers) i ≡ None
slice_get-cut_at_past start [] numbers i h = refl
slice_get-cut_at_past start (end ∷ ends) numbers zero h = absurd (omega arith)
slice_get-cut_at_past start (end ∷ ends) numbers (suc i) h = slice_get-cut_at_past end ends numbers i (omega arith)

-- each begins before it ends, and none ends past the count
pub bounds : (start : ℕ) (ends : List ℕ) (count i : ℕ) → IsTrue (are_ends start ends count) → i < length ends
    → (get_or (start ∷ ends) i 0 ≤ get_or ends i 0) × (get_or ends i 0 ≤ count)
bounds start [] count i h l = absurd (omega arith)
bounds start (end ∷ ends) count zero h l =
    let k = both (leb start end) (are_ends end ends count) h in
    (leb-true start end k.0, starts_below end ends count k.1)
bounds start (end ∷ ends) count (suc i) h l =
    let k = both (leb start end) (are_ends end ends count) h in
    bounds end ends count i k.1 (omega arith)
