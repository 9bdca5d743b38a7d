-- The number of a function in its name is at most its number in the program.
use Rattle.std.proofs.Common.{◌≤◌, ℕ, zero, suc, Bool, true, false, if◌then◌else◌, List, [], ◌∷◌, length, take, filter, arith}
use Rattle.vlt_core.specs.Core.{Program}
use Rattle.c_lower.specs.Statements.{name_of}

few_kept : {A : Type 0} (test : A → Bool) (n : ℕ) (xs : List A) → length (filter test (take n xs)) ≤ n
few_kept test zero xs = omega arith
few_kept test (suc n) [] = omega arith
few_kept test (suc n) (x ∷ xs) = by (test x) (few_kept test n xs)
  where
    by : (b : Bool) → length (filter test (take n xs)) ≤ n → length (if b then x ∷ filter test (take n xs) else filter test (take n xs)) ≤ suc n
    by true h = omega arith
    by false h = omega arith

pub name_small : (p : Program) (g : ℕ) → (name_of p g).number ≤ g
name_small p g = few_kept _ g p.fns
