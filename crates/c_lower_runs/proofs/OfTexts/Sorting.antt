-- The variables that a function of the C program declares stand in order.
use Rattle.std.proofs.Common.{◌≡◌, ◌-◌, ℕ, zero, suc, ◌+◌, ◌==◌, nat_lt, true, false, List, [], ◌∷◌, ◌++◌, map, IsSorted, refl, arith}
use Rattle.std.proofs.lemmas.Bool.Decides.{nat_tests}
use Rattle.std.specs.Ordering.{is_lt, nat_cmp}
use Rattle.std.specs.List.{range_with_len, enumerate_from}
use Rattle.vlt_core.specs.Core.{Func, Program}
use Rattle.c_syntax.specs.declared.program.CVar.{CVar}
use Rattle.c_syntax.specs.Programs.{variable_order}
use Rattle.c_syntax.specs.Canonical.{AreSorted}
use Rattle.c_lower.specs.Slots.{Numbers, first_temps}
use Rattle.c_lower.specs.Statements.{StmtCode, most_of_both, list_code}
use Rattle.c_lower.specs.Glue.{glue_code}
use Rattle.c_lower.specs.Lowering.{param_numbers, vars_between, func_with, with_body, externals, lowered}

abbrev number_var : ℕ → CVar
number_var i = record { reference = false; number = i }

abbrev reference_var : ℕ → CVar
reference_var i = record { reference = true; number = i }

-- the first of a list isn't below the variable
abbrev NotBelow : CVar → List CVar → Type 0
NotBelow v [] = Unit {0}
NotBelow v (w ∷ ws) = is_lt (variable_order w v) ≡ false

sorted_none : IsSorted variable_order []
sorted_none k d from l = absurd (omega (arith, l))

sorted_more : (v : CVar) (vs : List CVar) → NotBelow v vs → IsSorted variable_order vs → IsSorted variable_order (v ∷ vs)
sorted_more v [] h s zero d from l = absurd (omega (arith, l))
sorted_more v [] h s (suc k) d from l = absurd (omega (arith, l))
sorted_more v (w ∷ ws) h s zero d from l = h
sorted_more v (w ∷ ws) h s (suc k) d from l = rw (more k) (s k d (omega arith) (omega (arith, l)))
  where
    more : (k : ℕ) → suc k + 1 ≡ suc (k + 1)
    more k = omega arith

later : (i : ℕ) → is_lt (nat_cmp (i + 1) i) ≡ false
later i = rw (more i, other i) refl
  where
    more : (i : ℕ) → nat_lt (i + 1) i ≡ false
    more i = grind (arith, nat_tests)

    other : (i : ℕ) → ((i + 1) == i) ≡ false
    other i = grind (arith, nat_tests)

references_sorted : (n i : ℕ) → IsSorted variable_order (map reference_var (range_with_len i n))
references_sorted zero i = sorted_none
references_sorted (suc n) i = sorted_more (reference_var i) (map reference_var (range_with_len (i + 1) n)) (by n) (references_sorted n (i + 1))
  where
    by : (n : ℕ) → NotBelow (reference_var i) (map reference_var (range_with_len (i + 1) n))
    by zero = tt
    by (suc n) = later i

numbers_sorted : (n i m j : ℕ) → IsSorted variable_order (map number_var (range_with_len i n) ++ map reference_var (range_with_len j m))
numbers_sorted zero i m j = references_sorted m j
numbers_sorted (suc n) i m j =
    sorted_more (number_var i) (map number_var (range_with_len (i + 1) n) ++ map reference_var (range_with_len j m)) (by n m) (numbers_sorted n (i + 1) m j)
  where
    by : (n m : ℕ) → NotBelow (number_var i) (map number_var (range_with_len (i + 1) n) ++ map reference_var (range_with_len j m))
    by zero zero = tt
    by zero (suc m) = refl
    by (suc n) m = later i

between_sorted : (a b : Numbers) → IsSorted variable_order (vars_between a b)
between_sorted a b = numbers_sorted (b.n - a.n) a.n (b.p - a.p) a.p

all_sorted : (p : Program) (code : Func → StmtCode) (i : ℕ) (fs : List Func) → AreSorted (map (λ q. func_with p q.0 q.1 (code q.1)) (enumerate_from i fs))
all_sorted p code i [] = tt
all_sorted p code i (f ∷ fs) = (between_sorted (param_numbers p f) (most_of_both (first_temps p f) (code f).most), all_sorted p code (i + 1) fs)

pub variables_sorted : (p : Program) → AreSorted (lowered p).glue × AreSorted (lowered p).fns
variables_sorted p = (all_sorted p (λ f. glue_code p f) 0 (externals p), all_sorted p (λ f. list_code p f (first_temps p f) f.body) 0 (with_body p))
