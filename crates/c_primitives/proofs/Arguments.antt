-- What arguments give.
use Rattle.std.proofs.Common.{◌≡◌, ℕ, ℤ, List, [], ◌∷◌, Option, Result, Ok, Err, refl}
use Rattle.c_syntax.specs.C.{Arg}
use Rattle.c_meaning.specs.World.{Vars}
use Rattle.c_meaning.specs.Values.{◌>>=◌}
use Rattle.c_meaning.specs.Primitives.{Effect, or_broken, on_number, on_reference, on_numbers, on_number_and_reference, on_references, number_of, reference_of}
use Rattle.c_primitives.specs.Args.{one_number, one_reference, number_pair, two_numbers, number_and_reference, two_references}

pub pair_is : (x y : Arg) (vars : Vars) (a b : ℤ) → Ok a ≡ number_of x vars → Ok b ≡ number_of y vars → Ok (a, b) ≡ number_pair x y vars
pair_is x y vars a b first second = rw (← first, ← second) refl

-- ---- primitives by what their arguments give

pub on_number_is : (xs : List Arg) (vars : Vars) (go : ℤ → Effect) → on_number xs vars go ≡ or_broken (one_number xs vars) go
unfolding on_number or_broken
on_number_is [] vars go = refl
on_number_is (x ∷ []) vars go = refl
on_number_is (x ∷ y ∷ xs) vars go = refl

pub on_reference_is : (xs : List Arg) (vars : Vars) (go : Option ℕ → Effect) → on_reference xs vars go ≡ or_broken (one_reference xs vars) go
unfolding on_reference or_broken
on_reference_is [] vars go = refl
on_reference_is (x ∷ []) vars go = refl
on_reference_is (x ∷ y ∷ xs) vars go = refl

pub on_numbers_is : (xs : List Arg) (vars : Vars) (go : ℤ → ℤ → Effect) → on_numbers xs vars go ≡ or_broken (two_numbers xs vars) (λ q. go q.0 q.1)
unfolding on_numbers or_broken
on_numbers_is [] vars go = refl
on_numbers_is (x ∷ []) vars go = refl
on_numbers_is (x ∷ y ∷ z ∷ xs) vars go = refl
on_numbers_is (x ∷ y ∷ []) vars go = by (number_of x vars) (number_of y vars)
  where
    by : (a b : Result ℤ ℕ) → or_broken a (λ c. or_broken b (go c)) ≡ or_broken {A = ℤ × ℤ} (a >>= (λ c. b >>= (λ d. Ok (c, d)))) (λ q. go q.0 q.1)
    by (Ok a) (Ok b) = refl
    by (Ok a) (Err r) = refl
    by (Err r) b = refl

pub on_number_and_reference_is : (xs : List Arg) (vars : Vars) (go : ℤ → Option ℕ → Effect) → on_number_and_reference xs vars go ≡ or_broken (number_and_reference xs vars) (λ q. go q.0 q.1)
unfolding on_number_and_reference or_broken
on_number_and_reference_is [] vars go = refl
on_number_and_reference_is (x ∷ []) vars go = refl
on_number_and_reference_is (x ∷ y ∷ z ∷ xs) vars go = refl
on_number_and_reference_is (x ∷ y ∷ []) vars go = by (number_of x vars) (reference_of y vars)
  where
    by : (a : Result ℤ ℕ) (b : Result (Option ℕ) ℕ) → or_broken a (λ c. or_broken b (go c)) ≡ or_broken {A = ℤ × Option ℕ} (a >>= (λ c. b >>= (λ d. Ok (c, d)))) (λ q. go q.0 q.1)
    by (Ok a) (Ok b) = refl
    by (Ok a) (Err r) = refl
    by (Err r) b = refl

pub on_references_is : (xs : List Arg) (vars : Vars) (go : Option ℕ → Option ℕ → Effect) → on_references xs vars go ≡ or_broken (two_references xs vars) (λ q. go q.0 q.1)
unfolding on_references or_broken
on_references_is [] vars go = refl
on_references_is (x ∷ []) vars go = refl
on_references_is (x ∷ y ∷ z ∷ xs) vars go = refl
on_references_is (x ∷ y ∷ []) vars go = by (reference_of x vars) (reference_of y vars)
  where
    by : (a b : Result (Option ℕ) ℕ) → or_broken a (λ c. or_broken b (go c)) ≡ or_broken {A = Option ℕ × Option ℕ} (a >>= (λ c. b >>= (λ d. Ok (c, d)))) (λ q. go q.0 q.1)
    by (Ok a) (Ok b) = refl
    by (Ok a) (Err r) = refl
    by (Err r) b = refl
