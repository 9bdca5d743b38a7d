-- Each map of a function's notes is that of an instance.
use Rattle.std.proofs.Common.{◌≡◌, ◌<◌, ℕ, zero, suc, List, [], ◌∷◌, length, Option, Some, None, slice_get, refl, subst, ap, sym, arith}
use Rattle.vlt_core.specs.Core.{Func, Program}
use Rattle.vlt_core.specs.Instances.{Bound, bound_in, origins}
use Rattle.cert_format.specs.Bounds.{instances}
use Rattle.cert_least_laws.proofs.Listing.{many}

lookup : {A : Type 0} (xs : List A) (i : ℕ) → i < length xs → (x : A) × (slice_get xs i ≡ Some x)
lookup [] i within = absurd (never i within)
  where
    never : (i : ℕ) → i < 0 → ⊥
    never i h = omega (arith, h)
lookup (x ∷ xs) zero within = (x, refl)
lookup (x ∷ xs) (suc i) within = lookup xs i (less i (length xs) within)
  where
    less : (i n : ℕ) → suc i < suc n → i < n
    less i n h = omega (arith, h)

-- one map stands by itself, else there are so many in an array
abbrev pub IsCount : Option ℕ → ℕ → Type 0
IsCount None n = n ≡ 1
IsCount (Some k) n = n ≡ k

-- the only origin of a function without a bound entry
only_at : (i : ℕ) → i < 1 → (o : Option ℕ) × (slice_get (None ∷ []) i ≡ Some o)
only_at zero within = (None, refl)
only_at (suc i) within = absurd (never i within)
  where
    never : (i : ℕ) → suc i < 1 → ⊥
    never i h = omega (arith, h)

module _ (p : Program) (f : Func) where
  abbrev counted_by : Option Bound → Option ℕ
  counted_by None = None
  counted_by (Some b) = Some (length (origins p f))

  alone_origins : bound_in f.clause ≡ None → origins p f ≡ None ∷ []
  alone_origins plain = rw plain refl

  alone_instances : bound_in f.clause ≡ None → instances p f ≡ None
  alone_instances plain = rw plain refl

  bound_instances : (b : Bound) → bound_in f.clause ≡ Some b → instances p f ≡ Some (length (origins p f))
  bound_instances b is = ap counted_by is

  -- a note has a map for each origin
  pub instances_counted : IsCount (instances p f) (length (origins p f))
  instances_counted = by (bound_in f.clause) refl
    where
      by : (b : Option Bound) → bound_in f.clause ≡ b → IsCount (instances p f) (length (origins p f))
      by None is = subst (λ n. IsCount n (length (origins p f))) (sym (alone_instances is)) (ap length (alone_origins is))
      by (Some b) is = subst (λ n. IsCount n (length (origins p f))) (sym (bound_instances b is)) refl

  pub origin_at : (i : ℕ) → i < many (instances p f) → (o : Option ℕ) × (slice_get (origins p f) i ≡ Some o)
  origin_at i within = by (bound_in f.clause) refl
    where
      by : (b : Option Bound) → bound_in f.clause ≡ b → (o : Option ℕ) × (slice_get (origins p f) i ≡ Some o)
      by None is =
          subst (λ (os : List (Option ℕ)). (o : Option ℕ) × (slice_get os i ≡ Some o)) (sym (alone_origins is)) (only_at i (subst (λ o. i < many o) (alone_instances is) within))
      by (Some b) is = lookup (origins p f) i (subst (λ o. i < many o) (bound_instances b is) within)
