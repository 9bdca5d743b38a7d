-- What is written to frames.
use Rattle.std.proofs.Common.{◌≡◌, ℕ, zero, suc, ◌==◌, ◌<◌, Bool, true, false, if◌then◌else◌, List, [], ◌∷◌, ◌++◌, length, Option, Some, None, slice_get, slice_set, refl, ap, ◌∙◌, arith}
use Rattle.std.specs.Option.{option_map}
use Rattle.std.proofs.lemmas.Bool.Decides.{nat_tests}
use Rattle.vlt_meaning.specs.Step.{with_var, with_key}
use Rattle.vlt_meaning.specs.World as w
use Rattle.vlt_meaning_laws.proofs.Lists.{get_set_same, get_set_other}
use Rattle.vlt_trace_worlds.specs.declared.worlds.Value.{Value}
use Rattle.vlt_trace_worlds.specs.View.{joined, var_in, key_in, value_view}

-- maps that agree everywhere are one
pub same_map : {A : Type 0} {f g : ℕ → A} → ((x : ℕ) → f x ≡ g x) → f ≡ g
same_map h = λ i x. h x i

pub joined_more : {A : Type 0} (xs : List (Option A)) (x : ℕ) → joined (slice_get (xs ++ None ∷ []) x) ≡ joined (slice_get xs x)
joined_more [] zero = refl
joined_more [] (suc x) = refl
joined_more (y ∷ ys) zero = refl
joined_more (y ∷ ys) (suc x) = joined_more ys x

pub var_more : (xs : List (Option Value)) (x : ℕ) → var_in (xs ++ None ∷ []) x ≡ var_in xs x
var_more xs x = ap (option_map value_view) (joined_more xs x)

-- there is an element
pub record At {A : Type 0} (xs : List A) (n : ℕ) : Type 0 where
  pub item : A
  pub is : slice_get xs n ≡ Some item

pub at_within : {A : Type 0} (xs : List A) (n : ℕ) → n < length xs → At xs n
at_within [] n l = absurd (omega (arith, l))
at_within (x ∷ xs) zero l = record { item = x; is = refl }
at_within (x ∷ xs) (suc n) l = let h = at_within xs n (omega (arith, l)) in record { item = h.item; is = h.is }

-- one place is set
pub joined_set : {A : Type 0} (xs : List (Option A)) (v x : ℕ) (a : Option A) → v < length xs → joined (slice_get (slice_set xs v a) x) ≡ (if x == v then a else joined (slice_get xs x))
joined_set {A} xs v x a l = by (x == v) refl
  where
    by : (b : Bool) → (x == v) ≡ b → joined (slice_get (slice_set xs v a) x) ≡ (if b then a else joined (slice_get xs x))
    by true e =
        let same : x ≡ v = grind (arith, nat_tests, e) in
        let h = at_within xs v l in
        ap (λ y. joined (slice_get (slice_set xs v a) y)) same ∙ ap joined (get_set_same xs v a h.item h.is)
    by false e = ap joined (get_set_other xs v x a (λ same. absurd (grind (arith, nat_tests, e, same))))

mapped_if : (b : Bool) (a c : Option Value) → option_map value_view (if b then a else c) ≡ (if b then option_map value_view a else option_map value_view c)
mapped_if true a c = refl
mapped_if false a c = refl

pub if_other : {A : Type 0} (b : Bool) (a c d : A) → c ≡ d → (if b then a else c) ≡ (if b then a else d)
if_other true a c d e = refl
if_other false a c d e = e

pub var_written : (d : ℕ) (old grown : List (Option Value)) (keys : ℕ → Option ℕ) (v : ℕ) (a : Option Value) → ((x : ℕ) → var_in grown x ≡ var_in old x) → v < length grown →
    ◌≡◌ {A = w.Frame} (record { depth = d; vars = var_in (slice_set grown v a); keys = keys }) (with_var v (option_map value_view a) (record { depth = d; vars = var_in old; keys = keys }))
var_written d old grown keys v a same l =
    ap (λ f. record { depth = d; vars = f; keys = keys }) (same_map (λ x.
    ap (option_map value_view) (joined_set grown v x a l)
    ∙ (mapped_if (x == v) a (joined (slice_get grown x)) ∙ if_other (x == v) (option_map value_view a) (var_in grown x) (var_in old x) (same x))))

pub key_written : (d : ℕ) (old grown : List (Option ℕ)) (vars : ℕ → Option w.Value) (k n : ℕ) → ((x : ℕ) → key_in grown x ≡ key_in old x) → k < length grown →
    ◌≡◌ {A = w.Frame} (record { depth = d; vars = vars; keys = key_in (slice_set grown k (Some n)) }) (with_key k n (record { depth = d; vars = vars; keys = key_in old }))
key_written d old grown vars k n same l =
    ap (λ f. record { depth = d; vars = vars; keys = f }) (same_map (λ x.
    joined_set grown k x (Some n) l ∙ if_other (x == k) (Some n) (key_in grown x) (key_in old x) (same x)))
