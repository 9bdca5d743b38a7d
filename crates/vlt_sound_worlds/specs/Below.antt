-- The test of being an object or below it.
use Rattle.std.specs.Prelude.{◌≡◌, ℕ, Bool, true, Some}
use Rattle.vlt_meaning.specs.World.{Object, above}

pub record HasUpper (os : ℕ → Object) (test : ℕ → Bool) (m : ℕ) : Type 0 where
  pub upper : ℕ
  pub is : above (os m).owner ≡ Some upper
  pub passes : test upper ≡ true

-- The object passes, what is in or was adopted by one that passes does, and nothing else.
pub record IsBelowTest (os : ℕ → Object) (n : ℕ) (test : ℕ → Bool) : Type 0 where
  pub itself : test n ≡ true
  pub up : (m p : ℕ) → above (os m).owner ≡ Some p → test p ≡ true → test m ≡ true
  pub down : (m : ℕ) → test m ≡ true → (m ≡ n → ⊥) → HasUpper os test m
