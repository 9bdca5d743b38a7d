-- What is said of a call that may refuse.
use Rattle.std.specs.Prelude.{◌≡◌, Result, Err}

-- a fact for each refusal; `refusal` makes the error that carries one
pub record OnRefused {A E R : Type 0} (refusal : R → E) (r : Result A E) (p : R → Type 0) : Type 0 where
  pub holds : (x : R) → r ≡ Err (refusal x) → p x
