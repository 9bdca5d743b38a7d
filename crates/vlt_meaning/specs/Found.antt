-- What a step finds, or how the run ends because it doesn't.
use Rattle.std.specs.Prelude.{ℕ, Bool, if◌then◌else◌, Option, Some, None, Result, Ok, Err}
use Rattle.std.specs.Option.{ok_or}
use Rattle.vlt_meaning.specs.World.{Object, Reason, Outcome, fault}

abbrev pub Found : Type 0 → Type 0
Found A = Result A Outcome

-- the second step, if the first one found something
infixl 10 ◌>>=◌
abbrev pub ◌>>=◌ : {A B : Type 0} → Found A → (A → Found B) → Found B
Ok a >>= go = go a
Err o >>= go = Err o

-- what is there; that it isn't is a fault
abbrev pub or_fault : {A : Type 0} → Reason → Option A → Found A
or_fault reason o = ok_or o (fault reason None)

-- an object with its position
pub record Named : Type 0 where
  pub number : ℕ
  pub object : Object

-- the object where the test holds; else it is a fault at the object
abbrev pub if_so : Bool → Reason → Named → Found Named
if_so test reason n = if test then Ok n else Err (fault reason (Some n.number))
