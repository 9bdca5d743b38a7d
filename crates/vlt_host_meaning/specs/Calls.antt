-- What a host asks for: calls of functions by name, with numbers and with objects that it holds.
use Rattle.std.specs.Prelude.{ℕ, ℤ, List}
use Rattle.vlt_core.specs.Core.{Name}
use Rattle.vlt_meaning.specs.World.{reference, Value, one}
use Rattle.vlt_meaning.specs.World as world

-- an object goes by its position
pub data Argument : Type 0 where
  number : ℤ → Argument
  object : (n : ℕ) → Argument

pub record HostCall : Type 0 where
  pub name : Name
  pub args : List Argument

-- the value that the function gets: of an object a reference
abbrev pub value_of_argument : Argument → Value
value_of_argument (number z) = one (world.number z)
value_of_argument (object n) = one (reference n)
