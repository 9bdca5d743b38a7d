-- What the code comes to, where the definition of runs goes on with what it is given.
use Rattle.std.specs.Prelude.{◌≡◌, Result, Ok, Err}
use Rattle.vlt_meaning.specs.World as w
use Rattle.vlt_meaning.specs.Step.{Step, ends}
use Rattle.vlt_trace_worlds.specs.View.{outcome_of}
use Rattle.vlt_trace_worlds.specs.Steps.{told, told_step}
use Rattle.vlt_trace_worlds.specs.declared.stops.Halt.{Halt}
use Rattle.vlt_trace_worlds.specs.declared.stops.Halt.TheVariants.{Ends, Memory}

-- the step goes on with what the code has, or the run ends in it so; or there is no memory
abbrev pub Hands : {A : Type 0} → Step → Result A Halt → (A → Step) → w.World → Type 0
Hands a (Ok x) go world = a ≡ go x
Hands a (Err (Ends s)) go world = told_step a ≡ ends (outcome_of s) (told world)
Hands a (Err Memory) go world = Unit {0}
