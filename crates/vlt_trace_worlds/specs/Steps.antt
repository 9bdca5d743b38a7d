-- What the code comes to, where the definition of runs has something found, something given, or a step.
use Rattle.std.specs.Prelude.{◌≡◌, [], Result, Ok, Err}
use Rattle.vlt_meaning.specs.World as w
use Rattle.vlt_meaning.specs.Found.{Found}
use Rattle.vlt_meaning.specs.Step.{Step, goes, ends}
use Rattle.vlt_meaning_laws.specs.Machine.Got.{Got, got, stopped}
use Rattle.vlt_trace_worlds.specs.View.{outcome_of}
use Rattle.vlt_trace_worlds.specs.declared.stops.Halt.{Halt}
use Rattle.vlt_trace_worlds.specs.declared.stops.Halt.TheVariants.{Ends, Memory}

-- it finds what the definition finds, where there is memory
abbrev pub Finds : {A B : Type 0} → (A → B) → Result A Halt → Found B → Type 0
Finds view (Ok a) found = Ok (view a) ≡ found
Finds view (Err (Ends s)) found = Err (outcome_of s) ≡ found
Finds view (Err Memory) found = Unit {0}

-- ---- ends

-- what is told of a world where a run ends: all but the objects
abbrev pub told : w.World → w.World
told u = record u { objects = [] }

abbrev pub told_step : Step → Step
told_step (ends o u) = ends o (told u)
told_step a = a

abbrev pub told_got : {A : Type 0} → Got A → Got A
told_got (stopped o u) = stopped o (told u)
told_got a = a

-- ---- steps

-- the one step is the other, or the run ends in it so; or there is no memory
abbrev pub Leads : {A : Type 0} → Step → Result A Halt → Step → w.World → Type 0
Leads a (Ok x) b world = a ≡ b
Leads a (Err (Ends s)) b world = told_step a ≡ ends (outcome_of s) (told world)
Leads a (Err Memory) b world = Unit {0}

-- the step goes on in this frame and world, or ends so; or there is no memory
abbrev pub Goes : Step → Result (Unit {0}) Halt → w.Frame → w.World → Type 0
Goes a r frame world = Leads a r (goes frame world) world

-- what is given, with the frame and the world after it, or how the run ends there; or there is no memory
abbrev pub Gives : {A B : Type 0} → (A → B) → Got B → Result A Halt → w.Frame → w.World → Type 0
Gives view x (Ok a) frame world = x ≡ got (view a) frame world
Gives view x (Err (Ends s)) frame world = told_got x ≡ stopped (outcome_of s) (told world)
Gives view x (Err Memory) frame world = Unit {0}
