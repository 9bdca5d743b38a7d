-- What the taking of an answer does.
use Rattle.std.specs.Prelude.{◌≡◌, ℤ, ◌+◌, List, Option, Some, None, Result, Ok, Err, slice_get}
use Rattle.vlt_numbers.specs.HostAnswers.{lists_of}
use Rattle.c_values.specs.declared.value.Value.{Value}
use Rattle.c_primitives.specs.declared.halt.Halt.{Halt}
use Rattle.c_primitives.specs.declared.halt.Halt.TheVariants.{Stopped}
use Rattle.vlt_steps.specs.declared.stop.Stop.TheVariants.{AnswersEnd}
use Rattle.c_primitives.specs.declared.world.Talk.{Talk}
use Rattle.c_primitives.specs.declared.world.Talk.TheVariants.{Reading}
use Rattle.c_primitives.specs.declared.world.World.{World}

abbrev pub IsReading : Talk → List ℤ → Type 0
IsReading (Reading zs) answer = zs.now ≡ answer
IsReading _ answer = ⊥

pub record IsRead (old : World) (new : World) : Type 0 where
  pub answer : List ℤ
  pub at : slice_get (lists_of old.answers.now) old.taken ≡ Some answer
  pub talk : Talk
  pub is : new ≡ record old { taken = old.taken + 1; talk = talk }
  pub reads : IsReading talk answer

abbrev pub IsTaken : Result (Option Value) Halt → (old new : World) → Type 0
IsTaken (Ok a) old new = (a ≡ None) × IsRead old new
IsTaken (Err h) old new = (h ≡ Stopped AnswersEnd) × (slice_get (lists_of old.answers.now) old.taken ≡ None) × (new ≡ old)
