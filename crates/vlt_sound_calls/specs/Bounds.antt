-- What is known without a run of a clause's bound entry.
use Rattle.std.specs.Prelude.{◌≡◌, ℕ, Some}
use Rattle.vlt_core.specs.Core.{up_to, Entry, Func}
use Rattle.vlt_core.specs.Lookups.{key_type}
use Rattle.vlt_core.specs.Instances.{bound_in}
use Rattle.vlt_sound_calls.specs.Among.{Among}

-- it is the only one, and its key has a type
pub record HasBound (g : Func) : Type 0 where
  pub only : (e : Entry) (b : ℕ) → Among e g.clause → e.mode ≡ up_to b → bound_in g.clause ≡ Some (record { key = e.key; state = b })
  pub typed : (e : Entry) (b : ℕ) → Among e g.clause → e.mode ≡ up_to b → (t : ℕ) × (key_type g e.key ≡ Some t)
