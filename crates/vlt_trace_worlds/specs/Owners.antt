-- Whose objects may be taken, and what is below an object.
use Rattle.std.specs.Prelude.{◌≡◌, ◌<◌, ℕ, Bool, true, false, not, ◌||◌, if◌then◌else◌, List, [], ◌∷◌, ◌++◌, Some, Result, Ok, Err, length, slice_get}
use Rattle.vlt_meaning.specs.World as w
use Rattle.vlt_meaning.specs.World.{is_loose, is_out, is_inside, is_at, is_full}
use Rattle.vlt_meaning.specs.Objects.{with_owner, owned_at, is_under, is_releasable, objects_after_release}
use Rattle.vlt_meaning.specs.Found.{Named}
use Rattle.vlt_meaning.specs.Step.{with_objects}
use Rattle.vlt_core.specs.Core as core
use Rattle.vlt_core.specs.Lookups.{release_set}
use Rattle.vlt_trace_worlds.specs.View.{outcome_of}
use Rattle.vlt_trace_worlds.specs.declared.stops.Stop.{Stop}
use Rattle.vlt_trace_worlds.specs.declared.stops.Halt.{Halt}
use Rattle.vlt_trace_worlds.specs.declared.stops.Halt.TheVariants.{Ends, Memory}
use Rattle.vlt_trace_worlds.specs.declared.changes.OwnerTest.{OwnerTest}
use Rattle.vlt_trace_worlds.specs.declared.changes.OwnerTest.TheVariants as from

abbrev pub passes : OwnerTest → w.Owner → Bool
passes from.Loose = is_loose
passes from.Out = is_out
passes (from.Inside n) = is_inside n
passes (from.At d) = is_at d

-- the object's owner passes the test, or it is a fault
abbrev pub IsOwned : (w.Owner → Bool) → List w.Object → ℕ → Result (Unit {0}) Stop → Type 0
IsOwned from objects n (Ok u) = (m : Named) × (owned_at from objects n ≡ Ok m)
IsOwned from objects n (Err s) = owned_at from objects n ≡ Err (outcome_of s)

-- for each object whether it is one of the roots or below one
abbrev pub IsUnderEach : List w.Object → (roots : List ℕ) → List Bool → Type 0
IsUnderEach objects roots under = (n : ℕ) → n < length objects → slice_get under n ≡ Some (is_under objects roots n)

-- the object was released with all below it, or it can't be
abbrev pub Released : core.Program → ℕ → (before after : List w.Object) → Result (Unit {0}) Halt → Type 0
Released p n before after (Ok u) = (is_releasable p before n ≡ true) × (after ≡ objects_after_release n before)
Released p n before after (Err (Ends s)) = (is_releasable p before n ≡ false) × (outcome_of s ≡ w.fault w.wrong_state (Some n))
Released p n before after (Err Memory) = Unit {0}

-- what is marked may be released in its state
abbrev pub may_go_in : core.Program → Bool × w.Object → Bool
may_go_in p q = not q.0 || release_set p q.1.type q.1.state

-- the objects that are marked are gone
abbrev pub gone_where : List Bool → List w.Object → List w.Object
gone_where (b ∷ bs) (o ∷ os) = (if b then with_owner w.gone o else o) ∷ gone_where bs os
gone_where _ os = os

-- the object is the last one, or as many are live or were made as may be; or there is no memory
abbrev pub MakesObject : (heap : ℕ) → w.Object → w.World → Result ℕ Halt → w.World → Type 0
MakesObject heap o before (Ok n) after =
    (is_full heap before.objects ≡ false) × (n ≡ length before.objects) ×
    (after ≡ with_objects before (before.objects ++ o ∷ []))
MakesObject heap o before (Err (Ends s)) after =
    (is_full heap before.objects ≡ true) × (outcome_of s ≡ w.heap_end) × (after ≡ before)
MakesObject heap o before (Err Memory) after = Unit {0}
