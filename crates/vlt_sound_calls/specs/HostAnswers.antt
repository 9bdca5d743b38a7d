-- What is promised of the answers of externals, once the objects that the host takes are out.
use Rattle.std.specs.Prelude.{◌≡◌, ℕ, ℤ, true, List, [], map, filter, Option, Some}
use Rattle.vlt_core.specs.Core.{a_key, Func, Program}
use Rattle.vlt_core.specs.Maps.{HeldMap, wants_absent, becomes_absent, CanPass, map_after}
use Rattle.vlt_core.specs.Rows.{row, clause_rows, target_rows}
use Rattle.vlt_core.specs.Types.{stands_for}
use Rattle.vlt_core.specs.KindedHeads.{has, tracked_keys}
use Rattle.vlt_core.specs.KindedScopes.{Ids}
use Rattle.vlt_core.specs.KindedCalls.{call_target_broken, with_call_target}
use Rattle.vlt_meaning.specs.World.{World, Frame}
use Rattle.vlt_meaning.specs.Step.{Step, with_found, with_objects, deliver}
use Rattle.vlt_meaning.specs.Externals.{is_taken, or_bad, fitting, with_answered, with_result}
use Rattle.vlt_meaning.specs.Run.{Setup}
use Rattle.vlt_sound_worlds.specs.Agrees.{Context, Agrees}
use Rattle.vlt_sound_worlds.specs.Typed.{IsTyped}
use Rattle.vlt_sound_worlds.specs.Safe.{Safe, goes_to}
use Rattle.vlt_sound_worlds.specs.Scoped.{IsScoped}
use Rattle.vlt_sound_calls.specs.Returned.{IsEntered}
use Rattle.vlt_sound_calls.specs.Heads.{HasHead}
use Rattle.vlt_sound_calls.specs.Callee.{caller_key, IsCall}
use Rattle.vlt_sound_calls.specs.ReturnHeads.{HasHostHead}
use Rattle.vlt_sound_calls.specs.Fresh.{IsFreshCall}

-- the map where the host has what it takes: each key that is taken is absent
abbrev pub map_after_sending : Func → (keys : List ℕ) → HeldMap → HeldMap
map_after_sending g keys h =
    map_after (map (λ e. row (a_key (caller_key keys e)) wants_absent becomes_absent) (filter is_taken g.clause)) h

-- what is done with the numbers of an answer
abbrev pub answer_step : (heap : ℕ) → Program → Func → (target : Option ℕ) → (keys : List ℕ) → Func →
    (numbers : List ℤ) → Frame → World → Step
answer_step heap p f target keys g numbers frame w =
    with_found (or_bad w.taken (fitting p g keys frame numbers w.objects)) w (λ q.
    with_result heap p g keys q.answer.states q.answer.result frame
    (with_objects w (with_answered p g keys frame q.answer q.objects)) (deliver f target))

-- the key of each reference among the parameters names an object for the caller
abbrev pub AreNamed : Func → (keys : List ℕ) → Frame → Type 0
AreNamed g keys frame = (k : ℕ) → has (tracked_keys g) k ≡ true → (n : ℕ) × (frame.keys (stands_for keys k) ≡ Some n)

-- Whatever the numbers are, an answer ends in no fault, and what the held map after the call says is so after it.
pub record AnswersAreSafe (r : Setup) : Type 0 where
  pub each : (f : Func) (c : Context) (h : HeldMap) (ids : Ids) (frame : Frame) (w : World) (g : Func)
      (keys : List ℕ) (numbers : List ℤ) (target : Option ℕ) →
      HasHostHead r.program g → IsTyped r.program f → IsTyped r.program g →
      HasHead r.program g → IsEntered r.program f c → IsScoped f c ids →
      IsCall r.program f g ids keys → IsFreshCall f c g ids keys → call_target_broken f ids g keys target ≡ [] →
      Agrees r.program f c (map_after_sending g keys h) ids [] frame w.objects → AreNamed g keys frame →
      CanPass (clause_rows r.program f keys g.clause) h →
      CanPass (target_rows f target) (map_after (clause_rows r.program f keys g.clause) h) →
      Safe (goes_to r.program f c (map_after (target_rows f target) (map_after (clause_rows r.program f keys g.clause) h))
      (with_call_target f (Some g) target ids) [])
      (answer_step r.heap r.program f target keys g numbers frame w)
