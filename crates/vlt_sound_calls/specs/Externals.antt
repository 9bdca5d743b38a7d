-- What is promised of calls of externals.
use Rattle.std.specs.Prelude.{◌≡◌, ℕ, List, [], length, map, Option, Some}
use Rattle.vlt_core.specs.Core.{Func}
use Rattle.vlt_core.specs.Types.{with_keys}
use Rattle.vlt_core.specs.Maps.{HeldMap, CanPass, map_after}
use Rattle.vlt_core.specs.Rows.{clause_rows, target_rows}
use Rattle.vlt_core.specs.KindedHeads.{parameters_of}
use Rattle.vlt_core.specs.KindedScopes.{Ids}
use Rattle.vlt_core.specs.KindedCalls.{call_target_broken, with_call_target}
use Rattle.vlt_meaning.specs.World.{Value, World, Frame}
use Rattle.vlt_meaning.specs.Externals.{call_external}
use Rattle.vlt_meaning.specs.Run.{Setup}
use Rattle.vlt_sound_worlds.specs.Agrees.{Context, Agrees}
use Rattle.vlt_sound_worlds.specs.Typed.{IsTyped}
use Rattle.vlt_sound_worlds.specs.Safe.{Safe, goes_to}
use Rattle.vlt_sound_worlds.specs.Scoped.{IsScoped}
use Rattle.vlt_sound_worlds.specs.Handed.{handed_values}
use Rattle.vlt_sound_calls.specs.Returned.{IsEntered}
use Rattle.vlt_sound_calls.specs.Heads.{HasHead}
use Rattle.vlt_sound_calls.specs.Callee.{IsCall}
use Rattle.vlt_sound_calls.specs.ReturnHeads.{HasHostHead}
use Rattle.vlt_sound_calls.specs.Fresh.{IsFreshCall}

-- Where the arguments are handed over and the held map passes the clause's rows, a call of an external ends in no fault, and
-- what the map after says is so after it.
pub record ExternalsAreSafe (r : Setup) : Type 0 where
  pub each : (f : Func) (c : Context) (h : HeldMap) (ids : Ids) (frame : Frame) (w : World) (g : Func)
      (keys : List ℕ) (values : List Value) (target : Option ℕ) →
      HasHostHead r.program g → IsTyped r.program f → IsTyped r.program g →
      HasHead r.program g → IsEntered r.program f c → IsScoped f c ids →
      IsCall r.program f g ids keys → IsFreshCall f c g ids keys → call_target_broken f ids g keys target ≡ [] →
      length values ≡ length (map (with_keys keys) (parameters_of g)) →
      Agrees r.program f c h ids (handed_values (map (with_keys keys) (parameters_of g)) values) frame w.objects →
      CanPass (clause_rows r.program f keys g.clause) h →
      CanPass (target_rows f target) (map_after (clause_rows r.program f keys g.clause) h) →
      Safe (goes_to r.program f c (map_after (target_rows f target) (map_after (clause_rows r.program f keys g.clause) h))
      (with_call_target f (Some g) target ids) [])
      (call_external r.heap r.program f target keys g values frame w)
