-- What is promised of calls and returns.
use Rattle.std.specs.Prelude.{◌≡◌, ℕ, List, [], Option, slice_get}
use Rattle.vlt_core.specs.Core.{Tok, Operand, call, return, Func}
use Rattle.vlt_core.specs.Maps.{HeldMap, CanPass, map_after}
use Rattle.vlt_core.specs.Rows.{rows_of}
use Rattle.vlt_core.specs.KindedScopes.{Ids}
use Rattle.vlt_core.specs.KindedCalls.{with_call_target, call_broken, return_broken}
use Rattle.vlt_meaning.specs.World.{World, Frame}
use Rattle.vlt_meaning.specs.Run.{Setup, Meaning, does_form}
use Rattle.vlt_sound_worlds.specs.Agrees.{Context, Agrees}
use Rattle.vlt_sound_worlds.specs.Typed.{IsTyped}
use Rattle.vlt_sound_worlds.specs.Safe.{Safe, goes_to}
use Rattle.vlt_sound_worlds.specs.Scoped.{IsScoped, HasKeys}
use Rattle.vlt_sound_calls.specs.Heads.{HasHead}
use Rattle.vlt_sound_calls.specs.Returned.{IsEntered, returns_to}

-- Where a call breaks no rule on names and types and the held map passes its rows, it ends in no fault, and what the map after
-- the rows says is so after it.
pub record CallsAreSafe (r : Setup) (rest_of : Meaning) : Type 0 where
  pub each : (f : Func) (c : Context) (h : HeldMap) (ids : Ids) (frame : Frame) (w : World) (left : List Tok) (g : ℕ)
      (target : Option ℕ) (keys : List ℕ) (args : List Operand) →
      IsTyped r.program f → HasKeys f → HasHead r.program f → IsEntered r.program f c → IsScoped f c ids →
      Agrees r.program f c h ids [] frame w.objects →
      call_broken r.program f ids (slice_get r.program.fns g) target keys args ≡ [] →
      CanPass (rows_of r.program f left (call g target keys args)) h →
      Safe (goes_to r.program f c (map_after (rows_of r.program f left (call g target keys args)) h)
      (with_call_target f (slice_get r.program.fns g) target ids) [])
      (does_form r rest_of f (call g target keys args) frame w)

-- a return leaves what its clause says
pub record ReturnsAreSafe (r : Setup) (rest_of : Meaning) : Type 0 where
  pub each : (f : Func) (c : Context) (h : HeldMap) (ids : Ids) (frame : Frame) (w : World) (left : List Tok)
      (value : Option Operand) →
      IsTyped r.program f → HasHead r.program f → IsEntered r.program f c →
      Agrees r.program f c h ids [] frame w.objects →
      return_broken r.program f ids f.result value ≡ [] → CanPass (rows_of r.program f left (return value)) h →
      Safe (returns_to r.program f c) (does_form r rest_of f (return value) frame w)
