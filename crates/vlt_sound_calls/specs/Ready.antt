-- What is known where a call's arguments were handed over.
use Rattle.std.specs.Prelude.{◌≡◌, ℕ, List, length, map}
use Rattle.vlt_core.specs.Core.{Func, Program}
use Rattle.vlt_core.specs.Types.{with_keys}
use Rattle.vlt_core.specs.Maps.{HeldMap, CanPass}
use Rattle.vlt_core.specs.Rows.{clause_rows}
use Rattle.vlt_core.specs.KindedHeads.{parameters_of}
use Rattle.vlt_core.specs.KindedScopes.{Ids}
use Rattle.vlt_meaning.specs.World.{Value, Object, Frame}
use Rattle.vlt_sound_worlds.specs.Agrees.{Context, Agrees}
use Rattle.vlt_sound_worlds.specs.Typed.{IsTyped}
use Rattle.vlt_sound_worlds.specs.Scoped.{IsScoped}
use Rattle.vlt_sound_worlds.specs.Handed.{handed_values}
use Rattle.vlt_sound_calls.specs.Returned.{IsEntered}
use Rattle.vlt_sound_calls.specs.Heads.{HasHead}
use Rattle.vlt_sound_calls.specs.Callee.{IsCall}

-- Values for the callee's parameters are handed over, and the held map passes the rows of its clause.
pub record IsReady (p : Program) (f : Func) (c : Context) (h : HeldMap) (ids : Ids) (frame : Frame) (os : List Object)
    (g : Func) (keys : List ℕ) (values : List Value) : Type 0 where
  pub agrees : Agrees p f c h ids (handed_values (map (with_keys keys) (parameters_of g)) values) frame os
  pub long : length values ≡ length (map (with_keys keys) (parameters_of g))
  pub call : IsCall p f g ids keys
  pub typed : IsTyped p f
  pub typed_callee : IsTyped p g
  pub head : HasHead p g
  pub entered : IsEntered p f c
  pub scoped : IsScoped f c ids
  pub pass : CanPass (clause_rows p f keys g.clause) h
