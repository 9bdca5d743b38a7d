-- What is known of a caller that waits for its callee.
use Rattle.std.specs.Prelude.{ℕ, List}
use Rattle.vlt_core.specs.Core.{Func, Program}
use Rattle.vlt_core.specs.Maps.{HeldMap, CanPass}
use Rattle.vlt_core.specs.Rows.{clause_rows}
use Rattle.vlt_core.specs.KindedScopes.{Ids}
use Rattle.vlt_meaning.specs.World.{Object, Frame}
use Rattle.vlt_sound_worlds.specs.Agrees.{Handed, Context, Agrees}
use Rattle.vlt_sound_worlds.specs.Typed.{IsTyped}
use Rattle.vlt_sound_worlds.specs.Scoped.{IsScoped}
use Rattle.vlt_sound_calls.specs.Returned.{IsEntered}
use Rattle.vlt_sound_calls.specs.Heads.{HasHead}
use Rattle.vlt_sound_calls.specs.Callee.{IsCall}
use Rattle.vlt_sound_calls.specs.Fresh.{IsFreshCall}

-- what was so of the caller when the call began
pub record IsCaller (p : Program) (f : Func) (c : Context) (h : HeldMap) (ids : Ids) (hand : List Handed) (frame : Frame)
    (os : List Object) (g : Func) (keys : List ℕ) : Type 0 where
  pub agrees : Agrees p f c h ids hand frame os
  pub call : IsCall p f g ids keys
  pub new : IsFreshCall f c g ids keys
  pub head : HasHead p g
  pub typed : IsTyped p f
  pub entered : IsEntered p f c
  pub scoped : IsScoped f c ids
  pub pass : CanPass (clause_rows p f keys g.clause) h
