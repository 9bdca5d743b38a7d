-- A new object that the host has made.
use Rattle.std.specs.Prelude.{ℕ, List, [], ◌∷◌, ◌++◌, length, Option}
use Rattle.vlt_core.specs.Core.{Func, Program}
use Rattle.vlt_core.specs.Maps.{HeldMap}
use Rattle.vlt_core.specs.KindedScopes.{Ids}
use Rattle.vlt_meaning.specs.World.{out, Object, Frame}
use Rattle.vlt_meaning.specs.Externals.{from_host}
use Rattle.vlt_sound_worlds.specs.Scene.{IsOf}
use Rattle.vlt_sound_worlds.specs.Agrees.{Handed, Context, scene, Agrees}

-- the objects with a new one, which nobody here has yet
abbrev pub with_hosted : (type state : ℕ) → List Object → List Object
with_hosted t s os = os ++ from_host t s out ∷ []

-- the fact on a running function stays so, and the new object is of its type under these heads
pub record IsHosted (p : Program) (f : Func) (c : Context) (h : HeldMap) (ids : Ids) (hand : List Handed) (frame : Frame)
    (os : List Object) (type state : ℕ) (heads : List (Option ℕ)) : Type 0 where
  pub now : Agrees p f c h ids hand frame (with_hosted type state os)
  pub of : IsOf (scene c (with_hosted type state os) now.heads) type heads (length os)
