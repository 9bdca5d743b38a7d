-- What stands around a statement, and where it may come to.
use Rattle.std.specs.Prelude.{◌≡◌, ℕ, true, List, [], Option}
use Rattle.vlt_core.specs.Core.{Tok, Func, Program}
use Rattle.vlt_core.specs.Maps.{kind_of, is_absent, HeldMap}
use Rattle.vlt_core.specs.Rows.{tokens_of}
use Rattle.vlt_core.specs.Derives.{toward}
use Rattle.vlt_core.specs.KindedScopes.{Ids, Around}
use Rattle.vlt_core_laws.specs.Scoped.{is_bound}
use Rattle.vlt_meaning.specs.World.{Value, World, Frame}
use Rattle.vlt_sound_worlds.specs.Agrees.{InScope, Context, Agrees}
use Rattle.vlt_sound_worlds.specs.Safe.{Goal}
use Rattle.vlt_sound_worlds.specs.Scoped.{IsScoped}
use Rattle.vlt_sound_calls.specs.Returned.{IsEntered, Returned}

-- The context of a statement, what may stand there, the tokens that the blocks as far as the loop around bind, and the
-- maps that a `break` and a `continue` lead to, with the scope there.
pub record Site : Type 0 where
  pub context : Context
  pub around : Around
  pub left : List Tok
  pub breaks : HeldMap
  pub turns : HeldMap
  pub outer : Ids

-- what a jump comes to: the map there tells the truth, and what the blocks bind that are left is away
pub record IsJumped (p : Program) (f : Func) (s : Site) (m : HeldMap) (frame : Frame) (w : World) : Type 0 where
  pub allowed : s.around.jumps ≡ true
  pub agrees : Agrees p f s.context m s.outer [] frame w.objects
  pub away : (t : Tok) → is_bound (tokens_of f) t ≡ true → is_bound s.left t ≡ true → kind_of (m t) ≡ is_absent

pub record IsLeft (p : Program) (f : Func) (s : Site) (value : Option Value) (kept : List ℕ) (w : World) : Type 0 where
  pub allowed : s.around.returns ≡ true
  pub returned : Returned p f s.context value kept w

-- the next statement is come to with this map and scope
abbrev pub comes_to : Program → Func → Site → HeldMap → Ids → Goal
comes_to p f s k ids = record {
  goes = λ frame w. Agrees p f s.context k ids [] frame w.objects;
  jumps = λ continues frame w. IsJumped p f s (toward continues s.breaks s.turns) frame w;
  leaves = λ value kept w. IsLeft p f s value kept w;
}

-- what is known of a site and of the scope there without a run
pub record IsAt (p : Program) (f : Func) (s : Site) (ids : Ids) : Type 0 where
  pub entered : IsEntered p f s.context
  pub scoped : IsScoped f s.context ids
  -- what is in scope where jumps come to is in scope here
  pub outer : (v : ℕ) → InScope s.outer v → InScope ids v
