-- A step that ends in no fault, and what holds where it comes to.
use Rattle.std.specs.Prelude.{◌≡◌, ℕ, Bool, false, List, Option}
use Rattle.vlt_core.specs.Core.{Func, Program}
use Rattle.vlt_core.specs.Maps.{HeldMap}
use Rattle.vlt_core.specs.KindedScopes.{Ids}
use Rattle.vlt_meaning.specs.World.{Value, World, Frame, is_fault}
use Rattle.vlt_meaning.specs.Step.{Step, goes, jumps, leaves, ends}
use Rattle.vlt_sound_worlds.specs.Agrees.{Handed, Context, Agrees}

-- what has to hold at the next statement, at a jump's target, and at the function's end
pub record Goal : Type 1 where
  pub goes : Frame → World → Type 0
  pub jumps : (continues : Bool) → Frame → World → Type 0
  pub leaves : Option Value → (kept : List ℕ) → World → Type 0

abbrev pub Safe : Goal → Step → Type 0
Safe g (goes frame w) = g.goes frame w
Safe g (jumps c frame w) = g.jumps c frame w
Safe g (leaves a kept w) = g.leaves a kept w
Safe g (ends o w) = is_fault o ≡ false

-- the next statement is come to with this map, scope and what is handed over
abbrev pub goes_to : Program → Func → Context → HeldMap → Ids → List Handed → Goal
goes_to p f c h ids hand = record {
  goes = λ frame w. Agrees p f c h ids hand frame w.objects;
  jumps = λ continues frame w. ⊥;
  leaves = λ a kept w. ⊥;
}
