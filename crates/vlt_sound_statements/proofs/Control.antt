-- What comes after a statement, where the statement is safe.
use Rattle.std.proofs.Common.{◌≡◌, ℕ, ◌==◌, ◌-◌, Bool, true, false, if◌then◌else◌, List, Option, None, refl}
use Rattle.vlt_core.specs.Core.{Tok}
use Rattle.vlt_meaning.specs.World.{Value, World, Frame, fuel_end, left_behind}
use Rattle.vlt_meaning.specs.Step.{Step, goes, jumps, leaves, ends, spend, then_do, then_turn, left_block, are_unused}
use Rattle.vlt_sound_worlds.specs.Safe.{Goal, Safe}
use Rattle.vlt_sound_worlds.proofs.Safe.{so_safe}

module _ (g g' : Goal) where
  pub weaker : (a : Step) → ((frame : Frame) (w : World) → g.goes frame w → g'.goes frame w) →
      ((c : Bool) (frame : Frame) (w : World) → g.jumps c frame w → g'.jumps c frame w) →
      ((v : Option Value) (kept : List ℕ) (w : World) → g.leaves v kept w → g'.leaves v kept w) → Safe g a → Safe g' a
  weaker (goes frame w) on jumped left safe = on frame w safe
  weaker (jumps c frame w) on jumped left safe = jumped c frame w safe
  weaker (leaves v kept w) on jumped left safe = left v kept w safe
  weaker (ends o w) on jumped left safe = safe

  pub then_safe : (a : Step) (go : Frame → World → Step) → Safe g a →
      ((frame : Frame) (w : World) → g.goes frame w → Safe g' (go frame w)) →
      ((c : Bool) (frame : Frame) (w : World) → g.jumps c frame w → g'.jumps c frame w) →
      ((v : Option Value) (kept : List ℕ) (w : World) → g.leaves v kept w → g'.leaves v kept w) → Safe g' (then_do a go)
  unfolding then_do
  then_safe (goes frame w) go safe on jumped left = on frame w safe
  then_safe (jumps c frame w) go safe on jumped left = jumped c frame w safe
  then_safe (leaves v kept w) go safe on jumped left = left v kept w safe
  then_safe (ends o w) go safe on jumped left = safe

  -- the body of a loop: a `continue` turns too, and a `break` goes on after the loop
  pub turn_safe : (a : Step) (go : Frame → World → Step) → Safe g a →
      ((frame : Frame) (w : World) → g.goes frame w → Safe g' (go frame w)) →
      ((frame : Frame) (w : World) → g.jumps true frame w → Safe g' (go frame w)) →
      ((frame : Frame) (w : World) → g.jumps false frame w → g'.goes frame w) →
      ((v : Option Value) (kept : List ℕ) (w : World) → g.leaves v kept w → g'.leaves v kept w) → Safe g' (then_turn a go)
  unfolding then_turn
  turn_safe (goes frame w) go safe on turns breaks left = on frame w safe
  turn_safe (jumps true frame w) go safe on turns breaks left = turns frame w safe
  turn_safe (jumps false frame w) go safe on turns breaks left = breaks frame w safe
  turn_safe (leaves v kept w) go safe on turns breaks left = left v kept w safe
  turn_safe (ends o w) go safe on turns breaks left = safe

  -- a block that is left by its end or by a jump
  pub end_safe : (bound : List Tok) (a : Step) → Safe g a →
      ((frame : Frame) (w : World) → g.goes frame w → (are_unused bound frame w ≡ true) × g'.goes frame w) →
      ((c : Bool) (frame : Frame) (w : World) → g.jumps c frame w → (are_unused bound frame w ≡ true) × g'.jumps c frame w) →
      ((v : Option Value) (kept : List ℕ) (w : World) → g.leaves v kept w → g'.leaves v kept w) →
      Safe g' (left_block bound a)
  unfolding left_block
  end_safe bound (goes frame w) safe on jumped left =
      let both = on frame w safe in
      so_safe g' (are_unused bound frame w) left_behind None w _ both.0 both.1
  end_safe bound (jumps c frame w) safe on jumped left =
      let both = jumped c frame w safe in
      so_safe g' (are_unused bound frame w) left_behind None w _ both.0 both.1
  end_safe bound (leaves v kept w) safe on jumped left = left v kept w safe
  end_safe bound (ends o w) safe on jumped left = safe

module _ (g : Goal) where
  pub choice_safe : (b : Bool) (x y : Step) → Safe g x → Safe g y → Safe g (if b then x else y)
  choice_safe true x y one two = one
  choice_safe false x y one two = two

  pub spend_safe : (w : World) (go : World → Step) → Safe g (go (record w { fuel = w.fuel - 1 })) →
      Safe g (spend w go)
  unfolding spend
  spend_safe w go safe = choice_safe (w.fuel == 0) (ends fuel_end w) (go (record w { fuel = w.fuel - 1 })) refl safe
