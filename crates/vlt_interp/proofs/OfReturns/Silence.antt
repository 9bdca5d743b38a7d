-- Returns change nothing of the world but its objects.
use Rattle.std.proofs.Common.{ℕ, List, Option, Some, None}
use Rattle.vlt_core.specs.Core.{Operand, Func}
use Rattle.vlt_meaning.specs.World.{Value, World, Frame}
use Rattle.vlt_meaning.specs.Step.{leaves, fill, deliver}
use Rattle.vlt_meaning.specs.Calls.{back_in, with_returned}
use Rattle.vlt_meaning.specs.Run.{Setup, left_function}
use Rattle.vlt_interp.proofs.OfTasks.Inside.{outside_same, objects_out, IsInside, IsSameOutside, found_in, so_in, operand_in}

module _ (w0 : World) where
  left_in : (r : Setup) (f : Func) (value : Option Operand) (a : Option Value) (frame : Frame) (w : World) → IsSameOutside w0 w → IsInside w0 (left_function r f value a frame w)
  unfolding left_function
  left_in r f value a frame w s = found_in w0 _ w _ s (λ kept. so_in w0 _ _ _ w _ s (λ v t. so_in w0 _ _ _ v _ t (λ u k. record { same = k })))

  deliver_in : (f : Func) (target : Option ℕ) (a : Option Value) (frame : Frame) (w : World) → IsSameOutside w0 w → IsInside w0 (deliver f target a frame w)
  unfolding deliver fill
  deliver_in f None a frame w s = record { same = s }
  deliver_in f (Some v) a frame w s = found_in w0 _ w _ s (λ b. so_in w0 _ _ _ w _ s (λ u t. record { same = t }))

pub returned_inside : (r : Setup) (f : Func) (value : Option Operand) (frame : Frame) (w : World) → IsInside w (with_returned r.program f value frame w (λ a frame w. left_function r f value a frame w))
unfolding with_returned
returned_inside r f None frame w = left_in w r f None None frame w (outside_same w)
returned_inside r f (Some o) frame w = operand_in w r.program f o frame w _ (outside_same w) (λ a frame2 v t. left_in w r f (Some o) (Some a) frame2 v t)

pub back_inside : (f : Func) (target : Option ℕ) (keys : List ℕ) (g : Func) (frame : Frame) (a : Option Value) (kept : List ℕ) (w : World) → IsInside w (back_in f target keys g frame (leaves a kept w))
unfolding back_in
back_inside f target keys g frame a kept w = deliver_in w f target a _ _ (objects_out w w _ (outside_same w))
