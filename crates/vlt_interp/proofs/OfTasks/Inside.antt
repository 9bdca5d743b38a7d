-- Parts of steps that change nothing of the world but its objects.
use Rattle.std.proofs.Common.{◌≡◌, ℕ, Bool, true, false, List, Option, Ok, Err, refl}
use Rattle.vlt_core.specs.Core.{Operand, pure, move, pack, Func, Program}
use Rattle.vlt_meaning.specs.World.{Value, Object, World, Frame, Reason}
use Rattle.vlt_meaning.specs.Found.{Found}
use Rattle.vlt_meaning.specs.Step.{Step, with_found, where_so, with_objects}
use Rattle.vlt_meaning.specs.Operands.{with_operand}
use Rattle.vlt_interp.specs.Tasks.Moves.{world_in}

-- all but the objects is as it was
pub record IsSameOutside (w v : World) : Type 0 where
  pub fuel : v.fuel ≡ w.fuel
  pub input : v.input ≡ w.input
  pub answers : v.answers ≡ w.answers
  pub taken : v.taken ≡ w.taken
  pub events : v.events ≡ w.events

pub outside_same : (w : World) → IsSameOutside w w
outside_same w = record { fuel = refl; input = refl; answers = refl; taken = refl; events = refl }

pub objects_out : (w v : World) (os : List Object) → IsSameOutside w v → IsSameOutside w (with_objects v os)
objects_out w v os h = record { fuel = h.fuel; input = h.input; answers = h.answers; taken = h.taken; events = h.events }

pub record IsInside (w : World) (a : Step) : Type 0 where
  pub same : IsSameOutside w (world_in a)

module _ (w0 : World) where
  pub found_in : {A : Type 0} (x : Found A) (w : World) (go : A → Step) → IsSameOutside w0 w → ((a : A) → IsInside w0 (go a)) → IsInside w0 (with_found x w go)
  unfolding with_found
  found_in (Ok a) w go s h = h a
  found_in (Err o) w go s h = record { same = s }

  pub so_in : (b : Bool) (reason : Reason) (n : Option ℕ) (w : World) (go : World → Step) → IsSameOutside w0 w → ((v : World) → IsSameOutside w0 v → IsInside w0 (go v)) → IsInside w0 (where_so b reason n w go)
  unfolding where_so
  so_in true reason n w go s h = h w s
  so_in false reason n w go s h = record { same = s }

  pub operand_in : (p : Program) (f : Func) (o : Operand) (frame : Frame) (w : World) (go : Value → Frame → World → Step) → IsSameOutside w0 w → ((a : Value) (frame : Frame) (v : World) → IsSameOutside w0 v → IsInside w0 (go a frame v)) → IsInside w0 (with_operand p f o frame w go)
  unfolding with_operand
  operand_in p f (pure e) frame w go s h = found_in _ w _ s (λ a. h a frame w s)
  operand_in p f (move v) frame w go s h = found_in _ w _ s (λ a. h a _ w s)
  operand_in p f (pack x states) frame w go s h = found_in _ w _ s (λ n. h _ frame _ (objects_out w0 w _ s))
