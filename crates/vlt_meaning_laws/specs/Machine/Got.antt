-- What a part of a step gives, with the frame and the world after it, or how the run ends there: what the definition of
-- runs hands on from step to step, as data.
use Rattle.std.specs.Prelude.{ℕ, List, [], ◌∷◌, Bool, true, false, Some, None, Ok, Err}
use Rattle.vlt_core.specs.Core.{Operand, pure, move, pack, Func, Program}
use Rattle.vlt_core.specs.Lookups.{KeyIn}
use Rattle.vlt_meaning.specs.World.{owned, Value, one, held, loose, World, Frame, Outcome, fault, Reason, missing, no_value, not_empty}
use Rattle.vlt_meaning.specs.Found.{Found, or_fault}
use Rattle.vlt_meaning.specs.Objects.{with_owner}
use Rattle.vlt_meaning.specs.Values.{value_of, object_of}
use Rattle.vlt_meaning.specs.Step.{Step, ends, with_changed, with_var, is_fillable}
use Rattle.vlt_meaning.specs.Operands.{case_object}

pub data Got (A : Type 0) : Type 0 where
  got : A → Frame → World → Got A
  stopped : Outcome → World → Got A

-- the step that goes on with what is given
unfoldable pub then_step : {A : Type 0} → Got A → (A → Frame → World → Step) → Step
then_step (got a frame w) go = go a frame w
then_step (stopped o w) go = ends o w

unfoldable pub then_got : {A B : Type 0} → Got A → (A → Frame → World → Got B) → Got B
then_got (got a frame w) go = go a frame w
then_got (stopped o w) go = stopped o w

unfoldable pub found_in : {A : Type 0} → Found A → Frame → World → Got A
found_in (Ok a) frame w = got a frame w
found_in (Err o) frame w = stopped o w

unfoldable pub got_if : {A : Type 0} → Bool → Reason → World → Got A → Got A
got_if true reason w x = x
got_if false reason w x = stopped (fault reason None) w

-- ---- operands

abbrev pub operand_got : Program → Func → Operand → Frame → World → Got Value
operand_got p f (pure e) frame w = found_in (value_of p f e frame w.objects) frame w
operand_got p f (move v) frame w =
    then_got (found_in (or_fault no_value (frame.vars v)) frame w) (λ a frame w. got a (with_var v None frame) w)
operand_got p f (pack x states) frame w =
    then_got (found_in (object_of f (λ r. states) x frame w.objects) frame w) (λ n frame w.
    got (one (owned n.number)) frame (with_changed w n.number (with_owner loose)))

abbrev pub operands_got : Program → Func → List Operand → Frame → World → Got (List Value)
operands_got p f [] frame w = got [] frame w
operands_got p f (o ∷ os) frame w =
    then_got (operand_got p f o frame w) (λ a frame w.
    then_got (operands_got p f os frame w) (λ rest frame w. got (a ∷ rest) frame w))

-- ---- arms

-- the objects of a case come back to its keys
abbrev pub opened_got : List KeyIn → List ℕ → Frame → World → Got (Unit {0})
opened_got (k ∷ ks) (n ∷ ns) frame w =
    then_got (found_in (case_object k n frame w.objects) frame w) (λ q frame w.
    opened_got ks ns frame (with_changed w n (with_owner (held frame.depth k.key))))
opened_got [] [] frame w = got tt frame w
opened_got _ _ frame w = stopped (fault missing None) w

-- variables get as many values
abbrev pub filled_got : Func → List ℕ → List Value → Frame → World → Got (Unit {0})
filled_got f (v ∷ vs) (a ∷ rest) frame w =
    got_if (is_fillable f v frame) not_empty w (filled_got f vs rest (with_var v (Some a) frame) w)
filled_got f [] [] frame w = got tt frame w
filled_got f _ _ frame w = stopped (fault missing None) w
