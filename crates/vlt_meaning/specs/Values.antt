-- Which objects a step may touch, and what expressions are.
use Rattle.std.specs.Prelude.{ℕ, ◌==◌, ℤ, pos, if◌then◌else◌, List, Option, Some, None, Result, Ok, Err, slice_get}
use Rattle.vlt_ops.specs.Operator.{applied, is_true, bool_number}
use Rattle.vlt_ops.specs.declared.Op.{Op}
use Rattle.vlt_ops.specs.declared.Op.TheVariants.{And, Or}
use Rattle.vlt_ops.specs.declared.TrapKind.{TrapKind}
use Rattle.vlt_core.specs.Core.{States, Expr, number, truth, var, field, unary, binary, Func, Program}
use Rattle.vlt_core.specs.Lookups.{Reference, reference_of, guarded_of, permitted_in}
use Rattle.vlt_meaning.specs.World.{Value, one, reference, owned, Object, Frame, is_held_under, is_adopted_by, trap, fault, missing, no_value, not_held, other_object, not_guarded}
use Rattle.vlt_meaning.specs.World as world
use Rattle.vlt_meaning.specs.Found.{Found, ◌>>=◌, or_fault, Named, if_so}
use Rattle.vlt_meaning.specs.Objects.{object_at, in_states}

-- ---- objects that may be touched

-- the object that the frame holds under a key, which names it
abbrev pub held_object : (key : ℕ) → Frame → List Object → Found Named
held_object k frame objects = do
  n ← or_fault no_value (frame.keys k)
  m ← object_at objects n
  if_so (is_held_under frame.depth k m.object.owner) not_held m

abbrev pub reference_in : Option Value → Found ℕ
reference_in (Some (one (reference n))) = Ok n
reference_in (Some _) = Err (fault missing None)
reference_in None = Err (fault no_value None)

-- the object of a tracked variable, which the frame holds under the variable's key
abbrev pub tracked_object : Reference → (x : ℕ) → Frame → List Object → Found Named
tracked_object r x frame objects = do
  m ← held_object r.key frame objects
  n ← reference_in (frame.vars x)
  if_so (n == m.number) other_object m

-- it, in one of the states that are wanted of what the variable refers to
abbrev pub object_of : Func → (Reference → States) → (x : ℕ) → Frame → List Object → Found Named
object_of f states x frame objects = do
  r ← or_fault missing (reference_of f x)
  m ← tracked_object r x frame objects
  in_states (states r) m

-- the object of a guarded variable: the object that its guard names adopted it, and the frame holds that one
abbrev pub guarded_object : Reference → (y : ℕ) → Frame → List Object → Found Named
guarded_object g y frame objects = do
  a ← held_object g.key frame objects
  n ← reference_in (frame.vars y)
  m ← object_at objects n
  if_so (is_adopted_by a.number m.object.owner) not_guarded m

abbrev pub object_after : (tracked guarded : Option Reference) → (x : ℕ) → (Reference → States) → Frame →
    List Object → Found Named
object_after (Some r) g x states frame objects = do
  m ← tracked_object r x frame objects
  in_states (states r) m
object_after None (Some g) x states frame objects = do
  m ← guarded_object g x frame objects
  in_states (states g) m
object_after None None x states frame objects = Err (fault missing None)

-- the object that a touch of x's field goes to
abbrev pub touchable : Program → Func → (x position : ℕ) → Frame → List Object → Found Named
touchable p f x i frame objects =
    object_after (reference_of f x) (guarded_of f x) x (λ r. permitted_in p r.type i) frame objects

-- ---- expressions

abbrev pub number_in : Value → Found ℤ
number_in (one (world.number z)) = Ok z
number_in _ = Err (fault missing None)

abbrev pub is_number : ℤ → Found Value
is_number z = Ok (one (world.number z))

abbrev pub or_trap : Result ℤ TrapKind → Found Value
or_trap (Ok z) = is_number z
or_trap (Err t) = Err (trap t)

-- `&&` gives its left operand where that is 0, else its right one; `||` gives the left one where it isn't 0.
abbrev pub value_of_both : Op → ℤ → Found Value → Found Value
value_of_both And a b = if is_true a then b else is_number a
value_of_both Or a b = if is_true a then is_number a else b
value_of_both op a b = do
  v ← b
  z ← number_in v
  or_trap (applied op a z)

abbrev pub value_of : Program → Func → Expr → Frame → List Object → Found Value
value_of p f (number z) frame objects = is_number z
value_of p f (truth b) frame objects = is_number (bool_number b)
value_of p f (var v) frame objects = or_fault no_value (frame.vars v)
value_of p f (field x i) frame objects = do
  m ← touchable p f x i frame objects
  or_fault missing (slice_get m.object.cells i)
value_of p f (unary op a) frame objects = do
  v ← value_of p f a frame objects
  z ← number_in v
  or_trap (applied op z (pos 0))
value_of p f (binary op a b) frame objects = do
  v ← value_of p f a frame objects
  z ← number_in v
  value_of_both op z (value_of p f b frame objects)

-- the value of an expression of type int or bool
abbrev pub number_of : Program → Func → Expr → Frame → List Object → Found ℤ
number_of p f e frame objects = do
  v ← value_of p f e frame objects
  number_in v
