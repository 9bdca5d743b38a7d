-- What the statements of a program do, and whole runs.
use Rattle.std.specs.Prelude.{ℕ, zero, suc, ◌==◌, nat_lt, ℤ, Bool, true, false, not, if◌then◌else◌, List, [], length, map, Option, Some, None, slice_get}
use Rattle.std.specs.List.{list_all, flat_map}
use Rattle.std.specs.Result.{is_ok}
use Rattle.vlt_ops.specs.Operator.{is_true}
use Rattle.vlt_core.specs.Core.{States, Operand, Form, Block, block, Stmts, done, next, Arms, no_arms, arm, Simple, set, print, put, make, become, release, drop, own, unpack, build, swap, open_into, adopt, simple, call, choose, loop, switch, focus, scope, return, jump, CaseDecl, Func, Program}
use Rattle.vlt_core.specs.Core as core
use Rattle.vlt_core.specs.Lookups.{fields_of, Reference, reference_of, guarded_of, owning_states, variant_of, case_keys, case_at, permitted_in, release_set, first_state}
use Rattle.vlt_meaning.specs.World.{reference, Value, one, of_case, objects_in, Object, held, lent, loose, inside, adopted_by, is_loose, is_inside, is_lent_under, printed, World, Frame, fuel_end, depth_end, fault, missing, no_value, same_object, other_object, not_held, not_owned, left_behind, not_empty, no_return, Outcome, Ran}
use Rattle.vlt_meaning.specs.World as world
use Rattle.vlt_meaning.specs.Found.{Found, ◌>>=◌, or_fault, Named, if_so}
use Rattle.vlt_meaning.specs.Objects.{object_at, in_states, owned_at, with_owner, with_state, with_cell}
use Rattle.vlt_meaning.specs.Values.{held_object, object_of, guarded_object, touchable, value_of, number_of}
use Rattle.vlt_meaning.specs.Step.{Step, goes, jumps, leaves, ends, with_found, where_so, with_objects, with_changed, with_event, spend, with_input, with_made, with_moved, with_released, with_dropped, with_var, with_key, fill, with_filled, left_block, then_do, then_turn}
use Rattle.vlt_meaning.specs.Operands.{with_operand, with_operands, owning_cells, parts_of, with_case_packed, with_case_opened, Case, case_in, with_empty_variable, owned_in}
use Rattle.vlt_meaning.specs.Calls.{entries_after, called_instance, passed_objects, handed_over, callee_frame, back_in, with_returned, returned_objects, holds_only, is_emptied}
use Rattle.vlt_meaning.specs.Externals.{payload_in, call_external}

-- what never changes in a run
pub record Setup : Type 0 where
  pub program : Program
  pub heap : ℕ
  pub depth : ℕ

-- what lists of statements of a function do
abbrev pub Meaning : Type 0
Meaning = Func → Stmts → Frame → World → Step

-- ---- statements without blocks

abbrev pub any_state : Reference → States
any_state r s = true

abbrev pub new_object : Reference → List Value → Frame → Object
new_object q cells frame =
    record { type = q.type; state = first_state; cells = cells; owner = held frame.depth q.key }

-- an object in its first state, with its owning values' objects in it
unfoldable pub made_in : Setup → Reference → (x : ℕ) → List Value → Frame → World → Step
made_in r q x cells frame w =
    with_made r.heap (new_object q cells frame) w (λ n w.
    with_moved is_loose (inside n) (flat_map objects_in cells) w (λ w.
    goes (with_var x (Some (one (reference n))) (with_key q.key n frame)) w))

-- An owning variable's value is exchanged for a field's. The new objects are loose before the old ones are.
unfoldable pub swap_step : (position v : ℕ) → Named → (old new : Value) → Frame → World → Step
swap_step i v n old new frame w =
    where_so (list_all (λ m. is_ok (owned_at is_loose w.objects m)) (objects_in new)) not_owned None w (λ w.
    with_moved (is_inside n.number) loose (objects_in old) w (λ w.
    with_moved is_loose (inside n.number) (objects_in new) w (λ w.
    goes (with_var v (Some old) frame) (with_changed w n.number (with_cell i new)))))

-- the values of the owning fields go into the variables; the object ends, and all that it adopted
unfoldable pub open_step : Setup → (n : ℕ) → List Value → Func → (vs : List ℕ) → Frame → World → Step
open_step r n cells f vs frame w =
    with_moved (is_inside n) loose (flat_map objects_in cells) w (λ w.
    with_released r.program n w (λ w.
    with_filled f vs cells frame w (λ frame. goes frame w)))

abbrev pub does_simple : Setup → Func → Simple → Frame → World → Step
does_simple r f (set v e) frame w =
    with_found (value_of r.program f e frame w.objects) w (λ a. goes (with_var v (Some a) frame) w)
does_simple r f (core.input v more) frame w =
    with_input more w (λ z w. goes (with_var v (Some (one (world.number z))) frame) w)
does_simple r f (print e) frame w =
    with_found (number_of r.program f e frame w.objects) w (λ z. goes frame (with_event w (printed z)))
does_simple r f (put x i e) frame w =
    with_found (value_of r.program f e frame w.objects) w (λ a.
    with_found (touchable r.program f x i frame w.objects) w (λ n.
    where_so (nat_lt i (length n.object.cells)) missing (Some n.number) w (λ w.
    goes frame (with_changed w n.number (with_cell i a)))))
does_simple r f (make x args) frame w =
    with_found (or_fault missing (reference_of f x)) w (λ q.
    where_so (length args == length (fields_of r.program q.type)) missing None w (λ w.
    with_operands r.program f args frame w (λ cells frame w. made_in r q x cells frame w)))
does_simple r f (become x s) frame w =
    with_found (object_of f any_state x frame w.objects) w (λ n. goes frame (with_changed w n.number (with_state s)))
does_simple r f (release x) frame w =
    with_found (object_of f any_state x frame w.objects) w (λ n. with_released r.program n.number w (goes frame))
does_simple r f (drop v) frame w =
    with_found (or_fault no_value (frame.vars v)) w (λ a.
    with_dropped r.program (objects_in a) w (goes (with_var v None frame)))
does_simple r f (own v o) frame w = with_operand r.program f o frame w (λ a frame w. fill f v a frame w)
does_simple r f (unpack x v) frame w =
    with_found (or_fault missing (reference_of f x)) w (λ q.
    with_found (or_fault missing (owning_states f v)) w (λ states.
    with_found (owned_in (frame.vars v)) w (λ n.
    with_found (owned_at is_loose w.objects n >>= in_states states) w (λ m.
    goes (with_var x (Some (one (reference n))) (with_key q.key n (with_var v None frame)))
    (with_changed w n (with_owner (held frame.depth q.key)))))))
does_simple r f (build v c args) frame w =
    with_found (or_fault missing (variant_of f v)) w (λ t.
    where_so (length args == length (payload_in (case_at r.program t.type c))) missing None w (λ w.
    with_operands r.program f args frame w (λ values frame w.
    with_found (parts_of values) w (λ parts.
    with_case_packed (case_keys r.program t c) frame w (λ ns w. fill f v (of_case c parts ns) frame w)))))
does_simple r f (swap x i v) frame w =
    with_found (object_of f (λ q. permitted_in r.program q.type i) x frame w.objects) w (λ n.
    with_found (or_fault missing (slice_get n.object.cells i)) w (λ old.
    with_found (or_fault no_value (frame.vars v)) w (λ new. swap_step i v n old new frame w)))
does_simple r f (open_into x vs) frame w =
    with_found (or_fault missing (reference_of f x)) w (λ q.
    with_found (object_of f any_state x frame w.objects) w (λ n.
    open_step r n.number (owning_cells (fields_of r.program q.type) n.object.cells) f vs frame w))
does_simple r f (adopt y x q) frame w =
    with_found (object_of f (λ t. release_set r.program t.type) x frame w.objects) w (λ n.
    with_found (object_of f any_state q frame w.objects) w (λ a.
    where_so (not (n.number == a.number)) same_object (Some n.number) w (λ w.
    goes (with_var y (Some (one (reference n.number))) frame)
    (with_changed w n.number (with_owner (adopted_by a.number))))))

-- ---- calls, returns and foci

unfoldable pub call_body : Setup → Meaning → Func → (target : Option ℕ) → (keys : List ℕ) → Func →
    List Value → Frame → World → Step
call_body r rest_of f target keys g args frame w =
    if nat_lt frame.depth r.depth then
    with_found (passed_objects r.program g keys frame w.objects g.clause) w (λ ns.
    back_in f target keys g frame
    (rest_of g g.body (callee_frame g keys args frame) (with_objects w (handed_over keys frame g.clause w.objects))))
    else ends depth_end w

unfoldable pub call_by : (external : Bool) → Setup → Meaning → Func → (target : Option ℕ) → (keys : List ℕ) →
    Func → List Value → Frame → World → Step
call_by true r rest_of f target keys g args frame w = call_external r.heap r.program f target keys g args frame w
call_by false r rest_of f target keys g args frame w = call_body r rest_of f target keys g args frame w

unfoldable pub left_function : Setup → Func → Option Operand → Option Value → Frame → World → Step
left_function r f value a frame w =
    with_found (returned_objects r.program f value (entries_after f) frame w.objects) w (λ kept.
    where_so (holds_only kept frame w.objects) left_behind None w (λ w.
    where_so (is_emptied f frame) left_behind None w (λ w. leaves a kept w)))

-- the object of an open focus, which the key names still, in a state of its release set
abbrev pub focused_object : Setup → (key : Reference) → (number : ℕ) → Frame → List Object → Found Named
focused_object r q n frame objects = do
  m ← held_object q.key frame objects
  o ← if_so (m.number == n) other_object m
  in_states (release_set r.program q.type) o

abbrev pub lent_object : (key number : ℕ) → Frame → List Object → Found Named
lent_object k a frame objects = do
  m ← object_at objects a
  if_so (is_lent_under frame.depth k m.object.owner) not_held m

-- at the end of a focus the object goes back to its adopter, which is held again
unfoldable pub focus_end_step : Setup → (guard key : Reference) → (adopter number : ℕ) → Frame → World → Step
focus_end_step r g q a n frame w =
    with_found (focused_object r q n frame w.objects) w (λ m.
    with_found (lent_object g.key a frame w.objects) w (λ b.
    goes frame
    (with_changed (with_changed w n (with_owner (adopted_by a))) a (with_owner (held frame.depth g.key)))))

unfoldable pub focus_end : Setup → (guard key : Reference) → (adopter number : ℕ) → Step → Step
focus_end r g q a n (goes frame w) = focus_end_step r g q a n frame w
focus_end r g q a n other = other

-- ---- statements

abbrev mutual
  -- one statement of `f`; `rest_of` says what statements do that come after a unit of fuel was spent
  pub does_form : Setup → Meaning → Func → Form → Frame → World → Step
  does_form r rest_of f (simple s) frame w = does_simple r f s frame w
  does_form r rest_of f (call g target keys args) frame w =
      with_found (or_fault missing (slice_get r.program.fns g)) w (λ g.
      where_so (length args == g.params) missing None w (λ w.
      with_operands r.program f args frame w (λ values frame w.
      spend w (λ w.
      call_by g.external r rest_of f target keys (called_instance r.program g keys frame w.objects) values frame w))))
  does_form r rest_of f (choose e a b) frame w =
      with_found (number_of r.program f e frame w.objects) w (λ z.
      if is_true z then does_block r rest_of f a frame w else does_block r rest_of f b frame w)
  does_form r rest_of f (loop e body) frame w =
      spend w (λ w.
      with_found (number_of r.program f e frame w.objects) w (λ z.
      if is_true z then then_turn (does_block r rest_of f body frame w) (rest_of f (next 0 (loop e body) done))
      else goes frame w))
  does_form r rest_of f (switch v arms end) frame w =
      with_found (or_fault missing (variant_of f v)) w (λ t.
      with_found (case_in (frame.vars v)) w (λ c.
      with_case_opened (case_keys r.program t c.number) c.keys frame w (λ w.
      does_arm r rest_of f c arms (with_empty_variable f v frame) w)))
  does_form r rest_of f (focus y z body) frame w =
      with_found (or_fault missing (guarded_of f y)) w (λ g.
      with_found (or_fault missing (reference_of f z)) w (λ q.
      with_found (held_object g.key frame w.objects) w (λ a.
      with_found (guarded_object g y frame w.objects) w (λ n.
      focus_end r g q a.number n.number
      (does_block r rest_of f body
      (with_var z (Some (one (reference n.number))) (with_key q.key n.number frame))
      (with_changed (with_changed w a.number (with_owner (lent frame.depth g.key)))
      n.number (with_owner (held frame.depth q.key))))))))
  does_form r rest_of f (scope body) frame w = does_block r rest_of f body frame w
  does_form r rest_of f (return value) frame w =
      with_returned r.program f value frame w (λ a frame w. left_function r f value a frame w)
  does_form r rest_of f (jump c) frame w = jumps c frame w

  pub does_block : Setup → Meaning → Func → Block → Frame → World → Step
  does_block r rest_of f (block stmts bound end) frame w = left_block bound (does_stmts r rest_of f stmts frame w)

  pub does_stmts : Setup → Meaning → Func → Stmts → Frame → World → Step
  does_stmts r rest_of f done frame w = goes frame w
  does_stmts r rest_of f (next at form rest) frame w =
      then_do (does_form r rest_of f form frame w) (does_stmts r rest_of f rest)

  pub does_arm : Setup → Meaning → Func → Case → Arms → Frame → World → Step
  does_arm r rest_of f c no_arms frame w = ends (fault missing None) w
  does_arm r rest_of f c (arm n vs body rest) frame w =
      if c.number == n then
      with_filled f vs (map one c.parts) frame w (λ frame. does_block r rest_of f body frame w)
      else does_arm r rest_of f c rest frame w

abbrev pub out_of_fuel : Meaning
out_of_fuel f ss frame w = ends fuel_end w

-- what statements do that come after a unit of fuel was spent, where n units were there
abbrev pub less : Setup → ℕ → Meaning
less r zero = out_of_fuel
less r (suc n) = does_stmts r (less r n)

-- ---- whole runs

-- a function without parameters as it begins
abbrev pub first_frame : (depth : ℕ) → Frame
first_frame d = record { depth = d; vars = λ x. None; keys = λ k. None }

abbrev pub start : (fuel : ℕ) → (input : List ℤ) → (answers : List (List ℤ)) → World
start fuel input answers =
    record { objects = []; fuel = fuel; input = input; answers = answers; taken = 0; events = [] }

abbrev pub ran : Outcome → (kept : List ℕ) → World → Ran
ran o kept w = record { outcome = o; kept = kept; world = w }

abbrev pub ran_of : Step → Ran
ran_of (goes frame w) = ran (fault no_return None) [] w
ran_of (jumps c frame w) = ran (fault no_return None) [] w
ran_of (leaves a kept w) = ran world.done kept w
ran_of (ends o w) = ran o [] w

abbrev pub main_run : Setup → (fuel : ℕ) → Option Func → World → Step
main_run r fuel None w = ends (fault missing None) w
main_run r fuel (Some f) w = does_stmts r (less r fuel) f f.body (first_frame 1) w

-- the run of a program: main's frame is the first one of the depth
abbrev pub run : Program → (fuel heap depth : ℕ) → (input : List ℤ) → (answers : List (List ℤ)) → Ran
run p fuel heap depth input answers =
    let w = start fuel input answers in
    ran_of (if depth == 0 then ends depth_end w
    else main_run (record { program = p; heap = heap; depth = depth }) fuel (slice_get p.fns p.main) w)
