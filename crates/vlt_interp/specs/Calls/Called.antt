-- Calls of a run under way: what is asked of one, and where it comes to.
use Rattle.std.specs.Prelude.{◌≡◌, ◌≤◌, ◌+◌, ◌*◌, ℕ, true, List, length, Option, Some, slice_get, IfSome}
use Rattle.vlt_core.specs.View.{func_of, program_of}
use Rattle.vlt_core.specs.Core.{Operand, Form, call, Func, Program}
use Rattle.vlt_meaning.specs.World.{Value, World, Frame}
use Rattle.vlt_meaning.specs.Step.{goes}
use Rattle.vlt_meaning.specs.Calls.{called_instance}
use Rattle.vlt_meaning.specs.Run.{Setup}
use Rattle.vlt_meaning.specs.Externals.{call_external}
use Rattle.vlt_meaning_laws.specs.Machine.Got.{got, operands_got}
use Rattle.vlt_meaning_laws.specs.Machine.Machine as m
use Rattle.vlt_meaning_laws.specs.Machine.Machine.{Conf, at, spending, enter_body, enter_by}
use Rattle.vlt_meaning_laws.specs.Machine.Bounds.{tall_of}
use Rattle.vlt_meaning_laws.specs.Machine.Reached.{NamesKeys}
use Rattle.vlt_heap.specs.Items.{Items}
use Rattle.vlt_heap.specs.Shown.{Holds, heap_of}
use Rattle.vlt_acts.specs.Values.Shown.{ShowObjects, ShowsFrame}
use Rattle.vlt_acts.specs.Values.Pushed.{HaveValues}
use Rattle.vlt_acts.specs.Frames.Frames.{IsLike, frame_end, IsRunning, NamesOwn}
use Rattle.vlt_acts.specs.Hosts.Hosts.{ShowsHost}
use Rattle.vlt_steps.specs.Writing.{Outside}
use Rattle.vlt_externals.specs.HostAnswers.Read.{AreSets}
use Rattle.vlt_externals.specs.Told.{AreSingle}
use Rattle.vlt_externals.specs.HostCalls.Heeded.{ListsKeys}
use Rattle.vlt_steps.specs.declared.stop.Stop.{Stop}
use Rattle.vlt_interp.specs.declared.tasks.task.At.TheVariants.{Goes}
use Rattle.vlt_interp.specs.declared.tasks.task.Rules.{Rules}
use Rattle.vlt_interp.specs.declared.tasks.task.Run.{Run}
use Rattle.vlt_interp.specs.Tasks.Sizes.{frame_slots}
use Rattle.vlt_interp.specs.Tasks.Own.{IsVar, IsKey, HasOwn, IsOf, IsOwnCall}
use Rattle.vlt_interp.specs.Tasks.Shown.{setup_of, tasks_left, ShowsTasks, ShowsConf}
use Rattle.vlt_interp.specs.Tasks.Moves.{HasRoom, IsReady, Keeps, CameTo, IsRight, GoesRight, doing}

-- ---- externals

-- the keys that the call lists name objects, that of a new one aside, and no argument is of a variant
pub record KnowsExternal (g : Func) (keys : List ℕ) (args : List Value) (frame : Frame) : Type 0 where
  pub keys_known : NamesKeys g keys frame
  pub single : AreSingle args

-- the call lists the keys of the clause and of the cases, and what the clause says of states is a set
pub record IsExternalCall (p : Program) (g : Func) (keys : List ℕ) : Type 0 where
  pub lists : ListsKeys p g keys
  pub sets : AreSets p g g.clause

-- ---- arguments after the frame

-- in this frame and this world of the function f the values of the arguments stand after the frame, for a call of g
pub record HasArgs (items : Items) (r : Run) (f g : Func) (args : List Value) (frame : Frame) (w : World) : Type 0 where
  pub objects : ShowObjects items r.values.width w.objects
  pub frame_shown : ShowsFrame items r.values frame
  pub names : NamesOwn f frame
  pub running : IsRunning r.values f (g.params * r.values.width)
  pub count : length args ≡ g.params
  pub values_at : HaveValues items r.values.slots.items (frame_end r.values.width r.values.base f) r.values.width args
  pub depth : frame.depth ≡ r.depth
  pub hosts : ShowsHost r.host w
  pub fuel : w.fuel ≡ r.fuel

-- the run shows them, and the tasks that are left
pub record ShowsCall (r : Run) (f : Func) (ts : List m.Task) (g : Func) (args : List Value) (frame : Frame) (w : World) : Type 0 where
  pub items : Items
  pub holds : Holds r.heap items
  pub func : IsLike (func_of r.func.now) f
  pub going : r.at ≡ Goes
  pub tasks : ShowsTasks items r.values r.values.base r.depth (tasks_left r) ts
  pub args_shown : HasArgs items r f g args frame w

-- ---- parts of a call, once its arguments have values. What is called is the instance that the frame and the objects choose.

abbrev pub CallPart : Type 0
CallPart = Setup → Func → List m.Task → List Value → Frame → World → Conf

abbrev pub calling_out : (target : Option ℕ) → (keys : List ℕ) → Func → CallPart
calling_out target keys g s f ts args frame w =
    at f ts (call_external s.heap s.program f target keys (called_instance s.program g keys frame w.objects) args frame w)

abbrev pub entering_body : (target : Option ℕ) → (keys : List ℕ) → Func → CallPart
entering_body target keys g s f ts args frame w =
    enter_body s f target keys (called_instance s.program g keys frame w.objects) args ts frame w

abbrev pub going_in : (target : Option ℕ) → (keys : List ℕ) → Func → CallPart
going_in target keys g s f ts args frame w =
    spending f ts w (λ w. enter_by g.external s f target keys (called_instance s.program g keys frame w.objects) args ts frame w)

-- what a part of a call of g asks: the call names variables and keys of the running function, and there is room
pub record IsReadyIn (p : Program) (depth : ℕ) (g : Func) (target : Option ℕ) (keys : List ℕ) (r : Run) : Type 0 where
  pub room : HasRoom p depth r
  pub own : HasOwn p
  pub callee : IsOf p g
  pub target_own : IfSome target (IsVar (func_of r.func.now))
  pub keys_own : (i k : ℕ) → slice_get keys i ≡ Some k → IsKey (func_of r.func.now) k
  pub head : length keys ≤ length g.keys
  pub tasks : length r.tasks.items ≤ depth * (tall_of p + 1)
  pub values : length r.values.slots.items ≤ depth * frame_slots p r.values.width + g.params * r.values.width
  pub external : g.external ≡ true → IsExternalCall p g keys

-- some arguments are shown, and this part of the call doesn't go wrong with them
pub record GoesRightIn (part : CallPart) (g : Func) (keys : List ℕ) (s : Setup) (r : Run) : Type 0 where
  pub func : Func
  pub tasks : List m.Task
  pub args : List Value
  pub frame : Frame
  pub world : World
  pub shown : ShowsCall r func tasks g args frame world
  pub known : g.external ≡ true → KnowsExternal g keys args frame
  pub right : IsRight (part s func tasks args frame world).step

pub record CanGoIn (part : CallPart) (g : Func) (target : Option ℕ) (keys : List ℕ) (rules : Rules) (r : Run) : Type 0 where
  pub ready : IsReadyIn (program_of rules.program.now) rules.depth g target keys r
  pub right : GoesRightIn part g keys (setup_of rules (heap_of r.heap)) r

-- the part is done, from whatever arguments the run showed
pub record DoesIn (part : CallPart) (g : Func) (keys : List ℕ) (rules : Rules) (old new : Run) (before after : Outside) (result : Option Stop) : Type 0 where
  pub keeps : Keeps old new
  pub comes : (f : Func) (ts : List m.Task) (args : List Value) (frame : Frame) (w : World) → ShowsCall old f ts g args frame w →
      (g.external ≡ true → KnowsExternal g keys args frame) →
      CameTo w before after result new (part (setup_of rules (heap_of old.heap)) f ts args frame w)
      (part (setup_of rules (heap_of old.heap)) f ts args frame w).step

-- ---- whole calls

-- what is known where a call comes next
abbrev pub KnowsCall : Program → Form → Func → Frame → World → Type 0
KnowsCall p (call g target keys args) f frame w =
    (callee : Func) (values : List Value) (after : Frame) (v : World) → slice_get p.fns g ≡ Some callee →
    callee.external ≡ true → operands_got p f args frame w ≡ got values after v → KnowsExternal callee keys values after
KnowsCall p form f frame w = Unit {0}

-- what a call asks
pub record CanCall (g : ℕ) (target : Option ℕ) (keys : List ℕ) (args : List Operand) (rules : Rules) (r : Run) : Type 0 where
  pub ready : IsReady (program_of rules.program.now) rules.depth r
  pub own : IsOwnCall (program_of rules.program.now) (func_of r.func.now) g target keys
  pub right : GoesRight (doing (call g target keys args)) (setup_of rules (heap_of r.heap)) r
  pub known : KnowsCall (program_of rules.program.now) (call g target keys args) right.func right.frame right.world
  pub external : (callee : Func) → slice_get (program_of rules.program.now).fns g ≡ Some callee → callee.external ≡ true →
      IsExternalCall (program_of rules.program.now) callee keys

-- a statement is done, from whatever configuration the run showed in which a call knows what it asks
pub record Acts (form : Form) (rules : Rules) (old new : Run) (before after : Outside) (result : Option Stop) : Type 0 where
  pub keeps : Keeps old new
  pub comes : (f : Func) (ts : List m.Task) (frame : Frame) (w : World) → ShowsConf old (at f ts (goes frame w)) →
      KnowsCall (program_of rules.program.now) form f frame w →
      CameTo w before after result new (doing form (setup_of rules (heap_of old.heap)) f ts frame w)
      (doing form (setup_of rules (heap_of old.heap)) f ts frame w).step
