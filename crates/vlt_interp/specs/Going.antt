-- What a move of a run asks, and where it comes to.
use Rattle.std.specs.Prelude.{◌≡◌, List, [], ◌∷◌, Option, Some}
use Rattle.vlt_core.specs.View.{func_of, program_of}
use Rattle.vlt_core.specs.Core.{Form, Func}
use Rattle.vlt_meaning.specs.World.{Frame, World}
use Rattle.vlt_meaning.specs.Step.{goes}
use Rattle.vlt_meaning.specs.Run.{Setup}
use Rattle.vlt_meaning_laws.specs.Machine.Machine as m
use Rattle.vlt_meaning_laws.specs.Machine.Machine.{Conf, at, after_move}
use Rattle.vlt_meaning_laws.specs.Machine.Bounds.{Fits}
use Rattle.vlt_heap.specs.Shown.{heap_of}
use Rattle.vlt_steps.specs.Writing.{Outside}
use Rattle.vlt_steps.specs.declared.stop.Stop.{Stop}
use Rattle.vlt_steps.specs.declared.stop.Stop.TheVariants.{Done}
use Rattle.vlt_interp.specs.declared.tasks.task.Task.{Task}
use Rattle.vlt_interp.specs.declared.tasks.task.Rules.{Rules}
use Rattle.vlt_interp.specs.declared.tasks.task.Run.{Run}
use Rattle.vlt_interp.specs.Tasks.Own.{HasOwn, IsOwn}
use Rattle.vlt_interp.specs.Tasks.Shown.{setup_of, tasks_left, ShowsWith, ShowsConf}
use Rattle.vlt_interp.specs.Tasks.Moves.{HasRoom, IsReady, Keeps, world_in, IsRight, CameTo, doing}
use Rattle.vlt_interp.specs.Calls.Called.{KnowsCall}
use Rattle.vlt_interp.specs.Calls.Known.{ListsCall, KnowsNext}
use Rattle.vlt_interp.specs.Owned.{IsOwnConf}

-- the setup of a run
abbrev pub setup_in : Rules → Run → Setup
setup_in rules r = setup_of rules (heap_of r.heap)

-- the move from there doesn't go wrong, and the stack fits
pub record IsFine (s : Setup) (c : Conf) : Type 0 where
  pub right : IsRight (after_move s c).step
  pub fits : Fits s c
  pub own : IsOwnConf s.program c
  pub knows : KnowsNext s.program c

-- with these tasks left some configuration is shown from where the move is fine
pub record CanGo (tasks : List Task) (rules : Rules) (r : Run) : Type 0 where
  pub room : HasRoom (program_of rules.program.now) rules.depth r
  pub has_own : HasOwn (program_of rules.program.now)
  pub conf : Conf
  pub shown : ShowsWith tasks r conf
  pub fine : IsFine (setup_in rules r) conf

abbrev pub CanMove : Rules → Run → Type 0
CanMove rules r = CanGo (tasks_left r) rules r

-- it was taken off the stack
abbrev pub CanDoTask : Task → Rules → Run → Type 0
CanDoTask t rules r = CanGo (t ∷ tasks_left r) rules r

-- the move is done, from whatever configuration was shown with these tasks left, if it is fine there
pub record Goes (tasks : List Task) (s : Setup) (old new : Run) (before after : Outside) (result : Option Stop) : Type 0 where
  pub keeps : Keeps old new
  pub comes : (c : Conf) → ShowsWith tasks old c → IsFine s c →
      CameTo (world_in c.step) before after result new (after_move s c) (after_move s c).step

abbrev pub GoesTask : Task → Rules → (old new : Run) → (before after : Outside) → Option Stop → Type 0
GoesTask t rules old new before after result = Goes (t ∷ tasks_left old) (setup_in rules old) old new before after result

-- with no task left the run is done; else the next one is done
pub record IsOver (new : Run) (old : Run) (before after : Outside) (result : Option Stop) : Type 0 where
  pub done : result ≡ Some Done
  pub fuel : new.fuel ≡ old.fuel
  pub silent : after ≡ before

abbrev pub Moves : List Task → Rules → (old new : Run) → (before after : Outside) → Option Stop → Type 0
Moves [] rules old new before after result = IsOver new old before after result
Moves (t ∷ ts) rules old new before after result = Goes (t ∷ ts) (setup_in rules old) old new before after result

-- ---- statements

-- a statement of which the rest of the list is left; a call is known
pub record CanAct (form : Form) (rules : Rules) (r : Run) : Type 0 where
  pub ready : IsReady (program_of rules.program.now) rules.depth r
  pub own : IsOwn (program_of rules.program.now) (func_of r.func.now) form
  pub func : Func
  pub tasks : List m.Task
  pub frame : Frame
  pub world : World
  pub shown : ShowsConf r (at func tasks (goes frame world))
  pub right : IsRight (doing form (setup_in rules r) func tasks frame world).step
  pub lists : ListsCall (program_of rules.program.now) form
  pub known : KnowsCall (program_of rules.program.now) form func frame world
