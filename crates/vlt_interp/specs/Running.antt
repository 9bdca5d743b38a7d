-- A run under way, and how it ends.
use Rattle.std.specs.Prelude.{◌≡◌, ◌⊎◌, ◌≤◌, ℕ, false, length, Option, None, Some, slice_get}
use Rattle.vlt_core.specs.Core.{Func}
use Rattle.vlt_core.specs.View.{program_of}
use Rattle.vlt_numbers.specs.HostAnswers.{lists_of}
use Rattle.vlt_meaning.specs.World.{World, Frame, Outcome, Ran, is_fault}
use Rattle.vlt_meaning.specs.Step.{Step, ends}
use Rattle.vlt_meaning.specs.Run.{Setup, start, ran_of, main_run}
use Rattle.vlt_meaning_laws.specs.Machine.Machine.{Conf, moves, first_conf}
use Rattle.vlt_meaning_laws.specs.Machine.Laws.{LeadsTo}
use Rattle.vlt_steps.specs.Writing.{Outside}
use Rattle.vlt_acts.specs.Hosts.Stops.{Wrote, IsCut, HasStopped}
use Rattle.vlt_steps.specs.declared.stop.Stop.{Stop}
use Rattle.vlt_steps.specs.declared.stop.Stop.TheVariants.{Done}
use Rattle.vlt_heap.specs.Items.{Items}
use Rattle.vlt_heap.specs.Shown.{Holds}
use Rattle.vlt_interp.specs.declared.tasks.task.Rules.{Rules}
use Rattle.vlt_interp.specs.declared.tasks.task.Run.{Run}
use Rattle.vlt_interp.specs.Tasks.Shown.{ShowsStep, ShowsConf}
use Rattle.vlt_interp.specs.Tasks.Moves.{HasRoom, world_in}
use Rattle.vlt_interp.specs.Calls.Known.{KnowsNext}
use Rattle.vlt_interp.specs.Tasks.Own.{HasOwn, IsOf}
use Rattle.vlt_interp.specs.Going.{setup_in}

-- the world that a run begins with, and the step that it comes to
abbrev pub start_of : Run → World
start_of r = start r.fuel r.host.input.now (lists_of r.host.answers.now)

abbrev pub goal_of : Rules → Run → Step
goal_of rules r = main_run (setup_in rules r) r.fuel (slice_get (program_of rules.program.now).fns (program_of rules.program.now).main) (start_of r)

-- It was come to from where a function of the program, or an instance of one, begins in a frame of depth 1, and all that is come
-- to so knows its next call.
pub record IsUnderWay (r : Setup) (c : Conf) : Type 0 where
  pub func : Func
  pub of : IsOf r.program func
  pub frame : Frame
  pub first : frame.depth ≡ 1
  pub world : World
  pub count : ℕ
  pub is : moves r count (first_conf func frame world) ≡ c
  pub knows : (n : ℕ) → KnowsNext r.program (moves r n (first_conf func frame world))

-- the run is under way to that step, having begun in the world w
pub record IsRunning (rules : Rules) (goal : Step) (w : World) (before after : Outside) (r : Run) : Type 0 where
  pub own : HasOwn (program_of rules.program.now)
  pub deep : 1 ≤ rules.depth
  pub room : HasRoom (program_of rules.program.now) rules.depth r
  pub conf : Conf
  pub shown : ShowsConf r conf
  pub under_way : IsUnderWay (setup_in rules r) conf
  pub leads : LeadsTo (setup_in rules r) conf goal
  pub right : is_fault (ran_of goal).outcome ≡ false
  pub wrote : Wrote w (world_in conf.step) before after

-- ---- where it comes to

-- with nothing left to do the run shows the step that it was under way to
pub record HasCome (rules : Rules) (goal : Step) (w : World) (before after : Outside) (r : Run) : Type 0 where
  pub room : HasRoom (program_of rules.program.now) rules.depth r
  pub none_left : length r.tasks.items ≡ 0
  pub items : Items
  pub holds : Holds r.heap items
  pub func : Func
  pub step : ShowsStep items r func r.at goal
  pub right : is_fault (ran_of goal).outcome ≡ false
  pub wrote : Wrote w (world_in goal) before after

-- it ended before, with the outcome of the step that it was under way to
pub record HasHalted (goal : Step) (w : World) (before after : Outside) (stop : Stop) (r : Run) : Type 0 where
  pub outcome : Outcome
  pub world : World
  pub is : ends outcome world ≡ goal
  pub stopped : HasStopped w before after r.fuel stop outcome world

-- the run came to where nothing is left to do; or it ended before, or the sink took a part of what it writes
abbrev pub ComesOrEnds : Rules → Step → World → (before after : Outside) → Option Stop → Run → Type 0
ComesOrEnds rules goal w before after None r = HasCome rules goal w before after r
ComesOrEnds rules goal w before after (Some stop) r = HasHalted goal w before after stop r ⊎ IsCut w before after stop (ran_of goal).world

-- some step is one that the run is under way to
pub record HasGoal (rules : Rules) (r : Run) : Type 0 where
  pub goal : Step
  pub world : World
  pub running : (b : Outside) → IsRunning rules goal world b b r

abbrev pub or_done : Option Stop → Stop
or_done None = Done
or_done (Some stop) = stop

-- the run came to its end, or the sink took a part of what it writes
abbrev pub IsFinished : Ran → World → (before after : Outside) → Stop → Run → Type 0
IsFinished ran w before after stop r = HasStopped w before after r.fuel stop ran.outcome ran.world ⊎ IsCut w before after stop ran.world
