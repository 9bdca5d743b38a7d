-- Which configuration of the machine on data a run under way shows.
use Rattle.std.specs.Prelude.{◌≡◌, ℕ, suc, ◌-◌, Bool, List, [], ◌∷◌, reverse, Option}
use Rattle.vlt_core.specs.View.{stmts_of, block_of, expr_of, func_of, program_of}
use Rattle.vlt_core.specs.declared.program.Expr.{Expr}
use Rattle.vlt_core.specs.declared.program.Block.{Block}
use Rattle.vlt_core.specs.Core as core
use Rattle.vlt_core.specs.Core.{Func}
use Rattle.vlt_meaning.specs.World.{Value, Frame, World}
use Rattle.vlt_meaning.specs.Step.{Step, goes, jumps, leaves}
use Rattle.vlt_meaning.specs.Run.{Setup}
use Rattle.vlt_meaning_laws.specs.Machine.Machine as m
use Rattle.vlt_meaning_laws.specs.Machine.Machine.{Caller, Conf}
use Rattle.vlt_heap.specs.Items.{Items, IsMadeAt}
use Rattle.vlt_heap.specs.Shown.{Holds}
use Rattle.vlt_acts.specs.declared.values.values.Values.{Values}
use Rattle.vlt_acts.specs.Values.Shown.{ShowObjects, ShowsFrame, IsTable}
use Rattle.vlt_acts.specs.declared.acts.focus.Focus.{Focus}
use Rattle.vlt_acts.specs.declared.frames.waiting.Waiting.{Waiting}
use Rattle.vlt_acts.specs.Frames.Frames.{IsLike, NamesOwn, IsRunning, Waits}
use Rattle.vlt_acts.specs.Frames.Left.{HasLeft}
use Rattle.vlt_acts.specs.Hosts.Hosts.{ShowsHost}
use Rattle.vlt_interp.specs.declared.tasks.task.Task.{Task}
use Rattle.vlt_interp.specs.declared.tasks.task.Task.TheVariants.{List as Listed, Closing, Turn, Unfocus, Back}
use Rattle.vlt_interp.specs.declared.tasks.task.At.{At}
use Rattle.vlt_interp.specs.declared.tasks.task.At.TheVariants.{Goes, Jumps, Leaves}
use Rattle.vlt_interp.specs.declared.tasks.task.Rules.{Rules}
use Rattle.vlt_interp.specs.declared.tasks.task.Run.{Run}

abbrev pub setup_of : Rules → (heap : ℕ) → Setup
setup_of r heap = record { program = program_of r.program.now; heap = heap; depth = r.depth }

-- ---- tasks. The frame that runs where a task is done begins at `base`, and is the one at the depth.

-- the object in focus and its adopter, at their places
pub record IsFocused (items : Items) (f : Focus) (a n : ℕ) : Type 0 where
  pub object : IsMadeAt items f.object.0 n
  pub adopter : IsMadeAt items f.adopter.0 a

-- the caller of the function at the depth
pub record IsCaller (items : Items) (values : Values) (base d : ℕ) (w : Waiting) (k : Caller) : Type 0 where
  pub waits : Waits items values w base k
  pub depth : d ≡ suc k.frame.depth

-- a turn of this loop
pub record IsTurn (e : Expr) (b : Block) (d : core.Expr) (c : core.Block) : Type 0 where
  pub condition : expr_of e ≡ d
  pub body : block_of b ≡ c

abbrev pub ShowsTask : Items → Values → (base depth : ℕ) → Task → m.Task → Type 0
ShowsTask items values base depth (Listed ss) (m.list ts) = stmts_of ss.now ≡ ts
ShowsTask items values base depth Closing (m.closing bound) = Unit {0}
ShowsTask items values base depth (Turn e b) (m.turn d body) = IsTurn e.now b.now d body
ShowsTask items values base depth (Unfocus f) (m.unfocus g q a n) = IsFocused items f a n
ShowsTask items values base depth (Back w) (m.back k) = IsCaller items values base depth w k
ShowsTask items values base depth _ _ = ⊥

-- where the frame begins that runs after a task, and its depth
abbrev pub base_after : (base : ℕ) → Task → ℕ
base_after base (Back w) = w.base
base_after base t = base

abbrev pub depth_after : (depth : ℕ) → Task → ℕ
depth_after depth (Back w) = depth - 1
depth_after depth t = depth

-- Tasks, the next one first. The first frame begins at 0.
abbrev pub ShowsTasks : Items → Values → (base depth : ℕ) → List Task → List m.Task → Type 0
ShowsTasks items values base depth [] [] = (base ≡ 0) × (depth ≡ 1)
ShowsTasks items values base depth (t ∷ ts) (u ∷ us) =
    ShowsTask items values base depth t u ×
    ShowsTasks items values (base_after base t) (depth_after depth t) ts us
ShowsTasks items values base depth _ _ = ⊥

-- what is left to do, the next task first
abbrev pub tasks_left : Run → List Task
tasks_left r = reverse r.tasks.items

-- ---- where the last step came to

-- a function runs, in this frame and this world
pub record Runs (items : Items) (r : Run) (f : Func) (frame : Frame) (w : World) : Type 0 where
  pub objects : ShowObjects items r.values.width w.objects
  pub frame_shown : ShowsFrame items r.values frame
  pub names : NamesOwn f frame
  pub running : IsRunning r.values f 0
  pub depth : frame.depth ≡ r.depth
  pub hosts : ShowsHost r.host w
  pub fuel : w.fuel ≡ r.fuel

-- the function was left
pub record WasLeft (items : Items) (r : Run) (f : Func) (a : Option Value) (kept : List ℕ) (w : World) : Type 0 where
  pub left : HasLeft items r.values f a kept w
  pub table : IsTable r.values
  pub hosts : ShowsHost r.host w
  pub fuel : w.fuel ≡ r.fuel

pub record Jumped (items : Items) (r : Run) (f : Func) (continues : Bool) (c : Bool) (frame : Frame) (w : World) : Type 0 where
  pub same : continues ≡ c
  pub runs : Runs items r f frame w

abbrev pub ShowsStep : Items → Run → Func → At → Step → Type 0
ShowsStep items r f Goes (goes frame w) = Runs items r f frame w
ShowsStep items r f (Jumps continues) (jumps c frame w) = Jumped items r f continues c frame w
ShowsStep items r f Leaves (leaves a kept w) = WasLeft items r f a kept w
ShowsStep items r f _ _ = ⊥

-- ---- configurations

-- With these tasks left, the next one first, the run shows the configuration. What runs there is an instance of the function
-- that the run has.
pub record ShowsWith (tasks : List Task) (r : Run) (c : Conf) : Type 0 where
  pub items : Items
  pub holds : Holds r.heap items
  pub func : IsLike (func_of r.func.now) c.func
  pub shown : ShowsTasks items r.values r.values.base r.depth tasks c.tasks
  pub step : ShowsStep items r c.func r.at c.step

abbrev pub ShowsConf : Run → Conf → Type 0
ShowsConf r c = ShowsWith (tasks_left r) r c
