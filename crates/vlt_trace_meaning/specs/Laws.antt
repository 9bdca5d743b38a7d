-- What is proved of the machine with places.
use Rattle.std.specs.Prelude.{◌≡◌, ◌≤◌, ℕ, ℤ, List, map}
use Rattle.vlt_core.specs.Core.{Func, Program}
use Rattle.vlt_meaning.specs.World.{World, Frame}
use Rattle.vlt_meaning.specs.Does.{does}
use Rattle.vlt_meaning.specs.Run.{Setup, run, ran_of}
use Rattle.vlt_meaning_laws.specs.Machine.Machine as m
use Rattle.vlt_trace_meaning.specs.Machine.{Task, list, closing, turn, unfocus, back, Caller, Conf, moves, first_conf}
use Rattle.vlt_trace_meaning.specs.Frames.{ComesTo, IsTrace}

-- ---- without places it is the machine of vlt_meaning_laws

abbrev pub caller_of : Caller → m.Caller
caller_of k = record { func = k.func; frame = k.frame; target = k.target; keys = k.keys }

abbrev pub task_of : Task → m.Task
task_of (list ss) = m.list ss
task_of (closing bound end) = m.closing bound
task_of (turn place e b) = m.turn e b
task_of (unfocus g q a n end) = m.unfocus g q a n
task_of (back k) = m.back (caller_of k)

abbrev pub conf_of : Conf → m.Conf
conf_of c = record { func = c.func; tasks = map task_of c.tasks; step = c.step }

abbrev pub PlacesChangeNothing : Type 0
PlacesChangeNothing = (r : Setup) (n : ℕ) (c : Conf) → conf_of (moves r n c) ≡ m.moves r n (conf_of c)

-- ---- where a run is over

-- a run comes to just one such configuration, whose step is where the function's statements lead
abbrev pub EachComes : Type 0
EachComes = (r : Setup) (f : Func) (frame : Frame) (w : World) → (last : Conf) × ComesTo r (first_conf f frame w) last

abbrev pub ComesToOne : Type 0
ComesToOne = (r : Setup) (c x y : Conf) → ComesTo r c x → ComesTo r c y → x ≡ y

abbrev pub ComesWhereItLeads : Type 0
ComesWhereItLeads = (r : Setup) (f : Func) (frame : Frame) (w : World) (last : Conf) →
    ComesTo r (first_conf f frame w) last → last.step ≡ does r f f.body frame w

-- so its outcome and its world are the run's
abbrev pub TraceIsTheRun : Type 0
TraceIsTheRun = (p : Program) (fuel heap depth : ℕ) (input : List ℤ) (answers : List (List ℤ)) (last : Conf) →
    1 ≤ depth → IsTrace p fuel heap depth input answers last → ran_of last.step ≡ run p fuel heap depth input answers
