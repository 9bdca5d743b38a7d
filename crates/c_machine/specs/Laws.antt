-- What is proved of the machine.
use Rattle.std.specs.Prelude.{◌≡◌, ◌≤◌, ◌+◌, ◌*◌, ℕ, ℤ, List, length, Some}
use Rattle.c_syntax.specs.C.{Program}
use Rattle.c_meaning.specs.World.{first_world, Ran}
use Rattle.c_meaning.specs.Run.{Setup, Numbered, main_of, c_run}
use Rattle.c_machine.specs.Machine.{Task, State, Next, goes, stops, move_of, moves, first_conf, IsDeclared}
use Rattle.c_machine.specs.Bounds.{sizes_of, tall_of, Fits, FitsNext}
use Rattle.c_meaning.specs.Widths.{value_slots}

-- so many moves lead to the end of the run
pub record LeadsTo (r : Setup) (x : Next) (ran : Ran) : Type 0 where
  pub count : ℕ
  pub is : moves r count x ≡ stops ran.outcome ran.world

-- the machine ends as the run does, with its events and its fuel
abbrev pub MachineIsTheRun : Type 0
MachineIsTheRun =
    (p : Program) (fuel heap depth : ℕ) (input : List ℤ) (answers : List (List ℤ)) (g : Numbered)
    → IsDeclared p → main_of p ≡ Some g → length g.func.params ≡ 0 → 1 ≤ depth
    → LeadsTo (record { program = p; heap = heap; depth = depth }) (goes (first_conf g (first_world fuel input answers))) (c_run p fuel heap depth input answers)

-- where the tables suffice, they are no longer than this, and suffice after each move
pub record Suffice (r : Setup) (ts : List Task) (s : State) : Type 0 where
  pub tasks : length ts ≤ 2 * r.depth * (tall_of r.program + 1)
  pub slots : length s.slots ≤ r.depth * value_slots r.program
  pub next : FitsNext (sizes_of r.program) r.depth (move_of r ts s)

abbrev pub TablesSuffice : Type 0
TablesSuffice = (r : Setup) (ts : List Task) (s : State) → Fits (sizes_of r.program) r.depth ts s → Suffice r ts s
