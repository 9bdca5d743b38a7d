-- The laws on the machine.
use Rattle.std.proofs.Common.{◌≡◌, ◌≤◌, ◌==◌, Bool, true, false, if◌then◌else◌, Some, refl, sym, ap, ◌∙◌, subst, arith}
use Rattle.std.proofs.lemmas.Bool.Decides.{nat_tests}
use Rattle.c_meaning.specs.World.{World, first_world, depth_end}
use Rattle.c_meaning.specs.Run.{Setup, Numbered, c_run, run_from}
use Rattle.c_machine.specs.Machine.{goes, first_conf}
use Rattle.c_machine.specs.Bounds.{sizes_of}
use Rattle.c_machine.specs.Laws.{LeadsTo, MachineIsTheRun, TablesSuffice}
use Rattle.c_machine.proofs.Leading.{machine_runs, main_run}
use Rattle.c_machine.proofs.Fitting.{moved_fits, tasks_within, slots_within}
use Rattle.c_machine.proofs.Starting.{functions_small, main_declared}

from_main : (r : Setup) (g : Numbered) (w : World) → 1 ≤ r.depth → run_from r (Some g) w ≡ main_run r g w
from_main r g w some = by (r.depth == 0) refl
  where
    by : (t : Bool) → (r.depth == 0) ≡ t → (if t then record { outcome = depth_end; world = w } else main_run r g w) ≡ main_run r g w
    by false e = refl
    by true e = let z : r.depth ≡ 0 = grind (arith, nat_tests) in absurd (omega (arith, z, some))

pub machine_is_right : MachineIsTheRun
machine_is_right p fuel heap depth input answers g declared is none some =
    let r : Setup = record { program = p; heap = heap; depth = depth } in
    let w : World = first_world fuel input answers in
    let ends = machine_runs r declared g w (main_declared p g declared is) none in
    let same : c_run p fuel heap depth input answers ≡ main_run r g w = ap (λ m. run_from r m w) is ∙ from_main r g w some in
    subst (LeadsTo r (goes (first_conf g w))) (sym same) (record { count = ends.count; is = ends.is })

pub they_suffice : TablesSuffice
they_suffice r ts s fits = record {
  tasks = tasks_within (sizes_of r.program) r.depth ts s fits;
  slots = slots_within (sizes_of r.program) r.depth ts s fits;
  next = moved_fits (sizes_of r.program) r.depth r refl (λ f g is. functions_small r.program r.depth f g is) ts s fits;
}
