-- A machine that was opened stops as the run does.
use Rattle.std.proofs.Common.{◌≡◌, ℤ, List, None, IfNone, ap₂, subst}
use Rattle.vlt_base.specs.declared.Budgets.{Budgets}
use Rattle.vlt_core.specs.Core.{Program}
use Rattle.vlt_meaning.specs.World.{Ran}
use Rattle.vlt_meaning.specs.Run as plain
use Rattle.vlt_steps.specs.declared.stop.Stop.{Stop}
use Rattle.vlt_steps.specs.Writing.{Outside}
use Rattle.vlt_acts.specs.Hosts.Stops.{StopsAs}
use Rattle.vlt_interp.specs.declared.machine.Machine.{Machine}
use Rattle.vlt_interp.specs.Machine.{program_in, budgets_of, run_on, stop_of}

pub stops : (m : Machine) (p : Program) (b : Budgets) (input : List ℤ) (answers : List (List ℤ)) (stop : Stop) (before after : Outside)
    → program_in m ≡ p → budgets_of m ≡ b → stop_of m ≡ None → IfNone (stop_of m) (StopsAs (run_on m input answers) before after stop)
    → StopsAs (plain.run p b.fuel b.heap b.depth input answers) before after stop
stops m p b input answers stop before after program budgets started ended =
    let same : run_on m input answers ≡ plain.run p b.fuel b.heap b.depth input answers = ap₂ (λ q u. plain.run q u.fuel u.heap u.depth input answers) program budgets in
    subst (λ (ran : Ran). StopsAs ran before after stop) same (subst (λ s. IfNone s (StopsAs (run_on m input answers) before after stop)) started ended)
