-- A machine that was opened stops as the run for the host does.
use Rattle.std.proofs.Common.{◌≡◌, ℤ, List, ap₂, subst}
use Rattle.vlt_base.specs.declared.Budgets.{Budgets}
use Rattle.vlt_core.specs.Core.{Program}
use Rattle.vlt_steps.specs.Writing.{Outside}
use Rattle.vlt_host_meaning.specs.Calls.{HostCall}
use Rattle.vlt_host_meaning.specs.HostRun.{HostRan, host_run}
use Rattle.vlt_host.specs.declared.machine.host_machine.HostMachine.{HostMachine}
use Rattle.vlt_host.specs.Machine.HostMachine.{budgets_of, fuel_left}
use Rattle.vlt_host.specs.declared.runs.stop.HostStop.{HostStop}
use Rattle.vlt_host.specs.Runs.Ends.{StopsAs}

pub stops : (m : HostMachine) (p : Program) (b : Budgets) (input : List ℤ) (answers : List (List ℤ)) (calls : List HostCall) (stop : HostStop) (before after : Outside) →
    budgets_of m ≡ b → fuel_left m ≡ b.fuel →
    StopsAs (host_run p (fuel_left m) (budgets_of m).heap (budgets_of m).depth input answers calls) before after stop →
    StopsAs (host_run p b.fuel b.heap b.depth input answers calls) before after stop
stops m p b input answers calls stop before after budgets fuel ended =
    subst (λ (ran : HostRan). StopsAs ran before after stop)
    (ap₂ (λ n u. host_run p n u.heap u.depth input answers calls) fuel budgets) ended
