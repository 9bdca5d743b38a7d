-- The moves lead to where a function's statements lead.
use Rattle.std.proofs.Common.{◌≡◌, List, [], sym, ap, ◌∙◌}
use Rattle.vlt_core.specs.Core.{Func}
use Rattle.vlt_meaning.specs.Step.{Step, then_do}
use Rattle.vlt_meaning.specs.Run.{Setup}
use Rattle.vlt_meaning_laws.specs.Machine.Machine.{Task, moves, first_conf}
use Rattle.vlt_meaning_laws.specs.Machine.Laws.{MachineIsTheRun}
use Rattle.vlt_meaning_laws.proofs.OfMachine.Finishing.{finishes, moves_end}
use Rattle.vlt_meaning_laws.proofs.OfMachine.Halting.{halts}

-- with nothing left to do the step is where the run comes to
done_is : (r : Setup) (f : Func) (ts : List Task) (a : Step) → ts ≡ [] → finishes r f ts a ≡ a
done_is r f ts a e = ap (λ us. finishes r f us a) e

pub machine_is_the_run : MachineIsTheRun
unfolding then_do
machine_is_the_run r f frame w =
    let c = first_conf f frame w in
    let h = halts r c in
    let last = moves r h.count c in
    record {
      count = h.count;
      tasks = h.tasks;
      step = sym (done_is r last.func last.tasks last.step h.tasks) ∙ moves_end r h.count c;
    }
