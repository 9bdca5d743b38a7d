-- How `run` ends with a program, in the order in which it refuses: the input, the answers, the width of the machine, the run.
use Rattle.std.specs.Prelude.{◌<◌, ℕ, ℤ, List}
use Rattle.vlt_base.specs.declared.Budgets.{Budgets}
use Rattle.vlt_base.specs.Limits.{limit_of}
use Rattle.vlt_base.specs.declared.limits.TheConstants.{VALUE_SLOTS}
use Rattle.vlt_core.specs.Core.{Program}
use Rattle.vlt_core.specs.Widths.{slots_needed}
use Rattle.vlt_meaning.specs.Run.{run}
use Rattle.vlt_numbers.specs.Given.Given.{Given, given_by}
use Rattle.vlt_steps.specs.declared.stop.Stop.{Stop}
use Rattle.vlt_steps.specs.declared.end.RunEnd.{RunEnd}
use Rattle.vlt_steps.specs.Writing.{Outside}
use Rattle.vlt_steps.specs.Ends as ends
use Rattle.vlt_acts.specs.Hosts.Stops.{StopsAs}

-- the frames and objects could have more values than the limit allows
abbrev pub IsTooWide : Program → Budgets → Type 0
IsTooWide p b = limit_of VALUE_SLOTS < slots_needed p b.depth b.heap

-- over input numbers and answers
abbrev pub EndsRun : Program → (input : List ℤ) → (answers : List (List ℤ)) → Budgets → (before after : Outside) → RunEnd Stop → Type 0
EndsRun p input answers b before after end =
    ends.EndsRun (IsTooWide p b) (StopsAs (run p b.fuel b.heap b.depth input answers) before after) before after end

-- over what the files of numbers give
abbrev pub EndsGiven : Program → Given → Budgets → (before after : Outside) → RunEnd Stop → Type 0
EndsGiven p given b before after end = ends.EndsGiven (λ input answers. EndsRun p input answers b before after) given before after end

abbrev pub EndsAs : Program → (input answers : List ℕ) → Budgets → (before after : Outside) → RunEnd Stop → Type 0
EndsAs p input answers b before after end = EndsGiven p (given_by input answers) b before after end
