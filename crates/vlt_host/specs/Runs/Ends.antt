-- How the run of a program for a host ends, in the order in which it refuses: the input, the answers, the width of the machine, the run.
use Rattle.std.specs.Prelude.{◌<◌, ℕ, ℤ, List, Option, Some}
use Rattle.std.specs.Option.{option_map}
use Rattle.vlt_base.specs.declared.Budgets.{Budgets}
use Rattle.vlt_base.specs.Limits.{limit_of}
use Rattle.vlt_base.specs.declared.limits.TheConstants.{VALUE_SLOTS}
use Rattle.vlt_core.specs.Core.{Program}
use Rattle.vlt_numbers.specs.Given.Given.{Given, given_by}
use Rattle.vlt_steps.specs.declared.stop.Stop.TheVariants.{SinkFault}
use Rattle.vlt_steps.specs.declared.end.RunEnd.{RunEnd}
use Rattle.vlt_steps.specs.Writing.{Outside}
use Rattle.vlt_steps.specs.Stops as stops
use Rattle.vlt_steps.specs.Ends as ends
use Rattle.vlt_acts.specs.Hosts.Stops.{outcome_of}
use Rattle.vlt_host_meaning.specs.Calls.{HostCall}
use Rattle.vlt_host_meaning.specs.HostRun.{HostOutcome, ended, bad_call, HostRan, host_run}
use Rattle.vlt_host_meaning.specs.Widths.{slots_needed_by_host}
use Rattle.vlt_host.specs.declared.runs.stop.HostStop.{HostStop}
use Rattle.vlt_host.specs.declared.runs.stop.HostStop.TheVariants.{Stopped, BadCall}

-- the frames and objects could have more values than the limit allows
abbrev pub IsTooWideForHost : Program → Budgets → Type 0
IsTooWideForHost p b = limit_of VALUE_SLOTS < slots_needed_by_host p b.depth b.heap

-- the outcome of the run, none where the sink cut it off
abbrev pub host_outcome_of : HostStop → Option HostOutcome
host_outcome_of (Stopped stop) = option_map (λ o. ended o) (outcome_of stop)
host_outcome_of (BadCall n) = Some (bad_call n)

-- The run stopped with its outcome, and its text was written; or the sink failed, and a part of the text was written.
abbrev pub StopsAs : HostRan → (before after : Outside) → HostStop → Type 0
StopsAs ran before after stop = stops.StopsAs host_outcome_of (Stopped SinkFault) ran.outcome ran.text before after stop

-- over input numbers and answers
abbrev pub EndsRun : Program → List HostCall → (input : List ℤ) → (answers : List (List ℤ)) → Budgets → (before after : Outside) → RunEnd HostStop → Type 0
EndsRun p calls input answers b before after end =
    ends.EndsRun (IsTooWideForHost p b) (StopsAs (host_run p b.fuel b.heap b.depth input answers calls) before after)
    before after end

-- over what the files of numbers give
abbrev pub EndsGiven : Program → List HostCall → Given → Budgets → (before after : Outside) → RunEnd HostStop → Type 0
EndsGiven p calls given b before after end =
    ends.EndsGiven (λ input answers. EndsRun p calls input answers b before after) given before after end

abbrev pub EndsAs : Program → List HostCall → (input answers : List ℕ) → Budgets → (before after : Outside) → RunEnd HostStop → Type 0
EndsAs p calls input answers b before after end = EndsGiven p calls (given_by input answers) b before after end
