-- What a run of an accepted program for a host replies.
use Rattle.std.specs.Prelude.{◌≡◌, ◌⊎◌, ℕ, ℤ, List, Option, Some, Result, Ok, Err, codes}
use Rattle.std.specs.Option.{option_and_then}
use Rattle.vlt_base.specs.declared.Budgets.{Budgets}
use Rattle.vlt_base.specs.declared.limits.TheConstants.{VALUE_SLOTS}
use Rattle.vlt_core.specs.Core.{Program}
use Rattle.vlt_numbers.specs.Given.Given.{Given, numbers, bad_input, bad_answers}
use Rattle.vlt_host_meaning.specs.Calls.{HostCall}
use Rattle.vlt_host_meaning.specs.HostRun.{HostOutcome, ended, bad_call, HostRan, host_run}
use Rattle.vlt_host.specs.Runs.Ends.{IsTooWideForHost, host_outcome_of}
use Rattle.vlt_host.specs.declared.runs.stop.HostStop.{HostStop}
use Rattle.vaultc_runs.specs.declared.status.TheConstants.{OUT_OF_NUMBERS}
use Rattle.vaultc_runs.specs.Lines.{Reply, reply, over_reply, numbers_reply, bad_call_line, following}
use Rattle.vaultc_runs.specs.Runs.{last_of}

abbrev pub bad_call_reply : (position : ℕ) → Reply
bad_call_reply n = reply OUT_OF_NUMBERS (bad_call_line n)

-- the line of a calls file that is no call
abbrev pub bad_calls_reply : (line : ℕ) → Reply
bad_calls_reply line = numbers_reply (codes "calls") line

-- the last line of each outcome, with the status; the line of what is held at the end is part of the text
abbrev pub host_last_of : HostOutcome → Option Reply
host_last_of (ended o) = last_of o
host_last_of (bad_call n) = Some (bad_call_reply n)

-- the last line where a machine stopped so; where the sink failed there is none
abbrev pub host_stop_line : HostStop → Option Reply
host_stop_line stop = option_and_then host_last_of (host_outcome_of stop)

-- the text of the calls and their events, and then the last line of the outcome
abbrev pub IsReplyToHostRan : HostRan → Reply → Type 0
IsReplyToHostRan ran r = (last : Reply) × (host_last_of ran.outcome ≡ Some last) × (r ≡ following ran.text last)

-- over input numbers and answers; the frames and objects of the budgets may not fit into a machine
abbrev pub IsReplyToCallsOver : Program → List HostCall → (input : List ℤ) → (answers : List (List ℤ)) → Budgets → Reply → Type 0
IsReplyToCallsOver p calls input answers b r =
    (IsTooWideForHost p b × (r ≡ over_reply VALUE_SLOTS))
    ⊎ ((IsTooWideForHost p b → ⊥) × IsReplyToHostRan (host_run p b.fuel b.heap b.depth input answers calls) r)

-- over what the files of numbers give
abbrev pub IsReplyToCalls : Program → List HostCall → Given → Budgets → Reply → Type 0
IsReplyToCalls p calls (numbers input answers) b r = IsReplyToCallsOver p calls input answers b r
IsReplyToCalls p calls (bad_input line) b r = r ≡ numbers_reply (codes "input") line
IsReplyToCalls p calls (bad_answers line) b r = r ≡ numbers_reply (codes "answers") line

-- over what the calls file says: its calls, or its first line that is none
abbrev pub IsReplyToHost : Program → Result (List HostCall) ℕ → Given → Budgets → Reply → Type 0
IsReplyToHost p (Ok calls) given b r = IsReplyToCalls p calls given b r
IsReplyToHost p (Err line) given b r = r ≡ bad_calls_reply line
