-- How `crun` ends, in the order in which it refuses: the text, the input, the answers, the width of the machine, the run.
use Rattle.std.specs.Prelude.{◌<◌, ℕ, ℤ, List, Option}
use Rattle.vlt_base.specs.declared.Budgets.{Budgets}
use Rattle.vlt_base.specs.declared.places.Span.{Span}
use Rattle.vlt_base.specs.Limits.{limit_of}
use Rattle.vlt_base.specs.declared.limits.TheConstants.{VALUE_SLOTS}
use Rattle.vlt_numbers.specs.Given.Given.{Given, given_by}
use Rattle.vlt_steps.specs.declared.end.RunEnd.{RunEnd}
use Rattle.vlt_steps.specs.declared.end.RunEnd.TheVariants.{Memory}
use Rattle.vlt_steps.specs.Writing.{Outside, IsUntouched}
use Rattle.vlt_steps.specs.Ends as ends
use Rattle.c_syntax.specs.C.{Program}
use Rattle.c_syntax.specs.Reading.{IsCProgramOf}
use Rattle.c_meaning.specs.Run.{c_run}
use Rattle.c_meaning.specs.Widths.{slots_needed}
use Rattle.c_interp.specs.declared.stop.CStop.{CStop}
use Rattle.c_interp.specs.Halting.{StopsAs}
use Rattle.c_reader.specs.Reads.{IsUnread}
use Rattle.c_interp.specs.declared.runs.end.CEnd.{CEnd}
use Rattle.c_interp.specs.declared.runs.end.CEnd.TheVariants.{Unread, Ended}

-- the frames and blocks could have more values than the limit allows
abbrev pub IsTooWide : Program → Budgets → Type 0
IsTooWide p b = limit_of VALUE_SLOTS < slots_needed p b.depth b.heap

-- over input numbers and answers
abbrev pub EndsRun : Program → (numbers : List ℤ) → (answers : List (List ℤ)) → Budgets → (before after : Outside) → RunEnd CStop → Type 0
EndsRun p numbers answers b before after end =
    ends.EndsRun (IsTooWide p b) (StopsAs (c_run p b.fuel b.heap b.depth numbers answers) before after) before after end

-- over what the files of numbers give
abbrev pub EndsGiven : Program → Given → Budgets → (before after : Outside) → RunEnd CStop → Type 0
EndsGiven p given b before after end = ends.EndsGiven (λ numbers answers. EndsRun p numbers answers b before after) given before after end

-- the text stands for a program, and `crun` ends so with it
pub record EndsWith (text input answers : List ℕ) (b : Budgets) (before after : Outside) (end : RunEnd CStop) : Type 0 where
  pub program : Program
  pub cert : Option Span
  pub reads : IsCProgramOf text program cert
  pub ends : EndsGiven program (given_by input answers) b before after end

abbrev pub EndsAs : (text input answers : List ℕ) → Budgets → (before after : Outside) → CEnd → Type 0
EndsAs text input answers b before after (Unread e) = IsUnread text e × IsUntouched before after
EndsAs text input answers b before after (Ended Memory) = IsUntouched before after
EndsAs text input answers b before after (Ended end) = EndsWith text input answers b before after end
