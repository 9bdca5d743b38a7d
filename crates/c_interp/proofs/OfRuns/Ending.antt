-- How a part's end is the end of the whole.
use Rattle.std.proofs.Common.{◌≡◌, ℕ, ℤ, List, Option, None, IfNone, Err, refl, ap₂, subst}
use Rattle.vlt_base.specs.declared.Budgets.{Budgets}
use Rattle.vlt_base.specs.declared.places.Span.{Span}
use Rattle.vlt_numbers.specs.Given.Given.{Given, numbers, bad_input, bad_answers, given_by}
use Rattle.vlt_steps.specs.declared.end.RunEnd.{RunEnd}
use Rattle.vlt_steps.specs.declared.end.RunEnd.TheVariants.{BadInput, BadAnswers, TooWide, Stopped, Memory}
use Rattle.vlt_steps.specs.Writing.{Outside, IsUntouched}
use Rattle.c_syntax.specs.C.{Program}
use Rattle.c_syntax.specs.Reading.{IsCProgramOf}
use Rattle.c_meaning.specs.World.{Ran}
use Rattle.c_meaning.specs.Run.{c_run}
use Rattle.c_interp.specs.declared.stop.CStop.{CStop}
use Rattle.c_interp.specs.declared.machine.CMachine.{CMachine}
use Rattle.c_interp.specs.Halting.{StopsAs}
use Rattle.c_interp.specs.Machine.{program_in, budgets_of, run_on, stop_of}
use Rattle.c_reader.specs.declared.error.CError.{CError}
use Rattle.c_reader.specs.declared.error.CError.TheVariants as error
use Rattle.c_reader.specs.Reads.{IsReadAs}
use Rattle.c_interp.specs.declared.runs.end.CEnd.TheVariants.{Unread, Ended}
use Rattle.c_interp.specs.Runs.Ends.{EndsGiven, EndsAs}

-- a machine that was opened stops as the run does
pub stops : (m : CMachine) (p : Program) (b : Budgets) (input : List ℤ) (lists : List (List ℤ)) (stop : CStop) (before after : Outside)
    → program_in m ≡ p → budgets_of m ≡ b → stop_of m ≡ None → IfNone (stop_of m) (StopsAs (run_on m input lists) before after stop)
    → StopsAs (c_run p b.fuel b.heap b.depth input lists) before after stop
stops m p b input lists stop before after program budgets started ended =
    let same : run_on m input lists ≡ c_run p b.fuel b.heap b.depth input lists = ap₂ (λ q u. c_run q u.fuel u.heap u.depth input lists) program budgets in
    subst (λ (ran : Ran). StopsAs ran before after stop) same (subst (λ s. IfNone s (StopsAs (run_on m input lists) before after stop)) started ended)

-- ---- the text

-- where memory ran out nothing was written
memory_untouched : (p : Program) (given : Given) (b : Budgets) (before after : Outside) → EndsGiven p given b before after Memory → IsUntouched before after
memory_untouched p (numbers input answers) b before after h = h
memory_untouched p (bad_input line) b before after h = h.1
memory_untouched p (bad_answers line) b before after h = h.1

pub program_ends : (text input answers : List ℕ) (p : Program) (cert : Option Span) (b : Budgets) (before after : Outside) (end : RunEnd CStop)
    → IsCProgramOf text p cert → EndsGiven p (given_by input answers) b before after end → EndsAs text input answers b before after (Ended end)
program_ends text input answers p cert b before after (BadInput line) reads ends = record { program = p; cert = cert; reads = reads; ends = ends }
program_ends text input answers p cert b before after (BadAnswers line) reads ends = record { program = p; cert = cert; reads = reads; ends = ends }
program_ends text input answers p cert b before after TooWide reads ends = record { program = p; cert = cert; reads = reads; ends = ends }
program_ends text input answers p cert b before after (Stopped stop) reads ends = record { program = p; cert = cert; reads = reads; ends = ends }
program_ends text input answers p cert b before after Memory reads ends = memory_untouched p (given_by input answers) b before after ends

pub text_refused : (text input answers : List ℕ) (b : Budgets) (outside : Outside) (e : CError) → (e ≡ error.Memory → ⊥) → IsReadAs text (Err e)
    → EndsAs text input answers b outside outside (Unread e)
text_refused text input answers b outside (error.Unexpected at) none is = (is, refl)
text_refused text input answers b outside error.EndOfText none is = (is, refl)
text_refused text input answers b outside (error.Kind rule at) none is = (is, refl)
text_refused text input answers b outside (error.Limit n) none is = (is, refl)
text_refused text input answers b outside error.Memory none is = absurd (none refl)
