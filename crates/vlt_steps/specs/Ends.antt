-- How a run ends over its files of numbers, in the order in which it refuses: the input, the answers, the width of the machine, the run.
use Rattle.std.specs.Prelude.{◌≡◌, ◌⊎◌, ℤ, List}
use Rattle.vlt_numbers.specs.Given.Given.{Given, numbers, bad_input, bad_answers}
use Rattle.vlt_numbers.specs.declared.given.GivenError.{GivenError}
use Rattle.vlt_numbers.specs.declared.given.GivenError.TheVariants as error
use Rattle.vlt_steps.specs.declared.end.RunEnd.{RunEnd}
use Rattle.vlt_steps.specs.declared.end.RunEnd.TheVariants.{BadInput, BadAnswers, TooWide, Stopped, Memory}
use Rattle.vlt_steps.specs.Writing.{Outside, IsUntouched}

abbrev pub refusal_of : {Stop : Type 0} → GivenError → RunEnd Stop
refusal_of (error.BadInput line) = BadInput line
refusal_of (error.BadAnswers line) = BadAnswers line
refusal_of error.Memory = Memory

-- over numbers and answers: the machine is too wide, or it stops as the run does
abbrev pub EndsRun : {Stop : Type 0} → (IsTooWide : Type 0) → (Stops : Stop → Type 0) → (before after : Outside) → RunEnd Stop → Type 0
EndsRun IsTooWide Stops before after TooWide = IsTooWide × IsUntouched before after
EndsRun IsTooWide Stops before after (Stopped stop) = (IsTooWide → ⊥) × Stops stop
EndsRun IsTooWide Stops before after Memory = IsUntouched before after
EndsRun IsTooWide Stops before after _ = ⊥

-- a bad line is told, or memory ran out
abbrev pub IsRefusal : {Stop : Type 0} → (refusal : RunEnd Stop) → (before after : Outside) → RunEnd Stop → Type 0
IsRefusal refusal before after end = ((end ≡ refusal) ⊎ (end ≡ Memory)) × IsUntouched before after

-- over what the files of numbers give
abbrev pub EndsGiven : {Stop : Type 0} → (Ends : (input : List ℤ) → (answers : List (List ℤ)) → RunEnd Stop → Type 0) → Given → (before after : Outside) → RunEnd Stop → Type 0
EndsGiven Ends (numbers input answers) before after end = Ends input answers end
EndsGiven Ends (bad_input line) before after end = IsRefusal (BadInput line) before after end
EndsGiven Ends (bad_answers line) before after end = IsRefusal (BadAnswers line) before after end
