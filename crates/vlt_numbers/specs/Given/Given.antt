-- What a run is given by its files of numbers.
use Rattle.std.specs.Prelude.{ℕ, ℤ, List, Result, Ok, Err}
use Rattle.vlt_numbers.specs.Text.{input_numbers, answers_of}

-- the input's numbers and the host's answers, or the first bad line of a file
pub data Given : Type 0 where
  numbers : (input : List ℤ) → (answers : List (List ℤ)) → Given
  bad_input : (line : ℕ) → Given
  bad_answers : (line : ℕ) → Given

abbrev pub with_answers : List ℤ → Result (List (List ℤ)) ℕ → Given
with_answers input (Ok answers) = numbers input answers
with_answers input (Err line) = bad_answers line

-- the input is read before the answers
abbrev pub with_input : Result (List ℤ) ℕ → Result (List (List ℤ)) ℕ → Given
with_input (Ok input) answers = with_answers input answers
with_input (Err line) answers = bad_input line

abbrev pub given_by : (input answers : List ℕ) → Given
given_by input answers = with_input (input_numbers input) (answers_of answers)
