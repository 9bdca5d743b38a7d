use Rattle.std.specs.Prelude.{List, ℤ}
use Rattle.vlt_numbers.specs.declared.answers.Answers.{Answers}
use Rattle.vlt_numbers.specs.Ends.{cut_at}

-- the answers, in their order, each with its numbers
abbrev pub lists_of : Answers → List (List ℤ)
lists_of answers = cut_at 0 answers.ends.items answers.numbers.items
