-- The plain questions that those of the code stand for.
use Rattle.std.specs.Prelude.{ℕ, List}
use Rattle.vaultq_words.specs.Questions as questions
use Rattle.vaultq_words.specs.declared.Asked.{Asked}
use Rattle.vaultq_words.specs.declared.Asked.TheVariants.{Faults, Paths, Keys}
use Rattle.vaultq_words.specs.declared.Question.{Question}

abbrev pub seen_asked : Asked → (file : List ℕ) → questions.Question
seen_asked Faults file = questions.faults file
seen_asked Paths file = questions.paths file
seen_asked Keys file = questions.keys file

abbrev pub seen_question : Question → questions.Question
seen_question q = seen_asked q.asked q.file.now
