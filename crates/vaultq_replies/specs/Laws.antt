-- That a question has one answer.
use Rattle.std.specs.Prelude.{◌≡◌}
use Rattle.vaultc_words.specs.Sources.{Read}
use Rattle.vaultc_runs.specs.Lines.{Reply}
use Rattle.vaultq_words.specs.Questions.{Question, faults, paths, keys}
use Rattle.vaultq_replies.specs.Replies.{IsAnswerToRead}

-- the same; but two of `paths` may tell other paths
abbrev pub AreAlike : Question → Reply → Reply → Type 0
AreAlike (faults file) r s = r ≡ s
AreAlike (paths file) r s = r.status ≡ s.status
AreAlike (keys file) r s = r ≡ s

-- Every question has one answer to what it read, but for the paths of `paths`.
abbrev pub HasOneAnswer : Type 0
HasOneAnswer = (q : Question) (x : Read) (r s : Reply) → IsAnswerToRead q x r → IsAnswerToRead q x s → AreAlike q r s
