use Rattle.std.proofs.Common.{length}
use Rattle.vlt_numbers.proofs.Reading.{ReadsText}
use Rattle.vlt_numbers.proofs.read_answers.Given as goal

abbrev pub invariant-loop-rest : goal.invariant-loop-rest
invariant-loop-rest l = ReadsText l.text l.rest l.numbers.items l.ends.items

abbrev pub decreases-loop-rest : goal.decreases-loop-rest
decreases-loop-rest l = length l.rest
