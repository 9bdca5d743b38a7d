use Rattle.std.proofs.Common.{length}
use Rattle.vlt_numbers.proofs.Reading.{ReadsLine}
use Rattle.vlt_numbers.proofs.line.push_numbers.Given as goal

abbrev pub invariant-loop-rest : goal.invariant-loop-rest
invariant-loop-rest l = ReadsLine l.line l.rest l.initial.numbers.items l.numbers.items

abbrev pub decreases-loop-rest : goal.decreases-loop-rest
decreases-loop-rest l = length l.rest
