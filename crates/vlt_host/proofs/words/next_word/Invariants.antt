use Rattle.std.proofs.Common.{length}
use Rattle.vlt_host.proofs.LineWords.{ReadsBlanks}
use Rattle.vlt_host.proofs.words.next_word.Given as goal

abbrev pub invariant-loop-rest : goal.invariant-loop-rest
invariant-loop-rest l = ReadsBlanks l.line l.rest

abbrev pub decreases-loop-rest : goal.decreases-loop-rest
decreases-loop-rest l = length l.rest
