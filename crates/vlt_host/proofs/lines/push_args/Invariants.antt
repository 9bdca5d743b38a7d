use Rattle.std.proofs.Common.{length}
use Rattle.vlt_host.proofs.LineWords.{ReadsArguments}
use Rattle.vlt_host.proofs.lines.push_args.Given as goal

abbrev pub invariant-loop-word : goal.invariant-loop-word
invariant-loop-word l = ReadsArguments l.line l.rest l.initial.args.items l.args.items

abbrev pub decreases-loop-word : goal.decreases-loop-word
decreases-loop-word l = length l.rest
