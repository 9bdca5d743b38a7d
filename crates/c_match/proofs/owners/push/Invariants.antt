use Rattle.std.proofs.Common.{◌≡◌, ◌++◌, replicate}
use Rattle.c_match.proofs.owners.push.Given as goal

abbrev pub invariant-loop-done : goal.invariant-loop-done
invariant-loop-done l = l.owners ≡ l.initial.owners ++ replicate l.done l.owner
