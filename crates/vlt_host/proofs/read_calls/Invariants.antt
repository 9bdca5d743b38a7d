use Rattle.std.proofs.Common.{length}
use Rattle.vlt_host.proofs.Files.{ReadsFile}
use Rattle.vlt_host.proofs.read_calls.Given as goal

abbrev pub invariant-loop-rest : goal.invariant-loop-rest
invariant-loop-rest l =
    ReadsFile l.text l.rest
    (record { names = l.names.items; name_ends = l.name_ends.items; args = l.args.items; arg_ends = l.arg_ends.items })

abbrev pub decreases-loop-rest : goal.decreases-loop-rest
decreases-loop-rest l = length l.rest
