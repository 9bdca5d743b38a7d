use Rattle.std.proofs.Common.{length}
use Rattle.cert_kinds_heads.proofs.heads.+args_broken.Given as goal

abbrev pub decreases-args_broken : goal.decreases-args_broken
decreases-args_broken l = length l.args.now
