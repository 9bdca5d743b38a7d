use Rattle.std.proofs.Common.{length}
use Rattle.cert_kinds_heads.proofs.given.+args_give.Given as goal

abbrev pub decreases-args_give : goal.decreases-args_give
decreases-args_give l = length l.args.now
