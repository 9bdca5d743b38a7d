use Rattle.std.proofs.Common.{length}
use Rattle.cert_kinds_blocks.proofs.tokens.+same_toks.Given as goal

abbrev pub decreases-same_toks : goal.decreases-same_toks
decreases-same_toks l = length l.a.now
