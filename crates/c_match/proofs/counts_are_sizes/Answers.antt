use Rattle.c_match.proofs.Counting.{body_counted}
use Rattle.c_match.proofs.counts_are_sizes.Goals as goal

pub returns : goal.returns
returns c p f = body_counted p f
