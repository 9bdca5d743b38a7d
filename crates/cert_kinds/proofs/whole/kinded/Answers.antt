use Rattle.vlt_core.specs.View.{program_of}
use Rattle.cert_kinds.proofs.Answered.{nothing_found, row_found}
use Rattle.cert_kinds.proofs.whole.kinded.Goals as goal

pub returns-in-None : goal.returns-in-None
returns-in-None c = nothing_found (program_of c.args.p.now) c.in_ok-tally.tally c.in_ok-tally.ensures c.in-None.is

pub returns : goal.returns
returns c = row_found (program_of c.args.p.now) c.in_ok-tally.tally c.in-Some.broken c.in_ok-tally.ensures c.in-Some.is
