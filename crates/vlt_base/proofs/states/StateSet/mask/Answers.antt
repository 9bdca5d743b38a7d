use Rattle.vlt_base.proofs.Sets.{lowest_state}
use Rattle.vlt_base.proofs.states.StateSet.mask.Goals as goal

pub returns-clause-some_below : goal.returns-clause-some_below
returns-clause-some_below c = lowest_state c.args.self.mask c.args.self.filled c.args.self.small
