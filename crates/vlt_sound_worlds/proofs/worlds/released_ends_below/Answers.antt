use Rattle.vlt_sound_worlds.proofs.Look.{ends_those}
use Rattle.vlt_sound_worlds.proofs.Below.{below_test, ranked_released}
use Rattle.vlt_sound_worlds.proofs.worlds.released_ends_below.Goals as goal

pub returns-clause-test : goal.returns-clause-test
returns-clause-test c = below_test

pub returns-clause-ends : goal.returns-clause-ends
returns-clause-ends c = ends_those

pub returns-clause-ranks : goal.returns-clause-ranks
returns-clause-ranks c = ranked_released
