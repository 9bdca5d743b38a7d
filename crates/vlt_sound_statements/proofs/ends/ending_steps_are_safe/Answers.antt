use Rattle.vlt_sound_statements.proofs.Releasing.{release_safe}
use Rattle.vlt_sound_statements.proofs.Dropping.{drop_safe}
use Rattle.vlt_sound_statements.proofs.ends.ending_steps_are_safe.Goals as goal

pub returns-clause-releases : goal.returns-clause-releases
returns-clause-releases c = λ y r f x h ids frame w typed keyed scoped agrees kinded pass. release_safe r f typed w agrees y kinded pass

pub returns-clause-drops : goal.returns-clause-drops
returns-clause-drops c = λ v r f x h ids frame w typed keyed scoped agrees kinded pass. drop_safe r f typed w agrees v kinded pass
