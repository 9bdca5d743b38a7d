use Rattle.vlt_sound_statements.proofs.Opening.{open_safe}
use Rattle.vlt_sound_statements.proofs.opens.opening_is_safe.Goals as goal

pub returns : goal.returns
returns c = λ y vs r f x h ids frame w typed keyed scoped agrees kinded pass. open_safe r f typed w agrees y vs kinded pass
