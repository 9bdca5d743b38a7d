use Rattle.vlt_sound_worlds.proofs.Owning.{own_move_safe, own_pack_safe}
use Rattle.vlt_sound_worlds.proofs.Adopting.{adopt_safe}
use Rattle.vlt_sound_worlds.proofs.steps.owning_steps_are_safe.Goals as goal

pub returns-clause-moved : goal.returns-clause-moved
returns-clause-moved c = λ v u r f x h ids frame w typed agrees kinded pass. own_move_safe r f typed w agrees v u kinded pass

pub returns-clause-packed : goal.returns-clause-packed
returns-clause-packed c = λ v y states r f x h ids frame w typed agrees kinded pass. own_pack_safe r f typed w agrees v y states kinded pass

pub returns-clause-adopted : goal.returns-clause-adopted
returns-clause-adopted c = λ y z q r f x h ids frame w typed agrees kinded pass. adopt_safe r f typed w agrees y z q kinded pass
