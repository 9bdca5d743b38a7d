use Rattle.vlt_sound_worlds.proofs.PlainSteps.{print_safe, input_is_safe, set_safe}
use Rattle.vlt_sound_worlds.proofs.Fields.{put_safe}
use Rattle.vlt_sound_worlds.proofs.steps.plain_steps_are_safe.Goals as goal

pub returns-clause-print : goal.returns-clause-print
returns-clause-print c = λ e r f x h ids frame w typed agrees kinded pass. print_safe r f typed w agrees e kinded pass

pub returns-clause-input : goal.returns-clause-input
returns-clause-input c = λ v more r f x h ids frame w typed agrees kinded pass. input_is_safe r f typed w agrees v more kinded

pub returns-clause-set : goal.returns-clause-set
returns-clause-set c = λ v e r f x h ids frame w typed agrees kinded pass. set_safe r f typed w agrees v e kinded pass

pub returns-clause-put : goal.returns-clause-put
returns-clause-put c = λ y i e r f x h ids frame w typed agrees kinded pass. put_safe r f typed w agrees y i e kinded pass
