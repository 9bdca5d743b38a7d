use Rattle.vlt_sound_worlds.specs.Safe.{goes_to}
use Rattle.vlt_sound_worlds.proofs.OperandsLaws.{operand_safe, operands_safe}
use Rattle.vlt_sound_worlds.proofs.operands.operands_are_handed_over.Goals as goal

pub returns-clause-one : goal.returns-clause-one
returns-clause-one c =
    λ o ty p f x h ids hand frame w k ids' rest go typed agrees kinded pass safe.
    operand_safe typed w agrees (goes_to p f x k ids' rest) o ty go kinded pass safe

pub returns-clause-all : goal.returns-clause-all
returns-clause-all c =
    λ os types p f x h ids hand frame w k ids' rest go typed agrees long kinded pass safe.
    operands_safe typed os types h hand frame w agrees (goes_to p f x k ids' rest) go long kinded pass safe
