use Rattle.vlt_sound_worlds.proofs.Becoming.{become_safe}
use Rattle.vlt_sound_worlds.proofs.Unpacking.{unpack_safe}
use Rattle.vlt_sound_worlds.proofs.moves.moving_steps_are_safe.Goals as goal

pub returns-clause-becomes : goal.returns-clause-becomes
returns-clause-becomes c = λ y s r f x h ids frame w typed keyed scoped agrees kinded pass. become_safe r f typed w agrees y s kinded pass

pub returns-clause-unpacks : goal.returns-clause-unpacks
returns-clause-unpacks c = λ y v r f x h ids frame w typed keyed scoped agrees kinded pass. unpack_safe r f typed keyed w scoped agrees y v kinded pass
