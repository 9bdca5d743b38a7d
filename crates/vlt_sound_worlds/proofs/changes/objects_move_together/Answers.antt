use Rattle.vlt_sound_worlds.proofs.Moved.{moved_all}
use Rattle.vlt_sound_worlds.proofs.Chains.{ranked_roots, ranked_children}
use Rattle.vlt_sound_worlds.proofs.changes.objects_move_together.Goals as goal

pub returns-clause-moved : goal.returns-clause-moved
returns-clause-moved c = λ from to xs os once all. moved_all from to xs os once all

pub returns-clause-roots : goal.returns-clause-roots
returns-clause-roots c = λ old new xs q change root live r. ranked_roots xs q change root live r

pub returns-clause-children : goal.returns-clause-children
returns-clause-children c = λ old new xs g q change up apart live root r. ranked_children xs q change g up apart live root r
