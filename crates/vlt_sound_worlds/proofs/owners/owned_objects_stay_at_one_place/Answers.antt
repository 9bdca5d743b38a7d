use Rattle.vlt_sound_worlds.specs.Roots.{home}
use Rattle.vlt_sound_worlds.proofs.Placed as placed
use Rattle.vlt_sound_worlds.proofs.Roots.{same_root}
use Rattle.vlt_sound_worlds.proofs.owners.owned_objects_stay_at_one_place.Goals as goal

pub returns-clause-shifted : goal.returns-clause-shifted
returns-clause-shifted c = λ old new was now from to xs ys zs w s o. placed.shifted home same_root w from to xs ys zs s o

pub returns-clause-taken : goal.returns-clause-taken
returns-clause-taken c = λ old new was now to xs zs w s once out o. placed.taken home same_root w to xs zs s once out o

pub returns-clause-let_go : goal.returns-clause-let_go
returns-clause-let_go c = λ old new was now from xs ys q w off s o. placed.let_go home same_root w from xs ys q off s o
