use Rattle.vlt_sound_worlds.proofs.Fresh.{is_fresh}
use Rattle.vlt_sound_worlds.proofs.scopes.bound_keys_are_new.Goals as goal

pub returns : goal.returns
returns c = λ f x ids hand k scoped. is_fresh scoped k hand
