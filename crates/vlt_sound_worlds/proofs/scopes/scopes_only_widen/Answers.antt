use Rattle.vlt_sound_worlds.proofs.Widening.{form_widens}
use Rattle.vlt_sound_worlds.proofs.scopes.scopes_only_widen.Goals as goal

pub returns : goal.returns
returns c = form_widens
