use Rattle.vlt_sound_calls.proofs.ReturnsLaws as proved
use Rattle.vlt_sound_calls.proofs.returns.returns_are_safe.Goals as goal

pub returns : goal.returns
returns c = λ r rest_of. proved.returns_are_safe r rest_of
