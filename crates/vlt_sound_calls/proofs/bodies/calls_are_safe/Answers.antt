use Rattle.vlt_sound_calls.proofs.BodiesLaws as bodies
use Rattle.vlt_sound_calls.proofs.bodies.calls_are_safe.Goals as goal

pub returns : goal.returns
returns c = λ r rest_of functions hosts externals callees. bodies.calls_are_safe r rest_of functions hosts externals callees
