use Rattle.vlt_trace_meaning.proofs.Erasing as erasing
use Rattle.vlt_trace_meaning.proofs.places_change_nothing.Goals as goal

pub returns : goal.returns
returns c = erasing.places_change_nothing
