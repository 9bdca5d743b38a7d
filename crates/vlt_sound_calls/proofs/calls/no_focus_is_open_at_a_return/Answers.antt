use Rattle.vlt_sound_calls.proofs.Contexts.{none_open}
use Rattle.vlt_sound_calls.proofs.calls.no_focus_is_open_at_a_return.Goals as goal

pub returns : goal.returns
returns c = λ p f x a given w q rest first mine left. none_open q rest first mine left
