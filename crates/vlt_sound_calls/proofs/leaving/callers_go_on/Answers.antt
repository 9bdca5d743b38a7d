use Rattle.vlt_sound_calls.proofs.Delivering.{left_safe}
use Rattle.vlt_sound_calls.proofs.leaving.callers_go_on.Goals as goal

pub returns : goal.returns
returns c = λ p f x h ids hand frame w g keys target a given w' q broken rows left.
    left_safe w q.agrees g keys q.call q.new q.head q.typed q.entered q.scoped q.pass w' left target broken rows
