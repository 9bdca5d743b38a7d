use Rattle.vlt_sound_calls.proofs.DeliveredLaws as proved
use Rattle.vlt_sound_calls.proofs.delivered.results_are_delivered.Goals as goal

pub returns : goal.returns
returns clause = λ p f g c h ids frame w keys a target typed head call broken rows given.
    proved.delivered p f c h ids frame w g keys call head typed a target broken rows given
