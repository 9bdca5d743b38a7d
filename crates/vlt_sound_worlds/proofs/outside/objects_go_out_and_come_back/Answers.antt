use Rattle.vlt_sound_worlds.proofs.Sending.{agrees_sent}
use Rattle.vlt_sound_worlds.proofs.Returning.{agrees_back}
use Rattle.vlt_sound_worlds.proofs.outside.objects_go_out_and_come_back.Goals as goal

pub returns-clause-sent : goal.returns-clause-sent
returns-clause-sent c = λ p f x h h' ids hand frame os os' ks xs agrees sent. agrees_sent agrees ks xs sent

pub returns-clause-back : goal.returns-clause-back
returns-clause-back c =
    λ p f x h h' ids hand frame os k n states agrees named was within none here others state type.
    agrees_back agrees k n named was within states h' none (record { here = here; others = others }) state type
