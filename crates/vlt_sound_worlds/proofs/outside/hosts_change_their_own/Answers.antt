use Rattle.vlt_sound_worlds.proofs.Hosting.{agrees_hosted}
use Rattle.vlt_sound_worlds.proofs.Telling.{agrees_told}
use Rattle.vlt_sound_worlds.proofs.Taking.{agrees_taken}
use Rattle.vlt_sound_worlds.proofs.outside.hosts_change_their_own.Goals as goal

pub returns-clause-made : goal.returns-clause-made
returns-clause-made c = λ p f x h ids hand frame os t s heads agrees bare state. agrees_hosted agrees t s heads bare state

pub returns-clause-told : goal.returns-clause-told
returns-clause-told c = λ p f x h ids hand frame os n s agrees was within state. agrees_told agrees n s was within state

pub returns-clause-taken : goal.returns-clause-taken
returns-clause-taken c =
    λ p f x h ids hand frame os n y agrees was within is fit. agrees_taken agrees n was within y is fit
