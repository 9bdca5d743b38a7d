use Rattle.std.specs.Prelude.{[]}
use Rattle.vlt_sound_worlds.specs.Safe.{goes_to}
use Rattle.vlt_sound_calls.proofs.References.{reference_safe}
use Rattle.vlt_sound_calls.proofs.results.references_are_given.Goals as goal

pub returns : goal.returns
returns clause = λ p f c h next ids frame w keys heap following wider go t k args s states agrees bare state allowed fresh apart typed none here others on.
    reference_safe w agrees keys t k args s states next bare state allowed fresh apart typed none (record { here = here; others = others }) heap (goes_to p f c following wider []) go on
