use Rattle.std.specs.Prelude.{[]}
use Rattle.vlt_sound_worlds.specs.Safe.{goes_to}
use Rattle.vlt_sound_calls.proofs.Cases.{case_safe}
use Rattle.vlt_sound_calls.proofs.results.cases_are_given.Goals as goal

pub returns : goal.returns
returns clause = λ p f g c h ids frame w os real keys states heap following wider go ty t case args d ss ps agrees result of declared host named said pieces over is on.
    case_safe w agrees g keys states heap (goes_to p f c following wider []) go ty t case args d ss ps result of declared host named said pieces real over is on
