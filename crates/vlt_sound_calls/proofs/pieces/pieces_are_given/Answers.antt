use Rattle.std.specs.Prelude.{[]}
use Rattle.vlt_sound_worlds.specs.Safe.{goes_to}
use Rattle.vlt_sound_calls.proofs.PiecesLaws.{number_safe, new_safe}
use Rattle.vlt_sound_calls.proofs.pieces.pieces_are_given.Goals as goal

pub returns-clause-number : goal.returns-clause-number
returns-clause-number clause = λ p f g c h ids frame w keys states heap following wider go ty z agrees basic on.
    number_safe w agrees g keys states heap (goes_to p f c following wider []) go ty z basic on

pub returns-clause-new : goal.returns-clause-new
returns-clause-new clause = λ p f g c h ids frame w keys states heap following wider go S t args s agrees is allowed state bare on.
    new_safe w agrees g keys states heap (goes_to p f c following wider []) go S t args s is allowed state bare on
