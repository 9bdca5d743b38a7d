-- Kinds of faults and choices of paths of the code, as the plain ones that they stand for.
use Rattle.std.specs.Prelude.{List, map}
use Rattle.vlt_core.specs.Faults as s
use Rattle.vlt_core.specs.Witness as w
use Rattle.vlt_core.specs.HeldView.{status_of, wanted_of}
use Rattle.vlt_core.specs.declared.held.FaultKind.{FaultKind}
use Rattle.vlt_core.specs.declared.held.FaultKind.TheVariants as kind
use Rattle.vlt_core.specs.declared.notes.Pick.{Pick}
use Rattle.vlt_core.specs.declared.notes.Pick.TheVariants as pick
use Rattle.vlt_core.specs.declared.notes.Choice.{Choice}

abbrev pub kind_of : FaultKind → s.FaultKind
kind_of (kind.Row found wanted) = s.at_row (status_of found) (wanted_of wanted)
kind_of (kind.Join present) = s.at_join (status_of present)

abbrev pub pick_of : Pick → w.Pick
pick_of pick.Then = w.then_arm
pick_of pick.Else = w.else_arm
pick_of pick.Turn = w.turn
pick_of pick.Exit = w.exit
pick_of (pick.Case position) = w.case_arm position

abbrev pub choice_of : Choice → w.Choice
choice_of c = w.choice c.at (pick_of c.pick)

abbrev pub choices_of : List Choice → List w.Choice
choices_of = map choice_of
