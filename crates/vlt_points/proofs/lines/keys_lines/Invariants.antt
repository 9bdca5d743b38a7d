use Rattle.vlt_core.specs.View.{program_of}
use Rattle.vlt_points.specs.Lines.{names_by}
use Rattle.vlt_points.proofs.Functions.{Functions}
use Rattle.vlt_points.proofs.lines.keys_lines.Given as goal

abbrev pub invariant-loop-number : goal.invariant-loop-number
invariant-loop-number l = Functions l.text (program_of l.p) (names_by l.variables) l.p.fns l.number l.lines.items
