use Rattle.vlt_core.specs.Instances.{origins}
use Rattle.vlt_points.specs.Writing.{program_in, func_in}
use Rattle.vlt_points.proofs.Functions.{Origins}
use Rattle.vlt_points.proofs.lines.add_function.Given as goal

abbrev pub invariant-loop-origin : goal.invariant-loop-origin
invariant-loop-origin l = Origins l.source.text.now (program_in l.source) (func_in l.source) l.variable (origins (program_in l.source) (func_in l.source)) l.origin-index l.fn.lines.items l.lines.items
