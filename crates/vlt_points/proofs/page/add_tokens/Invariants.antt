use Rattle.vlt_points.specs.Founds.{found}
use Rattle.vlt_points.specs.Writing.{program_in, func_in}
use Rattle.vlt_points.proofs.Texts.{Adding}
use Rattle.vlt_points.proofs.page.add_tokens.Given as goal

abbrev pub invariant-loop-i : goal.invariant-loop-i
invariant-loop-i l = Adding (program_in l.source) (func_in l.source) (found l.m) l.fn.lines.items l.fn.tokens.items l.i l.lines.items l.tokens.items
