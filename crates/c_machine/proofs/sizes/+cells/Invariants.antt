use Rattle.std.proofs.Common.{◌≡◌, max, drop}
use Rattle.c_syntax.specs.View.{stmts_of}
use Rattle.c_meaning.specs.Widths.{cells_in}
use Rattle.c_machine.proofs.sizes.+cells.Given as goal

abbrev pub invariant-list_cells-loop-x : goal.invariant-list_cells-loop-x
invariant-list_cells-loop-x l = max l.most (cells_in (stmts_of (drop l.x-index l.stmts))) ≡ cells_in (stmts_of l.stmts)
