use Rattle.std.proofs.Common.{◌≡◌, ◌++◌, drop, map}
use Rattle.c_syntax.specs.View.{stmt_of}
use Rattle.c_lower.specs.Slots.{cells_at, past_all, vars_at}
use Rattle.c_lower.specs.Expressions.{reads}
use Rattle.c_lower_exprs.specs.Tables.{numbers_of, sort_of}
use Rattle.c_lower_exprs.proofs.reads.read_cells.Given as goal

abbrev pub invariant-loop-sort : goal.invariant-loop-sort
invariant-loop-sort l = record {
  stmts :
      map stmt_of l.out
      ++ reads (vars_at (numbers_of l.temps) (map sort_of (drop l.sort-index l.sorts)))
      (cells_at l.base (numbers_of l.cells) (map sort_of (drop l.sort-index l.sorts)))
      ≡ map stmt_of l.initial.out ++ reads (vars_at (numbers_of l.fn.t) (map sort_of l.sorts)) (cells_at l.base (numbers_of l.fn.start) (map sort_of l.sorts));
  next : past_all (numbers_of l.temps) (map sort_of (drop l.sort-index l.sorts)) ≡ past_all (numbers_of l.fn.t) (map sort_of l.sorts);
}
