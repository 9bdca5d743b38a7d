use Rattle.vlt_core.specs.View.{program_of, func_of, keys_of, entry_of}
use Rattle.vlt_rows.specs.Pieces.{entry_rows}
use Rattle.vlt_rows.proofs.Looping.{Going}
use Rattle.vlt_rows.proofs.calls.give_clause.Given as goal

abbrev pub invariant-loop-e : goal.invariant-loop-e
invariant-loop-e g l = Going g.S.RowSink.takes g.S.RowSink.stops (λ e. entry_rows (program_of l.p) (func_of l.f) (keys_of l.keys) (entry_of e)) (l.clause) l.fn.to l.e-index l.to
