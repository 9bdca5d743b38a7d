use Rattle.std.specs.Option.{option_map}
use Rattle.vlt_core.specs.View.{program_of, func_of, operand_of, entry_of}
use Rattle.vlt_core.specs.Instances.{entry_in}
use Rattle.vlt_rows.specs.Pieces.{new_row}
use Rattle.vlt_rows.proofs.Looping.{Going}
use Rattle.vlt_rows.proofs.calls.give_news.Given as goal

abbrev pub invariant-loop-e : goal.invariant-loop-e
invariant-loop-e g l = Going g.S.RowSink.takes g.S.RowSink.stops (λ e. new_row (program_of l.p) (func_of l.f) (option_map operand_of l.value) (entry_in (program_of l.p) (func_of l.f) l.origin (entry_of e))) (l.f.clause) l.fn.to l.e-index l.to
