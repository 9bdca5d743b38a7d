use Rattle.vlt_core.specs.View.{keys_of, case_key_of}
use Rattle.vlt_rows.specs.Pieces.{case_key_rows}
use Rattle.vlt_rows.proofs.Looping.{Going}
use Rattle.vlt_rows.proofs.statements.give_keys.Given as goal

abbrev pub invariant-loop-key : goal.invariant-loop-key
invariant-loop-key g l = Going g.S.RowSink.takes g.S.RowSink.stops (λ k. case_key_rows (keys_of l.args) l.opens (case_key_of k)) (l.keys) l.fn.to l.key-index l.to
