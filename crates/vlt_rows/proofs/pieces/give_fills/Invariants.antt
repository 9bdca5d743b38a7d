use Rattle.std.proofs.Common.{[], ◌∷◌}
use Rattle.vlt_core.specs.View.{func_of}
use Rattle.vlt_core.specs.Rows.{fill_rows}
use Rattle.vlt_rows.proofs.Looping.{Going}
use Rattle.vlt_rows.proofs.pieces.give_fills.Given as goal

abbrev pub invariant-loop-v : goal.invariant-loop-v
invariant-loop-v g l = Going g.S.RowSink.takes g.S.RowSink.stops (λ v. fill_rows (func_of l.f) (v.0 ∷ [])) (l.vs) l.fn.to l.v-index l.to
