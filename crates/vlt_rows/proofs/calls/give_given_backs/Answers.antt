use Rattle.std.proofs.Common.{arith, ap, length}
use Rattle.vlt_core.specs.View.{program_of, func_of, entry_of}
use Rattle.vlt_core.specs.Instances.{entry_in}
use Rattle.vlt_rows.specs.Pieces.{given_back_row}
use Rattle.vlt_rows.proofs.Instanced.{given_backs_in, same_rows}
use Rattle.vlt_rows.proofs.Looping.{going_more, going_stops, going_ends}
use Rattle.vlt_rows.proofs.calls.give_given_backs.Goals as goal

pub returns-in_err-give_given_back : goal.returns-in_err-give_given_back
returns-in_err-give_given_back g c =
    same_rows g.S.RowSink.takes g.S.RowSink.stops _ _ _ _ _ (given_backs_in (program_of c.args.p.now) (func_of c.args.f.now) c.args.origin entry_of c.args.f.now.clause)
    (going_stops _ _ (λ e. given_back_row (program_of c.args.p.now) (func_of c.args.f.now) (entry_in (program_of c.args.p.now) (func_of c.args.f.now) c.args.origin (entry_of e))) (c.args.f.now.clause) _ _ _ _ _ _ _ (omega (arith, ap length c.as_slice-e-items.ensures)) (rw c.as_slice-e-items.ensures at c.e-item.is) c.loop-e.invariant c.from_residual.ensures.1 c.in_err-give_given_back.ensures)

pub loop-e-preserved : goal.loop-e-preserved
loop-e-preserved g c =
    going_more _ _ (λ e. given_back_row (program_of c.args.p.now) (func_of c.args.f.now) (entry_in (program_of c.args.p.now) (func_of c.args.f.now) c.args.origin (entry_of e))) (c.args.f.now.clause) _ _ _ _ _ (omega (arith, ap length c.as_slice-e-items.ensures)) (rw c.as_slice-e-items.ensures at c.e-item.is) c.loop-e.invariant c.in_ok-give_given_back.ensures

pub returns : goal.returns
returns g c =
    same_rows g.S.RowSink.takes g.S.RowSink.stops _ _ _ _ _ (given_backs_in (program_of c.args.p.now) (func_of c.args.f.now) c.args.origin entry_of c.args.f.now.clause)
    (going_ends _ _ (λ e. given_back_row (program_of c.args.p.now) (func_of c.args.f.now) (entry_in (program_of c.args.p.now) (func_of c.args.f.now) c.args.origin (entry_of e))) (c.args.f.now.clause) _ _ _ (omega (arith, c.loop-e-test.false, ap length c.as_slice-e-items.ensures)) c.loop-e.invariant)
