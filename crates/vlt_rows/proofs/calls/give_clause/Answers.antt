use Rattle.std.proofs.Common.{arith}
use Rattle.vlt_core.specs.View.{program_of, func_of, keys_of, entry_of}
use Rattle.vlt_rows.specs.Pieces.{entry_rows}
use Rattle.vlt_rows.proofs.Looping.{clause_flat}
use Rattle.vlt_rows.proofs.Looping.{going_more, going_stops, going_ends}
use Rattle.vlt_rows.proofs.calls.give_clause.Goals as goal

pub returns-in_err-give_entry : goal.returns-in_err-give_entry
returns-in_err-give_entry g c =
    rw (← clause_flat (program_of c.args.p.now) (func_of c.args.f.now) (keys_of c.args.keys.now) entry_of c.args.clause.now)
    (going_stops _ _ (λ e. entry_rows (program_of c.args.p.now) (func_of c.args.f.now) (keys_of c.args.keys.now) (entry_of e)) (c.args.clause.now) _ _ _ _ _ _ _ (omega arith) c.e-item.is c.loop-e.invariant c.from_residual.ensures.1 c.in_err-give_entry.ensures)

pub loop-e-preserved : goal.loop-e-preserved
loop-e-preserved g c =
    going_more _ _ (λ e. entry_rows (program_of c.args.p.now) (func_of c.args.f.now) (keys_of c.args.keys.now) (entry_of e)) (c.args.clause.now) _ _ _ _ _ (omega arith) c.e-item.is c.loop-e.invariant c.in_ok-give_entry.ensures

pub returns : goal.returns
returns g c =
    rw (← clause_flat (program_of c.args.p.now) (func_of c.args.f.now) (keys_of c.args.keys.now) entry_of c.args.clause.now)
    (going_ends _ _ (λ e. entry_rows (program_of c.args.p.now) (func_of c.args.f.now) (keys_of c.args.keys.now) (entry_of e)) (c.args.clause.now) _ _ _ (omega (arith, c.loop-e-test.false)) c.loop-e.invariant)
