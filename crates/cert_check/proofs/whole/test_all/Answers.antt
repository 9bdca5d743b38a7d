use Rattle.std.proofs.Common.{arith, ◌+◌}
use Rattle.vlt_core.specs.View.{program_of, func_of}
use Rattle.cert_check.specs.Unfit.{many_statements}
use Rattle.cert_check.specs.Notes.{notes_of_all}
use Rattle.cert_check.proofs.Telling.{all_stopped, all_hold, as_many}
use Rattle.cert_check.proofs.whole.test_all.Goals as goal

pub returns-in_err-count : goal.returns-in_err-count
returns-in_err-count c =
    all_stopped (program_of c.args.p.now) (notes_of_all c.args.all.now) _ _ _ _ _ c.from_residual.ensures.1 c.in_err-count.was c.test_at.ensures c.loop-g.invariant.2

pub returns-then-first : goal.returns-then-first
returns-then-first c = record { outcome = many_statements (c.loop-g.g + 1) (let e = c.in_ok-count.ensures.outcome.0 in omega (arith, e, c.if-first.true)) }

pub returns : goal.returns
returns c = record {
  outcome = all_hold (program_of c.args.p.now) (notes_of_all c.args.all.now) c.loop-g.g
      (as_many func_of c.args.p.now.fns c.loop-g.g (omega (arith, c.loop-g-test.false, c.len-g-end.ensures))) c.loop-g.invariant.2;
}
