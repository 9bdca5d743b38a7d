use Rattle.std.proofs.Common.{subst, arith}
use Rattle.cert_read.specs.Declarations.{Goes}
use Rattle.cert_read.proofs.Going.{turned, broken, all_taken, kept}
use Rattle.cert_read.proofs.declarations.read_declarations.Goals as goal

pub returns-in-Nothing : goal.returns-in-Nothing
returns-in-Nothing c =
    let g = subst (Goes c.args.ordered c.args.rows.now c.loop-turn.read c.add_next.new.read) c.in-Nothing.is c.in_ok-add_next.ensures in
    kept c.args.ordered c.args.rows.now c.loop-turn.turn c.loop-turn.read c.loop-turn.invariant c.add_next.new.read g.0 g.1 c.first_fault-fault.result c.first_fault-fault.ensures

pub returns-in-Part : goal.returns-in-Part
returns-in-Part c =
    let g = subst (Goes c.args.ordered c.args.rows.now c.loop-turn.read c.add_next.new.read) c.in-Part.is c.in_ok-add_next.ensures in
    broken c.args.ordered c.args.rows.now c.loop-turn.turn c.loop-turn.read c.add_next.new.read c.loop-turn.invariant g.0 g.1 c.loop-turn-test.true g.2
    c.first_fault-fault-in-Part.result c.first_fault-fault-in-Part.ensures

pub loop-turn-preserved : goal.loop-turn-preserved
loop-turn-preserved c =
    let g = subst (Goes c.args.ordered c.args.rows.now c.loop-turn.read c.add_next.new.read) c.in-Whole.is c.in_ok-add_next.ensures in
    turned c.args.ordered c.args.rows.now c.loop-turn.turn c.loop-turn.read c.add_next.new.read c.loop-turn.invariant g.0 g.1 c.loop-turn-test.true g.3 g.2

pub returns : goal.returns
returns c =
    all_taken c.args.ordered c.args.rows.now c.loop-turn.turn c.loop-turn.read c.loop-turn.invariant (omega (arith, c.loop-turn-test.false, c.loop-turn.invariant.turns))
    c.first_fault-fault-2.result
    c.first_fault-fault-2.ensures
