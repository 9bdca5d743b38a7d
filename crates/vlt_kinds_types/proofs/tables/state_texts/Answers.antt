use Rattle.std.proofs.Common.{arith}
use Rattle.vlt_kinds_types.proofs.Sets.{small_texts}
use Rattle.vlt_kinds_types.proofs.tables.state_texts.Goals as goal

pub returns-clause-small : goal.returns-clause-small
returns-clause-small c =
    small_texts c.loop-state.texts c.args.states.now c.loop-state.state-index (omega (arith, c.loop-state-test.false)) c.loop-state.invariant
    c.requires.some c.requires.few
