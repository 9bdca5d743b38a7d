use Rattle.std.proofs.Common.{sym, ◌∙◌, arith}
use Rattle.vlt_base.specs.States.{has_state}
use Rattle.c_lower_program.proofs.OfGlue.Sums.{no_states, count_in, count_out}
use Rattle.c_lower_program.proofs.glue.masks.count.Goals.{then-has, else-has}
use Rattle.c_lower_program.proofs.glue.masks.count.Goals as goal

pub loop-state-init : goal.loop-state-init
loop-state-init c = record { count = sym (no_states (has_state c.args.states)); few = omega arith }

pub loop-state-preserved : goal.loop-state-preserved
loop-state-preserved c =
    let s = has_state c.args.states in
    let n = c.loop-state.state in
    elim c.if-has.branch [
      | then-has w ↦ (let e = count_in n s (sym c.has.ensures ∙ w.if-has.true) in record { count = omega arith; few = omega arith })
      | else-has w ↦ (let e = count_out n s (sym c.has.ensures ∙ w.if-has.false) in record { count = omega arith; few = omega arith })
    ]
