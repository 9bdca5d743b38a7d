use Rattle.std.proofs.Common.{◌≡◌, ◌≤◌, length}
use Rattle.vlt_base.specs.States.{has_state}
use Rattle.c_lower_program.specs.Glue.Picks.{states_below}
use Rattle.c_lower_program.proofs.glue.masks.count.Given as goal

abbrev pub invariant-loop-state : goal.invariant-loop-state
invariant-loop-state l = record {
  count : l.count ≡ length (states_below l.state (has_state l.states));
  few : l.count ≤ l.state;
}
