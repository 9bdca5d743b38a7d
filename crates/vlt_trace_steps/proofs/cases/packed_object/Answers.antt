use Rattle.std.proofs.Common.{sym, ap, ◌∙◌}
use Rattle.vlt_base.specs.States.{has_state}
use Rattle.vlt_meaning.specs.Found.{◌>>=◌}
use Rattle.vlt_meaning.specs.Objects.{in_states}
use Rattle.vlt_trace_worlds.specs.View.{found_of, named_view}
use Rattle.vlt_trace_steps.proofs.cases.packed_object.Goals as goal

pub returns-in-Ok : goal.returns-in-Ok
returns-in-Ok c =
    c.in_states.ensures (has_state c.args.k.states) c.has.ensures
    ∙ ap (λ x. x >>= in_states (has_state c.args.k.states)) (sym (ap (found_of named_view) c.in-Ok.is) ∙ c.held_object.ensures)
