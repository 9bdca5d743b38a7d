use Rattle.std.proofs.Common.{sym, ap, ◌∙◌}
use Rattle.vlt_base.specs.States.{has_state}
use Rattle.vlt_trace_worlds.specs.View.{found_of, named_view, frame_view, objects_view}
use Rattle.vlt_trace_steps.specs.Cases.{case_key_view}
use Rattle.vlt_trace_steps.proofs.Cells.{case_found}
use Rattle.vlt_trace_steps.proofs.cases.case_object.Goals as goal

pub returns-then-m-n : goal.returns-then-m-n
returns-then-m-n c =
    c.in_states.ensures (has_state c.args.k.states) c.has.ensures
    ∙ case_found (case_key_view c.args.k) c.args.n c.in-Some.m (frame_view c.args.frame.now) (objects_view c.args.objects.now) (named_view c.in-Ok.o)
    (sym c.key.ensures ∙ c.in-Some.is) (sym (ap (found_of named_view) c.in-Ok.is) ∙ c.owned_at.ensures) c.if-m-n.true
