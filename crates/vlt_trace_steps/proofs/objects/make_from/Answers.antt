use Rattle.std.proofs.Common.{◌≡◌, Some, map, sym, ap, subst, ◌∙◌}
use Rattle.std.specs.List.{flat_map}
use Rattle.vlt_core.specs.LookupViews.{reference_view}
use Rattle.vlt_meaning.specs.World as m
use Rattle.vlt_meaning.specs.World.{is_loose, objects_in}
use Rattle.vlt_meaning.specs.Step.{goes, with_moved, with_var, with_key}
use Rattle.vlt_meaning.specs.Run.{new_object, made_in}
use Rattle.vlt_trace_worlds.specs.View.{value_view, objects_view, frame_view, world_view}
use Rattle.vlt_trace_worlds.specs.Owners.{MakesObject}
use Rattle.vlt_trace_worlds.specs.declared.stops.Halt.TheVariants.{Memory}
use Rattle.vlt_trace_steps.proofs.Leading.{err_is, no_memory, same_goes}
use Rattle.vlt_trace_steps.proofs.Making.{made_ok, made_err, moved_ok, moved_err}
use Rattle.vlt_trace_steps.proofs.objects.make_from.Goals as goal

pub returns-in_err-ns : goal.returns-in_err-ns
returns-in_err-ns c = λ s e. no_memory _ _ _ _ (err_is c.from_residual.result Memory c.from_residual.ensures.1)

pub returns-in_err-n : goal.returns-in_err-n
unfolding made_in
returns-in_err-n c = λ s e.
    let fr = frame_view c.args.frame.now in
    let w = world_view c.args.world.now in
    let v = world_view c.make.new.self in
    let q = reference_view c.args.q in
    let cells = map value_view c.args.cells in
    let o = new_object q cells fr in
    made_err s.heap o w v (λ n w. with_moved is_loose (m.inside n) (flat_map objects_in cells) w (λ w. goes (with_var c.args.x.0 (Some (m.one (m.reference n))) (with_key q.key n fr)) w))
    c.make.result c.in_err-n.field-0.0 c.from_residual-in_err-n.result fr
    (err_is c.from_residual-in_err-n.result _ c.from_residual-in_err-n.ensures.1) c.in_err-n.was
    (subst (λ h. MakesObject h o w c.make.result v) (sym e) c.make.ensures)

pub returns-in_err-move_all : goal.returns-in_err-move_all
unfolding made_in
returns-in_err-move_all c = λ s e.
    let fr = frame_view c.args.frame.now in
    let w = world_view c.args.world.now in
    let v = world_view c.make.new.self in
    let u = world_view c.move_all.new.self in
    let q = reference_view c.args.q in
    let cells = map value_view c.args.cells in
    let o = new_object q cells fr in
    let n = c.in_ok-n.n in
    let ns : c.as_slice-2.result.now ≡ flat_map objects_in cells = c.as_slice-2.ensures ∙ (c.in_ok-ns.ensures ∙ ap (λ l. flat_map objects_in (map value_view l)) c.as_slice.ensures) in
    same_goes _ _ c.from_residual-in_err-move_all.result fr u
    (made_ok s.heap o w v (λ n w. with_moved is_loose (m.inside n) (flat_map objects_in cells) w (λ w. goes (with_var c.args.x.0 (Some (m.one (m.reference n))) (with_key q.key n fr)) w))
    c.make.result n c.in_ok-n.was (subst (λ h. MakesObject h o w c.make.result v) (sym e) c.make.ensures))
    (moved_err is_loose (m.inside n) (flat_map objects_in cells) v u _ (objects_view c.move_all.new.self.objects.items) c.in_err-move_all.field-0.0 c.from_residual-in_err-move_all.result fr
    (err_is c.from_residual-in_err-move_all.result _ c.from_residual-in_err-move_all.ensures.1)
    (rw ns at c.in_err-move_all.ensures.err) c.move_all.ensures.world)

pub returns-in_err-set_key : goal.returns-in_err-set_key
returns-in_err-set_key c = λ s e. no_memory _ _ _ _ (err_is c.from_residual-in_err-set_key.result Memory c.from_residual-in_err-set_key.ensures.1)

pub returns-in_err-set_var : goal.returns-in_err-set_var
returns-in_err-set_var c = λ s e. no_memory _ _ _ _ (err_is c.from_residual-in_err-set_var.result Memory c.from_residual-in_err-set_var.ensures.1)

pub returns : goal.returns
unfolding made_in
returns c = λ s e.
    let fr = frame_view c.args.frame.now in
    let w = world_view c.args.world.now in
    let v = world_view c.make.new.self in
    let u = world_view c.move_all.new.self in
    let q = reference_view c.args.q in
    let cells = map value_view c.args.cells in
    let o = new_object q cells fr in
    let n = c.in_ok-n.n in
    let ns : c.as_slice-2.result.now ≡ flat_map objects_in cells = c.as_slice-2.ensures ∙ (c.in_ok-ns.ensures ∙ ap (λ l. flat_map objects_in (map value_view l)) c.as_slice.ensures) in
    made_ok s.heap o w v (λ n w. with_moved is_loose (m.inside n) (flat_map objects_in cells) w (λ w. goes (with_var c.args.x.0 (Some (m.one (m.reference n))) (with_key q.key n fr)) w))
    c.make.result n c.in_ok-n.was (subst (λ h. MakesObject h o w c.make.result v) (sym e) c.make.ensures)
    ∙ (moved_ok is_loose (m.inside n) (flat_map objects_in cells) v u _ (objects_view c.move_all.new.self.objects.items) (rw ns at c.in_ok-move_all.ensures.ok) c.move_all.ensures.world
    ∙ ap (λ f. goes f u) (sym (c.in_ok-set_var.ensures ∙ ap (with_var c.args.x.0 (Some (m.one (m.reference n)))) c.in_ok-set_key.ensures)))
