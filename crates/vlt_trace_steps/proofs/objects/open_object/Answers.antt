use Rattle.std.proofs.Common.{◌≡◌, map, ap, ◌∙◌}
use Rattle.std.specs.List.{flat_map}
use Rattle.vlt_core.specs.View.{vars_of}
use Rattle.vlt_meaning.specs.World as m
use Rattle.vlt_meaning.specs.World.{is_inside, objects_in}
use Rattle.vlt_meaning.specs.Step.{Step, goes, with_released, with_filled}
use Rattle.vlt_meaning.specs.Run.{open_step}
use Rattle.vlt_meaning_laws.specs.Machine.Got.{filled_got}
use Rattle.vlt_meaning_laws.proofs.OfMachine.Gots.{filled_step}
use Rattle.vlt_trace_worlds.specs.View.{value_view, objects_view, frame_view, world_view}
use Rattle.vlt_trace_worlds.specs.Running.{program_in, func_in}
use Rattle.vlt_trace_worlds.specs.declared.stops.Halt.TheVariants.{Memory}
use Rattle.vlt_trace_steps.proofs.Leading.{err_is, no_memory, same_goes, hands_ok, hands_err}
use Rattle.vlt_trace_steps.proofs.Making.{moved_ok, moved_err, released_hands}
use Rattle.vlt_trace_steps.proofs.Filling.{filled_goes}
use Rattle.vlt_trace_steps.proofs.objects.open_object.Goals as goal

pub returns-in_err-ns : goal.returns-in_err-ns
returns-in_err-ns c = λ heap depth. no_memory _ _ _ _ (err_is c.from_residual.result Memory c.from_residual.ensures.1)

pub returns-in_err-move_all : goal.returns-in_err-move_all
unfolding open_step
returns-in_err-move_all c = λ heap depth.
    let fr = frame_view c.args.frame.now in
    let w = world_view c.args.world.now in
    let v = world_view c.move_all.new.self in
    let cells = map value_view c.args.cells in
    let ns : c.as_slice-2.result.now ≡ flat_map objects_in cells = c.as_slice-2.ensures ∙ (c.in_ok-ns.ensures ∙ ap (λ l. flat_map objects_in (map value_view l)) c.as_slice.ensures) in
    moved_err (is_inside c.args.n) m.loose (flat_map objects_in cells) w v _ (objects_view c.move_all.new.self.objects.items) c.in_err-move_all.field-0.0 c.from_residual-in_err-move_all.result fr
    (err_is c.from_residual-in_err-move_all.result _ c.from_residual-in_err-move_all.ensures.1)
    (rw ns at c.in_err-move_all.ensures.err) c.move_all.ensures.world

pub returns-in_err-release : goal.returns-in_err-release
unfolding open_step
returns-in_err-release c = λ heap depth.
    let p = program_in c.args.at.now in
    let f = func_in c.args.at.now in
    let fr = frame_view c.args.frame.now in
    let w = world_view c.args.world.now in
    let v = world_view c.move_all.new.self in
    let u = world_view c.release.new.self in
    let cells = map value_view c.args.cells in
    let go : m.World → Step = λ w. with_filled f (vars_of c.args.vs.now) cells fr w (λ next. goes next w) in
    let ns : c.as_slice-2.result.now ≡ flat_map objects_in cells = c.as_slice-2.ensures ∙ (c.in_ok-ns.ensures ∙ ap (λ l. flat_map objects_in (map value_view l)) c.as_slice.ensures) in
    same_goes _ _ c.from_residual-in_err-release.result fr u
    (moved_ok (is_inside c.args.n) m.loose (flat_map objects_in cells) w v (λ w. with_released p c.args.n w go) (objects_view c.move_all.new.self.objects.items) (rw ns at c.in_ok-move_all.ensures.ok) c.move_all.ensures.world)
    (hands_err (with_released p c.args.n v go) c.release.result c.in_err-release.field-0.0 (λ x. go u) u c.from_residual-in_err-release.result fr
    (err_is c.from_residual-in_err-release.result _ c.from_residual-in_err-release.ensures.1) c.in_err-release.was
    (released_hands p c.args.n v u go c.release.result (objects_view c.release.new.self.objects.items) c.release.ensures.released c.release.ensures.world))

pub returns : goal.returns
unfolding open_step
returns c = λ heap depth.
    let p = program_in c.args.at.now in
    let f = func_in c.args.at.now in
    let fr = frame_view c.args.frame.now in
    let w = world_view c.args.world.now in
    let v = world_view c.move_all.new.self in
    let u = world_view c.release.new.self in
    let cells = map value_view c.args.cells in
    let vs = vars_of c.args.vs.now in
    let go : m.World → Step = λ w. with_filled f vs cells fr w (λ next. goes next w) in
    let ns : c.as_slice-2.result.now ≡ flat_map objects_in cells = c.as_slice-2.ensures ∙ (c.in_ok-ns.ensures ∙ ap (λ l. flat_map objects_in (map value_view l)) c.as_slice.ensures) in
    same_goes _ _ c.fill_all.result (frame_view c.fill_all.new.frame) u
    (moved_ok (is_inside c.args.n) m.loose (flat_map objects_in cells) w v (λ w. with_released p c.args.n w go) (objects_view c.move_all.new.self.objects.items) (rw ns at c.in_ok-move_all.ensures.ok) c.move_all.ensures.world
    ∙ (hands_ok (with_released p c.args.n v go) c.release.result c.in_ok-release.field-0 (λ x. go u) u c.in_ok-release.was
    (released_hands p c.args.n v u go c.release.result (objects_view c.release.new.self.objects.items) c.release.ensures.released c.release.ensures.world)
    ∙ filled_step f vs cells fr u (λ next. goes next u)))
    (filled_goes (filled_got f vs cells fr u) c.fill_all.result (frame_view c.fill_all.new.frame) u (c.fill_all.ensures u))
