use Rattle.std.proofs.Common.{rules, ◌≡◌, true, false, Some, None, sym, ap, ◌∙◌}
use Rattle.std.specs.List.{list_all}
use Rattle.std.specs.Result.{is_ok}
use Rattle.vlt_meaning.specs.World as m
use Rattle.vlt_meaning.specs.World.{is_loose, is_inside, objects_in}
use Rattle.vlt_meaning.specs.Objects.{with_cell, owned_at}
use Rattle.vlt_meaning.specs.Step.{Step, goes, with_moved, with_var, with_changed}
use Rattle.vlt_meaning.specs.Run.{swap_step}
use Rattle.vlt_trace_worlds.specs.View.{value_view, objects_view, frame_view, world_view}
use Rattle.vlt_trace_worlds.specs.declared.stops.Halt.TheVariants.{Memory}
use Rattle.vlt_trace_steps.proofs.Leading.{err_is, no_memory, same_goes, so, not_so}
use Rattle.vlt_trace_steps.proofs.Making.{moved_ok, moved_err}
use Rattle.vlt_trace_steps.proofs.objects.swap_values.Goals as goal

pub returns-in_err-out : goal.returns-in_err-out
returns-in_err-out c = λ o. no_memory _ _ _ _ (err_is c.from_residual.result Memory c.from_residual.ensures.1)

pub returns-in_err-into : goal.returns-in_err-into
returns-in_err-into c = λ o. no_memory _ _ _ _ (err_is c.from_residual-in_err-into.result Memory c.from_residual-in_err-into.ensures.1)

pub returns-then-not-are_loose : goal.returns-then-not-are_loose
unfolding swap_step
returns-then-not-are_loose c = λ o.
    let w = world_view c.args.world.now in
    let new = value_view c.args.new in
    let e : c.as_slice.result.now ≡ objects_in new = c.as_slice.ensures ∙ c.in_ok-into.ensures in
    let no : c.are_loose.result ≡ false = search rules in
    let loose : list_all (λ n. is_ok (owned_at is_loose w.objects n)) (objects_in new) ≡ false = sym (rw (c.deref.ensures.value, e) at c.are_loose.ensures) ∙ no in
    not_so (list_all (λ n. is_ok (owned_at is_loose w.objects n)) (objects_in new)) m.not_owned None w _ loose

pub returns-in_err-move_all : goal.returns-in_err-move_all
unfolding swap_step
returns-in_err-move_all c = λ o.
    let fr = frame_view c.args.frame.now in
    let w = world_view c.args.world.now in
    let v = world_view c.move_all.new.self in
    let n = c.args.n in
    let old = value_view c.args.old in
    let new = value_view c.args.new in
    let go : m.World → Step = λ w. with_moved is_loose (m.inside n) (objects_in new) w (λ w. goes (with_var c.args.v.0 (Some old) fr) (with_changed w n (with_cell c.args.i new))) in
    let e : c.as_slice.result.now ≡ objects_in new = c.as_slice.ensures ∙ c.in_ok-into.ensures in
    let d : c.as_slice-2.result.now ≡ objects_in old = c.as_slice-2.ensures ∙ c.in_ok-out.ensures in
    let yes : c.are_loose.result ≡ true = search rules in
    let loose : list_all (λ n. is_ok (owned_at is_loose w.objects n)) (objects_in new) ≡ true = sym (rw (c.deref.ensures.value, e) at c.are_loose.ensures) ∙ yes in
    same_goes _ _ c.from_residual-in_err-move_all.result fr v (so _ m.not_owned None w (λ w. with_moved (is_inside n) m.loose (objects_in old) w go) loose)
    (moved_err (is_inside n) m.loose (objects_in old) w v go (objects_view c.move_all.new.self.objects.items) c.in_err-move_all.field-0.0 c.from_residual-in_err-move_all.result fr
    (err_is c.from_residual-in_err-move_all.result _ c.from_residual-in_err-move_all.ensures.1) (rw d at c.in_err-move_all.ensures.err) c.move_all.ensures.world)

pub returns-in_err-move_all-2 : goal.returns-in_err-move_all-2
unfolding swap_step
returns-in_err-move_all-2 c = λ o.
    let fr = frame_view c.args.frame.now in
    let w = world_view c.args.world.now in
    let v = world_view c.move_all.new.self in
    let u = world_view c.move_all-2.new.self in
    let n = c.args.n in
    let old = value_view c.args.old in
    let new = value_view c.args.new in
    let last : m.World → Step = λ w. goes (with_var c.args.v.0 (Some old) fr) (with_changed w n (with_cell c.args.i new)) in
    let go : m.World → Step = λ w. with_moved is_loose (m.inside n) (objects_in new) w last in
    let e : c.as_slice.result.now ≡ objects_in new = c.as_slice.ensures ∙ c.in_ok-into.ensures in
    let d : c.as_slice-2.result.now ≡ objects_in old = c.as_slice-2.ensures ∙ c.in_ok-out.ensures in
    let f : c.as_slice-3.result.now ≡ objects_in new = c.as_slice-3.ensures ∙ c.in_ok-into.ensures in
    let yes : c.are_loose.result ≡ true = search rules in
    let loose : list_all (λ n. is_ok (owned_at is_loose w.objects n)) (objects_in new) ≡ true = sym (rw (c.deref.ensures.value, e) at c.are_loose.ensures) ∙ yes in
    same_goes _ _ c.from_residual-in_err-move_all-2.result fr u
    (so _ m.not_owned None w (λ w. with_moved (is_inside n) m.loose (objects_in old) w go) loose
    ∙ moved_ok (is_inside n) m.loose (objects_in old) w v go (objects_view c.move_all.new.self.objects.items) (rw d at c.in_ok-move_all.ensures.ok) c.move_all.ensures.world)
    (moved_err is_loose (m.inside n) (objects_in new) v u last (objects_view c.move_all-2.new.self.objects.items) c.in_err-move_all-2.field-0.0 c.from_residual-in_err-move_all-2.result fr
    (err_is c.from_residual-in_err-move_all-2.result _ c.from_residual-in_err-move_all-2.ensures.1) (rw f at c.in_err-move_all-2.ensures.err) c.move_all-2.ensures.world)

pub returns-in_err-set_var : goal.returns-in_err-set_var
returns-in_err-set_var c = λ o. no_memory _ _ _ _ (err_is c.from_residual-in_err-set_var.result Memory c.from_residual-in_err-set_var.ensures.1)

pub returns : goal.returns
unfolding swap_step
returns c = λ o.
    let fr = frame_view c.args.frame.now in
    let w = world_view c.args.world.now in
    let v = world_view c.move_all.new.self in
    let u = world_view c.move_all-2.new.self in
    let n = c.args.n in
    let old = value_view c.args.old in
    let new = value_view c.args.new in
    let last : m.World → Step = λ w. goes (with_var c.args.v.0 (Some old) fr) (with_changed w n (with_cell c.args.i new)) in
    let go : m.World → Step = λ w. with_moved is_loose (m.inside n) (objects_in new) w last in
    let e : c.as_slice.result.now ≡ objects_in new = c.as_slice.ensures ∙ c.in_ok-into.ensures in
    let d : c.as_slice-2.result.now ≡ objects_in old = c.as_slice-2.ensures ∙ c.in_ok-out.ensures in
    let f : c.as_slice-3.result.now ≡ objects_in new = c.as_slice-3.ensures ∙ c.in_ok-into.ensures in
    let yes : c.are_loose.result ≡ true = search rules in
    let loose : list_all (λ n. is_ok (owned_at is_loose w.objects n)) (objects_in new) ≡ true = sym (rw (c.deref.ensures.value, e) at c.are_loose.ensures) ∙ yes in
    so _ m.not_owned None w (λ w. with_moved (is_inside n) m.loose (objects_in old) w go) loose
    ∙ (moved_ok (is_inside n) m.loose (objects_in old) w v go (objects_view c.move_all.new.self.objects.items) (rw d at c.in_ok-move_all.ensures.ok) c.move_all.ensures.world
    ∙ (moved_ok is_loose (m.inside n) (objects_in new) v u last (objects_view c.move_all-2.new.self.objects.items) (rw f at c.in_ok-move_all-2.ensures.ok) c.move_all-2.ensures.world
    ∙ (ap (goes (with_var c.args.v.0 (Some old) fr)) (sym c.set_cell.ensures) ∙ ap (λ g. goes g (world_view c.set_cell.new.self)) (sym c.in_ok-set_var.ensures))))
