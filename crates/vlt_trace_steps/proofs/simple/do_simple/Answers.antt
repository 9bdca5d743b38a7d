use Rattle.std.proofs.Common.{map, sym, ap, ◌∙◌}
use Rattle.vlt_core.specs.Core as core
use Rattle.vlt_core.specs.View.{form_of, expr_of, operand_of, vars_of}
use Rattle.vlt_core.proofs.Views.{set_form, input_form, print_form, put_form, new_form, become_form, release_form, drop_form, own_form, unpack_form, build_form, swap_form, open_form, adopt_form}
use Rattle.vlt_trace_steps.proofs.Doing.{does_as}
use Rattle.vlt_trace_steps.proofs.simple.do_simple.Goals as goal

pub returns-in-Set : goal.returns-in-Set
returns-in-Set c =
    does_as c.args.at.now c.args.heap (form_of c.args.form.now) (core.set c.in-Set.v.0 (expr_of c.in-Set.e)) c.args.frame.now c.args.world.now c.set.result c.set.new.frame c.args.world.now
    (set_form c.args.form.now c.in-Set.v c.in-Set.e c.in-Set.is)
    (c.set.ensures c.args.heap)

pub returns-in-Input : goal.returns-in-Input
returns-in-Input c =
    does_as c.args.at.now c.args.heap (form_of c.args.form.now) (core.input c.in-Input.v.0 c.in-Input.more) c.args.frame.now c.args.world.now c.input.result c.input.new.frame c.input.new.world
    (input_form c.args.form.now c.in-Input.v c.in-Input.more c.in-Input.is)
    (c.input.ensures c.args.at.now c.args.heap)

pub returns-in-Print : goal.returns-in-Print
returns-in-Print c =
    does_as c.args.at.now c.args.heap (form_of c.args.form.now) (core.print (expr_of c.in-Print.e)) c.args.frame.now c.args.world.now c.print.result c.args.frame.now c.print.new.world
    (print_form c.args.form.now c.in-Print.e c.in-Print.is)
    (c.print.ensures c.args.heap)

pub returns-in-Put : goal.returns-in-Put
returns-in-Put c =
    does_as c.args.at.now c.args.heap (form_of c.args.form.now) (core.put c.in-Put.x.0 c.in-Put.field (expr_of c.in-Put.e)) c.args.frame.now c.args.world.now c.put.result c.args.frame.now c.put.new.world
    (put_form c.args.form.now c.in-Put.x c.in-Put.field c.in-Put.e c.in-Put.is)
    (c.put.ensures c.args.heap)

pub returns-in-New : goal.returns-in-New
returns-in-New c =
    does_as c.args.at.now c.args.heap (form_of c.args.form.now) (core.make c.in-New.x.0 (map operand_of c.as_slice.result.now)) c.args.frame.now c.args.world.now c.make.result c.make.new.frame c.make.new.world
    (new_form c.args.form.now c.in-New.x c.in-New.args c.in-New.is ∙ ap (λ xs. core.simple (core.make c.in-New.x.0 (map operand_of xs))) (sym c.as_slice.ensures))
    c.make.ensures

pub returns-in-Become : goal.returns-in-Become
returns-in-Become c =
    does_as c.args.at.now c.args.heap (form_of c.args.form.now) (core.become c.in-Become.x.0 c.in-Become.state) c.args.frame.now c.args.world.now c.become_state.result c.args.frame.now c.become_state.new.world
    (become_form c.args.form.now c.in-Become.x c.in-Become.state c.in-Become.is)
    (c.become_state.ensures c.args.heap)

pub returns-in-Release : goal.returns-in-Release
returns-in-Release c =
    does_as c.args.at.now c.args.heap (form_of c.args.form.now) (core.release c.in-Release.x.0) c.args.frame.now c.args.world.now c.release.result c.args.frame.now c.release.new.world
    (release_form c.args.form.now c.in-Release.x c.in-Release.is)
    (c.release.ensures c.args.heap)

pub returns-in-Drop : goal.returns-in-Drop
returns-in-Drop c =
    does_as c.args.at.now c.args.heap (form_of c.args.form.now) (core.drop c.in-Drop.v.0) c.args.frame.now c.args.world.now c.drop_value.result c.drop_value.new.frame c.drop_value.new.world
    (drop_form c.args.form.now c.in-Drop.v c.in-Drop.is)
    (c.drop_value.ensures c.args.heap)

pub returns-in-Own : goal.returns-in-Own
returns-in-Own c =
    does_as c.args.at.now c.args.heap (form_of c.args.form.now) (core.own c.in-Own.v.0 (operand_of c.in-Own.value)) c.args.frame.now c.args.world.now c.own.result c.own.new.frame c.own.new.world
    (own_form c.args.form.now c.in-Own.v c.in-Own.value c.in-Own.is)
    (c.own.ensures c.args.heap)

pub returns-in-Unpack : goal.returns-in-Unpack
returns-in-Unpack c =
    does_as c.args.at.now c.args.heap (form_of c.args.form.now) (core.unpack c.in-Unpack.x.0 c.in-Unpack.v.0) c.args.frame.now c.args.world.now c.unpack.result c.unpack.new.frame c.unpack.new.world
    (unpack_form c.args.form.now c.in-Unpack.x c.in-Unpack.v c.in-Unpack.is)
    (c.unpack.ensures c.args.heap)

pub returns-in-Build : goal.returns-in-Build
returns-in-Build c =
    does_as c.args.at.now c.args.heap (form_of c.args.form.now) (core.build c.in-Build.v.0 c.in-Build.case (map operand_of c.as_slice-in-Build.result.now)) c.args.frame.now c.args.world.now c.build.result c.build.new.frame c.build.new.world
    (build_form c.args.form.now c.in-Build.v c.in-Build.case c.in-Build.args c.in-Build.is ∙ ap (λ xs. core.simple (core.build c.in-Build.v.0 c.in-Build.case (map operand_of xs))) (sym c.as_slice-in-Build.ensures))
    (c.build.ensures c.args.heap)

pub returns-in-Swap : goal.returns-in-Swap
returns-in-Swap c =
    does_as c.args.at.now c.args.heap (form_of c.args.form.now) (core.swap c.in-Swap.x.0 c.in-Swap.field c.in-Swap.v.0) c.args.frame.now c.args.world.now c.swap.result c.swap.new.frame c.swap.new.world
    (swap_form c.args.form.now c.in-Swap.x c.in-Swap.field c.in-Swap.v c.in-Swap.is)
    (c.swap.ensures c.args.heap)

pub returns-in-Open : goal.returns-in-Open
returns-in-Open c =
    does_as c.args.at.now c.args.heap (form_of c.args.form.now) (core.open_into c.in-Open.x.0 (vars_of c.as_slice-in-Open.result.now)) c.args.frame.now c.args.world.now c.open_into.result c.open_into.new.frame c.open_into.new.world
    (open_form c.args.form.now c.in-Open.x c.in-Open.into c.in-Open.is ∙ ap (λ xs. core.simple (core.open_into c.in-Open.x.0 (vars_of xs))) (sym c.as_slice-in-Open.ensures))
    (c.open_into.ensures c.args.heap)

pub returns-in-Adopt : goal.returns-in-Adopt
returns-in-Adopt c =
    does_as c.args.at.now c.args.heap (form_of c.args.form.now) (core.adopt c.in-Adopt.y.0 c.in-Adopt.x.0 c.in-Adopt.r.0) c.args.frame.now c.args.world.now c.adopt.result c.adopt.new.frame c.adopt.new.world
    (adopt_form c.args.form.now c.in-Adopt.y c.in-Adopt.x c.in-Adopt.r c.in-Adopt.is)
    (c.adopt.ensures c.args.heap)
