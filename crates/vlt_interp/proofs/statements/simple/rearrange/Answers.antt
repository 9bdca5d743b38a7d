use Rattle.std.proofs.Common.{None, Ok, refl, sym, ap, ◌∙◌, arith}
use Rattle.vlt_core.specs.Core as core
use Rattle.vlt_core.specs.View.{form_of, program_of, func_of, vars_of}
use Rattle.vlt_core.proofs.Views.{become_form, release_form, drop_form, unpack_form, swap_form, open_form, adopt_form}
use Rattle.vlt_interp.proofs.OfStatements.Asking.{can_at, can_table, can_var, can_vars, can_key, right_act, right_in, room_one, few_fields}
use Rattle.vlt_interp.proofs.OfStatements.Acting.{does_here, does_in, same_frame, trap_does}
use Rattle.vlt_interp.proofs.statements.simple.rearrange.Goals as goal

pub become_state-requires-clause-sound : goal.become_state-requires-clause-sound
become_state-requires-clause-sound c = c.requires.can.ready.room.heap

pub become_state-requires-clause-table : goal.become_state-requires-clause-table
become_state-requires-clause-table c = can_table (form_of c.args.form.now) c.args.rules.now c.args.run.now c.requires.can

pub become_state-requires-clause-right : goal.become_state-requires-clause-right
become_state-requires-clause-right c = right_act (core.become c.in-Become.x.0 c.in-Become.state) c.args.rules.now c.args.run.now (can_at (form_of c.args.form.now) (core.simple (core.become c.in-Become.x.0 c.in-Become.state)) c.args.rules.now c.args.run.now (become_form c.args.form.now c.in-Become.x c.in-Become.state c.in-Become.is) c.requires.can)

pub returns-in-Become : goal.returns-in-Become
returns-in-Become c =
    λ b. trap_does c.args.rules.now c.args.run.now (record c.args.run.now { heap = c.become_state.new.heap }) (form_of c.args.form.now) (core.become c.in-Become.x.0 c.in-Become.state) (become_form c.args.form.now c.in-Become.x c.in-Become.state c.in-Become.is) (record { same = record { func = refl; tasks = refl; at = refl; depth = refl; frame = same_frame c.args.run.now.values }; fuel = refl; sound = c.become_state.ensures.sound; size = c.become_state.ensures.size; line = omega arith })
    tt refl (Ok tt) (does_here (program_of c.args.rules.now.program.now) (func_of c.args.run.now.func.now) c.args.run.now.heap c.args.run.now.values c.become_state.new.heap c.args.run.now.values (Ok tt) (core.become c.in-Become.x.0 c.in-Become.state) c.become_state.ensures.does) b None refl

pub release-requires-clause-sound : goal.release-requires-clause-sound
release-requires-clause-sound c = c.requires.can.ready.room.heap

pub release-requires-clause-table : goal.release-requires-clause-table
release-requires-clause-table c = can_table (form_of c.args.form.now) c.args.rules.now c.args.run.now c.requires.can

pub release-requires-clause-right : goal.release-requires-clause-right
release-requires-clause-right c = right_act (core.release c.in-Release.x.0) c.args.rules.now c.args.run.now (can_at (form_of c.args.form.now) (core.simple (core.release c.in-Release.x.0)) c.args.rules.now c.args.run.now (release_form c.args.form.now c.in-Release.x c.in-Release.is) c.requires.can)

pub returns-in-Release : goal.returns-in-Release
returns-in-Release c =
    λ b. trap_does c.args.rules.now c.args.run.now (record c.args.run.now { heap = c.release.new.heap }) (form_of c.args.form.now) (core.release c.in-Release.x.0) (release_form c.args.form.now c.in-Release.x c.in-Release.is) (record { same = record { func = refl; tasks = refl; at = refl; depth = refl; frame = same_frame c.args.run.now.values }; fuel = refl; sound = c.release.ensures.sound; size = c.release.ensures.size; line = omega arith })
    tt refl (Ok tt) (does_here (program_of c.args.rules.now.program.now) (func_of c.args.run.now.func.now) c.args.run.now.heap c.args.run.now.values c.release.new.heap c.args.run.now.values (Ok tt) (core.release c.in-Release.x.0) c.release.ensures.does) b None refl

pub drop_value-requires-clause-sound : goal.drop_value-requires-clause-sound
drop_value-requires-clause-sound c = c.requires.can.ready.room.heap

pub drop_value-requires-clause-table : goal.drop_value-requires-clause-table
drop_value-requires-clause-table c = can_table (form_of c.args.form.now) c.args.rules.now c.args.run.now c.requires.can

pub drop_value-requires-clause-within : goal.drop_value-requires-clause-within
drop_value-requires-clause-within c = can_var (form_of c.args.form.now) c.args.rules.now c.args.run.now c.requires.can c.in-Drop.v.0 (can_at (form_of c.args.form.now) (core.simple (core.drop c.in-Drop.v.0)) c.args.rules.now c.args.run.now (drop_form c.args.form.now c.in-Drop.v c.in-Drop.is) c.requires.can).own

pub drop_value-requires-clause-right : goal.drop_value-requires-clause-right
drop_value-requires-clause-right c = right_act (core.drop c.in-Drop.v.0) c.args.rules.now c.args.run.now (can_at (form_of c.args.form.now) (core.simple (core.drop c.in-Drop.v.0)) c.args.rules.now c.args.run.now (drop_form c.args.form.now c.in-Drop.v c.in-Drop.is) c.requires.can)

pub returns-in-Drop : goal.returns-in-Drop
returns-in-Drop c =
    λ b. trap_does c.args.rules.now c.args.run.now (record c.args.run.now { heap = c.drop_value.new.heap }) (form_of c.args.form.now) (core.drop c.in-Drop.v.0) (drop_form c.args.form.now c.in-Drop.v c.in-Drop.is) (record { same = record { func = refl; tasks = refl; at = refl; depth = refl; frame = same_frame c.args.run.now.values }; fuel = refl; sound = c.drop_value.ensures.sound; size = c.drop_value.ensures.size; line = omega arith })
    tt refl (Ok tt) (does_here (program_of c.args.rules.now.program.now) (func_of c.args.run.now.func.now) c.args.run.now.heap c.args.run.now.values c.drop_value.new.heap c.args.run.now.values (Ok tt) (core.drop c.in-Drop.v.0) c.drop_value.ensures.does) b None refl

pub unpack-requires-clause-table : goal.unpack-requires-clause-table
unpack-requires-clause-table c = can_table (form_of c.args.form.now) c.args.rules.now c.args.run.now c.requires.can

pub unpack-requires-clause-wide : goal.unpack-requires-clause-wide
unpack-requires-clause-wide c = c.requires.can.ready.room.wide.some

pub unpack-requires-clause-within : goal.unpack-requires-clause-within
unpack-requires-clause-within c = can_var (form_of c.args.form.now) c.args.rules.now c.args.run.now c.requires.can c.in-Unpack.x.0 (can_at (form_of c.args.form.now) (core.simple (core.unpack c.in-Unpack.x.0 c.in-Unpack.v.0)) c.args.rules.now c.args.run.now (unpack_form c.args.form.now c.in-Unpack.x c.in-Unpack.v c.in-Unpack.is) c.requires.can).own

pub unpack-requires-clause-key : goal.unpack-requires-clause-key
unpack-requires-clause-key c = can_key (form_of c.args.form.now) c.args.rules.now c.args.run.now c.requires.can c.in-Unpack.x.0

pub returns-in-Unpack : goal.returns-in-Unpack
returns-in-Unpack c =
    λ b. trap_does c.args.rules.now c.args.run.now (record c.args.run.now { values = c.unpack.new.values }) (form_of c.args.form.now) (core.unpack c.in-Unpack.x.0 c.in-Unpack.v.0) (unpack_form c.args.form.now c.in-Unpack.x c.in-Unpack.v c.in-Unpack.is) (record { same = record { func = refl; tasks = refl; at = refl; depth = refl; frame = c.unpack.ensures.same }; fuel = refl; sound = c.requires.can.ready.room.heap; size = record { heap = refl; slots = refl }; line = omega arith })
    tt refl (Ok tt) (does_in (program_of c.args.rules.now.program.now) (func_of c.args.run.now.func.now) c.args.run.now.heap c.args.run.now.values c.unpack.new.values (core.unpack c.in-Unpack.x.0 c.in-Unpack.v.0) c.unpack.ensures.does) b None refl

pub swap-requires-clause-sound : goal.swap-requires-clause-sound
swap-requires-clause-sound c = c.requires.can.ready.room.heap

pub swap-requires-clause-table : goal.swap-requires-clause-table
swap-requires-clause-table c = can_table (form_of c.args.form.now) c.args.rules.now c.args.run.now c.requires.can

pub swap-requires-clause-wide : goal.swap-requires-clause-wide
swap-requires-clause-wide c = c.requires.can.ready.room.wide.some

pub swap-requires-clause-within : goal.swap-requires-clause-within
swap-requires-clause-within c = can_var (form_of c.args.form.now) c.args.rules.now c.args.run.now c.requires.can c.in-Swap.v.0 (can_at (form_of c.args.form.now) (core.simple (core.swap c.in-Swap.x.0 c.in-Swap.field c.in-Swap.v.0)) c.args.rules.now c.args.run.now (swap_form c.args.form.now c.in-Swap.x c.in-Swap.field c.in-Swap.v c.in-Swap.is) c.requires.can).own

pub swap-requires-clause-room : goal.swap-requires-clause-room
swap-requires-clause-room c = room_one (form_of c.args.form.now) c.args.rules.now c.args.run.now c.requires.can

pub swap-requires-clause-right : goal.swap-requires-clause-right
swap-requires-clause-right c = right_act (core.swap c.in-Swap.x.0 c.in-Swap.field c.in-Swap.v.0) c.args.rules.now c.args.run.now (can_at (form_of c.args.form.now) (core.simple (core.swap c.in-Swap.x.0 c.in-Swap.field c.in-Swap.v.0)) c.args.rules.now c.args.run.now (swap_form c.args.form.now c.in-Swap.x c.in-Swap.field c.in-Swap.v c.in-Swap.is) c.requires.can)

pub returns-in-Swap : goal.returns-in-Swap
returns-in-Swap c =
    λ b. trap_does c.args.rules.now c.args.run.now (record c.args.run.now { values = c.swap.new.values; heap = c.swap.new.heap }) (form_of c.args.form.now) (core.swap c.in-Swap.x.0 c.in-Swap.field c.in-Swap.v.0) (swap_form c.args.form.now c.in-Swap.x c.in-Swap.field c.in-Swap.v c.in-Swap.is) (record { same = record { func = refl; tasks = refl; at = refl; depth = refl; frame = c.swap.ensures.same }; fuel = refl; sound = c.swap.ensures.sound; size = c.swap.ensures.size; line = omega arith })
    tt refl (Ok tt) (does_here (program_of c.args.rules.now.program.now) (func_of c.args.run.now.func.now) c.args.run.now.heap c.args.run.now.values c.swap.new.heap c.swap.new.values (Ok tt) (core.swap c.in-Swap.x.0 c.in-Swap.field c.in-Swap.v.0) c.swap.ensures.does) b None refl

pub open_into-requires-clause-sound : goal.open_into-requires-clause-sound
open_into-requires-clause-sound c = c.requires.can.ready.room.heap

pub open_into-requires-clause-table : goal.open_into-requires-clause-table
open_into-requires-clause-table c = can_table (form_of c.args.form.now) c.args.rules.now c.args.run.now c.requires.can

pub open_into-requires-clause-within : goal.open_into-requires-clause-within
open_into-requires-clause-within c = can_vars (form_of c.args.form.now) c.args.rules.now c.args.run.now c.requires.can c.as_slice.result.now (can_at (form_of c.args.form.now) (core.simple (core.open_into c.in-Open.x.0 (vars_of c.as_slice.result.now))) c.args.rules.now c.args.run.now (open_form c.args.form.now c.in-Open.x c.in-Open.into c.in-Open.is ∙ ap (λ l. core.simple (core.open_into c.in-Open.x.0 (vars_of l))) (sym c.as_slice.ensures)) c.requires.can).own

pub open_into-requires-clause-few : goal.open_into-requires-clause-few
open_into-requires-clause-few c = few_fields (form_of c.args.form.now) c.args.rules.now c.args.run.now c.requires.can c.in-Open.x.0

pub open_into-requires-clause-right : goal.open_into-requires-clause-right
open_into-requires-clause-right c = right_in (core.open_into c.in-Open.x.0 (vars_of c.as_slice.result.now)) c.args.rules.now c.args.run.now (can_at (form_of c.args.form.now) (core.simple (core.open_into c.in-Open.x.0 (vars_of c.as_slice.result.now))) c.args.rules.now c.args.run.now (open_form c.args.form.now c.in-Open.x c.in-Open.into c.in-Open.is ∙ ap (λ l. core.simple (core.open_into c.in-Open.x.0 (vars_of l))) (sym c.as_slice.ensures)) c.requires.can)

pub returns-in-Open : goal.returns-in-Open
returns-in-Open c =
    λ b. trap_does c.args.rules.now c.args.run.now (record c.args.run.now { values = c.open_into.new.values; heap = c.open_into.new.heap }) (form_of c.args.form.now) (core.open_into c.in-Open.x.0 (vars_of c.as_slice.result.now)) (open_form c.args.form.now c.in-Open.x c.in-Open.into c.in-Open.is ∙ ap (λ l. core.simple (core.open_into c.in-Open.x.0 (vars_of l))) (sym c.as_slice.ensures)) (record { same = record { func = refl; tasks = refl; at = refl; depth = refl; frame = c.open_into.ensures.same }; fuel = refl; sound = c.open_into.ensures.sound; size = c.open_into.ensures.size; line = omega arith })
    tt refl (Ok tt) c.open_into.ensures.does b None refl

pub adopt-requires-clause-sound : goal.adopt-requires-clause-sound
adopt-requires-clause-sound c = c.requires.can.ready.room.heap

pub adopt-requires-clause-table : goal.adopt-requires-clause-table
adopt-requires-clause-table c = can_table (form_of c.args.form.now) c.args.rules.now c.args.run.now c.requires.can

pub adopt-requires-clause-wide : goal.adopt-requires-clause-wide
adopt-requires-clause-wide c = c.requires.can.ready.room.wide.some

pub adopt-requires-clause-within : goal.adopt-requires-clause-within
adopt-requires-clause-within c = can_var (form_of c.args.form.now) c.args.rules.now c.args.run.now c.requires.can c.in-Adopt.y.0 (can_at (form_of c.args.form.now) (core.simple (core.adopt c.in-Adopt.y.0 c.in-Adopt.x.0 c.in-Adopt.r.0)) c.args.rules.now c.args.run.now (adopt_form c.args.form.now c.in-Adopt.y c.in-Adopt.x c.in-Adopt.r c.in-Adopt.is) c.requires.can).own

pub adopt-requires-clause-right : goal.adopt-requires-clause-right
adopt-requires-clause-right c = right_act (core.adopt c.in-Adopt.y.0 c.in-Adopt.x.0 c.in-Adopt.r.0) c.args.rules.now c.args.run.now (can_at (form_of c.args.form.now) (core.simple (core.adopt c.in-Adopt.y.0 c.in-Adopt.x.0 c.in-Adopt.r.0)) c.args.rules.now c.args.run.now (adopt_form c.args.form.now c.in-Adopt.y c.in-Adopt.x c.in-Adopt.r c.in-Adopt.is) c.requires.can)

pub returns-in-Adopt : goal.returns-in-Adopt
returns-in-Adopt c =
    λ b. trap_does c.args.rules.now c.args.run.now (record c.args.run.now { values = c.adopt.new.values; heap = c.adopt.new.heap }) (form_of c.args.form.now) (core.adopt c.in-Adopt.y.0 c.in-Adopt.x.0 c.in-Adopt.r.0) (adopt_form c.args.form.now c.in-Adopt.y c.in-Adopt.x c.in-Adopt.r c.in-Adopt.is) (record { same = record { func = refl; tasks = refl; at = refl; depth = refl; frame = c.adopt.ensures.same }; fuel = refl; sound = c.adopt.ensures.sound; size = c.adopt.ensures.size; line = omega arith })
    tt refl (Ok tt) (does_here (program_of c.args.rules.now.program.now) (func_of c.args.run.now.func.now) c.args.run.now.heap c.args.run.now.values c.adopt.new.heap c.adopt.new.values (Ok tt) (core.adopt c.in-Adopt.y.0 c.in-Adopt.x.0 c.in-Adopt.r.0) c.adopt.ensures.does) b None refl
