use Rattle.std.proofs.Common.{map, length, refl, sym, ap, ◌∙◌, arith}
use Rattle.std.proofs.lemmas.List.{length-map}
use Rattle.vlt_core.specs.Core as core
use Rattle.vlt_core.specs.View.{form_of, program_of, func_of, expr_of, operand_of}
use Rattle.vlt_core.proofs.Views.{set_form, input_form, print_form, put_form, new_form, own_form, build_form}
use Rattle.vlt_interp.proofs.OfStatements.Asking.{can_at, can_table, can_var, can_key, right_act, right_here, room_one, make_room, make_cells, build_room, build_narrow}
use Rattle.vlt_interp.proofs.OfStatements.Acting.{does_here, same_frame, line_same, trap_does, make_does, host_does}
use Rattle.vlt_interp.proofs.statements.simple.do_simple.Goals as goal

pub set-requires-clause-sound : goal.set-requires-clause-sound
set-requires-clause-sound g c = c.requires.can.ready.room.heap

pub set-requires-clause-table : goal.set-requires-clause-table
set-requires-clause-table g c = can_table (form_of c.args.form.now) c.args.rules.now c.args.run.now c.requires.can

pub set-requires-clause-wide : goal.set-requires-clause-wide
set-requires-clause-wide g c = c.requires.can.ready.room.wide.some

pub set-requires-clause-within : goal.set-requires-clause-within
set-requires-clause-within g c = can_var (form_of c.args.form.now) c.args.rules.now c.args.run.now c.requires.can c.in-Set.v.0 (can_at (form_of c.args.form.now) (core.simple (core.set c.in-Set.v.0 (expr_of c.in-Set.e))) c.args.rules.now c.args.run.now (set_form c.args.form.now c.in-Set.v c.in-Set.e c.in-Set.is) c.requires.can).own

pub returns-in-Set : goal.returns-in-Set
returns-in-Set g c =
    trap_does c.args.rules.now c.args.run.now (record c.args.run.now { values = c.set.new.values }) (form_of c.args.form.now) (core.set c.in-Set.v.0 (expr_of c.in-Set.e)) (set_form c.args.form.now c.in-Set.v c.in-Set.e c.in-Set.is) (record { same = record { func = refl; tasks = refl; at = refl; depth = refl; frame = c.set.ensures.same }; fuel = refl; sound = c.requires.can.ready.room.heap; size = record { heap = refl; slots = refl }; line = omega arith })
    tt refl c.set.result (does_here (program_of c.args.rules.now.program.now) (func_of c.args.run.now.func.now) c.args.run.now.heap c.args.run.now.values c.args.run.now.heap c.set.new.values c.set.result (core.set c.in-Set.v.0 (expr_of c.in-Set.e)) c.set.ensures.does) (record { written = g.K.Sink.written c.args.sink.now; faults = g.K.Sink.faults c.args.sink.now }) c.or_trap.result c.or_trap.ensures

pub input-requires-clause-table : goal.input-requires-clause-table
input-requires-clause-table g c = can_table (form_of c.args.form.now) c.args.rules.now c.args.run.now c.requires.can

pub input-requires-clause-wide : goal.input-requires-clause-wide
input-requires-clause-wide g c = c.requires.can.ready.room.wide.some

pub input-requires-clause-within : goal.input-requires-clause-within
input-requires-clause-within g c = can_var (form_of c.args.form.now) c.args.rules.now c.args.run.now c.requires.can c.in-Input.v.0 (can_at (form_of c.args.form.now) (core.simple (core.input c.in-Input.v.0 c.in-Input.more)) c.args.rules.now c.args.run.now (input_form c.args.form.now c.in-Input.v c.in-Input.more c.in-Input.is) c.requires.can).own

pub returns-in-Input : goal.returns-in-Input
returns-in-Input g c =
    host_does c.args.rules.now c.args.run.now (record c.args.run.now { values = c.input.new.values; host = c.input.new.host }) (form_of c.args.form.now) (core.input c.in-Input.v.0 c.in-Input.more) (input_form c.args.form.now c.in-Input.v c.in-Input.more c.in-Input.is) (record { same = record { func = refl; tasks = refl; at = refl; depth = refl; frame = c.input.ensures.same }; fuel = refl; sound = c.requires.can.ready.room.heap; size = record { heap = refl; slots = refl }; line = line_same c.args.run.now.host c.input.new.host c.input.ensures.line })
    refl (record { written = g.K.Sink.written c.args.sink.now; faults = g.K.Sink.faults c.args.sink.now }) (record { written = g.K.Sink.written c.args.sink.now; faults = g.K.Sink.faults c.args.sink.now }) c.input.result (c.input.ensures.does c.args.run.now.heap (record { written = g.K.Sink.written c.args.sink.now; faults = g.K.Sink.faults c.args.sink.now })) c.or_halt.result c.or_halt.ensures

pub print-requires-clause-sound : goal.print-requires-clause-sound
print-requires-clause-sound g c = c.requires.can.ready.room.heap

pub print-requires-clause-table : goal.print-requires-clause-table
print-requires-clause-table g c = can_table (form_of c.args.form.now) c.args.rules.now c.args.run.now c.requires.can

pub returns-in-Print : goal.returns-in-Print
returns-in-Print g c =
    host_does c.args.rules.now c.args.run.now (record c.args.run.now { values = c.args.run.now.values }) (form_of c.args.form.now) (core.print (expr_of c.in-Print.e)) (print_form c.args.form.now c.in-Print.e c.in-Print.is) (record { same = record { func = refl; tasks = refl; at = refl; depth = refl; frame = same_frame c.args.run.now.values }; fuel = refl; sound = c.requires.can.ready.room.heap; size = record { heap = refl; slots = refl }; line = omega arith })
    refl (record { written = g.K.Sink.written c.args.sink.now; faults = g.K.Sink.faults c.args.sink.now }) (record { written = g.K.Sink.written c.print.new.sink; faults = g.K.Sink.faults c.print.new.sink }) c.print.result (c.print.ensures c.args.run.now.host) c.or_halt-in-Print.result c.or_halt-in-Print.ensures

pub put-requires-clause-sound : goal.put-requires-clause-sound
put-requires-clause-sound g c = c.requires.can.ready.room.heap

pub put-requires-clause-table : goal.put-requires-clause-table
put-requires-clause-table g c = can_table (form_of c.args.form.now) c.args.rules.now c.args.run.now c.requires.can

pub put-requires-clause-wide : goal.put-requires-clause-wide
put-requires-clause-wide g c = c.requires.can.ready.room.wide.some

pub put-requires-clause-room : goal.put-requires-clause-room
put-requires-clause-room g c = room_one (form_of c.args.form.now) c.args.rules.now c.args.run.now c.requires.can

pub returns-in-Put : goal.returns-in-Put
returns-in-Put g c =
    trap_does c.args.rules.now c.args.run.now (record c.args.run.now { values = c.put.new.values; heap = c.put.new.heap }) (form_of c.args.form.now) (core.put c.in-Put.x.0 c.in-Put.field (expr_of c.in-Put.e)) (put_form c.args.form.now c.in-Put.x c.in-Put.field c.in-Put.e c.in-Put.is) (record { same = record { func = refl; tasks = refl; at = refl; depth = refl; frame = c.put.ensures.same }; fuel = refl; sound = c.put.ensures.sound; size = c.put.ensures.size; line = omega arith })
    tt refl c.put.result (does_here (program_of c.args.rules.now.program.now) (func_of c.args.run.now.func.now) c.args.run.now.heap c.args.run.now.values c.put.new.heap c.put.new.values c.put.result (core.put c.in-Put.x.0 c.in-Put.field (expr_of c.in-Put.e)) c.put.ensures.does) (record { written = g.K.Sink.written c.args.sink.now; faults = g.K.Sink.faults c.args.sink.now }) c.or_trap-in-Put.result c.or_trap-in-Put.ensures

pub make-requires-clause-sound : goal.make-requires-clause-sound
make-requires-clause-sound g c = c.requires.can.ready.room.heap

pub make-requires-clause-table : goal.make-requires-clause-table
make-requires-clause-table g c = can_table (form_of c.args.form.now) c.args.rules.now c.args.run.now c.requires.can

pub make-requires-clause-wide : goal.make-requires-clause-wide
make-requires-clause-wide g c = c.requires.can.ready.room.wide.some

pub make-requires-clause-within : goal.make-requires-clause-within
make-requires-clause-within g c = can_var (form_of c.args.form.now) c.args.rules.now c.args.run.now c.requires.can c.in-New.x.0 (can_at (form_of c.args.form.now) (core.simple (core.make c.in-New.x.0 (map operand_of c.as_slice.result.now))) c.args.rules.now c.args.run.now (new_form c.args.form.now c.in-New.x c.in-New.args c.in-New.is ∙ ap (λ l. core.simple (core.make c.in-New.x.0 (map operand_of l))) (sym c.as_slice.ensures)) c.requires.can).own

pub make-requires-clause-key : goal.make-requires-clause-key
make-requires-clause-key g c = can_key (form_of c.args.form.now) c.args.rules.now c.args.run.now c.requires.can c.in-New.x.0

pub make-requires-clause-room : goal.make-requires-clause-room
make-requires-clause-room g c = make_room c.in-New.x.0 (map operand_of c.as_slice.result.now) c.args.rules.now c.args.run.now (can_at (form_of c.args.form.now) (core.simple (core.make c.in-New.x.0 (map operand_of c.as_slice.result.now))) c.args.rules.now c.args.run.now (new_form c.args.form.now c.in-New.x c.in-New.args c.in-New.is ∙ ap (λ l. core.simple (core.make c.in-New.x.0 (map operand_of l))) (sym c.as_slice.ensures)) c.requires.can) (length c.as_slice.result.now) (length-map c.as_slice.result.now operand_of)

pub make-requires-clause-fits : goal.make-requires-clause-fits
make-requires-clause-fits g c = make_cells c.in-New.x.0 (map operand_of c.as_slice.result.now) c.args.rules.now c.args.run.now (can_at (form_of c.args.form.now) (core.simple (core.make c.in-New.x.0 (map operand_of c.as_slice.result.now))) c.args.rules.now c.args.run.now (new_form c.args.form.now c.in-New.x c.in-New.args c.in-New.is ∙ ap (λ l. core.simple (core.make c.in-New.x.0 (map operand_of l))) (sym c.as_slice.ensures)) c.requires.can) (length c.as_slice.result.now) (length-map c.as_slice.result.now operand_of)

pub make-requires-clause-right : goal.make-requires-clause-right
make-requires-clause-right g c = right_here (core.make c.in-New.x.0 (map operand_of c.as_slice.result.now)) c.args.rules.now c.args.run.now (can_at (form_of c.args.form.now) (core.simple (core.make c.in-New.x.0 (map operand_of c.as_slice.result.now))) c.args.rules.now c.args.run.now (new_form c.args.form.now c.in-New.x c.in-New.args c.in-New.is ∙ ap (λ l. core.simple (core.make c.in-New.x.0 (map operand_of l))) (sym c.as_slice.ensures)) c.requires.can)

pub returns-in-New : goal.returns-in-New
returns-in-New g c =
    make_does c.args.rules.now c.args.run.now (record c.args.run.now { values = c.make.new.values; heap = c.make.new.heap }) (form_of c.args.form.now) (core.make c.in-New.x.0 (map operand_of c.as_slice.result.now)) (new_form c.args.form.now c.in-New.x c.in-New.args c.in-New.is ∙ ap (λ l. core.simple (core.make c.in-New.x.0 (map operand_of l))) (sym c.as_slice.ensures)) (record { same = record { func = refl; tasks = refl; at = refl; depth = refl; frame = c.make.ensures.same }; fuel = refl; sound = c.make.ensures.sound; size = c.make.ensures.size; line = omega arith })
    tt refl c.make.result c.make.ensures.comes (record { written = g.K.Sink.written c.args.sink.now; faults = g.K.Sink.faults c.args.sink.now }) c.or_full.result c.or_full.ensures

pub fill-requires-clause-sound : goal.fill-requires-clause-sound
fill-requires-clause-sound g c = c.requires.can.ready.room.heap

pub fill-requires-clause-table : goal.fill-requires-clause-table
fill-requires-clause-table g c = can_table (form_of c.args.form.now) c.args.rules.now c.args.run.now c.requires.can

pub fill-requires-clause-wide : goal.fill-requires-clause-wide
fill-requires-clause-wide g c = c.requires.can.ready.room.wide.some

pub fill-requires-clause-within : goal.fill-requires-clause-within
fill-requires-clause-within g c = can_var (form_of c.args.form.now) c.args.rules.now c.args.run.now c.requires.can c.in-Own.v.0 (can_at (form_of c.args.form.now) (core.simple (core.own c.in-Own.v.0 (operand_of c.in-Own.value))) c.args.rules.now c.args.run.now (own_form c.args.form.now c.in-Own.v c.in-Own.value c.in-Own.is) c.requires.can).own

pub returns-in-Own : goal.returns-in-Own
returns-in-Own g c =
    trap_does c.args.rules.now c.args.run.now (record c.args.run.now { values = c.fill.new.values }) (form_of c.args.form.now) (core.own c.in-Own.v.0 (operand_of c.in-Own.value)) (own_form c.args.form.now c.in-Own.v c.in-Own.value c.in-Own.is) (record { same = record { func = refl; tasks = refl; at = refl; depth = refl; frame = c.fill.ensures.same }; fuel = refl; sound = c.requires.can.ready.room.heap; size = record { heap = refl; slots = refl }; line = omega arith })
    tt refl c.fill.result (does_here (program_of c.args.rules.now.program.now) (func_of c.args.run.now.func.now) c.args.run.now.heap c.args.run.now.values c.args.run.now.heap c.fill.new.values c.fill.result (core.own c.in-Own.v.0 (operand_of c.in-Own.value)) c.fill.ensures.does) (record { written = g.K.Sink.written c.args.sink.now; faults = g.K.Sink.faults c.args.sink.now }) c.or_trap-in-Own.result c.or_trap-in-Own.ensures

pub build-requires-clause-sound : goal.build-requires-clause-sound
build-requires-clause-sound g c = c.requires.can.ready.room.heap

pub build-requires-clause-table : goal.build-requires-clause-table
build-requires-clause-table g c = can_table (form_of c.args.form.now) c.args.rules.now c.args.run.now c.requires.can

pub build-requires-clause-wide : goal.build-requires-clause-wide
build-requires-clause-wide g c = c.requires.can.ready.room.wide.some

pub build-requires-clause-within : goal.build-requires-clause-within
build-requires-clause-within g c = can_var (form_of c.args.form.now) c.args.rules.now c.args.run.now c.requires.can c.in-Build.v.0 (can_at (form_of c.args.form.now) (core.simple (core.build c.in-Build.v.0 c.in-Build.case (map operand_of c.as_slice-in-Build.result.now))) c.args.rules.now c.args.run.now (build_form c.args.form.now c.in-Build.v c.in-Build.case c.in-Build.args c.in-Build.is ∙ ap (λ l. core.simple (core.build c.in-Build.v.0 c.in-Build.case (map operand_of l))) (sym c.as_slice-in-Build.ensures)) c.requires.can).own

pub build-requires-clause-room : goal.build-requires-clause-room
build-requires-clause-room g c = build_room c.in-Build.v.0 c.in-Build.case (map operand_of c.as_slice-in-Build.result.now) c.args.rules.now c.args.run.now (can_at (form_of c.args.form.now) (core.simple (core.build c.in-Build.v.0 c.in-Build.case (map operand_of c.as_slice-in-Build.result.now))) c.args.rules.now c.args.run.now (build_form c.args.form.now c.in-Build.v c.in-Build.case c.in-Build.args c.in-Build.is ∙ ap (λ l. core.simple (core.build c.in-Build.v.0 c.in-Build.case (map operand_of l))) (sym c.as_slice-in-Build.ensures)) c.requires.can) (length c.as_slice-in-Build.result.now) (length-map c.as_slice-in-Build.result.now operand_of)

pub build-requires-clause-fits : goal.build-requires-clause-fits
build-requires-clause-fits g c = build_narrow c.in-Build.v.0 c.in-Build.case (map operand_of c.as_slice-in-Build.result.now) c.args.rules.now c.args.run.now (can_at (form_of c.args.form.now) (core.simple (core.build c.in-Build.v.0 c.in-Build.case (map operand_of c.as_slice-in-Build.result.now))) c.args.rules.now c.args.run.now (build_form c.args.form.now c.in-Build.v c.in-Build.case c.in-Build.args c.in-Build.is ∙ ap (λ l. core.simple (core.build c.in-Build.v.0 c.in-Build.case (map operand_of l))) (sym c.as_slice-in-Build.ensures)) c.requires.can) (length c.as_slice-in-Build.result.now) (length-map c.as_slice-in-Build.result.now operand_of)

pub build-requires-clause-right : goal.build-requires-clause-right
build-requires-clause-right g c = right_act (core.build c.in-Build.v.0 c.in-Build.case (map operand_of c.as_slice-in-Build.result.now)) c.args.rules.now c.args.run.now (can_at (form_of c.args.form.now) (core.simple (core.build c.in-Build.v.0 c.in-Build.case (map operand_of c.as_slice-in-Build.result.now))) c.args.rules.now c.args.run.now (build_form c.args.form.now c.in-Build.v c.in-Build.case c.in-Build.args c.in-Build.is ∙ ap (λ l. core.simple (core.build c.in-Build.v.0 c.in-Build.case (map operand_of l))) (sym c.as_slice-in-Build.ensures)) c.requires.can)

pub returns-in-Build : goal.returns-in-Build
returns-in-Build g c =
    trap_does c.args.rules.now c.args.run.now (record c.args.run.now { values = c.build.new.values }) (form_of c.args.form.now) (core.build c.in-Build.v.0 c.in-Build.case (map operand_of c.as_slice-in-Build.result.now)) (build_form c.args.form.now c.in-Build.v c.in-Build.case c.in-Build.args c.in-Build.is ∙ ap (λ l. core.simple (core.build c.in-Build.v.0 c.in-Build.case (map operand_of l))) (sym c.as_slice-in-Build.ensures)) (record { same = record { func = refl; tasks = refl; at = refl; depth = refl; frame = c.build.ensures.same }; fuel = refl; sound = c.requires.can.ready.room.heap; size = record { heap = refl; slots = refl }; line = omega arith })
    tt refl c.build.result c.build.ensures.does (record { written = g.K.Sink.written c.args.sink.now; faults = g.K.Sink.faults c.args.sink.now }) c.or_trap-in-Build.result c.or_trap-in-Build.ensures

pub rearrange-requires-clause-can : goal.rearrange-requires-clause-can
rearrange-requires-clause-can g c = c.requires.can

pub returns-in_default : goal.returns-in_default
returns-in_default g c = c.rearrange.ensures (record { written = g.K.Sink.written c.args.sink.now; faults = g.K.Sink.faults c.args.sink.now })
