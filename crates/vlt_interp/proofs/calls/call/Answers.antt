use Rattle.std.proofs.Common.{map, ◌+◌, ◌*◌, ◌≤◌, ◌∙◌, length, sym, ap, subst}
use Rattle.std.specs.Option.{option_map, option_copied}
use Rattle.std.specs.Vec.{vec_capacity}
use Rattle.std.proofs.lemmas.List.{length-map}
use Rattle.std.proofs.lemmas.Option.{slice_get-map}
use Rattle.vlt_core.specs.View.{func_of, keys_of, operand_of}
use Rattle.vlt_interp.proofs.OfCalls.Arguing.{callee_there, args_room, can_go_in, call_does, call_traps}
use Rattle.vlt_interp.proofs.calls.call.Goals as goal

pub unreachable-requires : goal.unreachable-requires
unreachable-requires g c =
    callee_there c.args.rules.now c.args.run.now (map operand_of c.args.args.now) c.args.f.0 (option_map (λ v. v.0) c.args.target) (keys_of c.args.keys.now) c.requires.can
    (slice_get-map func_of c.args.rules.now.program.now.fns c.args.f.0 ∙ ap (option_map func_of) (sym c.get.ensures.value ∙ ap option_copied c.in_default.is))

pub push_operands-requires-clause-room : goal.push_operands-requires-clause-room
push_operands-requires-clause-room g c =
    let at = slice_get-map func_of c.args.rules.now.program.now.fns c.args.f.0 ∙ ap (option_map func_of) (sym c.get.ensures.value ∙ ap option_copied c.in-Some.is) in
    subst (λ n. length c.args.run.now.values.slots.items + n * c.args.run.now.values.width ≤ vec_capacity c.args.run.now.values.slots) (length-map c.args.args.now operand_of)
    (args_room c.args.rules.now c.args.run.now (map operand_of c.args.args.now) c.args.f.0 (option_map (λ v. v.0) c.args.target) (keys_of c.args.keys.now) c.requires.can (func_of c.in-Some.callee.now) at)

pub go_in-requires : goal.go_in-requires
go_in-requires g c = record {
  can =
      let at = slice_get-map func_of c.args.rules.now.program.now.fns c.args.f.0 ∙ ap (option_map func_of) (sym c.get.ensures.value ∙ ap option_copied c.in-Some.is) in
      can_go_in c.args.rules.now c.args.run.now c.push_operands.new.values c.push_operands.ensures.grown c.push_operands.result (map operand_of c.args.args.now) c.push_operands.ensures.value c.args.f.0 (option_map (λ v. v.0) c.args.target) (keys_of c.args.keys.now) (func_of c.in-Some.callee.now) at
      c.requires.can c.in-Ok.is c.push_operands.ensures.room;
}

pub returns-in-Ok : goal.returns-in-Ok
returns-in-Ok g c =
    let at = slice_get-map func_of c.args.rules.now.program.now.fns c.args.f.0 ∙ ap (option_map func_of) (sym c.get.ensures.value ∙ ap option_copied c.in-Some.is) in
    call_does c.args.rules.now c.args.run.now c.push_operands.new.values c.push_operands.ensures.grown c.push_operands.result (map operand_of c.args.args.now) c.push_operands.ensures.value c.args.f.0 (option_map (λ v. v.0) c.args.target) (keys_of c.args.keys.now) (func_of c.in-Some.callee.now) at
    c.requires.can c.in-Ok.is c.go_in.new.run (record { written = g.K.Sink.written c.args.sink.now; faults = g.K.Sink.faults c.args.sink.now }) (record { written = g.K.Sink.written c.go_in.new.sink; faults = g.K.Sink.faults c.go_in.new.sink }) c.go_in.result c.push_operands.ensures.room c.go_in.ensures

pub returns-in-Err : goal.returns-in-Err
returns-in-Err g c =
    let at = slice_get-map func_of c.args.rules.now.program.now.fns c.args.f.0 ∙ ap (option_map func_of) (sym c.get.ensures.value ∙ ap option_copied c.in-Some.is) in
    call_traps c.args.rules.now c.args.run.now c.push_operands.new.values c.push_operands.ensures.grown c.push_operands.result (map operand_of c.args.args.now) c.push_operands.ensures.value c.args.f.0 (option_map (λ v. v.0) c.args.target) (keys_of c.args.keys.now) (func_of c.in-Some.callee.now) at
    c.requires.can (record { written = g.K.Sink.written c.args.sink.now; faults = g.K.Sink.faults c.args.sink.now }) c.in-Err.trap c.in-Err.is c.push_operands.ensures.room
