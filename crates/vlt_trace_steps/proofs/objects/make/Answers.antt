use Rattle.std.proofs.Common.{◌≡◌, ◌==◌, true, length, map, Ok, refl, sym, ap, ◌∙◌}
use Rattle.std.specs.Option.{option_map}
use Rattle.vlt_core.specs.Lookups.{reference_of, fields_of}
use Rattle.vlt_core.specs.LookupViews.{reference_view}
use Rattle.vlt_core.specs.View.{operand_of, field_of}
use Rattle.vlt_meaning.specs.World as m
use Rattle.vlt_meaning.specs.Found.{or_fault}
use Rattle.vlt_meaning.specs.Run.{made_in}
use Rattle.vlt_meaning_laws.specs.Machine.Got.{operands_got}
use Rattle.vlt_trace_worlds.specs.View.{value_view, frame_view, world_view}
use Rattle.vlt_trace_worlds.specs.Running.{program_in, func_in, setup_in}
use Rattle.vlt_trace_steps.proofs.Leading.{err_is, same_goes, gives_ok, gives_err}
use Rattle.vlt_trace_steps.proofs.Building.{make_begins}
use Rattle.vlt_trace_steps.proofs.Cells.{same_count, mapped_count}
use Rattle.vlt_trace_steps.proofs.objects.make.Goals as goal

pub returns-in_err-cells : goal.returns-in_err-cells
returns-in_err-cells c = λ depth.
    let p = program_in c.args.at.now in
    let f = func_in c.args.at.now in
    let fr = frame_view c.args.frame.now in
    let w = world_view c.args.world.now in
    let mid = frame_view c.operands.new.frame in
    let v = world_view c.operands.new.world in
    let q = reference_view c.in-Some.q in
    let os = map operand_of c.args.args.now in
    let r = setup_in c.args.at.now c.args.heap depth in
    let there : Ok q ≡ or_fault m.missing (reference_of f c.args.x.0) = ap (or_fault m.missing) (ap (option_map reference_view) (sym c.in-Some.is) ∙ c.reference.ensures) in
    let count : (length os == length (fields_of p q.type)) ≡ true = same_count operand_of c.args.args.now (fields_of p q.type) (length c.args.args.now) (length c.fields.result.now) refl (mapped_count field_of c.fields.result.now (fields_of p q.type) (length c.fields.result.now) refl c.fields.ensures) c.if-args-fields.false in
    let begun = make_begins r f c.args.x.0 os fr w q there count in
    same_goes _ _ c.from_residual.result mid v begun
    (gives_err (map value_view) c.operands.result c.in_err-cells.field-0.0 (operands_got p f os fr w) mid v (made_in r q c.args.x.0) c.from_residual.result mid
    (err_is c.from_residual.result _ c.from_residual.ensures.1) c.in_err-cells.was c.operands.ensures)

pub returns : goal.returns
returns c = λ depth.
    let p = program_in c.args.at.now in
    let f = func_in c.args.at.now in
    let fr = frame_view c.args.frame.now in
    let w = world_view c.args.world.now in
    let mid = frame_view c.operands.new.frame in
    let v = world_view c.operands.new.world in
    let q = reference_view c.in-Some.q in
    let os = map operand_of c.args.args.now in
    let r = setup_in c.args.at.now c.args.heap depth in
    let there : Ok q ≡ or_fault m.missing (reference_of f c.args.x.0) = ap (or_fault m.missing) (ap (option_map reference_view) (sym c.in-Some.is) ∙ c.reference.ensures) in
    let count : (length os == length (fields_of p q.type)) ≡ true = same_count operand_of c.args.args.now (fields_of p q.type) (length c.args.args.now) (length c.fields.result.now) refl (mapped_count field_of c.fields.result.now (fields_of p q.type) (length c.fields.result.now) refl c.fields.ensures) c.if-args-fields.false in
    let begun = make_begins r f c.args.x.0 os fr w q there count in
    same_goes _ _ c.make_from.result (frame_view c.make_from.new.frame) (world_view c.make_from.new.world)
    (begun ∙ gives_ok (map value_view) c.operands.result c.in_ok-cells.cells (operands_got p f os fr w) mid v (made_in r q c.args.x.0) c.in_ok-cells.was c.operands.ensures)
    (c.make_from.ensures r refl)
