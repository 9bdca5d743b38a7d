use Rattle.std.proofs.Common.{sym, ap, subst, ◌∙◌, ◌≤◌, ◌+◌, ◌*◌, arith, map, length}
use Rattle.std.specs.Option.{option_map}
use Rattle.std.proofs.lemmas.List.{length-map}
use Rattle.vlt_core.specs.View.{func_of, operand_of}
use Rattle.vlt_core.specs.LookupViews.{reference_view}
use Rattle.vlt_acts.specs.Objects.Made.{CanMake}
use Rattle.vlt_acts.proofs.OfObjects.Tables.{grown_cut, grown_long}
use Rattle.vlt_acts.proofs.OfObjects.NewObject.{has_reference, makes_at, pushed_within, can_make, make_traps, make_full, make_does}
use Rattle.vlt_acts.proofs.objects.making.make.Goals as goal

pub unreachable-requires : goal.unreachable-requires
unreachable-requires k = has_reference k.args.heap.now k.args.values.now k.args.x.0 (map operand_of k.args.args.now) (func_of k.args.func.now) k.requires.right (sym k.reference.ensures ∙ ap (option_map reference_view) k.in-None.is)

pub make_object-made-requires-clause-within : goal.make_object-made-requires-clause-within
make_object-made-requires-clause-within k =
    let l : length k.args.values.now.slots.items + length (map operand_of k.args.args.now) * k.push_operands.new.values.width ≤ length k.push_operands.new.values.slots.items =
    pushed_within k.args.heap.now k.args.values.now k.push_operands.new.values k.args.x.0 (map operand_of k.args.args.now) k.push_operands.result k.push_operands.ensures.value k.push_operands.ensures.grown (func_of k.args.func.now) k.requires.right k.in-Ok.is in
    subst (λ n. n + length k.args.args.now * k.push_operands.new.values.width ≤ length k.push_operands.new.values.slots.items) (sym k.len-end.ensures)
    (subst (λ n. length k.args.values.now.slots.items + n * k.push_operands.new.values.width ≤ length k.push_operands.new.values.slots.items) (length-map k.args.args.now operand_of) l)

pub make_object-made-requires-clause-can : goal.make_object-made-requires-clause-can
make_object-made-requires-clause-can k =
    subst (λ n. CanMake k.in-Some.r.type_id.0 n (length k.args.args.now) k.push_operands.new.values k.args.heap.now) (sym k.len-end.ensures)
    (subst (λ n. CanMake k.in-Some.r.type_id.0 (length k.args.values.now.slots.items) n k.push_operands.new.values k.args.heap.now) (length-map k.args.args.now operand_of)
    (can_make k.args.heap.now k.args.values.now k.push_operands.new.values k.args.x.0 (map operand_of k.args.args.now) k.push_operands.result k.push_operands.ensures.value k.push_operands.ensures.grown (func_of k.args.func.now) k.requires.right k.in-Ok.is
    (reference_view k.in-Some.r) (sym k.reference.ensures ∙ ap (option_map reference_view) k.in-Some.is)))

pub truncate-requires-in-Ok : goal.truncate-requires-in-Ok
truncate-requires-in-Ok k = record { within = let l = grown_long k.args.values.now k.push_operands.new.values k.push_operands.ensures.grown in omega (arith, l, k.len-end.ensures) }

pub returns-in-Err-clause-comes : goal.returns-in-Err-clause-comes
returns-in-Err-clause-comes k = λ c w d func same.
    make_traps k.args.heap.now k.args.values.now k.push_operands.new.values k.args.x.0 (map operand_of k.args.args.now) k.push_operands.result k.push_operands.ensures.value k.push_operands.ensures.grown (func_of k.args.func.now)
    k.truncate.new.self (grown_cut k.args.values.now k.push_operands.new.values k.truncate.new.self k.len-end.result k.len-end.ensures k.push_operands.ensures.grown k.truncate.ensures.cut) c w d func same
    (reference_view k.in-Some.r) (sym k.reference.ensures ∙ ap (option_map reference_view) k.in-Some.is) k.in-Err.t k.in-Err.is

pub returns-in-Err-made-clause-comes : goal.returns-in-Err-made-clause-comes
returns-in-Err-made-clause-comes k = λ c w d func same.
    make_full k.args.heap.now k.args.values.now k.push_operands.new.values k.args.x.0 (map operand_of k.args.args.now) k.push_operands.result k.push_operands.ensures.value k.push_operands.ensures.grown (func_of k.args.func.now)
    k.truncate-in-Ok.new.self (grown_cut k.args.values.now k.push_operands.new.values k.truncate-in-Ok.new.self k.len-end.result k.len-end.ensures k.push_operands.ensures.grown k.truncate-in-Ok.ensures.cut) c w d func same
    (reference_view k.in-Some.r) (sym k.reference.ensures ∙ ap (option_map reference_view) k.in-Some.is) k.make_object-made.new.heap k.make_object-made.result k.in-Err-made.field-0 k.in-Ok.is k.in-Err-made.is (makes_at k.in-Some.r.type_id.0 k.len-end.result (length k.args.values.now.slots.items) (length k.args.args.now) (length (map operand_of k.args.args.now)) k.push_operands.new.values k.args.heap.now k.make_object-made.new.heap k.make_object-made.result k.len-end.ensures (sym (length-map k.args.args.now operand_of)) k.make_object-made.ensures.makes)

pub returns-in-Ok-made-clause-comes : goal.returns-in-Ok-made-clause-comes
returns-in-Ok-made-clause-comes k = λ c w d func same.
    make_does k.args.heap.now k.args.values.now k.push_operands.new.values k.args.x.0 (map operand_of k.args.args.now) k.push_operands.result k.push_operands.ensures.value k.push_operands.ensures.grown (func_of k.args.func.now)
    k.truncate-in-Ok.new.self (grown_cut k.args.values.now k.push_operands.new.values k.truncate-in-Ok.new.self k.len-end.result k.len-end.ensures k.push_operands.ensures.grown k.truncate-in-Ok.ensures.cut) c w d func same
    (reference_view k.in-Some.r) (sym k.reference.ensures ∙ ap (option_map reference_view) k.in-Some.is) k.make_object-made.new.heap k.name_object.new.values k.make_object-made.result k.in-Ok-made.a k.in-Ok.is k.in-Ok-made.is k.name_object.ensures.same.width (makes_at k.in-Some.r.type_id.0 k.len-end.result (length k.args.values.now.slots.items) (length k.args.args.now) (length (map operand_of k.args.args.now)) k.push_operands.new.values k.args.heap.now k.make_object-made.new.heap k.make_object-made.result k.len-end.ensures (sym (length-map k.args.args.now operand_of)) k.make_object-made.ensures.makes) k.name_object.ensures.names
