use Rattle.std.proofs.Common.{sym, ap, subst, arith, ◌∙◌, ◌+◌, ◌*◌, ◌≤◌, map, length}
use Rattle.std.specs.Option.{option_map}
use Rattle.std.proofs.lemmas.List.{length-map}
use Rattle.vlt_core.specs.View.{program_of, func_of, operand_of, keys_of, case_key_of}
use Rattle.vlt_core.specs.LookupViews.{variant_view}
use Rattle.vlt_acts.specs.Objects.Cases.{keys_for}
use Rattle.vlt_acts.proofs.OfObjects.Tables.{grown_long}
use Rattle.vlt_acts.proofs.OfObjects.Building.{build_within, build_traps, build_does, build_none}
use Rattle.vlt_acts.proofs.objects.cases.build.Goals as goal

pub write_case-requires-clause-there : goal.write_case-requires-clause-there
write_case-requires-clause-there k =
    let l = build_within k.args.heap.now k.args.values.now k.push_operands.new.values k.args.v.0 k.args.case (map operand_of k.args.args.now) k.push_operands.result k.push_operands.ensures.value k.push_operands.ensures.grown k.requires.right k.in-Ok.is in
    subst (λ n. n + length k.args.args.now * k.push_operands.new.values.width ≤ length k.push_operands.new.values.slots.items) (sym k.len-end.ensures)
    (subst (λ n. length k.args.values.now.slots.items + n * k.push_operands.new.values.width ≤ length k.push_operands.new.values.slots.items) (length-map k.args.args.now operand_of) l)

pub truncate-requires-in-Ok : goal.truncate-requires-in-Ok
truncate-requires-in-Ok k = record { within = let l = grown_long k.args.values.now k.push_operands.new.values k.push_operands.ensures.grown in omega (arith, l, k.len-end.ensures, k.write_case.ensures.kept.long) }

pub returns-in-None-clause-does : goal.returns-in-None-clause-does
returns-in-None-clause-does k = build_none k.args.heap.now k.args.values.now (program_of k.args.program.now) (func_of k.args.func.now) k.args.v.0 k.args.case (map operand_of k.args.args.now) (sym k.variant.ensures ∙ ap (option_map variant_view) k.in-None.is)

pub returns-in-Err-clause-does : goal.returns-in-Err-clause-does
returns-in-Err-clause-does k =
    build_traps k.args.heap.now k.args.values.now k.push_operands.new.values (program_of k.args.program.now) (func_of k.args.func.now) k.args.v.0 k.args.case (map operand_of k.args.args.now) k.push_operands.result k.push_operands.ensures.value k.push_operands.ensures.grown k.truncate.new.self k.in-Err.e k.in-Err.is

pub returns-in-Ok-clause-does : goal.returns-in-Ok-clause-does
returns-in-Ok-clause-does k =
    build_does k.args.heap.now k.args.values.now k.push_operands.new.values (program_of k.args.program.now) (func_of k.args.func.now) k.args.v.0 k.args.case (map operand_of k.args.args.now) k.push_operands.result k.push_operands.ensures.value k.push_operands.ensures.grown k.write_case.new.values k.truncate-in-Ok.new.self (variant_view k.in-Some.t)
    (keys_for (keys_of k.in-Some.t.args.now) (map case_key_of k.listed-keys.result.now)) k.len-end.result k.place-to.result (length k.args.args.now) k.in-Ok.is (sym k.variant.ensures ∙ ap (option_map variant_view) k.in-Some.is) (ap (keys_for (keys_of k.in-Some.t.args.now)) k.listed-keys.ensures)
    k.len-end.ensures (length-map k.args.args.now operand_of) k.requires.table k.requires.within k.place-to.ensures.is k.write_case.ensures.kept k.write_case.ensures.writes k.truncate-in-Ok.ensures.cut
