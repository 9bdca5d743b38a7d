use Rattle.std.proofs.Common.{sym, ap, subst, ◌∙◌, map, length}
use Rattle.std.specs.Option.{option_map}
use Rattle.std.proofs.lemmas.List.{length-map}
use Rattle.vlt_core.specs.View.{program_of, func_of}
use Rattle.vlt_core.specs.LookupViews.{reference_view}
use Rattle.vlt_acts.proofs.OfValues.Fronts.{number_object, owned_object}
use Rattle.vlt_acts.specs.Objects.Taken.{CanTake, TakesAll}
use Rattle.vlt_acts.proofs.OfObjects.Opened.{open_can, open_live, open_root, open_here, open_does, open_nowhere, open_none}
use Rattle.vlt_acts.proofs.objects.opening.open_into.Goals as goal

pub unreachable-requires : goal.unreachable-requires
unreachable-requires k = open_none (program_of k.args.program.now) (func_of k.args.func.now) k.args.heap.now k.args.values.now k.args.x.0 (map (λ v. v.0) k.args.vs.now) k.requires.right (sym k.reference.ensures ∙ ap (option_map reference_view) k.in-None.is)

pub unreachable-requires-in-Number : goal.unreachable-requires-in-Number
unreachable-requires-in-Number k = open_nowhere (program_of k.args.program.now) (func_of k.args.func.now) k.args.heap.now k.args.values.now k.args.x.0 (map (λ v. v.0) k.args.vs.now) k.front.result k.front.ensures (number_object k.front.result _ k.in-Number.is) k.requires.right

pub unreachable-requires-in-Owned : goal.unreachable-requires-in-Owned
unreachable-requires-in-Owned k = open_nowhere (program_of k.args.program.now) (func_of k.args.func.now) k.args.heap.now k.args.values.now k.args.x.0 (map (λ v. v.0) k.args.vs.now) k.front.result k.front.ensures (owned_object k.front.result _ _ k.in-Owned.is) k.requires.right

pub take_cells-requires-clause-can : goal.take_cells-requires-clause-can
take_cells-requires-clause-can k =
    subst (λ ds. CanTake k.args.heap.now k.args.values.now k.in-Object.number k.in-Object.o.0 ds 0 (length k.args.vs.now)) (sym k.fields.ensures)
    (open_can (program_of k.args.program.now) (func_of k.args.func.now) k.args.heap.now k.args.values.now k.args.x.0 (map (λ v. v.0) k.args.vs.now) k.front.result k.in-Object.o k.in-Object.number k.front.ensures k.in-Object.is (reference_view k.in-Some.r) (sym k.reference.ensures ∙ ap (option_map reference_view) k.in-Some.is)
    (length k.args.vs.now) (length-map k.args.vs.now (λ v. v.0)) k.requires.right)

pub release-requires-clause-live : goal.release-requires-clause-live
release-requires-clause-live k =
    open_live (program_of k.args.program.now) (func_of k.args.func.now) k.args.heap.now k.args.values.now k.args.x.0 (map (λ v. v.0) k.args.vs.now) k.front.result k.in-Object.o k.in-Object.number k.front.ensures k.in-Object.is (reference_view k.in-Some.r) (sym k.reference.ensures ∙ ap (option_map reference_view) k.in-Some.is) k.take_cells.new.heap k.take_cells.new.values (subst (λ ds. TakesAll k.in-Object.number k.in-Object.o.0 ds 0 (map (λ v. v.0) k.args.vs.now) k.args.heap.now k.args.values.now k.take_cells.new.heap k.take_cells.new.values) k.fields.ensures k.take_cells.ensures.takes) k.requires.right

pub release-requires-clause-root : goal.release-requires-clause-root
release-requires-clause-root k =
    open_root (program_of k.args.program.now) (func_of k.args.func.now) k.args.heap.now k.args.values.now k.args.x.0 (map (λ v. v.0) k.args.vs.now) k.front.result k.in-Object.o k.in-Object.number k.front.ensures k.in-Object.is (reference_view k.in-Some.r) (sym k.reference.ensures ∙ ap (option_map reference_view) k.in-Some.is) k.take_cells.new.heap k.take_cells.new.values (subst (λ ds. TakesAll k.in-Object.number k.in-Object.o.0 ds 0 (map (λ v. v.0) k.args.vs.now) k.args.heap.now k.args.values.now k.take_cells.new.heap k.take_cells.new.values) k.fields.ensures k.take_cells.ensures.takes) k.requires.right

pub release-requires-clause-here : goal.release-requires-clause-here
release-requires-clause-here k =
    open_here (program_of k.args.program.now) (func_of k.args.func.now) k.args.heap.now k.args.values.now k.args.x.0 (map (λ v. v.0) k.args.vs.now) k.front.result k.in-Object.o k.in-Object.number k.front.ensures k.in-Object.is (reference_view k.in-Some.r) (sym k.reference.ensures ∙ ap (option_map reference_view) k.in-Some.is) k.take_cells.new.heap k.take_cells.new.values (subst (λ ds. TakesAll k.in-Object.number k.in-Object.o.0 ds 0 (map (λ v. v.0) k.args.vs.now) k.args.heap.now k.args.values.now k.take_cells.new.heap k.take_cells.new.values) k.fields.ensures k.take_cells.ensures.takes) k.requires.right

pub returns-clause-does : goal.returns-clause-does
returns-clause-does k =
    open_does (program_of k.args.program.now) (func_of k.args.func.now) k.args.heap.now k.args.values.now k.args.x.0 (map (λ v. v.0) k.args.vs.now) k.front.result k.in-Object.o k.in-Object.number k.front.ensures k.in-Object.is (reference_view k.in-Some.r) (sym k.reference.ensures ∙ ap (option_map reference_view) k.in-Some.is) k.take_cells.new.heap k.take_cells.new.values (subst (λ ds. TakesAll k.in-Object.number k.in-Object.o.0 ds 0 (map (λ v. v.0) k.args.vs.now) k.args.heap.now k.args.values.now k.take_cells.new.heap k.take_cells.new.values) k.fields.ensures k.take_cells.ensures.takes) k.release.new.self k.release.ensures.items
