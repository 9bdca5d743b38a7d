use Rattle.std.proofs.Common.{rules, sym, ap, subst, arith, ◌∙◌, ◌∷◌, ◌+◌, ◌<◌, map, length, suc}
use Rattle.std.proofs.lemmas.List.{length-map}
use Rattle.vlt_core.specs.View.{field_of}
use Rattle.vlt_acts.specs.Objects.Taken.{CanTake, TakesAll}
use Rattle.vlt_acts.proofs.OfObjects.Filling.{all_rest}
use Rattle.vlt_acts.proofs.OfObjects.Taking.{can_one, can_more, takes_both, pass_can, passes}
use Rattle.vlt_acts.proofs.objects.opening.+take_cells.Goals as goal

pub take_cell-requires-clause-can : goal.take_cell-requires-clause-can
take_cell-requires-clause-can n k =
    can_one k.args.heap.now k.args.values.now k.args.number k.args.o.0 (field_of k.in-Some.d.now) (map field_of k.in-Some.rest.now) k.args.i (k.args.i + 1) k.in-Some-split_first.v.now.0 (map (λ v. v.0) k.in-Some-split_first.more.now) (omega arith) (sym k.is_owning.ensures ∙ k.if-is_owning.true)
    (subst (λ m. CanTake k.args.heap.now k.args.values.now k.args.number k.args.o.0 (map field_of (k.in-Some.d.now ∷ k.in-Some.rest.now)) k.args.i m) (ap length k.in-Some-split_first.ensures.cases.0 ∙ sym (ap suc (length-map k.in-Some-split_first.more.now (λ v. v.0))))
    (subst (λ l. CanTake k.args.heap.now k.args.values.now k.args.number k.args.o.0 (map field_of l) k.args.i (length k.args.vs.now)) k.in-Some.ensures.cases.0 k.requires.can))

pub take_cells-requires : goal.take_cells-requires
take_cells-requires n k =
    let e = ap length k.in-Some.ensures.cases.0 in (
      search rules,
      (
        k.take_cell.ensures.sound,
        (
          rw (k.take_cell.ensures.same.base, k.take_cell.ensures.same.vars, k.take_cell.ensures.same.width, k.take_cell.ensures.same.long) (k.requires.table),
          (
            rw k.take_cell.ensures.same.vars (all_rest (λ v. v.0 < k.args.values.now.vars) k.in-Some-split_first.v.now k.in-Some-split_first.more.now k.args.vs.now k.in-Some-split_first.ensures.cases.0 k.requires.within),
            (
              omega (arith, e, k.requires.short),
              subst (λ m. CanTake k.take_cell.new.heap k.take_cell.new.values k.args.number k.args.o.0 (map field_of k.in-Some.rest.now) (k.args.i + 1) m) (length-map k.in-Some-split_first.more.now (λ v. v.0))
                  (can_more k.args.heap.now k.args.values.now k.args.number k.args.o.0 (field_of k.in-Some.d.now) (map field_of k.in-Some.rest.now) k.args.i (k.args.i + 1) k.in-Some-split_first.v.now.0 (map (λ v. v.0) k.in-Some-split_first.more.now) (omega arith) (sym k.is_owning.ensures ∙ k.if-is_owning.true) k.take_cell.new.heap k.take_cell.new.values k.take_cell.ensures.takes
                  (subst (λ m. CanTake k.args.heap.now k.args.values.now k.args.number k.args.o.0 (map field_of (k.in-Some.d.now ∷ k.in-Some.rest.now)) k.args.i m) (ap length k.in-Some-split_first.ensures.cases.0 ∙ sym (ap suc (length-map k.in-Some-split_first.more.now (λ v. v.0))))
                  (subst (λ l. CanTake k.args.heap.now k.args.values.now k.args.number k.args.o.0 (map field_of l) k.args.i (length k.args.vs.now)) k.in-Some.ensures.cases.0 k.requires.can))),
            ),
          ),
        ),
      ),
    )

pub take_cells-requires-else-is_owning : goal.take_cells-requires-else-is_owning
take_cells-requires-else-is_owning n k =
    let e = ap length k.in-Some.ensures.cases.0 in (
      search rules,
      (k.requires.sound, (k.requires.table, (k.requires.within, (omega (arith, e, k.requires.short), pass_can k.args.heap.now k.args.values.now k.args.number k.args.o.0 (field_of k.in-Some.d.now) (map field_of k.in-Some.rest.now) k.args.i (k.args.i + 1) (length k.args.vs.now) (omega arith) (sym k.is_owning.ensures ∙ k.if-is_owning.false) (subst (λ l. CanTake k.args.heap.now k.args.values.now k.args.number k.args.o.0 (map field_of l) k.args.i (length k.args.vs.now)) k.in-Some.ensures.cases.0 k.requires.can))))),
    )

pub returns-in-Some-split_first-clause-takes : goal.returns-in-Some-split_first-clause-takes
returns-in-Some-split_first-clause-takes n k =
    subst (λ l. TakesAll k.args.number k.args.o.0 (map field_of l) k.args.i (map (λ v. v.0) k.args.vs.now) k.args.heap.now k.args.values.now k.take_cells.new.heap k.take_cells.new.values) (sym k.in-Some.ensures.cases.0)
    (subst (λ l. TakesAll k.args.number k.args.o.0 (map field_of (k.in-Some.d.now ∷ k.in-Some.rest.now)) k.args.i (map (λ v. v.0) l) k.args.heap.now k.args.values.now k.take_cells.new.heap k.take_cells.new.values) (sym k.in-Some-split_first.ensures.cases.0)
    (takes_both k.args.heap.now k.args.values.now k.args.number k.args.o.0 (field_of k.in-Some.d.now) (map field_of k.in-Some.rest.now) k.args.i (k.args.i + 1) k.in-Some-split_first.v.now.0 (map (λ v. v.0) k.in-Some-split_first.more.now) (omega arith) (sym k.is_owning.ensures ∙ k.if-is_owning.true) k.take_cell.new.heap k.take_cell.new.values k.take_cell.ensures.takes k.take_cells.new.heap k.take_cells.new.values k.take_cells.ensures.takes))

pub returns-else-is_owning-clause-takes : goal.returns-else-is_owning-clause-takes
returns-else-is_owning-clause-takes n k =
    subst (λ l. TakesAll k.args.number k.args.o.0 (map field_of l) k.args.i (map (λ v. v.0) k.args.vs.now) k.args.heap.now k.args.values.now k.take_cells-else-is_owning.new.heap k.take_cells-else-is_owning.new.values) (sym k.in-Some.ensures.cases.0)
    (passes k.args.heap.now k.take_cells-else-is_owning.new.heap k.args.values.now k.take_cells-else-is_owning.new.values k.args.number k.args.o.0 (field_of k.in-Some.d.now) (map field_of k.in-Some.rest.now) k.args.i (k.args.i + 1) (map (λ v. v.0) k.args.vs.now) (omega arith) (sym k.is_owning.ensures ∙ k.if-is_owning.false) k.take_cells-else-is_owning.ensures.takes)
