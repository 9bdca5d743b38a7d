use Rattle.std.proofs.Common.{sym, ap, subst, inr, Ok}
use Rattle.vlt_base.specs.States.{has_state}
use Rattle.vlt_core.specs.View.{expr_of, operand_of}
use Rattle.vlt_meaning_laws.specs.Machine.Got.{operand_got}
use Rattle.vlt_acts.specs.Values.Filled.{IsFilled, IsSingleSlot}
use Rattle.vlt_acts.specs.Values.Shown.{IsPlace}
use Rattle.vlt_acts.specs.Values.Pushed.{IsPushed}
use Rattle.vlt_acts.proofs.OfValues.Fronts.{referred, packed_object}
use Rattle.vlt_acts.proofs.OfValues.Writing.{var_copied}
use Rattle.vlt_acts.proofs.OfValues.Pushing.{grown_kept, seen_grown, pure_pushed, move_pushed, pack_pushed}
use Rattle.vlt_acts.proofs.values.operands.push_operand.Goals as goal

pub returns-in-Pure-clause-value : goal.returns-in-Pure-clause-value
returns-in-Pure-clause-value k = λ c w same.
    let g = grown_kept k.args.values.now k.grow.new.self k.write.new.values k.len-to.result k.grow.ensures.grown k.len-to.ensures k.write.ensures.kept in
    let place : IsPlace k.grow.new.self k.len-to.result = inr (rw (k.grow.ensures.grown.base, k.grow.ensures.grown.vars, k.grow.ensures.grown.width, k.len-to.ensures) (k.requires.table)) in
    subst (λ o. IsPushed c.items k.args.values.now k.write.new.values k.write.result (operand_got c.program c.func o c.frame w)) (sym (ap operand_of k.in-Pure.is))
    (pure_pushed k.args.heap.now k.args.values.now k.write.new.values g c w same (expr_of k.in-Pure.e) k.len-to.result k.write.result k.len-to.ensures
    (k.write.ensures.value (seen_grown k.args.heap.now k.args.values.now k.grow.new.self k.grow.ensures.grown c) place))

pub returns-in-Move-clause-value : goal.returns-in-Move-clause-value
returns-in-Move-clause-value k = λ c w same.
    let g = grown_kept k.args.values.now k.grow.new.self k.copy_var.new.self k.len-to.result k.grow.ensures.grown k.len-to.ensures k.copy_var.ensures.kept in
    let place : IsPlace k.grow.new.self k.len-to.result = inr (rw (k.grow.ensures.grown.base, k.grow.ensures.grown.vars, k.grow.ensures.grown.width, k.len-to.ensures) (k.requires.table)) in
    subst (λ o. IsPushed c.items k.args.values.now k.copy_var.new.self (Ok tt) (operand_got c.program c.func o c.frame w)) (sym (ap operand_of k.in-Move.is))
    (move_pushed k.args.heap.now k.args.values.now k.copy_var.new.self g c w same k.in-Move.v.0 k.len-to.result k.len-to.ensures
    (var_copied k.args.heap.now k.grow.new.self k.copy_var.new.self (seen_grown k.args.heap.now k.args.values.now k.grow.new.self k.grow.ensures.grown c) k.in-Move.v.0 k.len-to.result place k.copy_var.ensures.kept.width k.copy_var.ensures.filled))

pub returns-in-Pack-clause-value : goal.returns-in-Pack-clause-value
returns-in-Pack-clause-value k = λ c w same.
    let g = grown_kept k.args.values.now k.grow.new.self k.put_single.new.self k.len-to.result k.grow.ensures.grown k.len-to.ensures k.put_single.ensures.kept in
    subst (λ o. IsPushed c.items k.args.values.now k.put_single.new.self (Ok tt) (operand_got c.program c.func o c.frame w)) (sym (ap operand_of k.in-Pack.is))
    (pack_pushed k.args.heap.now k.args.values.now k.put_single.new.self g c w same k.in-Pack.x.0 (has_state k.in-Pack.field-1) k.len-to.result k.packed-a.result k.len-to.ensures k.requires.wide (subst (IsFilled (IsSingleSlot k.packed-a.result) k.put_single.new.self.slots.items k.len-to.result) k.grow.ensures.grown.width k.put_single.ensures.filled)
    (λ m p. packed_object c.items m.number k.front.result k.packed-a.result k.packed-a.ensures
    (referred k.args.heap.now k.grow.new.self (seen_grown k.args.heap.now k.args.values.now k.grow.new.self k.grow.ensures.grown c) k.in-Pack.x.0 k.front.result k.front.ensures m p.touched)))
