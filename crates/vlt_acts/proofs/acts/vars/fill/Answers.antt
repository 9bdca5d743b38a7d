use Rattle.std.proofs.Common.{inl, sym, ap, subst, Ok}
use Rattle.vlt_base.specs.States.{has_state}
use Rattle.vlt_core.specs.Core.{own}
use Rattle.vlt_core.specs.View.{expr_of, operand_of}
use Rattle.vlt_meaning.specs.Run.{does_simple}
use Rattle.vlt_acts.specs.Values.Shown.{IsPlace}
use Rattle.vlt_acts.proofs.OfValues.Writing.{var_copied}
use Rattle.vlt_acts.specs.Acts.Acts.{setup, Does}
use Rattle.vlt_acts.proofs.OfActs.Acting.{fill_pure, fill_move, fill_pack}
use Rattle.vlt_acts.proofs.acts.vars.fill.Goals as goal

pub returns-in-Pure-clause-does : goal.returns-in-Pure-clause-does
returns-in-Pure-clause-does k = λ c w h d same.
    let place : IsPlace k.args.values.now k.place-to.result = inl (k.args.v.0, k.requires.within, k.place-to.ensures.is) in
    subst (λ o. Does c.items k.args.heap.now k.write.new.values k.write.result (does_simple (setup c.program h d) c.func (own k.args.v.0 o) c.frame w)) (sym (ap operand_of k.in-Pure.is))
    (fill_pure k.args.heap.now k.args.values.now k.write.new.values c w h d k.args.v.0 k.place-to.result (expr_of k.in-Pure.e) k.write.result same k.requires.within k.place-to.ensures.is k.write.ensures.kept (k.write.ensures.value c place))

pub returns-in-Move-clause-does : goal.returns-in-Move-clause-does
returns-in-Move-clause-does k = λ c w h d same.
    let place : IsPlace k.args.values.now k.place-to.result = inl (k.args.v.0, k.requires.within, k.place-to.ensures.is) in
    subst (λ o. Does c.items k.args.heap.now k.copy_var.new.self (Ok tt) (does_simple (setup c.program h d) c.func (own k.args.v.0 o) c.frame w)) (sym (ap operand_of k.in-Move.is))
    (fill_move k.args.heap.now k.args.values.now k.copy_var.new.self c w h d k.args.v.0 k.in-Move.u.0 k.place-to.result same k.requires.within k.place-to.ensures.is k.copy_var.ensures.kept
    (var_copied k.args.heap.now k.args.values.now k.copy_var.new.self c k.in-Move.u.0 k.place-to.result place k.copy_var.ensures.kept.width k.copy_var.ensures.filled))

pub returns-in-Pack-clause-does : goal.returns-in-Pack-clause-does
returns-in-Pack-clause-does k = λ c w h d same.
    subst (λ o. Does c.items k.args.heap.now k.put_single.new.self (Ok tt) (does_simple (setup c.program h d) c.func (own k.args.v.0 o) c.frame w)) (sym (ap operand_of k.in-Pack.is))
    (fill_pack k.args.heap.now k.args.values.now k.put_single.new.self c w h d k.args.v.0 k.in-Pack.x.0 k.place-to.result (has_state k.in-Pack.field-1) k.front.result k.packed-a.result same k.requires.within k.requires.wide k.place-to.ensures.is k.put_single.ensures.kept k.front.ensures k.packed-a.ensures k.put_single.ensures.filled)
