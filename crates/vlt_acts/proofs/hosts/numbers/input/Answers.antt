use Rattle.std.proofs.Common.{rules, SFits, w64, Ok, Err, refl, sym, subst}
use Rattle.std.proofs.lemmas.Int.{to_z-of_z}
use Rattle.vlt_core.specs.Core.{input}
use Rattle.vlt_heap.specs.declared.slots.Slot.TheVariants.{Number}
use Rattle.vlt_meaning.specs.Run.{does_simple}
use Rattle.vlt_acts.specs.Values.Filled.{IsFilled, IsSingleSlot}
use Rattle.vlt_acts.specs.Values.Shown.{var_at, IsKept}
use Rattle.vlt_acts.specs.Acts.Acts.{setup}
use Rattle.vlt_steps.specs.declared.stop.Stop.TheVariants.{InputEnd}
use Rattle.vlt_acts.specs.Hosts.Hosts.{Comes}
use Rattle.vlt_acts.proofs.OfHosts.Talking.{more_came, input_came, input_ended}
use Rattle.vlt_acts.proofs.hosts.numbers.input.Goals as goal

pub returns-then-more-clause-does : goal.returns-then-more-clause-does
returns-then-more-clause-does k = λ h b c w n d same hosts. let fits : SFits w64 k.has_more.result = search rules in
    subst (λ m. Comes c.items h k.put_single.new.self k.args.host.now b b (Ok tt) w (does_simple (setup c.program n d) c.func (input k.args.v.0 m) c.frame w)) (sym k.if-more.true)
    (more_came h k.args.values.now k.put_single.new.self c k.args.host.now k.args.host.now b w n d k.args.v.0 same hosts k.requires.within k.requires.wide (subst (λ t. IsKept t k.args.values.now k.put_single.new.self) k.place-to.ensures.is k.put_single.ensures.kept)
    (subst (λ z. IsFilled (IsSingleSlot (Number z)) k.put_single.new.self.slots.items (var_at k.args.values.now k.args.v.0) k.args.values.now.width) k.has_more.ensures (subst (λ t. IsFilled (IsSingleSlot (Number k.has_more.result)) k.put_single.new.self.slots.items t k.args.values.now.width) k.place-to.ensures.is
    (subst (λ z. IsFilled (IsSingleSlot (Number z)) k.put_single.new.self.slots.items k.place-to.result k.args.values.now.width) (to_z-of_z w64 k.has_more.result fits) k.put_single.ensures.filled))) refl)

pub returns-in-Some-clause-does : goal.returns-in-Some-clause-does
returns-in-Some-clause-does k = λ h b c w n d same hosts. let fits : SFits w64 k.in-Some.z = search rules in
    subst (λ m. Comes c.items h k.put_single-in-Some.new.self (record k.args.host.now { input = k.in-Some.rest }) b b (Ok tt) w (does_simple (setup c.program n d) c.func (input k.args.v.0 m) c.frame w)) (sym k.if-more.false)
    (input_came h k.args.values.now k.put_single-in-Some.new.self c k.args.host.now (record k.args.host.now { input = k.in-Some.rest }) b w n d k.args.v.0 same hosts k.in-Some.z k.in-Some.rest.now k.in-Some.ensures refl refl refl k.requires.within k.requires.wide
    (subst (λ t. IsKept t k.args.values.now k.put_single-in-Some.new.self) k.place-to-in-Some.ensures.is k.put_single-in-Some.ensures.kept)
    (subst (λ t. IsFilled (IsSingleSlot (Number k.in-Some.z)) k.put_single-in-Some.new.self.slots.items t k.args.values.now.width) k.place-to-in-Some.ensures.is
    (subst (λ z. IsFilled (IsSingleSlot (Number z)) k.put_single-in-Some.new.self.slots.items k.place-to-in-Some.result k.args.values.now.width) (to_z-of_z w64 k.in-Some.z fits) k.put_single-in-Some.ensures.filled)))

pub returns-in-None-clause-does : goal.returns-in-None-clause-does
returns-in-None-clause-does k = λ h b c w n d same hosts.
    subst (λ m. Comes c.items h k.args.values.now k.args.host.now b b (Err InputEnd) w (does_simple (setup c.program n d) c.func (input k.args.v.0 m) c.frame w)) (sym k.if-more.false)
    (input_ended h k.args.values.now k.args.values.now c k.args.host.now k.args.host.now b w n d k.args.v.0 same hosts k.in-None.ensures)
