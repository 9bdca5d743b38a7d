use Rattle.std.proofs.Common.{rules, sym, subst, ◌≤◌, SFits, w64}
use Rattle.std.proofs.lemmas.Int.{to_z-of_z}
use Rattle.vlt_heap.specs.declared.slots.Slot.TheVariants.{Number}
use Rattle.vlt_meaning.specs.Found.{◌>>=◌}
use Rattle.vlt_meaning.specs.Values.{number_in}
use Rattle.vlt_acts.specs.Values.Filled.{IsFilled, IsSingleSlot}
use Rattle.vlt_acts.specs.Values.Shown.{IsNumber}
use Rattle.vlt_acts.proofs.OfValues.Writing.{number_put}
use Rattle.vlt_acts.proofs.values.writes.write_number.Goals as goal

pub returns-in-Ok-clause-value : goal.returns-in-Ok-clause-value
returns-in-Ok-clause-value c = λ items x numeric is.
    let f : SFits w64 c.in-Ok.z = search rules in
    number_put items c.put_single.new.self c.args.to x c.in-Ok.z numeric (subst (λ r. IsNumber r (x >>= number_in)) c.in-Ok.is is)
    (subst (λ w. 1 ≤ w) (sym c.put_single.ensures.kept.width) c.requires.wide)
    (subst (IsFilled (IsSingleSlot (Number c.in-Ok.z)) c.put_single.new.self.slots.items c.args.to) (sym c.put_single.ensures.kept.width)
    (subst (λ z. IsFilled (IsSingleSlot (Number z)) c.put_single.new.self.slots.items c.args.to c.args.values.now.width) (to_z-of_z w64 c.in-Ok.z f) c.put_single.ensures.filled))
