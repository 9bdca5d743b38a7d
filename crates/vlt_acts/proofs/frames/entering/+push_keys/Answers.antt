use Rattle.std.proofs.Common.{◌≡◌, ◌∷◌, sym, ap, subst, length}
use Rattle.vlt_core.specs.View.{keys_of}
use Rattle.vlt_acts.specs.Frames.Named.{AreNamed}
use Rattle.vlt_acts.proofs.OfFrames.Naming.{pushed_named}
use Rattle.vlt_acts.proofs.frames.entering.+push_keys.Goals as goal

pub returns-in-Some-clause-named : goal.returns-in-Some-clause-named
returns-in-Some-clause-named n c =
    let is : c.args.keys.now ≡ c.in-Some.k.now ∷ c.in-Some.rest.now = c.in-Some.ensures.cases.0 in
    subst (λ ks. AreNamed ks c.args.values.now (length c.args.values.now.slots.items) c.push_keys.new.values) (sym (ap keys_of is))
    (pushed_named c.in-Some.k.now.0 (keys_of c.in-Some.rest.now) c.args.values.now c.push_slot.new.self c.push_keys.new.values c.key_slot-a.result c.key_slot-a.ensures c.push_slot.ensures.grown c.push_slot.ensures.last c.push_slot.ensures.long c.push_keys.ensures.grown c.push_keys.ensures.named)
