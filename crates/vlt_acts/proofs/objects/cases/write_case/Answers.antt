use Rattle.std.proofs.Common.{rules, SFits, arith, subst, ◌∙◌, map, w64}
use Rattle.std.proofs.lemmas.Int.{to_z-of_z}
use Rattle.std.proofs.lemmas.List.{length-map}
use Rattle.vlt_core.specs.View.{keys_of, case_key_of}
use Rattle.vlt_heap.specs.declared.slots.Slot.TheVariants.{Number}
use Rattle.vlt_acts.specs.Values.Filled.{IsFilled, IsSingleSlot}
use Rattle.vlt_acts.specs.Objects.Cases.{keys_for}
use Rattle.vlt_acts.proofs.OfObjects.Building.{keys_few, case_kept, case_written}
use Rattle.vlt_acts.proofs.objects.cases.write_case.Goals as goal

pub returns-clause-kept : goal.returns-clause-kept
returns-clause-kept k =
    let f : SFits w64 k.from.result = search rules in
    case_kept k.args.values.now k.put_single.new.self k.gather.new.self k.pack_keys.new.values (keys_for (keys_of k.args.args.now) (map case_key_of k.args.keys.now)) k.args.case k.args.from k.args.count k.args.to _ _ (omega arith) (omega arith)
    (let few = keys_few (keys_of k.args.args.now) (map case_key_of k.args.keys.now) in let long = length-map k.args.keys.now case_key_of in omega (arith, few, long, k.requires.fits)) k.requires.before k.requires.following k.put_single.ensures.kept
    (subst (λ z. IsFilled (IsSingleSlot (Number z)) k.put_single.new.self.slots.items k.args.to k.args.values.now.width) (to_z-of_z w64 k.from.result f ∙ k.from.ensures) k.put_single.ensures.filled) k.gather.ensures.set k.gather.ensures.filled k.pack_keys.ensures.set k.pack_keys.ensures.packs

pub returns-clause-writes : goal.returns-clause-writes
returns-clause-writes k =
    let f : SFits w64 k.from.result = search rules in
    case_written k.args.values.now k.put_single.new.self k.gather.new.self k.pack_keys.new.values (keys_for (keys_of k.args.args.now) (map case_key_of k.args.keys.now)) k.args.case k.args.from k.args.count k.args.to _ _ (omega arith) (omega arith)
    (let few = keys_few (keys_of k.args.args.now) (map case_key_of k.args.keys.now) in let long = length-map k.args.keys.now case_key_of in omega (arith, few, long, k.requires.fits)) k.requires.before k.requires.following k.put_single.ensures.kept
    (subst (λ z. IsFilled (IsSingleSlot (Number z)) k.put_single.new.self.slots.items k.args.to k.args.values.now.width) (to_z-of_z w64 k.from.result f ∙ k.from.ensures) k.put_single.ensures.filled) k.gather.ensures.set k.gather.ensures.filled k.pack_keys.ensures.set k.pack_keys.ensures.packs
