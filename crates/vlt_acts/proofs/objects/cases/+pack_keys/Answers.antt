use Rattle.std.proofs.Common.{sym, ap, subst, arith, ◌∙◌, map, length}
use Rattle.std.specs.Option.{option_map}
use Rattle.vlt_base.specs.States.{has_state}
use Rattle.vlt_core.specs.Lookups.{KeyIn}
use Rattle.vlt_core.specs.View.{keys_of, case_key_of}
use Rattle.vlt_acts.specs.Values.Shown.{IsRowSet}
use Rattle.vlt_acts.specs.Objects.Cases.{keys_for, PacksKeys}
use Rattle.vlt_acts.proofs.OfObjects.Filling.{key_missing, key_there, one_packed, row_joined}
use Rattle.vlt_acts.proofs.objects.cases.+pack_keys.Goals as goal

pub returns-in-None-listed_key-clause-packs : goal.returns-in-None-listed_key-clause-packs
returns-in-None-listed_key-clause-packs n k =
    subst (λ l. PacksKeys (keys_for (keys_of k.args.args.now) (map case_key_of l)) k.args.to k.args.values.now k.pack_keys.new.values) (sym k.in-Some.ensures.cases.0)
    (subst (λ ks. PacksKeys ks k.args.to k.args.values.now k.pack_keys.new.values) (sym (key_missing (keys_of k.args.args.now) (case_key_of k.in-Some.k.now) (map case_key_of k.in-Some.rest.now) (sym k.listed_key.ensures ∙ ap (option_map (λ z. z.0)) k.in-None-listed_key.is)))
    k.pack_keys.ensures.packs)

pub returns-in-Some-listed_key-clause-packs : goal.returns-in-Some-listed_key-clause-packs
returns-in-Some-listed_key-clause-packs n k =
    let e = ap length k.in-Some.ensures.cases.0 in
    let key : KeyIn = record { key = k.in-Some-listed_key.key.0; states = has_state k.in-Some.k.now.1 } in
    subst (λ l. PacksKeys (keys_for (keys_of k.args.args.now) (map case_key_of l)) k.args.to k.args.values.now k.pack_keys-in-Some-listed_key.new.values) (sym k.in-Some.ensures.cases.0)
    (subst (λ ks. PacksKeys ks k.args.to k.args.values.now k.pack_keys-in-Some-listed_key.new.values) (sym (key_there (keys_of k.args.args.now) (case_key_of k.in-Some.k.now) (map case_key_of k.in-Some.rest.now) k.in-Some-listed_key.key.0 (sym k.listed_key.ensures ∙ ap (option_map (λ z. z.0)) k.in-Some-listed_key.is)))
    (one_packed k.args.values.now k.set_slot.new.self k.pack_keys-in-Some-listed_key.new.values key (keys_for (keys_of k.args.args.now) (map case_key_of k.in-Some.rest.now)) k.args.to _ (length (keys_for (keys_of k.args.args.now) (map case_key_of k.in-Some.rest.now))) k.key_slot.result k.packed-a.result
    (omega arith) (omega (arith, e, k.requires.before)) k.key_slot.ensures k.packed-a.ensures k.set_slot.ensures k.pack_keys-in-Some-listed_key.ensures.set k.pack_keys-in-Some-listed_key.ensures.packs))

pub returns-in-Some-listed_key-clause-set : goal.returns-in-Some-listed_key-clause-set
returns-in-Some-listed_key-clause-set n k =
    subst (λ l. IsRowSet k.args.to (length (keys_for (keys_of k.args.args.now) (map case_key_of l))) k.args.values.now k.pack_keys-in-Some-listed_key.new.values) (sym k.in-Some.ensures.cases.0)
    (subst (λ ks. IsRowSet k.args.to (length ks) k.args.values.now k.pack_keys-in-Some-listed_key.new.values) (sym (key_there (keys_of k.args.args.now) (case_key_of k.in-Some.k.now) (map case_key_of k.in-Some.rest.now) k.in-Some-listed_key.key.0 (sym k.listed_key.ensures ∙ ap (option_map (λ z. z.0)) k.in-Some-listed_key.is)))
    (row_joined k.args.values.now k.set_slot.new.self k.pack_keys-in-Some-listed_key.new.values k.args.to _ (length (keys_for (keys_of k.args.args.now) (map case_key_of k.in-Some.rest.now))) k.packed-a.result (omega arith) k.set_slot.ensures k.pack_keys-in-Some-listed_key.ensures.set))
