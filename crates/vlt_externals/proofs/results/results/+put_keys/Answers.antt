use Rattle.std.proofs.Common.{map, length, sym, ap, ◌∙◌, subst, arith}
use Rattle.std.specs.Option.{option_map}
use Rattle.vlt_core.specs.View.{keys_of, case_key_of}
use Rattle.vlt_externals.specs.Results.Results.{PutsKeys}
use Rattle.vlt_externals.proofs.OfResults.Casing.{keys_one}
use Rattle.vlt_externals.proofs.results.results.+put_keys.Goals as goal

pub returns-in-Some-case_key-clause-puts : goal.returns-in-Some-case_key-clause-puts
returns-in-Some-case_key-clause-puts t c =
    subst (λ ks. PutsKeys (keys_of c.args.keys.now) (keys_of c.args.args.now) (map case_key_of ks) c.args.to c.args.values.now c.put_keys.new.values) (sym c.in-Some.ensures.cases.0)
    (keys_one (keys_of c.args.keys.now) (keys_of c.args.args.now) (case_key_of c.in-Some.k.now) (map case_key_of c.in-Some.rest.now) c.args.values.now c.set_slot.new.self c.put_keys.new.values c.args.to _ (length c.in-Some.rest.now) c.in-Some-case_key.key.0 c.key_slot.result c.packed-a.result
    (omega arith) (sym c.case_key.ensures ∙ ap (option_map (λ k. k.0)) c.in-Some-case_key.is) c.key_slot.ensures c.packed-a.ensures c.set_slot.ensures c.put_keys.ensures.set c.put_keys.ensures.puts)
