use Rattle.std.proofs.Common.{map, sym, ap, ◌∙◌, subst}
use Rattle.std.specs.Option.{option_map}
use Rattle.vlt_core.specs.View.{keys_of, case_key_of}
use Rattle.vlt_externals.specs.Results.Stated.{ComesOneLoose, ComesLoose}
use Rattle.vlt_externals.proofs.OfResults.Loosing.{both_loose}
use Rattle.vlt_externals.proofs.results.states.+take_case.Goals as goal

pub returns-else-not-take_key-clause-back : goal.returns-else-not-take_key-clause-back
returns-else-not-take_key-clause-back t c =
    subst (λ ks. ComesLoose (keys_of c.args.keys.now) (keys_of c.args.args.now) (map case_key_of ks) c.args.values.now c.args.heap.now c.take_case.new.heap c.take_case.result) (sym c.in-Some.ensures.cases.0)
    (both_loose (keys_of c.args.keys.now) (keys_of c.args.args.now) c.args.heap.now c.take_key.new.heap c.take_case.new.heap c.args.values.now (case_key_of c.in-Some.k.now) (map case_key_of c.in-Some.rest.now) c.in-Some-case_key.key.0 c.take_case.result
    (sym c.case_key.ensures ∙ ap (option_map (λ k. k.0)) c.in-Some-case_key.is)
    (subst (λ b. ComesOneLoose c.in-Some-case_key.key.0 c.args.values.now c.args.heap.now c.take_key.new.heap b) c.if-not-take_key.false c.take_key.ensures.back) c.take_case.ensures.back)
