use Rattle.std.proofs.Common.{map, sym, ap, ◌∙◌, subst}
use Rattle.std.specs.Option.{option_map}
use Rattle.vlt_core.specs.View.{keys_of, case_key_of}
use Rattle.vlt_externals.specs.HostAnswers.Read.{same}
use Rattle.vlt_externals.proofs.OfHostAnswers.Reading.{as_some}
use Rattle.vlt_externals.specs.Results.Stated.{SetsCase}
use Rattle.vlt_externals.proofs.OfResults.Setting.{first_key}
use Rattle.vlt_externals.proofs.results.states.+set_case.Goals as goal

pub returns-in-Some-state-clause-sets : goal.returns-in-Some-state-clause-sets
returns-in-Some-state-clause-sets t c =
    subst (λ ks. SetsCase (keys_of c.args.keys.now) (keys_of c.args.args.now) (map case_key_of ks) c.args.left.now c.args.values.now c.args.heap.now c.set_case.new.heap) (sym c.in-Some.ensures.cases.0)
    (first_key (keys_of c.args.keys.now) (keys_of c.args.args.now) c.args.heap.now c.set_state.new.heap c.set_case.new.heap c.args.values.now (case_key_of c.in-Some.k.now) (map case_key_of c.in-Some.rest.now) c.args.left.now c.in-Some-state.left.now c.in-Some-case_key.key.0 c.in-Some-state.s
    (sym c.case_key.ensures ∙ ap (option_map (λ k. k.0)) c.in-Some-case_key.is) (as_some same c.state.result _ _ _ c.in-Some-state.is c.state.ensures) c.set_state.ensures.becomes c.set_case.ensures.sets)
