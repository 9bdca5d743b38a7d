use Rattle.std.proofs.Common.{◌≡◌, Err, List, ◌∷◌, ◌∙◌, rules, arith}
use Rattle.std.proofs.lemmas.Grind.{common_steps}
use Rattle.vlt_automaton.specs.Language as m
use Rattle.vlt_automaton.specs.Language.{Symbol, run}
use Rattle.vlt_parser_exprs.specs.Ahead.{lexemes_from}
use Rattle.vlt_parser.proofs.heads.result_type.Goals as goal

pub returns-in_err-value-in_default-clause-takes : goal.returns-in_err-value-in_default-clause-takes
returns-in_err-value-in_default-clause-takes c =
    let here = lexemes_from c.args.tokens.now c.args.at in
    let is : c.from_residual.result ≡ Err c.in_err-value-in_default.field-0.0 = first_of (search rules, grind (arith, common_steps)) in
    let same : (s : List Symbol) → run (m.thing m.a_result_type ∷ s) here ≡ run (m.thing m.a_ty ∷ s) here = first_of (search rules, grind (arith, common_steps)) in
    rw is (λ s f told. same s ∙ c.in_err-value-in_default.ensures.takes s f told)
