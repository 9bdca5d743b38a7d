use Rattle.std.proofs.Common.{◌≡◌, Err, ◌∷◌, ◌∙◌, rules, arith}
use Rattle.std.proofs.lemmas.Grind.{common_steps}
use Rattle.vlt_automaton.specs.Language as m
use Rattle.vlt_parser_exprs.specs.Ahead.{lexemes_from}
use Rattle.vlt_parser_exprs.proofs.Functions.{parameter_is}
use Rattle.vlt_parser_exprs.proofs.parameters.ParameterPart.part.Goals as goal

pub returns-in_err-name-clause-takes : goal.returns-in_err-name-clause-takes
returns-in_err-name-clause-takes c =
    let is : c.from_residual-in_err-name.result ≡ Err c.in_err-name.field-0.0 = first_of (search rules, grind (arith, common_steps)) in
    rw is (λ s f told. parameter_is s (lexemes_from c.args.tokens.now c.args.at) ∙ c.in_ok-ty.ensures.takes (m.name ∷ s) ∙ c.in_err-name.ensures.takes s f told)
