use Rattle.std.proofs.Common.{◌≡◌, Err, ◌∷◌, ◌∙◌, rules, arith}
use Rattle.std.proofs.lemmas.Grind.{common_steps}
use Rattle.vlt_automaton.specs.Language as m
use Rattle.vlt_parser_exprs.specs.Ahead.{lexemes_from}
use Rattle.vlt_parser_exprs.proofs.Expressions.{variable_dot}
use Rattle.vlt_parser_exprs.proofs.exprs.variable.Goals as goal

pub returns-in_err-field-in-Some-clause-takes : goal.returns-in_err-field-in-Some-clause-takes
returns-in_err-field-in-Some-clause-takes c = λ fs.
    let tokens = c.args.tokens.now in
    let is : c.from_residual-in_err-field-in-Some.result ≡ Err c.in_err-field-in-Some.field-0.0 = first_of (search rules, grind (arith, common_steps)) in
    rw is (λ s f told. c.in_ok-base.ensures.takes (m.after_variable 1 fs ∷ s) ∙ variable_dot fs s (lexemes_from tokens c.in_ok-base.next) (lexemes_from tokens c.in-Some.next) c.in-Some.ensures.ahead ∙ c.in_err-field-in-Some.ensures.takes (m.after_operand 1 fs ∷ s) f told)
