use Rattle.std.proofs.Common.{◌≡◌, Err, ◌∷◌, ◌∙◌, rules, arith}
use Rattle.std.proofs.lemmas.Grind.{common_steps}
use Rattle.vlt_tokens.specs.declared.token.Mark.TheVariants as mark
use Rattle.vlt_automaton.specs.Language as m
use Rattle.vlt_parser_exprs.specs.Ahead.{lexemes_from}
use Rattle.vlt_parser.proofs.Functions.{head_read}
use Rattle.vlt_parser.proofs.heads.head.Goals as goal

pub returns-in_err-parameters-clause-takes : goal.returns-in_err-parameters-clause-takes
returns-in_err-parameters-clause-takes c =
    let places = lexemes_from c.args.tokens.now in
    let is : c.from_residual-in_err-parameters.result ≡ Err c.in_err-parameters.field-0.0 = first_of (search rules, grind (arith, common_steps)) in
    rw is (λ s f told.
    head_read c.bound.result s (places c.args.at) (places c.in_ok-start.next) c.bound.ensures.limit c.bound.ensures.count
    (c.in_ok-start.ensures.takes (m.listed m.a_parameter mark.CloseParen m.parameters_left ∷ m.clause ∷ s))
    ∙ c.in_err-parameters.ensures.takes (m.clause ∷ s) f told)

pub returns-in_err-clause-clause-takes : goal.returns-in_err-clause-clause-takes
returns-in_err-clause-clause-takes c =
    let places = lexemes_from c.args.tokens.now in
    let is : c.from_residual-in_err-clause.result ≡ Err c.in_err-clause.field-0.0 = first_of (search rules, grind (arith, common_steps)) in
    rw is (λ s f told.
    head_read c.bound.result s (places c.args.at) (places c.in_ok-start.next) c.bound.ensures.limit c.bound.ensures.count
    (c.in_ok-start.ensures.takes (m.listed m.a_parameter mark.CloseParen m.parameters_left ∷ m.clause ∷ s))
    ∙ c.in_ok-parameters.ensures.takes (m.clause ∷ s) ∙ c.in_err-clause.ensures.takes s f told)
