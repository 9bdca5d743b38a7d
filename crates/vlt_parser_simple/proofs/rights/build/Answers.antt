use Rattle.std.proofs.Common.{◌≡◌, Err, None, ◌∷◌, ◌∙◌, ap}
use Rattle.std.proofs.lemmas.Result.{err_from_is_err_and}
use Rattle.vlt_tokens.specs.declared.token.Mark.TheVariants as mark
use Rattle.vlt_automaton.specs.Language as m
use Rattle.vlt_parser_simple.proofs.rights.build.Goals as goal

pub returns-in_err-payload-clause-takes : goal.returns-in_err-payload-clause-takes
returns-in_err-payload-clause-takes c =
    let is : c.from_residual-in_err-payload.result ≡ Err c.in_err-payload.field-0.0 =
    let told = err_from_is_err_and c.from_residual-in_err-payload.result c.from_residual-in_err-payload.ensures.1 in told.1 ∙ ap Err told.2 in
    rw is (λ s f told. c.in_ok-case.ensures.takes (m.enclosed m.an_expr mark.OpenParen mark.CloseParen None ∷ s)
    ∙ c.in_err-payload.ensures.takes s f told)
