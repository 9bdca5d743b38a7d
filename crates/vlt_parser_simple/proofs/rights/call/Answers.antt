use Rattle.std.proofs.Common.{◌≡◌, Err, None, ◌∷◌, ◌∙◌, ap}
use Rattle.std.proofs.lemmas.Result.{err_from_is_err_and}
use Rattle.vlt_tokens.specs.declared.token.Mark.TheVariants as mark
use Rattle.vlt_automaton.specs.Language as m
use Rattle.vlt_parser_simple.proofs.rights.call.Goals as goal

pub returns-in_err-next-clause-takes : goal.returns-in_err-next-clause-takes
returns-in_err-next-clause-takes c =
    let is : c.from_residual-in_err-next.result ≡ Err c.in_err-next.field-0.0 =
    let told = err_from_is_err_and c.from_residual-in_err-next.result c.from_residual-in_err-next.ensures.1 in told.1 ∙ ap Err told.2 in
    rw is (λ s f told. c.in_ok-function.ensures.takes (m.sign mark.OpenParen ∷ m.listed m.an_expr mark.CloseParen None ∷ s)
    ∙ c.in_err-next.ensures.takes (m.listed m.an_expr mark.CloseParen None ∷ s) f told)

pub returns-in_err-arguments-clause-takes : goal.returns-in_err-arguments-clause-takes
returns-in_err-arguments-clause-takes c =
    let is : c.from_residual-in_err-arguments.result ≡ Err c.in_err-arguments.field-0.0 =
    let told = err_from_is_err_and c.from_residual-in_err-arguments.result c.from_residual-in_err-arguments.ensures.1 in told.1 ∙ ap Err told.2 in
    rw is (λ s f told. c.in_ok-function.ensures.takes (m.sign mark.OpenParen ∷ m.listed m.an_expr mark.CloseParen None ∷ s)
    ∙ c.in_ok-next.ensures.takes (m.listed m.an_expr mark.CloseParen None ∷ s)
    ∙ c.in_err-arguments.ensures.takes s f told)
