use Rattle.std.proofs.Common.{◌≡◌, Err, ◌∷◌, ◌∙◌, ap}
use Rattle.std.proofs.lemmas.Result.{err_from_is_err_and}
use Rattle.vlt_tokens.specs.declared.token.Mark.TheVariants as mark
use Rattle.vlt_automaton.specs.Language as m
use Rattle.vlt_parser_simple.proofs.simple.return_stmt.Goals as goal

pub returns-in_err-value-clause-takes : goal.returns-in_err-value-clause-takes
returns-in_err-value-clause-takes c =
    let is : c.from_residual-in_err-value.result ≡ Err c.in_err-value.field-0.0 =
    let told = err_from_is_err_and c.from_residual-in_err-value.result c.from_residual-in_err-value.ensures.1 in told.1 ∙ ap Err told.2 in
    rw is (λ s f told. c.in_ok-next.ensures.takes (m.returned ∷ m.sign mark.Semicolon ∷ s)
    ∙ c.in_err-value.ensures.takes (m.sign mark.Semicolon ∷ s) f told)

pub returns-in_err-next-2-clause-takes : goal.returns-in_err-next-2-clause-takes
returns-in_err-next-2-clause-takes c =
    let is : c.from_residual-in_err-next-2.result ≡ Err c.in_err-next-2.field-0.0 =
    let told = err_from_is_err_and c.from_residual-in_err-next-2.result c.from_residual-in_err-next-2.ensures.1 in told.1 ∙ ap Err told.2 in
    rw is (λ s f told. c.in_ok-next.ensures.takes (m.returned ∷ m.sign mark.Semicolon ∷ s)
    ∙ c.in_ok-value.ensures.takes (m.sign mark.Semicolon ∷ s)
    ∙ c.in_err-next-2.ensures.takes s f told)
