use Rattle.std.proofs.Common.{◌≡◌, Err, None, ◌∷◌, ◌∙◌, ap}
use Rattle.std.proofs.lemmas.Result.{err_from_is_err_and}
use Rattle.vlt_tokens.specs.declared.token.Mark.TheVariants as mark
use Rattle.vlt_automaton.specs.Language as m
use Rattle.vlt_parser_stmts.proofs.stmts.arm_head.Goals as goal

pub returns-in_err-case-clause-takes : goal.returns-in_err-case-clause-takes
returns-in_err-case-clause-takes c =
    let is : c.from_residual-in_err-case.result ≡ Err c.in_err-case.field-0.0 =
    let told = err_from_is_err_and c.from_residual-in_err-case.result c.from_residual-in_err-case.ensures.1 in told.1 ∙ ap Err told.2 in
    rw is (λ s f told. c.in_ok-next.ensures.takes (m.tick ∷ m.enclosed m.a_name mark.OpenParen mark.CloseParen None ∷ m.sign mark.Colon ∷ s)
    ∙ c.in_err-case.ensures.takes (m.enclosed m.a_name mark.OpenParen mark.CloseParen None ∷ m.sign mark.Colon ∷ s) f told)

pub returns-in_err-variables-clause-takes : goal.returns-in_err-variables-clause-takes
returns-in_err-variables-clause-takes c =
    let is : c.from_residual-in_err-variables.result ≡ Err c.in_err-variables.field-0.0 =
    let told = err_from_is_err_and c.from_residual-in_err-variables.result c.from_residual-in_err-variables.ensures.1 in told.1 ∙ ap Err told.2 in
    rw is (λ s f told. c.in_ok-next.ensures.takes (m.tick ∷ m.enclosed m.a_name mark.OpenParen mark.CloseParen None ∷ m.sign mark.Colon ∷ s)
    ∙ c.in_ok-case.ensures.takes (m.enclosed m.a_name mark.OpenParen mark.CloseParen None ∷ m.sign mark.Colon ∷ s)
    ∙ c.in_err-variables.ensures.takes (m.sign mark.Colon ∷ s) f told)

pub returns-in_err-next-2-clause-takes : goal.returns-in_err-next-2-clause-takes
returns-in_err-next-2-clause-takes c =
    let is : c.from_residual-in_err-next-2.result ≡ Err c.in_err-next-2.field-0.0 =
    let told = err_from_is_err_and c.from_residual-in_err-next-2.result c.from_residual-in_err-next-2.ensures.1 in told.1 ∙ ap Err told.2 in
    rw is (λ s f told. c.in_ok-next.ensures.takes (m.tick ∷ m.enclosed m.a_name mark.OpenParen mark.CloseParen None ∷ m.sign mark.Colon ∷ s)
    ∙ c.in_ok-case.ensures.takes (m.enclosed m.a_name mark.OpenParen mark.CloseParen None ∷ m.sign mark.Colon ∷ s)
    ∙ c.in_ok-variables.ensures.takes (m.sign mark.Colon ∷ s)
    ∙ c.in_err-next-2.ensures.takes s f told)
