use Rattle.std.proofs.Common.{◌≡◌, Err, ◌∷◌, ◌∙◌, ap}
use Rattle.std.proofs.lemmas.Result.{err_from_is_err_and}
use Rattle.vlt_tokens.specs.declared.token.Mark.TheVariants as mark
use Rattle.vlt_automaton.specs.Language as m
use Rattle.vlt_parser_simple.proofs.simple.swap.Goals as goal

pub returns-in_err-base-clause-takes : goal.returns-in_err-base-clause-takes
returns-in_err-base-clause-takes c =
    let is : c.from_residual-in_err-base.result ≡ Err c.in_err-base.field-0.0 =
    let told = err_from_is_err_and c.from_residual-in_err-base.result c.from_residual-in_err-base.ensures.1 in told.1 ∙ ap Err told.2 in
    rw is (λ s f told. c.in_ok-next.ensures.takes (m.name ∷ m.sign mark.Dot ∷ m.name ∷ m.sign mark.Comma ∷ m.name ∷ m.sign mark.Semicolon ∷ s)
    ∙ c.in_err-base.ensures.takes (m.sign mark.Dot ∷ m.name ∷ m.sign mark.Comma ∷ m.name ∷ m.sign mark.Semicolon ∷ s) f told)

pub returns-in_err-next-2-clause-takes : goal.returns-in_err-next-2-clause-takes
returns-in_err-next-2-clause-takes c =
    let is : c.from_residual-in_err-next-2.result ≡ Err c.in_err-next-2.field-0.0 =
    let told = err_from_is_err_and c.from_residual-in_err-next-2.result c.from_residual-in_err-next-2.ensures.1 in told.1 ∙ ap Err told.2 in
    rw is (λ s f told. c.in_ok-next.ensures.takes (m.name ∷ m.sign mark.Dot ∷ m.name ∷ m.sign mark.Comma ∷ m.name ∷ m.sign mark.Semicolon ∷ s)
    ∙ c.in_ok-base.ensures.takes (m.sign mark.Dot ∷ m.name ∷ m.sign mark.Comma ∷ m.name ∷ m.sign mark.Semicolon ∷ s)
    ∙ c.in_err-next-2.ensures.takes (m.name ∷ m.sign mark.Comma ∷ m.name ∷ m.sign mark.Semicolon ∷ s) f told)

pub returns-in_err-field-clause-takes : goal.returns-in_err-field-clause-takes
returns-in_err-field-clause-takes c =
    let is : c.from_residual-in_err-field.result ≡ Err c.in_err-field.field-0.0 =
    let told = err_from_is_err_and c.from_residual-in_err-field.result c.from_residual-in_err-field.ensures.1 in told.1 ∙ ap Err told.2 in
    rw is (λ s f told. c.in_ok-next.ensures.takes (m.name ∷ m.sign mark.Dot ∷ m.name ∷ m.sign mark.Comma ∷ m.name ∷ m.sign mark.Semicolon ∷ s)
    ∙ c.in_ok-base.ensures.takes (m.sign mark.Dot ∷ m.name ∷ m.sign mark.Comma ∷ m.name ∷ m.sign mark.Semicolon ∷ s)
    ∙ c.in_ok-next-2.ensures.takes (m.name ∷ m.sign mark.Comma ∷ m.name ∷ m.sign mark.Semicolon ∷ s)
    ∙ c.in_err-field.ensures.takes (m.sign mark.Comma ∷ m.name ∷ m.sign mark.Semicolon ∷ s) f told)

pub returns-in_err-next-3-clause-takes : goal.returns-in_err-next-3-clause-takes
returns-in_err-next-3-clause-takes c =
    let is : c.from_residual-in_err-next-3.result ≡ Err c.in_err-next-3.field-0.0 =
    let told = err_from_is_err_and c.from_residual-in_err-next-3.result c.from_residual-in_err-next-3.ensures.1 in told.1 ∙ ap Err told.2 in
    rw is (λ s f told. c.in_ok-next.ensures.takes (m.name ∷ m.sign mark.Dot ∷ m.name ∷ m.sign mark.Comma ∷ m.name ∷ m.sign mark.Semicolon ∷ s)
    ∙ c.in_ok-base.ensures.takes (m.sign mark.Dot ∷ m.name ∷ m.sign mark.Comma ∷ m.name ∷ m.sign mark.Semicolon ∷ s)
    ∙ c.in_ok-next-2.ensures.takes (m.name ∷ m.sign mark.Comma ∷ m.name ∷ m.sign mark.Semicolon ∷ s)
    ∙ c.in_ok-field.ensures.takes (m.sign mark.Comma ∷ m.name ∷ m.sign mark.Semicolon ∷ s)
    ∙ c.in_err-next-3.ensures.takes (m.name ∷ m.sign mark.Semicolon ∷ s) f told)

pub returns-in_err-variable-clause-takes : goal.returns-in_err-variable-clause-takes
returns-in_err-variable-clause-takes c =
    let is : c.from_residual-in_err-variable.result ≡ Err c.in_err-variable.field-0.0 =
    let told = err_from_is_err_and c.from_residual-in_err-variable.result c.from_residual-in_err-variable.ensures.1 in told.1 ∙ ap Err told.2 in
    rw is (λ s f told. c.in_ok-next.ensures.takes (m.name ∷ m.sign mark.Dot ∷ m.name ∷ m.sign mark.Comma ∷ m.name ∷ m.sign mark.Semicolon ∷ s)
    ∙ c.in_ok-base.ensures.takes (m.sign mark.Dot ∷ m.name ∷ m.sign mark.Comma ∷ m.name ∷ m.sign mark.Semicolon ∷ s)
    ∙ c.in_ok-next-2.ensures.takes (m.name ∷ m.sign mark.Comma ∷ m.name ∷ m.sign mark.Semicolon ∷ s)
    ∙ c.in_ok-field.ensures.takes (m.sign mark.Comma ∷ m.name ∷ m.sign mark.Semicolon ∷ s)
    ∙ c.in_ok-next-3.ensures.takes (m.name ∷ m.sign mark.Semicolon ∷ s)
    ∙ c.in_err-variable.ensures.takes (m.sign mark.Semicolon ∷ s) f told)

pub returns-in_err-next-4-clause-takes : goal.returns-in_err-next-4-clause-takes
returns-in_err-next-4-clause-takes c =
    let is : c.from_residual-in_err-next-4.result ≡ Err c.in_err-next-4.field-0.0 =
    let told = err_from_is_err_and c.from_residual-in_err-next-4.result c.from_residual-in_err-next-4.ensures.1 in told.1 ∙ ap Err told.2 in
    rw is (λ s f told. c.in_ok-next.ensures.takes (m.name ∷ m.sign mark.Dot ∷ m.name ∷ m.sign mark.Comma ∷ m.name ∷ m.sign mark.Semicolon ∷ s)
    ∙ c.in_ok-base.ensures.takes (m.sign mark.Dot ∷ m.name ∷ m.sign mark.Comma ∷ m.name ∷ m.sign mark.Semicolon ∷ s)
    ∙ c.in_ok-next-2.ensures.takes (m.name ∷ m.sign mark.Comma ∷ m.name ∷ m.sign mark.Semicolon ∷ s)
    ∙ c.in_ok-field.ensures.takes (m.sign mark.Comma ∷ m.name ∷ m.sign mark.Semicolon ∷ s)
    ∙ c.in_ok-next-3.ensures.takes (m.name ∷ m.sign mark.Semicolon ∷ s)
    ∙ c.in_ok-variable.ensures.takes (m.sign mark.Semicolon ∷ s)
    ∙ c.in_err-next-4.ensures.takes s f told)
