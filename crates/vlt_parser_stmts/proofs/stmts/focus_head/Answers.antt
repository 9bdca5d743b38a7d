use Rattle.std.proofs.Common.{◌≡◌, Err, ◌∷◌, ◌∙◌, ap}
use Rattle.std.proofs.lemmas.Result.{err_from_is_err_and}
use Rattle.vlt_tokens.specs.declared.token.Word.TheVariants as word
use Rattle.vlt_tokens.specs.declared.token.Mark.TheVariants as mark
use Rattle.vlt_automaton.specs.Language as m
use Rattle.vlt_parser_stmts.proofs.stmts.focus_head.Goals as goal

pub returns-in_err-variable-clause-takes : goal.returns-in_err-variable-clause-takes
returns-in_err-variable-clause-takes c =
    let is : c.from_residual-in_err-variable.result ≡ Err c.in_err-variable.field-0.0 =
    let told = err_from_is_err_and c.from_residual-in_err-variable.result c.from_residual-in_err-variable.ensures.1 in told.1 ∙ ap Err told.2 in
    rw is (λ s f told. c.in_ok-next.ensures.takes (m.name ∷ m.keyword word.As ∷ m.keyword word.Tracked ∷ m.sign mark.OpenParen ∷ m.name ∷ m.sign mark.CloseParen ∷ m.name ∷ s)
    ∙ c.in_err-variable.ensures.takes (m.keyword word.As ∷ m.keyword word.Tracked ∷ m.sign mark.OpenParen ∷ m.name ∷ m.sign mark.CloseParen ∷ m.name ∷ s) f told)

pub returns-in_err-next-2-clause-takes : goal.returns-in_err-next-2-clause-takes
returns-in_err-next-2-clause-takes c =
    let is : c.from_residual-in_err-next-2.result ≡ Err c.in_err-next-2.field-0.0 =
    let told = err_from_is_err_and c.from_residual-in_err-next-2.result c.from_residual-in_err-next-2.ensures.1 in told.1 ∙ ap Err told.2 in
    rw is (λ s f told. c.in_ok-next.ensures.takes (m.name ∷ m.keyword word.As ∷ m.keyword word.Tracked ∷ m.sign mark.OpenParen ∷ m.name ∷ m.sign mark.CloseParen ∷ m.name ∷ s)
    ∙ c.in_ok-variable.ensures.takes (m.keyword word.As ∷ m.keyword word.Tracked ∷ m.sign mark.OpenParen ∷ m.name ∷ m.sign mark.CloseParen ∷ m.name ∷ s)
    ∙ c.in_err-next-2.ensures.takes (m.keyword word.Tracked ∷ m.sign mark.OpenParen ∷ m.name ∷ m.sign mark.CloseParen ∷ m.name ∷ s) f told)

pub returns-in_err-next-3-clause-takes : goal.returns-in_err-next-3-clause-takes
returns-in_err-next-3-clause-takes c =
    let is : c.from_residual-in_err-next-3.result ≡ Err c.in_err-next-3.field-0.0 =
    let told = err_from_is_err_and c.from_residual-in_err-next-3.result c.from_residual-in_err-next-3.ensures.1 in told.1 ∙ ap Err told.2 in
    rw is (λ s f told. c.in_ok-next.ensures.takes (m.name ∷ m.keyword word.As ∷ m.keyword word.Tracked ∷ m.sign mark.OpenParen ∷ m.name ∷ m.sign mark.CloseParen ∷ m.name ∷ s)
    ∙ c.in_ok-variable.ensures.takes (m.keyword word.As ∷ m.keyword word.Tracked ∷ m.sign mark.OpenParen ∷ m.name ∷ m.sign mark.CloseParen ∷ m.name ∷ s)
    ∙ c.in_ok-next-2.ensures.takes (m.keyword word.Tracked ∷ m.sign mark.OpenParen ∷ m.name ∷ m.sign mark.CloseParen ∷ m.name ∷ s)
    ∙ c.in_err-next-3.ensures.takes (m.sign mark.OpenParen ∷ m.name ∷ m.sign mark.CloseParen ∷ m.name ∷ s) f told)

pub returns-in_err-next-4-clause-takes : goal.returns-in_err-next-4-clause-takes
returns-in_err-next-4-clause-takes c =
    let is : c.from_residual-in_err-next-4.result ≡ Err c.in_err-next-4.field-0.0 =
    let told = err_from_is_err_and c.from_residual-in_err-next-4.result c.from_residual-in_err-next-4.ensures.1 in told.1 ∙ ap Err told.2 in
    rw is (λ s f told. c.in_ok-next.ensures.takes (m.name ∷ m.keyword word.As ∷ m.keyword word.Tracked ∷ m.sign mark.OpenParen ∷ m.name ∷ m.sign mark.CloseParen ∷ m.name ∷ s)
    ∙ c.in_ok-variable.ensures.takes (m.keyword word.As ∷ m.keyword word.Tracked ∷ m.sign mark.OpenParen ∷ m.name ∷ m.sign mark.CloseParen ∷ m.name ∷ s)
    ∙ c.in_ok-next-2.ensures.takes (m.keyword word.Tracked ∷ m.sign mark.OpenParen ∷ m.name ∷ m.sign mark.CloseParen ∷ m.name ∷ s)
    ∙ c.in_ok-next-3.ensures.takes (m.sign mark.OpenParen ∷ m.name ∷ m.sign mark.CloseParen ∷ m.name ∷ s)
    ∙ c.in_err-next-4.ensures.takes (m.name ∷ m.sign mark.CloseParen ∷ m.name ∷ s) f told)

pub returns-in_err-key-clause-takes : goal.returns-in_err-key-clause-takes
returns-in_err-key-clause-takes c =
    let is : c.from_residual-in_err-key.result ≡ Err c.in_err-key.field-0.0 =
    let told = err_from_is_err_and c.from_residual-in_err-key.result c.from_residual-in_err-key.ensures.1 in told.1 ∙ ap Err told.2 in
    rw is (λ s f told. c.in_ok-next.ensures.takes (m.name ∷ m.keyword word.As ∷ m.keyword word.Tracked ∷ m.sign mark.OpenParen ∷ m.name ∷ m.sign mark.CloseParen ∷ m.name ∷ s)
    ∙ c.in_ok-variable.ensures.takes (m.keyword word.As ∷ m.keyword word.Tracked ∷ m.sign mark.OpenParen ∷ m.name ∷ m.sign mark.CloseParen ∷ m.name ∷ s)
    ∙ c.in_ok-next-2.ensures.takes (m.keyword word.Tracked ∷ m.sign mark.OpenParen ∷ m.name ∷ m.sign mark.CloseParen ∷ m.name ∷ s)
    ∙ c.in_ok-next-3.ensures.takes (m.sign mark.OpenParen ∷ m.name ∷ m.sign mark.CloseParen ∷ m.name ∷ s)
    ∙ c.in_ok-next-4.ensures.takes (m.name ∷ m.sign mark.CloseParen ∷ m.name ∷ s)
    ∙ c.in_err-key.ensures.takes (m.sign mark.CloseParen ∷ m.name ∷ s) f told)

pub returns-in_err-next-5-clause-takes : goal.returns-in_err-next-5-clause-takes
returns-in_err-next-5-clause-takes c =
    let is : c.from_residual-in_err-next-5.result ≡ Err c.in_err-next-5.field-0.0 =
    let told = err_from_is_err_and c.from_residual-in_err-next-5.result c.from_residual-in_err-next-5.ensures.1 in told.1 ∙ ap Err told.2 in
    rw is (λ s f told. c.in_ok-next.ensures.takes (m.name ∷ m.keyword word.As ∷ m.keyword word.Tracked ∷ m.sign mark.OpenParen ∷ m.name ∷ m.sign mark.CloseParen ∷ m.name ∷ s)
    ∙ c.in_ok-variable.ensures.takes (m.keyword word.As ∷ m.keyword word.Tracked ∷ m.sign mark.OpenParen ∷ m.name ∷ m.sign mark.CloseParen ∷ m.name ∷ s)
    ∙ c.in_ok-next-2.ensures.takes (m.keyword word.Tracked ∷ m.sign mark.OpenParen ∷ m.name ∷ m.sign mark.CloseParen ∷ m.name ∷ s)
    ∙ c.in_ok-next-3.ensures.takes (m.sign mark.OpenParen ∷ m.name ∷ m.sign mark.CloseParen ∷ m.name ∷ s)
    ∙ c.in_ok-next-4.ensures.takes (m.name ∷ m.sign mark.CloseParen ∷ m.name ∷ s)
    ∙ c.in_ok-key.ensures.takes (m.sign mark.CloseParen ∷ m.name ∷ s)
    ∙ c.in_err-next-5.ensures.takes (m.name ∷ s) f told)

pub returns-in_err-alias-clause-takes : goal.returns-in_err-alias-clause-takes
returns-in_err-alias-clause-takes c =
    let is : c.from_residual-in_err-alias.result ≡ Err c.in_err-alias.field-0.0 =
    let told = err_from_is_err_and c.from_residual-in_err-alias.result c.from_residual-in_err-alias.ensures.1 in told.1 ∙ ap Err told.2 in
    rw is (λ s f told. c.in_ok-next.ensures.takes (m.name ∷ m.keyword word.As ∷ m.keyword word.Tracked ∷ m.sign mark.OpenParen ∷ m.name ∷ m.sign mark.CloseParen ∷ m.name ∷ s)
    ∙ c.in_ok-variable.ensures.takes (m.keyword word.As ∷ m.keyword word.Tracked ∷ m.sign mark.OpenParen ∷ m.name ∷ m.sign mark.CloseParen ∷ m.name ∷ s)
    ∙ c.in_ok-next-2.ensures.takes (m.keyword word.Tracked ∷ m.sign mark.OpenParen ∷ m.name ∷ m.sign mark.CloseParen ∷ m.name ∷ s)
    ∙ c.in_ok-next-3.ensures.takes (m.sign mark.OpenParen ∷ m.name ∷ m.sign mark.CloseParen ∷ m.name ∷ s)
    ∙ c.in_ok-next-4.ensures.takes (m.name ∷ m.sign mark.CloseParen ∷ m.name ∷ s)
    ∙ c.in_ok-key.ensures.takes (m.sign mark.CloseParen ∷ m.name ∷ s)
    ∙ c.in_ok-next-5.ensures.takes (m.name ∷ s)
    ∙ c.in_err-alias.ensures.takes s f told)
