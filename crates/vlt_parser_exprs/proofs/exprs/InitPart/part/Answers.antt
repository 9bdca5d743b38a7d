use Rattle.std.proofs.Common.{◌≡◌, Err, ◌∷◌, ◌∙◌, ap}
use Rattle.std.proofs.lemmas.Result.{err_from_is_err_and}
use Rattle.vlt_tokens.specs.declared.token.Mark.TheVariants as mark
use Rattle.vlt_automaton.specs.Language as m
use Rattle.vlt_parser_exprs.specs.Ahead.{lexemes_from}
use Rattle.vlt_parser_exprs.proofs.Expressions.{init_is}
use Rattle.vlt_parser_exprs.proofs.exprs.InitPart.part.Goals as goal

pub returns-in_err-field-clause-takes : goal.returns-in_err-field-clause-takes
returns-in_err-field-clause-takes c =
    let is : c.from_residual.result ≡ Err c.in_err-field.field-0.0 =
    let told = err_from_is_err_and c.from_residual.result c.from_residual.ensures.1 in told.1 ∙ ap Err told.2 in
    rw is (λ s f told. init_is s (lexemes_from c.args.tokens.now c.args.at)
    ∙ c.in_err-field.ensures.takes (m.sign mark.Colon ∷ m.thing m.an_expr ∷ s) f told)

pub returns-in_err-next-clause-takes : goal.returns-in_err-next-clause-takes
returns-in_err-next-clause-takes c =
    let is : c.from_residual-in_err-next.result ≡ Err c.in_err-next.field-0.0 =
    let told = err_from_is_err_and c.from_residual-in_err-next.result c.from_residual-in_err-next.ensures.1 in told.1 ∙ ap Err told.2 in
    rw is (λ s f told. init_is s (lexemes_from c.args.tokens.now c.args.at)
    ∙ c.in_ok-field.ensures.takes (m.sign mark.Colon ∷ m.thing m.an_expr ∷ s)
    ∙ c.in_err-next.ensures.takes (m.thing m.an_expr ∷ s) f told)

pub returns-in_err-value-clause-takes : goal.returns-in_err-value-clause-takes
returns-in_err-value-clause-takes c =
    let is : c.from_residual-in_err-value.result ≡ Err c.in_err-value.field-0.0 =
    let told = err_from_is_err_and c.from_residual-in_err-value.result c.from_residual-in_err-value.ensures.1 in told.1 ∙ ap Err told.2 in
    rw is (λ s f told. init_is s (lexemes_from c.args.tokens.now c.args.at)
    ∙ c.in_ok-field.ensures.takes (m.sign mark.Colon ∷ m.thing m.an_expr ∷ s)
    ∙ c.in_ok-next.ensures.takes (m.thing m.an_expr ∷ s)
    ∙ c.in_err-value.ensures.takes s f told)
