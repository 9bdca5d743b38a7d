use Rattle.std.proofs.Common.{◌≡◌, Err, None, ◌∷◌, ◌∙◌, ap}
use Rattle.std.proofs.lemmas.Result.{err_from_is_err_and}
use Rattle.vlt_tokens.specs.declared.token.Mark.TheVariants as mark
use Rattle.vlt_automaton.specs.Language as m
use Rattle.vlt_parser_exprs.specs.Ahead.{lexemes_from}
use Rattle.vlt_parser_exprs.proofs.Runs.{named_is}
use Rattle.vlt_parser_exprs.proofs.types.named.Goals as goal

pub returns-in_err-name-clause-takes : goal.returns-in_err-name-clause-takes
returns-in_err-name-clause-takes c =
    let is : c.from_residual.result ≡ Err c.in_err-name.field-0.0 =
    let told = err_from_is_err_and c.from_residual.result c.from_residual.ensures.1 in told.1 ∙ ap Err told.2 in
    rw is (λ s f told. named_is s (lexemes_from c.args.tokens.now c.args.at)
    ∙ c.in_err-name.ensures.takes (m.enclosed m.a_name mark.Less mark.Greater None ∷ s) f told)

pub returns-in_err-keys-clause-takes : goal.returns-in_err-keys-clause-takes
returns-in_err-keys-clause-takes c =
    let is : c.from_residual-in_err-keys.result ≡ Err c.in_err-keys.field-0.0 =
    let told = err_from_is_err_and c.from_residual-in_err-keys.result c.from_residual-in_err-keys.ensures.1 in told.1 ∙ ap Err told.2 in
    rw is (λ s f told. named_is s (lexemes_from c.args.tokens.now c.args.at)
    ∙ c.in_ok-name.ensures.takes (m.enclosed m.a_name mark.Less mark.Greater None ∷ s)
    ∙ c.in_err-keys.ensures.takes s f told)
