use Rattle.std.proofs.Common.{◌≡◌, Err, ◌∷◌, ◌∙◌, ap}
use Rattle.std.proofs.lemmas.Result.{err_from_is_err_and}
use Rattle.vlt_automaton.specs.Language as m
use Rattle.vlt_parser_exprs.specs.Ahead.{lexemes_from}
use Rattle.vlt_parser_exprs.proofs.Runs.{key_is}
use Rattle.vlt_parser_exprs.proofs.types.key_states.Goals as goal

pub returns-in_err-key-clause-takes : goal.returns-in_err-key-clause-takes
returns-in_err-key-clause-takes c =
    let is : c.from_residual.result ≡ Err c.in_err-key.field-0.0 =
    let told = err_from_is_err_and c.from_residual.result c.from_residual.ensures.1 in told.1 ∙ ap Err told.2 in
    rw is (λ s f told. key_is s (lexemes_from c.args.tokens.now c.args.at)
    ∙ c.in_err-key.ensures.takes (m.at_states ∷ s) f told)

pub returns-in_err-states-clause-takes : goal.returns-in_err-states-clause-takes
returns-in_err-states-clause-takes c =
    let is : c.from_residual-in_err-states.result ≡ Err c.in_err-states.field-0.0 =
    let told = err_from_is_err_and c.from_residual-in_err-states.result c.from_residual-in_err-states.ensures.1 in told.1 ∙ ap Err told.2 in
    rw is (λ s f told. key_is s (lexemes_from c.args.tokens.now c.args.at)
    ∙ c.in_ok-key.ensures.takes (m.at_states ∷ s)
    ∙ c.in_err-states.ensures.takes s f told)
