use Rattle.std.proofs.Common.{◌≡◌, Err, ◌∷◌, ◌∙◌, ap}
use Rattle.std.proofs.lemmas.Result.{err_from_is_err_and}
use Rattle.vlt_tokens.specs.declared.token.Word.TheVariants as word
use Rattle.vlt_automaton.specs.Language as m
use Rattle.vlt_parser_simple.proofs.rights.adopt.Goals as goal

pub returns-in_err-next-clause-takes : goal.returns-in_err-next-clause-takes
returns-in_err-next-clause-takes c =
    let is : c.from_residual-in_err-next.result ≡ Err c.in_err-next.field-0.0 =
    let told = err_from_is_err_and c.from_residual-in_err-next.result c.from_residual-in_err-next.ensures.1 in told.1 ∙ ap Err told.2 in
    rw is (λ s f told. c.in_ok-variable.ensures.takes (m.keyword word.Into ∷ m.name ∷ s)
    ∙ c.in_err-next.ensures.takes (m.name ∷ s) f told)

pub returns-in_err-owner-clause-takes : goal.returns-in_err-owner-clause-takes
returns-in_err-owner-clause-takes c =
    let is : c.from_residual-in_err-owner.result ≡ Err c.in_err-owner.field-0.0 =
    let told = err_from_is_err_and c.from_residual-in_err-owner.result c.from_residual-in_err-owner.ensures.1 in told.1 ∙ ap Err told.2 in
    rw is (λ s f told. c.in_ok-variable.ensures.takes (m.keyword word.Into ∷ m.name ∷ s)
    ∙ c.in_ok-next.ensures.takes (m.name ∷ s)
    ∙ c.in_err-owner.ensures.takes s f told)
