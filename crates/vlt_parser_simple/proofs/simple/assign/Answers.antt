use Rattle.std.proofs.Common.{◌≡◌, Err, ◌∷◌, ◌∙◌, ap}
use Rattle.std.proofs.lemmas.Result.{err_from_is_err_and}
use Rattle.vlt_tokens.specs.declared.token.Mark.TheVariants as mark
use Rattle.vlt_automaton.specs.Language as m
use Rattle.vlt_parser_simple.proofs.simple.assign.Goals as goal

pub returns-in_err-value-clause-takes : goal.returns-in_err-value-clause-takes
returns-in_err-value-clause-takes c =
    let is : c.from_residual-in_err-value.result ≡ Err c.in_err-value.field-0.0 =
    let told = err_from_is_err_and c.from_residual-in_err-value.result c.from_residual-in_err-value.ensures.1 in told.1 ∙ ap Err told.2 in
    rw is (λ s f told. c.in_ok-name.ensures.takes (m.sign mark.Assign ∷ m.right ∷ m.sign mark.Semicolon ∷ s)
    ∙ c.in_err-value.ensures.takes s f told)
