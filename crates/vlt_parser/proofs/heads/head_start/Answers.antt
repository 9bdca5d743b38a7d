use Rattle.std.proofs.Common.{◌≡◌, Err, ◌∷◌, ◌∙◌, ap}
use Rattle.std.proofs.lemmas.Result.{err_from_is_err_and}
use Rattle.vlt_tokens.specs.declared.token.Mark.TheVariants as mark
use Rattle.vlt_automaton.specs.Language as m
use Rattle.vlt_parser.proofs.heads.head_start.Goals as goal

pub returns-in_err-name-clause-takes : goal.returns-in_err-name-clause-takes
returns-in_err-name-clause-takes c =
    let is : c.from_residual-in_err-name.result ≡ Err c.in_err-name.field-0.0 =
    let told = err_from_is_err_and c.from_residual-in_err-name.result c.from_residual-in_err-name.ensures.1 in told.1 ∙ ap Err told.2 in
    rw is (λ s f told. c.in_ok-result_type.ensures.takes (m.name ∷ m.sign mark.OpenParen ∷ s) ∙ c.in_err-name.ensures.takes (m.sign mark.OpenParen ∷ s) f told)
