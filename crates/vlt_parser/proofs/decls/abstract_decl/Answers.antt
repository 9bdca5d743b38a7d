use Rattle.std.proofs.Common.{◌≡◌, Err, ◌∷◌, ◌∙◌, ap}
use Rattle.std.proofs.lemmas.Result.{err_from_is_err_and}
use Rattle.vlt_tokens.specs.declared.token.Mark.TheVariants as mark
use Rattle.vlt_automaton.specs.Language as m
use Rattle.vlt_parser.proofs.decls.abstract_decl.Goals as goal

pub returns-in_err-name-clause-takes : goal.returns-in_err-name-clause-takes
returns-in_err-name-clause-takes c =
    let is : c.from_residual-in_err-name.result ≡ Err c.in_err-name.field-0.0 =
    let told = err_from_is_err_and c.from_residual-in_err-name.result c.from_residual-in_err-name.ensures.1 in told.1 ∙ ap Err told.2 in
    rw is (λ s f told. c.in_ok-next.ensures.takes (m.name ∷ m.marked_name mark.At ∷ m.sign mark.Semicolon ∷ s)
    ∙ c.in_err-name.ensures.takes (m.marked_name mark.At ∷ m.sign mark.Semicolon ∷ s) f told)

pub returns-in_err-states-clause-takes : goal.returns-in_err-states-clause-takes
returns-in_err-states-clause-takes c =
    let is : c.from_residual-in_err-states.result ≡ Err c.in_err-states.field-0.0 =
    let told = err_from_is_err_and c.from_residual-in_err-states.result c.from_residual-in_err-states.ensures.1 in told.1 ∙ ap Err told.2 in
    rw is (λ s f told. c.in_ok-next.ensures.takes (m.name ∷ m.marked_name mark.At ∷ m.sign mark.Semicolon ∷ s)
    ∙ c.in_ok-name.ensures.takes (m.marked_name mark.At ∷ m.sign mark.Semicolon ∷ s)
    ∙ c.in_err-states.ensures.takes (m.sign mark.Semicolon ∷ s) f told)

pub returns-in_err-next-2-clause-takes : goal.returns-in_err-next-2-clause-takes
returns-in_err-next-2-clause-takes c =
    let is : c.from_residual-in_err-next-2.result ≡ Err c.in_err-next-2.field-0.0 =
    let told = err_from_is_err_and c.from_residual-in_err-next-2.result c.from_residual-in_err-next-2.ensures.1 in told.1 ∙ ap Err told.2 in
    rw is (λ s f told. c.in_ok-next.ensures.takes (m.name ∷ m.marked_name mark.At ∷ m.sign mark.Semicolon ∷ s)
    ∙ c.in_ok-name.ensures.takes (m.marked_name mark.At ∷ m.sign mark.Semicolon ∷ s)
    ∙ c.in_ok-states.ensures.takes (m.sign mark.Semicolon ∷ s)
    ∙ c.in_err-next-2.ensures.takes s f told)
