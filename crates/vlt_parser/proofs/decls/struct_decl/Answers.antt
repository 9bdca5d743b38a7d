use Rattle.std.proofs.Common.{◌≡◌, Err, ◌∷◌, ◌∙◌, ap, rules, arith}
use Rattle.std.proofs.lemmas.Grind.{common_steps}
use Rattle.std.proofs.lemmas.Result.{err_from_is_err_and}
use Rattle.vlt_automaton.specs.Language as m
use Rattle.vlt_parser.specs.Declarations.{fields_left}
use Rattle.vlt_parser.proofs.decls.struct_decl.Goals as goal

pub returns-in_err-fields-clause-takes : goal.returns-in_err-fields-clause-takes
returns-in_err-fields-clause-takes c =
    let is : c.from_residual-in_err-fields.result ≡ Err c.in_err-fields.field-0.0 = first_of (search rules, grind (arith, common_steps)) in
    rw is (λ s f told. c.in_ok-head.ensures.takes (m.fields (fields_left 0) ∷ s) ∙ c.in_err-fields.ensures.takes s f told)

pub returns-in_err-release-clause-takes : goal.returns-in_err-release-clause-takes
returns-in_err-release-clause-takes c =
    let is : c.from_residual-in_err-release.result ≡ Err c.in_err-release.field-0.0 = first_of (search rules, grind (arith, common_steps)) in
    rw is (λ s f told. c.in_ok-head.ensures.takes (m.fields (fields_left 0) ∷ s) ∙ c.in_ok-fields.ensures.takes s ∙ c.in_err-release.ensures.takes s f told)

pub returns-in_err-next-clause-takes : goal.returns-in_err-next-clause-takes
returns-in_err-next-clause-takes c =
    let is : c.from_residual-in_err-next.result ≡ Err c.in_err-next.field-0.0 =
    let told = err_from_is_err_and c.from_residual-in_err-next.result c.from_residual-in_err-next.ensures.1 in told.1 ∙ ap Err told.2 in
    rw is (λ s f told. c.in_ok-head.ensures.takes (m.fields (fields_left 0) ∷ s) ∙ c.in_ok-fields.ensures.takes s ∙ c.in_ok-release.ensures.takes s ∙ c.in_err-next.ensures.takes s f told)
