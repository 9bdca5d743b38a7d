use Rattle.std.proofs.Common.{◌≡◌, Err, ◌∷◌, ◌∙◌, rules, arith}
use Rattle.std.proofs.lemmas.Grind.{common_steps}
use Rattle.vlt_tokens.specs.declared.token.Mark.TheVariants as mark
use Rattle.vlt_automaton.specs.Language as m
use Rattle.vlt_parser.proofs.decls.field.Goals as goal

pub returns-in_err-named-clause-takes : goal.returns-in_err-named-clause-takes
returns-in_err-named-clause-takes c =
    let is : c.from_residual-in_err-named.result ≡ Err c.in_err-named.field-0.0 = first_of (search rules, grind (arith, common_steps)) in
    rw is (λ s f told. c.in_ok-ty.ensures.takes (m.name ∷ m.at_states ∷ m.sign mark.Semicolon ∷ s) ∙ c.in_err-named.ensures.takes s f told)
