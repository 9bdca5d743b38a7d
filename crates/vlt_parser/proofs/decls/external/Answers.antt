use Rattle.std.proofs.Common.{◌≡◌, Err, ◌∷◌, ◌∙◌, rules, arith}
use Rattle.std.proofs.lemmas.Grind.{common_steps}
use Rattle.vlt_tokens.specs.declared.token.Mark.TheVariants as mark
use Rattle.vlt_automaton.specs.Language as m
use Rattle.vlt_parser.proofs.decls.external.Goals as goal

pub returns-in_err-next-2-clause-takes : goal.returns-in_err-next-2-clause-takes
returns-in_err-next-2-clause-takes c =
    let is : c.from_residual-in_err-next-2.result ≡ Err c.in_err-next-2.field-0.0 = first_of (search rules, grind (arith, common_steps)) in
    rw is (λ s f told.
    c.in_ok-next.ensures.takes (m.head ∷ m.sign mark.Semicolon ∷ s)
    ∙ c.in_ok-head.ensures.takes (m.sign mark.Semicolon ∷ s)
    ∙ c.in_err-next-2.ensures.takes s f told)
