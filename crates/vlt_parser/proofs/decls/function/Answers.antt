use Rattle.std.proofs.Common.{◌≡◌, Err, ◌∷◌, ◌∙◌, ap, rules, arith}
use Rattle.std.proofs.lemmas.Grind.{common_steps}
use Rattle.vlt_syntax.specs.Grammar.{language}
use Rattle.vlt_automaton.specs.Language as m
use Rattle.vlt_automaton.specs.Language.{run}
use Rattle.vlt_parser_exprs.specs.Ahead.{lexemes_from}
use Rattle.vlt_parser.proofs.decls.function.Goals as goal

pub returns-in_err-body-clause-takes : goal.returns-in_err-body-clause-takes
returns-in_err-body-clause-takes c =
    let is : c.from_residual-in_err-body.result ≡ Err c.in_err-body.field-0.0 = first_of (search rules, grind (arith, common_steps)) in
    let deepest : language.depth ≡ c.limit.result = first_of (search rules, grind (arith, common_steps)) in
    rw is (λ s f told.
    c.in_ok-head.ensures.takes (m.block language.depth ∷ s)
    ∙ ap (λ room. run (m.block room ∷ s) (lexemes_from c.args.tokens.now c.in_ok-head.next)) deepest
    ∙ c.in_err-body.ensures.takes s f told)
