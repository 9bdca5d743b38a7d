use Rattle.std.proofs.Common.{◌≡◌, ◌+◌, Err, List, ◌∷◌, ◌∙◌, subst, rules, arith}
use Rattle.std.proofs.lemmas.Grind.{common_steps}
use Rattle.vlt_tokens.specs.declared.token.TokenKind.TheVariants.{Tick}
use Rattle.vlt_automaton.specs.Language as m
use Rattle.vlt_automaton.specs.Language.{Symbol, run}
use Rattle.vlt_parser_exprs.specs.Ahead.{lexemes_from, BeginsWith}
use Rattle.vlt_parser_simple.proofs.Sides.{returned_build}
use Rattle.vlt_parser_simple.proofs.rights.returned.Goals as goal

pub returns-in_err-built-in-Some-Tick-clause-takes : goal.returns-in_err-built-in-Some-Tick-clause-takes
returns-in_err-built-in-Some-Tick-clause-takes c =
    let here = lexemes_from c.args.tokens.now c.args.at in
    let next = lexemes_from c.args.tokens.now (c.args.at + 1) in
    let is : c.from_residual.result ≡ Err c.in_err-built-in-Some-Tick.field-0.0 = first_of (search rules, grind (arith, common_steps)) in
    let tick : BeginsWith Tick here next = subst (λ k. BeginsWith k here next) c.in-Some-Tick.field-0-is c.in-Some-Tick.ensures.ahead in
    rw is (λ s f told. returned_build tick.text s here next tick.begins ∙ c.in_err-built-in-Some-Tick.ensures.takes s f told)

pub returns-in_err-value-in_default-clause-takes : goal.returns-in_err-value-in_default-clause-takes
returns-in_err-value-in_default-clause-takes c =
    let here = lexemes_from c.args.tokens.now c.args.at in
    let is : c.from_residual-in_err-value-in_default.result ≡ Err c.in_err-value-in_default.field-0.0 = first_of (search rules, grind (arith, common_steps)) in
    let same : (s : List Symbol) → run (m.returned ∷ s) here ≡ run (m.thing m.an_expr ∷ s) here = first_of (search rules, grind (arith, common_steps)) in
    rw is (λ s f told. same s ∙ c.in_err-value-in_default.ensures.takes s f told)
