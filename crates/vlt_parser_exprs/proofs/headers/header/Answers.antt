use Rattle.std.proofs.Common.{◌≡◌, Some, [], ◌∷◌, sym, ap}
use Rattle.vlt_tokens.specs.declared.token.Mark.TheVariants as mark
use Rattle.vlt_syntax.specs.Grammar.{language}
use Rattle.vlt_automaton.specs.Language as m
use Rattle.vlt_automaton.specs.Language.{run}
use Rattle.vlt_parser_exprs.specs.Ahead.{lexemes_from, left_of}
use Rattle.vlt_parser_exprs.proofs.Runs.{bounded, instead}
use Rattle.vlt_parser_exprs.proofs.headers.header.Goals as goal

pub returns-clause-takes : goal.returns-clause-takes
returns-clause-takes c =
    let here = lexemes_from c.args.tokens.now c.args.at in
    let bound : left_of (Some c.bound.result) 0 ≡ m.parameters_left = bounded c.bound.result 9 language.parameters c.bound.ensures.limit c.bound.ensures.count in
    instead (m.header ∷ []) (m.enclosed m.a_param mark.Less mark.Greater (left_of (Some c.bound.result) 0) ∷ []) (λ x. x.1) c.args.tokens.now c.args.at c.args.at c.enclosed.result
    (λ s. ap (λ l. run (m.enclosed m.a_param mark.Less mark.Greater l ∷ s) here) (sym bound)) c.enclosed.ensures.takes
