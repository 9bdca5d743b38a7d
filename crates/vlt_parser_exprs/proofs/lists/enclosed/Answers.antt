use Rattle.std.proofs.Common.{[], ◌∷◌}
use Rattle.vlt_automaton.specs.Language as m
use Rattle.vlt_parser_exprs.specs.Ahead.{lexemes_from, left_of}
use Rattle.vlt_parser_exprs.proofs.Runs.{instead, enclosed_some}
use Rattle.vlt_parser_exprs.proofs.lists.enclosed.Goals as goal

pub returns-in-Some-clause-takes : goal.returns-in-Some-clause-takes
returns-in-Some-clause-takes g c =
    let k = g.T.Part.thing in
    let tokens = c.args.tokens.now in
    instead (m.enclosed k c.args.opening c.args.closing (left_of c.args.most 0) ∷ []) (m.thing k ∷ m.further k c.args.closing (left_of c.args.most 1) ∷ []) (λ x. x.1) tokens c.args.at c.in-Some.inside c.some_listed.result
    (λ s. enclosed_some k c.args.opening c.args.closing c.args.most s (lexemes_from tokens c.args.at) (lexemes_from tokens c.in-Some.inside) c.in-Some.ensures.ahead) c.some_listed.ensures.takes
