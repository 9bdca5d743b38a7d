use Rattle.vlt_parser_exprs.proofs.Spans.{name_stands}
use Rattle.vlt_parser_exprs.proofs.tokens.name.Goals as goal

pub returns-in_ok-text-in-Some-clause-placed : goal.returns-in_ok-text-in-Some-clause-placed
returns-in_ok-text-in-Some-clause-placed c = name_stands c.args.tokens.now c.args.at c.in-Some.token.now c.in_ok-text-in-Some.text c.in-Some.ensures.lookup.3.1
