use Rattle.std.proofs.Common.{rules, arith}
use Rattle.std.proofs.lemmas.Grind.{common_steps}
use Rattle.vlt_parser_exprs.proofs.tokens.kind.Goals as goal

pub returns-clause-here : goal.returns-clause-here
returns-clause-here c = (c.in_ok-get.field-0.now.text.now, first_of (search rules, grind (arith, common_steps)))
