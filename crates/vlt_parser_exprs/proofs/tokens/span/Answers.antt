use Rattle.std.proofs.Common.{refl}
use Rattle.vlt_parser_exprs.proofs.Spans.{span_is}
use Rattle.vlt_parser_exprs.proofs.tokens.span.Goals as goal

pub returns : goal.returns
returns c = span_is c.args.tokens.now c.args.from c.args.to _ refl refl
