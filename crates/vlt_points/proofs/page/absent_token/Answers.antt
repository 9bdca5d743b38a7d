use Rattle.std.proofs.Common.{◌∙◌}
use Rattle.vlt_core.specs.View.{tok_of}
use Rattle.vlt_points.proofs.Texts.{absent_text}
use Rattle.vlt_points.proofs.page.absent_token.Goals as goal

pub returns-clause-is : goal.returns-clause-is
returns-clause-is c = λ p f. c.new.ensures.items ∙ absent_text p f (tok_of c.args.tok) c.made.result c.made.ensures.absent c.made.ensures.full c.made.ensures.held c.made.ensures.lent
