use Rattle.std.proofs.Common.{◌∙◌, ap, rules}
use Rattle.vlt_core.specs.View.{tok_of}
use Rattle.vlt_points.specs.Writing.{text_in}
use Rattle.vlt_points.proofs.Founds.{many_same}
use Rattle.vlt_points.proofs.page.TokenText.renew.Goals as goal

pub returns-else-not-is_same-clause-text : goal.returns-else-not-is_same-clause-text
returns-else-not-is_same-clause-text c = c.requires.is ∙ ap (text_in c.args.source.now (tok_of c.args.self.now.tok)) (many_same c.args.self.now.ones c.args.m (c.if-not-is_same.ensures.0 (search rules)))
