use Rattle.std.proofs.Common.{◌++◌, ap, ◌∙◌}
use Rattle.vlt_core.specs.View.{tok_of}
use Rattle.vlt_points.specs.Writing.{text_in}
use Rattle.vlt_points.proofs.page.add_token.Goals as goal

pub returns-clause-text : goal.returns-clause-text
returns-clause-text c =
    c.in_ok-extend_from_slice.ensures.items ∙ ap (λ l. c.args.lines.now.items ++ l) (c.as_slice.ensures.value ∙ c.in_ok-renew.ensures.text ∙ ap (text_in c.args.source.now (tok_of c.args.token.now.tok)) c.of.ensures)
