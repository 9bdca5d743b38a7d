use Rattle.std.proofs.Common.{ap, ◌∙◌, subst}
use Rattle.json.specs.Print.{print}
use Rattle.vlt_core.specs.View.{program_of}
use Rattle.cert_rows.specs.Parts.{list}
use Rattle.cert_format.specs.Text.{marked}
use Rattle.cert_values.specs.Laid.{laid}
use Rattle.cert_values.specs.Texts.{AreFine}
use Rattle.cert_write.specs.Rows.{rows_data}
use Rattle.cert_write.proofs.Whole.{text_is}
use Rattle.cert_write.proofs.program.rows_text.Goals as goal

pub returns-clause-text : goal.returns-clause-text
returns-clause-text c =
    let rows = rows_data c.args.ordered (program_of c.args.p.now) c.args.notes.now in
    let tokens = c.in_ok-put_rows.ensures.rows ∙ ap (laid (list rows)) c.in_ok-out.ensures in
    text_is rows c.in_ok-finish.field-0.items c.requires (subst AreFine tokens c.in_ok-finish.ensures.fine)
    (c.in_ok-finish.ensures.text ∙ ap (λ ts. marked (print ts)) tokens)
