use Rattle.std.proofs.Common.{ap, ◌∙◌, sym, subst}
use Rattle.cert_format.specs.Text.{marked}
use Rattle.cert_read.specs.Certificates.{IsParsed}
use Rattle.cert_read.proofs.Texts.{no_marks, no_utf8, parsed_not}
use Rattle.cert_read.proofs.read.read_text.Goals as goal

pub returns-in_default : goal.returns-in_default
returns-in_default c = no_marks c.args.text.now c.in_default.ensures

pub returns-in_default-from_utf8 : goal.returns-in_default-from_utf8
returns-in_default-from_utf8 c = no_utf8 c.args.text.now c.in-Some.body.now c.in-Some.ensures c.in_default-from_utf8.ensures.cases.0

pub returns-in-Err : goal.returns-in-Err
returns-in-Err c =
    parsed_not c.args.text.now c.in-Ok.body.now (c.in-Some.ensures ∙ ap marked (sym c.in-Ok.ensures.cases.0)) c.in-Err.e
    (subst (IsParsed c.in-Ok.body.now) c.in-Err.is c.parse.ensures)
