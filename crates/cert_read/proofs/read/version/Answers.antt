use Rattle.std.proofs.Common.{sym, ap, ◌∙◌, option_map}
use Rattle.cert_format.specs.Pieces.{version_in}
use Rattle.cert_read_decls.specs.Rows.{row_of}
use Rattle.cert_read.proofs.Standing.{version_is}
use Rattle.cert_read.proofs.read.version.Goals as goal

pub returns-in-Some : goal.returns-in-Some
returns-in-Some c =
    c.version_of_row.ensures ∙ ap version_in (sym (ap (option_map row_of) c.in-Some.is) ∙ c.in_ok-row.ensures) ∙ version_is c.args.rows.now

pub returns-in-None : goal.returns-in-None
returns-in-None c = ap version_in (sym (ap (option_map row_of) c.in-None.is) ∙ c.in_ok-row.ensures) ∙ version_is c.args.rows.now
