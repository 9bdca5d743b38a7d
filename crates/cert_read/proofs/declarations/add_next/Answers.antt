use Rattle.std.proofs.Common.{refl, sym, ap, ◌∙◌, option_map}
use Rattle.cert_read_decls.specs.Rows.{row_of}
use Rattle.cert_read.proofs.Standing.{no_row}
use Rattle.cert_read.proofs.declarations.add_next.Goals as goal

pub returns-in-None : goal.returns-in-None
returns-in-None c =
    no_row c.args.ordered c.args.rows.now c.args.read.now c.args.read.now refl (sym (ap (option_map row_of) c.in-None.is) ∙ c.in_ok-row.ensures)
