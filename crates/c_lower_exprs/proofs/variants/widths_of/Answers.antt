use Rattle.std.proofs.Common.{sym, ap, ◌∙◌}
use Rattle.std.specs.Option.{option_copied}
use Rattle.vlt_core.specs.View.{program_of}
use Rattle.c_lower_exprs.proofs.Laws.{or_no_widths, widths_found}
use Rattle.c_lower_exprs.proofs.variants.widths_of.Goals as goal

pub returns-in-Some : goal.returns-in-Some
returns-in-Some c =
    ap or_no_widths (sym (ap option_copied c.in-Some.is) ∙ c.get.ensures.value)
    ∙ widths_found (program_of c.args.program.now) c.args.table.now c.args.t.0 c.requires

pub returns-in-None : goal.returns-in-None
returns-in-None c =
    ap or_no_widths (sym (ap option_copied c.in-None.is) ∙ c.get.ensures.value)
    ∙ widths_found (program_of c.args.program.now) c.args.table.now c.args.t.0 c.requires
