use Rattle.std.proofs.Common.{sym, ap, ◌∙◌}
use Rattle.std.specs.Option.{option_copied}
use Rattle.c_lower_exprs.specs.Scopes.{program_in}
use Rattle.c_lower_exprs.proofs.Laws.{counts_at, counts_found}
use Rattle.c_lower_exprs.proofs.scope.Scope.cell_counts.Goals as goal

pub returns-in-Some : goal.returns-in-Some
returns-in-Some c =
    ap counts_at (sym (ap option_copied c.in-Some.is) ∙ c.get.ensures.value)
    ∙ counts_found (program_in c.args.self.now) c.args.self.now.tables.now.structs c.args.t.0 c.requires.tables.structs

pub returns-in-None : goal.returns-in-None
returns-in-None c =
    ap counts_at (sym (ap option_copied c.in-None.is) ∙ c.get.ensures.value)
    ∙ counts_found (program_in c.args.self.now) c.args.self.now.tables.now.structs c.args.t.0 c.requires.tables.structs
