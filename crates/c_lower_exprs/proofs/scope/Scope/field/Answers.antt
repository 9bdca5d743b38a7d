use Rattle.std.proofs.Common.{sym, ap, ◌∙◌}
use Rattle.std.specs.Option.{option_map, option_copied}
use Rattle.c_lower_exprs.specs.Tables.{field_view}
use Rattle.c_lower_exprs.specs.Scopes.{program_in}
use Rattle.c_lower_exprs.proofs.Laws.{fields_at, field_found}
use Rattle.c_lower_exprs.proofs.scope.Scope.field.Goals as goal

pub returns-in-Some : goal.returns-in-Some
returns-in-Some c =
    ap (option_map field_view) (c.get-in-Some.ensures.value ∙ ap (λ o. fields_at o c.args.position) (sym (ap option_copied c.in-Some.is) ∙ c.get.ensures.value))
    ∙ field_found (program_in c.args.self.now) c.args.self.now.tables.now.structs c.args.t.0 c.args.position c.requires.tables.structs

pub returns-in-None : goal.returns-in-None
returns-in-None c =
    ap (λ o. option_map field_view (fields_at o c.args.position)) (sym (ap option_copied c.in-None.is) ∙ c.get.ensures.value)
    ∙ field_found (program_in c.args.self.now) c.args.self.now.tables.now.structs c.args.t.0 c.args.position c.requires.tables.structs
