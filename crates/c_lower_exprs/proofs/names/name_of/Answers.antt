use Rattle.std.proofs.Common.{sym, ap, ◌∙◌}
use Rattle.std.specs.Option.{option_copied}
use Rattle.vlt_core.specs.View.{program_of}
use Rattle.c_lower_exprs.proofs.NameLaws.{or_next, name_found}
use Rattle.c_lower_exprs.proofs.names.name_of.Goals as goal

pub returns-in-Some : goal.returns-in-Some
returns-in-Some c =
    ap (λ o. or_next o c.args.names.now.bodies) (sym (ap option_copied c.in-Some.is) ∙ c.get.ensures.value)
    ∙ name_found (program_of c.args.program.now) c.args.names.now c.args.f.0 c.requires

pub returns-in-None : goal.returns-in-None
returns-in-None c =
    ap (λ o. or_next o c.args.names.now.bodies) (sym (ap option_copied c.in-None.is) ∙ c.get.ensures.value)
    ∙ name_found (program_of c.args.program.now) c.args.names.now c.args.f.0 c.requires
