use Rattle.std.proofs.Common.{map, sym, ap, ◌∙◌}
use Rattle.std.specs.Option.{option_copied}
use Rattle.c_lower_exprs.specs.Scopes.{program_in, func_in}
use Rattle.c_lower_exprs.specs.Tables.{slot_view}
use Rattle.c_lower_exprs.proofs.Laws.{or_none, slots_found}
use Rattle.c_lower_exprs.proofs.scope.Scope.slots.Goals as goal

pub returns-in-Some : goal.returns-in-Some
returns-in-Some c =
    let s = c.args.self.now in
    ap (map slot_view) (c.as_slice.ensures ∙ ap or_none (sym (ap option_copied c.in-Some.is) ∙ c.get.ensures.value))
    ∙ slots_found (program_in s) (func_in s) s.frame.now.vars c.args.v.0 c.requires.frame.slots

pub returns-in-None : goal.returns-in-None
returns-in-None c =
    let s = c.args.self.now in
    ap (λ o. map slot_view (or_none o)) (sym (ap option_copied c.in-None.is) ∙ c.get.ensures.value)
    ∙ slots_found (program_in s) (func_in s) s.frame.now.vars c.args.v.0 c.requires.frame.slots
