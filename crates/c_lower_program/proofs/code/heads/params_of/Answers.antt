use Rattle.std.proofs.Common.{List, map, take, ap, ◌∙◌}
use Rattle.c_lower.specs.Slots.{first_numbers}
use Rattle.c_lower_exprs.specs.Tables.{slot_view}
use Rattle.c_lower_exprs.specs.Scopes.{func_in, program_in}
use Rattle.c_lower_exprs.specs.declared.frame.Slot.{Slot}
use Rattle.c_lower_program.specs.Code.Heads.{past_lists, vars_in}
use Rattle.c_lower_program.proofs.OfCode.Ranges.{numbers_are, params_are}
use Rattle.c_lower_program.proofs.code.heads.params_of.Goals as goal

pub returns-clause-vars : goal.returns-clause-vars
returns-clause-vars c =
    let s = c.args.scope.now in
    c.in_ok-vars.ensures
    ∙ ap (λ (table : List (List Slot)). vars_in (map (map slot_view) table)) (c.first-table.ensures ∙ ap (take s.func.now.params) c.as_slice.ensures)
    ∙ params_are (program_in s) (func_in s) s.frame.now.vars c.requires.frame.slots

pub returns-clause-next : goal.returns-clause-next
returns-clause-next c =
    let s = c.args.scope.now in
    c.in_ok-next.ensures
    ∙ ap (λ (table : List (List Slot)). past_lists first_numbers (map (map slot_view) table)) (c.first-table.ensures ∙ ap (take s.func.now.params) c.as_slice.ensures)
    ∙ numbers_are (program_in s) (func_in s) s.frame.now.vars c.requires.frame.slots
