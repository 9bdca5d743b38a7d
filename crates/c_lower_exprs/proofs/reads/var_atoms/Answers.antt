use Rattle.std.proofs.Common.{◌≡◌, List, map, IfOk, ap, subst, ◌∙◌}
use Rattle.c_syntax.specs.declared.program.CVar.{CVar}
use Rattle.c_lower.specs.Slots.{Slot}
use Rattle.c_lower.specs.Expressions as s
use Rattle.c_lower_exprs.specs.Scopes.{func_in, program_in}
use Rattle.c_lower_exprs.proofs.Laws.{vars_of_slots}
use Rattle.c_lower_exprs.specs.Coded.{atom_of}
use Rattle.c_lower_exprs.proofs.reads.var_atoms.Goals as goal

pub returns : goal.returns
returns c =
    subst (λ (vs : List CVar). IfOk c.slot_atoms.result (λ xs. map atom_of xs ≡ map s.variable vs))
    (ap (map (λ (x : Slot). x.var)) c.slots.ensures ∙ vars_of_slots (program_in c.args.scope.now) (func_in c.args.scope.now) c.args.v.0)
    c.slot_atoms.ensures
