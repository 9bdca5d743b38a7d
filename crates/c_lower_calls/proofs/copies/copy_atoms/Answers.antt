use Rattle.std.proofs.Common.{◌≡◌, ◌++◌, List, map, OnOk, ap, subst, ◌∙◌}
use Rattle.c_syntax.specs.declared.program.CVar.{CVar}
use Rattle.c_syntax.specs.View.{stmt_of}
use Rattle.c_lower.specs.Slots.{Slot}
use Rattle.c_lower.specs.Expressions.{copies}
use Rattle.c_lower_exprs.specs.Scopes.{func_in, program_in}
use Rattle.c_lower_exprs.proofs.Laws.{vars_of_slots}
use Rattle.c_lower_exprs.specs.Coded.{atom_of}
use Rattle.c_lower_calls.proofs.copies.copy_atoms.Goals as goal

pub returns : goal.returns
returns c =
    subst (λ (vs : List CVar). OnOk c.copy_into.result (map stmt_of c.copy_into.new.out ≡ map stmt_of c.args.out.now ++ copies vs (map atom_of c.args.atoms.now)))
    (ap (map (λ (x : Slot). x.var)) c.slots.ensures ∙ vars_of_slots (program_in c.args.scope.now) (func_in c.args.scope.now) c.args.v.0)
    c.copy_into.ensures
