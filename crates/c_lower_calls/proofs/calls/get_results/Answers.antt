use Rattle.std.proofs.Common.{◌≡◌, Bool, if◌then◌else◌, List, [], ◌++◌, map, OnOk, subst}
use Rattle.c_syntax.specs.declared.program.CVar.{CVar}
use Rattle.c_syntax.specs.View.{stmt_of}
use Rattle.c_lower.specs.Slots.{Slot}
use Rattle.c_lower.specs.Statements.{is_variant, results}
use Rattle.vlt_core.specs.Lookups.{var_type}
use Rattle.c_lower_exprs.specs.Tables.{slot_view}
use Rattle.c_lower_exprs.specs.Scopes.{func_in, program_in}
use Rattle.c_lower_calls.proofs.Rests.{rest_vars}
use Rattle.c_lower_calls.proofs.calls.get_results.Goals as goal

pub returns : goal.returns
returns c =
    subst (λ (vs : List CVar). OnOk c.get_if.result (map stmt_of c.get_if.new.out ≡ map stmt_of c.args.out.now ++ (if is_variant (var_type (func_in c.args.scope.now) c.args.v.0) then results vs else [])))
    (rest_vars (program_in c.args.scope.now) (func_in c.args.scope.now) c.args.v.0 (map slot_view c.rest_slots.result.now) c.rest_slots.ensures)
    (subst (λ (b : Bool). OnOk c.get_if.result (map stmt_of c.get_if.new.out ≡ map stmt_of c.args.out.now ++ (if b then results (map (λ (x : Slot). x.var) (map slot_view c.rest_slots.result.now)) else [])))
    c.is_variant_var-is_variant.ensures c.get_if.ensures)
