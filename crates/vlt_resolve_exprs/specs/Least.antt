-- The least refusal of an expression and of lists of them, as it is found. Only private contracts cite this.
use Rattle.std.specs.Prelude.{List, ◌∷◌, Option, Some}
use Rattle.vlt_ops.specs.Operator.{row_of}
use Rattle.vlt_syntax.specs.Tree as s
use Rattle.vlt_syntax.specs.Tree.{Name}
use Rattle.vlt_core.specs.Core.{Ty}
use Rattle.vlt_kinds_types.specs.declared.names.found.Refusal.{Refusal}
use Rattle.vlt_kinds_types.specs.Names.Refusals.{least_from}
use Rattle.vlt_kinds_types.specs.Kinds.{Kinds}
use Rattle.vlt_resolve_exprs.specs.Refused.{unknown_name}
use Rattle.vlt_resolve_exprs.specs.Scopes.{Scope, var_named, with_var}
use Rattle.vlt_resolve_exprs.specs.Exprs.{expr_place, field_refused, type_of, type_given, unfit, operand_wanted, left_refused}
use Rattle.vlt_resolve_exprs.specs.Operands.{operand_refused}
use Rattle.vlt_resolve_exprs.specs.Bindings.{new_var_refused}

-- the least of them and one that was found before
abbrev pub found_in : Kinds → Scope → s.Expr → Option Refusal → Option Refusal
found_in kinds scope (s.number z at) found = found
found_in kinds scope (s.true at) found = found
found_in kinds scope (s.false at) found = found
found_in kinds scope (s.variable x) found = least_from found (unknown_name (var_named scope x.text) x)
found_in kinds scope (s.field x f) found = least_from found (field_refused kinds scope x f)
found_in kinds scope (s.group e at) found = found_in kinds scope e found
found_in kinds scope (s.unary o e at) found =
    least_from (found_in kinds scope e found) (unfit (Some (type_given o)) (type_of kinds scope e) (expr_place e))
found_in kinds scope (s.binary o l r at) found =
    least_from
    (found_in kinds scope r
    (least_from (found_in kinds scope l found) (left_refused (row_of o).takes (type_of kinds scope l) (expr_place l))))
    (unfit (operand_wanted (row_of o).takes (type_of kinds scope l)) (type_of kinds scope r) (expr_place r))

abbrev pub operands_found : Kinds → Scope → List Ty → List s.Expr → Option Refusal → Option Refusal
operands_found kinds scope (w ∷ ws) (e ∷ es) found =
    operands_found kinds scope ws es (least_from found (operand_refused kinds scope w e))
operands_found kinds scope _ _ found = found

abbrev pub new_vars_found : Kinds → Scope → List Name → List Ty → Option Refusal → Option Refusal
new_vars_found kinds scope (n ∷ ns) (t ∷ ts) found =
    new_vars_found kinds (with_var scope n.text t) ns ts (least_from found (new_var_refused kinds scope n))
new_vars_found kinds scope _ _ found = found
