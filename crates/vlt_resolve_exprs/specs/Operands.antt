-- What is handed over: arguments, payloads, the values of fields, and what is returned.
use Rattle.std.specs.Prelude.{ℕ, not, List, [], ◌∷◌, ◌++◌, Option, Some, None}
use Rattle.vlt_syntax.specs.Tree as s
use Rattle.vlt_core.specs.Core as core
use Rattle.vlt_core.specs.Core.{States, Ty, tracked, owning, owning_variant, Expr, Operand, pure, move, pack}
use Rattle.vlt_kinds_types.specs.declared.names.found.Refusal.{Refusal}
use Rattle.vlt_core.specs.declared.rules.TheConstants.{WRONG_TYPE}
use Rattle.vlt_kinds_types.specs.Names.Refusals.{refuse_if}
use Rattle.vlt_kinds_types.specs.Kinds.{Kinds}
use Rattle.vlt_resolve_exprs.specs.Types.{takes}
use Rattle.vlt_resolve_exprs.specs.Scopes.{Scope}
use Rattle.vlt_resolve_exprs.specs.Exprs.{expr_place, expr_refused, type_of, core_expr}

-- what a target doesn't take; what isn't known fits
unfoldable pub misfit : Ty → Option Ty → ℕ → List Refusal
misfit w None at = []
misfit w (Some t) at = refuse_if (not (takes w t)) WRONG_TYPE at

unfoldable pub operand_refused : Kinds → Scope → Ty → s.Expr → List Refusal
operand_refused kinds scope w e = expr_refused kinds scope e ++ misfit w (type_of kinds scope e) (expr_place e)

abbrev pub operands_refused : Kinds → Scope → List Ty → List s.Expr → List Refusal
operands_refused kinds scope (w ∷ ws) (e ∷ es) = operand_refused kinds scope w e ++ operands_refused kinds scope ws es
operands_refused kinds scope _ _ = []

-- ---- what they become

-- the variable that an expression is, parentheses aside
abbrev pub variable_in : Expr → ℕ
variable_in (core.var v) = v
variable_in _ = 0

abbrev pub object_operand : States → Option Ty → (v : ℕ) → Operand
object_operand s (Some (tracked k t args)) v = pack v s
object_operand s _ v = move v

-- an expression of one type, for a target of another that takes it
unfoldable pub operand_for : Ty → Option Ty → Expr → Operand
operand_for (owning s t args) got e = object_operand s got (variable_in e)
operand_for (owning_variant t args) got e = move (variable_in e)
operand_for _ got e = pure e

unfoldable pub core_operand : Kinds → Scope → Ty → s.Expr → Operand
core_operand kinds scope w e = operand_for w (type_of kinds scope e) (core_expr kinds scope e)

-- each for its target
abbrev pub core_operands : Kinds → Scope → List s.Expr → List Ty → List Operand
core_operands kinds scope (e ∷ es) (w ∷ ws) = core_operand kinds scope w e ∷ core_operands kinds scope es ws
core_operands kinds scope _ _ = []
