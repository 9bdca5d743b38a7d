-- The target of a right side, and an expression for it.
use Rattle.std.specs.Prelude.{ℕ, Bool, not, if◌then◌else◌, List, [], ◌++◌, Option, Some, None}
use Rattle.vlt_syntax.specs.Tree as s
use Rattle.vlt_core.specs.Core as core
use Rattle.vlt_core.specs.Core.{Ty, Form, simple, Simple, set, own, unpack}
use Rattle.vlt_core.specs.Lookups.{is_owning}
use Rattle.vlt_core.specs.declared.rules.TheConstants.{WRONG_TYPE}
use Rattle.vlt_kinds_types.specs.declared.names.found.Refusal.{Refusal}
use Rattle.vlt_kinds_types.specs.Names.Refusals.{refuse_if}
use Rattle.vlt_kinds_types.specs.Kinds.{Kinds}
use Rattle.vlt_resolve_exprs.specs.Types.{takes, unpacks}
use Rattle.vlt_resolve_exprs.specs.Scopes.{Scope}
use Rattle.vlt_resolve_exprs.specs.Exprs.{expr_place, expr_refused, type_of, core_expr}
use Rattle.vlt_resolve_exprs.specs.Operands.{variable_in, operand_for}

-- the type of a target, and whether its key is bound with it
pub record Target : Type 0 where
  pub ty : Ty
  pub binds : Bool

-- A tracked target whose key is bound here takes an owner's object.
unfoldable pub target_takes : Target → Ty → Bool
target_takes t got = if t.binds then unpacks t.ty got else takes t.ty got

unfoldable pub value_misfit : Target → Option Ty → ℕ → List Refusal
value_misfit t None at = []
value_misfit t (Some got) at = refuse_if (not (target_takes t got)) WRONG_TYPE at

unfoldable pub value_refused : Kinds → Scope → Target → s.Expr → List Refusal
value_refused kinds scope t e = expr_refused kinds scope e ++ value_misfit t (type_of kinds scope e) (expr_place e)

unfoldable pub value_form : Target → (x : ℕ) → Option Ty → core.Expr → Simple
value_form t x got e =
    if t.binds then unpack x (variable_in e) else if is_owning t.ty then own x (operand_for t.ty got e) else set x e

unfoldable pub core_value : Kinds → Scope → Target → (x : ℕ) → s.Expr → Form
core_value kinds scope t x e = simple (value_form t x (type_of kinds scope e) (core_expr kinds scope e))
