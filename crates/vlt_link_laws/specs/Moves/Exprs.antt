-- An expression that isn't refused in a view isn't refused in the joined program, and becomes the same.
use Rattle.std.specs.Prelude.{◌≡◌, []}
use Rattle.std.specs.Option.{option_map}
use Rattle.vlt_syntax.specs.Tree as s
use Rattle.vlt_core.specs.Core.{Ty}
use Rattle.vlt_link_laws.specs.CoreMoves.Moves.{Moves, moved_ty}
use Rattle.vlt_kinds_types.specs.Kinds.{Kinds}
use Rattle.vlt_resolve_exprs.specs.Scopes.{Scope}
use Rattle.vlt_resolve_exprs.specs.Exprs.{type_of, expr_refused, core_expr}
use Rattle.vlt_resolve_exprs.specs.Operands.{operand_refused, core_operand}
use Rattle.vlt_link_laws.specs.Moves.Sees.{Sees, moved_scope}

pub record IsMovedExpr (m : Moves) (a b : Kinds) (scope : Scope) (e : s.Expr) : Type 0 where
  pub type : type_of b (moved_scope m scope) e ≡ option_map (moved_ty m) (type_of a scope e)
  pub fine : expr_refused b (moved_scope m scope) e ≡ []
  pub core : core_expr b (moved_scope m scope) e ≡ core_expr a scope e

pub record IsMovedOperand (m : Moves) (a b : Kinds) (scope : Scope) (w : Ty) (e : s.Expr) : Type 0 where
  pub fine : operand_refused b (moved_scope m scope) (moved_ty m w) e ≡ []
  pub core : core_operand b (moved_scope m scope) (moved_ty m w) e ≡ core_operand a scope w e

abbrev pub ExprsMove : Type 0
ExprsMove = (m : Moves) (a b : Kinds) → Sees m a b → (scope : Scope) (e : s.Expr) →
    expr_refused a scope e ≡ [] → IsMovedExpr m a b scope e

abbrev pub OperandsMove : Type 0
OperandsMove = (m : Moves) (a b : Kinds) → Sees m a b → (scope : Scope) (w : Ty) (e : s.Expr) →
    operand_refused a scope w e ≡ [] → IsMovedOperand m a b scope w e
