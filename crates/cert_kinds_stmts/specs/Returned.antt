-- The parts of the rule on returns.
use Rattle.std.specs.Prelude.{ℕ, not, if◌then◌else◌, List, [], ◌∷◌, ◌++◌, Option, Some, None}
use Rattle.vlt_core.specs.Core.{Ty, tracked, Operand, pure, Expr, var, Func, Program}
use Rattle.vlt_core.specs.Lookups.{var_type}
use Rattle.vlt_core.specs.Types.{same_object}
use Rattle.vlt_core.specs.KindedHeads.{Rules, unless, when_some, has}
use Rattle.vlt_core.specs.KindedScopes.{Ids, use_broken}
use Rattle.vlt_core.specs.KindedOperands.{operand_broken}
use Rattle.vlt_core.specs.KindedCalls.{kept_keys}
use Rattle.vlt_core.specs.declared.rules.TheConstants as rule
use Rattle.cert_kinds_types.specs.Least.{least, lesser}

-- the variable that an operand is
abbrev pub as_var : Operand → Option ℕ
as_var (pure (var v)) = Some v
as_var o = None

-- a returned reference for a `new` key, by its type and by its variable
abbrev pub new_result_type : Func → (t : ℕ) → List ℕ → Ty → Rules
new_result_type f t args (tracked k u others) =
    unless (same_object t args u others) rule.WRONG_TYPE ++
    (if same_object t args u others then unless (not (has (kept_keys f) k)) rule.RETURNED_KEY else [])
new_result_type f t args ty = rule.WRONG_TYPE ∷ []

abbrev pub new_result_var : Func → Ids → (t : ℕ) → List ℕ → (x : ℕ) → Rules
new_result_var f ids t args x = use_broken f ids x ++ when_some (var_type f x) (new_result_type f t args)

-- what is returned for a `new` key, by the variable that it is
abbrev pub new_by : Program → Func → Ids → (t : ℕ) → List ℕ → Operand → Option ℕ → Option ℕ
new_by p f ids t args o None = lesser (Some rule.WRONG_TYPE) (least (operand_broken p f ids None o))
new_by p f ids t args o (Some x) = least (new_result_var f ids t args x)

-- the variable that an expression is
abbrev pub expr_var : Expr → Option ℕ
expr_var (var v) = Some v
expr_var e = None
