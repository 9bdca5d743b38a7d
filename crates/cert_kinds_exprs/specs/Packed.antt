-- The parts of rules on operands.
use Rattle.std.specs.Prelude.{ℕ, ◌&&◌, if◌then◌else◌, List, [], ◌∷◌, ◌++◌, Option}
use Rattle.vlt_core.specs.Core.{States, Ty, owning, Expr, Func, Program}
use Rattle.vlt_core.specs.Lookups.{is_owning, var_type}
use Rattle.vlt_core.specs.KindedScopes.{Ids, use_broken}
use Rattle.vlt_core.specs.KindedHeads.{Rules, unless, when_some}
use Rattle.vlt_core.specs.declared.rules.TheConstants as rule
use Rattle.vlt_core.specs.KindedOperands.{misfit, expr_broken, move_broken, fits_owning, pack_broken, is_owning_some, type_of_expr}

-- whether a packed object fits
abbrev pub packed_fits : Option Ty → States → (type : ℕ) → List ℕ → Rules
packed_fits w states t args = when_some w (λ w. unless (fits_owning w (owning states t args) && is_owning w) rule.WRONG_TYPE)

-- whether an expression fits
abbrev pub pure_fits : Program → Func → Option Ty → Expr → Rules
pure_fits p f w e = if is_owning_some w then rule.WRONG_TYPE ∷ [] else misfit w (type_of_expr p f e)

-- an operand of each form
abbrev pub packed_broken : Program → Func → Ids → Option Ty → (x : ℕ) → States → Rules
packed_broken p f ids w x states = use_broken f ids x ++ pack_broken p w (var_type f x) states

abbrev pub pure_broken : Program → Func → Ids → Option Ty → Expr → Rules
pure_broken p f ids w e = expr_broken p f ids e ++ pure_fits p f w e

abbrev pub moved_broken : Func → Ids → Option Ty → (v : ℕ) → Rules
moved_broken f ids w v = use_broken f ids v ++ move_broken w (var_type f v)
