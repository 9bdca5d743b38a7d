-- The parts of the rule on opened objects.
use Rattle.std.specs.Prelude.{ℕ, ◌==◌, if◌then◌else◌, List, [], ◌∷◌, ◌++◌, length, Option, Some, None}
use Rattle.vlt_core.specs.Core.{Ty, Func, Program}
use Rattle.vlt_core.specs.Lookups.{var_type}
use Rattle.vlt_core.specs.Types.{decl_of, is_struct}
use Rattle.vlt_core.specs.KindedHeads.{Rules, unless, when_some}
use Rattle.vlt_core.specs.KindedScopes.{Ids, binding_broken}
use Rattle.vlt_core.specs.KindedOperands.{misfit}
use Rattle.vlt_core.specs.KindedStatements.{struct_broken, tracked_broken, owning_field_types}
use Rattle.vlt_core.specs.declared.rules.TheConstants as rule

-- one of the variables, for a field of this type
abbrev pub opened_var_broken : Func → Ids → (wanted : Option Ty) → (v : ℕ) → Rules
opened_var_broken f ids w v = misfit w (var_type f v) ++ binding_broken f ids None v

-- so many variables for a struct's owning fields, by its type and by the variable
abbrev pub opened_at : Program → (count type : ℕ) → List ℕ → Rules
opened_at p n t args =
    when_some (decl_of p t) (λ d. if is_struct (Some d) then unless (length (owning_field_types p t args) == n) rule.WRONG_COUNT else rule.WRONG_RELEASE ∷ [])

abbrev pub opened_object : Program → Func → (count x : ℕ) → Rules
opened_object p f n x = struct_broken p f rule.WRONG_RELEASE x (λ p t args. unless (length (owning_field_types p t args) == n) rule.WRONG_COUNT)

-- what the statement breaks but for its variables
abbrev pub open_broken : Program → Func → Ids → (x : ℕ) → List ℕ → Rules
open_broken p f ids x vs = tracked_broken f ids rule.WRONG_RELEASE x ++ opened_object p f (length vs) x
