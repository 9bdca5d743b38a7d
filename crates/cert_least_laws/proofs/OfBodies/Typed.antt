-- The types of a function's variables break no rule.
use Rattle.std.proofs.Common.{◌≡◌, ℕ, []}
use Rattle.std.specs.List.{flat_map}
use Rattle.vlt_core.specs.Core.{Func, Program}
use Rattle.vlt_core.specs.KindedHeads.{unless, type_broken, head_broken}
use Rattle.vlt_core.specs.declared.rules.TheConstants as rule
use Rattle.vlt_core_laws.proofs.Unbroken.{left_empty, right_empty}

pub types_of_vars : (p : Program) (m : ℕ) (f : Func) → head_broken p m f ≡ [] → flat_map (λ d. type_broken p f d.ty) f.vars ≡ []
types_of_vars p m f e =
    right_empty (unless _ rule.UNKNOWN_NAME) (flat_map (λ d. type_broken p f d.ty) f.vars)
    (left_empty _ _ (left_empty _ _ (left_empty _ _ (left_empty _ _ (left_empty _ _ (left_empty _ _ (left_empty _ _ (left_empty _ _ e))))))))
