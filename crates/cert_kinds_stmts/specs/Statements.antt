-- The parts of rules on statements without blocks.
use Rattle.std.specs.Prelude.{ℕ, ◌==◌, if◌then◌else◌, List, [], ◌∷◌, ◌++◌, length, Option, Some, None, slice_get}
use Rattle.vlt_core.specs.Core.{Ty, tracked, FieldDecl, Expr, var, Func, Program}
use Rattle.vlt_core.specs.Lookups.{var_type, is_owning, is_owning_var, fields_of}
use Rattle.vlt_core.specs.Types.{decl_of, is_struct, with_keys}
use Rattle.vlt_core.specs.KindedHeads.{Rules, unless, when_some, state_broken}
use Rattle.vlt_core.specs.KindedScopes.{Ids, use_broken}
use Rattle.vlt_core.specs.KindedOperands.{misfit}
use Rattle.vlt_core.specs.KindedStatements.{struct_broken, tracked_broken, droppable_broken, wanted_of, is_owning_object, is_tracked_type}
use Rattle.vlt_core.specs.declared.rules.TheConstants as rule

-- a reference is set by a variable alone
abbrev pub by_var : Expr → Rules
by_var (var v) = []
by_var e = rule.WRONG_TYPE ∷ []

abbrev pub reference_set : Ty → Expr → Rules
reference_set (tracked k t args) e = by_var e
reference_set ty e = []

-- so many values for a struct
abbrev pub made_struct_broken : Program → (count type : ℕ) → Rules
made_struct_broken p n t =
    when_some (decl_of p t) (λ d. if is_struct (Some d) then unless (n == length (fields_of p t)) rule.WRONG_COUNT else rule.WRONG_NEW ∷ [])

-- a state of a struct, by its type and by the variable
abbrev pub become_at : Program → (type state : ℕ) → Rules
become_at p t state = when_some (decl_of p t) (λ d. if is_struct (Some d) then state_broken p t state else rule.WRONG_BECOME ∷ [])

abbrev pub become_object : Program → Func → (x state : ℕ) → Rules
become_object p f x state = struct_broken p f rule.WRONG_BECOME x (λ p t args. state_broken p t state)

-- the type of an owning target
abbrev pub own_wanted : Func → (v : ℕ) → Option Ty
own_wanted f v = if is_owning_var f v then var_type f v else None

-- the two types of an unpacking
abbrev pub unpacked_types : Func → Ids → (x v : ℕ) → Rules
unpacked_types f ids x v =
    use_broken f ids v ++ wanted_of (var_type f v) is_owning_object ++ wanted_of (var_type f x) is_tracked_type

-- a swapped field, by itself and by its position
abbrev pub swapped_field : Func → (v : ℕ) → Option FieldDecl → List ℕ → Rules
swapped_field f v None args = rule.UNKNOWN_NAME ∷ []
swapped_field f v (Some d) args =
    if is_owning d.ty then misfit (Some (with_keys args d.ty)) (var_type f v) else rule.WRONG_SWAP ∷ []

abbrev pub swap_at : Program → Func → (position v : ℕ) → (type : ℕ) → List ℕ → Rules
swap_at p f i v t args =
    when_some (decl_of p t) (λ d. if is_struct (Some d) then swapped_field f v (slice_get (fields_of p t) i) args else rule.WRONG_SWAP ∷ [])

-- what is adopted, and by which object
abbrev pub adopted_broken : Program → Func → Ids → (x r : ℕ) → Rules
adopted_broken p f ids x r =
    tracked_broken f ids rule.WRONG_TYPE x ++ tracked_broken f ids rule.WRONG_TYPE r ++ droppable_broken p f x
