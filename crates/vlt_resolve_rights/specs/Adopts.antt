-- `adopt x into r`, for a target that is guarded by the key of r.
use Rattle.std.specs.Prelude.{ℕ, Bool, true, false, not, ◌&&◌, List, [], ◌++◌, Option, Some, None}
use Rattle.vlt_syntax.specs.Tree.{Name}
use Rattle.vlt_core.specs.Core.{Ty, tracked, guarded, Form, simple, adopt}
use Rattle.vlt_resolve_rights.specs.Droppable.{may_drop_struct}
use Rattle.vlt_core.specs.declared.rules.TheConstants as rule
use Rattle.vlt_kinds_types.specs.declared.names.found.Refusal.{Refusal}
use Rattle.vlt_kinds_types.specs.Names.Refusals.{refuse_if}
use Rattle.vlt_kinds_types.specs.Kinds.{Kinds}
use Rattle.vlt_resolve_exprs.specs.Types.{is_same_object}
use Rattle.vlt_resolve_exprs.specs.Refused.{unknown_name}
use Rattle.vlt_resolve_exprs.specs.Scopes.{Scope, var_named, var_ty}
use Rattle.vlt_resolve_exprs.specs.Exprs.{var_number}
use Rattle.vlt_resolve_rights.specs.News.{guards}

-- r, where its type is known, has the target's guard
abbrev pub recipient_fits : Option Ty → Ty → Bool
recipient_fits None ty = true
recipient_fits (Some r) ty = guards (Some r) ty

-- x, where it is tracked, is of the target's type
abbrev pub object_fits : Option Ty → Ty → Bool
object_fits (Some (tracked k t a)) (guarded l u b) = is_same_object t a u b
object_fits _ ty = true

abbrev pub is_guarded : Ty → Bool
is_guarded (guarded k t args) = true
is_guarded _ = false

unfoldable pub adopt_fits : (object recipient : Option Ty) → Ty → Bool
adopt_fits x r ty = is_guarded ty && (recipient_fits r ty && object_fits x ty)

-- an object of a droppable struct, that is tracked
abbrev pub is_adoptable : Kinds → Ty → Bool
is_adoptable kinds (tracked k t args) = may_drop_struct kinds t
is_adoptable kinds _ = false

unfoldable pub object_refused : Kinds → Option Ty → Name → List Refusal
object_refused kinds None x = []
object_refused kinds (Some ty) x = refuse_if (not (is_adoptable kinds ty)) rule.WRONG_RELEASE x.at.from

unfoldable pub adopt_refused : Kinds → Scope → Ty → (x r : Name) → ℕ → List Refusal
adopt_refused kinds scope ty x r at =
    refuse_if (not (adopt_fits (var_ty scope x.text) (var_ty scope r.text) ty)) rule.WRONG_TYPE at
    ++ (unknown_name (var_named scope x.text) x
    ++ (object_refused kinds (var_ty scope x.text) x
    ++ unknown_name (var_named scope r.text) r))

unfoldable pub core_adopt : Scope → (y : ℕ) → (x r : Name) → Form
core_adopt scope y x r = simple (adopt y (var_number scope x) (var_number scope r))
