-- The parts of rules on touches of fields and on expressions.
use Rattle.std.specs.Prelude.{ℕ, List, [], ◌∷◌, ◌++◌, Option, Some, None, is_some, slice_get}
use Rattle.vlt_ops.specs.declared.Op.{Op}
use Rattle.vlt_ops.specs.Operator.{row_of}
use Rattle.vlt_core.specs.Core.{Ty, FieldDecl, Expr, Func, Program}
use Rattle.vlt_core.specs.Lookups.{var_type, fields_of, release_set}
use Rattle.vlt_core.specs.Types.{decl_of, lies_within, with_keys}
use Rattle.vlt_core.specs.KindedHeads.{Rules, unless, when_some}
use Rattle.vlt_core.specs.declared.rules.TheConstants as rule
use Rattle.vlt_core.specs.KindedScopes.{Ids, use_broken}
use Rattle.vlt_core.specs.KindedOperands.{misfit, object_in, field_type, type_of_expr, right_wanted, is_permitted, touch_broken, not_owning_broken}

-- the type of a field under keys
abbrev pub type_below : List ℕ → Option FieldDecl → Option Ty
type_below args None = None
type_below args (Some d) = Some (with_keys args d.ty)

-- a field that is touched through a reference
abbrev pub tracked_touched : Program → (type position : ℕ) → Rules
tracked_touched p t i = when_some (decl_of p t) (λ d. unless (is_some (slice_get (fields_of p t) i)) rule.UNKNOWN_NAME)

-- a field that is touched through a guard, by the field and by its position
abbrev pub guarded_field : Program → (type : ℕ) → Option FieldDecl → Rules
guarded_field p t None = rule.UNKNOWN_NAME ∷ []
guarded_field p t (Some d) = unless (lies_within (release_set p t) d.states) rule.GUARDED_FIELD

abbrev pub guarded_touched : Program → (type position : ℕ) → Rules
guarded_touched p t i = when_some (decl_of p t) (λ d. guarded_field p t (slice_get (fields_of p t) i))

-- a touch, by the field, by the object and by the type of the variable
abbrev pub field_touched : Program → Option Ty → Option FieldDecl → Rules
field_touched p ty None = rule.UNKNOWN_NAME ∷ []
field_touched p ty (Some d) = unless (is_permitted p ty d) rule.GUARDED_FIELD

abbrev pub object_touched : Program → Option Ty → (position : ℕ) → Option (ℕ × List ℕ) → Rules
object_touched p ty i None = rule.WRONG_TYPE ∷ []
object_touched p ty i (Some o) = when_some (decl_of p o.0) (λ d. field_touched p ty (slice_get (fields_of p o.0) i))

abbrev pub type_touched : Program → Ty → (position : ℕ) → Rules
type_touched p ty i = object_touched p (Some ty) i (object_in (Some ty))

abbrev pub var_touched : Program → Option Ty → (position : ℕ) → Rules
var_touched p ty i = when_some ty (λ t. object_touched p ty i (object_in (Some t)))

-- an expression that is a variable, and one that is a field
abbrev pub var_broken : Func → Ids → (v : ℕ) → Rules
var_broken f ids v = use_broken f ids v ++ not_owning_broken rule.WRONG_TYPE (var_type f v)

abbrev pub field_broken : Program → Func → Ids → (x position : ℕ) → Rules
field_broken p f ids x i = touch_broken p f ids x i ++ not_owning_broken rule.WRONG_SWAP (field_type p f x i)

-- the right operand of a binary expression
abbrev pub right_broken : Program → Func → Op → Expr → Expr → Rules
right_broken p f op a b = misfit (right_wanted (row_of op).takes (type_of_expr p f a)) (type_of_expr p f b)

-- the field is there
abbrev pub unless_there : Option FieldDecl → Rules
unless_there f = unless (is_some f) rule.UNKNOWN_NAME
