-- Rules on numbers: expressions and operands.
use Rattle.std.specs.Prelude.{ℕ, Bool, true, false, not, ◌&&◌, if◌then◌else◌, List, [], ◌∷◌, ◌++◌, Option, Some, None, slice_get}
use Rattle.vlt_ops.specs.declared.Op.{Op}
use Rattle.vlt_ops.specs.declared.Takes.{Takes}
use Rattle.vlt_ops.specs.declared.Takes.TheVariants as takes
use Rattle.vlt_ops.specs.Operator.{row_of}
use Rattle.vlt_core.specs.Core.{States, Ty, int, bool, tracked, owning, guarded, FieldDecl, Expr, number, truth, var, field, unary, binary, Operand, pure, move, pack, Func, Program}
use Rattle.vlt_core.specs.Lookups.{var_type, is_owning, fields_of, release_set}
use Rattle.vlt_core.specs.Types.{decl_of, lies_within, same_object, same_ty, with_keys}
use Rattle.vlt_core.specs.KindedHeads.{Rules, unless, when_some, states_broken}
use Rattle.vlt_core.specs.declared.rules.TheConstants as rule
use Rattle.vlt_core.specs.KindedScopes.{Ids, use_broken}

-- ---- expressions

-- two types that are known are the same
abbrev pub misfit : (wanted given : Option Ty) → Rules
misfit (Some w) (Some t) = unless (same_ty w t) rule.WRONG_TYPE
misfit _ _ = []

-- the declared type of a reference's object, with the keys that stand for its header
abbrev pub object_in : Option Ty → Option (ℕ × List ℕ)
object_in (Some (tracked k t args)) = Some (t, args)
object_in (Some (guarded k t args)) = Some (t, args)
object_in _ = None

abbrev pub field_decl : Program → Option (ℕ × List ℕ) → (position : ℕ) → Option FieldDecl
field_decl p None i = None
field_decl p (Some o) i = slice_get (fields_of p o.0) i

abbrev pub field_type_in : Option (ℕ × List ℕ) → Option FieldDecl → Option Ty
field_type_in (Some o) (Some d) = Some (with_keys o.1 d.ty)
field_type_in _ _ = None

-- the type of a field of a variable's object
abbrev pub field_type : Program → Func → (x position : ℕ) → Option Ty
field_type p f x i = field_type_in (object_in (var_type f x)) (field_decl p (object_in (var_type f x)) i)

abbrev pub unless_owning : Option Ty → Option Ty
unless_owning None = None
unless_owning (Some ty) = if is_owning ty then None else Some ty

abbrev pub given_by : Op → Ty
given_by op = if (row_of op).gives_int then int else bool

-- the type of an expression's value, where it is known
abbrev pub type_of_expr : Program → Func → Expr → Option Ty
type_of_expr p f (number z) = Some int
type_of_expr p f (truth b) = Some bool
type_of_expr p f (var v) = unless_owning (var_type f v)
type_of_expr p f (field x i) = unless_owning (field_type p f x i)
type_of_expr p f (unary op a) = Some (given_by op)
type_of_expr p f (binary op a b) = Some (given_by op)

abbrev pub is_basic : Ty → Bool
is_basic int = true
is_basic bool = true
is_basic ty = false

abbrev pub basic_broken : Option Ty → Rules
basic_broken ty = when_some ty (λ ty. unless (is_basic ty) rule.WRONG_TYPE)

abbrev pub basic_only : Option Ty → Option Ty
basic_only None = None
basic_only (Some ty) = if is_basic ty then Some ty else None

-- what an operator takes on its left, and then on its right
abbrev pub left_broken : Takes → Option Ty → Rules
left_broken takes.Int t = misfit (Some int) t
left_broken takes.Bool t = misfit (Some bool) t
left_broken takes.Either t = basic_broken t

abbrev pub right_wanted : Takes → (left : Option Ty) → Option Ty
right_wanted takes.Int t = Some int
right_wanted takes.Bool t = Some bool
right_wanted takes.Either t = basic_only t

-- A field is touched through a guard only where it is permitted in all states of the release set.
abbrev pub is_permitted : Program → Option Ty → FieldDecl → Bool
is_permitted p (Some (guarded k t args)) d = lies_within (release_set p t) d.states
is_permitted p ty d = true

-- a field of a variable's object
abbrev pub touch_broken : Program → Func → Ids → (x position : ℕ) → Rules
touch_broken p f ids x i = use_broken f ids x ++ when_some (var_type f x) (λ ty. of_object (object_in (Some ty)))
  where
    of_field : Option FieldDecl → Rules
    of_field None = rule.UNKNOWN_NAME ∷ []
    of_field (Some d) = unless (is_permitted p (var_type f x) d) rule.GUARDED_FIELD

    of_object : Option (ℕ × List ℕ) → Rules
    of_object None = rule.WRONG_TYPE ∷ []
    of_object (Some o) = when_some (decl_of p o.0) (λ d. of_field (slice_get (fields_of p o.0) i))

abbrev pub not_owning_broken : (rule : ℕ) → Option Ty → Rules
not_owning_broken r ty = when_some ty (λ ty. unless (not (is_owning ty)) r)

abbrev pub expr_broken : Program → Func → Ids → Expr → Rules
expr_broken p f ids (number z) = []
expr_broken p f ids (truth b) = []
expr_broken p f ids (var v) = use_broken f ids v ++ not_owning_broken rule.WRONG_TYPE (var_type f v)
expr_broken p f ids (field x i) = touch_broken p f ids x i ++ not_owning_broken rule.WRONG_SWAP (field_type p f x i)
expr_broken p f ids (unary op a) = expr_broken p f ids a ++ left_broken (row_of op).takes (type_of_expr p f a)
expr_broken p f ids (binary op a b) =
    expr_broken p f ids a ++ expr_broken p f ids b ++
    left_broken (row_of op).takes (type_of_expr p f a) ++
    misfit (right_wanted (row_of op).takes (type_of_expr p f a)) (type_of_expr p f b)

abbrev pub value_broken : Program → Func → Ids → (wanted : Option Ty) → Expr → Rules
value_broken p f ids w e = expr_broken p f ids e ++ misfit w (type_of_expr p f e)

-- ---- operands

-- an owning target takes an owning value of the same declared type in states within its own
abbrev pub fits_owning : (wanted given : Ty) → Bool
fits_owning (owning b u others) (owning a t args) = same_object t args u others && lies_within a b
fits_owning w t = same_ty w t

abbrev pub is_owning_some : Option Ty → Bool
is_owning_some None = false
is_owning_some (Some ty) = is_owning ty

abbrev pub move_broken : (wanted given : Option Ty) → Rules
move_broken w None = []
move_broken None (Some t) = unless (is_owning t) rule.WRONG_TYPE
move_broken (Some w) (Some t) = unless (is_owning t && fits_owning w t) rule.WRONG_TYPE

-- a reference's object, in these states, as an owning value
abbrev pub as_owning : States → Ty → Option Ty
as_owning states (tracked k t args) = Some (owning states t args)
as_owning states ty = None

abbrev pub pack_broken : Program → (wanted given : Option Ty) → States → Rules
pack_broken p w None states = []
pack_broken p w (Some (tracked k t args)) states =
    when_some (decl_of p t) (λ d. states_broken p t states) ++
    when_some w (λ w. unless (fits_owning w (owning states t args) && is_owning w) rule.WRONG_TYPE)
pack_broken p w (Some ty) states = rule.WRONG_TYPE ∷ []

-- an operand for a place of this type, where it is known
abbrev pub operand_broken : Program → Func → Ids → (wanted : Option Ty) → Operand → Rules
operand_broken p f ids w (pure e) =
    expr_broken p f ids e ++ (if is_owning_some w then rule.WRONG_TYPE ∷ [] else misfit w (type_of_expr p f e))
operand_broken p f ids w (move v) = use_broken f ids v ++ move_broken w (var_type f v)
operand_broken p f ids w (pack x states) = use_broken f ids x ++ pack_broken p w (var_type f x) states

abbrev pub operands_broken : Program → Func → Ids → (wanted : List Ty) → List Operand → Rules
operands_broken p f ids ws [] = []
operands_broken p f ids [] (o ∷ os) = operand_broken p f ids None o ++ operands_broken p f ids [] os
operands_broken p f ids (w ∷ ws) (o ∷ os) = operand_broken p f ids (Some w) o ++ operands_broken p f ids ws os
