-- Expressions: their types, what is refused in them, and what they become.
use Rattle.std.specs.Prelude.{ℕ, Bool, true, false, not, if◌then◌else◌, List, [], ◌∷◌, ◌++◌, Option, Some, None, slice_get, unwrap_or}
use Rattle.std.specs.List.{position}
use Rattle.std.specs.Str.{bytes_eq}
use Rattle.vlt_ops.specs.declared.Op.{Op}
use Rattle.vlt_ops.specs.declared.Takes.{Takes}
use Rattle.vlt_ops.specs.declared.Takes.TheVariants as takes
use Rattle.vlt_ops.specs.Operator.{row_of}
use Rattle.vlt_syntax.specs.Tree as s
use Rattle.vlt_syntax.specs.Tree.{Name}
use Rattle.vlt_core.specs.Core as core
use Rattle.vlt_core.specs.Core.{Ty, int, bool, tracked, guarded, TypeDecl, a_struct, FieldDecl}
use Rattle.vlt_core.specs.Lookups.{fields_in, is_owning}
use Rattle.vlt_kinds_types.specs.declared.names.found.Refusal.{Refusal}
use Rattle.vlt_core.specs.declared.rules.TheConstants.{UNKNOWN_NAME, WRONG_TYPE, GUARDED_FIELD, WRONG_SWAP}
use Rattle.vlt_kinds_types.specs.Names.Refusals.{refusal, refuse_if}
use Rattle.vlt_kinds_types.specs.Kinds.{Kinds}
use Rattle.vlt_resolve_exprs.specs.Refused.{unknown_name}
use Rattle.vlt_resolve_exprs.specs.Types.{then_with, is_inside, is_same_ty, ty_under}
use Rattle.vlt_resolve_exprs.specs.Scopes.{Scope, var_named, var_ty}

unfoldable pub expr_place : s.Expr → ℕ
expr_place (s.number z at) = at.from
expr_place (s.true at) = at.from
expr_place (s.false at) = at.from
expr_place (s.variable x) = x.at.from
expr_place (s.field x f) = x.at.from
expr_place (s.group e at) = at.from
expr_place (s.unary o e at) = at.from
expr_place (s.binary o l r at) = at.from

-- ---- fields

abbrev pub fields_of : Kinds → (type : ℕ) → List FieldDecl
fields_of kinds t = fields_in (slice_get kinds.types t)

unfoldable pub field_position : Kinds → (type : ℕ) → Name → Option ℕ
field_position kinds t f = position (λ d. bytes_eq f.text d.name) (fields_of kinds t)

unfoldable pub field_named : Kinds → (type : ℕ) → Name → Option FieldDecl
field_named kinds t f = then_with (field_position kinds t f) (slice_get (fields_of kinds t))

-- the object whose fields a variable may touch, under its own key or under a guard's
pub record Object : Type 0 where
  pub guarded : Bool
  pub type : ℕ
  pub args : List ℕ

abbrev pub object_in : Ty → Option Object
object_in (tracked k t args) = Some (record { guarded = false; type = t; args = args })
object_in (guarded k t args) = Some (record { guarded = true; type = t; args = args })
object_in _ = None

-- an owning field is neither read nor assigned
abbrev pub value_ty : (args : List ℕ) → Option FieldDecl → Option Ty
value_ty args None = None
value_ty args (Some d) = if is_owning d.ty then None else Some (ty_under args d.ty)

unfoldable pub object_field_ty : Kinds → Object → Name → Option Ty
object_field_ty kinds o f = value_ty o.args (field_named kinds o.type f)

-- the type of the field, where it may be read
unfoldable pub field_ty : Kinds → Scope → (x f : Name) → Option Ty
field_ty kinds scope x f =
    then_with (var_ty scope x.text) (λ ty. then_with (object_in ty) (λ o. object_field_ty kinds o f))

-- a field that isn't permitted in all states in which an object that was adopted may be
unfoldable pub guard_refused : Bool → Option TypeDecl → FieldDecl → Name → List Refusal
guard_refused true (Some (a_struct s)) d x = refuse_if (not (is_inside s.release d.states)) GUARDED_FIELD x.at.from
guard_refused _ _ d x = []

unfoldable pub owner_refused : FieldDecl → Name → List Refusal
owner_refused d x = refuse_if (is_owning d.ty) WRONG_SWAP x.at.from

unfoldable pub touch_refused : Bool → Option TypeDecl → FieldDecl → Name → List Refusal
touch_refused adopted type d x = guard_refused adopted type d x ++ owner_refused d x

abbrev pub named_refused : Bool → Option TypeDecl → Option FieldDecl → (x f : Name) → List Refusal
named_refused adopted type None x f = refusal UNKNOWN_NAME f.at.from ∷ []
named_refused adopted type (Some d) x f = touch_refused adopted type d x

abbrev pub object_refused : Kinds → Option Object → (x f : Name) → List Refusal
object_refused kinds None x f = refusal WRONG_TYPE x.at.from ∷ []
object_refused kinds (Some o) x f = named_refused o.guarded (slice_get kinds.types o.type) (field_named kinds o.type f) x f

abbrev pub base_refused : Kinds → Option Ty → (x f : Name) → List Refusal
base_refused kinds None x f = refusal UNKNOWN_NAME x.at.from ∷ []
base_refused kinds (Some ty) x f = object_refused kinds (object_in ty) x f

-- what is refused where a field is read or assigned
unfoldable pub field_refused : Kinds → Scope → (x f : Name) → List Refusal
field_refused kinds scope x f = base_refused kinds (var_ty scope x.text) x f

-- ---- types

unfoldable pub type_given : Op → Ty
type_given o = if (row_of o).gives_int then int else bool

-- the type of an expression, as far as names are known
unfoldable pub type_of : Kinds → Scope → s.Expr → Option Ty
type_of kinds scope (s.number z at) = Some int
type_of kinds scope (s.true at) = Some bool
type_of kinds scope (s.false at) = Some bool
type_of kinds scope (s.variable x) = var_ty scope x.text
type_of kinds scope (s.field x f) = field_ty kinds scope x f
type_of kinds scope (s.group e at) = type_of kinds scope e
type_of kinds scope (s.unary o e at) = Some (type_given o)
type_of kinds scope (s.binary o l r at) = Some (type_given o)

-- ---- what is refused

-- a type that isn't the wanted one; what isn't known fits
unfoldable pub unfit : Option Ty → Option Ty → ℕ → List Refusal
unfit (Some w) (Some t) at = refuse_if (not (is_same_ty w t)) WRONG_TYPE at
unfit _ _ at = []

abbrev pub is_basic : Ty → Bool
is_basic int = true
is_basic bool = true
is_basic _ = false

unfoldable pub not_basic : Option Ty → ℕ → List Refusal
not_basic (Some t) at = refuse_if (not (is_basic t)) WRONG_TYPE at
not_basic None at = []

abbrev pub basic : Option Ty → Option Ty
basic (Some t) = if is_basic t then Some t else None
basic None = None

-- what an operator wants of both operands, or of the second one
unfoldable pub operand_wanted : Takes → Option Ty → Option Ty
operand_wanted takes.Int left = Some int
operand_wanted takes.Bool left = Some bool
operand_wanted takes.Either left = basic left

unfoldable pub left_refused : Takes → Option Ty → ℕ → List Refusal
left_refused takes.Int t at = unfit (Some int) t at
left_refused takes.Bool t at = unfit (Some bool) t at
left_refused takes.Either t at = not_basic t at

-- an operator, after what is refused in its operand of this type at this place
unfoldable pub unary_refused : Op → List Refusal → Option Ty → ℕ → List Refusal
unary_refused o inner t at = inner ++ unfit (Some (type_given o)) t at

unfoldable pub binary_refused : Op → List Refusal → Option Ty → ℕ → List Refusal → Option Ty → ℕ → List Refusal
binary_refused o left t at right u following =
    (left ++ left_refused (row_of o).takes t at) ++ (right ++ unfit (operand_wanted (row_of o).takes t) u following)

abbrev pub expr_refused : Kinds → Scope → s.Expr → List Refusal
expr_refused kinds scope (s.number z at) = []
expr_refused kinds scope (s.true at) = []
expr_refused kinds scope (s.false at) = []
expr_refused kinds scope (s.variable x) = unknown_name (var_named scope x.text) x
expr_refused kinds scope (s.field x f) = field_refused kinds scope x f
expr_refused kinds scope (s.group e at) = expr_refused kinds scope e
expr_refused kinds scope (s.unary o e at) =
    unary_refused o (expr_refused kinds scope e) (type_of kinds scope e) (expr_place e)
expr_refused kinds scope (s.binary o l r at) =
    binary_refused o (expr_refused kinds scope l) (type_of kinds scope l) (expr_place l)
    (expr_refused kinds scope r) (type_of kinds scope r) (expr_place r)

-- an expression of a wanted type
unfoldable pub wanted_refused : Kinds → Scope → Option Ty → s.Expr → List Refusal
wanted_refused kinds scope w e = expr_refused kinds scope e ++ unfit w (type_of kinds scope e) (expr_place e)

-- ---- what an expression becomes

-- A number that isn't known is 0: such an expression is refused.
abbrev pub number_of : Option ℕ → ℕ
number_of o = unwrap_or o 0

abbrev pub object_type : Option Ty → ℕ
object_type o = number_of (then_with o (λ ty. then_with (object_in ty) (λ x. Some x.type)))

unfoldable pub field_number : Kinds → Scope → (x f : Name) → ℕ
field_number kinds scope x f = number_of (field_position kinds (object_type (var_ty scope x.text)) f)

unfoldable pub var_number : Scope → Name → ℕ
var_number scope x = number_of (var_named scope x.text)

abbrev pub core_expr : Kinds → Scope → s.Expr → core.Expr
core_expr kinds scope (s.number z at) = core.number z
core_expr kinds scope (s.true at) = core.truth true
core_expr kinds scope (s.false at) = core.truth false
core_expr kinds scope (s.variable x) = core.var (var_number scope x)
core_expr kinds scope (s.field x f) = core.field (var_number scope x) (field_number kinds scope x f)
core_expr kinds scope (s.group e at) = core_expr kinds scope e
core_expr kinds scope (s.unary o e at) = core.unary o (core_expr kinds scope e)
core_expr kinds scope (s.binary o l r at) = core.binary o (core_expr kinds scope l) (core_expr kinds scope r)
