-- Statements without blocks: what is refused in them, what they become, and the scope after them.
use Rattle.std.specs.Prelude.{ℕ, Bool, true, false, not, ◌&&◌, ◌==◌, if◌then◌else◌, List, [], ◌∷◌, ◌++◌, length, Option, Some, None, is_some, slice_get}
use Rattle.std.specs.List.{list_any}
use Rattle.vlt_syntax.specs.Tree as s
use Rattle.vlt_syntax.specs.Tree.{Name, Stmt}
use Rattle.vlt_core.specs.Core as core
use Rattle.vlt_core.specs.Core.{Ty, int, tracked, FieldDecl, Entry, Form, simple}
use Rattle.vlt_core.specs.Lookups.{is_owning, is_given_back}
use Rattle.vlt_core.specs.Types.{is_struct}
use Rattle.vlt_resolve_rights.specs.Droppable.{may_drop_struct, may_drop}
use Rattle.vlt_core.specs.declared.rules.TheConstants as rule
use Rattle.vlt_kinds_types.specs.declared.names.found.Refusal.{Refusal}
use Rattle.vlt_kinds_types.specs.Names.Refusals.{refusal, refuse_if}
use Rattle.vlt_kinds_types.specs.Files.{state_names, state_number}
use Rattle.vlt_kinds_types.specs.Types.{known_states}
use Rattle.vlt_kinds_types.specs.Kinds.{Kinds}
use Rattle.vlt_resolve_exprs.specs.Types.{is_same_ty, is_same_object, ty_under}
use Rattle.vlt_resolve_exprs.specs.Refused.{unknown_name}
use Rattle.vlt_resolve_exprs.specs.Scopes.{Scope, var_named, var_ty, more_var}
use Rattle.vlt_resolve_exprs.specs.Exprs.{fields_of, field_named, field_number, field_refused, field_ty, wanted_refused, expr_refused, expr_place, type_of, core_expr, var_number, number_of}
use Rattle.vlt_resolve_exprs.specs.Operands.{operand_refused, core_operand}
use Rattle.vlt_resolve_exprs.specs.Bindings.{too_many_vars, several_refused, with_several, several_numbers}
use Rattle.vlt_resolve_calls.specs.Builds.{build_refused, core_build}
use Rattle.vlt_resolve_calls.specs.Calls.{dropped, call_refused, core_call, has_fresh}
use Rattle.vlt_elaboration.specs.Around.{Around}
use Rattle.vlt_elaboration.specs.Declarations.{Became, declare_refused, declare_became, assign_refused, assign_became}

-- ---- x.f = e

unfoldable pub put_refused : Kinds → Scope → (x f : Name) → s.Expr → List Refusal
put_refused kinds scope x f e = field_refused kinds scope x f ++ wanted_refused kinds scope (field_ty kinds scope x f) e

unfoldable pub core_put : Kinds → Scope → (x f : Name) → s.Expr → Form
core_put kinds scope x f e = simple (core.put (var_number scope x) (field_number kinds scope x f) (core_expr kinds scope e))

-- ---- release x

-- a tracked object of a droppable struct, or an owning value that may be dropped
abbrev pub is_releasable : Kinds → Ty → Bool
is_releasable kinds (tracked k t args) = may_drop_struct kinds t
is_releasable kinds ty = may_drop kinds ty

unfoldable pub release_refused : Kinds → Option Ty → Name → List Refusal
release_refused kinds None x = refusal rule.UNKNOWN_NAME x.at.from ∷ []
release_refused kinds (Some ty) x = refuse_if (not (is_releasable kinds ty)) rule.WRONG_RELEASE x.at.from

unfoldable pub release_form : Option Ty → (v : ℕ) → Form
release_form (Some (tracked k t args)) v = simple (core.release v)
release_form _ v = simple (core.drop v)

-- ---- become x@s

unfoldable pub state_of : Kinds → (type : ℕ) → Name → Option ℕ
state_of kinds t n = state_number (known_states (state_names kinds.file (slice_get kinds.file.shapes t))) n

unfoldable pub state_refused : Kinds → (type : ℕ) → (x n : Name) → List Refusal
state_refused kinds t x n =
    if is_struct (slice_get kinds.types t) then refuse_if (not (is_some (state_of kinds t n))) rule.NOT_A_STATE n.at.from
    else refusal rule.WRONG_BECOME x.at.from ∷ []

unfoldable pub become_refused : Kinds → Option Ty → (x n : Name) → List Refusal
become_refused kinds None x n = refusal rule.UNKNOWN_NAME x.at.from ∷ []
become_refused kinds (Some (tracked k t args)) x n = state_refused kinds t x n
become_refused kinds (Some ty) x n = refusal rule.WRONG_BECOME x.at.from ∷ []

abbrev pub tracked_type : Option Ty → ℕ
tracked_type (Some (tracked k t args)) = t
tracked_type _ = 0

unfoldable pub core_become : Kinds → Scope → (x n : Name) → Form
core_become kinds scope x n =
    simple (core.become (var_number scope x) (number_of (state_of kinds (tracked_type (var_ty scope x.text)) n)))

-- ---- swap x.f, v

abbrev pub swapped_misfit : Ty → Option Ty → Name → List Refusal
swapped_misfit w None v = []
swapped_misfit w (Some t) v = refuse_if (not (is_same_ty t w)) rule.WRONG_TYPE v.at.from

unfoldable pub owner_refused : (args : List ℕ) → FieldDecl → Option Ty → (x v : Name) → List Refusal
owner_refused args d t x v =
    if is_owning d.ty then swapped_misfit (ty_under args d.ty) t v else refusal rule.WRONG_SWAP x.at.from ∷ []

abbrev pub swapped_field_refused : (args : List ℕ) → Option FieldDecl → Option Ty → (x f v : Name) → List Refusal
swapped_field_refused args None t x f v = refusal rule.UNKNOWN_NAME f.at.from ∷ []
swapped_field_refused args (Some d) t x f v = owner_refused args d t x v

unfoldable pub base_refused : Kinds → Option Ty → Option Ty → (x f v : Name) → List Refusal
base_refused kinds None t x f v = refusal rule.UNKNOWN_NAME x.at.from ∷ []
base_refused kinds (Some (tracked k u args)) t x f v = swapped_field_refused args (field_named kinds u f) t x f v
base_refused kinds (Some ty) t x f v = refusal rule.WRONG_SWAP x.at.from ∷ []

unfoldable pub swap_refused : Kinds → Scope → (x f v : Name) → List Refusal
swap_refused kinds scope x f v =
    base_refused kinds (var_ty scope x.text) (var_ty scope v.text) x f v ++ unknown_name (var_named scope v.text) v

unfoldable pub core_swap : Kinds → Scope → (x f v : Name) → Form
core_swap kinds scope x f v = simple (core.swap (var_number scope x) (field_number kinds scope x f) (var_number scope v))

-- ---- open x into (v, w)

abbrev pub owning_types : (args : List ℕ) → List FieldDecl → List Ty
owning_types args [] = []
owning_types args (d ∷ ds) = if is_owning d.ty then ty_under args d.ty ∷ owning_types args ds else owning_types args ds

-- the types of the parts of a struct's object
abbrev pub parts_of : Kinds → (type : ℕ) → (args : List ℕ) → Option (List Ty)
parts_of kinds t args = if is_struct (slice_get kinds.types t) then Some (owning_types args (fields_of kinds t)) else None

unfoldable pub opened_parts : Kinds → Option Ty → Option (List Ty)
opened_parts kinds (Some (tracked k t args)) = parts_of kinds t args
opened_parts kinds _ = None

unfoldable pub unopened_refused : Option Ty → Name → List Refusal
unopened_refused None x = refusal rule.UNKNOWN_NAME x.at.from ∷ []
unopened_refused (Some ty) x = refusal rule.WRONG_RELEASE x.at.from ∷ []

abbrev pub opened_refused : Kinds → Scope → Option (List Ty) → Option Ty → (x : Name) → List Name → ℕ → List Refusal
opened_refused kinds scope None ty x vs at = unopened_refused ty x
opened_refused kinds scope (Some ws) ty x vs at = several_refused kinds scope vs ws at

unfoldable pub open_refused : Kinds → Scope → (x : Name) → List Name → ℕ → List Refusal
open_refused kinds scope x vs at =
    opened_refused kinds scope (opened_parts kinds (var_ty scope x.text)) (var_ty scope x.text) x vs at

abbrev pub opened_became : Scope → Option (List Ty) → (x : Name) → List Name → Became
opened_became scope None x vs = ([], scope)
opened_became scope (Some ws) x vs =
    (simple (core.open_into (var_number scope x) (several_numbers scope vs ws)) ∷ [], with_several scope vs ws)

unfoldable pub open_became : Kinds → Scope → (x : Name) → List Name → Became
open_became kinds scope x vs = opened_became scope (opened_parts kinds (var_ty scope x.text)) x vs

-- ---- jumps

unfoldable pub jump_refused : Around → ℕ → List Refusal
jump_refused around at = refuse_if (not around.in_loop) rule.WRONG_JUMP at

-- ---- return

-- the same but for the type's own key
abbrev pub same_but_key : Ty → Ty → Bool
same_but_key (tracked k t a) (tracked l u b) = is_same_object t a u b
same_but_key _ _ = false

abbrev pub gives_back : Ty → List Entry → Bool
gives_back (tracked k t args) clause = list_any (λ e. e.key == k && is_given_back e) clause
gives_back _ clause = false

-- for a `new` key any object of the type is given, but for one whose key the clause gives back
unfoldable pub fresh_misfit : List Entry → Ty → Option Ty → (value at : ℕ) → List Refusal
fresh_misfit clause w None value at = []
fresh_misfit clause w (Some t) value at =
    if same_but_key w t then refuse_if (gives_back t clause) rule.RETURNED_KEY at else refusal rule.WRONG_TYPE value ∷ []

unfoldable pub fresh_refused : Kinds → Scope → List Entry → Ty → s.Expr → ℕ → List Refusal
fresh_refused kinds scope clause w e at =
    expr_refused kinds scope e ++ fresh_misfit clause w (type_of kinds scope e) (expr_place e) at

unfoldable pub value_refused : Kinds → Scope → List Entry → Ty → s.Expr → ℕ → List Refusal
value_refused kinds scope clause w e at =
    if has_fresh clause then fresh_refused kinds scope clause w e at else operand_refused kinds scope w e

abbrev pub value_refused_for : Kinds → Scope → List Entry → Option Ty → s.Expr → ℕ → List Refusal
value_refused_for kinds scope clause None e at = []
value_refused_for kinds scope clause (Some w) e at = value_refused kinds scope clause w e at

abbrev pub build_refused_for : Kinds → Scope → Option Ty → s.Build → List Refusal
build_refused_for kinds scope None b = []
build_refused_for kinds scope (Some w) b = build_refused kinds (more_var scope [] w) w b

unfoldable pub built_refused : Kinds → Scope → Option Ty → s.Build → ℕ → List Refusal
built_refused kinds scope w b at = too_many_vars scope at ++ build_refused_for kinds scope w b

unfoldable pub returned_refused : Kinds → Around → Scope → s.Returned → ℕ → List Refusal
returned_refused kinds around scope s.nothing at = []
returned_refused kinds around scope (s.value e) at = value_refused_for kinds scope around.clause around.result e at
returned_refused kinds around scope (s.build b) at = built_refused kinds scope around.result b at

abbrev pub gives_value : s.Returned → Bool
gives_value s.nothing = false
gives_value _ = true

abbrev pub differ : Bool → Bool → Bool
differ true b = not b
differ false b = b

unfoldable pub return_refused : Kinds → Around → Scope → s.Returned → ℕ → List Refusal
return_refused kinds around scope r at =
    refuse_if around.in_focus rule.WRONG_JUMP at
    ++ (refuse_if (differ (gives_value r) (is_some around.result)) rule.WRONG_RETURN at
    ++ returned_refused kinds around scope r at)

-- what is returned of a hidden variable
abbrev pub hidden_operand : Ty → (v : ℕ) → core.Operand
hidden_operand ty v = if is_owning ty then core.move v else core.pure (core.var v)

abbrev pub returned_value : Kinds → Scope → Option Ty → s.Expr → List Form
returned_value kinds scope None e = []
returned_value kinds scope (Some w) e = core.return (Some (core_operand kinds scope w e)) ∷ []

abbrev pub returned_build : Kinds → Scope → Option Ty → s.Build → Became
returned_build kinds scope None b = ([], scope)
returned_build kinds scope (Some w) b = (
  core_build kinds (more_var scope [] w) w (length scope.vars) b ∷ core.return (Some (hidden_operand w (length scope.vars))) ∷ [],
  more_var scope [] w,
)

unfoldable pub return_became : Kinds → Around → Scope → s.Returned → Became
return_became kinds around scope s.nothing = (core.return None ∷ [], scope)
return_became kinds around scope (s.value e) = (returned_value kinds scope around.result e, scope)
return_became kinds around scope (s.build b) = returned_build kinds scope around.result b

-- ---- all of them

abbrev pub simple_refused : Kinds → Around → Scope → Stmt → List Refusal
simple_refused kinds around scope (s.declare t x right at) = declare_refused kinds scope t x right at.from
simple_refused kinds around scope (s.assign x right at) = assign_refused kinds scope x right at.from
simple_refused kinds around scope (s.put x f e at) = put_refused kinds scope x f e
simple_refused kinds around scope (s.call c at) = call_refused kinds scope (dropped at.from) c
simple_refused kinds around scope (s.print e at) = wanted_refused kinds scope (Some int) e
simple_refused kinds around scope (s.break at) = jump_refused around at.from
simple_refused kinds around scope (s.continue at) = jump_refused around at.from
simple_refused kinds around scope (s.return r at) = return_refused kinds around scope r at.from
simple_refused kinds around scope (s.release x at) = release_refused kinds (var_ty scope x.text) x
simple_refused kinds around scope (s.become x n at) = become_refused kinds (var_ty scope x.text) x n
simple_refused kinds around scope (s.swap x f v at) = swap_refused kinds scope x f v
simple_refused kinds around scope (s.open_into x vs at) = open_refused kinds scope x vs at.from
simple_refused kinds around scope _ = []

abbrev pub alone : Form → Scope → Became
alone form scope = (form ∷ [], scope)

abbrev pub simple_became : Kinds → Around → Scope → Stmt → Became
simple_became kinds around scope (s.declare t x right at) = declare_became kinds scope t x right
simple_became kinds around scope (s.assign x right at) = assign_became kinds scope x right
simple_became kinds around scope (s.put x f e at) = alone (core_put kinds scope x f e) scope
simple_became kinds around scope (s.call c at) = alone (core_call kinds scope (dropped at.from) None c) scope
simple_became kinds around scope (s.print e at) = alone (simple (core.print (core_expr kinds scope e))) scope
simple_became kinds around scope (s.break at) = alone (core.jump false) scope
simple_became kinds around scope (s.continue at) = alone (core.jump true) scope
simple_became kinds around scope (s.return r at) = return_became kinds around scope r
simple_became kinds around scope (s.release x at) = alone (release_form (var_ty scope x.text) (var_number scope x)) scope
simple_became kinds around scope (s.become x n at) = alone (core_become kinds scope x n) scope
simple_became kinds around scope (s.swap x f v at) = alone (core_swap kinds scope x f v) scope
simple_became kinds around scope (s.open_into x vs at) = open_became kinds scope x vs
simple_became kinds around scope _ = ([], scope)
