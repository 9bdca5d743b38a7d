-- Rules on numbers: statements without blocks that call nothing.
use Rattle.std.specs.Prelude.{ℕ, ◌==◌, Bool, true, false, ◌&&◌, if◌then◌else◌, List, [], ◌∷◌, ◌++◌, length, map, filter, Option, Some, None, slice_get}
use Rattle.vlt_core.specs.Core.{Ty, int, bool, tracked, owning, guarded, variant, owning_variant, FieldDecl, CaseDecl, Expr, var, Simple, set, input, print, put, make, become, release, drop, own, unpack, build, swap, open_into, adopt, Func, Program}
use Rattle.vlt_core.specs.Lookups.{var_type, is_owning, is_owning_var, fields_of, cases_of}
use Rattle.vlt_core.specs.Types.{decl_of, is_struct, is_variant, is_droppable, is_droppable_struct, same_object, with_keys}
use Rattle.vlt_core.specs.KindedHeads.{Rules, unless, when_some, state_broken}
use Rattle.vlt_core.specs.declared.rules.TheConstants as rule
use Rattle.vlt_core.specs.KindedScopes.{Ids, with_binding, with_target, own_key, use_broken, binding_broken, target_broken}
use Rattle.vlt_core.specs.KindedOperands.{misfit, field_type, unless_owning, type_of_expr, touch_broken, not_owning_broken, expr_broken, value_broken, operand_broken, operands_broken}

-- ---- statements without blocks

-- x is a reference in scope; else the rule is broken
abbrev pub tracked_broken : Func → Ids → (rule : ℕ) → (x : ℕ) → Rules
tracked_broken f ids r x = use_broken f ids x ++ when_some (var_type f x) is_tracked
  where
    is_tracked : Ty → Rules
    is_tracked (tracked k t args) = []
    is_tracked ty = r ∷ []

abbrev pub tracked_type : Option Ty → Option (ℕ × List ℕ)
tracked_type (Some (tracked k t args)) = Some (t, args)
tracked_type _ = None

-- the object of a reference is a struct's; where its type is declared, else the rule is broken
abbrev pub struct_broken : Program → Func → (rule : ℕ) → (x : ℕ) → (Program → (type : ℕ) → List ℕ → Rules) → Rules
struct_broken p f r x go = when_some (tracked_type (var_type f x)) of_type
  where
    of_type : ℕ × List ℕ → Rules
    of_type o = when_some (decl_of p o.0) (λ d. if is_struct (Some d) then go p o.0 o.1 else r ∷ [])

abbrev pub droppable_broken : Program → Func → (x : ℕ) → Rules
droppable_broken p f x = when_some (tracked_type (var_type f x)) of_type
  where
    of_type : ℕ × List ℕ → Rules
    of_type o = when_some (decl_of p o.0) (λ d. unless (is_droppable_struct p o.0) rule.WRONG_RELEASE)

abbrev pub field_types : Program → (type : ℕ) → List ℕ → List Ty
field_types p t args = map (λ d. with_keys args d.ty) (fields_of p t)

abbrev pub owning_field_types : Program → (type : ℕ) → List ℕ → List Ty
owning_field_types p t args = filter is_owning (field_types p t args)

-- the types of the fields of a new object, none where they aren't known
abbrev pub made_types : Program → Option Ty → List Ty
made_types p (Some (tracked k t args)) = field_types p t args
made_types p _ = []

abbrev pub made_broken : Program → (count : ℕ) → Option Ty → Rules
made_broken p n None = []
made_broken p n (Some (tracked k t args)) =
    when_some (decl_of p t) (λ d. if is_struct (Some d) then unless (n == length (fields_of p t)) rule.WRONG_COUNT else rule.WRONG_NEW ∷ [])
made_broken p n (Some ty) = rule.WRONG_TYPE ∷ []

abbrev pub variant_args : Option Ty → Option (ℕ × List ℕ)
variant_args (Some (variant t args)) = Some (t, args)
variant_args (Some (owning_variant t args)) = Some (t, args)
variant_args _ = None

abbrev pub payload_types_in : List ℕ → Option CaseDecl → List Ty
payload_types_in args None = []
payload_types_in args (Some d) = map (with_keys args) d.payload

abbrev pub payload_types : Program → Option (ℕ × List ℕ) → (case : ℕ) → List Ty
payload_types p None c = []
payload_types p (Some o) c = payload_types_in o.1 (slice_get (cases_of p o.0) c)

-- so many payloads for a case of a variable's variant
abbrev pub case_broken : Program → (case count : ℕ) → Option (ℕ × List ℕ) → Rules
case_broken p c n None = []
case_broken p c n (Some o) = if is_variant (decl_of p o.0) then of_case (slice_get (cases_of p o.0) c) else []
  where
    of_case : Option CaseDecl → Rules
    of_case None = rule.UNKNOWN_NAME ∷ []
    of_case (Some d) = unless (n == length d.payload) rule.WRONG_COUNT

abbrev pub is_variant_type : Ty → Bool
is_variant_type (variant t args) = true
is_variant_type (owning_variant t args) = true
is_variant_type ty = false

abbrev pub wanted_of : (ty : Option Ty) → (Ty → Bool) → Rules
wanted_of ty test = when_some ty (λ ty. unless (test ty) rule.WRONG_TYPE)

abbrev pub is_guarded_type : Ty → Bool
is_guarded_type (guarded k t args) = true
is_guarded_type ty = false

abbrev pub is_tracked_type : Ty → Bool
is_tracked_type (tracked k t args) = true
is_tracked_type ty = false

abbrev pub is_owning_object : Ty → Bool
is_owning_object (owning states t args) = true
is_owning_object ty = false

-- both are of objects of one declared type under the same keys, where that is known
abbrev pub objects_apart : (a b : Option (ℕ × List ℕ)) → Rules
objects_apart (Some o) (Some q) = unless (same_object o.0 o.1 q.0 q.1) rule.WRONG_TYPE
objects_apart _ _ = []

abbrev pub owning_object : Option Ty → Option (ℕ × List ℕ)
owning_object (Some (owning states t args)) = Some (t, args)
owning_object _ = None

abbrev pub guarded_object : Option Ty → Option (ℕ × List ℕ)
guarded_object (Some (guarded k t args)) = Some (t, args)
guarded_object _ = None

abbrev pub guard_key : Option Ty → Option ℕ
guard_key (Some (guarded k t args)) = Some k
guard_key _ = None

abbrev pub keys_differ : (a b : Option ℕ) → Rules
keys_differ (Some k) (Some j) = unless (k == j) rule.WRONG_TYPE
keys_differ _ _ = []

-- variables that are opened, one after another
abbrev pub opened_broken : Program → Func → Ids → (wanted : List Ty) → List ℕ → Rules
opened_broken p f ids ws [] = []
opened_broken p f ids [] (v ∷ vs) = binding_broken f ids None v ++ opened_broken p f (with_binding f None v ids) [] vs
opened_broken p f ids (w ∷ ws) (v ∷ vs) =
    misfit (Some w) (var_type f v) ++ binding_broken f ids None v ++ opened_broken p f (with_binding f None v ids) ws vs

abbrev pub with_bindings : Func → List ℕ → Ids → Ids
with_bindings f [] ids = ids
with_bindings f (v ∷ vs) ids = with_bindings f vs (with_binding f None v ids)

-- an expression that is set: a reference is given by a variable alone, an owning target by no expression
abbrev pub set_broken : Program → Func → Option Ty → Expr → Rules
set_broken p f None e = []
set_broken p f (Some ty) e =
    if is_owning ty then rule.WRONG_TYPE ∷ [] else (reference_set ty e ++ misfit (Some ty) (type_of_expr p f e))
  where
    by_var : Expr → Rules
    by_var (var v) = []
    by_var e = rule.WRONG_TYPE ∷ []

    reference_set : Ty → Expr → Rules
    reference_set (tracked k t args) e = by_var e
    reference_set ty e = []

abbrev pub swap_broken : Program → Func → (x position v : ℕ) → Rules
swap_broken p f x i v = struct_broken p f rule.WRONG_SWAP x (λ p t args. of_field (slice_get (fields_of p t) i) args)
  where
    of_field : Option FieldDecl → List ℕ → Rules
    of_field None args = rule.UNKNOWN_NAME ∷ []
    of_field (Some d) args =
        if is_owning d.ty then misfit (Some (with_keys args d.ty)) (var_type f v) else rule.WRONG_SWAP ∷ []

abbrev pub opened_types : Program → Option (ℕ × List ℕ) → List Ty
opened_types p None = []
opened_types p (Some o) = owning_field_types p o.0 o.1

-- what a statement's own row breaks
abbrev pub simple_broken : Program → Func → Ids → Simple → Rules
simple_broken p f ids (set v e) = expr_broken p f ids e ++ set_broken p f (var_type f v) e ++ target_broken f ids v
simple_broken p f ids (input v more) =
    misfit (Some (if more then bool else int)) (var_type f v) ++ target_broken f ids v
simple_broken p f ids (print e) = value_broken p f ids (Some int) e
simple_broken p f ids (put x i e) =
    expr_broken p f ids e ++ touch_broken p f ids x i ++ not_owning_broken rule.WRONG_SWAP (field_type p f x i) ++
    misfit (unless_owning (field_type p f x i)) (type_of_expr p f e)
simple_broken p f ids (make x args) =
    made_broken p (length args) (var_type f x) ++
    operands_broken p f ids (made_types p (var_type f x)) args ++
    binding_broken f ids (own_key f x) x
simple_broken p f ids (become x state) =
    tracked_broken f ids rule.WRONG_BECOME x ++
    struct_broken p f rule.WRONG_BECOME x (λ p t args. state_broken p t state)
simple_broken p f ids (release x) = tracked_broken f ids rule.WRONG_RELEASE x ++ droppable_broken p f x
simple_broken p f ids (drop v) =
    use_broken f ids v ++ when_some (var_type f v) (λ ty. unless (is_owning ty && is_droppable p ty) rule.WRONG_RELEASE)
simple_broken p f ids (own v value) =
    wanted_of (var_type f v) is_owning ++
    operand_broken p f ids (if is_owning_var f v then var_type f v else None) value ++
    target_broken f ids v
simple_broken p f ids (unpack x v) =
    use_broken f ids v ++ wanted_of (var_type f v) is_owning_object ++ wanted_of (var_type f x) is_tracked_type ++
    objects_apart (owning_object (var_type f v)) (tracked_type (var_type f x)) ++
    binding_broken f ids (own_key f x) x
simple_broken p f ids (build v case args) =
    wanted_of (var_type f v) is_variant_type ++
    case_broken p case (length args) (variant_args (var_type f v)) ++
    operands_broken p f ids (payload_types p (variant_args (var_type f v)) case) args ++
    target_broken f ids v
simple_broken p f ids (swap x i v) =
    tracked_broken f ids rule.WRONG_SWAP x ++ use_broken f ids v ++ swap_broken p f x i v
simple_broken p f ids (open_into x vs) =
    tracked_broken f ids rule.WRONG_RELEASE x ++
    struct_broken p f rule.WRONG_RELEASE x (λ p t args. unless (length (owning_field_types p t args) == length vs) rule.WRONG_COUNT) ++
    opened_broken p f ids (opened_types p (tracked_type (var_type f x))) vs
simple_broken p f ids (adopt y x r) =
    tracked_broken f ids rule.WRONG_TYPE x ++ tracked_broken f ids rule.WRONG_TYPE r ++ droppable_broken p f x ++
    wanted_of (var_type f y) is_guarded_type ++
    objects_apart (guarded_object (var_type f y)) (tracked_type (var_type f x)) ++
    keys_differ (guard_key (var_type f y)) (own_key f r) ++
    target_broken f ids y

-- what is in scope after it
abbrev pub ids_after : Func → Simple → Ids → Ids
ids_after f (set v e) ids = with_target f v ids
ids_after f (input v more) ids = with_target f v ids
ids_after f (make x args) ids = with_binding f (own_key f x) x ids
ids_after f (own v value) ids = with_target f v ids
ids_after f (unpack x v) ids = with_binding f (own_key f x) x ids
ids_after f (build v case args) ids = with_target f v ids
ids_after f (open_into x vs) ids = with_bindings f vs ids
ids_after f (adopt y x r) ids = with_target f y ids
ids_after f s ids = ids
