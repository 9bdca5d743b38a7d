-- Which rules on names and types a core program breaks, read on numbers: declarations and heads. A list has the numbers of
-- the rules that are broken.
use Rattle.std.specs.Prelude.{ℕ, suc, nat_lt, nat_le, ◌==◌, Bool, true, false, not, ◌&&◌, ◌||◌, if◌then◌else◌, List, [], ◌∷◌, ◌++◌, length, map, filter, take, drop, Option, Some, None, slice_get}
use Rattle.std.specs.List.{list_any, list_all, flat_map}
use Rattle.vlt_core.specs.Core.{States, Ty, int, bool, tracked, owning, guarded, variant, owning_variant, FieldDecl, CaseKey, CaseDecl, TypeDecl, an_abstract, a_struct, a_variant, Header, SetDecl, Mode, up_to, Entry, KeyDecl, Func, Program}
use Rattle.vlt_core.specs.Lookups.{set_in, all_states, leads_up, is_new, cases_of}
use Rattle.vlt_core.specs.Types.{decl_of, is_struct, is_abstract, is_variant, header_of, is_keyed, is_owning_type, lies_within, args_of, keys_of_ty, type_in}
use Rattle.vlt_core.specs.declared.rules.TheConstants as rule

abbrev pub Rules : Type 0
Rules = List ℕ

abbrev pub unless : Bool → (rule : ℕ) → Rules
unless true r = []
unless false r = r ∷ []

abbrev pub when_some : {A : Type 0} → Option A → (A → Rules) → Rules
when_some None go = []
when_some (Some x) go = go x

abbrev pub has : List ℕ → ℕ → Bool
has ns n = list_any (λ m. m == n) ns

abbrev pub are_apart : List ℕ → Bool
are_apart [] = true
are_apart (n ∷ ns) = not (has ns n) && are_apart ns

-- ---- types

-- the set that a declared type names is there
abbrev pub has_set : Program → Option TypeDecl → Bool
has_set p d = is_there (set_in d)
  where
    is_there : Option ℕ → Bool
    is_there None = true
    is_there (Some i) = nat_lt i (length p.sets)

-- states of a declared type's objects; nothing is said where its set isn't there
abbrev pub states_broken : Program → (type : ℕ) → States → Rules
states_broken p t states =
    if has_set p (decl_of p t) then unless (lies_within states (all_states p t)) rule.NOT_A_STATE else []

-- A statement's own state is asked whatever number it is; `lies_within` asks those below 32 alone, all that a set has.
abbrev pub state_broken : Program → (type : ℕ) → (state : ℕ) → Rules
state_broken p t state =
    if has_set p (decl_of p t) then unless (all_states p t state) rule.NOT_A_STATE else []

-- what is written before the name fits the declared type
abbrev pub shape_broken : Program → Ty → Rules
shape_broken p (tracked k t args) = unless (not (is_variant (decl_of p t))) rule.WRONG_PREFIX
shape_broken p (owning states t args) =
    unless (not (is_variant (decl_of p t))) rule.WRONG_PREFIX ++
    (if is_variant (decl_of p t) then [] else states_broken p t states)
shape_broken p (guarded k t args) = unless (is_struct (decl_of p t)) rule.WRONG_PREFIX
shape_broken p (variant t args) =
    unless (is_variant (decl_of p t)) rule.BARE_OBJECT ++
    (if is_variant (decl_of p t) then unless (not (is_owning_type p t)) rule.WRONG_OWNERSHIP else [])
shape_broken p (owning_variant t args) = unless (is_variant (decl_of p t) && is_owning_type p t) rule.WRONG_OWNERSHIP
shape_broken p ty = []

-- A type in a declaration or in a function: `key_broken` says what its keys break, `arg_broken` what a key breaks that stands
-- for a header's key of a given type.
abbrev pub ty_broken : Program → (key_broken : ℕ → Rules) → (arg_broken : (key type : ℕ) → Rules) → Ty → Rules
ty_broken p key_broken arg_broken ty =
    flat_map key_broken (keys_of_ty ty) ++ when_some (type_in ty) (λ t. declared t (decl_of p t))
  where
    args_broken : List ℕ → Header → Rules
    args_broken (k ∷ ks) (h ∷ hs) = when_some h (arg_broken k) ++ args_broken ks hs
    args_broken _ _ = []

    declared : ℕ → Option TypeDecl → Rules
    declared t None = rule.NOT_A_TYPE ∷ []
    declared t (Some d) =
        unless (length (args_of ty) == length (header_of p t)) rule.KEY_COUNT ++
        shape_broken p ty ++
        args_broken (args_of ty) (header_of p t)

-- ---- declarations

-- the type of a field or a payload; its keys are positions of the header
abbrev pub part_broken : Program → Header → Ty → Rules
part_broken p header ty = ty_broken p (λ k. unless (nat_lt k (length header)) rule.KEY_NOT_IN_HEADER) arg_broken ty
  where
    fits : ℕ → Option ℕ → Bool
    fits t None = false
    fits t (Some u) = t == u

    arg_broken : (key type : ℕ) → Rules
    arg_broken k t = when_some (slice_get header k) (λ h. unless (fits t h) rule.KEY_ARGUMENT)

abbrev pub header_broken : Program → Header → Rules
header_broken p header = flat_map (λ h. when_some h (λ t. of_decl (decl_of p t))) header
  where
    of_decl : Option TypeDecl → Rules
    of_decl None = rule.NOT_A_TYPE ∷ []
    of_decl d = unless (not (is_variant d)) rule.HEADER_TYPE

abbrev pub is_field_type : Program → Ty → Bool
is_field_type p (tracked k t args) = false
is_field_type p (variant t args) = not (is_keyed p t)
is_field_type p (owning_variant t args) = not (is_keyed p t)
is_field_type p ty = true

abbrev pub field_broken : Program → (type : ℕ) → Header → FieldDecl → Rules
field_broken p t header d =
    part_broken p header d.ty ++ states_broken p t d.states ++ unless (is_field_type p d.ty) rule.FIELD_TYPE

abbrev pub is_payload_type : Ty → Bool
is_payload_type int = true
is_payload_type bool = true
is_payload_type (guarded k t args) = true
is_payload_type (owning states t args) = true
is_payload_type ty = false

abbrev pub case_key_broken : Program → Header → CaseKey → Rules
case_key_broken p header k = of_key (slice_get header k.position)
  where
    of_key : Option (Option ℕ) → Rules
    of_key (Some (Some t)) = when_some (decl_of p t) (λ d. states_broken p t k.states)
    of_key _ = rule.CASE_KEY ∷ []

abbrev pub case_broken : Program → Header → CaseDecl → Rules
case_broken p header c =
    flat_map (λ ty. part_broken p header ty ++ unless (is_payload_type ty) rule.PAYLOAD_TYPE) c.payload ++
    unless (are_apart (map (λ k. k.position) c.keys)) rule.CASE_KEY ++
    flat_map (case_key_broken p header) c.keys

-- no state is below itself
abbrev pub set_broken : SetDecl → Rules
set_broken d = unless (not (list_any (λ l. leads_up d.links 31 l.upper l.lower) d.links)) rule.ORDER_LOOP

-- the rows of a declared type: its own, and one for each case
abbrev pub type_rows : Program → (type : ℕ) → TypeDecl → List Rules
type_rows p t (an_abstract name set) = unless (has_set p (decl_of p t)) rule.UNKNOWN_NAME ∷ []
type_rows p t (a_struct d) =
    (unless (has_set p (decl_of p t)) rule.UNKNOWN_NAME ++
    header_broken p d.header ++
    states_broken p t d.release ++
    flat_map (field_broken p t d.header) d.fields) ∷ []
type_rows p t (a_variant d) = header_broken p d.header ∷ map (case_broken p d.header) d.cases

-- ---- heads

abbrev pub parameters_of : Func → List Ty
parameters_of f = map (λ d. d.ty) (take f.params f.vars)

-- the keys of a function that its parameters' types have
abbrev pub keys_of_parameters : Func → List ℕ
keys_of_parameters f = flat_map keys_of_ty (parameters_of f)

abbrev pub new_keys : Func → List ℕ
new_keys f = map (λ e. e.key) (filter is_new f.clause)

abbrev pub keys_of_result : Func → List ℕ
keys_of_result f = in_result f.result
  where
    in_result : Option Ty → List ℕ
    in_result None = []
    in_result (Some ty) = keys_of_ty ty

-- the keys of the head
abbrev pub head_keys : Func → List ℕ
head_keys f = keys_of_result f ++ keys_of_parameters f ++ map (λ e. e.key) f.clause

-- what a type says of its keys: a reference's own key has the object's type, and a key that stands for a header's key
-- with a type has that type
pub record Typing : Type 0 where
  pub key : ℕ
  pub type : ℕ

abbrev pub own_typings : Ty → List Typing
own_typings (tracked k t args) = record { key = k; type = t } ∷ []
own_typings ty = []

abbrev pub arg_typings : List ℕ → Header → List Typing
arg_typings (k ∷ ks) (None ∷ hs) = arg_typings ks hs
arg_typings (k ∷ ks) (Some t ∷ hs) = record { key = k; type = t } ∷ arg_typings ks hs
arg_typings _ _ = []

abbrev pub typings : Program → Ty → List Typing
typings p ty = own_typings ty ++ of_args (type_in ty)
  where
    of_args : Option ℕ → List Typing
    of_args None = []
    of_args (Some t) = arg_typings (args_of ty) (header_of p t)

abbrev pub types_at : (key : ℕ) → List Typing → List ℕ
types_at k ts = map (λ x. x.type) (filter (λ x. x.key == k) ts)

-- The types that a function's types give a key: a `new` key that of the result, a key of the parameters those of the
-- parameters, a key bound in the body those of its references; none for another key of the head.
abbrev pub given_types : Program → Func → (key : ℕ) → List ℕ
given_types p f k =
    if has (new_keys f) k then of_result f.result
    else if has (keys_of_parameters f) k then types_at k (flat_map (typings p) (parameters_of f))
    else if has (head_keys f) k then []
    else types_at k (flat_map (λ d. own_typings d.ty) (drop f.params f.vars))
  where
    of_result : Option Ty → List ℕ
    of_result None = []
    of_result (Some ty) = types_at k (own_typings ty)

-- a key of the head that neither a parameter nor a `new` entry gives
abbrev pub is_left_out : Func → (key : ℕ) → Bool
is_left_out f k = has (head_keys f) k && not (has (keys_of_parameters f) k) && not (has (new_keys f) k)

abbrev pub are_all : (type : ℕ) → List ℕ → Bool
are_all t ts = list_all (λ u. u == t) ts

-- the key has this type, and no other
abbrev pub is_only_type : (type : ℕ) → List ℕ → Bool
is_only_type t [] = false
is_only_type t (u ∷ us) = are_all t (u ∷ us)

-- a key that stands for a header's key of this type
abbrev pub argument_broken : Program → Func → (key type : ℕ) → Rules
argument_broken p f k t =
    if is_left_out f k || not (nat_lt k (length f.keys)) then []
    else unless (is_only_type t (given_types p f k)) rule.KEY_ARGUMENT

-- a reference's own key: an untyped key of the head can't get a type here
abbrev pub reference_broken : Program → Func → Typing → Rules
reference_broken p f x =
    if is_left_out f x.key || not (nat_lt x.key (length f.keys)) then [] else of_types (given_types p f x.key)
  where
    of_types : List ℕ → Rules
    of_types [] = rule.KEY_ARGUMENT ∷ []
    of_types (t ∷ ts) = unless (are_all x.type (t ∷ ts)) rule.TWO_KEY_TYPES

-- a type of the function
abbrev pub type_broken : Program → Func → Ty → Rules
type_broken p f ty =
    ty_broken p (λ k. unless (nat_lt k (length f.keys)) rule.UNKNOWN_NAME) (argument_broken p f) ty ++
    flat_map (reference_broken p f) (own_typings ty)

-- the type that a key's declaration lists is the one that the function's types give it
abbrev pub key_broken : Program → Func → (key : ℕ) → KeyDecl → Rules
key_broken p f k d =
    when_some d.key_type (λ t. unless (is_declared (decl_of p t)) rule.NOT_A_TYPE) ++ agrees d.key_type (given_types p f k)
  where
    is_declared : Option TypeDecl → Bool
    is_declared None = false
    is_declared (Some t) = true

    agrees : Option ℕ → List ℕ → Rules
    agrees None [] = []
    agrees (Some t) [] = rule.WRONG_TYPE ∷ []
    agrees listed (u ∷ us) = if are_all u us then is_it listed u else rule.TWO_KEY_TYPES ∷ []
      where
        is_it : Option ℕ → ℕ → Rules
        is_it None u = rule.WRONG_TYPE ∷ []
        is_it (Some t) u = unless (t == u) rule.WRONG_TYPE

abbrev pub is_bounded : Mode → Bool
is_bounded (up_to b) = true
is_bounded m = false

abbrev pub is_bound_entry : Entry → Bool
is_bound_entry e = is_bounded e.mode

abbrev pub names_states : Entry → Bool
names_states e = is_bounded e.mode || is_given e.before || is_given e.after
  where
    is_given : Option States → Bool
    is_given None = false
    is_given (Some s) = true

-- the state that bounds an entry is one of the type
abbrev pub bound_broken : Program → (type : ℕ) → Mode → Rules
bound_broken p t (up_to b) = state_broken p t b
bound_broken p t m = []

abbrev pub entry_broken : Program → Func → Entry → Rules
entry_broken p f e =
    if nat_lt e.key (length f.keys)
    then unless (is_new e || has (keys_of_parameters f) e.key) rule.CLAUSE_KEY_UNBOUND ++ of_types (given_types p f e.key)
    else rule.UNKNOWN_NAME ∷ []
  where
    of_types : List ℕ → Rules
    of_types [] = unless (not (names_states e)) rule.STATES_UNTYPED
    of_types (t ∷ ts) =
        if are_all t ts
        then when_some (decl_of p t) (λ d. when_some e.before (states_broken p t) ++ when_some e.after (states_broken p t) ++ bound_broken p t e.mode)
        else []

-- a `new` key is the key of the result, a reference, and stands nowhere else
abbrev pub is_key_of_result : Option Ty → (key : ℕ) → Bool
is_key_of_result (Some (tracked j t args)) k = j == k && not (has args k)
is_key_of_result _ k = false

abbrev pub new_key_broken : Func → (key : ℕ) → Rules
new_key_broken f k =
    unless (is_key_of_result f.result k && not (list_any (λ d. has (keys_of_ty d.ty) k) f.vars)) rule.RESULT_KEY

abbrev pub result_broken : Func → Rules
result_broken f =
    unless (nat_le (length (new_keys f)) 1) rule.RESULT_KEY ++
    flat_map (new_key_broken f) (new_keys f) ++
    flat_map (λ k. unless (has (new_keys f) k || has (keys_of_parameters f) k) rule.RESULT_KEY) (keys_of_result f)

-- ---- externals

abbrev pub is_external_parameter : Ty → Bool
is_external_parameter (variant t args) = false
is_external_parameter (owning_variant t args) = false
is_external_parameter ty = true

-- the keys of the references among the parameters
abbrev pub tracked_keys : Func → List ℕ
tracked_keys f = map (λ x. x.key) (flat_map own_typings (parameters_of f))

abbrev pub is_external_payload : Program → Ty → Bool
is_external_payload p int = true
is_external_payload p bool = true
is_external_payload p (owning states t args) = not (is_struct (decl_of p t) || is_variant (decl_of p t))
is_external_payload p ty = false

abbrev pub external_case_broken : Program → Func → (args : List ℕ) → CaseDecl → Rules
external_case_broken p f args c =
    flat_map (λ ty. unless (is_external_payload p ty) rule.EXTERN_HEAD) c.payload ++
    flat_map (λ q. when_some (slice_get args q.position) (λ k. unless (has (tracked_keys f) k) rule.EXTERN_HEAD)) c.keys

abbrev pub external_result_broken : Program → Func → Ty → Rules
external_result_broken p f (tracked k t args) = unless (is_abstract (decl_of p t) && has (new_keys f) k) rule.EXTERN_HEAD
external_result_broken p f (owning states t args) = unless (is_abstract (decl_of p t)) rule.EXTERN_HEAD
external_result_broken p f (guarded k t args) = rule.EXTERN_HEAD ∷ []
external_result_broken p f (variant t args) = flat_map (external_case_broken p f args) (cases_of p t)
external_result_broken p f (owning_variant t args) = flat_map (external_case_broken p f args) (cases_of p t)
external_result_broken p f ty = []

abbrev pub is_declared_result : Program → Ty → Bool
is_declared_result p ty = is_there (type_in ty)
  where
    known : Option TypeDecl → Bool
    known None = false
    known (Some d) = true

    is_there : Option ℕ → Bool
    is_there None = false
    is_there (Some t) = known (decl_of p t)

abbrev pub external_broken : Program → Func → Rules
external_broken p f =
    flat_map (λ ty. unless (is_external_parameter ty) rule.EXTERN_HEAD) (parameters_of f) ++
    flat_map (λ e. unless (is_new e || has (tracked_keys f) e.key) rule.EXTERN_HEAD) f.clause ++
    when_some f.result (λ ty. if is_declared_result p ty then external_result_broken p f ty else [])

-- ---- main

-- no parameter, and either nothing comes back or one new object
abbrev pub is_main_head : Func → Bool
is_main_head f = f.params == 0 && by f.result f.clause
  where
    by : Option Ty → List Entry → Bool
    by None [] = true
    by (Some (tracked k t args)) (e ∷ []) = is_new e
    by _ _ = false

-- the list of the function's keys, from a number on
abbrev pub listed_broken : Program → Func → (key : ℕ) → List KeyDecl → Rules
listed_broken p f k [] = []
listed_broken p f k (d ∷ ds) = key_broken p f k d ++ listed_broken p f (suc k) ds

-- what a function's own row breaks, the body aside
abbrev pub head_broken : Program → (function : ℕ) → Func → Rules
head_broken p g f =
    unless (nat_le f.params (length f.vars)) rule.UNKNOWN_NAME ++
    flat_map (λ d. type_broken p f d.ty) f.vars ++
    when_some f.result (type_broken p f) ++
    listed_broken p f 0 f.keys ++
    unless (are_apart (map (λ e. e.key) f.clause)) rule.CLAUSE_KEY_AGAIN ++
    flat_map (entry_broken p f) f.clause ++
    result_broken f ++
    (if f.external then external_broken p f else []) ++
    (if g == p.main then unless (is_main_head f) rule.MAIN_HEAD else []) ++
    unless (nat_le (length (filter is_bound_entry f.clause)) 1) rule.SECOND_BOUND
