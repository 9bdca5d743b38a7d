-- The parts of a head's rules.
use Rattle.std.specs.Prelude.{ℕ, ◌==◌, Bool, true, false, ◌||◌, if◌then◌else◌, nat_le, nat_lt, List, [], ◌∷◌, ◌++◌, map, length, Option, Some, None, is_some, slice_get}
use Rattle.std.specs.List.{flat_map}
use Rattle.vlt_core.specs.Core.{Ty, tracked, Entry, CaseKey, Func, Program}
use Rattle.vlt_core.specs.Lookups.{is_new}
use Rattle.vlt_core.specs.Types.{decl_of}
use Rattle.vlt_core.specs.KindedHeads.{Rules, unless, when_some, has, are_apart, ty_broken, argument_broken, type_broken, listed_broken, entry_broken, result_broken, new_key_broken, new_keys, keys_of_parameters, tracked_keys, is_external_parameter, is_external_payload, is_declared_result, external_result_broken, external_broken, is_main_head}
use Rattle.vlt_core.specs.declared.rules.TheConstants as rule

-- what an entry breaks, where its key is a `new` one
abbrev pub new_entry_broken : Func → Entry → Rules
new_entry_broken f e = if is_new e then new_key_broken f e.key else []

-- a key of the result is a `new` one or one of the parameters
abbrev pub result_key_broken : Func → (key : ℕ) → Rules
result_key_broken f k = unless (has (new_keys f) k || has (keys_of_parameters f) k) rule.RESULT_KEY

-- an external's parameter
abbrev pub external_parameter_broken : Ty → Rules
external_parameter_broken ty = unless (is_external_parameter ty) rule.EXTERN_HEAD

-- an external's entry
abbrev pub external_entry_broken : Func → Entry → Rules
external_entry_broken f e = unless (is_new e || has (tracked_keys f) e.key) rule.EXTERN_HEAD

-- a payload of an external's result
abbrev pub external_payload_broken : Program → Ty → Rules
external_payload_broken p ty = unless (is_external_payload p ty) rule.EXTERN_HEAD

-- a key of a case of an external's result
abbrev pub external_case_key_broken : Func → (args : List ℕ) → CaseKey → Rules
external_case_key_broken f args q = when_some (slice_get args q.position) (λ k. unless (has (tracked_keys f) k) rule.EXTERN_HEAD)

-- an external's result
abbrev pub external_given_broken : Program → Func → Option Ty → Rules
external_given_broken p f given = when_some given (λ ty. if is_declared_result p ty then external_result_broken p f ty else [])

-- the head is one that main may have, by its result and its clause
abbrev pub main_by : Option Ty → List Entry → Bool
main_by None [] = true
main_by (Some (tracked k t args)) (e ∷ []) = is_new e
main_by _ _ = false

-- the clause is one `new` key alone
abbrev pub is_one_new : List Entry → Bool
is_one_new (e ∷ []) = is_new e
is_one_new _ = false

-- ---- a head's rules, as far as its types and keys, and as far as its clause

-- what its types and its list of keys break
abbrev pub types_broken : Program → Func → Rules
types_broken p f =
    unless (nat_le f.params (length f.vars)) rule.UNKNOWN_NAME ++
    flat_map (λ d. type_broken p f d.ty) f.vars ++
    when_some f.result (type_broken p f) ++
    listed_broken p f 0 f.keys

-- with what its clause breaks
abbrev pub clause_broken : Program → Func → Rules
clause_broken p f =
    types_broken p f ++
    unless (are_apart (map (λ e. e.key) f.clause)) rule.CLAUSE_KEY_AGAIN ++
    flat_map (entry_broken p f) f.clause ++
    result_broken f

-- what an external's head breaks beside
abbrev pub outside_broken : Program → Func → Rules
outside_broken p f = if f.external then external_broken p f else []

-- what the head of main breaks beside
abbrev pub main_broken : Program → (function : ℕ) → Func → Rules
main_broken p g f = if g == p.main then unless (is_main_head f) rule.MAIN_HEAD else []

-- ---- types of a function

-- a key of a type is one of the function's
abbrev pub type_key_broken : Func → (key : ℕ) → Rules
type_key_broken f k = unless (nat_lt k (length f.keys)) rule.UNKNOWN_NAME

-- what a type breaks but for its own key
abbrev pub shaped_broken : Program → Func → Ty → Rules
shaped_broken p f ty = ty_broken p (type_key_broken f) (argument_broken p f) ty

-- the type that a key's declaration lists
abbrev pub listed_type_broken : Program → Option ℕ → Rules
listed_type_broken p listed = when_some listed (λ t. unless (is_some (decl_of p t)) rule.NOT_A_TYPE)
