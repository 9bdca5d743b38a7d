-- Types: which own, which are keyed, which may be dropped, when two are the same, and what a declared field's type is where
-- keys stand for the header.
use Rattle.std.specs.Prelude.{ℕ, zero, suc, ◌==◌, Bool, true, false, not, ◌&&◌, ◌||◌, List, [], ◌∷◌, ◌++◌, length, map, filter, Option, Some, None, slice_get, slice_index_or}
use Rattle.std.specs.List.{list_any, list_all, flat_map, range_with_len}
use Rattle.vlt_core.specs.Core.{States, Ty, int, bool, tracked, owning, guarded, variant, owning_variant, TypeDecl, an_abstract, a_struct, a_variant, Header, Program}
use Rattle.vlt_core.specs.Lookups.{is_owning, fields_of, cases_of, release_set}

-- ---- sets of states, whose numbers are below 32

abbrev pub state_numbers : List ℕ
state_numbers = range_with_len 0 32

abbrev pub lies_within : States → States → Bool
lies_within a b = list_all (λ s. not (a s) || b s) state_numbers

abbrev pub is_same_bool : Bool → Bool → Bool
is_same_bool true b = b
is_same_bool false b = not b

abbrev pub same_states : States → States → Bool
same_states a b = list_all (λ s. is_same_bool (a s) (b s)) state_numbers

-- ---- declared types

abbrev pub decl_of : Program → (type : ℕ) → Option TypeDecl
decl_of p t = slice_get p.types t

abbrev pub is_struct : Option TypeDecl → Bool
is_struct (Some (a_struct d)) = true
is_struct _ = false

abbrev pub is_abstract : Option TypeDecl → Bool
is_abstract (Some (an_abstract name set)) = true
is_abstract _ = false

abbrev pub is_variant : Option TypeDecl → Bool
is_variant (Some (a_variant d)) = true
is_variant _ = false

abbrev pub header_in : Option TypeDecl → Header
header_in (Some (a_struct d)) = d.header
header_in (Some (a_variant d)) = d.header
header_in _ = []

-- the header of a type, none where there is no such type
abbrev pub header_of : Program → (type : ℕ) → Header
header_of p t = header_in (decl_of p t)

abbrev pub is_filled : {A : Type 0} → List A → Bool
is_filled [] = false
is_filled (x ∷ xs) = true

-- some case lists a key
abbrev pub is_keyed : Program → (type : ℕ) → Bool
is_keyed p t = list_any (λ c. is_filled c.keys) (cases_of p t)

-- the variant owns: it is keyed, or a payload owns
abbrev pub is_owning_type : Program → (type : ℕ) → Bool
is_owning_type p t = is_keyed p t || list_any (λ c. list_any is_owning c.payload) (cases_of p t)

-- ---- types whose objects may be dropped

-- the owning fields and payloads of a type
abbrev pub owning_parts : Program → (type : ℕ) → List Ty
owning_parts p t = filter is_owning (map (λ d. d.ty) (fields_of p t) ++ flat_map (λ c. c.payload) (cases_of p t))

-- a part that no release may reach: an object that isn't a struct's, or that may be in a state outside its release set
abbrev pub is_undroppable_part : Program → Ty → Bool
is_undroppable_part p (owning states t args) = not (is_struct (decl_of p t) && lies_within states (release_set p t))
is_undroppable_part p (owning_variant t args) = not (is_variant (decl_of p t)) || is_keyed p t
is_undroppable_part p ty = false

abbrev pub part_type : Ty → ℕ
part_type (owning states t args) = t
part_type (owning_variant t args) = t
part_type (tracked k t args) = t
part_type (guarded k t args) = t
part_type (variant t args) = t
part_type _ = 0

-- such a part is reached from the type through at most so many others
abbrev pub holds_undroppable : Program → (steps : ℕ) → (type : ℕ) → Bool
holds_undroppable p zero t = list_any (is_undroppable_part p) (owning_parts p t)
holds_undroppable p (suc n) t =
    list_any (is_undroppable_part p) (owning_parts p t) || list_any (λ ty. holds_undroppable p n (part_type ty)) (owning_parts p t)

-- A struct may be dropped where no such part is reached from it. A chain without a repeated type is no longer than the types.
abbrev pub is_droppable_struct : Program → (type : ℕ) → Bool
is_droppable_struct p t = is_struct (decl_of p t) && not (holds_undroppable p (length p.types) t)

-- a value of the type may be dropped with all that it owns
abbrev pub is_droppable : Program → Ty → Bool
is_droppable p (owning states t args) = is_droppable_struct p t && lies_within states (release_set p t)
is_droppable p (owning_variant t args) =
    is_variant (decl_of p t) && not (is_keyed p t) && not (holds_undroppable p (length p.types) t)
is_droppable p ty = false

-- a value of the type may be copied
abbrev pub is_plain : Ty → Bool
is_plain int = true
is_plain bool = true
is_plain (guarded k t args) = true
is_plain (variant t args) = true
is_plain _ = false

-- ---- equality, and keys that stand for others

abbrev pub same_keys : List ℕ → List ℕ → Bool
same_keys [] [] = true
same_keys (k ∷ ks) (j ∷ js) = k == j && same_keys ks js
same_keys _ _ = false

-- the same declared type under the same keys
abbrev pub same_object : (type : ℕ) → List ℕ → (type2 : ℕ) → List ℕ → Bool
same_object t args u others = t == u && same_keys args others

abbrev pub same_ty : Ty → Ty → Bool
same_ty int int = true
same_ty bool bool = true
same_ty (tracked k t args) (tracked j u others) = k == j && same_object t args u others
same_ty (owning a t args) (owning b u others) = same_states a b && same_object t args u others
same_ty (guarded k t args) (guarded j u others) = k == j && same_object t args u others
same_ty (variant t args) (variant u others) = same_object t args u others
same_ty (owning_variant t args) (owning_variant u others) = same_object t args u others
same_ty _ _ = false

-- the key that stands for the key of this number
abbrev pub stands_for : (keys : List ℕ) → ℕ → ℕ
stands_for keys k = slice_index_or keys k 0

-- The type with other keys in place of its own: of a declared field those that stand for the header, of a callee's
-- parameter those of the caller.
abbrev pub with_keys : (keys : List ℕ) → Ty → Ty
with_keys keys int = int
with_keys keys bool = bool
with_keys keys (tracked k t args) = tracked (stands_for keys k) t (map (stands_for keys) args)
with_keys keys (owning states t args) = owning states t (map (stands_for keys) args)
with_keys keys (guarded k t args) = guarded (stands_for keys k) t (map (stands_for keys) args)
with_keys keys (variant t args) = variant t (map (stands_for keys) args)
with_keys keys (owning_variant t args) = owning_variant t (map (stands_for keys) args)

abbrev pub args_of : Ty → List ℕ
args_of int = []
args_of bool = []
args_of (tracked k t args) = args
args_of (owning states t args) = args
args_of (guarded k t args) = args
args_of (variant t args) = args
args_of (owning_variant t args) = args

-- the keys that stand in a type, its own key before the others
abbrev pub keys_of_ty : Ty → List ℕ
keys_of_ty (tracked k t args) = k ∷ args
keys_of_ty (guarded k t args) = k ∷ args
keys_of_ty ty = args_of ty

abbrev pub type_in : Ty → Option ℕ
type_in int = None
type_in bool = None
type_in (tracked k t args) = Some t
type_in (owning states t args) = Some t
type_in (guarded k t args) = Some t
type_in (variant t args) = Some t
type_in (owning_variant t args) = Some t
