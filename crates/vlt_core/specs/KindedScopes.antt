-- Rules on numbers: what is in scope in a body, and what uses and bindings of variables and keys break.
use Rattle.std.specs.Prelude.{ℕ, nat_lt, Bool, not, ◌&&◌, if◌then◌else◌, List, [], ◌∷◌, ◌++◌, length, Option, Some, None}
use Rattle.std.specs.List.{flat_map}
use Rattle.vlt_core.specs.Core.{Ty, tracked, Tok, a_key, a_var, Func}
use Rattle.vlt_core.specs.Lookups.{var_type, is_owning_var}
use Rattle.vlt_core.specs.Types.{keys_of_ty}
use Rattle.vlt_core.specs.KindedHeads.{Rules, unless, when_some, has}
use Rattle.vlt_core.specs.declared.rules.TheConstants as rule

-- ---- what is in scope

-- The variables and keys in scope, all that were ever bound, and the tokens that the statements of the block at hand bound.
pub record Ids : Type 0 where
  pub vars : List ℕ
  pub keys : List ℕ
  pub vars_ever : List ℕ
  pub keys_ever : List ℕ
  pub bound : List Tok

-- what may stand at a point: a jump, and a return
pub record Around : Type 0 where
  pub jumps : Bool
  pub returns : Bool

-- a block begins, and ends
abbrev pub at_block_start : Ids → Ids
at_block_start ids = record ids { bound = [] }

abbrev pub left_behind : (before last : Ids) → Ids
left_behind before last = record last { vars = before.vars; keys = before.keys; bound = before.bound }

-- a key of this function, bound together with a variable
abbrev pub with_key : Func → Option ℕ → Ids → Ids
with_key f None ids = ids
with_key f (Some k) ids =
    if nat_lt k (length f.keys) then record ids { keys = k ∷ ids.keys; keys_ever = k ∷ ids.keys_ever } else ids

abbrev pub with_var : Func → (v : ℕ) → Ids → Ids
with_var f v ids =
    if nat_lt v (length f.vars) then record ids { vars = v ∷ ids.vars; vars_ever = v ∷ ids.vars_ever } else ids

-- the tokens of a binding belong to the block
abbrev pub with_tokens : Func → Option ℕ → (v : ℕ) → Ids → Ids
with_tokens f fresh v ids = record ids { bound = ids.bound ++ key_of fresh ++ (if is_owning_var f v then a_var v ∷ [] else []) }
  where
    key_of : Option ℕ → List Tok
    key_of None = []
    key_of (Some k) = a_key k ∷ []

-- the variable and its fresh key are bound in the block at hand
abbrev pub with_binding : Func → Option ℕ → (v : ℕ) → Ids → Ids
with_binding f fresh v ids = with_tokens f fresh v (with_var f v (with_key f fresh ids))

-- a target: a variable in scope, or one that is bound here
abbrev pub with_target : Func → (v : ℕ) → Ids → Ids
with_target f v ids = if has ids.vars v then ids else with_binding f None v ids

abbrev pub tracked_key : Option Ty → Option ℕ
tracked_key (Some (tracked k t args)) = Some k
tracked_key _ = None

-- the key of a tracked variable, which is bound together with it
abbrev pub own_key : Func → (x : ℕ) → Option ℕ
own_key f x = tracked_key (var_type f x)

-- ---- uses and bindings

abbrev pub use_broken : Func → Ids → (v : ℕ) → Rules
use_broken f ids v =
    if nat_lt v (length f.vars) then unless (has ids.vars v) rule.NAME_TAKEN else rule.UNKNOWN_NAME ∷ []

abbrev pub fresh_broken : Func → Ids → Option ℕ → Rules
fresh_broken f ids None = []
fresh_broken f ids (Some k) = if nat_lt k (length f.keys) then unless (not (has ids.keys_ever k)) rule.NAME_TAKEN else []

-- the keys of the type that a variable is bound with are in scope
abbrev pub keys_broken : Func → Ids → Option Ty → Rules
keys_broken f ids ty =
    when_some ty (λ ty. flat_map (λ k. if nat_lt k (length f.keys) then unless (has ids.keys k) rule.NAME_TAKEN else []) (keys_of_ty ty))

abbrev pub binding_broken : Func → Ids → Option ℕ → (v : ℕ) → Rules
binding_broken f ids fresh v =
    if nat_lt v (length f.vars)
    then unless (not (has ids.vars_ever v)) rule.NAME_TAKEN ++
    fresh_broken f ids fresh ++
    keys_broken f (with_key f fresh ids) (var_type f v)
    else rule.UNKNOWN_NAME ∷ []

abbrev pub target_broken : Func → Ids → (v : ℕ) → Rules
target_broken f ids v = if has ids.vars v && nat_lt v (length f.vars) then [] else binding_broken f ids None v
