-- The parts of the rules on a call's keys.
use Rattle.std.specs.Prelude.{ℕ, nat_lt, ◌==◌, Bool, true, false, not, ◌&&◌, ◌||◌, if◌then◌else◌, List, [], ◌∷◌, ◌++◌, length, Option, Some, None, slice_get}
use Rattle.std.specs.List.{list_any, list_all, range_with_len}
use Rattle.vlt_core.specs.Core.{Entry, Func}
use Rattle.vlt_core.specs.KindedHeads.{Rules, unless, has, keys_of_parameters, new_keys}
use Rattle.vlt_core.specs.KindedScopes.{Ids}
use Rattle.vlt_core.specs.declared.rules.TheConstants as rule

-- the keys of a callee that a call gives
abbrev pub callee_keys : Func → List ℕ
callee_keys g = keys_of_parameters g ++ new_keys g

-- they are the numbers below this one
abbrev pub is_count_fit : Func → (count : ℕ) → Bool
is_count_fit g n = list_all (has (callee_keys g)) (range_with_len 0 n) && list_all (λ k. nat_lt k n) (callee_keys g)

-- the key that an entry has of the caller is this one
abbrev pub is_given_key : Option ℕ → (key : ℕ) → Bool
is_given_key None k = false
is_given_key (Some j) k = j == k

abbrev pub gives_key : (keys : List ℕ) → (key : ℕ) → Entry → Bool
gives_key keys k e = is_given_key (slice_get keys e.key) k

-- one of the entries has the key of the caller
abbrev pub meets : (keys : List ℕ) → List Entry → Option ℕ → Bool
meets keys es None = false
meets keys es (Some k) = list_any (gives_key keys k) es

-- no two entries have the same key of the caller
abbrev pub stay_apart : (keys : List ℕ) → List Entry → Bool
stay_apart keys [] = true
stay_apart keys (e ∷ es) = not (meets keys es (slice_get keys e.key)) && stay_apart keys es

-- a key of the caller that isn't fresh is in scope
abbrev pub caller_key_broken : Func → Ids → Func → (position key : ℕ) → Rules
caller_key_broken f ids g i k =
    if has (new_keys g) i || not (nat_lt k (length f.keys)) then [] else unless (has ids.keys k) rule.NAME_TAKEN
