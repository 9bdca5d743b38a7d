-- What is known of a function's head without a run: facts that follow from the rules on names and types.
use Rattle.std.specs.Prelude.{◌≡◌, ◌⊎◌, ℕ, nat_lt, nat_le, true, false, List, length, map, Some, slice_get}
use Rattle.vlt_core.specs.Core.{Ty, tracked, variant, Entry, Func, Program}
use Rattle.vlt_core.specs.Lookups.{var_type, key_type, is_new}
use Rattle.vlt_core.specs.Types.{keys_of_ty, is_owning_type}
use Rattle.vlt_core.specs.KindedHeads.{has, are_apart, parameters_of, keys_of_parameters, new_keys, keys_of_result, head_keys, typings, types_at}
use Rattle.std.specs.List.{flat_map}
use Rattle.vlt_sound_worlds.specs.Members.{In}

-- an entry of a clause, by its position
abbrev pub IsEntry : Func → (i : ℕ) → Entry → Type 0
IsEntry f i e = slice_get f.clause i ≡ Some e

-- a `new` key is the result's own, and stands nowhere else
pub record IsNewKey (f : Func) (k : ℕ) : Type 0 where
  pub type : ℕ
  pub args : List ℕ
  pub is : f.result ≡ Some (tracked k type args)
  pub not_args : In k args → ⊥
  pub not_vars : (v : ℕ) (ty : Ty) → var_type f v ≡ Some ty → In k (keys_of_ty ty) → ⊥

pub record HasHead (p : Program) (f : Func) : Type 0 where
  pub params : nat_le f.params (length f.vars) ≡ true
  -- the head's keys are keys of the function
  pub numbers : (k : ℕ) → has (head_keys f) k ≡ true → nat_lt k (length f.keys) ≡ true
  -- no two entries are of one key
  pub apart : are_apart (map (λ e. e.key) f.clause) ≡ true
  pub entries : (i : ℕ) (e : Entry) → IsEntry f i e →
      (is_new e ≡ true) ⊎ (has (keys_of_parameters f) e.key ≡ true)
  pub new : (i : ℕ) (e : Entry) → IsEntry f i e → is_new e ≡ true → IsNewKey f e.key
  pub result : (k : ℕ) → In k (keys_of_result f) → (has (new_keys f) k ≡ true) ⊎ (has (keys_of_parameters f) k ≡ true)
  -- a result that is copied owns nothing
  pub result_variants : (t : ℕ) (args : List ℕ) → f.result ≡ Some (variant t args) → is_owning_type p t ≡ false
  -- a key of the parameters has a type that one of them gives it
  pub given : (k t : ℕ) → has (keys_of_parameters f) k ≡ true → key_type f k ≡ Some t →
      In t (types_at k (flat_map (typings p) (parameters_of f)))
