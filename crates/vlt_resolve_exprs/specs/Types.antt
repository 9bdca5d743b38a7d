-- Which types a target takes, and the types of fields and payloads.
use Rattle.std.specs.Prelude.{ℕ, Bool, false, ◌&&◌, List, Option, option_and_then}
use Rattle.vlt_core.specs.Core.{States, Ty, tracked, owning}
use Rattle.vlt_core.specs.Types.{lies_within, same_states, same_ty, same_object, with_keys}

-- `o.and_then(go)`, in the order in which it is read
abbrev pub then_with : {A B : Type 0} → Option A → (A → Option B) → Option B
then_with o go = option_and_then go o

unfoldable pub is_inside : States → States → Bool
is_inside a b = lies_within a b

unfoldable pub are_same_states : States → States → Bool
are_same_states a b = same_states a b

unfoldable pub is_same_object : (type : ℕ) → List ℕ → (other : ℕ) → List ℕ → Bool
is_same_object t a u b = same_object t a u b

unfoldable pub is_same_ty : Ty → Ty → Bool
is_same_ty a b = same_ty a b

-- A target of these states takes an owner of some of them, and a tracked object.
unfoldable pub takes_object : (target : States) → (type : ℕ) → (args : List ℕ) → Ty → Bool
takes_object s t a (owning r u b) = is_inside r s && is_same_object t a u b
takes_object s t a (tracked k u b) = is_same_object t a u b
takes_object s t a _ = false

-- whether a target of the first type takes a value of the second
unfoldable pub takes : Ty → Ty → Bool
takes (owning s t a) got = takes_object s t a got
takes wanted got = is_same_ty wanted got

-- whether a tracked target, whose key is bound here, takes the object of an owner
unfoldable pub unpacks : Ty → Ty → Bool
unpacks (tracked k t a) (owning s u b) = is_same_object t a u b
unpacks _ _ = false

-- the type of a field or a payload, where these keys stand for the header's
unfoldable pub ty_under : (args : List ℕ) → Ty → Ty
ty_under args ty = with_keys args ty
