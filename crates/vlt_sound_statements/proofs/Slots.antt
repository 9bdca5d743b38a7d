-- Objects of a list of values, each in the one value that has it.
use Rattle.std.proofs.Common.{◌≡◌, ◌⊎◌, inl, inr, ℕ, zero, suc, List, [], ◌∷◌, ◌++◌, length, refl, ap, arith, slice_get}
use Rattle.std.specs.List.{flat_map}
use Rattle.vlt_core.specs.Core.{Ty}
use Rattle.vlt_meaning.specs.World.{Value, objects_in}
use Rattle.vlt_sound_worlds.specs.Members.{In, IsOnce}
use Rattle.vlt_sound_worlds.specs.Roots.{owned_by}
use Rattle.vlt_sound_worlds.proofs.Members.{in_or_not, in_left, in_right, in_either, once_left, once_right, once_apart}
use Rattle.vlt_sound_worlds.specs.Agrees.{values_of}
use Rattle.vlt_sound_worlds.specs.Handed.{handed_values}

slot_by : {X : Type 0} → X ⊎ (X → ⊥) → ℕ → ℕ
slot_by (inl i) n = zero
slot_by (inr off) n = suc n

-- the position of the value that has the object
pub slot_in : (n : ℕ) → List Value → ℕ
slot_in n [] = 0
slot_in n (a ∷ values) = slot_by (in_or_not n (objects_in a)) (slot_in n values)

pub in_slot : (n : ℕ) (values : List Value) → In n (flat_map objects_in values) →
    In n (owned_by (slice_get values (slot_in n values)))
unfolding slot_by slot_in
in_slot n [] i = absurd i
in_slot n (a ∷ values) i =
    by (in_slot n values) (in_or_not n (objects_in a)) (in_either n (objects_in a) (flat_map objects_in values) i)
  where
    by : (In n (flat_map objects_in values) → In n (owned_by (slice_get values (slot_in n values)))) →
        (d : In n (objects_in a) ⊎ (In n (objects_in a) → ⊥)) →
        In n (objects_in a) ⊎ In n (flat_map objects_in values) →
        In n (owned_by (slice_get (a ∷ values) (slot_by d (slot_in n values))))
    by rest (inl j) e = j
    by rest (inr off) (inl j) = absurd (off j)
    by rest (inr off) (inr j) = rest j

-- what one of the values has, the list has
pub slot_within : (n : ℕ) (values : List Value) (i : ℕ) → In n (owned_by (slice_get values i)) →
    In n (flat_map objects_in values)
slot_within n [] i j = absurd j
slot_within n (a ∷ values) zero j = in_left n (objects_in a) (flat_map objects_in values) j
slot_within n (a ∷ values) (suc i) j =
    in_right n (objects_in a) (flat_map objects_in values) (slot_within n values i j)

-- and no other value has it
pub slot_is : (n : ℕ) (values : List Value) (i : ℕ) → IsOnce (flat_map objects_in values) →
    In n (owned_by (slice_get values i)) → slot_in n values ≡ i
unfolding slot_by slot_in
slot_is n [] i once j = absurd j
slot_is n (a ∷ values) zero once j = by (in_or_not n (objects_in a))
  where
    by : (d : In n (objects_in a) ⊎ (In n (objects_in a) → ⊥)) → slot_by d (slot_in n values) ≡ zero
    by (inl k) = refl
    by (inr off) = absurd (off j)
slot_is n (a ∷ values) (suc i) once j =
    by (slot_is n values i (once_right (objects_in a) (flat_map objects_in values) once) j) (in_or_not n (objects_in a))
  where
    by : slot_in n values ≡ i → (d : In n (objects_in a) ⊎ (In n (objects_in a) → ⊥)) →
        slot_by d (slot_in n values) ≡ suc i
    by rest (inl k) =
        absurd (once_apart (objects_in a) (flat_map objects_in values) once n k (slot_within n values i j))
    by rest (inr off) = ap suc rest

pub slot_once : (values : List Value) (i : ℕ) → IsOnce (flat_map objects_in values) →
    IsOnce (owned_by (slice_get values i))
slot_once [] i once = tt
slot_once (a ∷ values) zero once = once_left (objects_in a) (flat_map objects_in values) once
slot_once (a ∷ values) (suc i) once =
    slot_once values i (once_right (objects_in a) (flat_map objects_in values) once)

-- what is handed over has the objects of its values
pub values_handed : (types : List Ty) (values : List Value) → length values ≡ length types →
    values_of (handed_values types values) ≡ flat_map objects_in values
values_handed [] [] e = refl
values_handed (t ∷ types) [] e = refl
values_handed [] (a ∷ values) e = cc
values_handed (t ∷ types) (a ∷ values) e =
    ap (λ ns. objects_in a ++ ns) (values_handed types values (omega arith))
