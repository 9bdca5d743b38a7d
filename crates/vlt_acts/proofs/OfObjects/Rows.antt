-- The parts of values, and the slots that have them.
use Rattle.std.proofs.Common.{◌≡◌, ℕ, zero, suc, ◌+◌, ◌-◌, ◌*◌, pos, List, [], ◌∷◌, ◌++◌, take, drop, map, length, replicate, Some, refl, sym, ap, ◌∙◌, subst, arith, slice_get}
use Rattle.std.specs.List.{flat_map}
use Rattle.std.proofs.lemmas.List.{append-nil, append_assoc}
use Rattle.std.proofs.lemmas.Option.{none-some, same_Some}
use Rattle.vlt_heap.specs.declared.slots.Slot.{Slot}
use Rattle.vlt_heap.specs.Items.{Items}
use Rattle.vlt_meaning.specs.World.{Part, number, owned, objects_in_part, objects_in, Value, one, of_case}
use Rattle.vlt_acts.specs.Values.Parts.{flat, padded_parts, HaveParts, HaveValue}
use Rattle.vlt_acts.proofs.OfValues.Padding.{length_padded}
use Rattle.vlt_acts.specs.Objects.Owned.{AreParts, owned_in}

-- ---- the objects in parts

pub owned_both : (ps qs : List Part) → owned_in (ps ++ qs) ≡ owned_in ps ++ owned_in qs
owned_both [] qs = refl
owned_both (p ∷ ps) qs = ap (λ l. objects_in_part p ++ l) (owned_both ps qs) ∙ sym (append_assoc (objects_in_part p) (owned_in ps) (owned_in qs))

owned_zeros : (n : ℕ) → owned_in (replicate n (number (pos 0))) ≡ []
owned_zeros zero = refl
owned_zeros (suc n) = owned_zeros n

owned_keys : (ns : List ℕ) → owned_in (map owned ns) ≡ ns
owned_keys [] = refl
owned_keys (n ∷ ns) = ap (λ l. n ∷ l) (owned_keys ns)

owned_flat : (a : Value) → owned_in (flat a) ≡ objects_in a
owned_flat (one p) = append-nil (objects_in_part p)
owned_flat (of_case c parts keys) = owned_both parts (map owned keys) ∙ ap (λ l. flat_map objects_in_part parts ++ l) (owned_keys keys)

pub owned_padded : (w : ℕ) (a : Value) → owned_in (padded_parts w a) ≡ objects_in a
owned_padded w a =
    owned_both (flat a) (replicate (w - length (flat a)) (number (pos 0))) ∙ ap (λ l. owned_in (flat a) ++ l) (owned_zeros (w - length (flat a))) ∙ append-nil (owned_in (flat a)) ∙ owned_flat a

-- ---- a row of slots

pub is_empty : {A : Type 0} (xs : List A) → length xs ≡ 0 → xs ≡ []
is_empty [] e = refl
is_empty (x ∷ xs) e = absurd (omega (arith, e))

pub drop_get : {A : Type 0} (xs : List A) (k : ℕ) (a : A) → slice_get xs k ≡ Some a → drop k xs ≡ a ∷ drop (suc k) xs
drop_get [] k a at = absurd (none-some a at)
drop_get (x ∷ xs) zero a at = ap (λ z. z ∷ xs) (same_Some x a at)
drop_get (x ∷ xs) (suc k) a at = drop_get xs k a at

pub row_parts : (items : Items) (slots : List Slot) (k : ℕ) (ps : List Part) → HaveParts items slots k ps → AreParts items (take (length ps) (drop k slots)) ps
row_parts items slots k [] have = tt
row_parts items slots k (p ∷ ps) have =
    let h = have.0 in
    subst (λ l. AreParts items (take (suc (length ps)) l) (p ∷ ps)) (sym (drop_get slots k h.slot h.at)) (h.part, row_parts items slots (suc k) ps have.1)

pub row_value : (items : Items) (slots : List Slot) (k w : ℕ) (a : Value) → HaveValue items slots k w a → AreParts items (take (1 * w) (drop k slots)) (padded_parts w a)
row_value items slots k w a have =
    subst (λ n. AreParts items (take n (drop k slots)) (padded_parts w a)) (length_padded w a have.narrow ∙ omega arith) (row_parts items slots k (padded_parts w a) have.parts)
