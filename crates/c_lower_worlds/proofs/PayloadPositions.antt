-- Each payload of a case is at its position in the slots of the variant.
use Rattle.std.proofs.Common.{◌≡◌, ◌≤◌, ◌<◌, ◌≢◌, ◌⊎◌, inl, inr, ℕ, zero, suc, ◌+◌, ◌==◌, false, if◌then◌else◌, List, [], ◌∷◌, ◌++◌, length, replicate, Some, slice_get, length-append, refl, sym, ap, ◌∙◌, subst, arith}
use Rattle.std.proofs.lemmas.Bool.Decides.{nat_tests}
use Rattle.std.proofs.lemmas.Bool.{eq-eqb}
use Rattle.std.proofs.lemmas.Option.{none-some, same_Some}
use Rattle.vlt_core.specs.Core.{Ty, CaseDecl, Program}
use Rattle.vlt_core.specs.Lookups.{is_owning, case_at}
use Rattle.vlt_core.specs.Widths.{is_number, is_guarded, most_of}
use Rattle.vlt_meaning.specs.World.{Part}
use Rattle.c_lower.specs.Slots.{Sort, of_number, of_reference, of_owner, Starts, start_of, after_start, payload_sort, payload_positions, variant_starts, variant_sorts}
use Rattle.c_lower.specs.Statements.{case_positions, payload_in, after_first}
use Rattle.c_lower_worlds.specs.Worlds.{c_part, case_value, case_values, variant_values}
use Rattle.c_lower_worlds.specs.Shapes.{HavePayloadShapes}
use Rattle.c_lower_worlds.proofs.VariantSlots.{Inside, IsNext, next_is, inside, numbers, references, owners, length_replicate}

-- a slot after the first of its sort that is taken
record IsOf (first a i : ℕ) : Type 0 where
  from : first ≤ i
  below : i < a

abbrev IsWithin : (s : Starts) (a b c i : ℕ) → Type 0
IsWithin s a b c i = IsOf s.number a i ⊎ (IsOf s.reference b i ⊎ IsOf s.owner c i)

first_within : (types : List ℕ) (t : Ty) (x : Part) (s : Starts) (ts : List Ty) (a b c : ℕ) → Inside s (t ∷ ts) a b c → IsNext types t x s ts a b c → IsWithin s a b c (start_of (payload_sort t) s)
first_within types t x s ts a b c h n = by (payload_sort t) n.here
  where
    by : (u : Sort) → Rattle.c_lower_worlds.proofs.VariantSlots.Zone u a b c (start_of u s) → IsWithin s a b c (start_of u s)
    by of_number z = inl (record { from = omega arith; below = z })
    by of_reference z = let k = z.below in inr (inl (record { from = omega arith; below = k }))
    by of_owner z = let k = z.below in inr (inr (record { from = omega arith; below = k }))

wider : (u : Sort) (s : Starts) (a b c i : ℕ) → IsWithin (after_start u s) a b c i → IsWithin s a b c i
wider of_number s a b c i (inl h) = let k = h.from in inl (record { from = omega arith; below = h.below })
wider of_number s a b c i (inr (inl h)) = inr (inl h)
wider of_number s a b c i (inr (inr h)) = inr (inr h)
wider of_reference s a b c i (inl h) = inl h
wider of_reference s a b c i (inr (inl h)) = let k = h.from in inr (inl (record { from = omega arith; below = h.below }))
wider of_reference s a b c i (inr (inr h)) = inr (inr h)
wider of_owner s a b c i (inl h) = inl h
wider of_owner s a b c i (inr (inl h)) = inr (inl h)
wider of_owner s a b c i (inr (inr h)) = let k = h.from in inr (inr (record { from = omega arith; below = h.below }))

not_equal : (i j : ℕ) → i ≢ j → (i == j) ≡ false
not_equal i j h = grind (arith, nat_tests)

-- what comes later isn't the first
later_apart : (u : Sort) (s : Starts) (ts : List Ty) (a b c i : ℕ) → Rattle.c_lower_worlds.proofs.VariantSlots.Zone u a b c (start_of u s) → a ≤ s.reference → b ≤ s.owner → a ≤ b → IsWithin (after_start u s) a b c i → (i == start_of u s) ≡ false
later_apart of_number s ts a b c i z l m o (inl h) = let k = h.from in not_equal i s.number (λ e. omega arith)
later_apart of_number s ts a b c i z l m o (inr (inl h)) = let k = h.from in not_equal i s.number (λ e. omega arith)
later_apart of_number s ts a b c i z l m o (inr (inr h)) = let k = h.from in not_equal i s.number (λ e. omega arith)
later_apart of_reference s ts a b c i z l m o (inl h) = let k = h.below in not_equal i s.reference (λ e. omega arith)
later_apart of_reference s ts a b c i z l m o (inr (inl h)) = let k = h.from in not_equal i s.reference (λ e. omega arith)
later_apart of_reference s ts a b c i z l m o (inr (inr h)) = let k = h.from in let q = z.below in not_equal i s.reference (λ e. omega arith)
later_apart of_owner s ts a b c i z l m o (inl h) = let k = h.below in let q = z.from in not_equal i s.owner (λ e. omega arith)
later_apart of_owner s ts a b c i z l m o (inr (inl h)) = let k = h.below in let q = z.from in not_equal i s.owner (λ e. omega arith)
later_apart of_owner s ts a b c i z l m o (inr (inr h)) = let k = h.from in not_equal i s.owner (λ e. omega arith)

-- a payload and its position
record StandsAt (s : Starts) (ts : List Ty) (a b c : ℕ) (parts : List Part) (i : ℕ) (x : Part) : Type 0 where
  within : IsWithin s a b c i
  value : (u : Sort) → case_value u i (payload_positions s ts) parts ≡ c_part x

stands_at : (types : List ℕ) (ts : List Ty) (parts : List Part) (s : Starts) (a b c : ℕ) → a ≤ b → Inside s ts a b c → HavePayloadShapes types ts parts →
    (j i : ℕ) (x : Part) → slice_get (payload_positions s ts) j ≡ Some i → slice_get parts j ≡ Some x → StandsAt s ts a b c parts i x
stands_at types [] parts s a b c o h shapes j i x at part = absurd (none-some i at)
stands_at types (t ∷ ts) [] s a b c o h shapes j i x at part = absurd (none-some x part)
stands_at types (t ∷ ts) (y ∷ parts) s a b c o h shapes zero i x at part =
    let e : start_of (payload_sort t) s ≡ i = same_Some _ i at in
    let q : y ≡ x = same_Some y x part in
    subst (λ i. StandsAt s (t ∷ ts) a b c (y ∷ parts) i x) e
    (record {
      within = first_within types t y s ts a b c h (next_is types t y s ts a b c h shapes.0);
      value = λ u. ap (λ d. if d then c_part y else case_value u (start_of (payload_sort t) s) (payload_positions (after_start (payload_sort t) s) ts) parts) (eq-eqb (start_of (payload_sort t) s) (start_of (payload_sort t) s) refl) ∙ ap c_part q;
    })
stands_at types (t ∷ ts) (y ∷ parts) s a b c o h shapes (suc j) i x at part =
    let n = next_is types t y s ts a b c h shapes.0 in
    let r = stands_at types ts parts (after_start (payload_sort t) s) a b c o n.rest shapes.1 j i x at part in
    record {
      within = wider (payload_sort t) s a b c i r.within;
      value = λ u. ap (λ d. if d then c_part y else case_value u i (payload_positions (after_start (payload_sort t) s) ts) parts)
          (later_apart (payload_sort t) s ts a b c i n.here h.after_numbers h.after_references o r.within) ∙ r.value u;
    }

-- the values of slots, by their positions
value_at : (i m : ℕ) (js : List ℕ) (parts : List Part) (ss : List Sort) → m < length ss → (u : Sort) × (slice_get (case_values i js parts ss) m ≡ Some (case_value u (i + m) js parts))
value_at i m js parts [] l = absurd (omega arith)
value_at i zero js parts (s ∷ ss) l = (s, ap (λ k. Some (case_value s k js parts)) (none i))
  where
    none : (i : ℕ) → i ≡ i + 0
    none i = omega arith
value_at i (suc m) js parts (s ∷ ss) l = let r = value_at (suc i) m js parts ss (omega arith) in (r.0, r.1 ∙ ap (λ k. Some (case_value r.0 k js parts)) (more i m))
  where
    more : (i m : ℕ) → suc i + m ≡ i + suc m
    more i m = omega arith

-- the payloads of a case stand at their positions
pub payload_at : (p : Program) (t k : ℕ) (d : CaseDecl) (types : List ℕ) (parts : List Part) → case_at p t k ≡ Some d → HavePayloadShapes types d.payload parts →
    (j i : ℕ) (x : Part) → slice_get (case_positions p t k) j ≡ Some i → slice_get parts j ≡ Some x → slice_get (variant_values p t k parts) i ≡ Some (c_part x)
payload_at p t k d types parts declared shapes j i x at part =
    by i (rw (ap payload_in declared) at at) where_it
  where
    ins : Inside (variant_starts p t) d.payload (numbers p t k d declared) (references p t k d declared) (owners p t k d declared)
    ins = inside p t k d declared

    where_it : slice_get (payload_positions (variant_starts p t) d.payload) j ≡ Some i → StandsAt (variant_starts p t) d.payload (numbers p t k d declared) (references p t k d declared) (owners p t k d declared) parts i x
    where_it at = stands_at types d.payload parts (variant_starts p t) (numbers p t k d declared) (references p t k d declared) (owners p t k d declared) (omega arith) ins shapes j i x at part

    long : length (after_first (variant_sorts p t)) ≡ most_of is_number p t + most_of is_guarded p t + most_of is_owning p t
    long = length-append (replicate (most_of is_number p t) of_number ++ replicate (most_of is_guarded p t) of_reference) (replicate (most_of is_owning p t) of_owner)
        ∙ ap (λ n. n + length (replicate (most_of is_owning p t) of_owner)) (length-append (replicate (most_of is_number p t) of_number) (replicate (most_of is_guarded p t) of_reference))
        ∙ ap (λ n. n + length (replicate (most_of is_guarded p t) of_reference) + length (replicate (most_of is_owning p t) of_owner)) (length_replicate (most_of is_number p t) of_number)
        ∙ ap (λ n. most_of is_number p t + n + length (replicate (most_of is_owning p t) of_owner)) (length_replicate (most_of is_guarded p t) of_reference)
        ∙ ap (λ n. most_of is_number p t + most_of is_guarded p t + n) (length_replicate (most_of is_owning p t) of_owner)

    one : (m : ℕ) → 1 + m ≡ suc m
    one m = omega arith

    some_position : (i : ℕ) → IsWithin (variant_starts p t) (numbers p t k d declared) (references p t k d declared) (owners p t k d declared) i → (m : ℕ) × (i ≡ suc m) × (m < most_of is_number p t + most_of is_guarded p t + most_of is_owning p t)
    some_position zero (inl h) = absurd (let k = h.from in omega arith)
    some_position zero (inr (inl h)) = absurd (let k = h.from in omega arith)
    some_position zero (inr (inr h)) = absurd (let k = h.from in omega arith)
    some_position (suc m) (inl h) = (m, refl, let k = h.below in omega arith)
    some_position (suc m) (inr (inl h)) = (m, refl, let k = h.below in omega arith)
    some_position (suc m) (inr (inr h)) = (m, refl, let k = h.below in omega arith)

    by : (i : ℕ) → slice_get (payload_positions (variant_starts p t) d.payload) j ≡ Some i →
        (slice_get (payload_positions (variant_starts p t) d.payload) j ≡ Some i → StandsAt (variant_starts p t) d.payload (numbers p t k d declared) (references p t k d declared) (owners p t k d declared) parts i x) →
        slice_get (variant_values p t k parts) i ≡ Some (c_part x)
    by i at go =
        let q = go at in
        let m = some_position i q.within in
        let v = value_at 1 m.0 (case_positions p t k) parts (after_first (variant_sorts p t)) (subst (λ n. m.0 < n) (sym long) m.2) in
        ap (slice_get (variant_values p t k parts)) m.1 ∙ v.1
        ∙ ap (λ js. Some (case_value v.0 (1 + m.0) js parts)) (ap (λ o. payload_positions (variant_starts p t) (payload_in o)) declared)
        ∙ ap (λ n. Some (case_value v.0 n (payload_positions (variant_starts p t) d.payload) parts)) (one m.0 ∙ sym m.1)
        ∙ ap (λ a. Some a) (q.value v.0)
