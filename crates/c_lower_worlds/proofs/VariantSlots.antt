-- The slots of a variant: each payload is in a slot of its sort, and the objects that it owns are in order.
use Rattle.std.proofs.lemmas.Bool.Decides.{nat_tests}
use Rattle.std.proofs.Common.{◌≡◌, ◌≤◌, ◌<◌, ℕ, zero, suc, ◌+◌, ◌==◌, Bool, true, false, if◌then◌else◌, List, [], ◌∷◌, ◌++◌, length, replicate, Some, slice_get, length-append, refl, sym, ap, ◌∙◌, subst, arith, None, append_assoc}
use Rattle.std.proofs.lemmas.Bool.{eqb-true, eq-eqb}
use Rattle.std.specs.List.{count_by, flat_map}
use Rattle.std.proofs.lemmas.List.Recursion.{is_count_by}
use Rattle.std.proofs.lemmas.Option.{none-some, same_Some}
use Rattle.c_lower.specs.Statements.{case_positions, payload_in}
use Rattle.c_meaning.specs.World as cw
use Rattle.vlt_core.specs.Core as core
use Rattle.vlt_core.specs.Core.{Ty, CaseDecl, Program}
use Rattle.vlt_core.specs.Lookups.{is_owning, cases_of, case_at}
use Rattle.vlt_core.specs.Widths.{greatest, is_number, is_guarded, most_of}
use Rattle.vlt_meaning.specs.World.{Part, objects_in_part}
use Rattle.vlt_meaning.specs.World as source
use Rattle.c_meaning.specs.World.{Value, reference}
use Rattle.c_lower.specs.Slots.{Sort, of_number, of_reference, of_owner, Starts, start_of, after_start, payload_sort, payload_positions, variant_starts, variant_sorts, slot_sorts}
use Rattle.c_lower_worlds.specs.Worlds.{c_part, case_value, case_values, unused, slot_values, variant_values}
use Rattle.c_lower_worlds.specs.Shapes.{HasPayloadShape, HavePayloadShapes, HasShape}
use Rattle.c_lower_worlds.specs.Sorts.{IsOfSort, AreOfSorts}

-- how many pass
abbrev pub counted : (Ty → Bool) → List Ty → ℕ
counted test [] = 0
counted test (t ∷ ts) = if test t then 1 + counted test ts else counted test ts

pub counted_is : (test : Ty → Bool) (ts : List Ty) → counted test ts ≡ count_by test ts
counted_is test ts = is_count_by (counted test) test refl (λ x xs. refl) ts

-- the payloads that are left take slots below these: numbers, references, owners
pub record Inside (s : Starts) (ts : List Ty) (a b c : ℕ) : Type 0 where
  pub numbers : s.number + counted is_number ts ≤ a
  pub after_numbers : a ≤ s.reference
  pub references : s.reference + counted is_guarded ts ≤ b
  pub after_references : b ≤ s.owner
  pub owners : s.owner + counted is_owning ts ≤ c

pub record IsMiddle (a b i : ℕ) : Type 0 where
  pub from : a ≤ i
  pub below : i < b

-- the slots of a sort
abbrev pub Zone : Sort → (a b c i : ℕ) → Type 0
Zone of_number a b c i = i < a
Zone of_reference a b c i = IsMiddle a b i
Zone of_owner a b c i = IsMiddle b c i

zones_apart : (s u : Sort) (a b c i : ℕ) (v : Value) → a ≤ b → Zone s a b c i → Zone u a b c i → IsOfSort u v → IsOfSort s v
zones_apart of_number of_number a b c i v l x y h = h
zones_apart of_number of_reference a b c i v l x y h = absurd (let k = y.from in omega arith)
zones_apart of_number of_owner a b c i v l x y h = absurd (let k = y.from in omega arith)
zones_apart of_reference of_number a b c i v l x y h = absurd (let k = x.from in omega arith)
zones_apart of_reference of_reference a b c i v l x y h = h
zones_apart of_reference of_owner a b c i v l x y h = absurd (let k = y.from in let m = x.below in omega arith)
zones_apart of_owner of_number a b c i v l x y h = absurd (let k = x.from in omega arith)
zones_apart of_owner of_reference a b c i v l x y h = absurd (let k = x.from in let m = y.below in omega arith)
zones_apart of_owner of_owner a b c i v l x y h = h

unused_of_sort : (s : Sort) → IsOfSort s (unused s)
unused_of_sort of_number = tt
unused_of_sort of_reference = tt
unused_of_sort of_owner = tt

-- the next payload is in a slot of its sort, and the others after
pub record IsNext (types : List ℕ) (t : Ty) (part : Part) (s : Starts) (ts : List Ty) (a b c : ℕ) : Type 0 where
  pub here : Zone (payload_sort t) a b c (start_of (payload_sort t) s)
  pub kind : IsOfSort (payload_sort t) (c_part part)
  pub rest : Inside (after_start (payload_sort t) s) ts a b c

pub next_is : (types : List ℕ) (t : Ty) (part : Part) (s : Starts) (ts : List Ty) (a b c : ℕ) → Inside s (t ∷ ts) a b c → HasPayloadShape types t part →
    IsNext types t part s ts a b c
next_is types core.int part s ts a b c h shape =
    let n = h.numbers in let bn = h.after_numbers in let r = h.references in let br = h.after_references in let o = h.owners in
    record {
      here = omega arith;
      kind = subst (λ x. IsOfSort of_number (c_part x)) (sym shape.is) tt;
      rest = record { numbers = omega arith; after_numbers = bn; references = r; after_references = br; owners = o };
    }
next_is types core.bool part s ts a b c h shape =
    let n = h.numbers in let bn = h.after_numbers in let r = h.references in let br = h.after_references in let o = h.owners in
    record {
      here = omega arith;
      kind = subst (λ x. IsOfSort of_number (c_part x)) (sym shape.is) tt;
      rest = record { numbers = omega arith; after_numbers = bn; references = r; after_references = br; owners = o };
    }
next_is types (core.guarded k t args) part s ts a b c h shape =
    let n = h.numbers in let bn = h.after_numbers in let r = h.references in let br = h.after_references in let o = h.owners in
    record {
      here = record { from = bn; below = omega arith };
      kind = subst (λ x. IsOfSort of_reference (c_part x)) (sym shape.is) tt;
      rest = record { numbers = n; after_numbers = omega arith; references = omega arith; after_references = br; owners = o };
    }
next_is types (core.owning states t args) part s ts a b c h shape =
    let n = h.numbers in let bn = h.after_numbers in let r = h.references in let br = h.after_references in let o = h.owners in
    record {
      here = record { from = br; below = omega arith };
      kind = subst (λ x. IsOfSort of_owner (c_part x)) (sym shape.is) tt;
      rest = record { numbers = n; after_numbers = bn; references = r; after_references = omega arith; owners = omega arith };
    }
next_is types (core.tracked k t args) part s ts a b c h shape = absurd shape
next_is types (core.variant t args) part s ts a b c h shape = absurd shape
next_is types (core.owning_variant t args) part s ts a b c h shape = absurd shape

-- what stands in a slot is of its sort
value_of_sort : (types : List ℕ) (u : Sort) (i : ℕ) (ts : List Ty) (parts : List Part) (s : Starts) (a b c : ℕ) → a ≤ b → Inside s ts a b c →
    HavePayloadShapes types ts parts → Zone u a b c i → IsOfSort u (case_value u i (payload_positions s ts) parts)
value_of_sort types u i [] [] s a b c l h shapes z = unused_of_sort u
value_of_sort types u i [] (x ∷ parts) s a b c l h shapes z = absurd shapes
value_of_sort types u i (t ∷ ts) [] s a b c l h shapes z = absurd shapes
value_of_sort types u i (t ∷ ts) (x ∷ parts) s a b c l h shapes z =
    by (value_of_sort types u i ts parts (after_start (payload_sort t) s) a b c l next.rest shapes.1 z) (i == start_of (payload_sort t) s) refl
  where
    next : IsNext types t x s ts a b c
    next = next_is types t x s ts a b c h shapes.0

    by : IsOfSort u (case_value u i (payload_positions (after_start (payload_sort t) s) ts) parts) →
        (e : Bool) → (i == start_of (payload_sort t) s) ≡ e →
        IsOfSort u (if e then c_part x else case_value u i (payload_positions (after_start (payload_sort t) s) ts) parts)
    by later true e =
        zones_apart u (payload_sort t) a b c i (c_part x) l z
        (subst (Zone (payload_sort t) a b c) (sym (eqb-true i (start_of (payload_sort t) s) e)) next.here) next.kind
    by later false e = later

-- ---- all slots

pub values_append : (i : ℕ) (js : List ℕ) (parts : List Part) (xs ys : List Sort) →
    case_values i js parts (xs ++ ys) ≡ case_values i js parts xs ++ case_values (i + length xs) js parts ys
values_append i js parts [] ys = ap (λ k. case_values k js parts ys) (no_more i)
  where
    no_more : (i : ℕ) → i ≡ i + 0
    no_more i = omega arith
values_append i js parts (x ∷ xs) ys =
    ap (λ r. case_value x i js parts ∷ r)
    (values_append (suc i) js parts xs ys ∙ ap (λ k. case_values (suc i) js parts xs ++ case_values k js parts ys) (more i (length xs)))
  where
    more : (i n : ℕ) → suc i + n ≡ i + suc n
    more i n = omega arith

pub sorts_append : (xs ys : List Sort) (vs us : List Value) → AreOfSorts xs vs → AreOfSorts ys us → AreOfSorts (xs ++ ys) (vs ++ us)
sorts_append [] ys [] us h k = k
sorts_append [] ys (a ∷ vs) us h k = absurd h
sorts_append (x ∷ xs) ys [] us h k = absurd h
sorts_append (x ∷ xs) ys (a ∷ vs) us h k = (h.0, sorts_append xs ys vs us h.1 k)

zone_of_sort : (u : Sort) (n i : ℕ) (js : List ℕ) (parts : List Part) →
    ((k : ℕ) → i ≤ k → k < i + n → IsOfSort u (case_value u k js parts)) → AreOfSorts (replicate n u) (case_values i js parts (replicate n u))
zone_of_sort u zero i js parts h = tt
zone_of_sort u (suc n) i js parts h =
    (h i (omega arith) (omega arith), zone_of_sort u n (suc i) js parts (λ k l m. h k (omega arith) (omega arith)))

pub length_replicate : {A : Type 0} (n : ℕ) (x : A) → length (replicate n x) ≡ n
length_replicate zero x = refl
length_replicate (suc n) x = ap suc (length_replicate n x)

-- numbers, references and owners, one zone after another
zones_of_sorts : (n r o : ℕ) (js : List ℕ) (parts : List Part) →
    ((i : ℕ) → 1 ≤ i → i < suc n → IsOfSort of_number (case_value of_number i js parts)) →
    ((i : ℕ) → suc n ≤ i → i < suc n + r → IsOfSort of_reference (case_value of_reference i js parts)) →
    ((i : ℕ) → suc n + r ≤ i → i < suc n + r + o → IsOfSort of_owner (case_value of_owner i js parts)) →
    AreOfSorts (replicate n of_number ++ replicate r of_reference ++ replicate o of_owner)
    (case_values 1 js parts (replicate n of_number ++ replicate r of_reference ++ replicate o of_owner))
zones_of_sorts n r o js parts x y z =
    rw (
      values_append 1 js parts (replicate n of_number ++ replicate r of_reference) (replicate o of_owner),
      values_append 1 js parts (replicate n of_number) (replicate r of_reference),
      length-append (replicate n of_number) (replicate r of_reference),
      length_replicate n of_number,
      length_replicate r of_reference,
    )
    (sorts_append (replicate n of_number ++ replicate r of_reference) (replicate o of_owner) (case_values 1 js parts (replicate n of_number) ++ case_values (1 + n) js parts (replicate r of_reference)) _
    (sorts_append (replicate n of_number) (replicate r of_reference) (case_values 1 js parts (replicate n of_number)) _
    (zone_of_sort of_number n 1 js parts (λ i l m. x i l (omega arith)))
    (zone_of_sort of_reference r (1 + n) js parts (λ i l m. y i (omega arith) (omega arith))))
    (zone_of_sort of_owner o (1 + (n + r)) js parts (λ i l m. z i (omega arith) (omega arith))))

-- ---- the slots of a variant have room

pub at_most : (go : CaseDecl → ℕ) (ds : List CaseDecl) (k : ℕ) (d : CaseDecl) → slice_get ds k ≡ Some d → go d ≤ greatest go ds
at_most go [] k d at = absurd (none-some d at)
at_most go (x ∷ ds) zero d at = let e : go x ≡ go d = ap go (same_Some x d at) in omega arith
at_most go (x ∷ ds) (suc k) d at = let l = at_most go ds k d at in omega arith

module _ (p : Program) (t k : ℕ) (d : CaseDecl) (declared : case_at p t k ≡ Some d) where
  abbrev pub numbers : ℕ
  numbers = suc (most_of is_number p t)

  abbrev pub references : ℕ
  references = numbers + most_of is_guarded p t

  abbrev pub owners : ℕ
  owners = references + most_of is_owning p t

  pub inside : Inside (variant_starts p t) d.payload numbers references owners
  inside =
      let a = at_most (λ c. count_by is_number c.payload) (cases_of p t) k d declared in
      let b = at_most (λ c. count_by is_guarded c.payload) (cases_of p t) k d declared in
      let c = at_most (λ c. count_by is_owning c.payload) (cases_of p t) k d declared in
      let ea = counted_is is_number d.payload in
      let eb = counted_is is_guarded d.payload in
      let ec = counted_is is_owning d.payload in
      record { numbers = omega arith; after_numbers = omega arith; references = omega arith; after_references = omega arith; owners = omega arith }

  -- the values in all slots are of their sorts
  pub variant_of_sorts : (types : List ℕ) (parts : List Part) → HavePayloadShapes types d.payload parts →
      AreOfSorts (variant_sorts p t) (variant_values p t k parts)
  variant_of_sorts types parts shapes = (
    tt,
    rw declared
        (zones_of_sorts (most_of is_number p t) (most_of is_guarded p t) (most_of is_owning p t) (payload_positions starts d.payload) parts
        (λ i l m. value_of_sort types of_number i d.payload parts starts numbers references owners (omega arith) inside shapes (omega arith))
        (λ i l m. value_of_sort types of_reference i d.payload parts starts numbers references owners (omega arith) inside shapes (record { from = l; below = m }))
        (λ i l m. value_of_sort types of_owner i d.payload parts starts numbers references owners (omega arith) inside shapes (record { from = l; below = m }))),
  )
    where
      starts : Starts
      starts = variant_starts p t

-- the values in a value's slots are of the sorts of these
pub shape_sorts : (p : Program) (types : List ℕ) (ty : Ty) (a : source.Value) → HasShape p types ty a → AreOfSorts (slot_sorts p ty) (slot_values p ty a)
shape_sorts p types core.int a h = subst (λ a. AreOfSorts (of_number ∷ []) (slot_values p core.int a)) (sym h.is)
    (subst (λ x. AreOfSorts (of_number ∷ []) (c_part x ∷ [])) (sym h.shape.is) (tt, tt))
shape_sorts p types core.bool a h = subst (λ a. AreOfSorts (of_number ∷ []) (slot_values p core.bool a)) (sym h.is)
    (subst (λ x. AreOfSorts (of_number ∷ []) (c_part x ∷ [])) (sym h.shape.is) (tt, tt))
shape_sorts p types (core.tracked k t args) a h = subst (λ a. AreOfSorts (of_reference ∷ []) (slot_values p (core.tracked k t args) a)) (sym h.is)
    (subst (λ x. AreOfSorts (of_reference ∷ []) (c_part x ∷ [])) (sym h.shape.is) (tt, tt))
shape_sorts p types (core.guarded k t args) a h = subst (λ a. AreOfSorts (of_reference ∷ []) (slot_values p (core.guarded k t args) a)) (sym h.is)
    (subst (λ x. AreOfSorts (of_reference ∷ []) (c_part x ∷ [])) (sym h.shape.is) (tt, tt))
shape_sorts p types (core.owning states t args) a h = subst (λ a. AreOfSorts (of_owner ∷ []) (slot_values p (core.owning states t args) a)) (sym h.is)
    (subst (λ x. AreOfSorts (of_owner ∷ []) (c_part x ∷ [])) (sym h.shape.is) (tt, tt))
shape_sorts p types (core.variant t args) a h = subst (λ a. AreOfSorts (variant_sorts p t) (slot_values p (core.variant t args) a)) (sym h.is)
    (variant_of_sorts p t h.case h.decl h.declared types h.parts h.shape)
shape_sorts p types (core.owning_variant t args) a h = subst (λ a. AreOfSorts (variant_sorts p t) (slot_values p (core.owning_variant t args) a)) (sym h.is)
    (variant_of_sorts p t h.case h.decl h.declared types h.parts h.shape)

-- ---- the objects that a value owns stand in its owners' slots, in order

-- the object that a slot goes to
abbrev pub gone_to : Value → List ℕ
gone_to (cw.number z) = []
gone_to (reference None) = []
gone_to (reference (Some n)) = n ∷ []

-- those of the slots that own
abbrev pub owned_in_slots : List Sort → List Value → List ℕ
owned_in_slots (of_owner ∷ ss) (v ∷ vs) = gone_to v ++ owned_in_slots ss vs
owned_in_slots (of_number ∷ ss) (v ∷ vs) = owned_in_slots ss vs
owned_in_slots (of_reference ∷ ss) (v ∷ vs) = owned_in_slots ss vs
owned_in_slots _ _ = []

not_same : (i j : ℕ) → j < i → (i == j) ≡ false
not_same i j l = grind (arith, nat_tests)

skipped : (m i j : ℕ) (js : List ℕ) (x : Part) (parts : List Part) → j < i → case_values i (j ∷ js) (x ∷ parts) (replicate m of_owner) ≡ case_values i js parts (replicate m of_owner)
skipped zero i j js x parts l = refl
skipped (suc m) i j js x parts l =
    ap (λ b. (if b then c_part x else case_value of_owner i js parts) ∷ case_values (suc i) (j ∷ js) (x ∷ parts) (replicate m of_owner)) (not_same i j l)
    ∙ ap (λ r. case_value of_owner i js parts ∷ r) (skipped m (suc i) j js x parts (omega arith))

no_owners : (m i : ℕ) (parts : List Part) → owned_in_slots (replicate m of_owner) (case_values i [] parts (replicate m of_owner)) ≡ []
no_owners zero i parts = refl
no_owners (suc m) i parts = no_owners m (suc i) parts

owner_zone : (types : List ℕ) (ts : List Ty) (parts : List Part) (s : Starts) (a b c m : ℕ) → Inside s ts a b c → HavePayloadShapes types ts parts → counted is_owning ts ≤ m →
    owned_in_slots (replicate m of_owner) (case_values s.owner (payload_positions s ts) parts (replicate m of_owner)) ≡ flat_map objects_in_part parts
owner_zone types [] [] s a b c m h shapes l = no_owners m s.owner []
owner_zone types [] (x ∷ parts) s a b c m h shapes l = absurd shapes
owner_zone types (t ∷ ts) [] s a b c m h shapes l = absurd shapes
owner_zone types (core.int ∷ ts) (x ∷ parts) s a b c m h shapes l =
    let n = next_is types core.int x s ts a b c h shapes.0 in
    let below : s.number < s.owner = let q = n.here in let u = h.after_numbers in let v = h.references in let w = h.after_references in omega arith in
    ap (owned_in_slots (replicate m of_owner)) (skipped m s.owner s.number (payload_positions (after_start of_number s) ts) x parts below)
    ∙ owner_zone types ts parts (after_start of_number s) a b c m n.rest shapes.1 l
    ∙ ap (λ o. o ++ flat_map objects_in_part parts) (sym (ap objects_in_part shapes.0.is))
owner_zone types (core.bool ∷ ts) (x ∷ parts) s a b c m h shapes l =
    let n = next_is types core.bool x s ts a b c h shapes.0 in
    let below : s.number < s.owner = let q = n.here in let u = h.after_numbers in let v = h.references in let w = h.after_references in omega arith in
    ap (owned_in_slots (replicate m of_owner)) (skipped m s.owner s.number (payload_positions (after_start of_number s) ts) x parts below)
    ∙ owner_zone types ts parts (after_start of_number s) a b c m n.rest shapes.1 l
    ∙ ap (λ o. o ++ flat_map objects_in_part parts) (sym (ap objects_in_part shapes.0.is))
owner_zone types (core.guarded k t args ∷ ts) (x ∷ parts) s a b c m h shapes l =
    let n = next_is types (core.guarded k t args) x s ts a b c h shapes.0 in
    let below : s.reference < s.owner = let q = n.here.below in let w = h.after_references in omega arith in
    ap (owned_in_slots (replicate m of_owner)) (skipped m s.owner s.reference (payload_positions (after_start of_reference s) ts) x parts below)
    ∙ owner_zone types ts parts (after_start of_reference s) a b c m n.rest shapes.1 l
    ∙ ap (λ o. o ++ flat_map objects_in_part parts) (sym (ap objects_in_part shapes.0.is))
owner_zone types (core.owning states t args ∷ ts) (x ∷ parts) s a b c zero h shapes l = absurd (omega arith)
owner_zone types (core.owning states t args ∷ ts) (x ∷ parts) s a b c (suc m) h shapes l =
    let n = next_is types (core.owning states t args) x s ts a b c h shapes.0 in
    let same : (s.owner == s.owner) ≡ true = eq-eqb s.owner s.owner refl in
    ap (λ b. gone_to (if b then c_part x else case_value of_owner s.owner (payload_positions (after_start of_owner s) ts) parts)
    ++ owned_in_slots (replicate m of_owner) (case_values (suc s.owner) (s.owner ∷ payload_positions (after_start of_owner s) ts) (x ∷ parts) (replicate m of_owner))) same
    ∙ ap (λ vs. gone_to (c_part x) ++ owned_in_slots (replicate m of_owner) vs) (skipped m (suc s.owner) s.owner (payload_positions (after_start of_owner s) ts) x parts (omega arith))
    ∙ ap (λ ns. gone_to (c_part x) ++ ns) (owner_zone types ts parts (after_start of_owner s) a b c m n.rest shapes.1 (omega arith))
    ∙ ap (λ ns. ns ++ flat_map objects_in_part parts) (ap (λ x. gone_to (c_part x)) shapes.0.is ∙ sym (ap objects_in_part shapes.0.is))
owner_zone types (core.tracked k t args ∷ ts) (x ∷ parts) s a b c m h shapes l = absurd shapes.0
owner_zone types (core.variant t args ∷ ts) (x ∷ parts) s a b c m h shapes l = absurd shapes.0
owner_zone types (core.owning_variant t args ∷ ts) (x ∷ parts) s a b c m h shapes l = absurd shapes.0

owned_append : (xs ys : List Sort) (vs us : List Value) → length xs ≡ length vs → owned_in_slots (xs ++ ys) (vs ++ us) ≡ owned_in_slots xs vs ++ owned_in_slots ys us
owned_append [] ys [] us l = refl
owned_append [] ys (v ∷ vs) us l = absurd (omega arith)
owned_append (x ∷ xs) ys [] us l = absurd (omega arith)
owned_append (of_number ∷ xs) ys (v ∷ vs) us l = owned_append xs ys vs us (omega arith)
owned_append (of_reference ∷ xs) ys (v ∷ vs) us l = owned_append xs ys vs us (omega arith)
owned_append (of_owner ∷ xs) ys (v ∷ vs) us l = ap (λ ns. gone_to v ++ ns) (owned_append xs ys vs us (omega arith)) ∙ sym (append_assoc (gone_to v) (owned_in_slots xs vs) (owned_in_slots ys us))

pub values_long : (i : ℕ) (js : List ℕ) (parts : List Part) (ss : List Sort) → length ss ≡ length (case_values i js parts ss)
values_long i js parts [] = refl
values_long i js parts (s ∷ ss) = ap suc (values_long (suc i) js parts ss)

no_numbers : (m i : ℕ) (js : List ℕ) (parts : List Part) → owned_in_slots (replicate m of_number) (case_values i js parts (replicate m of_number)) ≡ []
no_numbers zero i js parts = refl
no_numbers (suc m) i js parts = no_numbers m (suc i) js parts

no_references : (m i : ℕ) (js : List ℕ) (parts : List Part) → owned_in_slots (replicate m of_reference) (case_values i js parts (replicate m of_reference)) ≡ []
no_references zero i js parts = refl
no_references (suc m) i js parts = no_references m (suc i) js parts

three_zones : (n r o : ℕ) (js : List ℕ) (parts : List Part) →
    owned_in_slots (replicate n of_number ++ replicate r of_reference ++ replicate o of_owner) (case_values 1 js parts (replicate n of_number ++ replicate r of_reference ++ replicate o of_owner)) ≡
    owned_in_slots (replicate o of_owner) (case_values (1 + (n + r)) js parts (replicate o of_owner))
three_zones n r o js parts =
    ap (owned_in_slots (replicate n of_number ++ replicate r of_reference ++ replicate o of_owner)) (values_append 1 js parts (replicate n of_number ++ replicate r of_reference) (replicate o of_owner))
    ∙ owned_append (replicate n of_number ++ replicate r of_reference) (replicate o of_owner) (case_values 1 js parts (replicate n of_number ++ replicate r of_reference)) _ (values_long 1 js parts (replicate n of_number ++ replicate r of_reference))
    ∙ ap (λ ns. ns ++ owned_in_slots (replicate o of_owner) (case_values (1 + length (replicate n of_number ++ replicate r of_reference)) js parts (replicate o of_owner))) front
    ∙ ap (λ k. owned_in_slots (replicate o of_owner) (case_values (1 + k) js parts (replicate o of_owner))) long
  where
    front : owned_in_slots (replicate n of_number ++ replicate r of_reference) (case_values 1 js parts (replicate n of_number ++ replicate r of_reference)) ≡ []
    front =
        ap (owned_in_slots (replicate n of_number ++ replicate r of_reference)) (values_append 1 js parts (replicate n of_number) (replicate r of_reference))
        ∙ owned_append (replicate n of_number) (replicate r of_reference) (case_values 1 js parts (replicate n of_number)) _ (values_long 1 js parts (replicate n of_number))
        ∙ ap (λ ns. ns ++ owned_in_slots (replicate r of_reference) (case_values (1 + length (replicate n of_number)) js parts (replicate r of_reference))) (no_numbers n 1 js parts)
        ∙ no_references r (1 + length (replicate n of_number)) js parts

    long : length (replicate n of_number ++ replicate r of_reference) ≡ n + r
    long = length-append (replicate n of_number) (replicate r of_reference) ∙ ap (λ k. k + length (replicate r of_reference)) (length_replicate n of_number) ∙ ap (λ k. n + k) (length_replicate r of_reference)

-- of a variant without keys
variant_owners : (p : Program) (t k : ℕ) (d : CaseDecl) → case_at p t k ≡ Some d → (types : List ℕ) (parts : List Part) → HavePayloadShapes types d.payload parts →
    owned_in_slots (variant_sorts p t) (variant_values p t k parts) ≡ flat_map objects_in_part parts
variant_owners p t k d declared types parts shapes =
    three_zones (most_of is_number p t) (most_of is_guarded p t) (most_of is_owning p t) (case_positions p t k) parts
    ∙ ap (λ js. owned_in_slots (replicate (most_of is_owning p t) of_owner) (case_values (1 + (most_of is_number p t + most_of is_guarded p t)) js parts (replicate (most_of is_owning p t) of_owner)))
    (ap (λ o. payload_positions (variant_starts p t) (payload_in o)) declared)
    ∙ ap (λ i. owned_in_slots (replicate (most_of is_owning p t) of_owner) (case_values i (payload_positions (variant_starts p t) d.payload) parts (replicate (most_of is_owning p t) of_owner)))
    (start (most_of is_number p t) (most_of is_guarded p t))
    ∙ owner_zone types d.payload parts (variant_starts p t) (numbers p t k d declared) (references p t k d declared) (owners p t k d declared) (most_of is_owning p t) (inside p t k d declared) shapes room
  where
    start : (n r : ℕ) → 1 + (n + r) ≡ suc n + r
    start n r = omega arith

    room : counted is_owning d.payload ≤ most_of is_owning p t
    room = let c = at_most (λ c. count_by is_owning c.payload) (cases_of p t) k d declared in let e = counted_is is_owning d.payload in omega arith

-- the objects of a value are those of its owners' slots, in order, where its case has no keys
pub owners_in_order : (p : Program) (types : List ℕ) (ty : Ty) (a : source.Value) → HasShape p types ty a → ((k : ℕ) (parts : List Part) (keys : List ℕ) → a ≡ source.of_case k parts keys → keys ≡ []) →
    owned_in_slots (slot_sorts p ty) (slot_values p ty a) ≡ source.objects_in a
owners_in_order p types core.int a h bare = ap (λ a. owned_in_slots (of_number ∷ []) (slot_values p core.int a)) (h.is ∙ ap (λ x. source.one x) h.shape.is) ∙ sym (ap source.objects_in (h.is ∙ ap (λ x. source.one x) h.shape.is))
owners_in_order p types core.bool a h bare = ap (λ a. owned_in_slots (of_number ∷ []) (slot_values p core.bool a)) (h.is ∙ ap (λ x. source.one x) h.shape.is) ∙ sym (ap source.objects_in (h.is ∙ ap (λ x. source.one x) h.shape.is))
owners_in_order p types (core.tracked k t args) a h bare =
    ap (λ a. owned_in_slots (of_reference ∷ []) (slot_values p (core.tracked k t args) a)) (h.is ∙ ap (λ x. source.one x) h.shape.is) ∙ sym (ap source.objects_in (h.is ∙ ap (λ x. source.one x) h.shape.is))
owners_in_order p types (core.guarded k t args) a h bare =
    ap (λ a. owned_in_slots (of_reference ∷ []) (slot_values p (core.guarded k t args) a)) (h.is ∙ ap (λ x. source.one x) h.shape.is) ∙ sym (ap source.objects_in (h.is ∙ ap (λ x. source.one x) h.shape.is))
owners_in_order p types (core.owning states t args) a h bare =
    ap (λ a. owned_in_slots (of_owner ∷ []) (slot_values p (core.owning states t args) a)) (h.is ∙ ap (λ x. source.one x) h.shape.is) ∙ sym (ap source.objects_in (h.is ∙ ap (λ x. source.one x) h.shape.is))
owners_in_order p types (core.variant t args) a h bare =
    ap (λ a. owned_in_slots (variant_sorts p t) (slot_values p (core.variant t args) a)) h.is ∙ variant_owners p t h.case h.decl h.declared types h.parts h.shape
    ∙ sym (ap source.objects_in h.is ∙ ap (λ ks. flat_map objects_in_part h.parts ++ ks) (bare h.case h.parts h.keys h.is) ∙ nothing (flat_map objects_in_part h.parts))
  where
    nothing : (xs : List ℕ) → xs ++ [] ≡ xs
    nothing [] = refl
    nothing (x ∷ xs) = ap (λ r. x ∷ r) (nothing xs)
owners_in_order p types (core.owning_variant t args) a h bare =
    ap (λ a. owned_in_slots (variant_sorts p t) (slot_values p (core.owning_variant t args) a)) h.is ∙ variant_owners p t h.case h.decl h.declared types h.parts h.shape
    ∙ sym (ap source.objects_in h.is ∙ ap (λ ks. flat_map objects_in_part h.parts ++ ks) (bare h.case h.parts h.keys h.is) ∙ nothing (flat_map objects_in_part h.parts))
  where
    nothing : (xs : List ℕ) → xs ++ [] ≡ xs
    nothing [] = refl
    nothing (x ∷ xs) = ap (λ r. x ∷ r) (nothing xs)
