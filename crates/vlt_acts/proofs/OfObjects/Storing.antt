-- Slots and cells that are set.
use Rattle.std.proofs.Common.{◌≡◌, ◌≢◌, ◌⊎◌, inl, inr, ℕ, zero, suc, ◌+◌, ◌*◌, ◌<◌, ◌≤◌, List, [], ◌∷◌, take, drop, length, Option, Some, None, refl, sym, ap, ◌∙◌, subst, arith, slice_get, slice_set}
use Rattle.std.proofs.lemmas.Option.{none-some, same_Some, slice_get_within}
use Rattle.std.proofs.lemmas.List.{length-set}
use Rattle.vlt_rings.proofs.Lists.{equal_or_not, get_same, get_other}
use Rattle.vlt_rings.proofs.Rows.{below_or_above, row_fits}
use Rattle.vlt_heap.specs.declared.slots.Obj.{Obj}
use Rattle.vlt_heap.specs.declared.slots.Slot.{Slot}
use Rattle.vlt_heap.specs.declared.slots.Slot.TheVariants.{Object}
use Rattle.vlt_heap.specs.declared.heap.Heap.{Heap}
use Rattle.vlt_heap.specs.Items.{Item, Items, with_item, with_slot}
use Rattle.vlt_heap.specs.Shown.{Holds, slots_of, Stores}
use Rattle.vlt_heap.proofs.Listed.{set_back, with_here, kept_with}
use Rattle.vlt_meaning.specs.World.{Part, Value, Object as Thing}
use Rattle.vlt_meaning.specs.Objects.{with_cell}
use Rattle.vlt_acts.specs.declared.values.values.Values.{Values}
use Rattle.vlt_acts.specs.Values.Parts.{padded_parts, HaveParts, HaveValue}
use Rattle.vlt_acts.specs.Values.Shown.{ShowsObject, var_at}
use Rattle.vlt_acts.proofs.OfValues.Padding.{length_padded}
use Rattle.vlt_acts.proofs.OfValues.Fronts.{IsSlotAt, IsNoObject, following, referred}
use Rattle.vlt_acts.proofs.OfValues.Fronts as fronts
use Rattle.vlt_acts.proofs.OfValues.Writing.{value_moved}
use Rattle.vlt_acts.proofs.OfActs.Keeping.{value_same}
use Rattle.vlt_acts.proofs.OfActs.Showing.{one_shown}
use Rattle.vlt_acts.specs.Objects.Cells.{set_from, with_slots, StoresAll, SetsCell}

-- ---- a row that is set

pub length_set_from : (k : ℕ) (row slots : List Slot) → length (set_from k row slots) ≡ length slots
length_set_from k [] slots = refl
length_set_from k (a ∷ row) slots = length_set_from (suc k) row (slice_set slots k a) ∙ length-set slots k a

pub set_outside : (k : ℕ) (row slots : List Slot) (j : ℕ) → (j < k) ⊎ (k + length row ≤ j) → slice_get (set_from k row slots) j ≡ slice_get slots j
set_outside k [] slots j out = refl
set_outside k (a ∷ row) slots j out = set_outside (suc k) row (slice_set slots k a) j (next out) ∙ get_other slots k j a (other out)
  where
    next : (j < k) ⊎ (k + suc (length row) ≤ j) → (j < suc k) ⊎ (suc k + length row ≤ j)
    next (inl l) = inl (omega (arith, l))
    next (inr l) = inr (omega (arith, l))

    other : (j < k) ⊎ (k + suc (length row) ≤ j) → j ≢ k
    other (inl l) e = absurd (omega (arith, l, e))
    other (inr l) e = absurd (omega (arith, l, e))

pub set_inside : (k : ℕ) (row slots : List Slot) (j : ℕ) (b : Slot) → k + length row ≤ length slots → slice_get row j ≡ Some b → slice_get (set_from k row slots) (k + j) ≡ Some b
set_inside k [] slots j b fits at = absurd (none-some b at)
set_inside k (a ∷ row) slots zero b fits at =
    set_outside (suc k) row (slice_set slots k a) (k + 0) (inl (omega arith)) ∙ ap (slice_get (slice_set slots k a)) (omega arith) ∙ get_same slots k a (omega (arith, fits)) ∙ at
set_inside k (a ∷ row) slots (suc j) b fits at =
    ap (slice_get (set_from (suc k) row (slice_set slots k a))) (omega arith) ∙ set_inside (suc k) row (slice_set slots k a) j b (let l = length-set slots k a in omega (arith, fits, l)) at

-- ---- one slot after another

set_twice : {A : Type 0} (xs : List A) (n : ℕ) (y z : A) → slice_set (slice_set xs n y) n z ≡ slice_set xs n z
set_twice [] n y z = refl
set_twice (x ∷ xs) zero y z = refl
set_twice (x ∷ xs) (suc n) y z = ap (λ l. x ∷ l) (set_twice xs n y z)

pub none_stored : (h : Heap) (o : Obj) (n k : ℕ) → StoresAll o n k [] h h
none_stored h o n k items x holds at place fits = subst (Holds h) (sym (set_back items n (Some x) at)) holds

pub more_stored : (old mid new : Heap) (o : Obj) (n k j : ℕ) (a : Slot) (row : List Slot) → j ≡ suc k → slots_of mid ≡ slots_of old → Stores o n k a old mid → StoresAll o n j row mid new → StoresAll o n k (a ∷ row) old new
more_stored old mid new o n k j a row next size first rest items x holds at place fits =
    subst (Holds new) (set_twice items n (Some (with_slot k a x)) (Some (with_slots k (a ∷ row) x)))
    (subst (λ i. Holds new (with_item n (with_slots i row (with_slot k a x)) (with_item n (with_slot k a x) items))) next
    (rest (with_item n (with_slot k a x) items) (with_slot k a x) (first items x holds at place (omega (arith, fits))) (with_here items n x (with_slot k a x) at) place (rw size (omega (arith, fits, next)))))

-- ---- a row that is read

take_none : {A : Type 0} (m : ℕ) → ◌≡◌ {A = List A} (take m []) []
take_none zero = refl
take_none (suc m) = refl

pub row_get : {A : Type 0} (xs : List A) (k n j : ℕ) → j < n → slice_get (take n (drop k xs)) j ≡ slice_get xs (k + j)
row_get xs zero n j l = take_get xs n j l ∙ ap (slice_get xs) (omega arith)
  where
    take_get : {A : Type 0} (ys : List A) (m i : ℕ) → i < m → slice_get (take m ys) i ≡ slice_get ys i
    take_get ys zero i l = absurd (omega (arith, l))
    take_get [] (suc m) i l = refl
    take_get (y ∷ ys) (suc m) zero l = refl
    take_get (y ∷ ys) (suc m) (suc i) l = take_get ys m i (omega (arith, l))
row_get {A = A} [] (suc k) n j l = subst (λ (ys : List A). slice_get ys j ≡ None) (sym (take_none {A = A} n)) refl
row_get (x ∷ xs) (suc k) n j l = let e : suc (k + j) ≡ suc k + j = omega arith in row_get xs k n j l ∙ ap (slice_get (x ∷ xs)) e

pub length_row : {A : Type 0} (xs : List A) (k n : ℕ) → k + n ≤ length xs → length (take n (drop k xs)) ≡ n
length_row xs zero n l = length_take xs n (omega (arith, l))
  where
    length_take : {A : Type 0} (ys : List A) (m : ℕ) → m ≤ length ys → length (take m ys) ≡ m
    length_take ys zero l = refl
    length_take [] (suc m) l = absurd (omega (arith, l))
    length_take (y ∷ ys) (suc m) l = ap suc (length_take ys m (omega (arith, l)))
length_row [] (suc k) n l = absurd (omega (arith, l))
length_row (x ∷ xs) (suc k) n l = length_row xs k n (omega (arith, l))

-- ---- a cell

pub parts_within : (items : Items) (slots : List Slot) (k : ℕ) (ps : List Part) → 1 ≤ length ps → HaveParts items slots k ps → k + length ps ≤ length slots
parts_within items slots k [] l have = absurd (omega (arith, l))
parts_within items slots k (p ∷ []) l have = let w = slice_get_within slots k have.0.slot have.0.at in omega (arith, w)
parts_within items slots k (p ∷ q ∷ ps) l have = let w = parts_within items slots (suc k) (q ∷ ps) (omega arith) have.1 in omega (arith, w)

pub value_within : (items : Items) (slots : List Slot) (k w : ℕ) (a : Value) → 1 ≤ w → HaveValue items slots k w a → k + w ≤ length slots
value_within items slots k w a wide have =
    let l = length_padded w a have.narrow in
    let p = parts_within items slots k (padded_parts w a) (omega (arith, l, wide)) have.parts in
    omega (arith, l, p)

-- an object of which a cell is set
pub cell_shown : (items : Items) (w : ℕ) (x : Item) (o : Thing) (i : ℕ) (a : Value) (row : List Slot) → ShowsObject items w x o → length row ≡ w → i * w + w ≤ length x.slots
    → ((slots : List Slot) (k : ℕ) → ((j : ℕ) (b : Slot) → j < w → slice_get row j ≡ Some b → slice_get slots (k + j) ≡ Some b) → HaveValue items slots k w a) → ShowsObject items w (with_slots (i * w) row x) (with_cell i a o)
cell_shown items w x o i a row s long fits has = record {
  live = s.live;
  type = s.type;
  state = s.state;
  parent = s.parent;
  is_out = s.is_out;
  cells = λ j b at. by j b at (equal_or_not j i);
}
  where
    new : List Slot
    new = set_from (i * w) row x.slots

    by : (j : ℕ) (b : Value) → slice_get (slice_set o.cells i a) j ≡ Some b → (j ≡ i) ⊎ (j ≢ i) → HaveValue items new (j * w) w b
    by j b at (inl e) =
        let l : i < length o.cells = let m = slice_get_within (slice_set o.cells i a) j b at in let n = length-set o.cells i a in omega (arith, m, n, e) in
        let same : a ≡ b = same_Some a b (sym (get_same o.cells i a l) ∙ ap (slice_get (slice_set o.cells i a)) (sym e) ∙ at) in
        subst (λ k. HaveValue items new (k * w) w b) (sym e) (subst (HaveValue items new (i * w) w) same (has new (i * w) (λ d c m at_d. set_inside (i * w) row x.slots d c (omega (arith, long, fits)) at_d)))
    by j b at (inr d) = value_same items x.slots new (j * w) w b (λ k low high. set_outside (i * w) row x.slots k (side k low high (below_or_above j i d))) (s.cells j b (sym (get_other o.cells i j a d) ∙ at))
      where
        side : (k : ℕ) → j * w ≤ k → k < j * w + w → (j < i) ⊎ (i < j) → (k < i * w) ⊎ (i * w + length row ≤ k)
        side k low high (inl l) = inl (let f = row_fits j i w w l (omega arith) in omega (arith, f, high))
        side k low high (inr l) = inr (let f = row_fits i j w w l (omega arith) in omega (arith, f, low, long))

-- a value's slots as a row, wherever it goes
pub row_moves : (items : Items) (slots : List Slot) (from w : ℕ) (a : Value) → HaveValue items slots from w a → (news : List Slot) (k : ℕ) → ((j : ℕ) (b : Slot) → j < w → slice_get (take (1 * w) (drop from slots)) j ≡ Some b → slice_get news (k + j) ≡ Some b) → HaveValue items news k w a
row_moves items slots from w a has news k same =
    value_moved items slots news from k w a (λ j b l at. same j b l (row_get slots from (1 * w) j (omega (arith, l)) ∙ at)) has

pub cell_set : (old new : Heap) (values : Values) (x i from : ℕ) (a : Slot) (o : Obj) (n k : ℕ) (row : List Slot) → 1 ≤ values.width → from + values.width ≤ length values.slots.items → IsSlotAt values.slots.items (var_at values x) a → a ≡ Object o n
    → row ≡ take (1 * values.width) (drop from values.slots.items) → k ≡ i * values.width → StoresAll o n k row old new → SetsCell x i from values old new
cell_set old new values x i from a o n k row wide within front is is_row is_k stores c m q b r has =
    let ref = referred old values c x a front (record { number = m; object = q }) (record { var = r.var; at = r.at; live = r.live }) in
    let s = fronts.same_object (sym is ∙ ref.is) in
    let t = following c.items values.width m c.objects q c.shown r.at r.live in
    let w = values.width in
    let long : length row ≡ w = ap length is_row ∙ length_row values.slots.items from (1 * w) (omega (arith, within)) ∙ omega arith in
    let fits : i * w + w ≤ length t.item.slots = by t.item t.shown (slice_get q.cells i) refl in
    let y = with_slots (i * w) row t.item in
    let keep = kept_with c.items m t.item y t.at refl in
    record {
      items = with_item m y c.items;
      holds = subst (λ j. Holds new (with_item j y c.items)) s.1 (subst (λ j. Holds new (with_item n (with_slots j row t.item) c.items)) is_k
          (stores c.items t.item c.holds (ap (slice_get c.items) s.1 ∙ t.at) (ref.made.place t.item t.at ∙ ap (λ z. z.0) (sym s.0)) (let l = (c.holds.shown m t.item t.at).row.long in omega (arith, fits, long, is_k, l))));
      shown = one_shown c.items w m c.objects t.item y q (with_cell i b) keep c.shown t.at r.at
          (cell_shown c.items w t.item q i b row t.shown long fits (λ news j same. row_moves c.items values.slots.items from w b has news j (λ d e l at. same d e l (ap (λ z. slice_get z d) is_row ∙ at))));
      kept = keep;
    }
  where
    by : (item : Item) → ShowsObject c.items values.width item q → (z : Option Value) → slice_get q.cells i ≡ z → i * values.width + values.width ≤ length item.slots
    by item s (Some v) at = value_within c.items item.slots (i * values.width) values.width v wide (s.cells i v at)
    by item s None at = absurd (none_within q.cells i r.within at)
      where
        none_within : {A : Type 0} (xs : List A) (j : ℕ) → j < length xs → slice_get xs j ≡ None → ⊥
        none_within [] j l e = omega (arith, l)
        none_within (y ∷ xs) zero l e = none-some y (sym e)
        none_within (y ∷ xs) (suc j) l e = none_within xs j (omega (arith, l)) e

pub nothing_set : (h : Heap) (values : Values) (x i from : ℕ) (a : Slot) → IsSlotAt values.slots.items (var_at values x) a → IsNoObject a → SetsCell x i from values h h
nothing_set h values x i from a front none c m q b r has =
    let ref = referred h values c x a front (record { number = m; object = q }) (record { var = r.var; at = r.at; live = r.live }) in
    absurd (none ref.object m ref.is)
