-- What the calls on blocks come to.
use Rattle.std.proofs.Common.{◌≡◌, ◌≢◌, ◌⊎◌, inl, inr, ℕ, ℤ, ◌+◌, ◌-◌, ◌*◌, ◌<◌, ◌≤◌, ◌==◌, ◌&&◌, ◌||◌, nat_le, nat_lt, not, max, Bool, true, false, if◌then◌else◌, List, [], ◌∷◌, ◌++◌, map, length, replicate, Option, Some, None, Ok, Err, refl, sym, ap, ◌∙◌, subst, arith, slice_get, slice_set, vec_capacity}
use Rattle.std.specs.Option.{option_map}
use Rattle.std.proofs.lemmas.Bool.{false≢true}
use Rattle.std.proofs.lemmas.Bool.Decides.{nat_tests}
use Rattle.std.proofs.lemmas.Option.{same_Some, slice_get_within}
use Rattle.std.proofs.lemmas.List.{length-set, length-map, map-append}
use Rattle.vlt_base.specs.Parents.{is_at_or_below}
use Rattle.vlt_rings.specs.Places.{IsSettled}
use Rattle.vlt_rings.specs.Things as rings
use Rattle.vlt_rings.specs.Things.{Thing, Things, IsAt, IsLiveAt, IsMadeAt, KeepMade, count_things, places_in, budget_of, made_in}
use Rattle.vlt_rings.proofs.Lists.{equal_or_not, get_same, get_other, get_kept, get_last}
use Rattle.vlt_rings.proofs.Calls.{item_at, kept_new, new_made_at, kept_set, kept_released}
use Rattle.vlt_rings.proofs.Fresh.{fresh_settled, fresh_holds}
use Rattle.c_meaning.specs.Blocks.{Block, live_block, with_changed_block, new_block, is_full, with_parent, with_out, with_number, with_reference}
use Rattle.c_meaning.specs.Blocks as model
use Rattle.c_memory.specs.declared.cells.Ref.{Ref}
use Rattle.c_memory.specs.declared.cells.Cell.{Cell}
use Rattle.c_memory.specs.declared.cells.Cell.TheVariants.{Unset, Number, Reference}
use Rattle.c_memory.specs.declared.cells.Shape.{Shape}
use Rattle.c_memory.specs.declared.blocks.Blocks.{Blocks}
use Rattle.c_memory.specs.Shown.{number_of, number_in, reference_in, numbers_at, references_at, block_by, shape_or, shape_at, block_in, blocks_of, IsMade, AreMade, Holds, IsSound, IsFresh, Come, Did, DidBack, IsNew, IsRead, IsParent, IsFoundAt, IsFoundIf, IsOutSet, is_root, is_here, is_out}
use Rattle.vlt_rings.proofs.Rows.{rows_apart, row_within, row_fits}
use Rattle.c_memory.proofs.Tables.{get_table, get_past, length_table, same_table, set_table, unset_table}
use Rattle.c_memory.proofs.Showing.{live_at, found_live, thing_changed, block_changed, places_apart, place_within, same_block, map_same, without_is, parents_shown, count_shown}

is_below : (i n : ℕ) → i < n → nat_lt i n ≡ true
is_below i n l = grind (arith, nat_tests)

is_past : (i n : ℕ) → n ≤ i → nat_lt i n ≡ false
is_past i n l = grind (arith, nat_tests)

is_le : (m n : ℕ) → m ≤ n → nat_le m n ≡ true
is_le m n l = grind (arith, nat_tests)

is_not_le : (m n : ℕ) → n < m → nat_le m n ≡ false
is_not_le m n l = grind (arith, nat_tests)

next_times : (n w : ℕ) → (n + 1) * w ≡ n * w + w
next_times n w = omega arith

-- ---- where cells are

pub shape_fits : (b : Blocks) (c : ℕ) → IsSound b → c < places_in b.places → (shape_at b.shapes.items c).numbers + (shape_at b.shapes.items c).references ≤ b.width
shape_fits b c sound within =
    let s = item_at b.shapes.items c (omega (arith, within, sound.shapes)) in
    subst (λ x. (shape_or x).numbers + (shape_or x).references ≤ b.width) (sym s.at) (sound.fit c s.item s.at)

pub cell_within : (b : Blocks) (c i : ℕ) → IsSound b → IsLiveAt b.places c → i < (shape_at b.shapes.items c).numbers + (shape_at b.shapes.items c).references → c * b.width + i < length b.cells.items
cell_within b c i sound live l =
    let within = slice_get_within b.places.places.items c live.what live.at in
    let fits = shape_fits b c sound within in
    let k = row_within c (places_in b.places) b.width i within (omega (arith, l, fits)) in
    omega (arith, k, sound.cells)

-- ---- reads

-- the rule for a cell that isn't there or is unset
pub number_past : (b : Blocks) (ts : Things) (p : Option Ref) (c i : ℕ) → IsFoundAt b ts p c → (shape_at b.shapes.items c).numbers ≤ i → model.read_number (blocks_of b ts) (number_of p) i ≡ Err 2
number_past b ts p c i f l =
    ap (λ x. model.number_in x i) (found_live b ts p c f) ∙ ap model.or_no_cell (get_past _ _ i (subst (λ d. (shape_at b.shapes.items d).numbers ≤ i) (sym f.place) l))

pub number_read : (b : Blocks) (ts : Things) (p : Option Ref) (c i : ℕ) → IsFoundAt b ts p c → i < (shape_at b.shapes.items c).numbers
    → model.read_number (blocks_of b ts) (number_of p) i ≡ model.or_no_cell (Some (number_in (slice_get b.cells.items (c * b.width + i))))
number_read b ts p c i f l =
    ap (λ x. model.number_in x i) (found_live b ts p c f) ∙ ap model.or_no_cell (get_table _ _ i (subst (λ d. i < (shape_at b.shapes.items d).numbers) (sym f.place) l) ∙ ap (λ d. Some (number_in (slice_get b.cells.items (d * b.width + i)))) f.place)

pub reference_past : (b : Blocks) (ts : Things) (p : Option Ref) (c i : ℕ) → IsFoundAt b ts p c → (shape_at b.shapes.items c).references ≤ i → model.read_reference (blocks_of b ts) (number_of p) i ≡ Err 2
reference_past b ts p c i f l =
    ap (λ x. model.reference_in x i) (found_live b ts p c f) ∙ ap model.or_no_cell (get_past _ _ i (subst (λ d. (shape_at b.shapes.items d).references ≤ i) (sym f.place) l))

pub reference_read : (b : Blocks) (ts : Things) (p : Option Ref) (c i : ℕ) → IsFoundAt b ts p c → i < (shape_at b.shapes.items c).references
    → model.read_reference (blocks_of b ts) (number_of p) i ≡ model.or_no_cell (Some (reference_in (slice_get b.cells.items (c * b.width + (shape_at b.shapes.items c).numbers + i))))
reference_read b ts p c i f l =
    ap (λ x. model.reference_in x i) (found_live b ts p c f)
    ∙ ap model.or_no_cell (get_table _ _ i (subst (λ d. i < (shape_at b.shapes.items d).references) (sym f.place) l) ∙ ap (λ d. Some (reference_in (slice_get b.cells.items (d * b.width + (shape_at b.shapes.items d).numbers + i)))) f.place)

pub number_found : (b : Blocks) (ts : Things) (p : Option Ref) (c i k : ℕ) (z : ℤ) → IsFoundAt b ts p c → i < (shape_at b.shapes.items c).numbers → k ≡ c * b.width + i → slice_get b.cells.items k ≡ Some (Number z)
    → Ok z ≡ model.read_number (blocks_of b ts) (number_of p) i
number_found b ts p c i k z f l is at = sym (number_read b ts p c i f l ∙ ap (λ x. model.or_no_cell (Some (number_in x))) (ap (slice_get b.cells.items) (sym is) ∙ at))

pub number_unset : (b : Blocks) (ts : Things) (p : Option Ref) (c i k : ℕ) (x : Cell) → IsFoundAt b ts p c → i < (shape_at b.shapes.items c).numbers → k ≡ c * b.width + i → slice_get b.cells.items k ≡ Some x → ((z : ℤ) → x ≡ Number z → ⊥)
    → Err 2 ≡ model.read_number (blocks_of b ts) (number_of p) i
number_unset b ts p c i k x f l is at not = sym (number_read b ts p c i f l ∙ ap (λ y. model.or_no_cell (Some (number_in y))) (ap (slice_get b.cells.items) (sym is) ∙ at) ∙ by x not)
  where
    by : (x : Cell) → ((z : ℤ) → x ≡ Number z → ⊥) → model.or_no_cell (Some (number_in (Some x))) ≡ Err 2
    by Unset h = refl
    by (Number z) h = absurd (h z refl)
    by (Reference r) h = refl

pub reference_found : (b : Blocks) (ts : Things) (p : Option Ref) (c i k : ℕ) (r : Option Ref) → Holds b ts → IsFoundAt b ts p c → i < (shape_at b.shapes.items c).references → k ≡ c * b.width + (shape_at b.shapes.items c).numbers + i
    → slice_get b.cells.items k ≡ Some (Reference r) → IsRead ts (Ok r) (model.read_reference (blocks_of b ts) (number_of p) i)
reference_found b ts p c i k r holds f l is at =
    subst (IsRead ts (Ok r)) (sym (reference_read b ts p c i f l ∙ ap (λ x. model.or_no_cell (Some (reference_in x))) (ap (slice_get b.cells.items) (sym is) ∙ at))) (refl, holds.made k r at)

pub reference_unset : (b : Blocks) (ts : Things) (p : Option Ref) (c i k : ℕ) (x : Cell) → IsFoundAt b ts p c → i < (shape_at b.shapes.items c).references → k ≡ c * b.width + (shape_at b.shapes.items c).numbers + i
    → slice_get b.cells.items k ≡ Some x → ((r : Option Ref) → x ≡ Reference r → ⊥) → IsRead ts (Err 2) (model.read_reference (blocks_of b ts) (number_of p) i)
reference_unset b ts p c i k x f l is at not =
    subst (IsRead ts (Err 2)) (sym (reference_read b ts p c i f l ∙ ap (λ y. model.or_no_cell (Some (reference_in y))) (ap (slice_get b.cells.items) (sym is) ∙ at) ∙ by x not)) refl
  where
    by : (x : Cell) → ((r : Option Ref) → x ≡ Reference r → ⊥) → model.or_no_cell (Some (reference_in (Some x))) ≡ Err 2
    by Unset h = refl
    by (Number z) h = refl
    by (Reference r) h = absurd (h r refl)

pub not_read : (b : Blocks) (ts : Things) (p : Option Ref) (c i : ℕ) → IsFoundAt b ts p c → (shape_at b.shapes.items c).references ≤ i → IsRead ts (Err 2) (model.read_reference (blocks_of b ts) (number_of p) i)
not_read b ts p c i f l = subst (IsRead ts (Err 2)) (sym (reference_past b ts p c i f l)) refl

pub parent_found : (b : Blocks) (ts : Things) (p : Option Ref) (c : ℕ) (q : Option (ℕ × ℕ)) → (f : IsFoundAt b ts p c) → rings.IsParentOf ts f.thing q → (r : Ref) → q ≡ Some (r.place, r.number) → IsParent ts (Ok r) (model.parent_of (blocks_of b ts) (number_of p))
parent_found b ts p c q f parent r is = subst (IsParent ts (Ok r)) (sym (ap (λ x. model.some_or_misused (model.parent_in x)) (found_live b ts p c f) ∙ ap model.some_or_misused now.number)) (refl, now.made)
  where
    now : rings.IsParentAt ts f.thing r.place r.number
    now = subst (rings.IsParentOf ts f.thing) is parent

pub no_parent_found : (b : Blocks) (ts : Things) (p : Option Ref) (c : ℕ) → (f : IsFoundAt b ts p c) → rings.IsParentOf ts f.thing None → IsParent ts (Err 8) (model.parent_of (blocks_of b ts) (number_of p))
no_parent_found b ts p c f none = subst (IsParent ts (Err 8)) (sym (ap (λ x. model.some_or_misused (model.parent_in x)) (found_live b ts p c f) ∙ ap model.some_or_misused none)) refl

-- ---- writes

-- a table of cells in which one is set
pub record OneSet (old new : Blocks) (k : ℕ) (x : Cell) : Type 0 where
  pub places : new.places ≡ old.places
  pub shapes : new.shapes.items ≡ old.shapes.items
  pub cells : new.cells.items ≡ slice_set old.cells.items k x
  pub width : new.width ≡ old.width
  pub within : k < length old.cells.items

block_as : (old new : Blocks) (t : Thing) → new.shapes.items ≡ old.shapes.items → new.width ≡ old.width → block_in new t ≡ block_by new.cells.items (t.place * old.width) (shape_at old.shapes.items t.place) t.parent
block_as old new t shapes width = ap (λ w. block_by new.cells.items (t.place * w) (shape_at new.shapes.items t.place) t.parent) width ∙ ap (λ l. block_by new.cells.items (t.place * old.width) (shape_at l t.place) t.parent) shapes

pub others_same : (old new : Blocks) (ts : Things) (n : ℕ) (t : Thing) (c i : ℕ) (x : Cell) → IsSound old → rings.Holds old.places ts → IsAt ts n t → t.place ≡ c → i < old.width → OneSet old new (c * old.width + i) x
    → (k : ℕ) (v : Thing) → IsAt ts k v → k ≢ n → block_in new v ≡ block_in old v
others_same old new ts n t c i x sound holds at place l set k v at_v other =
    block_as old new v set.shapes set.width
    ∙ same_block old.cells.items new.cells.items (v.place * old.width) (shape_at old.shapes.items v.place) v.parent (λ j m.
    let fits = shape_fits old v.place sound (place_within old.places ts holds k v at_v) in
    let apart = rows_apart v.place c old.width j i (λ e. places_apart old.places ts holds n k t v at at_v other (e ∙ sym place)) (omega (arith, m, fits)) l in
    ap (λ z. slice_get z (v.place * old.width + j)) set.cells ∙ get_other old.cells.items (c * old.width + i) (v.place * old.width + j) x apart)

still_made : (ts : Things) (old new : List Cell) (k : ℕ) (x : Cell) → new ≡ slice_set old k x → k < length old → ((r : Option Ref) → x ≡ Reference r → IsMade ts r) → AreMade ts old → AreMade ts new
still_made ts old new k x set within ok made m r at = by (equal_or_not m k)
  where
    by : (m ≡ k) ⊎ (m ≢ k) → IsMade ts r
    by (inl e) = ok r (same_Some x (Reference r) (sym (get_same old k x within) ∙ sym (ap (λ z. slice_get z k) set) ∙ ap (slice_get new) (sym e) ∙ at))
    by (inr d) = made m r (sym (get_other old k m x d) ∙ sym (ap (λ z. slice_get z m) set) ∙ at)

same_kept : (ts : Things) → KeepMade ts ts
same_kept ts c n made = made

pub set_come : (old new : Blocks) (ts : Things) (p : Option Ref) (c i : ℕ) (x : Cell) (change : Block → Block) → IsSound old → Holds old ts → (f : IsFoundAt old ts p c) → i < old.width → OneSet old new (c * old.width + i) x
    → ((r : Option Ref) → x ≡ Reference r → IsMade ts r) → block_in new f.thing ≡ change (block_in old f.thing) → Come ts new (with_changed_block f.number change (blocks_of old ts))
set_come old new ts p c i x change sound holds f l set ok is = record {
  things = ts;
  holds = record {
    holds = subst (λ h. rings.Holds h ts) (sym set.places) holds.holds;
    made = still_made ts old.cells.items new.cells.items (c * old.width + i) x set.cells set.within ok holds.made;
  };
  blocks = block_changed old new ts f.number f.thing change f.at is (others_same old new ts f.number f.thing c i x sound holds.holds f.at f.place l set);
  kept = same_kept ts;
}

number_set : (old new : Blocks) (t : Thing) (c i : ℕ) (z : ℤ) → t.place ≡ c → OneSet old new (c * old.width + i) (Number z) → i < (shape_at old.shapes.items c).numbers → block_in new t ≡ with_number i z (block_in old t)
number_set old new t c i z place set l =
    let s = shape_at old.shapes.items t.place in
    let here : i < s.numbers = subst (λ d. i < (shape_at old.shapes.items d).numbers) (sym place) l in
    let at : new.cells.items ≡ slice_set old.cells.items (t.place * old.width + i) (Number z) = set.cells ∙ ap (λ d. slice_set old.cells.items (d * old.width + i) (Number z)) (sym place) in
    let within : t.place * old.width + i < length old.cells.items = subst (λ d. d * old.width + i < length old.cells.items) (sym place) set.within in
    let numbers : numbers_at new.cells.items (t.place * old.width) s ≡ slice_set (numbers_at old.cells.items (t.place * old.width) s) i (Some z) =
    set_table s.numbers _ _ i (Some z) here
    (ap number_in (ap (λ y. slice_get y (t.place * old.width + i)) at ∙ get_same old.cells.items (t.place * old.width + i) (Number z) within))
    (λ j m d. ap number_in (ap (λ y. slice_get y (t.place * old.width + j)) at ∙ get_other old.cells.items (t.place * old.width + i) (t.place * old.width + j) (Number z) (λ e. d (omega (arith, e))))) in
    let references : references_at new.cells.items (t.place * old.width) s ≡ references_at old.cells.items (t.place * old.width) s =
    same_table s.references _ _ (λ j m. ap reference_in (ap (λ y. slice_get y (t.place * old.width + s.numbers + j)) at ∙ get_other old.cells.items (t.place * old.width + i) (t.place * old.width + s.numbers + j) (Number z) (λ e. absurd (omega (arith, e, here))))) in
    block_as old new t set.shapes set.width
    ∙ ap (λ y. record { parent = t.parent; is_out = s.is_out; numbers = y; references = references_at new.cells.items (t.place * old.width) s }) numbers
    ∙ ap (λ y. record { parent = t.parent; is_out = s.is_out; numbers = slice_set (numbers_at old.cells.items (t.place * old.width) s) i (Some z); references = y }) references

reference_set : (old new : Blocks) (t : Thing) (c i : ℕ) (r : Option Ref) → t.place ≡ c → OneSet old new (c * old.width + ((shape_at old.shapes.items c).numbers + i)) (Reference r) → i < (shape_at old.shapes.items c).references
    → block_in new t ≡ with_reference i (number_of r) (block_in old t)
reference_set old new t c i r place set l =
    let s = shape_at old.shapes.items t.place in
    let here : i < s.references = subst (λ d. i < (shape_at old.shapes.items d).references) (sym place) l in
    let k : ℕ = t.place * old.width + s.numbers + i in
    let same : c * old.width + ((shape_at old.shapes.items c).numbers + i) ≡ k = omega arith ∙ ap (λ d. d * old.width + (shape_at old.shapes.items d).numbers + i) (sym place) in
    let at : new.cells.items ≡ slice_set old.cells.items k (Reference r) = set.cells ∙ ap (λ d. slice_set old.cells.items d (Reference r)) same in
    let within : k < length old.cells.items = subst (λ d. d < length old.cells.items) same set.within in
    let numbers : numbers_at new.cells.items (t.place * old.width) s ≡ numbers_at old.cells.items (t.place * old.width) s =
    same_table s.numbers _ _ (λ j m. ap number_in (ap (λ y. slice_get y (t.place * old.width + j)) at ∙ get_other old.cells.items k (t.place * old.width + j) (Reference r) (λ e. absurd (omega (arith, e, m))))) in
    let references : references_at new.cells.items (t.place * old.width) s ≡ slice_set (references_at old.cells.items (t.place * old.width) s) i (Some (number_of r)) =
    set_table s.references _ _ i (Some (number_of r)) here
    (ap reference_in (ap (λ y. slice_get y k) at ∙ get_same old.cells.items k (Reference r) within))
    (λ j m d. ap reference_in (ap (λ y. slice_get y (t.place * old.width + s.numbers + j)) at ∙ get_other old.cells.items k (t.place * old.width + s.numbers + j) (Reference r) (λ e. d (omega (arith, e))))) in
    block_as old new t set.shapes set.width
    ∙ ap (λ y. record { parent = t.parent; is_out = s.is_out; numbers = y; references = references_at new.cells.items (t.place * old.width) s }) numbers
    ∙ ap (λ y. record { parent = t.parent; is_out = s.is_out; numbers = numbers_at old.cells.items (t.place * old.width) s; references = y }) references

within_of : (b : Blocks) (ts : Things) (p : Option Ref) (c : ℕ) → Holds b ts → IsFoundAt b ts p c → c < places_in b.places
within_of b ts p c holds f = subst (λ d. d < places_in b.places) f.place (place_within b.places ts holds.holds f.number f.thing f.at)

-- a write within the block
write_is : (b : Blocks) (ts : Things) (p : Option Ref) (c i : ℕ) (z : ℤ) (f : IsFoundAt b ts p c) → i < (shape_at b.shapes.items c).numbers
    → model.write_number (blocks_of b ts) (number_of p) i z ≡ Ok (with_changed_block f.number (with_number i z) (blocks_of b ts))
write_is b ts p c i z f l =
    let here : i < (shape_at b.shapes.items f.thing.place).numbers = subst (λ d. i < (shape_at b.shapes.items d).numbers) (sym f.place) l in
    ap (λ q. model.write_number (blocks_of b ts) q i z) f.is
    ∙ ap (λ x. model.if_there x (λ y. model.if_within (nat_lt i (length y.numbers)) (with_changed_block f.number (with_number i z) (blocks_of b ts)))) (live_at b ts f.number f.thing f.at)
    ∙ ap (λ t. model.if_within t (with_changed_block f.number (with_number i z) (blocks_of b ts))) (ap (nat_lt i) (length_table (shape_at b.shapes.items f.thing.place).numbers _) ∙ is_below i _ here)

pub number_written : (old new : Blocks) (ts : Things) (p : Option Ref) (c i : ℕ) (z : ℤ) → IsSound old → Holds old ts → IsFoundAt old ts p c → i < (shape_at old.shapes.items c).numbers → OneSet old new (c * old.width + i) (Number z)
    → Did ts (Ok tt) (model.write_number (blocks_of old ts) (number_of p) i z) new
number_written old new ts p c i z sound holds f l set =
    let fits = shape_fits old c sound (within_of old ts p c holds f) in
    subst (λ x. Did ts (Ok tt) x new) (sym (write_is old ts p c i z f l))
    (set_come old new ts p c i (Number z) (with_number i z) sound holds f (omega (arith, l, fits)) set (λ r e. absurd (not_reference e)) (number_set old new f.thing c i z f.place set l))
  where
    is_reference : Cell → Bool
    is_reference Unset = false
    is_reference (Number y) = false
    is_reference (Reference y) = true

    not_reference : {r : Option Ref} → Number z ≡ Reference r → ⊥
    not_reference e = false≢true (ap is_reference e)

pub number_not_written : (b : Blocks) (ts : Things) (p : Option Ref) (c i : ℕ) (z : ℤ) → IsFoundAt b ts p c → (shape_at b.shapes.items c).numbers ≤ i → model.write_number (blocks_of b ts) (number_of p) i z ≡ Err 2
number_not_written b ts p c i z f l =
    let here : (shape_at b.shapes.items f.thing.place).numbers ≤ i = subst (λ d. (shape_at b.shapes.items d).numbers ≤ i) (sym f.place) l in
    ap (λ q. model.write_number (blocks_of b ts) q i z) f.is
    ∙ ap (λ x. model.if_there x (λ y. model.if_within (nat_lt i (length y.numbers)) (with_changed_block f.number (with_number i z) (blocks_of b ts)))) (live_at b ts f.number f.thing f.at)
    ∙ ap (λ t. model.if_within t (with_changed_block f.number (with_number i z) (blocks_of b ts))) (ap (nat_lt i) (length_table (shape_at b.shapes.items f.thing.place).numbers _) ∙ is_past i _ here)

reference_write_is : (b : Blocks) (ts : Things) (p : Option Ref) (c i : ℕ) (z : Option ℕ) (f : IsFoundAt b ts p c) → i < (shape_at b.shapes.items c).references
    → model.write_reference (blocks_of b ts) (number_of p) i z ≡ Ok (with_changed_block f.number (with_reference i z) (blocks_of b ts))
reference_write_is b ts p c i z f l =
    let here : i < (shape_at b.shapes.items f.thing.place).references = subst (λ d. i < (shape_at b.shapes.items d).references) (sym f.place) l in
    ap (λ q. model.write_reference (blocks_of b ts) q i z) f.is
    ∙ ap (λ x. model.if_there x (λ y. model.if_within (nat_lt i (length y.references)) (with_changed_block f.number (with_reference i z) (blocks_of b ts)))) (live_at b ts f.number f.thing f.at)
    ∙ ap (λ t. model.if_within t (with_changed_block f.number (with_reference i z) (blocks_of b ts))) (ap (nat_lt i) (length_table (shape_at b.shapes.items f.thing.place).references _) ∙ is_below i _ here)

pub reference_written : (old new : Blocks) (ts : Things) (p : Option Ref) (c i : ℕ) (r : Option Ref) → IsSound old → Holds old ts → IsMade ts r → IsFoundAt old ts p c → i < (shape_at old.shapes.items c).references
    → OneSet old new (c * old.width + ((shape_at old.shapes.items c).numbers + i)) (Reference r) → Did ts (Ok tt) (model.write_reference (blocks_of old ts) (number_of p) i (number_of r)) new
reference_written old new ts p c i r sound holds made f l set =
    let fits = shape_fits old c sound (within_of old ts p c holds f) in
    subst (λ x. Did ts (Ok tt) x new) (sym (reference_write_is old ts p c i (number_of r) f l))
    (set_come old new ts p c ((shape_at old.shapes.items c).numbers + i) (Reference r) (with_reference i (number_of r)) sound holds f (omega (arith, l, fits)) set (λ q e. subst (IsMade ts) (same e) made) (reference_set old new f.thing c i r f.place set l))
  where
    in_cell : Cell → Option Ref
    in_cell Unset = None
    in_cell (Number y) = None
    in_cell (Reference y) = y

    same : {q : Option Ref} → Reference r ≡ Reference q → r ≡ q
    same e = ap in_cell e

pub reference_not_written : (b : Blocks) (ts : Things) (p : Option Ref) (c i : ℕ) (z : Option ℕ) → IsFoundAt b ts p c → (shape_at b.shapes.items c).references ≤ i → model.write_reference (blocks_of b ts) (number_of p) i z ≡ Err 2
reference_not_written b ts p c i z f l =
    let here : (shape_at b.shapes.items f.thing.place).references ≤ i = subst (λ d. (shape_at b.shapes.items d).references ≤ i) (sym f.place) l in
    ap (λ q. model.write_reference (blocks_of b ts) q i z) f.is
    ∙ ap (λ x. model.if_there x (λ y. model.if_within (nat_lt i (length y.references)) (with_changed_block f.number (with_reference i z) (blocks_of b ts)))) (live_at b ts f.number f.thing f.at)
    ∙ ap (λ t. model.if_within t (with_changed_block f.number (with_reference i z) (blocks_of b ts))) (ap (nat_lt i) (length_table (shape_at b.shapes.items f.thing.place).references _) ∙ is_past i _ here)

-- ---- primitives

found_in : (b : Blocks) (ts : Things) (p : Option Ref) (c : ℕ) (f : IsFoundAt b ts p c) (test : Block → Bool) → model.passes test (model.block_at (blocks_of b ts) (number_of p)) ≡ test (block_in b f.thing)
found_in b ts p c f test = ap (model.passes test) (found_live b ts p c f)

-- a block that is found passes the test or not
pub found_if : (b : Blocks) (ts : Things) (p : Option Ref) (c : ℕ) (f : IsFoundAt b ts p c) (test : Block → Bool) (t : Bool) → test (block_in b f.thing) ≡ t
    → model.passes test (model.block_at (blocks_of b ts) (number_of p)) ≡ t
found_if b ts p c f test t is = found_in b ts p c f test ∙ is

pub none_if : (b : Blocks) (ts : Things) (p : Option Ref) (test : Block → Bool) → model.block_at (blocks_of b ts) (number_of p) ≡ None → model.passes test (model.block_at (blocks_of b ts) (number_of p)) ≡ false
none_if b ts p test is = ap (model.passes test) is

-- places alone changed
pub record SameTables (old new : Blocks) : Type 0 where
  pub shapes : new.shapes ≡ old.shapes
  pub cells : new.cells ≡ old.cells
  pub width : new.width ≡ old.width

same_tables_block : (old new : Blocks) → SameTables old new → (t : Thing) → block_in new t ≡ block_in old t
same_tables_block old new same t =
    ap (λ l. block_by l.items (t.place * new.width) (shape_at new.shapes.items t.place) t.parent) same.cells
    ∙ ap (λ l. block_by old.cells.items (t.place * l) (shape_at new.shapes.items t.place) t.parent) same.width
    ∙ ap (λ l. block_by old.cells.items (t.place * old.width) (shape_at l.items t.place) t.parent) same.shapes

-- what was made stays so, where more is known
pub cells_made : (ts things : Things) (cells : List Cell) → KeepMade ts things → AreMade ts cells → AreMade things cells
cells_made ts things cells kept made k None at = tt
cells_made ts things cells kept made k (Some r) at = kept r.place r.number (made k (Some r) at)

-- the thing n gets a parent or loses it
pub parent_come : (old new : Blocks) (ts : Things) (p : Option Ref) (c : ℕ) (f : IsFoundAt old ts p c) (parent : Option ℕ) → SameTables old new → Holds old ts
    → rings.Holds new.places (slice_set ts f.number (Some (record f.thing { parent = parent }))) → Come ts new (with_changed_block f.number (with_parent parent) (blocks_of old ts))
parent_come old new ts p c f parent same holds now = record {
  things = slice_set ts f.number (Some (record f.thing { parent = parent }));
  holds = record {
    holds = now;
    made = subst (λ l. AreMade (slice_set ts f.number (Some (record f.thing { parent = parent }))) l.items) (sym same.cells)
        (cells_made ts _ old.cells.items (kept_set ts f.number f.thing (record f.thing { parent = parent }) f.at refl) holds.made);
  };
  blocks = thing_changed old new ts f.number f.thing (record f.thing { parent = parent }) (with_parent parent) f.at (same_tables_block old new same (record f.thing { parent = parent })) (λ k v at other. same_tables_block old new same v);
  kept = kept_set ts f.number f.thing (record f.thing { parent = parent }) f.at refl;
}

live_found : (b : Blocks) (ts : Things) (p : Option Ref) (c : ℕ) (f : IsFoundAt b ts p c) (test : Block → Bool) → model.passes test (live_block (blocks_of b ts) f.number) ≡ model.passes test (model.block_at (blocks_of b ts) (number_of p))
live_found b ts p c f test = ap (λ q. model.passes test (model.block_at (blocks_of b ts) q)) (sym f.is)

pub disowned_is : (old new : Blocks) (ts : Things) (p : Option Ref) (c : ℕ) → IsFoundAt old ts p c → SameTables old new → Holds old ts
    → ((n : ℕ) (t : Thing) → IsAt ts n t → t.place ≡ c → rings.Holds new.places (slice_set ts n (Some (record t { parent = None })))) → Did ts (Ok tt) (model.blocks_after_disown (blocks_of old ts) (number_of p)) new
disowned_is old new ts p c f same holds now =
    subst (λ x. Did ts (Ok tt) x new)
    (sym (ap (model.blocks_after_disown (blocks_of old ts)) f.is ∙ ap (λ x. model.or_misused (model.is_there x) (with_changed_block f.number (with_parent None) (blocks_of old ts))) (live_at old ts f.number f.thing f.at)))
    (parent_come old new ts p c f None same holds (now f.number f.thing f.at f.place))

pub misused_disown : (b : Blocks) (ts : Things) (p : Option Ref) (n : ℕ) → number_of p ≡ Some n → model.block_at (blocks_of b ts) (number_of p) ≡ None → model.blocks_after_disown (blocks_of b ts) (number_of p) ≡ Err 8
misused_disown b ts p n is none =
    ap (model.blocks_after_disown (blocks_of b ts)) is ∙ ap (λ x. model.or_misused (model.is_there x) (with_changed_block n (with_parent None) (blocks_of b ts))) (sym (ap (model.block_at (blocks_of b ts)) is) ∙ none)

-- the same place has one number
same_number : (b : Blocks) (ts : Things) (p q : Option Ref) (c d : ℕ) → Holds b ts → (f : IsFoundAt b ts p c) (g : IsFoundAt b ts q d) → c ≢ d → (f.number == g.number) ≡ false
same_number b ts p q c d holds f g apart = by (f.number == g.number) refl
  where
    by : (t : Bool) → (f.number == g.number) ≡ t → t ≡ false
    by false e = refl
    by true e =
        let same : f.number ≡ g.number = grind (arith, nat_tests) in
        let thing : f.thing ≡ g.thing = same_Some f.thing g.thing (same_Some (Some f.thing) (Some g.thing) (sym f.at ∙ ap (slice_get ts) same ∙ g.at)) in
        absurd (apart (sym f.place ∙ ap (λ t. t.place) thing ∙ g.place))

one_number : (b : Blocks) (ts : Things) (p q : Option Ref) (c d : ℕ) → Holds b ts → (f : IsFoundAt b ts p c) (g : IsFoundAt b ts q d) → c ≡ d → (f.number == g.number) ≡ true
one_number b ts p q c d holds f g same = by (equal_or_not f.number g.number)
  where
    by : (f.number ≡ g.number) ⊎ (f.number ≢ g.number) → (f.number == g.number) ≡ true
    by (inl e) = grind (arith, nat_tests)
    by (inr n) = absurd (places_apart b.places ts holds.holds g.number f.number g.thing f.thing g.at f.at n (f.place ∙ same ∙ sym g.place))

own_test : (b : Blocks) (ts : Things) (p q : Option Ref) (n m : ℕ) → number_of p ≡ Some n → number_of q ≡ Some m → (x y z : Bool) → model.passes model.is_free (model.block_at (blocks_of b ts) (number_of p)) ≡ x
    → (n == m) ≡ y → model.passes is_root (model.block_at (blocks_of b ts) (number_of q)) ≡ z
    → model.blocks_after_own (blocks_of b ts) (number_of p) (number_of q) ≡ model.or_misused (x && (not y && z)) (with_changed_block n (with_parent (Some m)) (blocks_of b ts))
own_test b ts p q n m is_p is_q x y z free same root =
    ap (λ k. model.blocks_after_own (blocks_of b ts) k (number_of q)) is_p ∙ ap (model.blocks_after_own (blocks_of b ts) (Some n)) is_q
    ∙ ap (λ t. model.or_misused (t && (not (n == m) && model.passes is_root (live_block (blocks_of b ts) m))) (with_changed_block n (with_parent (Some m)) (blocks_of b ts)))
    (ap (λ k. model.passes model.is_free (model.block_at (blocks_of b ts) k)) (sym is_p) ∙ free)
    ∙ ap (λ t. model.or_misused (x && (not t && model.passes is_root (live_block (blocks_of b ts) m))) (with_changed_block n (with_parent (Some m)) (blocks_of b ts))) same
    ∙ ap (λ t. model.or_misused (x && (not y && t)) (with_changed_block n (with_parent (Some m)) (blocks_of b ts)))
    (ap (λ k. model.passes is_root (model.block_at (blocks_of b ts) k)) (sym is_q) ∙ root)

pub owned_is : (old new : Blocks) (ts : Things) (p q : Option Ref) (c d : ℕ) → IsFoundIf model.is_free old ts p (Some c) → IsFoundIf is_root old ts q (Some d) → c ≢ d → SameTables old new → Holds old ts
    → ((n m : ℕ) (t u : Thing) → IsAt ts n t → t.place ≡ c → IsAt ts m u → u.place ≡ d → rings.Holds new.places (slice_set ts n (Some (record t { parent = Some m }))))
    → Did ts (Ok tt) (model.blocks_after_own (blocks_of old ts) (number_of p) (number_of q)) new
owned_is old new ts p q c d f g apart same holds now =
    subst (λ x. Did ts (Ok tt) x new) (sym (own_test old ts p q f.0.number g.0.number f.0.is g.0.is true false true f.1 (same_number old ts p q c d holds f.0 g.0 apart) g.1))
    (parent_come old new ts p c f.0 (Some g.0.number) same holds (now f.0.number g.0.number f.0.thing g.0.thing f.0.at f.0.place g.0.at g.0.place))

-- the child can't be owned
pub misused_child : (b : Blocks) (ts : Things) (p q : Option Ref) (n : ℕ) → number_of p ≡ Some n → model.passes model.is_free (model.block_at (blocks_of b ts) (number_of p)) ≡ false → model.blocks_after_own (blocks_of b ts) (number_of p) (number_of q) ≡ Err 8
misused_child b ts p q n is free = by (number_of q) refl
  where
    by : (m : Option ℕ) → number_of q ≡ m → model.blocks_after_own (blocks_of b ts) (number_of p) (number_of q) ≡ Err 8
    by None e = ap (λ k. model.blocks_after_own (blocks_of b ts) k (number_of q)) is ∙ ap (model.blocks_after_own (blocks_of b ts) (Some n)) e
    by (Some m) e = own_test b ts p q n m is e false (n == m) _ free refl refl

pub misused_parent : (b : Blocks) (ts : Things) (p q : Option Ref) (n : ℕ) → number_of p ≡ Some n → model.passes is_root (model.block_at (blocks_of b ts) (number_of q)) ≡ false → model.blocks_after_own (blocks_of b ts) (number_of p) (number_of q) ≡ Err 8
misused_parent b ts p q n is root = by (number_of q) refl
  where
    never : (x y : Bool) → (x && (y && false)) ≡ false
    never true true = refl
    never true false = refl
    never false y = refl

    by : (m : Option ℕ) → number_of q ≡ m → model.blocks_after_own (blocks_of b ts) (number_of p) (number_of q) ≡ Err 8
    by None e = ap (λ k. model.blocks_after_own (blocks_of b ts) k (number_of q)) is ∙ ap (model.blocks_after_own (blocks_of b ts) (Some n)) e
    by (Some m) e = own_test b ts p q n m is e _ (n == m) false refl refl root ∙ ap (λ t. model.or_misused t (with_changed_block n (with_parent (Some m)) (blocks_of b ts))) (never _ (not (n == m)))

pub misused_self : (b : Blocks) (ts : Things) (p q : Option Ref) (c d : ℕ) → Holds b ts → IsFoundAt b ts p c → IsFoundAt b ts q d → c ≡ d → model.blocks_after_own (blocks_of b ts) (number_of p) (number_of q) ≡ Err 8
misused_self b ts p q c d holds f g same =
    own_test b ts p q f.number g.number f.is g.is _ true _ refl (one_number b ts p q c d holds f g same) refl ∙ ap (λ t. model.or_misused t (with_changed_block f.number (with_parent (Some g.number)) (blocks_of b ts))) (never _)
  where
    never : (x : Bool) → (x && false) ≡ false
    never true = refl
    never false = refl

-- ---- a release

pub released_is : (old new : Blocks) (ts : Things) (p : Option Ref) (c : ℕ) → IsFoundIf is_here old ts p (Some c) → SameTables old new → Holds old ts
    → ((n : ℕ) (t : Thing) → IsAt ts n t → t.place ≡ c → rings.AreReleased ts n new.places) → Did ts (Ok tt) (model.blocks_after_release (blocks_of old ts) (number_of p)) new
released_is old new ts p c f same holds now =
    subst (λ x. Did ts (Ok tt) x new)
    (sym (ap (model.blocks_after_release (blocks_of old ts)) f.0.is ∙ ap (λ t. model.or_misused t (model.without f.0.number (blocks_of old ts))) (live_found old ts p c f.0 is_here ∙ f.1)))
    (record {
      things = r.things;
      holds = record { holds = r.holds; made = subst (λ l. AreMade r.things l.items) (sym same.cells) (cells_made ts r.things old.cells.items (kept_released ts f.0.number new.places r) holds.made) };
      blocks = map_tables r.things ∙ without_is (block_in old) (is_at_or_below (model.parents_of (blocks_of old ts)) (f.0.number ∷ [])) 0 ts r.things r.long each;
      kept = kept_released ts f.0.number new.places r;
    })
  where
    r : rings.AreReleased ts f.0.number new.places
    r = now f.0.number f.0.thing f.0.at f.0.place

    map_tables : (things : Things) → blocks_of new things ≡ blocks_of old things
    map_tables [] = refl
    map_tables (None ∷ things) = ap (λ l. None ∷ l) (map_tables things)
    map_tables (Some t ∷ things) = ap (λ x. Some x ∷ blocks_of new things) (same_tables_block old new same t) ∙ ap (λ l. Some (block_in old t) ∷ l) (map_tables things)

    each : (k : ℕ) (x : Option Thing) → slice_get ts k ≡ Some x → slice_get r.things k ≡ Some (if is_at_or_below (model.parents_of (blocks_of old ts)) (f.0.number ∷ []) (0 + k) then None else x)
    each k x at = r.each k x at ∙ ap (λ i. Some (if is_at_or_below (rings.parents_of ts) (f.0.number ∷ []) i then None else x)) (omega arith)
        ∙ ap (λ l. Some (if is_at_or_below l (f.0.number ∷ []) (0 + k) then None else x)) (sym (parents_shown old ts))

pub misused_release : (b : Blocks) (ts : Things) (p : Option Ref) (n : ℕ) → number_of p ≡ Some n → model.passes is_here (model.block_at (blocks_of b ts) (number_of p)) ≡ false → model.blocks_after_release (blocks_of b ts) (number_of p) ≡ Err 8
misused_release b ts p n is here =
    ap (model.blocks_after_release (blocks_of b ts)) is ∙ ap (λ t. model.or_misused t (model.without n (blocks_of b ts))) (sym (ap (λ q. model.passes is_here (model.block_at (blocks_of b ts) q)) is) ∙ here)

-- ---- out and back

out_come : (old new : Blocks) (ts : Things) (p : Option Ref) (c : ℕ) (mark : Bool) (f : IsFoundAt old ts p c) → IsSound old → Holds old ts → IsOutSet c mark old new → Come ts new (with_changed_block f.number (with_out mark) (blocks_of old ts))
out_come old new ts p c mark f sound holds set = record {
  things = ts;
  holds = record { holds = subst (λ h. rings.Holds h ts) (sym set.others.0) holds.holds; made = subst (λ l. AreMade ts l.items) (sym set.others.1) holds.made };
  blocks = block_changed old new ts f.number f.thing (with_out mark) f.at here others;
  kept = same_kept ts;
}
  where
    tables : (t : Thing) → block_in new t ≡ block_by old.cells.items (t.place * old.width) (shape_at new.shapes.items t.place) t.parent
    tables t = ap (λ l. block_by l.items (t.place * new.width) (shape_at new.shapes.items t.place) t.parent) set.others.1 ∙ ap (λ w. block_by old.cells.items (t.place * w) (shape_at new.shapes.items t.place) t.parent) set.others.2

    within : c < length old.shapes.items
    within = let w = within_of old ts p c holds f in omega (arith, w, sound.shapes)

    set_here : shape_at new.shapes.items c ≡ record (shape_at old.shapes.items c) { is_out = mark }
    set_here = ap (λ l. shape_at l c) set.shapes ∙ ap shape_or (get_same old.shapes.items c (record (shape_at old.shapes.items c) { is_out = mark }) within)

    here : block_in new f.thing ≡ with_out mark (block_in old f.thing)
    here = tables f.thing ∙ ap (λ s. block_by old.cells.items (f.thing.place * old.width) s f.thing.parent)
        (ap (shape_at new.shapes.items) f.place ∙ set_here ∙ ap (λ d. record (shape_at old.shapes.items d) { is_out = mark }) (sym f.place))

    others : (k : ℕ) (v : Thing) → IsAt ts k v → k ≢ f.number → block_in new v ≡ block_in old v
    others k v at other = tables v ∙ ap (λ s. block_by old.cells.items (v.place * old.width) s v.parent)
        (ap (λ l. shape_at l v.place) set.shapes ∙ ap shape_or (get_other old.shapes.items c v.place (record (shape_at old.shapes.items c) { is_out = mark }) (λ e. places_apart old.places ts holds.holds f.number k f.thing v f.at at other (e ∙ sym f.place))))

pub out_is : (old new : Blocks) (ts : Things) (p : Option Ref) (c : ℕ) → IsFoundIf model.is_free old ts p (Some c) → IsSound old → Holds old ts → IsOutSet c true old new → Did ts (Ok tt) (model.gone_out (blocks_of old ts) (number_of p)) new
out_is old new ts p c f sound holds set =
    subst (λ x. Did ts (Ok tt) x new)
    (sym (ap (model.gone_out (blocks_of old ts)) f.0.is ∙ ap (λ t. model.or_misused t (with_changed_block f.0.number (with_out true) (blocks_of old ts))) (live_found old ts p c f.0 model.is_free ∙ f.1)))
    (out_come old new ts p c true f.0 sound holds set)

pub misused_out : (b : Blocks) (ts : Things) (p : Option Ref) → model.passes model.is_free (model.block_at (blocks_of b ts) (number_of p)) ≡ false → model.gone_out (blocks_of b ts) (number_of p) ≡ Err 8
misused_out b ts p free = by (number_of p) refl
  where
    by : (n : Option ℕ) → number_of p ≡ n → model.gone_out (blocks_of b ts) (number_of p) ≡ Err 8
    by None e = ap (model.gone_out (blocks_of b ts)) e
    by (Some n) e = ap (model.gone_out (blocks_of b ts)) e ∙ ap (λ t. model.or_misused t (with_changed_block n (with_out true) (blocks_of b ts))) (sym (ap (λ q. model.passes model.is_free (model.block_at (blocks_of b ts) q)) e) ∙ free)

pub back_is : (old new : Blocks) (ts : Things) (p : Option Ref) (c : ℕ) → IsFoundIf is_out old ts p (Some c) → IsSound old → Holds old ts → IsOutSet c false old new → DidBack ts (Ok true) (model.come_back (blocks_of old ts) (number_of p)) old new
back_is old new ts p c f sound holds set =
    subst (λ x. DidBack ts (Ok true) x old new)
    (sym (ap (model.come_back (blocks_of old ts)) f.0.is ∙ ap (λ t. Ok (if t then Some (with_changed_block f.0.number (with_out false) (blocks_of old ts)) else None)) (live_found old ts p c f.0 is_out ∙ f.1)))
    (out_come old new ts p c false f.0 sound holds set)

pub not_out : (b : Blocks) (ts : Things) (p : Option Ref) (n : ℕ) → number_of p ≡ Some n → model.passes is_out (model.block_at (blocks_of b ts) (number_of p)) ≡ false → model.come_back (blocks_of b ts) (number_of p) ≡ Ok None
not_out b ts p n is out =
    ap (model.come_back (blocks_of b ts)) is ∙ ap (λ t. Ok (if t then Some (with_changed_block n (with_out false) (blocks_of b ts)) else None)) (sym (ap (λ q. model.passes is_out (model.block_at (blocks_of b ts) q)) is) ∙ out)

pub sound_out : (old new : Blocks) (c : ℕ) (mark : Bool) → IsSound old → IsLiveAt old.places c → IsOutSet c mark old new → IsSound new
sound_out old new c mark sound live set = record {
  settled = subst (λ h. IsSettled h) (sym set.others.0) sound.settled;
  shapes = ap length set.shapes ∙ length-set old.shapes.items c _ ∙ sound.shapes ∙ ap places_in (sym set.others.0);
  cells = ap (λ l. length l.items) set.others.1 ∙ sound.cells ∙ ap (λ w. places_in old.places * w) (sym set.others.2) ∙ ap (λ h. places_in h * new.width) (sym set.others.0);
  shapes_room = rw (set.others.0, set.room) (sound.shapes_room);
  cells_room = rw (set.others.0, set.others.1, set.others.2) (sound.cells_room);
  fit = λ d s at. rw (set.others.2) (by d s (ap (λ l. slice_get l d) (sym set.shapes) ∙ at) (equal_or_not d c));
}
  where
    within : c < length old.shapes.items
    within = let w = slice_get_within old.places.places.items c live.what live.at in omega (arith, w, sound.shapes)

    by : (d : ℕ) (s : Shape) → slice_get (slice_set old.shapes.items c (record (shape_at old.shapes.items c) { is_out = mark })) d ≡ Some s → (d ≡ c) ⊎ (d ≢ c) → s.numbers + s.references ≤ old.width
    by d s at (inl e) =
        let same : record (shape_at old.shapes.items c) { is_out = mark } ≡ s = same_Some _ s (sym (get_same old.shapes.items c _ within) ∙ ap (slice_get (slice_set old.shapes.items c (record (shape_at old.shapes.items c) { is_out = mark }))) (sym e) ∙ at) in
        subst (λ z. z.numbers + z.references ≤ old.width) same (shape_fits old c sound (omega (arith, within, sound.shapes)))
    by d s at (inr n) = sound.fit d s (sym (get_other old.shapes.items c d _ n) ∙ at)

-- ---- a new block

-- the tables after a new block of a and b cells in the place c
pub record NewTables (old new : Blocks) (c a b : ℕ) : Type 0 where
  pub place : c ≤ places_in old.places
  pub places : places_in new.places ≡ max (places_in old.places) (c + 1)
  pub here : slice_get new.shapes.items c ≡ Some (record { numbers = a; references = b; is_out = false })
  pub shapes : (d : ℕ) → d ≢ c → slice_get new.shapes.items d ≡ slice_get old.shapes.items d
  pub shapes_long : length new.shapes.items ≡ max (length old.shapes.items) (c + 1)
  pub inside : (k : ℕ) → c * old.width ≤ k → k < c * old.width + (a + b) → slice_get new.cells.items k ≡ Some Unset
  pub outside : (k : ℕ) → (k < c * old.width) ⊎ (c * old.width + (a + b) ≤ k) → k < length old.cells.items → slice_get new.cells.items k ≡ slice_get old.cells.items k
  pub unset : (k : ℕ) → (k < c * old.width) ⊎ (c * old.width + (a + b) ≤ k) → length old.cells.items ≤ k → k < length new.cells.items → slice_get new.cells.items k ≡ Some Unset
  pub cells_long : length new.cells.items ≡ max (length old.cells.items) (c * old.width + old.width)
  pub width : new.width ≡ old.width
  pub fit : a + b ≤ old.width

module _ (old new : Blocks) (c a b : ℕ) (sound : IsSound old) (tables : NewTables old new c a b) where
  pub sound_new : IsSettled new.places → budget_of new.places ≡ budget_of old.places → vec_capacity old.shapes ≤ vec_capacity new.shapes → vec_capacity old.cells ≤ vec_capacity new.cells → IsSound new
  sound_new settled budget shapes_room cells_room = record {
    settled = settled;
    shapes = let l = tables.shapes_long in let p = tables.places in omega (arith, l, p, sound.shapes);
    cells = tables.cells_long ∙ ap (λ n. max n (c * old.width + old.width)) sound.cells ∙ most (places_in old.places) c old.width tables.place ∙ ap (λ n. n * old.width) (sym tables.places) ∙ ap (λ w. places_in new.places * w) (sym tables.width);
    shapes_room = omega (arith, budget, shapes_room, sound.shapes_room);
    cells_room = rw (budget, tables.width) (omega (arith, cells_room, sound.cells_room));
    fit = λ d s at. rw (tables.width) (by d s at (equal_or_not d c));
  }
    where
      most : (n c w : ℕ) → c ≤ n → max (n * w) (c * w + w) ≡ max n (c + 1) * w
      most n c w l = cases (equal_or_not c n)
        where
          cases : (c ≡ n) ⊎ (c ≢ n) → max (n * w) (c * w + w) ≡ max n (c + 1) * w
          cases (inl e) = rw e (one n w)
            where
              one : (n w : ℕ) → max (n * w) (n * w + w) ≡ max n (n + 1) * w
              one n w =
                  let m : max n (n + 1) ≡ n + 1 = omega arith in
                  let k : (n + 1) * w ≡ n * w + w = next_times n w in
                  rw m (omega (arith, k))
          cases (inr d) =
              let m : max n (c + 1) ≡ n = omega (arith, l, d) in
              let k = row_fits c n w w (omega (arith, l, d)) (omega arith) in
              rw m (omega (arith, k))

      by : (d : ℕ) (s : Shape) → slice_get new.shapes.items d ≡ Some s → (d ≡ c) ⊎ (d ≢ c) → s.numbers + s.references ≤ old.width
      by d s at (inl e) = subst (λ z. z.numbers + z.references ≤ old.width) (same_Some _ s (sym tables.here ∙ ap (slice_get new.shapes.items) (sym e) ∙ at)) tables.fit
      by d s at (inr n) = sound.fit d s (sym (tables.shapes d n) ∙ at)

  new_block_shown : (t : Thing) → t.place ≡ c → t.parent ≡ None → block_in new t ≡ new_block a b
  new_block_shown t place lone =
      ap (λ w. block_by new.cells.items (t.place * w) (shape_at new.shapes.items t.place) t.parent) tables.width
      ∙ ap (λ d. block_by new.cells.items (d * old.width) (shape_at new.shapes.items d) t.parent) place
      ∙ ap (λ s. block_by new.cells.items (c * old.width) s t.parent) (ap shape_or tables.here)
      ∙ ap (λ p. block_by new.cells.items (c * old.width) (record { numbers = a; references = b; is_out = false }) p) lone
      ∙ ap (λ l. record { parent = None; is_out = false; numbers = l; references = references_at new.cells.items (c * old.width) (record { numbers = a; references = b; is_out = false }) })
      (unset_table a _ (λ i l. ap number_in (tables.inside (c * old.width + i) (omega arith) (omega (arith, l)))))
      ∙ ap (λ l. record { parent = None; is_out = false; numbers = replicate a None; references = l })
      (unset_table b _ (λ i l. ap reference_in (tables.inside (c * old.width + a + i) (omega arith) (omega (arith, l)))))

  old_block_shown : (v : Thing) → v.place < places_in old.places → v.place ≢ c → block_in new v ≡ block_in old v
  old_block_shown v within other =
      ap (λ w. block_by new.cells.items (v.place * w) (shape_at new.shapes.items v.place) v.parent) tables.width
      ∙ ap (λ s. block_by new.cells.items (v.place * old.width) s v.parent) (ap shape_or (tables.shapes v.place other))
      ∙ same_block old.cells.items new.cells.items (v.place * old.width) (shape_at old.shapes.items v.place) v.parent (λ j l.
      let fits = shape_fits old v.place sound within in
      let m : j < old.width = omega (arith, l, fits) in
      tables.outside (v.place * old.width + j) (outside (v.place * old.width + j) (λ i n e. rows_apart v.place c old.width j i other m (let f = tables.fit in omega (arith, n, f)) e))
      (let k = row_within v.place (places_in old.places) old.width j within m in omega (arith, k, sound.cells)))
    where
      outside : (k : ℕ) → ((i : ℕ) → i < a + b → k ≢ c * old.width + i) → (k < c * old.width) ⊎ (c * old.width + (a + b) ≤ k)
      outside k h = by (nat_lt k (c * old.width)) refl (nat_lt k (c * old.width + (a + b))) refl
        where
          by : (x : Bool) → nat_lt k (c * old.width) ≡ x → (y : Bool) → nat_lt k (c * old.width + (a + b)) ≡ y → (k < c * old.width) ⊎ (c * old.width + (a + b) ≤ k)
          by true e y q = inl (grind (arith, nat_tests))
          by false e false q = inr (grind (arith, nat_tests))
          by false e true q =
              let low : c * old.width ≤ k = grind (arith, nat_tests) in
              let high : k < c * old.width + (a + b) = grind (arith, nat_tests) in
              absurd (h (k - c * old.width) (omega (arith, low, high)) (omega (arith, low)))

  pub new_is : (ts : Things) (r : Ref) → Holds old ts → rings.IsMade ts c old.places new.places → r.place ≡ c → r.number ≡ made_in old.places → made_in old.places < model.max_made → IsNew ts r a b old new
  new_is ts r holds made place number few = record {
    room = not_full;
    number = number ∙ sym holds.holds.made;
    come = record {
      things = ts ++ Some (record { place = c; parent = None }) ∷ [];
      holds = record { holds = made.holds; made = cells };
      blocks = map-append (option_map (block_in new)) ts (Some (record { place = c; parent = None }) ∷ [])
          ∙ ap (λ l. l ++ Some (block_in new (record { place = c; parent = None })) ∷ []) same
          ∙ ap (λ x. blocks_of old ts ++ Some x ∷ []) (new_block_shown (record { place = c; parent = None }) refl refl);
      kept = kept_new ts (record { place = c; parent = None });
    };
    made = subst (λ d. IsMadeAt (ts ++ Some (record { place = c; parent = None }) ∷ []) d r.number) (sym place)
        (subst (λ n. IsMadeAt (ts ++ Some (record { place = c; parent = None }) ∷ []) c n) (holds.holds.made ∙ sym number) (new_made_at ts c));
  }
    where
      not_full : is_full (budget_of old.places) (blocks_of old ts) ≡ false
      not_full =
          let live = count_shown old ts in
          let long : length (blocks_of old ts) ≡ length ts = length-map ts (option_map (block_in old)) in
          let x : nat_le (budget_of old.places) (model.live_count (blocks_of old ts)) ≡ false = is_not_le _ _ (let q = made.room in omega (arith, q, live)) in
          let y : nat_le model.max_made (length (blocks_of old ts)) ≡ false = is_not_le _ _ (omega (arith, few, long, holds.holds.made)) in
          rw (x, y) refl

      same : map (option_map (block_in new)) ts ≡ map (option_map (block_in old)) ts
      same = map_same (block_in old) (block_in new) ts (λ k v at. old_block_shown v (place_within old.places ts holds.holds k v at) (λ e.
          places_apart new.places _ made.holds (length ts) k (record { place = c; parent = None }) v (get_last ts _) (get_kept ts _ k (Some v) at) (λ z. let l = slice_get_within ts k (Some v) at in omega (arith, l, z)) e))

      cells : AreMade (ts ++ Some (record { place = c; parent = None }) ∷ []) new.cells.items
      cells k None at = tt
      cells k (Some q) at = by (nat_lt k (c * old.width)) refl (nat_lt k (c * old.width + (a + b))) refl
        where
          is_unset : Cell → Bool
          is_unset Unset = true
          is_unset (Number z) = false
          is_unset (Reference z) = false

          not_unset : slice_get new.cells.items k ≡ Some Unset → ⊥
          not_unset e = false≢true (ap is_unset (same_Some (Reference (Some q)) Unset (sym at ∙ e)))

          far : (k < c * old.width) ⊎ (c * old.width + (a + b) ≤ k) → (z : Bool) → nat_lt k (length old.cells.items) ≡ z → IsMadeAt (ts ++ Some (record { place = c; parent = None }) ∷ []) q.place q.number
          far out true e = kept_new ts (record { place = c; parent = None }) q.place q.number (holds.made k (Some q) (sym (tables.outside k out (grind (arith, nat_tests))) ∙ at))
          far out false e = absurd (not_unset (tables.unset k out (grind (arith, nat_tests)) (slice_get_within new.cells.items k _ at)))

          by : (x : Bool) → nat_lt k (c * old.width) ≡ x → (y : Bool) → nat_lt k (c * old.width + (a + b)) ≡ y → IsMadeAt (ts ++ Some (record { place = c; parent = None }) ∷ []) q.place q.number
          by true e y f = far (inl (grind (arith, nat_tests))) (nat_lt k (length old.cells.items)) refl
          by false e false f = far (inr (grind (arith, nat_tests))) (nat_lt k (length old.cells.items)) refl
          by false e true f = absurd (not_unset (tables.inside k (grind (arith, nat_tests)) (grind (arith, nat_tests))))

pub full_of_live : (b : Blocks) (ts : Things) → budget_of b.places ≤ count_things ts → is_full (budget_of b.places) (blocks_of b ts) ≡ true
full_of_live b ts full =
    let live = count_shown b ts in
    let x : nat_le (budget_of b.places) (model.live_count (blocks_of b ts)) ≡ true = is_le _ _ (omega (arith, full, live)) in
    rw x refl

pub full_of_made : (b : Blocks) (ts : Things) → Holds b ts → model.max_made ≤ made_in b.places → is_full (budget_of b.places) (blocks_of b ts) ≡ true
full_of_made b ts holds full =
    let long : length (blocks_of b ts) ≡ length ts = length-map ts (option_map (block_in b)) in
    let y : nat_le model.max_made (length (blocks_of b ts)) ≡ true = is_le _ _ (omega (arith, full, long, holds.holds.made)) in
    rw y (or_true _)
  where
    or_true : (x : Bool) → (x || true) ≡ true
    or_true true = refl
    or_true false = refl

-- ---- no blocks yet

no_rows : (n w : ℕ) → n ≡ 0 → n * w ≡ 0
no_rows n w e = rw e (omega arith)

pub fresh_sound : (b : Blocks) → IsFresh b → IsSound b
fresh_sound b fresh = record {
  settled = fresh_settled b.places fresh.places;
  shapes = fresh.shapes ∙ sym fresh.places.places;
  cells = fresh.cells ∙ sym (no_rows (places_in b.places) b.width fresh.places.places);
  shapes_room = fresh.shapes_room;
  cells_room = fresh.cells_room;
  fit = λ c s at. absurd (let l = slice_get_within b.shapes.items c s at in omega (arith, l, fresh.shapes));
}

pub fresh_holds_none : (b : Blocks) → IsFresh b → Holds b []
fresh_holds_none b fresh = record {
  holds = fresh_holds b.places fresh.places;
  made = λ k r at. absurd (let l = slice_get_within b.cells.items k _ at in omega (arith, l, fresh.cells));
}
