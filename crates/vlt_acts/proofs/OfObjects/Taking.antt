-- The values of an object's owning fields go into variables.
use Rattle.std.proofs.Common.{◌≡◌, ℕ, zero, suc, ◌+◌, ◌*◌, ◌<◌, Bool, true, false, if◌then◌else◌, List, [], ◌∷◌, take, drop, length, Option, Some, None, Ok, refl, sym, ap, ◌∙◌, subst, arith, slice_get}
use Rattle.std.specs.List.{flat_map}
use Rattle.std.proofs.lemmas.Option.{none-some}
use Rattle.vlt_core.specs.Core.{FieldDecl}
use Rattle.vlt_core.specs.Lookups.{is_owning}
use Rattle.vlt_heap.specs.declared.slots.Obj.{Obj}
use Rattle.vlt_heap.specs.declared.slots.Slot.{Slot}
use Rattle.vlt_heap.specs.declared.heap.Heap.{Heap}
use Rattle.vlt_heap.specs.Items.{Items}
use Rattle.vlt_heap.proofs.Listed.{KeepMade}
use Rattle.vlt_meaning.specs.World.{Value, objects_in, loose, is_inside, is_gone, Object as Thing, not_empty}
use Rattle.vlt_meaning.specs.Operands.{owning_cells}
use Rattle.vlt_meaning.specs.Step.{with_var, is_fillable}
use Rattle.vlt_meaning_laws.proofs.Keeping.{bound}
use Rattle.vlt_meaning_laws.specs.Machine.Got.{Got, got, stopped, got_if, filled_got}
use Rattle.vlt_acts.specs.declared.values.values.Values.{Values}
use Rattle.vlt_acts.specs.Values.Parts.{padded_parts, HaveValue}
use Rattle.vlt_acts.specs.Values.Filled.{IsFilled, IsCellSlot}
use Rattle.vlt_acts.specs.Values.Shown.{ShowObjects, var_at, IsKept}
use Rattle.vlt_acts.proofs.OfValues.Fronts.{following}
use Rattle.vlt_acts.proofs.OfValues.Writing.{value_moved}
use Rattle.vlt_acts.proofs.OfActs.Keeping.{frame_kept, value_kept, assigned}
use Rattle.vlt_acts.specs.Objects.Owned.{AreParts, Sees, taken_out, CanFree, FreesAll}
use Rattle.vlt_acts.specs.Objects.Taken.{Holder, owned_from, CanTake, CanTakeOne, Taken, TakesOne, IsTaken, TakesAll}
use Rattle.vlt_acts.proofs.OfObjects.Chains.{moves_join, same_objects}
use Rattle.vlt_acts.proofs.OfObjects.Hanging.{moved_others}
use Rattle.vlt_acts.proofs.OfObjects.Rows.{owned_padded, row_value, drop_get}

-- ---- one cell

module _ (old : Heap) (values mid : Values) (o : Obj) (n i v to : ℕ) (is_to : to ≡ var_at values v) (within : v < values.vars) (kept : IsKept to values mid) (filled : IsFilled (λ j. IsCellSlot old o n (i * values.width + j)) mid.slots.items to values.width) where
  -- the field's value stands in the variable's slots
  cell_here : (h : Holder old values n o.0) (a : Value) → slice_get h.held.object.cells i ≡ Some a → HaveValue h.items mid.slots.items to values.width a
  cell_here h a at =
      let b = following h.items values.width n h.objects h.held.object h.shown h.held.at (ap is_gone h.held.owner) in
      value_moved h.items b.item.slots mid.slots.items (i * values.width) to values.width a (λ j q l at_q. filled j q l (record { items = h.items; holds = h.holds; made = h.held.made; item = b.item; at = b.at; slot = at_q })) (b.shown.cells i a at)

  abbrev cell_seen : (h : Holder old values n o.0) (a : Value) → slice_get h.held.object.cells i ≡ Some a → (row : List Slot) → row ≡ take (1 * mid.width) (drop to mid.slots.items) → Sees old row
  cell_seen h a at row is_row = record {
    items = h.items;
    width = values.width;
    objects = h.objects;
    parts = padded_parts values.width a;
    holds = h.holds;
    shown = h.shown;
    have = subst (λ l. AreParts h.items l (padded_parts values.width a)) (sym (is_row ∙ ap (λ w. take (1 * w) (drop to mid.slots.items)) kept.width)) (row_value h.items mid.slots.items to values.width a (cell_here h a at));
  }

  pub one_frees : (row : List Slot) → row ≡ take (1 * mid.width) (drop to mid.slots.items) → CanTakeOne old values n o.0 i → CanFree old row
  one_frees row is_row c = record {
    number = n;
    can = record {
      sees = cell_seen c.holder c.value c.at row is_row;
      after = c.after;
      is = ap (λ ns. taken_out n ns c.holder.objects) (owned_padded values.width c.value) ∙ c.is;
    };
  }

  pub takes_one : (new : Heap) (row : List Slot) → row ≡ take (1 * mid.width) (drop to mid.slots.items) → FreesAll row old new → TakesOne n o.0 i v old values new mid
  takes_one new row is_row frees h a objects at is =
      let s = frees n (cell_seen h a at row is_row) objects (ap (λ ns. taken_out n ns h.objects) (owned_padded values.width a) ∙ is) in
      record {
        items = s.items;
        holds = s.holds;
        shown = subst (λ w. ShowObjects s.items w objects) (sym kept.width) s.shown;
        fits = assigned s.items values mid h.frame v a within (subst (λ z. IsKept z values mid) is_to kept)
            (subst (λ w. HaveValue s.items mid.slots.items (var_at values v) w a) (sym kept.width) (subst (λ z. HaveValue s.items mid.slots.items z values.width a) is_to (value_kept h.items s.items mid.slots.items to values.width a s.kept (cell_here h a at))))
            (frame_kept h.items s.items values h.frame s.kept h.fits);
        kept = s.kept;
      }

-- ---- one field after another

-- the cell of a field, and those after it
pub data CellsFrom (i : ℕ) (cells : List Value) : Type 0 where
  none_left : drop i cells ≡ [] → drop (suc i) cells ≡ [] → CellsFrom i cells
  one_more : (a : Value) → slice_get cells i ≡ Some a → drop i cells ≡ a ∷ drop (suc i) cells → CellsFrom i cells

pub cells_from : (i : ℕ) (cells : List Value) → CellsFrom i cells
cells_from i cells = by (slice_get cells i) refl
  where
    ends : (i : ℕ) (xs : List Value) → slice_get xs i ≡ None → (drop i xs ≡ []) × (drop (suc i) xs ≡ [])
    ends zero [] e = (refl, refl)
    ends zero (x ∷ xs) e = absurd (none-some x (sym e))
    ends (suc i) [] e = (refl, refl)
    ends (suc i) (x ∷ xs) e = ends i xs e

    by : (x : Option Value) → slice_get cells i ≡ x → CellsFrom i cells
    by None e = let q = ends i cells e in none_left q.0 q.1
    by (Some a) e = one_more a e (drop_get cells i a e)

no_cells : (d : FieldDecl) (ds : List FieldDecl) (i : ℕ) (o : Thing) → drop i o.cells ≡ [] → owned_from (d ∷ ds) i o ≡ []
no_cells d ds i o e = ap (owning_cells (d ∷ ds)) e

none_owning : (ds : List FieldDecl) → owning_cells ds [] ≡ []
none_owning [] = refl
none_owning (d ∷ ds) = refl

-- a field that owns nothing is passed over
pub passed_over : (d : FieldDecl) (ds : List FieldDecl) (i : ℕ) (o : Thing) → is_owning d.ty ≡ false → owned_from (d ∷ ds) i o ≡ owned_from ds (suc i) o
passed_over d ds i o isnt = by (cells_from i o.cells)
  where
    by : CellsFrom i o.cells → owned_from (d ∷ ds) i o ≡ owned_from ds (suc i) o
    by (none_left e f) = no_cells d ds i o e ∙ sym (none_owning ds) ∙ ap (owning_cells ds) (sym f)
    by (one_more a at e) = ap (owning_cells (d ∷ ds)) e ∙ ap (λ t. if t then a ∷ owned_from ds (suc i) o else owned_from ds (suc i) o) isnt

pub taken_first : (d : FieldDecl) (ds : List FieldDecl) (i : ℕ) (o : Thing) (a : Value) → is_owning d.ty ≡ true → drop i o.cells ≡ a ∷ drop (suc i) o.cells → owned_from (d ∷ ds) i o ≡ a ∷ owned_from ds (suc i) o
taken_first d ds i o a is e = ap (owning_cells (d ∷ ds)) e ∙ ap (λ t. if t then a ∷ owned_from ds (suc i) o else owned_from ds (suc i) o) is

pub pass_can : (heap : Heap) (values : Values) (n place : ℕ) (d : FieldDecl) (ds : List FieldDecl) (i next count : ℕ) → next ≡ suc i → is_owning d.ty ≡ false → CanTake heap values n place (d ∷ ds) i count → CanTake heap values n place ds next count
pass_can heap values n place d ds i next count is isnt c =
    let e : owned_from (d ∷ ds) i c.holder.held.object ≡ owned_from ds next c.holder.held.object = passed_over d ds i c.holder.held.object isnt ∙ ap (λ j. owned_from ds j c.holder.held.object) (sym is) in
    record {
      holder = c.holder;
      few = ap length (sym e) ∙ c.few;
      after = c.after;
      is = ap (λ xs. taken_out n (flat_map objects_in xs) c.holder.objects) (sym e) ∙ c.is;
    }

pub passes : (old new : Heap) (values after : Values) (n place : ℕ) (d : FieldDecl) (ds : List FieldDecl) (i next : ℕ) (vs : List ℕ) → next ≡ suc i → is_owning d.ty ≡ false → TakesAll n place ds next vs old values new after → TakesAll n place (d ∷ ds) i vs old values new after
passes old new values after n place d ds i next vs is isnt rest h f w objects taken =
    let e : owned_from (d ∷ ds) i h.held.object ≡ owned_from ds next h.held.object = passed_over d ds i h.held.object isnt ∙ ap (λ j. owned_from ds j h.held.object) (sym is) in
    subst (λ xs. IsTaken h.items new after objects (filled_got f vs xs h.frame w)) (sym e) (rest h f w objects (ap (λ xs. taken_out n (flat_map objects_in xs) h.objects) (sym e) ∙ taken))

pub none_taken : (heap : Heap) (values : Values) (n place i : ℕ) (ds : List FieldDecl) (vs : List ℕ) → ((o : Thing) → owned_from ds i o ≡ []) → TakesAll n place ds i vs heap values heap values
none_taken heap values n place i ds vs none h f w objects taken =
    subst (λ xs. IsTaken h.items heap values objects (filled_got f vs xs h.frame w)) (sym (none h.held.object)) (by vs)
  where
    same : h.objects ≡ objects
    same = same_objects (ap (λ xs. taken_out n (flat_map objects_in xs) h.objects) (sym (none h.held.object)) ∙ taken)

    by : (us : List ℕ) → IsTaken h.items heap values objects (filled_got f us [] h.frame w)
    by [] = record { items = h.items; holds = h.holds; shown = subst (ShowObjects h.items values.width) same h.shown; fits = h.fits; kept = λ c m made. made }
    by (u ∷ us) = refl

-- no variable is left for an owning field
pub no_variable : (heap : Heap) (values : Values) (n place i : ℕ) (d : FieldDecl) (ds : List FieldDecl) → is_owning d.ty ≡ true → TakesAll n place (d ∷ ds) i [] heap values heap values
no_variable heap values n place i d ds is h f w objects taken = by (cells_from i h.held.object.cells)
  where
    by : CellsFrom i h.held.object.cells → IsTaken h.items heap values objects (filled_got f [] (owned_from (d ∷ ds) i h.held.object) h.frame w)
    by (none_left e g) =
        subst (λ xs. IsTaken h.items heap values objects (filled_got f [] xs h.frame w)) (sym (no_cells d ds i h.held.object e)) (record {
          items = h.items;
          holds = h.holds;
          shown = subst (ShowObjects h.items values.width) (same_objects (ap (λ xs. taken_out n (flat_map objects_in xs) h.objects) (sym (no_cells d ds i h.held.object e)) ∙ taken)) h.shown;
          fits = h.fits;
          kept = λ c m made. made;
        })
    by (one_more a at e) = subst (λ xs. IsTaken h.items heap values objects (filled_got f [] xs h.frame w)) (sym (taken_first d ds i h.held.object a is e)) refl

-- ---- an owning field

record Parted (n : ℕ) (xs : List Value) (a : Value) (os after : List Thing) : Type 0 where
  mid : List Thing
  first : taken_out n (objects_in a) os ≡ Ok mid
  rest : taken_out n (flat_map objects_in xs) mid ≡ Ok after

parted : (n : ℕ) (xs : List Value) (a : Value) (os after : List Thing) → taken_out n (flat_map objects_in (a ∷ xs)) os ≡ Ok after → Parted n xs a os after
parted n xs a os after is =
    let b = bound (taken_out n (objects_in a) os) (taken_out n (flat_map objects_in xs)) after (sym (moves_join (is_inside n) loose (objects_in a) (flat_map objects_in xs) os) ∙ is) in
    record { mid = b.0; first = b.1; rest = b.2 }

-- the object stays where it is
abbrev stays : (old new : Heap) (values mid : Values) (n place v : ℕ) (h : Holder old values n place) (a : Value) (objects : List Thing) → taken_out n (objects_in a) h.objects ≡ Ok objects → Taken h.items new mid (with_var v (Some a) h.frame) objects → Holder new mid n place
stays old new values mid n place v h a objects is t = record {
  items = t.items;
  objects = objects;
  frame = with_var v (Some a) h.frame;
  holds = t.holds;
  shown = t.shown;
  fits = t.fits;
  held = record {
    object = h.held.object;
    at = moved_others (is_inside n) loose (objects_in a) h.objects objects n h.held.object h.held.at (ap (is_inside n) h.held.owner) is;
    depth = h.held.depth;
    key = h.held.key;
    owner = h.held.owner;
    made = t.kept place n h.held.made;
  };
}

module _ (old : Heap) (values : Values) (n place : ℕ) (d : FieldDecl) (ds : List FieldDecl) (i next v : ℕ) (vs : List ℕ) (is : next ≡ suc i) (owns : is_owning d.ty ≡ true) where
  -- where there is a variable, there is a cell
  cell_there : (c : CanTake old values n place (d ∷ ds) i (suc (length vs))) → (a : Value) × (slice_get c.holder.held.object.cells i ≡ Some a) × (owned_from (d ∷ ds) i c.holder.held.object ≡ a ∷ owned_from ds next c.holder.held.object)
  cell_there c = by (cells_from i c.holder.held.object.cells)
    where
      by : CellsFrom i c.holder.held.object.cells → (a : Value) × (slice_get c.holder.held.object.cells i ≡ Some a) × (owned_from (d ∷ ds) i c.holder.held.object ≡ a ∷ owned_from ds next c.holder.held.object)
      by (none_left e f) = absurd (let m = c.few in let k = ap length (no_cells d ds i c.holder.held.object e) in omega (arith, m, k))
      by (one_more a at e) = (a, at, taken_first d ds i c.holder.held.object a owns e ∙ ap (λ j. a ∷ owned_from ds j c.holder.held.object) (sym is))

  pub can_one : CanTake old values n place (d ∷ ds) i (suc (length vs)) → CanTakeOne old values n place i
  can_one c =
      let a = cell_there c in
      let p = parted n (owned_from ds next c.holder.held.object) a.0 c.holder.objects c.after (ap (λ xs. taken_out n (flat_map objects_in xs) c.holder.objects) (sym a.2) ∙ c.is) in
      record { holder = c.holder; value = a.0; at = a.1; after = p.mid; is = p.first }

  module _ (new : Heap) (mid : Values) (takes : TakesOne n place i v old values new mid) where
    pub can_more : CanTake old values n place (d ∷ ds) i (suc (length vs)) → CanTake new mid n place ds next (length vs)
    can_more c =
        let a = cell_there c in
        let p = parted n (owned_from ds next c.holder.held.object) a.0 c.holder.objects c.after (ap (λ xs. taken_out n (flat_map objects_in xs) c.holder.objects) (sym a.2) ∙ c.is) in
        let t = takes c.holder a.0 p.mid a.1 p.first in
        record {
          holder = stays old new values mid n place v c.holder a.0 p.mid p.first t;
          few = let k = ap length a.2 in let m = c.few in omega (arith, k, m);
          after = c.after;
          is = p.rest;
        }

    pub takes_both : (last : Heap) (after : Values) → TakesAll n place ds next vs new mid last after → TakesAll n place (d ∷ ds) i (v ∷ vs) old values last after
    unfolding got_if
    takes_both last after rest h f w objects taken = by (cells_from i h.held.object.cells)
      where
        known : (items : Items) → KeepMade h.items items → (x : Got (Unit {0})) → IsTaken items last after objects x → IsTaken h.items last after objects x
        known items keep (got u g z) t = record { items = t.items; holds = t.holds; shown = t.shown; fits = t.fits; kept = λ c m made. t.kept c m (keep c m made) }
        known items keep (stopped o z) t = t

        filled : (a : Value) (xs : List Value) → IsTaken h.items last after objects (filled_got f vs xs (with_var v (Some a) h.frame) w) → (t : Bool) → IsTaken h.items last after objects (got_if t not_empty w (filled_got f vs xs (with_var v (Some a) h.frame) w))
        filled a xs r true = r
        filled a xs r false = refl

        by : CellsFrom i h.held.object.cells → IsTaken h.items last after objects (filled_got f (v ∷ vs) (owned_from (d ∷ ds) i h.held.object) h.frame w)
        by (none_left e g) = subst (λ xs. IsTaken h.items last after objects (filled_got f (v ∷ vs) xs h.frame w)) (sym (no_cells d ds i h.held.object e)) refl
        by (one_more a at e) =
            let all : owned_from (d ∷ ds) i h.held.object ≡ a ∷ owned_from ds next h.held.object = taken_first d ds i h.held.object a owns e ∙ ap (λ j. a ∷ owned_from ds j h.held.object) (sym is) in
            let p = parted n (owned_from ds next h.held.object) a h.objects objects (ap (λ xs. taken_out n (flat_map objects_in xs) h.objects) (sym all) ∙ taken) in
            let t = takes h a p.mid at p.first in
            subst (λ xs. IsTaken h.items last after objects (filled_got f (v ∷ vs) xs h.frame w)) (sym all)
            (filled a (owned_from ds next h.held.object) (known t.items t.kept _ (rest (stays old new values mid n place v h a p.mid p.first t) f w objects p.rest)) (is_fillable f v h.frame))
