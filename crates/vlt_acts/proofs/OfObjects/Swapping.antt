-- A field's value is exchanged for a variable's.
use Rattle.std.proofs.Common.{◌≡◌, inl, inr, ℕ, ◌+◌, ◌*◌, ◌<◌, ◌≤◌, true, false, List, take, drop, length, Option, Some, None, Ok, refl, sym, ap, ◌∙◌, subst, arith, slice_get}
use Rattle.std.specs.List.{list_all}
use Rattle.std.specs.Result.{is_ok}
use Rattle.std.proofs.lemmas.Bool.{false≢true}
use Rattle.std.proofs.lemmas.Option.{slice_get_within}
use Rattle.vlt_core.specs.Core.{States, Func, Program}
use Rattle.vlt_core.specs.Core as core
use Rattle.vlt_core.specs.Lookups.{Reference, reference_of, guarded_of, permitted_in}
use Rattle.vlt_rings.proofs.Rows.{row_fits}
use Rattle.vlt_heap.specs.declared.slots.Obj.{Obj}
use Rattle.vlt_heap.specs.declared.slots.Slot.{Slot}
use Rattle.vlt_heap.specs.declared.slots.Slot.TheVariants.{Object}
use Rattle.vlt_heap.specs.declared.heap.Heap.{Heap}
use Rattle.vlt_heap.specs.Items.{IsMadeAt}
use Rattle.vlt_heap.proofs.Listed.{KeepMade}
use Rattle.vlt_meaning.specs.World.{Value, objects_in, Owner, held, lent, loose, inside, adopted_by, out, gone, is_held_under, is_inside, is_loose, Object as Thing, World, Frame, missing, no_value, not_owned}
use Rattle.vlt_meaning.specs.Found.{◌>>=◌, or_fault, Named}
use Rattle.vlt_meaning.specs.Objects.{object_at, owned_at, in_states, with_cell}
use Rattle.vlt_meaning.specs.Values.{held_object, tracked_object, object_after, touchable, object_of, reference_in}
use Rattle.vlt_meaning.specs.Step.{Step, goes, with_objects, with_changed, with_moved, with_var}
use Rattle.vlt_meaning.specs.Run.{swap_step, does_simple}
use Rattle.vlt_meaning_laws.proofs.Keeping.{bound, err-ok}
use Rattle.vlt_acts.specs.declared.values.values.Values.{Values}
use Rattle.vlt_acts.specs.Values.Parts.{padded_parts, HaveValue}
use Rattle.vlt_acts.specs.Values.Filled.{IsFilled, IsCellSlot}
use Rattle.vlt_acts.specs.Values.Shown.{ShowObjects, ShowsFrame, IsTable, var_at, key_at, Seen, IsKept, IsGrown, IsCut, IsCopied, IsSlotFrom, AreApart}
use Rattle.vlt_acts.proofs.OfValues.Touching.{Touched, some_fault, some_is, so_is, object_of_fault, object_of_is}
use Rattle.vlt_acts.proofs.OfValues.Fronts.{IsSlotAt, IsNoObject, referred}
use Rattle.vlt_acts.proofs.OfValues.Fronts as fronts
use Rattle.vlt_acts.proofs.OfValues.Writing.{value_moved, cell_copied}
use Rattle.vlt_acts.proofs.OfValues.Pushing.{frame_grown, seen_grown, value_grown}
use Rattle.vlt_acts.specs.Acts.Acts.{setup, HasDone, Does, IsRight}
use Rattle.vlt_acts.proofs.OfActs.Keeping.{frame_kept, value_kept, assigned}
use Rattle.vlt_acts.specs.Objects.Owned.{AreParts, Sees, ShowsAll, IsHeldAt, put_in, taken_out, CanHang, HangsAll, CanFree, FreesAll}
use Rattle.vlt_acts.specs.Objects.Cells.{SetsCell}
use Rattle.vlt_acts.proofs.OfObjects.Chains.{parts_known}
use Rattle.vlt_acts.proofs.OfObjects.Hanging.{moved_others}
use Rattle.vlt_acts.proofs.OfObjects.Rows.{owned_padded, row_value}
use Rattle.vlt_acts.proofs.OfObjects.Going.{found_safe, so_safe, moved_safe, found_goes, so_goes, moved_goes}
use Rattle.vlt_acts.proofs.OfObjects.Tables.{cut_shown, keys_within}

-- ---- who holds the object

pub record HeldBy (o : Owner) : Type 0 where
  pub depth : ℕ
  pub key : ℕ
  pub is : o ≡ held depth key

held_by : (d k : ℕ) (o : Owner) → is_held_under d k o ≡ true → HeldBy o
held_by d k (held e j) h = record { depth = e; key = j; is = refl }
held_by d k (lent e j) h = absurd (false≢true h)
held_by d k loose h = absurd (false≢true h)
held_by d k (inside n) h = absurd (false≢true h)
held_by d k (adopted_by n) h = absurd (false≢true h)
held_by d k out h = absurd (false≢true h)
held_by d k gone h = absurd (false≢true h)

held_holds : (k : ℕ) (frame : Frame) (objects : List Thing) (m : Named) → held_object k frame objects ≡ Ok m → HeldBy m.object.owner
held_holds k frame objects m e =
    let a = bound (or_fault no_value (frame.keys k)) _ m e in
    let b = bound (object_at objects a.0) _ m a.2 in
    let s = so_is (is_held_under frame.depth k b.0.object.owner) _ b.0 m b.2 in
    subst (λ z. HeldBy z.object.owner) s.1 (held_by frame.depth k b.0.object.owner s.0)

tracked_holds : (r : Reference) (x : ℕ) (frame : Frame) (objects : List Thing) (m : Named) → tracked_object r x frame objects ≡ Ok m → HeldBy m.object.owner
tracked_holds r x frame objects m e =
    let a = bound (held_object r.key frame objects) _ m e in
    let b = bound (reference_in (frame.vars x)) _ m a.2 in
    subst (λ z. HeldBy z.object.owner) (so_is _ _ a.0 m b.2).1 (held_holds r.key frame objects a.0 a.1)

pub object_holds : (f : Func) (states : Reference → States) (x : ℕ) (frame : Frame) (objects : List Thing) (m : Named) → object_of f states x frame objects ≡ Ok m → HeldBy m.object.owner
object_holds f states x frame objects m e =
    let r = bound (or_fault missing (reference_of f x)) _ m e in
    let a = bound (tracked_object r.0 x frame objects) _ m r.2 in
    subst (λ z. HeldBy z.object.owner) (so_is _ _ a.0 m a.2).1 (tracked_holds r.0 x frame objects a.0 a.1)

-- what a touch of a tracked variable goes to
touch_same : (p : Program) (f : Func) (x i : ℕ) (frame : Frame) (objects : List Thing) (m : Named) → object_of f (λ q. permitted_in p q.type i) x frame objects ≡ Ok m → touchable p f x i frame objects ≡ Ok m
touch_same p f x i frame objects m e = by (reference_of f x) e
  where
    by : (o : Option Reference) → (or_fault missing o >>= (λ r. tracked_object r x frame objects >>= in_states (permitted_in p r.type i))) ≡ Ok m → object_after o (guarded_of f x) x (λ r. permitted_in p r.type i) frame objects ≡ Ok m
    by None h = absurd (err-ok h)
    by (Some r) h = h

-- ---- what it finds

pub record Finds (p : Program) (f : Func) (x i v : ℕ) (frame : Frame) (objects : List Thing) : Type 0 where
  pub named : Named
  pub object : object_of f (λ q. permitted_in p q.type i) x frame objects ≡ Ok named
  pub before : Value
  pub at : slice_get named.object.cells i ≡ Some before
  pub value : Value
  pub has : frame.vars v ≡ Some value
  pub mid : List Thing
  pub out : taken_out named.number (objects_in before) objects ≡ Ok mid
  pub after : List Thing
  pub into : put_in named.number (objects_in value) mid ≡ Ok after

pub right_swap : (h : Heap) (values : Values) (x i v : ℕ) (q : IsRight h values (core.swap x i v)) → Finds q.seen.program q.seen.func x i v q.seen.frame q.world.objects
unfolding swap_step
right_swap h values x i v q =
    let c = q.seen in
    let w = q.world in
    let a = found_safe (object_of c.func (λ r. permitted_in c.program r.type i) x c.frame w.objects) w _ (object_of_fault c.func (λ r. permitted_in c.program r.type i) x c.frame w.objects) q.right in
    let b = found_safe (or_fault missing (slice_get a.value.object.cells i)) w _ (some_fault missing (slice_get a.value.object.cells i)) a.safe in
    let d = found_safe (or_fault no_value (c.frame.vars v)) w _ (some_fault no_value (c.frame.vars v)) b.safe in
    let s = so_safe (list_all (λ m. is_ok (owned_at is_loose w.objects m)) (objects_in d.value)) not_owned None w (inner a.value b.value d.value) d.safe in
    let t = moved_safe (is_inside a.value.number) loose (objects_in b.value) w (λ w. with_moved is_loose (inside a.value.number) (objects_in d.value) w (last a.value b.value d.value)) s.1 in
    let u = moved_safe is_loose (inside a.value.number) (objects_in d.value) (with_objects w t.objects) (last a.value b.value d.value) t.safe in
    record {
      named = a.value;
      object = a.is;
      before = b.value;
      at = some_is missing (slice_get a.value.object.cells i) b.value b.is;
      value = d.value;
      has = some_is no_value (c.frame.vars v) d.value d.is;
      mid = t.objects;
      out = t.is;
      after = u.objects;
      into = u.is;
    }
  where
    last : Named → Value → Value → World → Step
    last n old new w = goes (with_var v (Some old) q.seen.frame) (with_changed w n.number (with_cell i new))

    inner : Named → Value → Value → World → Step
    inner n old new w = with_moved (is_inside n.number) loose (objects_in old) w (λ w. with_moved is_loose (inside n.number) (objects_in new) w (last n old new))

-- ---- the tables on the way

module _ (old : Heap) (values grown mid : Values) (x i v end to : ℕ) (a : Slot) (o : Obj) (n : ℕ) (front : IsSlotAt grown.slots.items (var_at grown x) a) (is : a ≡ Object o n) (is_end : end ≡ length values.slots.items) (g : IsGrown values grown) (k : IsKept end grown mid)
    (filled : IsFilled (λ j. IsCellSlot old o n (i * grown.width + j)) mid.slots.items end grown.width) (within : v < values.vars) (table : IsTable values) (to_mid : to ≡ var_at mid v) where
  gm : IsGrown values mid
  gm = record {
    same = λ j l. k.outside j (inl (omega (arith, l, is_end))) ∙ g.same j l;
    base = k.base ∙ g.base;
    vars = k.vars ∙ g.vars;
    width = k.width ∙ g.width;
  }

  is_to : to ≡ var_at values v
  is_to = to_mid ∙ ap (λ z. z + v * mid.width) gm.base ∙ ap (λ z. values.base + v * z) gm.width

  -- the field's value stands at the end
  scratch : (c : Seen old values) (objects : List Thing) → objects ≡ c.objects → (f : Finds c.program c.func x i v c.frame objects) → HaveValue c.items mid.slots.items end mid.width f.before
  scratch c objects same f =
      let d = seen_grown old values grown g c in
      let copied = cell_copied old grown mid d x i end a o n front is k.width filled in
      let t : touchable c.program c.func x i c.frame c.objects ≡ Ok f.named = ap (touchable c.program c.func x i c.frame) (sym same) ∙ touch_same c.program c.func x i c.frame objects f.named f.object in
      subst (IsCopied c.items mid end) (ap (λ z. z >>= (λ m. or_fault missing (slice_get m.object.cells i))) t ∙ ap (or_fault missing) f.at) copied

  var_value : (c : Seen old values) (objects : List Thing) (f : Finds c.program c.func x i v c.frame objects) → HaveValue c.items mid.slots.items to mid.width f.value
  var_value c objects f =
      let h = value_grown c.items values mid (var_at values v) values.width f.value gm (c.fits.vars v f.value f.has).value in
      subst (λ z. HaveValue c.items mid.slots.items to z f.value) (sym gm.width) (subst (λ z. HaveValue c.items mid.slots.items z values.width f.value) (sym is_to) h)

  -- ---- what the calls on the way ask

  abbrev before_seen : (c : Seen old values) (objects : List Thing) → objects ≡ c.objects → (f : Finds c.program c.func x i v c.frame objects) (row : List Slot) → row ≡ take (1 * mid.width) (drop end mid.slots.items) → Sees old row
  before_seen c objects same f row is_row = record {
    items = c.items;
    width = mid.width;
    objects = objects;
    parts = padded_parts mid.width f.before;
    holds = c.holds;
    shown = subst (ShowObjects c.items mid.width) (sym same) (seen_grown old values mid gm c).shown;
    have = subst (λ l. AreParts c.items l (padded_parts mid.width f.before)) (sym is_row) (row_value c.items mid.slots.items end mid.width f.before (scratch c objects same f));
  }

  pub swap_frees : (row : List Slot) → row ≡ take (1 * mid.width) (drop end mid.slots.items) → IsRight old values (core.swap x i v) → CanFree old row
  swap_frees row is_row q =
      let f = right_swap old values x i v q in
      record {
        number = f.named.number;
        can = record {
          sees = before_seen q.seen q.world.objects q.objects f row is_row;
          after = f.mid;
          is = ap (λ ns. taken_out f.named.number ns q.world.objects) (owned_padded mid.width f.before) ∙ f.out;
        };
      }

  module _ (free : Heap) (first : List Slot) (is_first : first ≡ take (1 * mid.width) (drop end mid.slots.items)) (frees : FreesAll first old free) (second : List Slot) (is_second : second ≡ take (1 * mid.width) (drop to mid.slots.items)) where
    abbrev freed : (c : Seen old values) (objects : List Thing) → objects ≡ c.objects → (f : Finds c.program c.func x i v c.frame objects) → ShowsAll c.items free mid.width f.mid
    freed c objects same f = frees f.named.number (before_seen c objects same f first is_first) f.mid (ap (λ ns. taken_out f.named.number ns objects) (owned_padded mid.width f.before) ∙ f.out)

    abbrev after_seen : (c : Seen old values) (objects : List Thing) → objects ≡ c.objects → (f : Finds c.program c.func x i v c.frame objects) → Sees free second
    after_seen c objects same f =
        let s = freed c objects same f in
        record {
          items = s.items;
          width = mid.width;
          objects = f.mid;
          parts = padded_parts mid.width f.value;
          holds = s.holds;
          shown = s.shown;
          have = parts_known c.items s.items second (padded_parts mid.width f.value) s.kept
              (subst (λ l. AreParts c.items l (padded_parts mid.width f.value)) (sym is_second) (row_value c.items mid.slots.items to mid.width f.value (var_value c objects f)));
        }

    abbrev holder : (c : Seen old values) (objects : List Thing) (same : objects ≡ c.objects) (f : Finds c.program c.func x i v c.frame objects) → IsHeldAt (freed c objects same f).items f.mid f.named.number o.0
    holder c objects same f =
        let p = object_of_is c.func (λ q. permitted_in c.program q.type i) x c.frame objects f.named f.object in
        let h = object_holds c.func (λ q. permitted_in c.program q.type i) x c.frame objects f.named f.object in
        let ref = referred old grown (seen_grown old values grown g c) x a front f.named (subst (λ os. Touched x c.frame os f.named) same p.touched) in
        let s = fronts.same_object (sym is ∙ ref.is) in
        record {
          object = f.named.object;
          at = moved_others (is_inside f.named.number) loose (objects_in f.before) objects f.mid f.named.number f.named.object p.touched.at (ap (is_inside f.named.number) h.is) f.out;
          depth = h.depth;
          key = h.key;
          owner = h.is;
          made = (freed c objects same f).kept o.0 f.named.number (subst (λ z. IsMadeAt c.items z.0 f.named.number) (sym s.0) ref.made);
        }

    pub swap_hangs : IsRight old values (core.swap x i v) → CanHang free second o
    swap_hangs q =
        let f = right_swap old values x i v q in
        record {
          number = f.named.number;
          can = record {
            sees = after_seen q.seen q.world.objects q.objects f;
            after = f.after;
            is = ap (λ ns. put_in f.named.number ns f.mid) (owned_padded mid.width f.value) ∙ f.into;
          };
          holder = holder q.seen q.world.objects q.objects f;
        }

    -- ---- what it comes to

    module _ (hung new : Heap) (set last : Values) (hangs : HangsAll second o free hung) (sets : SetsCell x i to mid hung new) (kept : IsKept to mid set) (copied : AreApart end to mid.width → IsFilled (IsSlotFrom mid end) set.slots.items to mid.width) (cut : IsCut end set last) where
      exchanged : (c : Seen old values) (w : World) → w.objects ≡ c.objects → (f : Finds c.program c.func x i v c.frame w.objects) → HasDone c.items new last (Ok tt) (with_var v (Some f.before) c.frame) (with_changed (with_objects w f.after) f.named.number (with_cell i f.value))
      exchanged c w same f =
          let s = freed c w.objects same f in
          let t = hangs (after_seen c w.objects same f) f.named.number f.after (holder c w.objects same f) (ap (λ ns. put_in f.named.number ns f.mid) (owned_padded mid.width f.value) ∙ f.into) in
          let p = object_of_is c.func (λ q. permitted_in c.program q.type i) x c.frame w.objects f.named f.object in
          let h = object_holds c.func (λ q. permitted_in c.program q.type i) x c.frame w.objects f.named f.object in
          let keep : KeepMade c.items t.items = λ b m made. t.kept b m (s.kept b m made) in
          let frame : ShowsFrame t.items mid c.frame = frame_kept c.items t.items mid c.frame keep (frame_grown c.items values mid c.frame gm c.fits) in
          let hold = holder c w.objects same f in
          let now : Seen hung mid = record { program = c.program; func = c.func; frame = c.frame; objects = f.after; items = t.items; holds = t.holds; shown = t.shown; fits = frame } in
          let u = sets now f.named.number f.named.object f.value (record {
            var = p.touched.var;
            at = moved_others is_loose (inside f.named.number) (objects_in f.value) f.mid f.after f.named.number f.named.object hold.at (ap is_loose h.is) f.into;
            live = p.touched.live;
            within = slice_get_within f.named.object.cells i f.before f.at;
          }) (value_kept c.items t.items mid.slots.items to mid.width f.value keep (var_value c w.objects f)) in
          let all : KeepMade c.items u.items = λ b m made. u.kept b m (keep b m made) in
          let fits : to + mid.width ≤ end = let r = row_fits v values.vars values.width values.width within (omega arith) in rw (is_to, gm.width) (omega (arith, r, table, is_end)) in
          let has : HaveValue c.items set.slots.items to mid.width f.before = value_moved c.items mid.slots.items set.slots.items end to mid.width f.before (λ j b l at. copied (inr (inr fits)) j b l at) (scratch c w.objects same f) in
          let wide : set.width ≡ mid.width = kept.width in
          record {
            is = refl;
            shows = record {
              items = u.items;
              holds = u.holds;
              objects_shown = subst (λ z. ShowObjects u.items z (with_changed (with_objects w f.after) f.named.number (with_cell i f.value)).objects) (sym (cut.width ∙ wide)) u.shown;
              frame_shown = cut_shown u.items set last (with_var v (Some f.before) c.frame) end cut (rw (kept.base, kept.vars, kept.width, gm.base, gm.vars, gm.width) (omega (arith, table, is_end)))
                  (λ key m e. rw (kept.base, kept.vars, kept.width) (subst (λ z. key_at mid key < z) (sym is_end) (keys_within c.items values mid c.frame gm c.fits key m e)))
                  (assigned u.items mid set c.frame v f.before (subst (λ z. v < z) (sym gm.vars) within) (subst (λ z. IsKept z mid set) to_mid kept)
                  (subst (λ z. HaveValue u.items set.slots.items z set.width f.before) to_mid (subst (λ z. HaveValue u.items set.slots.items to z f.before) (sym wide) (value_kept c.items u.items set.slots.items to mid.width f.before all has)))
                  (frame_kept t.items u.items mid c.frame u.kept frame));
              kept = all;
            };
          }

      pub swap_does : (c : Seen old values) (w : World) (b d : ℕ) → w.objects ≡ c.objects → Does c.items new last (Ok tt) (does_simple (setup c.program b d) c.func (core.swap x i v) c.frame w)
      unfolding swap_step
      swap_does c w b d same =
          found_goes c.items new last (Ok tt) (object_of c.func (λ r. permitted_in c.program r.type i) x c.frame w.objects) w _ (object_of_fault c.func (λ r. permitted_in c.program r.type i) x c.frame w.objects) (λ m object.
          found_goes c.items new last (Ok tt) (or_fault missing (slice_get m.object.cells i)) w _ (some_fault missing (slice_get m.object.cells i)) (λ before at.
          found_goes c.items new last (Ok tt) (or_fault no_value (c.frame.vars v)) w _ (some_fault no_value (c.frame.vars v)) (λ value has.
          so_goes c.items new last (Ok tt) (list_all (λ m. is_ok (owned_at is_loose w.objects m)) (objects_in value)) not_owned None w _ (λ free_ones.
          moved_goes c.items new last (Ok tt) (is_inside m.number) loose (objects_in before) w _ (λ one out.
          moved_goes c.items new last (Ok tt) is_loose (inside m.number) (objects_in value) (with_objects w one) _ (λ two into.
          exchanged c w same (record {
            named = m;
            object = object;
            before = before;
            at = some_is missing (slice_get m.object.cells i) before at;
            value = value;
            has = some_is no_value (c.frame.vars v) value has;
            mid = one;
            out = out;
            after = two;
            into = into;
          })))))))

-- a variable that refers to no object can't be swapped
pub swap_nowhere : (h : Heap) (old grown : Values) (x i v : ℕ) (a : Slot) → IsGrown old grown → IsSlotAt grown.slots.items (var_at grown x) a → IsNoObject a → IsRight h old (core.swap x i v) → ⊥
swap_nowhere h old grown x i v a g front none q =
    let f = right_swap h old x i v q in
    let p = object_of_is q.seen.func (λ r. permitted_in q.seen.program r.type i) x q.seen.frame q.world.objects f.named f.object in
    let ref = referred h grown (seen_grown h old grown g q.seen) x a front f.named (subst (λ os. Touched x q.seen.frame os f.named) q.objects p.touched) in
    none ref.object f.named.number ref.is
