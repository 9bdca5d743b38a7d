-- An object is opened into variables.
use Rattle.std.proofs.Common.{◌≡◌, ℕ, suc, true, false, List, [], ◌∷◌, length, Some, None, Ok, refl, sym, ap, ◌∙◌, subst, slice_get}
use Rattle.std.specs.List.{flat_map}
use Rattle.std.proofs.lemmas.Bool.{false≢true}
use Rattle.std.proofs.lemmas.Option.{none-some, same_Some}
use Rattle.vlt_core.specs.Core.{Func, Program}
use Rattle.vlt_core.specs.Core as core
use Rattle.vlt_core.specs.Lookups.{Reference, reference_of, fields_of}
use Rattle.vlt_heap.specs.declared.slots.Obj.{Obj}
use Rattle.vlt_heap.specs.declared.slots.Slot.{Slot}
use Rattle.vlt_heap.specs.declared.slots.Slot.TheVariants.{Object}
use Rattle.vlt_heap.specs.declared.heap.Heap.{Heap}
use Rattle.vlt_heap.specs.Items.{Items, IsMadeAt, without}
use Rattle.vlt_heap.specs.Shown.{IsLive, IsRoot as IsLone, IsHere, Releases}
use Rattle.vlt_heap.proofs.Listed.{kept_without}
use Rattle.vlt_meaning.specs.World.{Value, Owner, objects_in, held, loose, is_inside, Object as Thing, World, Frame, missing, not_empty, fault}
use Rattle.vlt_meaning.specs.Found.{or_fault, Named}
use Rattle.vlt_meaning.specs.Objects.{objects_after_release}
use Rattle.vlt_meaning.specs.Values.{object_of}
use Rattle.vlt_meaning.specs.Step.{Step, goes, with_objects, with_released, with_filled, with_var, is_fillable}
use Rattle.vlt_meaning.specs.Operands.{owning_cells}
use Rattle.vlt_meaning.specs.Run.{any_state, open_step}
use Rattle.vlt_meaning_laws.specs.Machine.Got.{Got, got, stopped, then_step, filled_got}
use Rattle.vlt_meaning_laws.proofs.OfMachine.Gots.{filled_step}
use Rattle.vlt_acts.specs.declared.values.values.Values.{Values}
use Rattle.vlt_acts.specs.Values.Shown.{ShowObjects, var_at, Seen}
use Rattle.vlt_acts.proofs.OfValues.Touching.{Touched, some_fault, some_is, object_of_fault, object_of_is}
use Rattle.vlt_acts.proofs.OfValues.Fronts.{IsSlotAt, IsNoObject, referred}
use Rattle.vlt_acts.proofs.OfValues.Fronts as fronts
use Rattle.vlt_acts.specs.Acts.Acts.{Does}
use Rattle.vlt_acts.proofs.OfActs.Keeping.{frame_kept}
use Rattle.vlt_acts.proofs.OfActs.Showing.{release_shown}
use Rattle.vlt_acts.specs.Objects.Owned.{Sees, IsHeldAt, taken_out}
use Rattle.vlt_acts.specs.Objects.Cases.{DoesFor}
use Rattle.vlt_acts.specs.Objects.Taken.{Holder, owned_from, CanTake, Taken, IsTaken, TakesAll, IsRightIn}
use Rattle.vlt_acts.proofs.OfObjects.Hanging.{moved_others}
use Rattle.vlt_acts.proofs.OfObjects.Owning.{Meets, holder_meets, meets_live, meets_root, meets_here}
use Rattle.vlt_acts.proofs.OfObjects.Going.{IsSafe, found_safe, so_safe, moved_safe, released_safe, fault_does, found_goes, moved_goes, released_goes}
use Rattle.vlt_acts.proofs.OfObjects.Swapping.{object_holds}

-- as many values as variables
filled_count : (f : Func) (vs : List ℕ) (xs : List Value) (frame : Frame) (w : World) (go : Frame → Step) → IsSafe (with_filled f vs xs frame w go) → length xs ≡ length vs
unfolding with_filled
filled_count f [] [] frame w go safe = refl
filled_count f [] (a ∷ xs) frame w go safe = absurd (false≢true (sym (safe (fault missing None) w refl)))
filled_count f (v ∷ vs) [] frame w go safe = absurd (false≢true (sym (safe (fault missing None) w refl)))
filled_count f (v ∷ vs) (a ∷ xs) frame w go safe =
    let s = so_safe (is_fillable f v frame) not_empty None w (λ w. with_filled f vs xs (with_var v (Some a) frame) w go) safe in
    ap suc (filled_count f vs xs (with_var v (Some a) frame) w go s.1)

-- ---- what it finds

pub record Opens (p : Program) (f : Func) (x : ℕ) (vs : List ℕ) (ref : Reference) (frame : Frame) (objects : List Thing) : Type 0 where
  pub named : Named
  pub object : object_of f any_state x frame objects ≡ Ok named
  pub mid : List Thing
  pub out : taken_out named.number (flat_map objects_in (owned_from (fields_of p ref.type) 0 named.object)) objects ≡ Ok mid

record RightOpen (p : Program) (f : Func) (heap : Heap) (values : Values) (x : ℕ) (vs : List ℕ) (ref : Reference) : Type 0 where
  seen : Seen heap values
  world : World
  same : world.objects ≡ seen.objects
  is_ref : reference_of f x ≡ Some ref
  opens : Opens p seen.func x vs ref seen.frame world.objects
  few : length (owned_from (fields_of p ref.type) 0 opens.named.object) ≡ length vs
  after : World
  safe : IsSafe (with_filled seen.func vs (owned_from (fields_of p ref.type) 0 opens.named.object) seen.frame after (λ frame. goes frame after))

right_open : (p : Program) (f : Func) (heap : Heap) (values : Values) (x : ℕ) (vs : List ℕ) → IsRightIn p f heap values (core.open_into x vs) → (ref : Reference) × RightOpen p f heap values x vs ref
unfolding open_step
right_open p f heap values x vs q =
    let c = q.right.seen in
    let w = q.right.world in
    let a = found_safe (or_fault missing (reference_of c.func x)) w _ (some_fault missing (reference_of c.func x)) q.right.right in
    let b = found_safe (object_of c.func any_state x c.frame w.objects) w _ (object_of_fault c.func any_state x c.frame w.objects) a.safe in
    let cells = owning_cells (fields_of c.program a.value.type) b.value.object.cells in
    let m = moved_safe (is_inside b.value.number) loose (flat_map objects_in cells) w (λ w. with_released c.program b.value.number w (λ w. with_filled c.func vs cells c.frame w (λ frame. goes frame w))) b.safe in
    let r = released_safe c.program b.value.number (with_objects w m.objects) (λ w. with_filled c.func vs cells c.frame w (λ frame. goes frame w)) m.safe in
    let z : World = with_objects w (objects_after_release b.value.number m.objects) in (
      a.value,
      record {
        seen = c;
        world = w;
        same = q.right.objects;
        is_ref = ap (λ g. reference_of g x) (sym q.func) ∙ some_is missing (reference_of c.func x) a.value a.is;
        opens = record { named = b.value; object = b.is; mid = m.objects; out = ap (λ y. taken_out b.value.number (flat_map objects_in (owning_cells (fields_of y a.value.type) b.value.object.cells)) w.objects) (sym q.program) ∙ m.is };
        few = ap (λ y. length (owning_cells (fields_of y a.value.type) b.value.object.cells)) (sym q.program) ∙ filled_count c.func vs cells c.frame z (λ frame. goes frame z) r.1;
        after = z;
        safe = subst (λ y. IsSafe (with_filled c.func vs (owning_cells (fields_of y a.value.type) b.value.object.cells) c.frame z (λ frame. goes frame z))) q.program r.1;
      },
    )

module _ (p : Program) (f : Func) (old : Heap) (values : Values) (x : ℕ) (vs : List ℕ) (a : Slot) (o : Obj) (k : ℕ) (front : IsSlotAt values.slots.items (var_at values x) a) (is : a ≡ Object o k) (ref : Reference) (is_ref : reference_of f x ≡ Some ref) where
  -- the object, which the variable's slot goes to
  number_same : (c : Seen old values) (objects : List Thing) → objects ≡ c.objects → (n : Opens p c.func x vs ref c.frame objects) → n.named.number ≡ k
  number_same c objects same n =
      let q = object_of_is c.func any_state x c.frame objects n.named n.object in
      let r = referred old values c x a front n.named (subst (λ os. Touched x c.frame os n.named) same q.touched) in
      sym (fronts.same_object (sym is ∙ r.is)).1

  abbrev open_holder : (c : Seen old values) (objects : List Thing) → objects ≡ c.objects → (n : Opens p c.func x vs ref c.frame objects) → IsMadeAt c.items o.0 k → Holder old values k o.0
  open_holder c objects same n made =
      let q = object_of_is c.func any_state x c.frame objects n.named n.object in
      let h = object_holds c.func any_state x c.frame objects n.named n.object in
      record {
        items = c.items;
        objects = objects;
        frame = c.frame;
        holds = c.holds;
        shown = subst (ShowObjects c.items values.width) (sym same) c.shown;
        fits = c.fits;
        held = record { object = n.named.object; at = ap (slice_get objects) (sym (number_same c objects same n)) ∙ q.touched.at; depth = h.depth; key = h.key; owner = h.is; made = made };
      }

  open_made : (c : Seen old values) (objects : List Thing) → objects ≡ c.objects → (n : Opens p c.func x vs ref c.frame objects) → IsMadeAt c.items o.0 k
  open_made c objects same n =
      let q = object_of_is c.func any_state x c.frame objects n.named n.object in
      let r = referred old values c x a front n.named (subst (λ os. Touched x c.frame os n.named) same q.touched) in
      let s = fronts.same_object (sym is ∙ r.is) in
      subst (λ z. IsMadeAt c.items z.0 k) (sym s.0) (subst (IsMadeAt c.items r.object.0) (sym s.1) r.made)

  open_out : (c : Seen old values) (objects : List Thing) (same : objects ≡ c.objects) (n : Opens p c.func x vs ref c.frame objects) → taken_out k (flat_map objects_in (owned_from (fields_of p ref.type) 0 n.named.object)) objects ≡ Ok n.mid
  open_out c objects same n = subst (λ m. taken_out m (flat_map objects_in (owned_from (fields_of p ref.type) 0 n.named.object)) objects ≡ Ok n.mid) (number_same c objects same n) n.out

  right_at : IsRightIn p f old values (core.open_into x vs) → RightOpen p f old values x vs ref
  right_at q = let r = right_open p f old values x vs q in subst (RightOpen p f old values x vs) (same_Some r.0 ref (sym r.1.is_ref ∙ is_ref)) r.1

  pub open_can : (n : ℕ) → length vs ≡ n → IsRightIn p f old values (core.open_into x vs) → CanTake old values k o.0 (fields_of p ref.type) 0 n
  open_can n long q =
      let r = right_at q in
      record {
        holder = open_holder r.seen r.world.objects r.same r.opens (open_made r.seen r.world.objects r.same r.opens);
        few = r.few ∙ long;
        after = r.opens.mid;
        is = open_out r.seen r.world.objects r.same r.opens;
      }

  module _ (mid : Heap) (after : Values) (takes : TakesAll k o.0 (fields_of p ref.type) 0 vs old values mid after) where
    -- the object once its owning fields are taken
    abbrev left_seen : (before : Items) (frame : Frame) (objects : List Thing) → Taken before mid after frame objects → Sees mid []
    left_seen before frame objects t = record { items = t.items; width = after.width; objects = objects; parts = []; holds = t.holds; shown = t.shown; have = tt }

    abbrev left_held : (c : Seen old values) (objects : List Thing) (same : objects ≡ c.objects) (n : Opens p c.func x vs ref c.frame objects) (frame : Frame) (t : Taken c.items mid after frame n.mid) → IsHeldAt t.items n.mid k o.0
    left_held c objects same n frame t =
        let h = object_holds c.func any_state x c.frame objects n.named n.object in
        let q = object_of_is c.func any_state x c.frame objects n.named n.object in
        record {
          object = n.named.object;
          at = moved_others (is_inside k) loose (flat_map objects_in (owned_from (fields_of p ref.type) 0 n.named.object)) objects n.mid k n.named.object (ap (slice_get objects) (sym (number_same c objects same n)) ∙ q.touched.at) (ap (is_inside k) h.is) (open_out c objects same n);
          depth = h.depth;
          key = h.key;
          owner = h.is;
          made = t.kept o.0 k (open_made c objects same n);
        }

    -- the variables are filled, where the statement doesn't go wrong
    taken_right : (q : IsRightIn p f old values (core.open_into x vs)) → (frame : Frame) × Taken (right_at q).seen.items mid after frame (right_at q).opens.mid
    unfolding then_step
    taken_right q =
        let r = right_at q in
        let cells = owned_from (fields_of p ref.type) 0 r.opens.named.object in
        by (filled_got r.seen.func vs cells r.seen.frame r.after) (subst IsSafe (filled_step r.seen.func vs cells r.seen.frame r.after (λ frame. goes frame r.after)) r.safe)
        (takes (open_holder r.seen r.world.objects r.same r.opens (open_made r.seen r.world.objects r.same r.opens)) r.seen.func r.after r.opens.mid (open_out r.seen r.world.objects r.same r.opens))
      where
        by : (y : Got (Unit {0})) → IsSafe (then_step y (λ u frame w. goes frame (right_at q).after)) → IsTaken (right_at q).seen.items mid after (right_at q).opens.mid y → (frame : Frame) × Taken (right_at q).seen.items mid after frame (right_at q).opens.mid
        by (got u frame w) safe t = (frame, t)
        by (stopped e w) safe t = absurd (false≢true (sym (safe e w refl) ∙ t))

    abbrev open_holds : IsRightIn p f old values (core.open_into x vs) → Owner
    open_holds q = let r = right_at q in let h = object_holds r.seen.func any_state x r.seen.frame r.world.objects r.opens.named r.opens.object in held h.depth h.key

    open_meets : (q : IsRightIn p f old values (core.open_into x vs)) → Meets mid (taken_right q).1.items after.width (right_at q).opens.mid o k (open_holds q)
    open_meets q =
        let r = right_at q in
        let t = taken_right q in
        holder_meets mid [] (left_seen r.seen.items t.0 r.opens.mid t.1) o k (left_held r.seen r.world.objects r.same r.opens t.0 t.1)

    pub open_live : IsRightIn p f old values (core.open_into x vs) → IsLive mid o
    open_live q = let r = right_at q in let t = taken_right q in meets_live mid [] (left_seen r.seen.items t.0 r.opens.mid t.1) o k _ (open_meets q)

    pub open_root : IsRightIn p f old values (core.open_into x vs) → IsLone mid o
    open_root q = let r = right_at q in let t = taken_right q in meets_root mid [] (left_seen r.seen.items t.0 r.opens.mid t.1) o k _ (open_meets q) refl

    pub open_here : IsRightIn p f old values (core.open_into x vs) → IsHere mid o
    open_here q = let r = right_at q in let t = taken_right q in meets_here mid [] (left_seen r.seen.items t.0 r.opens.mid t.1) o k _ (open_meets q) refl

    pub open_does : (new : Heap) → Releases o mid new → DoesFor p f old values new after (Ok tt) (core.open_into x vs)
    unfolding open_step then_step
    open_does new releases c w b depth program func same =
        found_goes c.items new after (Ok tt) (or_fault missing (reference_of c.func x)) w _ (some_fault missing (reference_of c.func x)) (λ g at.
        let e : g ≡ ref = same_Some g ref (sym (some_is missing (reference_of c.func x) g at) ∙ ap (λ z. reference_of z x) func ∙ is_ref) in
        found_goes c.items new after (Ok tt) (object_of c.func any_state x c.frame w.objects) w _ (object_of_fault c.func any_state x c.frame w.objects) (λ m object.
        moved_goes c.items new after (Ok tt) (is_inside m.number) loose (flat_map objects_in (owning_cells (fields_of c.program g.type) m.object.cells)) w _ (λ one out.
        released_goes c.items new after (Ok tt) c.program m.number (with_objects w one) _ (λ may.
        let cells : owning_cells (fields_of c.program g.type) m.object.cells ≡ owned_from (fields_of p ref.type) 0 m.object = ap (λ z. owning_cells (fields_of z g.type) m.object.cells) program ∙ ap (λ z. owning_cells (fields_of p z.type) m.object.cells) e in
        let n : Opens p c.func x vs ref c.frame w.objects = record { named = m; object = object; mid = one; out = ap (λ xs. taken_out m.number (flat_map objects_in xs) w.objects) (sym cells) ∙ out } in
        let z : World = with_objects w (objects_after_release m.number one) in
        subst (λ xs. Does c.items new after (Ok tt) (with_filled c.func vs xs c.frame z (λ frame. goes frame z))) (sym cells)
        (subst (Does c.items new after (Ok tt)) (sym (filled_step c.func vs (owned_from (fields_of p ref.type) 0 m.object) c.frame z (λ frame. goes frame z)))
        (ended c w same n z refl (filled_got c.func vs (owned_from (fields_of p ref.type) 0 m.object) c.frame z)
        (takes (open_holder c w.objects same n (open_made c w.objects same n)) c.func z one (open_out c w.objects same n))))))))
      where
        ended : (c : Seen old values) (w : World) (same : w.objects ≡ c.objects) (n : Opens p c.func x vs ref c.frame w.objects) (z : World) → z.objects ≡ objects_after_release n.named.number n.mid → (y : Got (Unit {0})) → IsTaken c.items mid after n.mid y
            → Does c.items new after (Ok tt) (then_step y (λ u frame v. goes frame z))
        ended c w same n z is_z (got u frame v) t =
            let m = holder_meets mid [] (left_seen c.items frame n.mid t) o k (left_held c w.objects same n frame t) in
            record {
              is = refl;
              shows = record {
                items = without k t.items;
                holds = releases t.items k m.item t.holds m.at m.place;
                objects_shown = subst (ShowObjects (without k t.items) after.width) (ap (λ j. objects_after_release j n.mid) (sym (number_same c w.objects same n)) ∙ sym is_z) (release_shown t.items after.width k n.mid t.shown);
                frame_shown = frame_kept t.items (without k t.items) after frame (kept_without t.items k) t.fits;
                kept = λ a j made. kept_without t.items k a j (t.kept a j made);
              };
            }
        ended c w same n z is_z (stopped e v) t = fault_does c.items new after (Ok tt) e v t

-- a variable that refers to no object can't be opened
pub open_nowhere : (p : Program) (f : Func) (heap : Heap) (values : Values) (x : ℕ) (vs : List ℕ) (a : Slot) → IsSlotAt values.slots.items (var_at values x) a → IsNoObject a → IsRightIn p f heap values (core.open_into x vs) → ⊥
open_nowhere p f heap values x vs a front none q =
    let r = (right_open p f heap values x vs q).1 in
    let t = object_of_is r.seen.func any_state x r.seen.frame r.world.objects r.opens.named r.opens.object in
    let ref = referred heap values r.seen x a front r.opens.named (subst (λ os. Touched x r.seen.frame os r.opens.named) r.same t.touched) in
    none ref.object r.opens.named.number ref.is

pub open_none : (p : Program) (f : Func) (heap : Heap) (values : Values) (x : ℕ) (vs : List ℕ) → IsRightIn p f heap values (core.open_into x vs) → reference_of f x ≡ None → ⊥
open_none p f heap values x vs q none = let r = right_open p f heap values x vs q in none-some r.0 (sym none ∙ r.1.is_ref)
