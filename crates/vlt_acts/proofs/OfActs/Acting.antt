-- What the statements come to.
use Rattle.std.proofs.Common.{◌≡◌, ◌≢◌, ℕ, ◌<◌, ◌≤◌, ◌==◌, not, Bool, true, false, List, Option, Some, None, Result, Ok, Err, refl, sym, ap, ◌∙◌, subst, arith, slice_get}
use Rattle.std.proofs.lemmas.Bool.{false≢true}
use Rattle.std.proofs.lemmas.Bool.Decides.{nat_tests}
use Rattle.vlt_ops.specs.declared.TrapKind.{TrapKind}
use Rattle.vlt_core.specs.Core.{States, Expr, Func, pure, move, pack, set, become, release, adopt, own}
use Rattle.vlt_core.specs.Lookups.{Reference, release_set}
use Rattle.vlt_rings.specs.Things.{IsLiveAt}
use Rattle.vlt_heap.specs.declared.slots.Obj.{Obj}
use Rattle.vlt_heap.specs.declared.slots.Slot.{Slot}
use Rattle.vlt_heap.specs.declared.slots.Slot.TheVariants.{Object, Owned}
use Rattle.vlt_heap.specs.declared.heap.Heap.{Heap}
use Rattle.vlt_heap.specs.Items.{Item, Items, IsAt, with_item, with_state, with_parent, without}
use Rattle.vlt_heap.specs.Shown.{Holds, IsLive, IsRoot as IsLone, IsHere, Changes, Releases, Hangs}
use Rattle.vlt_heap.proofs.Listed.{kept_with, kept_without}
use Rattle.vlt_heap.proofs.Calls.{live_at, root_at, here_at, places_apart}
use Rattle.vlt_meaning.specs.World.{Value, one, reference, owned, loose, adopted_by, not_empty, no_value, same_object, Object as Thing, World, Frame, Outcome, trap, fault, done, fuel_end, heap_end, depth_end, input_end, answers_end, bad_answer, is_fault, wrong_state}
use Rattle.vlt_meaning.specs.Found as sd
use Rattle.vlt_meaning.specs.Found.{Named, or_fault}
use Rattle.vlt_meaning.specs.Objects.{is_releasable, objects_after_release, with_changed_object, with_owner}
use Rattle.vlt_meaning.specs.Objects as model
use Rattle.vlt_meaning.specs.Values.{value_of, object_of}
use Rattle.vlt_meaning.specs.Step.{Step, goes, ends, with_found, where_so, with_objects, with_changed, with_released, with_var, fill, is_fillable}
use Rattle.vlt_meaning.specs.Operands.{with_operand}
use Rattle.vlt_meaning.specs.Run.{does_simple, any_state}
use Rattle.vlt_acts.specs.declared.values.values.Values.{Values}
use Rattle.vlt_acts.specs.Values.Parts.{HaveValue}
use Rattle.vlt_acts.specs.Values.Filled.{IsFilled, IsSingleSlot}
use Rattle.vlt_acts.specs.Values.Shown.{ShowsObject, ShowObjects, ShowsFrame, var_at, Seen, IsKept, IsCopied, IsWritten}
use Rattle.vlt_acts.proofs.OfValues.Touching.{OrFault, Packed, object_of_fault, object_of_is}
use Rattle.vlt_acts.proofs.OfValues.Fronts.{IsSlotAt, IsNoObject, packed_object, following, referred}
use Rattle.vlt_acts.proofs.OfValues.Fronts as fronts
use Rattle.vlt_acts.proofs.OfValues.Pushing.{emptied_shown, owner_shown}
use Rattle.vlt_acts.specs.Acts.Acts.{setup, HasDone, Does, IsRight}
use Rattle.vlt_acts.proofs.OfActs.Keeping.{frame_kept, single_at, assigned}
use Rattle.vlt_acts.proofs.OfActs.Showing.{one_shown, release_shown}

-- ---- the object of a tracked variable

-- the object that a variable's slot goes to, as the heap has it
pub record Met (h : Heap) (v : Values) (c : Seen h v) (m : Named) (o : Obj) : Type 0 where
  pub item : Item
  pub at : IsAt c.items m.number item
  pub place : item.place ≡ o.0
  pub shown : ShowsObject c.items v.width item m.object
  pub object : slice_get c.objects m.number ≡ Some m.object

pub met : (h : Heap) (v : Values) (c : Seen h v) (x : ℕ) (a : Slot) → IsSlotAt v.slots.items (var_at v x) a → (m : Named) → Packed x c.frame c.objects m → (o : Obj) (n : ℕ) → a ≡ Object o n → Met h v c m o
met h v c x a is m p o n e =
    let ref = referred h v c x a is m p.touched in
    let s = fronts.same_object (sym e ∙ ref.is) in
    let b = following c.items v.width m.number c.objects m.object c.shown p.touched.at p.touched.live in
    record { item = b.item; at = b.at; place = ref.made.place b.item b.at ∙ ap (λ q. q.0) (sym s.0); shown = b.shown; object = p.touched.at }

-- it is live, it has no parent, and it isn't out
pub met_live : (h : Heap) (v : Values) (c : Seen h v) (m : Named) (o : Obj) → Met h v c m o → IsLive h o
met_live h v c m o k = subst (IsLiveAt h.places) k.place (live_at h c.items c.holds m.number k.item k.at)

pub met_root : (h : Heap) (v : Values) (c : Seen h v) (x : ℕ) (m : Named) (o : Obj) → Packed x c.frame c.objects m → Met h v c m o → IsLone h o
met_root h v c x m o p k = root_at h c.items c.holds m.number k.item o k.at k.place (k.shown.parent ∙ p.root.above)

pub met_here : (h : Heap) (v : Values) (c : Seen h v) (x : ℕ) (m : Named) (o : Obj) → Packed x c.frame c.objects m → Met h v c m o → IsHere h o
met_here h v c x m o p k = here_at h c.items c.holds m.number k.item o k.at k.place (k.shown.is_out ∙ p.root.here)

-- ---- a statement that doesn't go wrong finds it

pub record Found (x : ℕ) (frame : Frame) (objects : List Thing) : Type 0 where
  pub named : Named
  pub packed : Packed x frame objects named

pub right_found : (f : Func) (states : Reference → States) (x : ℕ) (frame : Frame) (objects : List Thing) (w : World) (go : Named → Step) → w.objects ≡ objects
    → ((o : Outcome) (u : World) → with_found (object_of f states x frame w.objects) w go ≡ ends o u → is_fault o ≡ false) → Found x frame objects
unfolding with_found
right_found f states x frame objects w go same right = by (object_of f states x frame w.objects) refl (object_of_fault f states x frame w.objects) right
  where
    by : (q : sd.Found Named) → object_of f states x frame w.objects ≡ q → OrFault q → ((o : Outcome) (u : World) → with_found q w go ≡ ends o u → is_fault o ≡ false) → Found x frame objects
    by (Ok m) e bad r = record { named = m; packed = subst (λ os. Packed x frame os m) same (object_of_is f states x frame w.objects m e) }
    by (Err o) e bad r = absurd (false≢true (sym (r o w refl) ∙ bad))

-- what follows from what is found, or it is a fault
pub found_does : (f : Func) (states : Reference → States) (x : ℕ) (frame : Frame) (w : World) (go : Named → Step) (items : Items) (h : Heap) (v : Values) (r : Result (Unit {0}) TrapKind)
    → ((m : Named) → Packed x frame w.objects m → Does items h v r (go m)) → Does items h v r (with_found (object_of f states x frame w.objects) w go)
unfolding with_found
found_does f states x frame w go items h v r is = by (object_of f states x frame w.objects) refl (object_of_fault f states x frame w.objects)
  where
    by : (q : sd.Found Named) → object_of f states x frame w.objects ≡ q → OrFault q → Does items h v r (with_found q w go)
    by (Ok m) e bad = is m (object_of_is f states x frame w.objects m e)
    by (Err done) e bad = bad
    by (Err (trap t)) e bad = absurd (false≢true bad)
    by (Err fuel_end) e bad = bad
    by (Err heap_end) e bad = bad
    by (Err depth_end) e bad = bad
    by (Err input_end) e bad = bad
    by (Err answers_end) e bad = bad
    by (Err (bad_answer n)) e bad = bad
    by (Err (fault s n)) e bad = bad

-- no object is there where the slot refers to none
pub nowhere : (h : Heap) (v : Values) (c : Seen h v) (x : ℕ) (a : Slot) → IsSlotAt v.slots.items (var_at v x) a → (m : Named) → Packed x c.frame c.objects m → IsNoObject a → ⊥
nowhere h v c x a is m p none = let ref = referred h v c x a is m p.touched in none ref.object m.number ref.is

-- ---- the statements

pub become_does : (old new : Heap) (v : Values) (c : Seen old v) (w : World) (n d x s : ℕ) (a : Slot) (o : Obj) (k : ℕ) → w.objects ≡ c.objects → IsSlotAt v.slots.items (var_at v x) a → a ≡ Object o k → Changes o (with_state s) old new
    → Does c.items new v (Ok tt) (does_simple (setup c.program n d) c.func (become x s) c.frame w)
become_does old new v c w n d x s a o k same is e changes =
    found_does c.func any_state x c.frame w (λ m. goes c.frame (with_changed w m.number (model.with_state s))) c.items new v (Ok tt) (λ m p.
    let q = met old v c x a is m (subst (λ os. Packed x c.frame os m) same p) o k e in
    let kept = kept_with c.items m.number q.item (with_state s q.item) q.at refl in
    record {
      is = refl;
      shows = record {
        items = with_item m.number (with_state s q.item) c.items;
        holds = changes c.items m.number q.item c.holds q.at q.place;
        objects_shown = one_shown c.items v.width m.number w.objects q.item (with_state s q.item) m.object (model.with_state s) kept (subst (ShowObjects c.items v.width) (sym same) c.shown) q.at p.touched.at
            (record { live = q.shown.live; type = q.shown.type; state = refl; parent = q.shown.parent; is_out = q.shown.is_out; cells = q.shown.cells });
        frame_shown = frame_kept c.items _ v c.frame kept c.fits;
        kept = kept;
      };
    })

pub nothing_becomes : (h : Heap) (v : Values) (c : Seen h v) (w : World) (n d x s : ℕ) (a : Slot) → w.objects ≡ c.objects → IsSlotAt v.slots.items (var_at v x) a → IsNoObject a
    → Does c.items h v (Ok tt) (does_simple (setup c.program n d) c.func (become x s) c.frame w)
nothing_becomes h v c w n d x s a same is none =
    found_does c.func any_state x c.frame w (λ m. goes c.frame (with_changed w m.number (model.with_state s))) c.items h v (Ok tt) (λ m p. absurd (nowhere h v c x a is m (subst (λ os. Packed x c.frame os m) same p) none))

pub release_does : (old new : Heap) (v : Values) (c : Seen old v) (w : World) (n d x : ℕ) (a : Slot) (o : Obj) (k : ℕ) → w.objects ≡ c.objects → IsSlotAt v.slots.items (var_at v x) a → a ≡ Object o k → Releases o old new
    → Does c.items new v (Ok tt) (does_simple (setup c.program n d) c.func (release x) c.frame w)
unfolding with_released where_so
release_does old new v c w n d x a o k same is e releases =
    found_does c.func any_state x c.frame w (λ m. with_released c.program m.number w (goes c.frame)) c.items new v (Ok tt) (λ m p.
    let q = met old v c x a is m (subst (λ os. Packed x c.frame os m) same p) o k e in
    let kept = kept_without c.items m.number in
    by m (is_releasable c.program w.objects m.number) (record {
      is = refl;
      shows = record {
        items = without m.number c.items;
        holds = releases c.items m.number q.item c.holds q.at q.place;
        objects_shown = release_shown c.items v.width m.number w.objects (subst (ShowObjects c.items v.width) (sym same) c.shown);
        frame_shown = frame_kept c.items _ v c.frame kept c.fits;
        kept = kept;
      };
    }))
  where
    by : (m : Named) (t : Bool) → HasDone c.items new v (Ok tt) c.frame (with_objects w (objects_after_release m.number w.objects))
        → Does c.items new v (Ok tt) (where_so t wrong_state (Some m.number) w (λ w. goes c.frame (with_objects w (objects_after_release m.number w.objects))))
    by m true has = has
    by m false has = refl

pub nothing_releases : (h : Heap) (v : Values) (c : Seen h v) (w : World) (n d x : ℕ) (a : Slot) → w.objects ≡ c.objects → IsSlotAt v.slots.items (var_at v x) a → IsNoObject a
    → Does c.items h v (Ok tt) (does_simple (setup c.program n d) c.func (release x) c.frame w)
nothing_releases h v c w n d x a same is none =
    found_does c.func any_state x c.frame w (λ m. with_released c.program m.number w (goes c.frame)) c.items h v (Ok tt) (λ m p. absurd (nowhere h v c x a is m (subst (λ os. Packed x c.frame os m) same p) none))

pub set_does : (h : Heap) (old new : Values) (c : Seen h old) (w : World) (n d x to : ℕ) (e : Expr) (r : Result (Unit {0}) TrapKind) → w.objects ≡ c.objects → x < old.vars → to ≡ var_at old x → IsKept to old new
    → IsWritten c.items new to r (value_of c.program c.func e c.frame c.objects) → Does c.items h new r (does_simple (setup c.program n d) c.func (set x e) c.frame w)
unfolding with_found
set_does h old new c w n d x to e r same within is kept written =
    by (value_of c.program c.func e c.frame w.objects) (subst (λ os. IsWritten c.items new to r (value_of c.program c.func e c.frame os)) (sym same) written)
  where
    by : (q : sd.Found Value) → IsWritten c.items new to r q → Does c.items h new r (with_found q w (λ a. goes (with_var x (Some a) c.frame) w))
    by (Ok a) k = record {
      is = k.is;
      shows = record {
        items = c.items;
        holds = c.holds;
        objects_shown = subst (ShowObjects c.items new.width) (sym same) (subst (λ z. ShowObjects c.items z c.objects) (sym kept.width) c.shown);
        frame_shown = assigned c.items old new c.frame x a within (subst (λ z. IsKept z old new) is kept) (subst (λ z. HaveValue c.items new.slots.items z new.width a) is k.value) c.fits;
        kept = λ b m made. made;
      };
    }
    by (Err done) k = k
    by (Err (trap t)) k = k
    by (Err fuel_end) k = k
    by (Err heap_end) k = k
    by (Err depth_end) k = k
    by (Err input_end) k = k
    by (Err answers_end) k = k
    by (Err (bad_answer m)) k = k
    by (Err (fault s m)) k = k

-- ---- adoption

pub record FoundTwo (x r : ℕ) (frame : Frame) (objects : List Thing) : Type 0 where
  pub child : Named
  pub parent : Named
  pub child_packed : Packed x frame objects child
  pub parent_packed : Packed r frame objects parent
  pub other : child.number ≢ parent.number

not_same : (n m : ℕ) → not (n == m) ≡ true → n ≢ m
not_same n m e same = by same e
  where
    by : n ≡ m → not (n == m) ≡ true → ⊥
    by same e = absurd (grind (arith, nat_tests))

pub right_adopt : (h : Heap) (v : Values) (y x r : ℕ) (q : IsRight h v (adopt y x r)) → FoundTwo x r q.seen.frame q.seen.objects
unfolding with_found where_so
right_adopt h v y x r q =
    first (object_of q.seen.func release_states x q.seen.frame q.world.objects) refl (object_of_fault q.seen.func release_states x q.seen.frame q.world.objects) q.right
  where
    release_states : Reference → States
    release_states t = release_set q.seen.program t.type

    done_with : Named → Named → World → Step
    done_with n a w = goes (with_var y (Some (one (reference n.number))) q.seen.frame) (with_changed w n.number (with_owner (adopted_by a.number)))

    third : (n a : Named) → Packed x q.seen.frame q.world.objects n → Packed r q.seen.frame q.world.objects a → (t : Bool) → not (n.number == a.number) ≡ t
        → ((o : Outcome) (u : World) → where_so t same_object (Some n.number) q.world (done_with n a) ≡ ends o u → is_fault o ≡ false) → FoundTwo x r q.seen.frame q.seen.objects
    third n a pn pa true e right = record {
      child = n;
      parent = a;
      child_packed = subst (λ os. Packed x q.seen.frame os n) q.objects pn;
      parent_packed = subst (λ os. Packed r q.seen.frame os a) q.objects pa;
      other = not_same n.number a.number e;
    }
    third n a pn pa false e right = absurd (false≢true (sym (right (fault same_object (Some n.number)) q.world refl)))

    second : (n : Named) → Packed x q.seen.frame q.world.objects n → (z : sd.Found Named) → object_of q.seen.func any_state r q.seen.frame q.world.objects ≡ z → OrFault z
        → ((o : Outcome) (u : World) → with_found z q.world (λ a. where_so (not (n.number == a.number)) same_object (Some n.number) q.world (done_with n a)) ≡ ends o u → is_fault o ≡ false) → FoundTwo x r q.seen.frame q.seen.objects
    second n pn (Ok a) e bad right = third n a pn (object_of_is q.seen.func any_state r q.seen.frame q.world.objects a e) (not (n.number == a.number)) refl right
    second n pn (Err o) e bad right = absurd (false≢true (sym (right o q.world refl) ∙ bad))

    first : (z : sd.Found Named) → object_of q.seen.func release_states x q.seen.frame q.world.objects ≡ z → OrFault z
        → ((o : Outcome) (u : World) → with_found z q.world (λ n. with_found (object_of q.seen.func any_state r q.seen.frame q.world.objects) q.world (λ a. where_so (not (n.number == a.number)) same_object (Some n.number) q.world (done_with n a))) ≡ ends o u
        → is_fault o ≡ false) → FoundTwo x r q.seen.frame q.seen.objects
    first (Ok n) e bad right = second n (object_of_is q.seen.func release_states x q.seen.frame q.world.objects n e) (object_of q.seen.func any_state r q.seen.frame q.world.objects) refl (object_of_fault q.seen.func any_state r q.seen.frame q.world.objects) right
    first (Err o) e bad right = absurd (false≢true (sym (right o q.world refl) ∙ bad))

-- different objects are in different places
pub met_apart : (h : Heap) (v : Values) (c : Seen h v) (m k : Named) (o q : Obj) → Met h v c m o → Met h v c k q → m.number ≢ k.number → o.0 ≢ q.0
met_apart h v c m k o q a b other same = places_apart h c.items c.holds k.number m.number b.item a.item b.at a.at other (a.place ∙ same ∙ sym b.place)

pub adopt_does : (old new : Heap) (v u : Values) (c : Seen old v) (w : World) (n d y x r to : ℕ) (a b : Slot) (o q : Obj) (k l : ℕ) → w.objects ≡ c.objects → IsSlotAt v.slots.items (var_at v x) a → a ≡ Object o k → IsSlotAt v.slots.items (var_at v r) b → b ≡ Object q l
    → y < v.vars → 1 ≤ v.width → to ≡ var_at v y → IsKept to v u → IsFilled (IsSingleSlot (Object o k)) u.slots.items to v.width → Hangs o q old new → Does c.items new u (Ok tt) (does_simple (setup c.program n d) c.func (adopt y x r) c.frame w)
unfolding where_so
adopt_does old new v u c w n d y x r to a b o q k l same is e is_b e_b within wide is_to kept filled hangs =
    found_does c.func release_states x c.frame w (λ m. with_found (object_of c.func any_state r c.frame w.objects) w (λ p. where_so (not (m.number == p.number)) same_object (Some m.number) w (done_with m p))) c.items new u (Ok tt) (λ m pm.
    found_does c.func any_state r c.frame w (λ p. where_so (not (m.number == p.number)) same_object (Some m.number) w (done_with m p)) c.items new u (Ok tt) (λ p pp.
    by m p (not (m.number == p.number)) (adopted m p pm pp)))
  where
    release_states : Reference → States
    release_states t = release_set c.program t.type

    done_with : Named → Named → World → Step
    done_with m p w = goes (with_var y (Some (one (reference m.number))) c.frame) (with_changed w m.number (with_owner (adopted_by p.number)))

    by : (m p : Named) (t : Bool) → HasDone c.items new u (Ok tt) (with_var y (Some (one (reference m.number))) c.frame) (with_changed w m.number (with_owner (adopted_by p.number)))
        → Does c.items new u (Ok tt) (where_so t same_object (Some m.number) w (done_with m p))
    by m p true has = has
    by m p false has = refl

    adopted : (m p : Named) → Packed x c.frame w.objects m → Packed r c.frame w.objects p
        → HasDone c.items new u (Ok tt) (with_var y (Some (one (reference m.number))) c.frame) (with_changed w m.number (with_owner (adopted_by p.number)))
    adopted m p pm pp =
        let pm2 = subst (λ os. Packed x c.frame os m) same pm in
        let s = met old v c x a is m pm2 o k e in
        let t = met old v c r b is_b p (subst (λ os. Packed r c.frame os p) same pp) q l e_b in
        let ref = referred old v c x a is m pm2.touched in
        let number : Object o k ≡ Object ref.object m.number = sym e ∙ ref.is in
        let items : Items = with_item m.number (with_parent (Some p.number) s.item) c.items in
        let keep = kept_with c.items m.number s.item (with_parent (Some p.number) s.item) s.at refl in
        record {
          is = refl;
          shows = record {
            items = items;
            holds = hangs c.items m.number s.item c.holds s.at s.place p.number t.item t.at t.place;
            objects_shown = subst (λ z. ShowObjects items z (with_changed_object m.number (with_owner (adopted_by p.number)) w.objects)) (sym kept.width)
                (one_shown c.items v.width m.number w.objects s.item (with_parent (Some p.number) s.item) m.object (with_owner (adopted_by p.number)) keep (subst (ShowObjects c.items v.width) (sym same) c.shown) s.at pm.touched.at
                (record { live = refl; type = s.shown.type; state = s.shown.state; parent = refl; is_out = s.shown.is_out ∙ pm.root.here; cells = s.shown.cells }));
            frame_shown = assigned items v u c.frame y (one (reference m.number)) within (subst (λ z. IsKept z v u) is_to kept)
                (single_at items u.slots.items to (var_at v y) v.width u.width (Object o k) (reference m.number) is_to kept.width wide (record { object = ref.object; is = number; made = keep ref.object.0 m.number ref.made }) filled)
                (frame_kept c.items items v c.frame keep c.fits);
            kept = keep;
          };
        }

pub no_child : (h : Heap) (v : Values) (c : Seen h v) (w : World) (n d y x r : ℕ) (a : Slot) → w.objects ≡ c.objects → IsSlotAt v.slots.items (var_at v x) a → IsNoObject a → Does c.items h v (Ok tt) (does_simple (setup c.program n d) c.func (adopt y x r) c.frame w)
no_child h v c w n d y x r a same is none =
    found_does c.func (λ t. release_set c.program t.type) x c.frame w _ c.items h v (Ok tt) (λ m p. absurd (nowhere h v c x a is m (subst (λ os. Packed x c.frame os m) same p) none))

pub no_parent : (h : Heap) (v : Values) (c : Seen h v) (w : World) (n d y x r : ℕ) (a : Slot) → w.objects ≡ c.objects → IsSlotAt v.slots.items (var_at v r) a → IsNoObject a → Does c.items h v (Ok tt) (does_simple (setup c.program n d) c.func (adopt y x r) c.frame w)
no_parent h v c w n d y x r a same is none =
    found_does c.func (λ t. release_set c.program t.type) x c.frame w _ c.items h v (Ok tt) (λ m p.
    found_does c.func any_state r c.frame w _ c.items h v (Ok tt) (λ k pk. absurd (nowhere h v c r a is k (subst (λ os. Packed r c.frame os k) same pk) none)))

-- what `own` asks of the child and of the parent
pub record Needs (h : Heap) (o q : Obj) : Type 0 where
  pub live : IsLive h o
  pub root : IsLone h o
  pub here : IsHere h o
  pub parent_live : IsLive h q
  pub parent_root : IsLone h q
  pub other : o.0 ≢ q.0

pub adopt_needs : (h : Heap) (v : Values) (y x r : ℕ) (a b : Slot) (o p : Obj) (k l : ℕ) → IsRight h v (adopt y x r) → IsSlotAt v.slots.items (var_at v x) a → a ≡ Object o k → IsSlotAt v.slots.items (var_at v r) b → b ≡ Object p l → Needs h o p
adopt_needs h v y x r a b o p k l q is e is_b e_b =
    let f = right_adopt h v y x r q in
    let m = met h v q.seen x a is f.child f.child_packed o k e in
    let n = met h v q.seen r b is_b f.parent f.parent_packed p l e_b in
    record {
      live = met_live h v q.seen f.child o m;
      root = met_root h v q.seen x f.child o f.child_packed m;
      here = met_here h v q.seen x f.child o f.child_packed m;
      parent_live = met_live h v q.seen f.parent p n;
      parent_root = met_root h v q.seen r f.parent p f.parent_packed n;
      other = met_apart h v q.seen f.child f.parent o p m n f.other;
    }

-- ---- a variable is filled

-- the value is there, or the variable wasn't empty
pub fill_does : (items : Items) (h : Heap) (old new : Values) (frame : Frame) (w : World) (f : Func) (x to : ℕ) (a : Value) → Holds h items → x < old.vars → to ≡ var_at old x → IsKept to old new → ShowObjects items old.width w.objects → ShowsFrame items old frame
    → HaveValue items new.slots.items to new.width a → Does items h new (Ok tt) (fill f x a frame w)
unfolding fill where_so
fill_does items h old new frame w f x to a holds within is kept objects shown has = by (is_fillable f x frame) (record {
  is = refl;
  shows = record {
    items = items;
    holds = holds;
    objects_shown = subst (λ z. ShowObjects items z w.objects) (sym kept.width) objects;
    frame_shown = assigned items old new frame x a within (subst (λ z. IsKept z old new) is kept) (subst (λ z. HaveValue items new.slots.items z new.width a) is has) shown;
    kept = λ b m made. made;
  };
})
  where
    by : (t : Bool) → HasDone items h new (Ok tt) (with_var x (Some a) frame) w → Does items h new (Ok tt) (where_so t not_empty None w (λ w. goes (with_var x (Some a) frame) w))
    by true d = d
    by false d = refl

pub fill_pure : (h : Heap) (old new : Values) (c : Seen h old) (w : World) (n d x to : ℕ) (e : Expr) (r : Result (Unit {0}) TrapKind) → w.objects ≡ c.objects → x < old.vars → to ≡ var_at old x → IsKept to old new
    → IsWritten c.items new to r (value_of c.program c.func e c.frame c.objects) → Does c.items h new r (does_simple (setup c.program n d) c.func (own x (pure e)) c.frame w)
unfolding with_found with_operand
fill_pure h old new c w n d x to e r same within is kept written =
    by (value_of c.program c.func e c.frame w.objects) (subst (λ os. IsWritten c.items new to r (value_of c.program c.func e c.frame os)) (sym same) written)
  where
    by : (q : sd.Found Value) → IsWritten c.items new to r q → Does c.items h new r (with_found q w (λ a. fill c.func x a c.frame w))
    by (Ok a) k = subst (λ z. Does c.items h new z (fill c.func x a c.frame w)) (sym k.is) (fill_does c.items h old new c.frame w c.func x to a c.holds within is kept (subst (ShowObjects c.items old.width) (sym same) c.shown) c.fits k.value)
    by (Err done) k = k
    by (Err (trap t)) k = k
    by (Err fuel_end) k = k
    by (Err heap_end) k = k
    by (Err depth_end) k = k
    by (Err input_end) k = k
    by (Err answers_end) k = k
    by (Err (bad_answer m)) k = k
    by (Err (fault s m)) k = k

pub fill_move : (h : Heap) (old new : Values) (c : Seen h old) (w : World) (n d x u to : ℕ) → w.objects ≡ c.objects → x < old.vars → to ≡ var_at old x → IsKept to old new → IsCopied c.items new to (or_fault no_value (c.frame.vars u))
    → Does c.items h new (Ok tt) (does_simple (setup c.program n d) c.func (own x (move u)) c.frame w)
unfolding with_found with_operand
fill_move h old new c w n d x u to same within is kept copied = by (c.frame.vars u) copied
  where
    by : (q : Option Value) → IsCopied c.items new to (or_fault no_value q) → Does c.items h new (Ok tt) (with_found (or_fault no_value q) w (λ a. fill c.func x a (with_var u None c.frame) w))
    by None k = refl
    by (Some a) k = fill_does c.items h old new (with_var u None c.frame) w c.func x to a c.holds within is kept (subst (ShowObjects c.items old.width) (sym same) c.shown) (emptied_shown c.items old c.frame u c.fits) k

pub fill_pack : (h : Heap) (old new : Values) (c : Seen h old) (w : World) (n d x y to : ℕ) (states : States) (a b : Slot) → w.objects ≡ c.objects → x < old.vars → 1 ≤ old.width → to ≡ var_at old x → IsKept to old new → IsSlotAt old.slots.items (var_at old y) a → ((o : Obj) (i : ℕ) → a ≡ Object o i → b ≡ Owned o i) → IsFilled (IsSingleSlot b) new.slots.items to old.width
    → Does c.items h new (Ok tt) (does_simple (setup c.program n d) c.func (own x (pack y states)) c.frame w)
unfolding with_operand
fill_pack h old new c w n d x y to states a b same within wide is kept front packed filled =
    found_does c.func (λ r. states) y c.frame w (λ m. fill c.func x (one (owned m.number)) c.frame (with_changed w m.number (with_owner loose))) c.items h new (Ok tt) (λ m p.
    let ref = referred h old c y a front m (subst (λ os. Packed y c.frame os m) same p).touched in
    fill_does c.items h old new c.frame (with_changed w m.number (with_owner loose)) c.func x to (one (owned m.number)) c.holds within is kept
    (owner_shown c.items old.width m.number w.objects m.object loose (subst (ShowObjects c.items old.width) (sym same) c.shown) p.touched.at (sym p.root.live) (sym p.root.above) (sym p.root.here)) c.fits
    (single_at c.items new.slots.items to to old.width new.width b (owned m.number) refl kept.width wide (packed_object c.items m.number a b packed ref) filled))
