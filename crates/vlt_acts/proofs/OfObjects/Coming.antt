-- What comes of a statement that makes an object.
use Rattle.std.proofs.Common.{◌≡◌, ◌<◌, ◌≤◌, ℕ, ◌==◌, Bool, true, false, if◌then◌else◌, List, [], ◌∷◌, length, Option, Some, None, Result, Ok, Err, refl, sym, ap, ◌∙◌, subst}
use Rattle.std.specs.List.{flat_map}
use Rattle.std.proofs.lemmas.Bool.{false≢true}
use Rattle.std.proofs.lemmas.Option.{none-some}
use Rattle.vlt_ops.specs.declared.TrapKind.{TrapKind}
use Rattle.vlt_core.specs.Core.{Operand, pure, move, pack, Func, Program}
use Rattle.vlt_core.specs.Core as core
use Rattle.vlt_core.specs.Lookups.{Reference}
use Rattle.vlt_heap.specs.declared.slots.Slot.{Slot}
use Rattle.vlt_heap.specs.declared.heap.Heap.{Heap}
use Rattle.vlt_heap.specs.Items.{Items}
use Rattle.vlt_meaning.specs.World.{Value, one, reference, owned, objects_in, loose, inside, is_loose, Object, World, Frame, Reason, Outcome, trap, fault, done, fuel_end, heap_end, depth_end, input_end, answers_end, bad_answer, is_fault, is_full, no_value}
use Rattle.vlt_meaning.specs.Found.{Found, or_fault, Named}
use Rattle.vlt_meaning.specs.Objects.{with_owner}
use Rattle.vlt_meaning.specs.Values.{value_of, object_of}
use Rattle.vlt_meaning.specs.Step.{Step, goes, ends, with_found, where_so, with_objects, with_changed, with_made, with_moved, with_var, with_key}
use Rattle.vlt_meaning.specs.Operands.{with_operands}
use Rattle.vlt_meaning.specs.Run.{Setup, made_in}
use Rattle.vlt_meaning_laws.specs.Machine.Got.{Got, got, stopped, then_step, then_got, found_in, operand_got, operands_got}
use Rattle.vlt_meaning_laws.proofs.OfMachine.Gots.{operands_step}
use Rattle.vlt_acts.specs.declared.values.values.Values.{Values}
use Rattle.vlt_acts.specs.Values.Filled.{IsFilled, IsSingleSlot}
use Rattle.vlt_acts.specs.Values.Shown.{ShowsFrame, var_at, IsKept, IsKeySet}
use Rattle.vlt_acts.specs.Values.Pushed.{HavePushed, ArePushed}
use Rattle.vlt_acts.proofs.OfValues.Touching.{OrFault}
use Rattle.vlt_acts.specs.Acts.Acts.{setup}
use Rattle.vlt_acts.proofs.OfActs.Keeping.{single_at, assigned}
use Rattle.vlt_acts.proofs.OfActs.Naming.{named_shown}
use Rattle.vlt_acts.specs.declared.objects.halt.Halt.{Halt}
use Rattle.vlt_acts.specs.declared.objects.halt.Halt.TheVariants as h
use Rattle.vlt_acts.specs.Objects.Owned.{put_in}
use Rattle.vlt_acts.specs.Objects.Made.{objects_with, NamesIt, Comes}
use Rattle.vlt_acts.proofs.OfObjects.Going.{IsSafe, moved_fault, moved_safe}
use Rattle.vlt_acts.proofs.OfObjects.Putting.{ok_err}

-- ---- a name

pub names_it : (old mid new : Values) (x k to : ℕ) (a : Slot) → x < old.vars → 1 ≤ old.width → IsKeySet k a old mid → to ≡ var_at mid x → IsKept to mid new → IsFilled (IsSingleSlot a) new.slots.items to mid.width → NamesIt x k a old new
names_it old mid new x k to a within wide set is_to kept filled items frame n shown ref =
    assigned items mid new (with_key k n frame) x (one (reference n)) (subst (λ z. x < z) (sym set.vars) within) (subst (λ z. IsKept z mid new) is_to kept)
    (single_at items new.slots.items to (var_at mid x) mid.width new.width a (reference n) is_to kept.width (subst (λ z. 1 ≤ z) (sym set.width) wide) ref filled)
    (named_shown items old mid frame k n a set ref shown)

-- ---- what operands leave of the frame

pub record IsLess (before after : Frame) : Type 0 where
  pub vars : (v : ℕ) (a : Value) → after.vars v ≡ Some a → before.vars v ≡ Some a
  pub keys : after.keys ≡ before.keys

pub less_shown : (items : Items) (values : Values) (before after : Frame) → IsLess before after → ShowsFrame items values before → ShowsFrame items values after
less_shown items values before after l s = record {
  vars = λ v a e. s.vars v a (l.vars v a e);
  keys = λ k n e. s.keys k n (sym (ap (λ f. f k) l.keys) ∙ e);
}

abbrev pub Lessens : {A : Type 0} → Frame → Got A → Type 0
Lessens before (got a after w) = IsLess before after
Lessens before (stopped o w) = Unit {0}

less_same : (frame : Frame) → IsLess frame frame
less_same frame = record { vars = λ v a e. e; keys = refl }

operand_lessens : (p : Program) (f : Func) (o : Operand) (frame : Frame) (w : World) → Lessens frame (operand_got p f o frame w)
unfolding found_in then_got
operand_lessens p f (pure e) frame w = by (value_of p f e frame w.objects)
  where
    by : (x : Found Value) → Lessens frame (found_in x frame w)
    by (Ok a) = less_same frame
    by (Err o) = tt
operand_lessens p f (move v) frame w = by (frame.vars v)
  where
    by : (x : Option Value) → Lessens frame (then_got (found_in (or_fault no_value x) frame w) (λ a frame w. got a (with_var v None frame) w))
    by None = tt
    by (Some a) = record { vars = λ y b e. kept y b (y == v) e; keys = refl }
      where
        kept : (y : ℕ) (b : Value) (t : Bool) → (if t then None else frame.vars y) ≡ Some b → frame.vars y ≡ Some b
        kept y b true e = absurd (none-some b e)
        kept y b false e = e
operand_lessens p f (pack x states) frame w = by (object_of f (λ r. states) x frame w.objects)
  where
    by : (q : Found Named) → Lessens frame (then_got (found_in q frame w) (λ n frame w. got (one (owned n.number)) frame (with_changed w n.number (with_owner loose))))
    by (Ok m) = less_same frame
    by (Err o) = tt

pub operands_lessen : (p : Program) (f : Func) (os : List Operand) (frame : Frame) (w : World) → Lessens frame (operands_got p f os frame w)
unfolding then_got
operands_lessen p f [] frame w = less_same frame
operands_lessen p f (o ∷ os) frame w = by (operand_got p f o frame w) (operand_lessens p f o frame w) (λ f2 v. operands_lessen p f os f2 v)
  where
    rest : (a : Value) (f2 : Frame) → IsLess frame f2 → (y : Got (List Value)) → Lessens f2 y → Lessens frame (then_got y (λ xs f3 v. got (a ∷ xs) f3 v))
    rest a f2 l (got xs f3 v) m = record { vars = λ v a e. l.vars v a (m.vars v a e); keys = m.keys ∙ l.keys }
    rest a f2 l (stopped q v) m = tt

    by : (x : Got Value) → Lessens frame x → ((f2 : Frame) (v : World) → Lessens f2 (operands_got p f os f2 v)) → Lessens frame (then_got x (λ a frame w. then_got (operands_got p f os frame w) (λ xs frame w. got (a ∷ xs) frame w)))
    by (got a f2 v) l again = rest a f2 l (operands_got p f os f2 v) (again f2 v)
    by (stopped q v) l again = tt

-- ---- operands that were pushed

pub record Pushes (items : Items) (old new : Values) (p : Program) (f : Func) (os : List Operand) (frame : Frame) (w : World) : Type 0 where
  pub cells : List Value
  pub left : Frame
  pub world : World
  pub is : operands_got p f os frame w ≡ got cells left world
  pub have : HavePushed items old new (Ok tt) cells left world
  pub less : IsLess frame left

-- where operands are given, the rest goes on from them
pub pushed_safe : (items : Items) (old new : Values) (p : Program) (f : Func) (os : List Operand) (frame : Frame) (w : World) (r : Result (Unit {0}) TrapKind) (go : List Value → Frame → World → Step) → r ≡ Ok tt → ArePushed items old new r (operands_got p f os frame w)
    → IsSafe (with_operands p f os frame w go) → (q : Pushes items old new p f os frame w) × IsSafe (go q.cells q.left q.world)
unfolding then_step
pushed_safe items old new p f os frame w r go is pushed safe =
    by (operands_got p f os frame w) refl (subst (λ z. ArePushed items old new z (operands_got p f os frame w)) is pushed) (operands_lessen p f os frame w) (subst IsSafe (operands_step p f os frame w go) safe)
  where
    wrong : (o : Outcome) (v : World) → IsSafe (ends o v) → is_fault o ≡ true → (q : Pushes items old new p f os frame w) × IsSafe (go q.cells q.left q.world)
    wrong o v safe bad = absurd (false≢true (sym (safe o v refl) ∙ bad))

    by : (x : Got (List Value)) → operands_got p f os frame w ≡ x → ArePushed items old new (Ok tt) x → Lessens frame x → IsSafe (then_step x go) → (q : Pushes items old new p f os frame w) × IsSafe (go q.cells q.left q.world)
    by (got xs left v) e have less safe = (record { cells = xs; left = left; world = v; is = e; have = have; less = less }, safe)
    by (stopped (trap t) v) e have less safe = absurd (ok_err have)
    by (stopped done v) e have less safe = wrong done v safe have
    by (stopped fuel_end v) e have less safe = wrong fuel_end v safe have
    by (stopped heap_end v) e have less safe = wrong heap_end v safe have
    by (stopped depth_end v) e have less safe = wrong depth_end v safe have
    by (stopped input_end v) e have less safe = wrong input_end v safe have
    by (stopped answers_end v) e have less safe = wrong answers_end v safe have
    by (stopped (bad_answer n) v) e have less safe = wrong (bad_answer n) v safe have
    by (stopped (fault s n) v) e have less safe = wrong (fault s n) v safe have

-- ---- the new object

pub made_safe : (r : Setup) (q : Reference) (x : ℕ) (cells : List Value) (frame : Frame) (w : World) → IsSafe (made_in r q x cells frame w) → is_full r.heap w.objects ≡ false
    → (after : List Object) × (put_in (length w.objects) (flat_map objects_in cells) (objects_with q cells frame w.objects) ≡ Ok after)
unfolding made_in with_made
made_safe r q x cells frame w safe room =
    let s = moved_safe is_loose (inside (length w.objects)) (flat_map objects_in cells) (with_objects w (objects_with q cells frame w.objects)) last (subst (λ t. IsSafe (if t then ends heap_end w else with_moved is_loose (inside (length w.objects)) (flat_map objects_in cells) (with_objects w (objects_with q cells frame w.objects)) last)) room safe) in
    (s.objects, s.is)
  where
    last : World → Step
    last w2 = goes (with_var x (Some (one (reference (length w.objects)))) (with_key q.key (length w.objects) frame)) w2

module _ (items : Items) (heap : Heap) (v : Values) where
  pub fault_comes : (r : Result (Unit {0}) Halt) (o : Outcome) (w : World) → is_fault o ≡ true → Comes items heap v r (ends o w)
  fault_comes r done w bad = bad
  fault_comes r (trap t) w bad = absurd (false≢true bad)
  fault_comes r fuel_end w bad = bad
  fault_comes r heap_end w bad = absurd (false≢true bad)
  fault_comes r depth_end w bad = bad
  fault_comes r input_end w bad = bad
  fault_comes r answers_end w bad = bad
  fault_comes r (bad_answer n) w bad = bad
  fault_comes r (fault s n) w bad = bad

  pub found_comes : {A : Type 0} (r : Result (Unit {0}) Halt) (q : Found A) (w : World) (go : A → Step) → OrFault q → ((a : A) → q ≡ Ok a → Comes items heap v r (go a)) → Comes items heap v r (with_found q w go)
  unfolding with_found
  found_comes r (Ok a) w go bad rest = rest a refl
  found_comes r (Err o) w go bad rest = fault_comes r o w bad

  pub so_comes : (r : Result (Unit {0}) Halt) (t : Bool) (s : Reason) (n : Option ℕ) (w : World) (go : World → Step) → Comes items heap v r (go w) → Comes items heap v r (where_so t s n w go)
  unfolding where_so
  so_comes r true s n w go rest = rest
  so_comes r false s n w go rest = refl

  -- operands that were pushed, or that trap
  pub pushed_comes : (before : Items) (old new : Values) (p : Program) (f : Func) (os : List Operand) (frame : Frame) (w : World) (q : Result (Unit {0}) TrapKind) (r : Result (Unit {0}) Halt) (go : List Value → Frame → World → Step) → ArePushed before old new q (operands_got p f os frame w)
      → ((t : TrapKind) → q ≡ Err t → r ≡ Err (h.Trap t)) → ((u : Pushes before old new p f os frame w) → q ≡ Ok tt → Comes items heap v r (go u.cells u.left u.world)) → Comes items heap v r (with_operands p f os frame w go)
  unfolding then_step
  pushed_comes before old new p f os frame w q r go pushed traps rest =
      subst (Comes items heap v r) (sym (operands_step p f os frame w go)) (by (operands_got p f os frame w) refl pushed (operands_lessen p f os frame w))
    where
      by : (x : Got (List Value)) → operands_got p f os frame w ≡ x → ArePushed before old new q x → Lessens frame x → Comes items heap v r (then_step x go)
      by (got xs left u) e have less = rest (record { cells = xs; left = left; world = u; is = e; have = record { is = refl; long = have.long; values_at = have.values_at; shows = have.shows }; less = less }) have.is
      by (stopped (trap t) u) e have less = traps t have
      by (stopped done u) e have less = have
      by (stopped fuel_end u) e have less = have
      by (stopped heap_end u) e have less = absurd (false≢true have)
      by (stopped depth_end u) e have less = have
      by (stopped input_end u) e have less = have
      by (stopped answers_end u) e have less = have
      by (stopped (bad_answer n) u) e have less = have
      by (stopped (fault s n) u) e have less = have

  pub made_comes : (b d : ℕ) (p : Program) (q : Reference) (x : ℕ) (cells : List Value) (frame : Frame) (w : World)
      → (is_full b w.objects ≡ false → (after : List Object) → put_in (length w.objects) (flat_map objects_in cells) (objects_with q cells frame w.objects) ≡ Ok after
      → Comes items heap v (Ok tt) (goes (with_var x (Some (one (reference (length w.objects)))) (with_key q.key (length w.objects) frame)) (with_objects w after)))
      → is_full b w.objects ≡ false → Comes items heap v (Ok tt) (made_in (setup p b d) q x cells frame w)
  unfolding made_in with_made with_moved
  made_comes b d p q x cells frame w rest room =
      subst (λ t. Comes items heap v (Ok tt) (if t then ends heap_end w else with_moved is_loose (inside (length w.objects)) (flat_map objects_in cells) (with_objects w (objects_with q cells frame w.objects)) (λ w2. goes (with_var x (Some (one (reference (length w.objects)))) (with_key q.key (length w.objects) frame)) w2))) (sym room)
      (found_comes (Ok tt) (put_in (length w.objects) (flat_map objects_in cells) (objects_with q cells frame w.objects)) _ _ (moved_fault is_loose (inside (length w.objects)) (flat_map objects_in cells) (objects_with q cells frame w.objects)) (rest room))

  pub full_comes : (b d : ℕ) (p : Program) (q : Reference) (x : ℕ) (cells : List Value) (frame : Frame) (w : World) → is_full b w.objects ≡ true → Comes items heap v (Err h.HeapEnd) (made_in (setup p b d) q x cells frame w)
  unfolding made_in with_made
  full_comes b d p q x cells frame w full =
      subst (λ t. Comes items heap v (Err h.HeapEnd) (if t then ends heap_end w else with_moved is_loose (inside (length w.objects)) (flat_map objects_in cells) (with_objects w (objects_with q cells frame w.objects)) (λ w2. goes (with_var x (Some (one (reference (length w.objects)))) (with_key q.key (length w.objects) frame)) w2))) (sym full) refl
