-- Values that are put at the end of the table.
use Rattle.std.proofs.Common.{◌≡◌, ◌≢◌, ◌⊎◌, inl, inr, ℕ, suc, ◌+◌, ◌*◌, ◌<◌, ◌≤◌, ◌==◌, Bool, true, false, if◌then◌else◌, List, [], ◌∷◌, length, Option, Some, None, Result, Ok, Err, refl, sym, ap, ◌∙◌, subst, arith, slice_get}
use Rattle.std.proofs.lemmas.Bool.{false≢true}
use Rattle.std.proofs.lemmas.Option.{none-some, same_Some, slice_get_within}
use Rattle.std.proofs.lemmas.List.{length-set}
use Rattle.vlt_ops.specs.declared.TrapKind.{TrapKind}
use Rattle.vlt_core.specs.Core.{States, Expr, Operand, pure, move, pack, Func, Program}
use Rattle.vlt_rings.proofs.Lists.{equal_or_not}
use Rattle.vlt_heap.specs.declared.slots.Slot.{Slot}
use Rattle.vlt_heap.specs.declared.heap.Heap.{Heap}
use Rattle.vlt_heap.specs.Items.{Item, Items}
use Rattle.vlt_meaning.specs.World.{Part, Value, one, owned, reference, Owner, loose, Object, is_gone, is_out, above, World, Frame, trap, fault, done, fuel_end, heap_end, depth_end, input_end, answers_end, bad_answer, no_value}
use Rattle.vlt_meaning.specs.Found.{Found, or_fault, Named}
use Rattle.vlt_meaning.specs.Objects.{with_owner, with_changed_object, changed_in}
use Rattle.vlt_meaning.specs.Values.{value_of, object_of}
use Rattle.vlt_meaning.specs.Step.{with_var, with_changed}
use Rattle.vlt_meaning_laws.proofs.Keeping.{change_here, change_elsewhere}
use Rattle.vlt_meaning_laws.specs.Machine.Got.{Got, got, stopped, then_got, found_in, operand_got, operands_got}
use Rattle.vlt_acts.specs.declared.values.values.Values.{Values}
use Rattle.vlt_acts.specs.Values.Parts.{padded_parts, IsOwned, HasPartAt, HaveParts, HaveValue}
use Rattle.vlt_acts.specs.Values.Filled.{IsFilled, IsSingleSlot}
use Rattle.vlt_acts.specs.Values.Shown.{ShowsIt, ShowObjects, var_at, key_at, ShowsFrame, Seen, IsKept, IsGrown, IsCopied, IsWritten}
use Rattle.vlt_acts.specs.Values.Pushed.{HaveValues, Shows, HasPushed, IsPushed, ArePushed}
use Rattle.vlt_acts.proofs.OfValues.Touching.{OrFault, Packed, object_of_fault, object_of_is}
use Rattle.vlt_acts.proofs.OfValues.Padding.{single_value}

-- ---- more at the end

pub part_grown : (items : Items) (old new : Values) (k : ℕ) (p : Part) → IsGrown old new → HasPartAt items old.slots.items k p → HasPartAt items new.slots.items k p
part_grown items old new k p g h = record { slot = h.slot; at = g.same k (slice_get_within old.slots.items k h.slot h.at) ∙ h.at; part = h.part }

parts_grown : (items : Items) (old new : Values) (k : ℕ) (ps : List Part) → IsGrown old new → HaveParts items old.slots.items k ps → HaveParts items new.slots.items k ps
parts_grown items old new k [] g h = tt
parts_grown items old new k (p ∷ ps) g h = (part_grown items old new k p g h.0, parts_grown items old new (suc k) ps g h.1)

pub value_grown : (items : Items) (old new : Values) (k w : ℕ) (a : Value) → IsGrown old new → HaveValue items old.slots.items k w a → HaveValue items new.slots.items k w a
value_grown items old new k w a g h = record { narrow = h.narrow; parts = parts_grown items old new k (padded_parts w a) g h.parts }

pub values_grown : (items : Items) (old new : Values) (k w : ℕ) (xs : List Value) → IsGrown old new → HaveValues items old.slots.items k w xs → HaveValues items new.slots.items k w xs
values_grown items old new k w [] g h = tt
values_grown items old new k w (a ∷ xs) g h = (value_grown items old new k w a g h.0, values_grown items old new (k + w) w xs g h.1)

pub frame_grown : (items : Items) (old new : Values) (frame : Frame) → IsGrown old new → ShowsFrame items old frame → ShowsFrame items new frame
frame_grown items old new frame g h = record {
  vars = λ v a e.
      let q = h.vars v a e in
      record { within = subst (λ n. v < n) (sym g.vars) q.within; value = rw (g.base, g.width) (value_grown items old new (var_at old v) old.width a g q.value) };
  keys = λ k n e. rw (g.base, g.vars, g.width) (part_grown items old new (key_at old k) (reference n) g (h.keys k n e));
}

pub grown_kept : (old mid new : Values) (to : ℕ) → IsGrown old mid → to ≡ length old.slots.items → IsKept to mid new → IsGrown old new
grown_kept old mid new to g is k = record {
  same = λ i l. k.outside i (inl (omega (arith, l, is))) ∙ g.same i l;
  base = k.base ∙ g.base;
  vars = k.vars ∙ g.vars;
  width = k.width ∙ g.width;
}

pub grown_twice : (old mid new : Values) → IsGrown old mid → IsGrown mid new → length old.slots.items ≤ length mid.slots.items → IsGrown old new
grown_twice old mid new g k l = record {
  same = λ i m. k.same i (omega (arith, l, m)) ∙ g.same i m;
  base = k.base ∙ g.base;
  vars = k.vars ∙ g.vars;
  width = k.width ∙ g.width;
}

abbrev pub seen_grown : (h : Heap) (old new : Values) → IsGrown old new → Seen h old → Seen h new
seen_grown h old new g c = record {
  program = c.program;
  func = c.func;
  frame = c.frame;
  objects = c.objects;
  items = c.items;
  holds = c.holds;
  shown = subst (λ w. ShowObjects c.items w c.objects) (sym g.width) c.shown;
  fits = frame_grown c.items old new c.frame g c.fits;
}

-- ---- one value

abbrev pub shows_grown : (h : Heap) (old new : Values) (g : IsGrown old new) (c : Seen h old) (objects : List Object) → objects ≡ c.objects → Shows c.items new c.frame objects
shows_grown h old new g c objects same = record {
  objects_shown = subst (λ os. ShowObjects c.items new.width os) (sym same) (seen_grown h old new g c).shown;
  frame_shown = (seen_grown h old new g c).fits;
}

pub pure_pushed : (h : Heap) (old new : Values) (g : IsGrown old new) (c : Seen h old) (w : World) (same : w.objects ≡ c.objects) (e : Expr) (to : ℕ) (r : Result (Unit {0}) TrapKind) → to ≡ length old.slots.items
    → IsWritten c.items new to r (value_of c.program c.func e c.frame c.objects) → IsPushed c.items old new r (operand_got c.program c.func (pure e) c.frame w)
unfolding found_in
pure_pushed h old new g c w same e to r is written =
    by (value_of c.program c.func e c.frame w.objects) (subst (λ os. IsWritten c.items new to r (value_of c.program c.func e c.frame os)) (sym same) written)
  where
    by : (x : Found Value) → IsWritten c.items new to r x → IsPushed c.items old new r (found_in x c.frame w)
    by (Ok a) k = record {
      is = k.is;
      value = subst (λ n. HaveValue c.items new.slots.items n old.width a) is (subst (λ n. HaveValue c.items new.slots.items to n a) g.width k.value);
      shows = shows_grown h old new g c w.objects same;
    }
    by (Err done) k = k
    by (Err (trap t)) k = k
    by (Err fuel_end) k = k
    by (Err heap_end) k = k
    by (Err depth_end) k = k
    by (Err input_end) k = k
    by (Err answers_end) k = k
    by (Err (bad_answer n)) k = k
    by (Err (fault s n)) k = k

-- a variable that has no value any more shows nothing
pub emptied_shown : (items : Items) (values : Values) (frame : Frame) (v : ℕ) → ShowsFrame items values frame → ShowsFrame items values (with_var v None frame)
emptied_shown items values frame v h = record { vars = λ x a e. h.vars x a (by x a (x == v) e); keys = h.keys }
  where
    by : (x : ℕ) (a : Value) (t : Bool) → (if t then None else frame.vars x) ≡ Some a → frame.vars x ≡ Some a
    by x a true e = absurd (none-some a e)
    by x a false e = e

pub move_pushed : (h : Heap) (old new : Values) (g : IsGrown old new) (c : Seen h old) (w : World) (same : w.objects ≡ c.objects) (v to : ℕ) → to ≡ length old.slots.items
    → IsCopied c.items new to (or_fault no_value (c.frame.vars v)) → IsPushed c.items old new (Ok tt) (operand_got c.program c.func (move v) c.frame w)
unfolding found_in then_got
move_pushed h old new g c w same v to is copied = by (c.frame.vars v) copied
  where
    by : (x : Option Value) → IsCopied c.items new to (or_fault no_value x) → IsPushed c.items old new (Ok tt) (then_got (found_in (or_fault no_value x) c.frame w) (λ a frame w. got a (with_var v None frame) w))
    by None k = refl
    by (Some a) k =
        let s = shows_grown h old new g c w.objects same in
        record {
          is = refl;
          value = subst (λ n. HaveValue c.items new.slots.items n old.width a) is (subst (λ n. HaveValue c.items new.slots.items to n a) g.width k);
          shows = record { objects_shown = s.objects_shown; frame_shown = emptied_shown c.items new c.frame v s.frame_shown };
        }

-- ---- objects that get another owner

pub owner_shown : (items : Items) (width n : ℕ) (objects : List Object) (o : Object) (owner : Owner) → ShowObjects items width objects → slice_get objects n ≡ Some o → is_gone owner ≡ is_gone o.owner → above owner ≡ above o.owner → is_out owner ≡ is_out o.owner
    → ShowObjects items width (with_changed_object n (with_owner owner) objects)
owner_shown items width n objects o owner h at gone up out = record {
  long = h.long ∙ sym (length_changed objects);
  each = λ m x q at_x at_q. by m x q at_x at_q (equal_or_not m n);
}
  where
    length_changed : (os : List Object) → length (with_changed_object n (with_owner owner) os) ≡ length os
    length_changed os = of_one (slice_get os n)
      where
        of_one : (x : Option Object) → length (changed_in n (with_owner owner) os x) ≡ length os
        of_one None = refl
        of_one (Some q) = length-set os n (with_owner owner q)

    by : (m : ℕ) (x : Option Item) (q : Object) → slice_get items m ≡ Some x → slice_get (with_changed_object n (with_owner owner) objects) m ≡ Some q → (m ≡ n) ⊎ (m ≢ n) → ShowsIt items width x q
    by m x q at_x at_q (inl e) = subst (ShowsIt items width x) (same_Some (with_owner owner o) q (sym (change_here objects n o (with_owner owner) at) ∙ ap (slice_get (with_changed_object n (with_owner owner) objects)) (sym e) ∙ at_q)) (same x (h.each m x o at_x (ap (slice_get objects) e ∙ at)))
      where
        same : (x : Option Item) → ShowsIt items width x o → ShowsIt items width x (with_owner owner o)
        same None s = gone ∙ s
        same (Some y) s = record { live = gone ∙ s.live; type = s.type; state = s.state; parent = s.parent ∙ sym up; is_out = s.is_out ∙ sym out; cells = s.cells }
    by m x q at_x at_q (inr d) = h.each m x q at_x (sym (change_elsewhere objects n (with_owner owner) m d) ∙ at_q)

pub pack_pushed : (h : Heap) (old new : Values) (g : IsGrown old new) (c : Seen h old) (w : World) (same : w.objects ≡ c.objects) (x : ℕ) (states : States) (to : ℕ) (a : Slot) → to ≡ length old.slots.items → 1 ≤ old.width → IsFilled (IsSingleSlot a) new.slots.items to old.width
    → ((m : Named) → Packed x c.frame c.objects m → IsOwned c.items m.number a) → IsPushed c.items old new (Ok tt) (operand_got c.program c.func (pack x states) c.frame w)
unfolding found_in then_got
pack_pushed h old new g c w same x states to a is wide filled ref = by (object_of c.func (λ r. states) x c.frame w.objects) refl (object_of_fault c.func (λ r. states) x c.frame w.objects)
  where
    by : (q : Found Named) → object_of c.func (λ r. states) x c.frame w.objects ≡ q → OrFault q
        → IsPushed c.items old new (Ok tt) (then_got (found_in q c.frame w) (λ n frame w. got (one (owned n.number)) frame (with_changed w n.number (with_owner loose))))
    by (Ok m) e bad =
        let p = object_of_is c.func (λ r. states) x c.frame c.objects m (ap (object_of c.func (λ r. states) x c.frame) (sym same) ∙ e) in
        let s = shows_grown h old new g c w.objects same in
        record {
          is = refl;
          value = subst (λ n. HaveValue c.items new.slots.items n old.width (one (owned m.number))) is (single_value c.items new.slots.items to old.width a (owned m.number) wide (ref m p) filled);
          shows = record {
            objects_shown = owner_shown c.items new.width m.number w.objects m.object loose s.objects_shown (ap (λ os. slice_get os m.number) same ∙ p.touched.at) (sym p.root.live) (sym p.root.above) (sym p.root.here);
            frame_shown = s.frame_shown;
          };
        }
    by (Err done) e bad = bad
    by (Err (trap t)) e bad = absurd (false≢true bad)
    by (Err fuel_end) e bad = bad
    by (Err heap_end) e bad = bad
    by (Err depth_end) e bad = bad
    by (Err input_end) e bad = bad
    by (Err answers_end) e bad = bad
    by (Err (bad_answer n)) e bad = bad
    by (Err (fault r n)) e bad = bad

-- ---- values one after another

abbrev is_fine : Result (Unit {0}) TrapKind → Type 0
is_fine (Ok u) = Unit {0}
is_fine (Err t) = ⊥

ok_err : {t : TrapKind} → ◌≡◌ {A = Result (Unit {0}) TrapKind} (Ok tt) (Err t) → ⊥
ok_err e = subst is_fine e tt

pub all_pushed : (h : Heap) (old mid new : Values) (c : Seen h old) (w : World) (o : Operand) (os : List Operand) (q r : Result (Unit {0}) TrapKind) → IsGrown old mid → IsGrown mid new → length mid.slots.items ≡ length old.slots.items + old.width
    → IsPushed c.items old mid q (operand_got c.program c.func o c.frame w) → q ≡ Ok tt
    → ((d : Seen h mid) (v : World) → v.objects ≡ d.objects → ArePushed d.items mid new r (operands_got d.program d.func os d.frame v))
    → ArePushed c.items old new r (operands_got c.program c.func (o ∷ os) c.frame w)
unfolding then_got
all_pushed h old mid new c w o os q r g k long first is second = by (operand_got c.program c.func o c.frame w) first
  where
    rest : (a : Value) (f : Frame) (v : World) → HasPushed c.items old mid q a f v → (x : Got (List Value)) → ArePushed c.items mid new r x → ArePushed c.items old new r (then_got x (λ xs f v. got (a ∷ xs) f v))
    rest a f v head (got xs f2 v2) all = record {
      is = all.is;
      long = let m = all.long in let n : length mid.slots.items + length xs * mid.width ≡ length mid.slots.items + length xs * old.width = ap (λ z. length mid.slots.items + length xs * z) g.width in omega (arith, m, n, long);
      values_at = (
        value_grown c.items mid new (length old.slots.items) old.width a k head.value,
        subst (λ z. HaveValues c.items new.slots.items z old.width xs) long (subst (λ z. HaveValues c.items new.slots.items (length mid.slots.items) z xs) g.width all.values_at),
      );
      shows = record { objects_shown = all.shows.objects_shown; frame_shown = all.shows.frame_shown };
    }
    rest a f v head (stopped done v2) all = all
    rest a f v head (stopped (trap t) v2) all = all
    rest a f v head (stopped fuel_end v2) all = all
    rest a f v head (stopped heap_end v2) all = all
    rest a f v head (stopped depth_end v2) all = all
    rest a f v head (stopped input_end v2) all = all
    rest a f v head (stopped answers_end v2) all = all
    rest a f v head (stopped (bad_answer n) v2) all = all
    rest a f v head (stopped (fault s n) v2) all = all

    by : (x : Got Value) → IsPushed c.items old mid q x
        → ArePushed c.items old new r (then_got x (λ a frame w. then_got (operands_got c.program c.func os frame w) (λ xs frame w. got (a ∷ xs) frame w)))
    by (got a f v) head = rest a f v head (operands_got c.program c.func os f v) (second (record {
      program = c.program;
      func = c.func;
      frame = f;
      objects = v.objects;
      items = c.items;
      holds = c.holds;
      shown = head.shows.objects_shown;
      fits = head.shows.frame_shown;
    }) v refl)
    by (stopped done v) head = head
    by (stopped (trap t) v) head = absurd (ok_err (sym is ∙ head))
    by (stopped fuel_end v) head = head
    by (stopped heap_end v) head = head
    by (stopped depth_end v) head = head
    by (stopped input_end v) head = head
    by (stopped answers_end v) head = head
    by (stopped (bad_answer n) v) head = head
    by (stopped (fault s n) v) head = head

pub trap_pushed : (items : Items) (p : Program) (f : Func) (frame : Frame) (old new : Values) (w : World) (o : Operand) (os : List Operand) (q : Result (Unit {0}) TrapKind) (t : TrapKind) → IsPushed items old new q (operand_got p f o frame w) → q ≡ Err t
    → ArePushed items old new (Err t) (operands_got p f (o ∷ os) frame w)
unfolding then_got
trap_pushed items p f frame old new w o os q t first is = by (operand_got p f o frame w) first
  where
    by : (x : Got Value) → IsPushed items old new q x → ArePushed items old new (Err t) (then_got x (λ a frame w. then_got (operands_got p f os frame w) (λ xs frame w. got (a ∷ xs) frame w)))
    by (got a g v) head = absurd (ok_err (sym head.is ∙ is))
    by (stopped done v) head = head
    by (stopped (trap s) v) head = sym is ∙ head
    by (stopped fuel_end v) head = head
    by (stopped heap_end v) head = head
    by (stopped depth_end v) head = head
    by (stopped input_end v) head = head
    by (stopped answers_end v) head = head
    by (stopped (bad_answer n) v) head = head
    by (stopped (fault s n) v) head = head

pub none_pushed : (h : Heap) (values : Values) (c : Seen h values) (w : World) → w.objects ≡ c.objects → ArePushed c.items values values (Ok tt) (operands_got c.program c.func [] c.frame w)
none_pushed h values c w same = record {
  is = refl;
  long = omega arith;
  values_at = tt;
  shows = record { objects_shown = subst (λ os. ShowObjects c.items values.width os) (sym same) c.shown; frame_shown = c.fits };
}
