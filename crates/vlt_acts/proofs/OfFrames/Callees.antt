-- The callee's frame, after that of its caller.
use Rattle.std.proofs.Math.Nat.{mul-le-mul_right}
use Rattle.std.proofs.Common.{max, ◌-◌, ◌≡◌, ◌≢◌, ◌⊎◌, inl, inr, ◌<◌, ◌≤◌, ◌+◌, ◌*◌, ℕ, zero, suc, Bool, true, false, if◌then◌else◌, List, [], ◌∷◌, length, Option, Some, None, Ok, refl, sym, ap, ◌∙◌, subst, arith, slice_get}
use Rattle.std.specs.Option.{option_and_then}
use Rattle.std.proofs.lemmas.Option.{none-some, same_Some, slice_get_within}
use Rattle.vlt_core.specs.Core.{Entry, Func, Program}
use Rattle.vlt_core.specs.Lookups.{is_held_before}
use Rattle.vlt_rings.proofs.Lists.{equal_or_not}
use Rattle.vlt_rings.proofs.Rows.{row_fits}
use Rattle.vlt_heap.specs.declared.heap.Heap.{Heap}
use Rattle.vlt_heap.specs.Items.{Items}
use Rattle.vlt_meaning.specs.World.{Value, held, Object, World, Frame, missing}
use Rattle.vlt_meaning.specs.Found.{◌>>=◌, or_fault, Named}
use Rattle.vlt_meaning.specs.Objects.{with_owner, with_changed_object}
use Rattle.vlt_meaning.specs.Values.{held_object}
use Rattle.vlt_meaning.specs.Calls.{caller_object, passed_object, passed_objects, changed_if, handed_over, is_new_key, callee_key, callee_frame}
use Rattle.vlt_meaning_laws.proofs.Keeping.{bound, change_here, change_elsewhere}
use Rattle.vlt_acts.specs.declared.values.values.Values.{Values}
use Rattle.vlt_acts.specs.Values.Parts.{HaveValue}
use Rattle.vlt_acts.specs.Values.Shown.{with_frame, key_at, ShowObjects, ShowsFrame, Seen, IsGrown}
use Rattle.vlt_acts.specs.Values.Pushed.{HaveValues}
use Rattle.vlt_acts.proofs.OfValues.Touching.{held_is, some_is}
use Rattle.vlt_acts.proofs.OfValues.Pushing.{owner_shown}
use Rattle.vlt_acts.proofs.OfActs.Keeping.{value_same}
use Rattle.vlt_acts.specs.Frames.Frames.{IsLike, frame_end, IsRunning}
use Rattle.vlt_acts.specs.Frames.Entered.{IsCall, HasEntered}
use Rattle.vlt_acts.specs.Frames.Left.{IsRootAt}
use Rattle.vlt_acts.specs.Frames.Named.{AreNamed}
use Rattle.vlt_acts.proofs.OfFrames.Like.{moved}
use Rattle.vlt_acts.proofs.OfFrames.Standing.{stands_same}

-- ---- objects that another frame holds

pub root_held : (objects : List Object) (d k m n : ℕ) → IsRootAt objects m → IsRootAt (with_changed_object n (with_owner (held d k)) objects) m
root_held objects d k m n r = by (equal_or_not m n)
  where
    by : (m ≡ n) ⊎ (m ≢ n) → IsRootAt (with_changed_object n (with_owner (held d k)) objects) m
    by (inl e) = record {
      object = with_owner (held d k) r.object;
      at = ap (slice_get (with_changed_object n (with_owner (held d k)) objects)) e ∙ change_here objects n r.object (with_owner (held d k)) (ap (slice_get objects) (sym e) ∙ r.at);
      live = refl;
      root = refl;
      here = refl;
    }
    by (inr d2) = record { object = r.object; at = change_elsewhere objects n (with_owner (held d k)) m d2 ∙ r.at; live = r.live; root = r.root; here = r.here }

pub held_shown : (items : Items) (w : ℕ) (objects : List Object) (d k n : ℕ) → ShowObjects items w objects → IsRootAt objects n → ShowObjects items w (with_changed_object n (with_owner (held d k)) objects)
held_shown items w objects d k n h r = owner_shown items w n objects r.object (held d k) h r.at (sym r.live) (sym r.root) (sym r.here)

handed_root : (keys : List ℕ) (frame : Frame) (es : List Entry) (objects : List Object) (m : ℕ) → IsRootAt objects m → IsRootAt (handed_over keys frame es objects) m
handed_root keys frame [] objects m r = r
handed_root keys frame (e ∷ es) objects m r = by (handed_root keys frame es objects m r) (is_held_before e)
  where
    one : IsRootAt (handed_over keys frame es objects) m → (x : Option ℕ) → IsRootAt (changed_if x (with_owner (held (suc frame.depth) e.key)) (handed_over keys frame es objects)) m
    one rest None = rest
    one rest (Some n) = root_held (handed_over keys frame es objects) (suc frame.depth) e.key m n rest

    by : IsRootAt (handed_over keys frame es objects) m → (b : Bool) → IsRootAt (if b then changed_if (caller_object keys frame e) (with_owner (held (suc frame.depth) e.key)) (handed_over keys frame es objects) else handed_over keys frame es objects) m
    by rest true = one rest (caller_object keys frame e)
    by rest false = rest

-- the object that is passed is the one that the caller's key names
record IsPassed (keys : List ℕ) (frame : Frame) (objects : List Object) (e : Entry) : Type 0 where
  number : ℕ
  names : caller_object keys frame e ≡ Some number
  root : IsRootAt objects number

passed_is : (p : Program) (g : Func) (keys : List ℕ) (frame : Frame) (objects : List Object) (e : Entry) (m : Named) → passed_object p g keys frame objects e ≡ Ok m → IsPassed keys frame objects e
passed_is p g keys frame objects e m is =
    let k = bound (or_fault missing (slice_get keys e.key)) _ m is in
    let n = bound (held_object k.0 frame objects) _ m k.2 in
    let h = held_is k.0 frame objects n.0 n.1 in
    record {
      number = n.0.number;
      names = ap (option_and_then frame.keys) (some_is missing (slice_get keys e.key) k.0 k.1) ∙ h.key;
      root = record { object = n.0.object; at = h.at; live = h.root.live; root = h.root.above; here = h.root.here };
    }

pub handed_shown : (items : Items) (w : ℕ) (p : Program) (g : Func) (keys : List ℕ) (frame : Frame) (objects : List Object) (es : List Entry) (ns : List ℕ) → passed_objects p g keys frame objects es ≡ Ok ns → ShowObjects items w objects
    → ShowObjects items w (handed_over keys frame es objects)
handed_shown items w p g keys frame objects [] ns is h = h
handed_shown items w p g keys frame objects (e ∷ es) ns is h = by (λ ms q. handed_shown items w p g keys frame objects es ms q h) (is_held_before e) is
  where
    by : ((ms : List ℕ) → passed_objects p g keys frame objects es ≡ Ok ms → ShowObjects items w (handed_over keys frame es objects)) → (b : Bool) → (if b then (passed_object p g keys frame objects e >>= (λ n. passed_objects p g keys frame objects es >>= (λ ns. Ok (n.number ∷ ns)))) else passed_objects p g keys frame objects es) ≡ Ok ns
        → ShowObjects items w (if b then changed_if (caller_object keys frame e) (with_owner (held (suc frame.depth) e.key)) (handed_over keys frame es objects) else handed_over keys frame es objects)
    by shown true is =
        let n = bound (passed_object p g keys frame objects e) _ ns is in
        let rest = bound (passed_objects p g keys frame objects es) _ ns n.2 in
        let q = passed_is p g keys frame objects e n.0 n.1 in
        subst (λ x. ShowObjects items w (changed_if x (with_owner (held (suc frame.depth) e.key)) (handed_over keys frame es objects))) (sym q.names)
        (held_shown items w (handed_over keys frame es objects) (suc frame.depth) e.key q.number (shown rest.0 rest.1) (handed_root keys frame es objects q.number q.root))
    by shown false is = shown ns is

-- ---- the frame

-- the value at a position of the list
pub value_in : (items : Items) (old : Values) (from w : ℕ) (args : List Value) (v : ℕ) (a : Value) → HaveValues items old.slots.items from w args → slice_get args v ≡ Some a → HaveValue items old.slots.items (from + v * w) w a
value_in items old from w [] v a h at = absurd (none-some a at)
value_in items old from w (b ∷ args) zero a h at = subst (λ k. HaveValue items old.slots.items k w a) (omega arith) (subst (HaveValue items old.slots.items from w) (same_Some b a at) h.0)
value_in items old from w (b ∷ args) (suc v) a h at = subst (λ k. HaveValue items old.slots.items k w a) (omega arith) (value_in items old (from + w) w args v a h.1 at)

-- what the code did
pub record IsEntered (old new : Values) (f g : Func) (keys : List ℕ) : Type 0 where
  pub base : new.base ≡ frame_end old.width old.base f
  pub vars : new.vars ≡ length g.vars
  pub width : new.width ≡ old.width
  pub count : old.vars ≡ length f.vars
  pub long : length old.slots.items ≡ frame_end old.width old.base f + g.params * old.width
  pub params : g.params ≤ length g.vars
  pub same : (j : ℕ) → j < length old.slots.items → slice_get new.slots.items j ≡ slice_get old.slots.items j
  pub named : AreNamed keys old (key_at new 0) new

callee_key_is : (g : Func) (keys : List ℕ) (frame : Frame) (k n : ℕ) → callee_key g keys frame k ≡ Some n → (c : ℕ) × (slice_get keys k ≡ Some c) × (frame.keys c ≡ Some n)
callee_key_is g keys frame k n e = by (is_new_key g k) e
  where
    one : (x : Option ℕ) → slice_get keys k ≡ x → option_and_then frame.keys x ≡ Some n → (c : ℕ) × (slice_get keys k ≡ Some c) × (frame.keys c ≡ Some n)
    one None at h = absurd (none-some n h)
    one (Some c) at h = (c, at, h)

    by : (b : Bool) → (if b then None else option_and_then frame.keys (slice_get keys k)) ≡ Some n → (c : ℕ) × (slice_get keys k ≡ Some c) × (frame.keys c ≡ Some n)
    by true h = absurd (none-some n h)
    by false h = one (slice_get keys k) refl h

pub callee_shown : (items : Items) (old new : Values) (f g : Func) (keys : List ℕ) (args : List Value) (frame : Frame) → IsEntered old new f g keys → length args ≡ g.params → HaveValues items old.slots.items (frame_end old.width old.base f) old.width args
    → ShowsFrame items old frame → ShowsFrame items new (callee_frame g keys args frame)
callee_shown items old new f g keys args frame did count values h = record {
  vars = λ v a at.
      let l = slice_get_within args v a at in
      let fits = row_fits v g.params old.width old.width (omega (arith, l, count)) (omega arith) in
      let long = did.long in
      let params = did.params in
      record {
        within = subst (λ n. v < n) (sym did.vars) (omega (arith, l, count, params));
        value = rw (did.base, did.width) (value_same items old.slots.items new.slots.items (frame_end old.width old.base f + v * old.width) old.width a
            (λ j low high. did.same j (omega (arith, high, fits, long))) (value_in items old (frame_end old.width old.base f) old.width args v a values at));
      };
  keys = λ k n e.
      let c = callee_key_is g keys frame k n e in
      let q = h.keys c.0 n c.2 in
      record { slot = q.slot; at = ap (slice_get new.slots.items) (omega arith) ∙ did.named k c.0 q.slot c.1 q.at; part = q.part };
}

pub entered_so : (old one two three : Values) (f g : Func) (keys : List ℕ) (base n : ℕ) → IsRunning old f (g.params * old.width) → g.params ≤ length g.vars → base ≡ length old.slots.items - g.params * old.width → n ≡ length g.vars
    → IsGrown old one → length one.slots.items ≡ max (length old.slots.items) (base + n * old.width) → IsGrown one two → AreNamed keys one (length one.slots.items) two → length one.slots.items ≤ length two.slots.items → IsGrown two three
    → IsEntered old (with_frame three base n) f g keys
entered_so old one two three f g keys base n running params is_base is_n first long second named more third = record {
  base = low;
  vars = is_n;
  width = width;
  count = running.vars;
  long = running.long;
  params = params;
  same = λ j l. third.same j (omega (arith, l, more, wide)) ∙ second.same j (omega (arith, l, wide)) ∙ first.same j l;
  named = λ i k a at from.
      let b = named i k a at (rw (first.base, first.vars, first.width) (first.same (key_at old k) (slice_get_within old.slots.items (key_at old k) a from) ∙ from)) in
      let within = slice_get_within two.slots.items (length one.slots.items + i) a b in
      ap (slice_get three.slots.items) (ap (λ m. m + i) ends) ∙ third.same (length one.slots.items + i) within ∙ b;
}
  where
    width : three.width ≡ old.width
    width = third.width ∙ second.width ∙ first.width

    low : base ≡ frame_end old.width old.base f
    low = let l = running.long in omega (arith, l, is_base)

    args : g.params * old.width ≤ n * old.width
    args = subst (λ m. g.params * old.width ≤ m * old.width) (sym is_n) (mul-le-mul_right old.width params)

    reach : length one.slots.items ≡ base + n * old.width
    reach = let l = running.long in let a = args in let b = low in omega (arith, l, a, b, long)

    wide : length old.slots.items ≤ length one.slots.items
    wide = omega (arith, long)

    ends : key_at (with_frame three base n) 0 ≡ length one.slots.items
    ends = let w : n * three.width ≡ n * old.width = ap (λ m. n * m) width in let r = reach in omega (arith, w, r)

-- so it did for instances of the functions
pub entered_like : (old new : Values) (f f2 g g2 : Func) (keys : List ℕ) → IsLike f f2 → IsLike g g2 → IsEntered old new f g keys → IsEntered old new f2 g2 keys
entered_like old new f f2 g g2 keys a b did =
    moved (λ k. IsEntered old new f2 k keys) g g2 b (moved (λ k. IsEntered old new k (record g { clause = g2.clause }) keys) f f2 a (record {
      base = did.base;
      vars = did.vars;
      width = did.width;
      count = did.count;
      long = did.long;
      params = did.params;
      same = did.same;
      named = did.named;
    }))

pub entered : (h : Heap) (old new : Values) (c : Seen h old) (w : World) (f g : Func) (keys : List ℕ) (args : List Value) → IsEntered old new f g keys → IsCall f g keys h old c w args → HasEntered f g keys h old new c w args
entered h old new c w f g keys args did call = record {
  shows = record {
    objects_shown = subst (λ n. ShowObjects c.items n (handed_over keys c.frame g.clause w.objects)) (sym did.width)
        (handed_shown c.items old.width c.program g keys c.frame w.objects g.clause call.numbers call.passed (subst (ShowObjects c.items old.width) (sym call.objects) c.shown));
    frame_shown = callee_shown c.items old new f g keys args c.frame did call.count call.values_at c.fits;
  };
  stands = stands_same c.items old new f old.base c.frame did.width (λ j l. did.same j (let long = did.long in omega (arith, l, long))) (record {
    shown = subst (λ n. ShowsFrame c.items (with_frame old old.base n) c.frame) did.count c.fits;
    names = call.names;
  });
}
