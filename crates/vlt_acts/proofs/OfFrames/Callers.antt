-- A function is left, and its caller goes on.
use Rattle.std.proofs.Common.{◌≡◌, inr, ◌<◌, ◌≤◌, ◌+◌, ◌*◌, ◌-◌, ◌==◌, ℕ, Bool, true, false, if◌then◌else◌, List, [], ◌∷◌, ◌++◌, filter, length, Option, Some, None, Result, Ok, Err, refl, sym, ap, ◌∙◌, subst, arith, slice_get}
use Rattle.std.specs.Option.{option_map, option_to_list}
use Rattle.std.specs.Prelude.{IfSome}
use Rattle.std.proofs.lemmas.Bool.Decides.{nat_tests}
use Rattle.vlt_base.specs.declared.ids.VarId.{VarId}
use Rattle.std.proofs.lemmas.Bool.{false≢true}
use Rattle.std.proofs.lemmas.Option.{none-some, same_Some}
use Rattle.vlt_ops.specs.declared.TrapKind.{TrapKind}
use Rattle.vlt_core.specs.Core.{Operand, pure, move, pack, number, truth, var, field, unary, binary, Entry, Func, Program}
use Rattle.vlt_core.specs.Lookups.{is_new, is_held_after, after_set}
use Rattle.vlt_core.specs.View.{func_of, keys_of}
use Rattle.vlt_rings.proofs.Rows.{row_fits}
use Rattle.vlt_heap.specs.declared.heap.Heap.{Heap}
use Rattle.vlt_heap.specs.Items.{Items}
use Rattle.vlt_meaning.specs.World.{reference, Value, one, held, Object, World, Frame, trap, fault, done, fuel_end, heap_end, depth_end, input_end, answers_end, bad_answer, no_value, not_empty, left_behind}
use Rattle.vlt_meaning.specs.Found.{Found, ◌>>=◌, or_fault, Named}
use Rattle.vlt_meaning.specs.Objects.{with_owner, with_changed_object, in_states}
use Rattle.vlt_meaning.specs.Values.{held_object}
use Rattle.vlt_meaning.specs.Calls.{entries_after, binding, bindings, with_names, with_holders, back_in, with_returned, new_object, returned_object, returned_objects, holds_only, is_emptied}
use Rattle.vlt_meaning.specs.Step.{goes, leaves, ends, with_found, where_so, with_var, with_key, with_objects, deliver, fill, is_fillable}
use Rattle.vlt_meaning.specs.Run.{Setup, left_function}
use Rattle.vlt_meaning_laws.proofs.Keeping.{bound, err-ok}
use Rattle.vlt_meaning_laws.specs.Machine.Got.{Got, got, stopped, then_step, found_in, operand_got}
use Rattle.vlt_meaning_laws.specs.Machine.Machine.{Caller}
use Rattle.vlt_meaning_laws.proofs.OfMachine.Gots.{operand_step}
use Rattle.vlt_acts.specs.declared.values.values.Values.{Values}
use Rattle.vlt_acts.specs.Values.Parts.{HasPartAt, HaveValue}
use Rattle.vlt_acts.specs.Values.Shown.{IsTable, with_frame, var_at, key_at, ShowObjects, ShowsFrame, Seen, IsCut, AreApart}
use Rattle.vlt_acts.specs.Values.Pushed.{Shows, HasPushed, IsPushed}
use Rattle.vlt_acts.proofs.OfValues.Touching.{OrFault, then_fault, so_fault, held_fault, object_of_fault, object_of_is, held_is, so_is}
use Rattle.vlt_acts.proofs.OfValues.Writing.{value_moved}
use Rattle.vlt_acts.specs.Acts.Acts.{IsSameFrame}
use Rattle.vlt_acts.proofs.OfActs.Keeping.{assigned, value_same}
use Rattle.vlt_acts.specs.declared.frames.waiting.Waiting.{Waiting}
use Rattle.vlt_acts.specs.Frames.Frames.{IsLike, frame_end, IsRunning, NamesOwn, Stands, IsBelow, Waits}
use Rattle.vlt_acts.specs.Frames.Left.{value_at, kept_at, IsKeptAt, AreKept, IsRootAt, AreRoots, IsGiven, HasLeft, IsLeft, HasReturned, IsBack}
use Rattle.vlt_acts.specs.Frames.Naming.{KeysBelow, IsNamed, Names, IsCopiedTo, IsDelivered}
use Rattle.vlt_acts.proofs.OfFrames.Like.{like_back, stands_like, names_same, back_like}
use Rattle.vlt_acts.proofs.OfFrames.Standing.{IsSamePlace, frame_same}
use Rattle.vlt_acts.proofs.OfFrames.Callees.{root_held, held_shown}

-- ---- where a function is left

returned_fault : (p : Program) (f : Func) (o : Option Operand) (e : Entry) (frame : Frame) (objects : List Object) → OrFault (returned_object p f o e frame objects)
returned_fault p f o e frame objects = by (is_new e)
  where
    new_fault : (o : Option Operand) → OrFault (new_object p f o e frame objects)
    new_fault (Some (pure (var x))) = object_of_fault f (λ r. after_set p f e) x frame objects
    new_fault (Some (pure (number z))) = refl
    new_fault (Some (pure (truth b))) = refl
    new_fault (Some (pure (field x i))) = refl
    new_fault (Some (pure (unary op a))) = refl
    new_fault (Some (pure (binary op a b))) = refl
    new_fault (Some (move v)) = refl
    new_fault (Some (pack x states)) = refl
    new_fault None = refl

    by : (b : Bool) → OrFault (if b then new_object p f o e frame objects else (held_object e.key frame objects >>= in_states (after_set p f e)))
    by true = new_fault o
    by false = then_fault (held_object e.key frame objects) _ (held_fault e.key frame objects) (λ m. so_fault _ _ m)

all_fault : (p : Program) (f : Func) (o : Option Operand) (es : List Entry) (frame : Frame) (objects : List Object) → OrFault (returned_objects p f o es frame objects)
all_fault p f o [] frame objects = tt
all_fault p f o (e ∷ es) frame objects =
    then_fault (returned_object p f o e frame objects) _ (returned_fault p f o e frame objects) (λ n.
    then_fault (returned_objects p f o es frame objects) _ (all_fault p f o es frame objects) (λ ns. tt))

-- a variable that was given stands at the end
abbrev IsVarGiven : Items → Values → Option Operand → Frame → Type 0
IsVarGiven items values o frame =
    (x n : ℕ) → o ≡ Some (pure (var x)) → frame.vars x ≡ Some (one (reference n)) → IsKeptAt items values.slots.items values.base (value_at values) n

record IsFoundAt (items : Items) (values : Values) (objects : List Object) (e : Entry) (n : ℕ) : Type 0 where
  kept : IsKeptAt items values.slots.items values.base (kept_at (key_at values 0) (value_at values) e) n
  root : IsRootAt objects n

returned_is : (items : Items) (values : Values) (p : Program) (f : Func) (o : Option Operand) (e : Entry) (frame : Frame) (objects : List Object) (m : Named) → ShowsFrame items values frame → IsVarGiven items values o frame
    → returned_object p f o e frame objects ≡ Ok m → IsFoundAt items values objects e m.number
returned_is items values p f o e frame objects m h given is = by (is_new e) refl is
  where
    var_is : (o : Option Operand) → IsVarGiven items values o frame → new_object p f o e frame objects ≡ Ok m → IsKeptAt items values.slots.items values.base (value_at values) m.number × IsRootAt objects m.number
    var_is (Some (pure (var x))) g q =
        let k = object_of_is f (λ r. after_set p f e) x frame objects m q in
        (g x m.number refl k.touched.var, record { object = m.object; at = k.touched.at; live = k.root.live; root = k.root.above; here = k.root.here })
    var_is (Some (pure (number z))) g q = absurd (err-ok q)
    var_is (Some (pure (truth b))) g q = absurd (err-ok q)
    var_is (Some (pure (field x i))) g q = absurd (err-ok q)
    var_is (Some (pure (unary op a))) g q = absurd (err-ok q)
    var_is (Some (pure (binary op a b))) g q = absurd (err-ok q)
    var_is (Some (move v)) g q = absurd (err-ok q)
    var_is (Some (pack x states)) g q = absurd (err-ok q)
    var_is None g q = absurd (err-ok q)

    by : (b : Bool) → is_new e ≡ b → (if b then new_object p f o e frame objects else (held_object e.key frame objects >>= in_states (after_set p f e))) ≡ Ok m → IsFoundAt items values objects e m.number
    by true new q =
        let v = var_is o given q in
        record { kept = subst (λ b. IsKeptAt items values.slots.items values.base (if b then value_at values else key_at values 0 + e.key) m.number) (sym new) v.0; root = v.1 }
    by false new q =
        let a = bound (held_object e.key frame objects) _ m q in
        let s = so_is _ _ a.0 m a.2 in
        let k = held_is e.key frame objects a.0 a.1 in
        let part = h.keys e.key a.0.number k.key in
        subst (λ z. IsFoundAt items values objects e z.number) s.1 (record {
          kept = subst (λ b. IsKeptAt items values.slots.items values.base (if b then value_at values else key_at values 0 + e.key) a.0.number) (sym new)
              (record { following = omega arith; part = subst (λ i. HasPartAt items values.slots.items i (reference a.0.number)) (omega arith) part });
          root = record { object = a.0.object; at = k.at; live = k.root.live; root = k.root.above; here = k.root.here };
        })

all_returned : (items : Items) (values : Values) (p : Program) (f : Func) (o : Option Operand) (es : List Entry) (frame : Frame) (objects : List Object) (ns : List ℕ) → ShowsFrame items values frame → IsVarGiven items values o frame
    → returned_objects p f o es frame objects ≡ Ok ns → AreKept items values.slots.items values.base (key_at values 0) (value_at values) es ns × AreRoots objects ns
all_returned items values p f o [] frame objects ns h given is = none ns is
  where
    none : (ns : List ℕ) → ◌≡◌ {A = Found (List ℕ)} (Ok []) (Ok ns) → AreKept items values.slots.items values.base (key_at values 0) (value_at values) [] ns × AreRoots objects ns
    none [] e = (tt, tt)
    none (n ∷ ns) e = absurd (subst is_none e tt)
      where
        is_none : Found (List ℕ) → Type 0
        is_none (Ok []) = Unit {0}
        is_none _ = ⊥
all_returned items values p f o (e ∷ es) frame objects ns h given is =
    let a = bound (returned_object p f o e frame objects) _ ns is in
    let b = bound (returned_objects p f o es frame objects) _ ns a.2 in
    let k = returned_is items values p f o e frame objects a.0 h given a.1 in
    let r = all_returned items values p f o es frame objects b.0 h given b.1 in
    subst (λ z. AreKept items values.slots.items values.base (key_at values 0) (value_at values) (e ∷ es) z × AreRoots objects z) (ap (listed ns) b.2) ((k.kept, r.0), (k.root, r.1))
  where
    listed : List ℕ → Found (List ℕ) → List ℕ
    listed ns (Ok xs) = xs
    listed ns (Err o) = ns

pub left_is : (items : Items) (values : Values) (s : Setup) (f : Func) (o : Option Operand) (a : Option Value) (frame : Frame) (w : World) → Shows items values frame w.objects → ((v : Value) → a ≡ Some v → IsGiven items values v) → IsVarGiven items values o frame
    → IsLeft items values f (Ok tt) (left_function s f o a frame w)
unfolding left_function with_found where_so
left_is items values s f o a frame w h given var_given = by (returned_objects s.program f o (entries_after f) frame w.objects) refl (all_fault s.program f o (entries_after f) frame w.objects)
  where
    last : (kept : List ℕ) → AreKept items values.slots.items values.base (key_at values 0) (value_at values) (entries_after f) kept × AreRoots w.objects kept → (x y : Bool) → IsLeft items values f (Ok tt) (where_so x left_behind None w (λ w. where_so y left_behind None w (λ w. leaves a kept w)))
    last kept k true true = (refl, record { objects = h.objects_shown; value = given; slots = k.0; roots = k.1 })
    last kept k true false = refl
    last kept k false y = refl

    by : (x : Found (List ℕ)) → returned_objects s.program f o (entries_after f) frame w.objects ≡ x → OrFault x
        → IsLeft items values f (Ok tt) (with_found x w (λ kept. where_so (holds_only kept frame w.objects) left_behind None w (λ w. where_so (is_emptied f frame) left_behind None w (λ w. leaves a kept w))))
    by (Ok kept) e bad = last kept (all_returned items values s.program f o (entries_after f) frame w.objects kept h.frame_shown var_given e) (holds_only kept frame w.objects) (is_emptied f frame)
    by (Err done) e bad = bad
    by (Err (trap t)) e bad = absurd (false≢true bad)
    by (Err fuel_end) e bad = bad
    by (Err heap_end) e bad = bad
    by (Err depth_end) e bad = bad
    by (Err input_end) e bad = bad
    by (Err answers_end) e bad = bad
    by (Err (bad_answer n)) e bad = bad
    by (Err (fault r n)) e bad = bad

pub none_given : (h : Heap) (values : Values) (c : Seen h values) (w : World) (s : Setup) (f : Func) → w.objects ≡ c.objects → IsLeft c.items values f (Ok tt) (with_returned s.program f None c.frame w (λ a frame w. left_function s f None a frame w))
unfolding with_returned
none_given h values c w s f same =
    left_is c.items values s f None None c.frame w (record { objects_shown = subst (ShowObjects c.items values.width) (sym same) c.shown; frame_shown = c.fits })
    (λ v e. absurd (none-some v e)) (λ x n e is. absurd (none-some (pure (var x)) e))

-- a variable's value is given, and the frame is as it was
var_got : (p : Program) (f : Func) (x : ℕ) (before : Frame) (w : World) (a : Value) (frame : Frame) (u : World) → operand_got p f (pure (var x)) before w ≡ got a frame u → (before.vars x ≡ Some a) × (before ≡ frame)
unfolding found_in
var_got p f x before w a frame u e = by (before.vars x) e
  where
    value_in : Value → Got Value → Value
    value_in d (got b g v) = b
    value_in d (stopped q v) = d

    frame_in : Got Value → Frame
    frame_in (got b g v) = g
    frame_in (stopped q v) = frame

    is_got : Got Value → Type 0
    is_got (got b g v) = Unit {0}
    is_got (stopped q v) = ⊥

    by : (y : Option Value) → found_in (or_fault no_value y) before w ≡ got a frame u → (y ≡ Some a) × (before ≡ frame)
    by None e = absurd (subst is_got (sym e) tt)
    by (Some b) e = (ap (λ z. Some (value_in a z)) e, ap frame_in e)

-- the value was pushed
pub some_given : (h : Heap) (old new : Values) (c : Seen h old) (w : World) (s : Setup) (f : Func) (o : Operand) (r : Result (Unit {0}) TrapKind) → c.func ≡ f → s.program ≡ c.program → new.base ≡ old.base → new.width ≡ old.width → old.base ≤ length old.slots.items
    → length new.slots.items ≡ length old.slots.items + old.width → IsPushed c.items old new r (operand_got c.program c.func o c.frame w)
    → IsLeft c.items new f r (with_returned s.program f (Some o) c.frame w (λ a frame w. left_function s f (Some o) a frame w))
unfolding with_returned then_step
some_given h old new c w s f o r func program base width low long pushed =
    subst (IsLeft c.items new f r) (sym (operand_step s.program f o c.frame w (λ a frame w. left_function s f (Some o) (Some a) frame w)))
    (by (operand_got s.program f o c.frame w) refl (subst (λ p. IsPushed c.items old new r (operand_got p f o c.frame w)) (sym program) (subst (λ g. IsPushed c.items old new r (operand_got c.program g o c.frame w)) func pushed)))
  where
    at : value_at new ≡ length old.slots.items
    at = omega (arith, long, width)

    given : (a v : Value) (frame : Frame) (u : World) → HasPushed c.items old new r a frame u → ◌≡◌ {A = Option Value} (Some a) (Some v) → IsGiven c.items new v
    given a v frame u k e = record {
      following = omega (arith, long, width, base, low);
      value = subst (λ q. HaveValue c.items new.slots.items (value_at new) q v) (sym width) (subst (λ i. HaveValue c.items new.slots.items i old.width v) (sym at) (subst (HaveValue c.items new.slots.items (length old.slots.items) old.width) (same_Some a v e) k.value));
    }

    -- a variable's reference is the value
    var_given : (a : Value) (frame : Frame) (u : World) → HasPushed c.items old new r a frame u → operand_got s.program f o c.frame w ≡ got a frame u → IsVarGiven c.items new (Some o) frame
    var_given a frame u k is x n same ref =
        let same_o : o ≡ pure (var x) = same_Some o (pure (var x)) same in
        let g = var_got s.program f x c.frame w a frame u (subst (λ q. operand_got s.program f q c.frame w ≡ got a frame u) same_o is) in
        let v : a ≡ one (reference n) = same_Some a (one (reference n)) (sym g.0 ∙ ap (λ z. z.vars x) g.1 ∙ ref) in
        let part = (subst (HaveValue c.items new.slots.items (length old.slots.items) old.width) v k.value).parts.0 in
        record { following = omega (arith, at, base, low); part = subst (λ i. HasPartAt c.items new.slots.items i (reference n)) (sym at) part }

    by : (x : Got Value) → operand_got s.program f o c.frame w ≡ x → IsPushed c.items old new r x → IsLeft c.items new f r (then_step x (λ a frame w. left_function s f (Some o) (Some a) frame w))
    by (got a frame u) e k = subst (λ q. IsLeft c.items new f q (left_function s f (Some o) (Some a) frame u)) (sym k.is)
        (left_is c.items new s f (Some o) (Some a) frame u k.shows (λ v q. given a v frame u k q) (var_given a frame u k e))
    by (stopped done u) e k = k
    by (stopped (trap t) u) e k = k
    by (stopped fuel_end u) e k = k
    by (stopped heap_end u) e k = k
    by (stopped depth_end u) e k = k
    by (stopped input_end u) e k = k
    by (stopped answers_end u) e k = k
    by (stopped (bad_answer n) u) e k = k
    by (stopped (fault q n) u) e k = k

-- ---- back in the caller

roots_held : (objects : List Object) (d k n : ℕ) (ns : List ℕ) → AreRoots objects ns → AreRoots (with_changed_object n (with_owner (held d k)) objects) ns
roots_held objects d k n [] h = tt
roots_held objects d k n (m ∷ ns) h = (root_held objects d k m n h.0, roots_held objects d k n ns h.1)

holders_shown : (items : Items) (width d : ℕ) (keys : List ℕ) (es : List Entry) (ns : List ℕ) (objects : List Object) → AreRoots objects ns → ShowObjects items width objects → ShowObjects items width (with_holders d (bindings keys es ns) objects)
holders_shown items width d keys [] ns objects roots h = h
holders_shown items width d keys (e ∷ es) [] objects roots h = h
holders_shown items width d keys (e ∷ es) (n ∷ ns) objects roots h = by (λ os r s. holders_shown items width d keys es ns os r s) (slice_get keys e.key)
  where
    by : ((os : List Object) → AreRoots os ns → ShowObjects items width os → ShowObjects items width (with_holders d (bindings keys es ns) os)) → (x : Option ℕ)
        → ShowObjects items width (with_holders d (option_to_list (option_map (binding n) x) ++ bindings keys es ns) objects)
    by rest None = rest objects roots.1 h
    by rest (Some k) = rest (with_changed_object n (with_owner (held d k)) objects) (roots_held objects d k n ns roots.1) (held_shown items width objects d k n h roots.0)

equal_is : (j k : ℕ) → (j == k) ≡ true → j ≡ k
equal_is j k e = grind (arith, nat_tests)

set_own : (f : Func) (frame : Frame) (k n : ℕ) → k < length f.keys → NamesOwn f frame → NamesOwn f (with_key k n frame)
set_own f frame k n l own j m e = by (j == k) refl e
  where
    by : (t : Bool) → (j == k) ≡ t → (if t then Some n else frame.keys j) ≡ Some m → j < length f.keys
    by true t q = subst (λ z. z < length f.keys) (sym (equal_is j k t)) l
    by false t q = own j m q

names_own : (f : Func) (keys : List ℕ) → ((i k : ℕ) → slice_get keys i ≡ Some k → k < length f.keys) → (es : List Entry) (ns : List ℕ) (frame : Frame) → NamesOwn f frame → NamesOwn f (with_names (bindings keys es ns) frame)
names_own f keys within [] ns frame own = own
names_own f keys within (e ∷ es) [] frame own = own
names_own f keys within (e ∷ es) (n ∷ ns) frame own = by (λ g o. names_own f keys within es ns g o) (slice_get keys e.key) refl
  where
    by : ((g : Frame) → NamesOwn f g → NamesOwn f (with_names (bindings keys es ns) g)) → (x : Option ℕ) → slice_get keys e.key ≡ x → NamesOwn f (with_names (option_to_list (option_map (binding n) x) ++ bindings keys es ns) frame)
    by rest None at = rest frame own
    by rest (Some k) at = rest (with_key k n frame) (set_own f frame k n (within e.key k at) own)

-- ---- the table is cut back

cut_place : (end : ℕ) (old new : Values) (f : Func) → IsCut end old new → old.vars ≡ length f.vars → frame_end old.width old.base f ≡ end → IsSamePlace old new f
cut_place end old new f cut count below = record {
  base = cut.base;
  vars = cut.vars;
  width = cut.width;
  count = count;
  slots = λ j l. cut.same j (omega (arith, l, below));
}

-- ---- what the code did: keys were named, and the value was copied, if the call has a target

pub record AreNamed (w : Waiting) (g : Func) (old mid : Values) : Type 0 where
  pub below : IsBelow w old.width old.base
  pub named : IsNamed old.base (with_frame old w.base w.vars) mid
  pub names : Names (entries_after g) (keys_of w.keys.now) old.base (key_at old 0) (value_at old) (with_frame old w.base w.vars) mid

abbrev named_frame : (w : Waiting) (g : Func) (kept : List ℕ) → Frame → Frame
named_frame w g kept frame = with_names (bindings (keys_of w.keys.now) (entries_after g) kept) frame

abbrev named_world : (w : Waiting) (g : Func) (kept : List ℕ) → Frame → World → World
named_world w g kept frame v = with_objects v (with_holders frame.depth (bindings (keys_of w.keys.now) (entries_after g) kept) v.objects)

module _ (items : Items) (w : Waiting) (g : Func) (old mid new : Values) (a : Option Value) (kept : List ℕ) (v : World) (frame : Frame) (did : AreNamed w g old mid) (left : HasLeft items old g a kept v) (stands : Stands items old (func_of w.func.now) w.base frame) where
  names_shown : ShowsFrame items mid (named_frame w g kept frame)
  names_shown = did.names items frame kept left.slots (subst (λ n. ShowsFrame items (with_frame old w.base n) frame) (sym did.below.vars) stands.shown)

  objects_shown : ShowObjects items old.width (named_world w g kept frame v).objects
  objects_shown = holders_shown items old.width frame.depth (keys_of w.keys.now) (entries_after g) kept v.objects left.roots left.objects

  own : NamesOwn (func_of w.func.now) (named_frame w g kept frame)
  own = names_own (func_of w.func.now) (keys_of w.keys.now) did.below.keys (entries_after g) kept frame stands.names

  -- the table is cut back to the caller's frame, which has this frame by then
  cut_shown : (last : Values) (frame2 : Frame) → last.base ≡ mid.base → last.vars ≡ mid.vars → last.width ≡ mid.width → IsCut old.base last new → ShowsFrame items last frame2 → NamesOwn (func_of w.func.now) frame2
      → HasReturned items new (func_of w.func.now) frame2 (named_world w g kept frame v)
  cut_shown last frame2 base vars width cut shown names = record {
    shows = record {
      objects_shown = subst (λ n. ShowObjects items n (named_world w g kept frame v).objects) (sym (cut.width ∙ width ∙ did.named.width)) objects_shown;
      frame_shown = frame_same items last new (func_of w.func.now) frame2
          (cut_place old.base last new (func_of w.func.now) cut (vars ∙ did.named.vars ∙ did.below.vars) (rw (base, width, did.named.base, did.named.width) did.below.ends)) names shown;
    };
    names = names;
  }

  none_back : w.target ≡ None → IsCut old.base mid new → IsBack items new (func_of w.func.now) (back_in (func_of w.func.now) (option_map (λ x. x.0) w.target) (keys_of w.keys.now) g frame (leaves a kept v))
  unfolding back_in deliver
  none_back is cut =
      subst (λ t. IsBack items new (func_of w.func.now) (deliver (func_of w.func.now) (option_map (λ x. x.0) t) a (named_frame w g kept frame) (named_world w g kept frame v))) (sym is)
      (cut_shown mid (named_frame w g kept frame) refl refl refl cut names_shown own)

  some_back : (x : VarId) (last : Values) → w.target ≡ Some x → IsCopiedTo (var_at mid x.0) mid last → IsCut old.base last new
      → IsBack items new (func_of w.func.now) (back_in (func_of w.func.now) (option_map (λ x. x.0) w.target) (keys_of w.keys.now) g frame (leaves a kept v))
  unfolding back_in deliver with_found fill where_so
  some_back x last is copied cut =
      subst (λ t. IsBack items new (func_of w.func.now) (deliver (func_of w.func.now) (option_map (λ x. x.0) t) a (named_frame w g kept frame) (named_world w g kept frame v))) (sym is)
      (by a left.value)
    where
      within : x.0 < w.vars
      within = subst (λ t. IfSome t (λ v. v.0 < w.vars)) is did.below.target

      width : mid.width ≡ old.width
      width = did.named.width

      -- the caller's variables are below the callee's frame
      low : var_at mid x.0 + old.width ≤ old.base
      low =
          let fits = row_fits x.0 w.vars old.width old.width within (omega arith) in
          let count : w.vars * old.width ≡ length (func_of w.func.now).vars * old.width = ap (λ n. n * old.width) did.below.vars in
          let place : var_at mid x.0 ≡ w.base + x.0 * old.width = ap (λ b. b + x.0 * mid.width) did.named.base ∙ ap (λ n. w.base + x.0 * n) width in
          let ends = did.below.ends in
          omega (arith, fits, count, place, ends)

      delivered : (b : Value) → IsGiven items old b → (t : Bool) → IsBack items new (func_of w.func.now) (where_so t not_empty None (named_world w g kept frame v) (λ u. goes (with_var x.0 (Some b) (named_frame w g kept frame)) u))
      delivered b given false = refl
      delivered b given true = cut_shown last (with_var x.0 (Some b) (named_frame w g kept frame)) copied.kept.base copied.kept.vars copied.kept.width cut
          (assigned items mid last (named_frame w g kept frame) x.0 b (subst (λ n. x.0 < n) (sym did.named.vars) within) copied.kept
          (subst (λ n. HaveValue items last.slots.items (var_at mid x.0) n b) (sym (copied.kept.width ∙ width)) moved)
          names_shown)
          own
        where
          high : old.base ≤ value_at old
          high = let h = given.following in omega (arith, h)

          place : value_at mid ≡ value_at old
          place = ap (λ n. n - mid.width) did.named.long ∙ ap (λ n. length old.slots.items - n) width

          apart : AreApart (value_at mid) (var_at mid x.0) mid.width
          apart = inr (inr (let p = place in let w2 = width in omega (arith, high, low, p, w2)))

          moved : HaveValue items last.slots.items (var_at mid x.0) old.width b
          moved = value_moved items mid.slots.items last.slots.items (value_at mid) (var_at mid x.0) old.width b (λ j c l from. copied.filled apart j c (subst (λ n. j < n) (sym width) l) from)
              (subst (λ i. HaveValue items mid.slots.items i old.width b) (sym place)
              (value_same items old.slots.items mid.slots.items (value_at old) old.width b (λ j from l. did.named.following j (omega (arith, from, high))) given.value))

      by : (y : Option Value) → ((b : Value) → y ≡ Some b → IsGiven items old b) → IsBack items new (func_of w.func.now) (deliver (func_of w.func.now) (Some x.0) y (named_frame w g kept frame) (named_world w g kept frame v))
      by None given = refl
      by (Some b) given = delivered b (given b refl) (is_fillable (func_of w.func.now) x.0 (named_frame w g kept frame))

  pub goes_back : (last : Values) → IsDelivered w.target mid last → IsCut old.base last new → IsBack items new (func_of w.func.now) (back_in (func_of w.func.now) (option_map (λ x. x.0) w.target) (keys_of w.keys.now) g frame (leaves a kept v))
  goes_back last delivered cut = by w.target refl delivered
    where
      by : (t : Option VarId) → w.target ≡ t → IsDelivered t mid last → IsBack items new (func_of w.func.now) (back_in (func_of w.func.now) (option_map (λ x. x.0) w.target) (keys_of w.keys.now) g frame (leaves a kept v))
      by None is d = none_back is (subst (λ u. IsCut old.base u new) d cut)
      by (Some x) is d = some_back x last is d cut

-- the caller that waits is this one
pub back_of : (items : Items) (w : Waiting) (g : Func) (old new : Values) (a : Option Value) (kept : List ℕ) (v : World) (k : Caller) → Waits items old w old.base k
    → (Stands items old (func_of w.func.now) w.base k.frame → IsBack items new (func_of w.func.now) (back_in (func_of w.func.now) (option_map (λ x. x.0) w.target) (keys_of w.keys.now) g k.frame (leaves a kept v)))
    → IsBack items new k.func (back_in k.func k.target k.keys g k.frame (leaves a kept v))
back_of items w g old new a kept v k waits is =
    subst goal waits.is
    (back_like items new (func_of w.func.now) k.func (option_map (λ x. x.0) w.target) (keys_of w.keys.now) g k.frame a kept v waits.func
    (is (stands_like items old k.func (func_of w.func.now) w.base k.frame (like_back (func_of w.func.now) k.func waits.func) waits.stands)))
  where
    goal : Caller → Type 0
    goal c = IsBack items new c.func (back_in c.func c.target c.keys g c.frame (leaves a kept v))

-- they are named so after each instance of the function that was left
pub named_like : (w : Waiting) (f g : Func) (old mid : Values) → IsLike f g → AreNamed w f old mid → AreNamed w g old mid
named_like w f g old mid h did = record {
  below = did.below;
  named = did.named;
  names = names_same (entries_after f) (entries_after g) (keys_of w.keys.now) old.base (key_at old 0) (value_at old) (with_frame old w.base w.vars) mid h.kept did.names;
}

-- ---- what the parts of the code ask

pub keys_below : (w : Waiting) (old : Values) → IsBelow w old.width old.base → KeysBelow (keys_of w.keys.now) old.base (with_frame old w.base w.vars)
keys_below w old below i k at =
    let l = below.keys i k at in
    let e = below.ends in
    let count : w.vars * old.width ≡ length (func_of w.func.now).vars * old.width = ap (λ n. n * old.width) below.vars in
    omega (arith, l, e, count)

pub mid_table : (w : Waiting) (old mid : Values) → IsTable old → IsBelow w old.width old.base → IsNamed old.base (with_frame old w.base w.vars) mid → IsTable mid
mid_table w old mid table below named =
    let e = below.ends in
    let count : w.vars * old.width ≡ length (func_of w.func.now).vars * old.width = ap (λ n. n * old.width) below.vars in
    rw (named.base, named.vars, named.width, named.long) (omega (arith, e, count, table))

pub mid_target : (w : Waiting) (old mid : Values) → IsBelow w old.width old.base → IsNamed old.base (with_frame old w.base w.vars) mid → IfSome w.target (λ v. v.0 < mid.vars)
mid_target w old mid below named = subst (λ n. IfSome w.target (λ v. v.0 < n)) (sym named.vars) below.target

pub record HasGone (w : Waiting) (old new : Values) : Type 0 where
  pub running : IsRunning new (func_of w.func.now) 0
  pub base : new.base ≡ w.base
  pub width : new.width ≡ old.width
  pub same : (k : ℕ) → k < w.base → slice_get new.slots.items k ≡ slice_get old.slots.items k

pub has_gone : (w : Waiting) (old mid last new : Values) → IsTable old → IsBelow w old.width old.base → IsNamed old.base (with_frame old w.base w.vars) mid → IsSameFrame mid last → IsCut old.base last new → HasGone w old new
has_gone w old mid last new table below named same cut = record {
  running = record {
    vars = cut.vars ∙ same.vars ∙ named.vars ∙ below.vars;
    long = cut.long ∙ sym below.ends ∙ rw (width, base) (omega arith);
  };
  base = base;
  width = width;
  same = λ k l.
      let e = below.ends in
      cut.same k (omega (arith, l, e)) ∙ same.below k (subst (λ n. k < n) (sym named.base) l) ∙ named.below k l;
}
  where
    base : new.base ≡ w.base
    base = cut.base ∙ same.base ∙ named.base

    width : new.width ≡ old.width
    width = cut.width ∙ same.width ∙ named.width

pub named_so : (w : Waiting) (g : Func) (old run mid : Values) (es : List Entry) (from value : ℕ) → run ≡ with_frame old w.base w.vars → from ≡ key_at old 0 → value ≡ value_at old → es ≡ g.clause → IsBelow w old.width old.base
    → ((top : ℕ) → KeysBelow (keys_of w.keys.now) top run → IsNamed top run mid) → ((top : ℕ) → KeysBelow (keys_of w.keys.now) top run → Names (filter is_held_after es) (keys_of w.keys.now) top from value run mid) → AreNamed w g old mid
named_so w g old run mid es from value is_run is_from is_value is_es below named names = record {
  below = below;
  named = subst (λ r. IsNamed old.base r mid) is_run (named old.base keys);
  names =
      subst (λ r. Names (entries_after g) (keys_of w.keys.now) old.base (key_at old 0) (value_at old) r mid) is_run
      (subst (λ x. Names (entries_after g) (keys_of w.keys.now) old.base (key_at old 0) x run mid) is_value
      (subst (λ x. Names (entries_after g) (keys_of w.keys.now) old.base x value run mid) is_from
      (subst (λ e. Names (filter is_held_after e) (keys_of w.keys.now) old.base from value run mid) is_es (names old.base keys))));
}
  where
    keys : KeysBelow (keys_of w.keys.now) old.base run
    keys = subst (KeysBelow (keys_of w.keys.now) old.base) (sym is_run) (keys_below w old below)
