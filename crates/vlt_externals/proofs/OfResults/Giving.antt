-- What a call gives, as its value stands after the frame.
use Rattle.std.proofs.Common.{◌≡◌, ◌≢◌, ◌⊎◌, inl, inr, ◌<◌, ◌≤◌, ◌==◌, ◌+◌, ◌*◌, ℕ, ℤ, Bool, true, false, if◌then◌else◌, List, [], ◌∷◌, ◌++◌, filter, length, Option, None, Some, Result, Ok, Err, refl, sym, ap, ◌∙◌, subst, arith, slice_get}
use Rattle.std.specs.Option.{option_map}
use Rattle.std.specs.Result.{is_ok}
use Rattle.std.proofs.lemmas.Bool.{false≢true}
use Rattle.std.proofs.lemmas.Bool.Decides.{nat_tests}
use Rattle.std.proofs.lemmas.Option.{none-some, same_Some}
use Rattle.vlt_base.specs.declared.HeapEnd.{HeapEnd}
use Rattle.vlt_base.specs.declared.ids.TypeId.{TypeId}
use Rattle.vlt_base.specs.declared.ids.KeyId.{KeyId}
use Rattle.vlt_base.specs.declared.states.StateSet.{StateSet}
use Rattle.vlt_core.specs.declared.program.Ty.{Ty as CodeTy}
use Rattle.vlt_core.specs.declared.program.Ty.TheVariants as code
use Rattle.vlt_core.specs.View.{ty_of}
use Rattle.vlt_core.specs.Core.{Ty, tracked, variant, owning_variant, Entry, Func, Program}
use Rattle.vlt_core.specs.Lookups.{is_held_after, is_new, after_set, VariantOf, variant_in}
use Rattle.vlt_rings.proofs.Rows.{row_fits}
use Rattle.vlt_heap.specs.declared.slots.Obj.{Obj}
use Rattle.vlt_heap.specs.declared.slots.Slot.{Slot}
use Rattle.vlt_heap.specs.declared.slots.Slot.TheVariants.{Object}
use Rattle.vlt_heap.specs.declared.heap.Heap.{Heap}
use Rattle.vlt_heap.specs.Items.{Items}
use Rattle.vlt_heap.specs.Shown.{heap_of}
use Rattle.vlt_meaning.specs.World.{Part, reference, Value, one, held, Object as Thing, Frame, Outcome, heap_end, fault, missing, is_fault}
use Rattle.vlt_meaning.specs.Found.{Found, ◌>>=◌, or_fault}
use Rattle.vlt_meaning.specs.Step.{with_key}
use Rattle.vlt_meaning.specs.Calls.{binding}
use Rattle.vlt_meaning.specs.HostAnswers.{Piece, Result as Given, nothing, piece, case_with, then_reads, reads, each, state_in, piece_of, piece_read, variant_read, result_read}
use Rattle.vlt_meaning.specs.Externals.{from_host, type_in, new_key}
use Rattle.vlt_acts.specs.declared.values.values.Values.{Values}
use Rattle.vlt_acts.specs.Values.Parts.{HasPart, IsObject, HaveValue}
use Rattle.vlt_acts.specs.Values.Filled.{IsFilled, IsSingleSlot}
use Rattle.vlt_acts.specs.Values.Shown.{ShowObjects, ShowsFrame, var_at, key_at, Seen, IsKept, IsKeySet}
use Rattle.vlt_acts.specs.Acts.Acts.{IsSameFrame}
use Rattle.vlt_acts.proofs.OfActs.Keeping.{value_same, frame_kept, single_at}
use Rattle.vlt_acts.proofs.OfActs.Naming.{named_shown}
use Rattle.vlt_externals.proofs.OfHostAnswers.Reading.{each_none, each_some}
use Rattle.vlt_externals.specs.Results.Results.{part_made, IsPartMade, MakesPart, MakesIn, AreBefore, IsValueMade, single_made, PutsPiece, variant_made, PutsVariant, Made, fresh_made, result_made, binding_of, NamesNew, IsResultMade, PutsNew, PutsFresh, PutsResult}
use Rattle.vlt_externals.specs.declared.results.results.NewKey.{NewKey}

-- ---- what was put after the frame leaves it as it is

pub after_shown : (items : Items) (old new : Values) (frame : Frame) (to : ℕ) → IsKept to old new → old.base + old.vars * old.width ≤ to → AreBefore to old frame → ShowsFrame items old frame → ShowsFrame items new frame
after_shown items old new frame to kept following before shown = record {
  vars = λ v a e.
      let q = shown.vars v a e in
      let fits = row_fits v old.vars old.width old.width q.within (omega arith) in
      record {
        within = subst (λ n. v < n) (sym kept.vars) q.within;
        value = rw (kept.base, kept.width) (value_same items old.slots.items new.slots.items (var_at old v) old.width a (λ j low high. kept.outside j (inl (omega (arith, high, fits, following)))) q.value);
      };
  keys = λ k n e.
      let q = shown.keys k n e in
      rw (kept.base, kept.vars, kept.width) (record { slot = q.slot; at = kept.outside (key_at old k) (inl (before k n e)) ∙ q.at; part = q.part });
}

pub kept_before : (old new : Values) (frame : Frame) (to : ℕ) → IsKept to old new → AreBefore to old frame → AreBefore to new frame
kept_before old new frame to kept before k n e = rw (kept.base, kept.vars, kept.width) (before k n e)

pub kept_same : (old new : Values) (to : ℕ) → IsKept to old new → old.base ≤ to → IsSameFrame old new
kept_same old new to kept low = record {
  below = λ k l. kept.outside k (inl (omega (arith, l, low)));
  long = kept.long;
  room = omega (arith, kept.room);
  base = kept.base;
  vars = kept.vars;
  width = kept.width;
}

-- ---- a new object under a key

equal_is : (j k : ℕ) → (j == k) ≡ true → j ≡ k
equal_is j k e = grind (arith, nat_tests)

set_before : (old mid : Values) (frame : Frame) (k n to : ℕ) (a : Slot) → IsKeySet k a old mid → key_at old k < to → AreBefore to old frame → AreBefore to mid (with_key k n frame)
set_before old mid frame k n to a set low before j m e = rw (set.base, set.vars, set.width) (by (j == k) refl e)
  where
    by : (t : Bool) → (j == k) ≡ t → (if t then Some n else frame.keys j) ≡ Some m → key_at old j < to
    by true t q = subst (λ z. key_at old z < to) (sym (equal_is j k t)) low
    by false t q = before j m q

module _ (old mid new : Values) (h q : Heap) (t s key to number : ℕ) (o : Obj) (makes : MakesIn t s h q (Ok (o, number))) (wide : 1 ≤ old.width) (low : key_at old key < to) (following : old.base + old.vars * old.width ≤ to) (set : IsKeySet key (Object o number) old mid) (kept : IsKept to mid new)
    (filled : IsFilled (IsSingleSlot (Object o number)) new.slots.items to mid.width) where
  pub new_put : PutsNew t (binding s key) to old new h q (Ok tt)
  new_put c before =
      let m = makes c.items old c.objects (held c.frame.depth key) (record { live = refl; root = refl; here = refl }) c.holds c.shown in
      subst (λ b. IsResultMade c.items q new to (Ok tt) (if b then Err heap_end else Ok (made c))) (sym m.0) (
      let ref : IsObject m.1.shows.items (length c.objects) (Object o number) = record { object = o; is = ap (λ n. Object o n) m.1.number; made = m.1.made } in
      record {
        is = refl;
        shows = record {
          items = m.1.shows.items;
          holds = m.1.shows.holds;
          objects_shown = subst (λ w. ShowObjects m.1.shows.items w (made c).objects) (sym (kept.width ∙ set.width)) m.1.shows.shown;
          frame_shown = after_shown m.1.shows.items mid new (made c).frame to kept (rw (set.base, set.vars, set.width) following) (set_before old mid c.frame key (length c.objects) to (Object o number) set low before)
              (named_shown m.1.shows.items old mid c.frame key (length c.objects) (Object o number) set ref (frame_kept c.items m.1.shows.items old c.frame m.1.shows.kept c.fits));
          kept = m.1.shows.kept;
        };
        value = λ a e. subst (HaveValue m.1.shows.items new.slots.items to new.width) (same_Some (one (reference (length c.objects))) a e)
            (single_at m.1.shows.items new.slots.items to to mid.width new.width (Object o number) (reference (length c.objects)) refl kept.width (subst (λ w. 1 ≤ w) (sym set.width) wide) ref filled);
        keys_before = kept_before mid new (made c).frame to kept (set_before old mid c.frame key (length c.objects) to (Object o number) set low before);
      })
    where
      made : Seen h old → Made
      made c = record {
        value = Some (one (reference (length c.objects)));
        frame = with_key key (length c.objects) c.frame;
        objects = c.objects ++ from_host t s (held c.frame.depth key) ∷ [];
      }

  pub new_same : IsSameFrame old new
  new_same = record {
    below = λ k l. kept.outside k (inl (omega (arith, l, following))) ∙ set.others k (λ e. absurd (omega (arith, e, l)));
    long = kept.long ∙ set.long;
    room = omega (arith, kept.room, set.room);
    base = kept.base ∙ set.base;
    vars = kept.vars ∙ set.vars;
    width = kept.width ∙ set.width;
  }

pub new_full : (old new : Values) (h q : Heap) (t s key to : ℕ) (e : HeapEnd) → MakesIn t s h q (Err e) → PutsNew t (binding s key) to old new h q (Err e)
new_full old new h q t s key to e makes c before =
    subst (λ b. IsResultMade c.items q new to (Err e) (if b then Err heap_end else Ok (record { value = Some (one (reference (length c.objects))); frame = with_key key (length c.objects) c.frame; objects = c.objects ++ from_host t s (held c.frame.depth key) ∷ [] })))
    (sym (makes c.items old c.objects (held c.frame.depth key) (record { live = refl; root = refl; here = refl }) c.holds c.shown)) (inl (refl, refl))

result_still : (h : Heap) (values : Values) (to : ℕ) (c : Seen h values) → AreBefore to values c.frame → IsResultMade c.items h values to (Ok tt) (Ok (record { value = None; frame = c.frame; objects = c.objects }))
result_still h values to c before = record {
  is = refl;
  shows = record { items = c.items; holds = c.holds; objects_shown = c.shown; frame_shown = c.fits; kept = λ k n made. made };
  value = λ a e. absurd (none-some a e);
  keys_before = before;
}

-- ---- the key of a new object

module _ (p : Program) (g : Func) (keys : List ℕ) where
  pub none_new : (zs : List ℤ) → NamesNew p g keys [] zs None
  none_new zs ss rest read = refl

  kept_list : (e : Entry) (es : List Entry) (b : Bool) → is_held_after e ≡ b → filter is_held_after (e ∷ es) ≡ (if b then e ∷ filter is_held_after es else filter is_held_after es)
  kept_list e es b is = ap (λ t. if t then e ∷ filter is_held_after es else filter is_held_after es) is

  new_list : (e : Entry) (es : List Entry) (s : ℕ) (ss : List ℕ) (b : Bool) → is_new e ≡ b → new_key keys (e ∷ es) (s ∷ ss) ≡ (if b then option_map (binding s) (slice_get keys e.key) else new_key keys es ss)
  new_list e es s ss b is = ap (λ t. if t then option_map (binding s) (slice_get keys e.key) else new_key keys es ss) is

  record States (e : Entry) (es : List Entry) (s : ℕ) (more : List ℤ) (ss : List ℕ) (rest : List ℤ) : Type 0 where
    others : List ℕ
    read : each (λ e. state_in (after_set p g e)) es more ≡ Some (others, rest)
    are : s ∷ others ≡ ss

  states_are : (e : Entry) (es : List Entry) (zs more : List ℤ) (s : ℕ) (ss : List ℕ) (rest : List ℤ) → state_in (after_set p g e) zs ≡ Some (s, more) → each (λ e. state_in (after_set p g e)) (e ∷ es) zs ≡ Some (ss, rest) → States e es s more ss rest
  states_are e es zs more s ss rest first all = by (each (λ e. state_in (after_set p g e)) es more) refl (sym (each_some (λ e. state_in (after_set p g e)) e es zs s more first) ∙ all)
    where
      by : (q : Option (List ℕ × List ℤ)) → each (λ e. state_in (after_set p g e)) es more ≡ q → then_reads (λ bs. reads (s ∷ bs)) q ≡ Some (ss, rest) → States e es s more ss rest
      by None at q = absurd (none-some (ss, rest) q)
      by (Some x) at q =
          let same : (s ∷ x.0, x.1) ≡ (ss, rest) = same_Some (s ∷ x.0, x.1) (ss, rest) q in
          record { others = x.0; read = at ∙ ap (λ l. Some (x.0, l)) (ap (λ z. z.1) same); are = ap (λ z. z.0) same }

  pub skip_new : (e : Entry) (es : List Entry) (zs : List ℤ) (r : Option NewKey) → is_held_after e ≡ false → NamesNew p g keys es zs r → NamesNew p g keys (e ∷ es) zs r
  skip_new e es zs r off names ss rest read =
      let list = kept_list e es false off in
      names ss rest (ap (λ xs. each (λ e. state_in (after_set p g e)) xs zs) (sym list) ∙ read) ∙ ap (λ xs. new_key keys xs ss) (sym list)

  module _ (e : Entry) (es : List Entry) (zs : List ℤ) (on : is_held_after e ≡ true) where
    pub missing_new : (r : Option NewKey) → state_in (after_set p g e) zs ≡ None → NamesNew p g keys (e ∷ es) zs r
    missing_new r none ss rest read =
        absurd (none-some (ss, rest) (sym (each_none (λ e. state_in (after_set p g e)) e (filter is_held_after es) zs none) ∙ ap (λ xs. each (λ e. state_in (after_set p g e)) xs zs) (sym (kept_list e es true on)) ∙ read))

    pub later_new : (s : ℕ) (more : List ℤ) (r : Option NewKey) → state_in (after_set p g e) zs ≡ Some (s, more) → is_new e ≡ false → NamesNew p g keys es more r → NamesNew p g keys (e ∷ es) zs r
    later_new s more r first old names ss rest read =
        let list = kept_list e es true on in
        let q = states_are e (filter is_held_after es) zs more s ss rest first (ap (λ xs. each (λ e. state_in (after_set p g e)) xs zs) (sym list) ∙ read) in
        names q.others rest q.read ∙ sym (new_list e (filter is_held_after es) s q.others false old) ∙ ap (λ l. new_key keys (e ∷ filter is_held_after es) l) q.are ∙ ap (λ xs. new_key keys xs ss) (sym list)

    pub this_new : (s : ℕ) (more : List ℤ) (r : Option NewKey) → state_in (after_set p g e) zs ≡ Some (s, more) → is_new e ≡ true → option_map binding_of r ≡ option_map (binding s) (slice_get keys e.key) → NamesNew p g keys (e ∷ es) zs r
    this_new s more r first new is ss rest read =
        let list = kept_list e es true on in
        let q = states_are e (filter is_held_after es) zs more s ss rest first (ap (λ xs. each (λ e. state_in (after_set p g e)) xs zs) (sym list) ∙ read) in
        is ∙ sym (new_list e (filter is_held_after es) s q.others true new) ∙ ap (λ l. new_key keys (e ∷ filter is_held_after es) l) q.are ∙ ap (λ xs. new_key keys xs ss) (sym list)

-- ---- a clause's new key

module _ (p : Program) (g : Func) (t : ℕ) (keys : List ℕ) (zs : List ℤ) (to : ℕ) (old new : Values) (h q : Heap) (r : Result (Unit {0}) HeapEnd) where
  pub fresh_none : NamesNew p g keys g.clause zs None → PutsFresh p g t keys zs to old old h h (Ok tt)
  fresh_none names c ss rest before read =
      subst (λ k. IsResultMade c.items h old to (Ok tt) (fresh_made (heap_of h) t k c.frame c.objects)) (names ss rest read) (result_still h old to c before)

  pub fresh_some : (n : NewKey) → NamesNew p g keys g.clause zs (Some n) → PutsNew t (binding_of n) to old new h q r → PutsFresh p g t keys zs to old new h q r
  fresh_some n names puts c ss rest before read =
      subst (λ k. IsResultMade c.items q new to r (fresh_made (heap_of h) t k c.frame c.objects)) (names ss rest read) (puts c before)

-- ---- a number, a bool or a new object

module _ (old new : Values) (h q : Heap) (t : Ty) (zs more : List ℤ) (to : ℕ) (x : Piece) (read : piece_of t zs ≡ Some (x, more)) where
  same_piece : (y : Piece) (rest : List ℤ) → piece_of t zs ≡ Some (y, rest) → x ≡ y
  same_piece y rest e = ap (λ z. z.0) (same_Some (x, more) (y, rest) (sym read ∙ e))

  pub single_put : (a : Slot) → MakesPart (type_in (Some t)) x h q (Ok a) → 1 ≤ old.width → IsKept to old new → IsFilled (IsSingleSlot a) new.slots.items to old.width → PutsPiece t zs to old new h q (Ok tt)
  single_put a makes wide kept filled items objects y rest holds shown e =
      subst (λ z. IsValueMade items q new to (Ok tt) (single_made (heap_of h) (type_in (Some t)) z objects)) (same_piece y rest e)
      (by (part_made (heap_of h) (type_in (Some t)) x objects) (makes items old objects holds shown))
    where
      slot_in : Result Slot HeapEnd → Slot
      slot_in (Ok b) = b
      slot_in (Err e) = a

      by : (z : Found (Part × List Thing)) → IsPartMade items q old.width (Ok a) z → IsValueMade items q new to (Ok tt) (z >>= (λ b. Ok (one b.0, b.1)))
      by (Ok b) m = record {
        is = refl;
        shows = record { items = m.shows.items; holds = m.shows.holds; shown = subst (λ w. ShowObjects m.shows.items w b.1) (sym kept.width) m.shows.shown; kept = m.shows.kept };
        value = single_at m.shows.items new.slots.items to to old.width new.width a b.0 refl kept.width wide (subst (HasPart m.shows.items b.0) (sym (ap slot_in m.is)) m.part) filled;
      }
      by (Err o) m = absurd (false≢true (sym m.1))

  pub single_full : (e : HeapEnd) → MakesPart (type_in (Some t)) x h q (Err e) → PutsPiece t zs to old new h q (Err e)
  single_full e makes items objects y rest holds shown read_y =
      subst (λ z. IsValueMade items q new to (Err e) (single_made (heap_of h) (type_in (Some t)) z objects)) (same_piece y rest read_y)
      (by (part_made (heap_of h) (type_in (Some t)) x objects) (makes items old objects holds shown))
    where
      by : (z : Found (Part × List Thing)) → IsPartMade items q old.width (Err e) z → IsValueMade items q new to (Err e) (z >>= (λ b. Ok (one b.0, b.1)))
      by (Ok b) m = absurd (false≢true (ap is_ok m.is))
      by (Err o) m = m

-- a type that isn't a reference's or a variant's
pub read_as_piece : (p : Program) (t : CodeTy) (rs : List ℤ)
    → (t ≡ code.Int) ⊎ ((t ≡ code.Bool) ⊎ (((x : StateSet) × (y : TypeId) × (z : List KeyId) × (t ≡ code.Own x y z)) ⊎ ((x : KeyId) × (y : TypeId) × (z : List KeyId) × (t ≡ code.Guard x y z))))
    → result_read p (Some (ty_of t)) rs ≡ piece_read (ty_of t) rs
read_as_piece p t rs (inl e) = subst (λ t. result_read p (Some (ty_of t)) rs ≡ piece_read (ty_of t) rs) (sym e) refl
read_as_piece p t rs (inr (inl e)) = subst (λ t. result_read p (Some (ty_of t)) rs ≡ piece_read (ty_of t) rs) (sym e) refl
read_as_piece p t rs (inr (inr (inl q))) = subst (λ t. result_read p (Some (ty_of t)) rs ≡ piece_read (ty_of t) rs) (sym q.3) refl
read_as_piece p t rs (inr (inr (inr q))) = subst (λ t. result_read p (Some (ty_of t)) rs ≡ piece_read (ty_of t) rs) (sym q.3) refl

-- ---- the result of a call

fault_end : (s : Outcome) → is_fault s ≡ true → s ≡ heap_end → ⊥
fault_end s bad e = false≢true (sym (ap is_fault e) ∙ bad)

module _ (p : Program) (g : Func) (keys : List ℕ) (zs rs : List ℤ) (to : ℕ) (old new : Values) (h q : Heap) (r : Result (Unit {0}) HeapEnd) where
  -- the value stands after the frame
  value_result : (c : Seen h old) → IsKept to old new → old.base + old.vars * old.width ≤ to → AreBefore to old c.frame → (x : Found (Value × List Thing)) → IsValueMade c.items q new to r x
      → IsResultMade c.items q new to r (x >>= (λ b. Ok (record { value = Some b.0; frame = c.frame; objects = b.1 })))
  value_result c kept following before (Ok b) m = record {
    is = m.is;
    shows = record {
      items = m.shows.items;
      holds = m.shows.holds;
      objects_shown = m.shows.shown;
      frame_shown = after_shown m.shows.items old new c.frame to kept following before (frame_kept c.items m.shows.items old c.frame m.shows.kept c.fits);
      kept = m.shows.kept;
    };
    value = λ a e. subst (HaveValue m.shows.items new.slots.items to new.width) (same_Some b.0 a e) m.value;
    keys_before = kept_before old new c.frame to kept before;
  }
  value_result c kept following before (Err o) m = inl m

  pub fresh_result : ((given : Given) → result_read p g.result rs ≡ Some (given, []) → nothing ≡ given) → PutsFresh p g (type_in g.result) keys zs to old new h q r → PutsResult p g keys zs rs to old new h q r
  fresh_result is puts c a before names states read =
      subst (λ given. IsResultMade c.items q new to r (result_made (heap_of h) p g keys a.states given c.frame c.objects)) (is a.result read)
      (puts c a.states rs before states)

  pub variant_result : (v : VariantOf) → variant_in g.result ≡ Some v → result_read p g.result rs ≡ variant_read p v.type rs → IsKept to old new → old.base + old.vars * old.width ≤ to → PutsVariant p keys v rs to old new h q r → PutsResult p g keys zs rs to old new h q r
  variant_result v is reads_it kept following puts c a before names states read =
      by a.result (puts c.items c.objects c.frame a.result c.holds c.shown c.fits.keys before (names v is) (sym reads_it ∙ read))
    where
      by : (given : Given) → IsValueMade c.items q new to r (variant_made (heap_of h) p v keys c.frame given c.objects) → IsResultMade c.items q new to r (result_made (heap_of h) p g keys a.states given c.frame c.objects)
      by nothing m = absurd (fault_end (fault missing None) refl m.0)
      by (piece x) m = absurd (fault_end (fault missing None) refl m.0)
      by (case_with d ss xs) m =
          subst (λ o. IsResultMade c.items q new to r (or_fault missing o >>= (λ v. variant_made (heap_of h) p v keys c.frame (case_with d ss xs) c.objects >>= (λ b. Ok (record { value = Some b.0; frame = c.frame; objects = b.1 }))))) (sym is)
          (value_result c kept following before (variant_made (heap_of h) p v keys c.frame (case_with d ss xs) c.objects) m)

  pub piece_result : (t : Ty) → g.result ≡ Some t → result_read p g.result rs ≡ piece_read t rs → IsKept to old new → old.base + old.vars * old.width ≤ to → PutsPiece t rs to old new h q r → PutsResult p g keys zs rs to old new h q r
  piece_result t is reads_it kept following puts c a before names states read = by (piece_of t rs) refl (sym reads_it ∙ read)
    where
      by : (x : Option (Piece × List ℤ)) → piece_of t rs ≡ x → then_reads (λ x. reads (piece x)) x ≡ Some (a.result, []) → IsResultMade c.items q new to r (result_made (heap_of h) p g keys a.states a.result c.frame c.objects)
      by None at e = absurd (none-some (a.result, []) e)
      by (Some x) at e =
          subst (λ given. IsResultMade c.items q new to r (result_made (heap_of h) p g keys a.states given c.frame c.objects)) (ap (λ z. z.0) (same_Some (piece x.0, x.1) (a.result, []) e))
          (subst (λ o. IsResultMade c.items q new to r (single_made (heap_of h) (type_in o) x.0 c.objects >>= (λ b. Ok (record { value = Some b.0; frame = c.frame; objects = b.1 })))) (sym is)
          (value_result c kept following before (single_made (heap_of h) (type_in (Some t)) x.0 c.objects) (puts c.items c.objects x.0 x.1 c.holds c.shown at)))

  pub none_result : g.result ≡ None → PutsFresh p g 0 keys zs to old new h q r → PutsResult p g keys zs rs to old new h q r
  none_result is puts =
      fresh_result (λ given read. ap (λ z. z.0) (same_Some (nothing, rs) (given, []) (sym (ap (λ o. result_read p o rs) is) ∙ read)))
      (subst (λ o. PutsFresh p g (type_in o) keys zs to old new h q r) (sym is) puts)

  pub tracked_result : (k t : ℕ) (args : List ℕ) → g.result ≡ Some (tracked k t args) → PutsFresh p g t keys zs to old new h q r → PutsResult p g keys zs rs to old new h q r
  tracked_result k t args is puts =
      fresh_result (λ given read. ap (λ z. z.0) (same_Some (nothing, rs) (given, []) (sym (ap (λ o. result_read p o rs) is) ∙ read)))
      (subst (λ o. PutsFresh p g (type_in o) keys zs to old new h q r) (sym is) puts)

  module _ (t : ℕ) (args : List ℕ) (kept : IsKept to old new) (following : old.base + old.vars * old.width ≤ to) (puts : PutsVariant p keys (record { type = t; args = args }) rs to old new h q r) where
    pub copied_result : g.result ≡ Some (variant t args) → PutsResult p g keys zs rs to old new h q r
    copied_result is = variant_result (record { type = t; args = args }) (ap variant_in is) (ap (λ o. result_read p o rs) is) kept following puts

    pub owning_result : g.result ≡ Some (owning_variant t args) → PutsResult p g keys zs rs to old new h q r
    owning_result is = variant_result (record { type = t; args = args }) (ap variant_in is) (ap (λ o. result_read p o rs) is) kept following puts
