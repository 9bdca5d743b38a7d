-- What a host has after a call that came back.
use Rattle.std.proofs.Common.{◌≡◌, ◌⊎◌, inl, inr, ⊎_elim, ℕ, suc, ◌<◌, ◌≤◌, ◌+◌, ◌==◌, Bool, true, false, not, ◌&&◌, ◌||◌, ℤ, List, [], ◌∷◌, length, Option, Some, None, refl, sym, ap, ◌∙◌, subst, arith, slice_get, cond}
use Rattle.std.specs.List.{list_any, count_by}
use Rattle.std.proofs.lemmas.Bool.{eqb-true}
use Rattle.std.proofs.lemmas.Bool.Decides.{nat_tests}
use Rattle.std.proofs.lemmas.List.Sums.{sum_by-cons}
use Rattle.std.proofs.lemmas.List.FromFn.{get_or-map-range_with_len}
use Rattle.std.proofs.lemmas.Option.{none-some, same_Some, slice_get_within}
use Rattle.vlt_core.specs.Core.{Ty, int, bool, tracked, owning, guarded, variant, owning_variant, Mode, kept, taken, given, fresh, up_to, Entry, Func, Program}
use Rattle.vlt_core.specs.KindedHeads.{has, parameters_of}
use Rattle.vlt_core.specs.Lookups.{is_before, is_fresh, is_held_before, is_held_after, is_new}
use Rattle.vlt_core.specs.Types.{stands_for}
use Rattle.vlt_rings.specs.Places as places
use Rattle.vlt_heap.specs.Items.{Items, live_count}
use Rattle.vlt_heap.specs.Shown.{Holds, IsSound, heap_of}
use Rattle.vlt_heap.specs.declared.heap.Heap.{Heap}
use Rattle.vlt_heap.specs.declared.slots.Obj.{Obj}
use Rattle.vlt_heap.specs.declared.slots.Slot.{Slot}
use Rattle.vlt_heap.specs.declared.slots.Slot.TheVariants.{Number as ToNumber, Object as ToObject, Owned as ToOwned}
use Rattle.vlt_heap.proofs.Listed.{count_items}
use Rattle.vlt_meaning.specs.World.{Part, number, reference, owned, Value, one, Object as Thing, World, held}
use Rattle.vlt_meaning.specs.Objects.{with_owner, with_changed_object}
use Rattle.vlt_meaning.specs.Calls.{Binding, is_new_key}
use Rattle.vlt_meaning.specs.Externals.{is_taken}
use Rattle.vlt_acts.specs.declared.values.values.Values.{Values}
use Rattle.vlt_acts.specs.Values.Parts.{IsObject, HasPart}
use Rattle.vlt_acts.specs.Values.Shown.{ShowObjects}
use Rattle.vlt_acts.specs.Frames.Left.{value_at, AreRoots, IsGiven, HasLeft}
use Rattle.vlt_acts.proofs.OfFrames.Callees.{root_held, held_shown}
use Rattle.vlt_sound_calls.specs.Among.{Among}
use Rattle.vlt_host_acts.specs.declared.values.HostValue.{HostValue}
use Rattle.vlt_host_acts.specs.declared.values.HostValue.TheVariants.{Number, Object}
use Rattle.vlt_host_acts.specs.Values.{value_of}
use Rattle.vlt_host_meaning.specs.Calls.{Argument}
use Rattle.vlt_host_meaning.specs.EntryFunctions.{is_host_type, is_host_result}
use Rattle.vlt_host_meaning.specs.HostFrame.{holds_in, host_holds}
use Rattle.vlt_host_meaning.specs.HostClean.{held_numbers}
use Rattle.vlt_host_meaning.specs.Permitted.{argument_bindings, object_of_key, is_that_object, or_unused, host_keys}
use Rattle.vlt_host_meaning.specs.OneCall.{held_by_host}
use Rattle.vlt_host_laws.specs.Promise.{IsTaken, ChangesByClause}
use Rattle.vlt_host_laws.specs.Results.{IsResult}
use Rattle.vlt_host_acts.specs.Permits.Arguments.{HasClauseKeys}
use Rattle.vlt_host_acts.specs.Permits.Numbers.{IsAscending, with_number}
use Rattle.vlt_host_acts.proofs.OfPermits.Numbers.{has_with, ascending_with, ascending_same}
use Rattle.vlt_host_acts.proofs.OfPermits.Holding.{held_ascend, held_has, few_held}
use Rattle.vlt_host_acts.specs.Clause.{takes_object}
use Rattle.vlt_host.specs.Machine.Calling.{HasFront}
use Rattle.vlt_host.specs.Machine.Settled.{IsOfPart, with_slot}

clash : true ≡ false → ⊥
clash e = cc

both : (a b : Bool) → (a && b) ≡ true → (a ≡ true) × (b ≡ true)
both true b e = (refl, e)
both false b e = cc

-- ---- objects that the host holds

roots_held : (objects : List Thing) (d k m : ℕ) (ns : List ℕ) → AreRoots objects ns → AreRoots (with_changed_object m (with_owner (held d k)) objects) ns
roots_held objects d k m [] r = tt
roots_held objects d k m (n ∷ ns) r = (root_held objects d k n m r.0, roots_held objects d k m ns r.1)

pub held_again : (items : Items) (w : ℕ) (ns : List ℕ) (objects : List Thing) → AreRoots objects ns → ShowObjects items w objects → ShowObjects items w (held_by_host ns objects)
held_again items w [] objects r h = h
held_again items w (n ∷ ns) objects r h =
    held_again items w ns (with_changed_object n (with_owner (held 0 n)) objects) (roots_held objects 0 n n ns r.1) (held_shown items w objects 0 n n h r.0)

-- ---- values

-- the slot at the end has a value's one part
at_end : (items : Items) (values : Values) (p : Part) (a : Slot) → IsGiven items values (one p) → ((x : Slot) → slice_get values.slots.items (value_at values) ≡ Some x → a ≡ x) → HasPart items p a
at_end items values p a has read = let q = has.value.parts.0 in subst (HasPart items p) (sym (read q.slot q.at)) q.part

pub front_is : (items : Items) (values : Values) (g : Func) (t : Ty) (v : Option Value) (ns : List ℕ) (w : World) (a : Slot) → HasLeft items values g v ns w →
    ((x : Slot) → slice_get values.slots.items (value_at values) ≡ Some x → a ≡ x) → IsResult (Some t) v → HasFront items v (Some a)
front_is items values g int v ns w a left read q = subst (λ x. HasFront items x (Some a)) (sym q.1) (at_end items values (number q.0) a (left.value (one (number q.0)) q.1) read)
front_is items values g bool v ns w a left read q = subst (λ x. HasFront items x (Some a)) (sym q.1) (at_end items values (number q.0) a (left.value (one (number q.0)) q.1) read)
front_is items values g (tracked k t xs) v ns w a left read q = subst (λ x. HasFront items x (Some a)) (sym q.1) (at_end items values (reference q.0) a (left.value (one (reference q.0)) q.1) read)
front_is items values g (owning s t xs) v ns w a left read q = absurd q
front_is items values g (guarded k t xs) v ns w a left read q = absurd q
front_is items values g (variant t xs) v ns w a left read q = absurd q
front_is items values g (owning_variant t xs) v ns w a left read q = absurd q

pub no_front : (items : Items) (v : Option Value) → IsResult None v → HasFront items v None
no_front items v q = subst (λ x. HasFront items x None) (sym q) tt

pub value_given : (items : Items) (t : Option Ty) (v : Option Value) (a : Slot) (x : HostValue) → IsResult t v → HasFront items v (Some a) →
    ((p : Part) → HasPart items p a → IsOfPart p x) → v ≡ Some (value_of x)
value_given items None v a x q front of = absurd (subst (λ u. HasFront items u (Some a)) q front)
value_given items (Some int) v a x q front of = q.1 ∙ ap Some (sym (of (number q.0) (subst (λ u. HasFront items u (Some a)) q.1 front)))
value_given items (Some bool) v a x q front of = q.1 ∙ ap Some (sym (of (number q.0) (subst (λ u. HasFront items u (Some a)) q.1 front)))
value_given items (Some (tracked k t xs)) v a x q front of = q.1 ∙ ap Some (sym (of (reference q.0) (subst (λ u. HasFront items u (Some a)) q.1 front)))
value_given items (Some (owning s t xs)) v a x q front of = absurd q
value_given items (Some (guarded k t xs)) v a x q front of = absurd q
value_given items (Some (variant t xs)) v a x q front of = absurd q
value_given items (Some (owning_variant t xs)) v a x q front of = absurd q

pub none_given : (items : Items) (v : Option Value) → HasFront items v None → v ≡ None
none_given items None front = refl
none_given items (Some v) front = absurd front

-- a slot as a value
pub number_part : (items : Items) (z : ℤ) (p : Part) → HasPart items p (ToNumber z) → IsOfPart p (Number z)
number_part items z (number y) e = by y e
  where
    by : (y : ℤ) → ToNumber z ≡ ToNumber y → one (number z) ≡ one (number y)
    by y e = cc
number_part items z (reference n) e = absurd (other e.object n e.is)
  where
    other : (o : Obj) (n : ℕ) → ToNumber z ≡ ToObject o n → ⊥
    other o n e = cc
number_part items z (owned n) e = tt

pub object_part : (items : Items) (o : Obj) (n : ℕ) (p : Part) → HasPart items p (ToObject o n) → IsOfPart p (Object n)
object_part items o n (number y) e = absurd (other y e)
  where
    other : (y : ℤ) → ToObject o n ≡ ToNumber y → ⊥
    other y e = cc
object_part items o n (reference m) e = by e.object m e.is
  where
    by : (q : Obj) (m : ℕ) → ToObject o n ≡ ToObject q m → one (reference n) ≡ one (reference m)
    by q m e = cc
object_part items o n (owned m) e = tt

pub owned_part : (items : Items) (o : Obj) (n : ℕ) (p : Part) → HasPart items p (ToOwned o n) → IsOfPart p (Object n)
owned_part items o n (number y) e = absurd (other y e)
  where
    other : (y : ℤ) → ToOwned o n ≡ ToNumber y → ⊥
    other y e = cc
owned_part items o n (reference m) e = absurd (other e.object m e.is)
  where
    other : (q : Obj) (m : ℕ) → ToOwned o n ≡ ToObject q m → ⊥
    other q m e = cc
owned_part items o n (owned m) e = tt

-- ---- what the function takes and gives

-- an entry of a list
any_among : (test : Entry → Bool) (es : List Entry) (e : Entry) → Among e es → test e ≡ true → list_any test es ≡ true
any_among test [] e i so = absurd i
any_among test (x ∷ es) e i so = ⊎_elim
    (λ same. ap (λ b. b || list_any test es) (ap test (sym same) ∙ so))
    (λ rest. ap (λ b. test x || b) (any_among test es e rest so) ∙ or_true (test x))
    i
  where
    or_true : (b : Bool) → (b || true) ≡ true
    or_true true = refl
    or_true false = refl

record HasEntry (test : Entry → Bool) (es : List Entry) : Type 0 where
  entry : Entry
  among : Among entry es
  so : test entry ≡ true

some_among : (test : Entry → Bool) (es : List Entry) → list_any test es ≡ true → HasEntry test es
some_among test [] e = cc
some_among test (x ∷ es) e = by (test x) refl (some_among test es) e
  where
    by : (b : Bool) → test x ≡ b → (list_any test es ≡ true → HasEntry test es) → (b || list_any test es) ≡ true → HasEntry test (x ∷ es)
    by true so rest e = record { entry = x; among = inl refl; so = so }
    by false so rest e = let q = rest e in record { entry = q.entry; among = inr q.among; so = q.so }

among_at : (es : List Entry) (e : Entry) → Among e es → (i : ℕ) × (slice_get es i ≡ Some e)
among_at [] e i = absurd i
among_at (x ∷ es) e i = ⊎_elim (λ same. (0, ap Some (sym same))) (λ rest. let q = among_at es e rest in (suc q.0, q.1)) i

taken_before : (e : Entry) → is_taken e ≡ true → is_held_before e ≡ true
taken_before e so = (both (is_held_before e) (not (is_held_after e)) so).0

before_old : (m : Mode) → is_before m ≡ true → is_fresh m ≡ false
before_old kept e = refl
before_old taken e = refl
before_old given e = refl
before_old fresh e = cc
before_old (up_to b) e = refl

that_is : (m : ℕ) (o : Option ℕ) → is_that_object m o ≡ true → o ≡ Some m
that_is m None e = cc
that_is m (Some n) e = ap Some (eqb-true n m e)

is_that : (m : ℕ) (o : Option ℕ) → o ≡ Some m → is_that_object m o ≡ true
is_that m o e = ap (is_that_object m) e ∙ same m
  where
    same : (n : ℕ) → (n == n) ≡ true
    same n = grind (arith, nat_tests)

module _ (p : Program) (f : Func) (args : List Argument) (v : Option Value) (old new : List Thing) (keys : HasClauseKeys f) (result : is_host_result f f.result ≡ true)
    (typed : IsResult f.result v) (changes : ChangesByClause p f args v old new) where
  abbrev bs : List Binding
  bs = argument_bindings (parameters_of f) args

  abbrev taken_any : ℕ → Bool
  taken_any m = list_any (takes_object bs m) f.clause

  held_within : (n : ℕ) → host_holds old n ≡ true → n < length old
  held_within n e = by (slice_get old n) refl e
    where
      by : (o : Option Thing) → slice_get old n ≡ o → holds_in n o ≡ true → n < length old
      by None at e = cc
      by (Some o) at e = slice_get_within old n o at

  stood : (e : Entry) → e.key < length f.keys → stands_for (host_keys f args old) e.key ≡ or_unused (length old) (object_of_key bs e.key)
  stood e within = get_or-map-range_with_len (λ k. or_unused (length old) (object_of_key bs k)) 0 (length f.keys) e.key e.key 0 within (omega arith)

  key_within : (e : Entry) → Among e f.clause → is_taken e ≡ true → e.key < length f.keys
  key_within e i so = let q = among_at f.clause e i in keys q.0 e q.1 (taken_before e so)

  -- an object that is held and taken is given for a key
  given_for : (m : ℕ) → host_holds old m ≡ true → (o : Option ℕ) → or_unused (length old) o ≡ m → o ≡ Some m
  given_for m holds None is = absurd (let l = held_within m holds in omega (arith, l, is))
  given_for m holds (Some n) is = ap Some is

  taken_so : (m : ℕ) → host_holds old m ≡ true → IsTaken f args old m → taken_any m ≡ true
  taken_so m holds t =
      let e = t.entry in
      let within = key_within e t.is.among t.taken in
      let is = given_for m holds (object_of_key bs e.key) (sym (stood e within) ∙ t.is.stands) in
      any_among (takes_object bs m) f.clause e t.is.among (ap (λ b. b && is_that_object m (object_of_key bs e.key)) t.taken ∙ is_that m (object_of_key bs e.key) is)

  so_taken : (m : ℕ) → taken_any m ≡ true → IsTaken f args old m
  so_taken m so =
      let q = some_among (takes_object bs m) f.clause so in
      let e = q.entry in
      let b = both (is_taken e) (is_that_object m (object_of_key bs e.key)) q.so in
      let within = key_within e q.among b.0 in
      record {
        entry = e;
        is = record {
          among = q.among;
          old = before_old e.mode (taken_before e b.0);
          stands = stood e within ∙ ap (or_unused (length old)) (that_is m (object_of_key bs e.key) b.1);
        };
        taken = b.0;
      }

  -- the entry of a new object that is given
  new_entry : (t : Option Ty) (n : ℕ) → is_host_result f t ≡ true → IsResult t v → v ≡ Some (one (reference n)) → HasEntry is_new f.clause
  new_entry None n ok q is = absurd (none-some (one (reference n)) (sym q ∙ is))
  new_entry (Some int) n ok q is = absurd (other q.0 (same_Some (one (number q.0)) (one (reference n)) (sym q.1 ∙ is)))
    where
      other : (z : ℤ) → one (number z) ≡ one (reference n) → ⊥
      other z e = cc
  new_entry (Some bool) n ok q is = absurd (other q.0 (same_Some (one (number q.0)) (one (reference n)) (sym q.1 ∙ is)))
    where
      other : (z : ℤ) → one (number z) ≡ one (reference n) → ⊥
      other z e = cc
  new_entry (Some (tracked k t xs)) n ok q is =
      let b = both (is_host_type (tracked k t xs)) (is_new_key f k) ok in
      let h = some_among (λ e. is_new e && e.key == k) f.clause b.1 in
      record { entry = h.entry; among = h.among; so = (both (is_new h.entry) (h.entry.key == k) h.so).0 }
  new_entry (Some (owning s t xs)) n ok q is = absurd q
  new_entry (Some (guarded k t xs)) n ok q is = absurd q
  new_entry (Some (variant t xs)) n ok q is = absurd q
  new_entry (Some (owning_variant t xs)) n ok q is = absurd q

  -- an object is held after the call just if it was held and isn't taken, or is given as a new one
  holds_still : (xs : List ℕ) → ((m : ℕ) → has xs m ≡ (host_holds old m && not (taken_any m))) → (m : ℕ) → has xs m ≡ true → host_holds new m ≡ true
  holds_still xs is m e =
      let b = both (host_holds old m) (not (taken_any m)) (sym (is m) ∙ e) in
      changes.keeps m b.0 (λ t. clash (sym (ap not (taken_so m b.0 t)) ∙ b.1))
    where
      clash : false ≡ true → ⊥
      clash e = cc

  still_holds : (xs : List ℕ) → ((m : ℕ) → has xs m ≡ (host_holds old m && not (taken_any m))) → (m : ℕ) → host_holds old m ≡ true → (IsTaken f args old m → ⊥) → has xs m ≡ true
  still_holds xs is m holds none = by (taken_any m) refl
    where
      by : (b : Bool) → taken_any m ≡ b → has xs m ≡ true
      by true so = absurd (none (so_taken m so))
      by false so = is m ∙ (ap (λ b. b && not (taken_any m)) holds ∙ ap not so)

  -- with a new object
  pub given_numbers : (xs : List ℕ) → IsAscending xs → ((m : ℕ) → has xs m ≡ (host_holds old m && not (taken_any m))) → (n : ℕ) → v ≡ Some (one (reference n)) →
      with_number n xs ≡ held_numbers new
  given_numbers xs ascend is n gives =
      ascending_same (with_number n xs) (held_numbers new) (ascending_with n xs ascend) (held_ascend new) (λ m. by m (n == m) refl (has xs m) refl (host_holds new m) refl)
    where
      holds_new : host_holds new n ≡ true
      holds_new =
          let h = new_entry f.result n result typed gives in
          changes.gets h.entry n (record { among = h.among; new = h.so; given = gives })

      by : (m : ℕ) (a : Bool) → (n == m) ≡ a → (b : Bool) → has xs m ≡ b → (c : Bool) → host_holds new m ≡ c → has (with_number n xs) m ≡ has (held_numbers new) m
      by m true e b h c k =
          has_with n xs m ∙ (ap (λ x. x || has xs m) e ∙ sym (held_has new m ∙ subst (λ i. host_holds new i ≡ true) (eqb-true n m e) holds_new))
      by m false e true h c k =
          has_with n xs m ∙ (ap (λ x. x || has xs m) e ∙ (h ∙ sym (held_has new m ∙ holds_still xs is m h)))
      by m false e false h true k = absurd (⊎_elim
          (λ q. clash (sym (still_holds xs is m q.0 q.1) ∙ h))
          (λ q. clash (sym (same n m (reference_same n m (same_Some (one (reference n)) (one (reference m)) (sym gives ∙ q.1.given)))) ∙ e))
          (changes.held m k))
        where
          reference_same : (i j : ℕ) → one (reference i) ≡ one (reference j) → i ≡ j
          reference_same i j e = cc

          same : (i j : ℕ) → i ≡ j → (i == j) ≡ true
          same i j e = grind (arith, nat_tests)
      by m false e false h false k =
          has_with n xs m ∙ (ap (λ x. x || has xs m) e ∙ (h ∙ sym (held_has new m ∙ k)))

  -- without one
  pub kept_numbers : (xs : List ℕ) → IsAscending xs → ((m : ℕ) → has xs m ≡ (host_holds old m && not (taken_any m))) → ((n : ℕ) → v ≡ Some (one (reference n)) → ⊥) →
      xs ≡ held_numbers new
  kept_numbers xs ascend is none =
      ascending_same xs (held_numbers new) ascend (held_ascend new) (λ m. by m (has xs m) refl (host_holds new m) refl)
    where
      by : (m : ℕ) (b : Bool) → has xs m ≡ b → (c : Bool) → host_holds new m ≡ c → has xs m ≡ has (held_numbers new) m
      by m true h c k = h ∙ sym (held_has new m ∙ holds_still xs is m h)
      by m false h true k = absurd (⊎_elim
          (λ q. clash (sym (still_holds xs is m q.0 q.1) ∙ h))
          (λ q. none m q.1.given)
          (changes.held m k))
      by m false h false k = h ∙ sym (held_has new m ∙ k)

  -- whatever slot it is
  pub slot_numbers : (items : Items) (xs : List ℕ) → IsAscending xs → ((m : ℕ) → has xs m ≡ (host_holds old m && not (taken_any m))) → (a : Option Slot) → HasFront items v a →
      with_slot a xs ≡ held_numbers new
  slot_numbers items xs ascend is a front = by_type f.result typed
    where
      none_of : (u : Option Value) → v ≡ u → ((n : ℕ) → u ≡ Some (one (reference n)) → ⊥) → xs ≡ held_numbers new
      none_of u same none = kept_numbers xs ascend is (λ n e. none n (sym same ∙ e))

      of_number : (z : ℤ) (a : Slot) → v ≡ Some (one (number z)) → HasPart items (number z) a → with_slot (Some a) xs ≡ held_numbers new
      of_number z a same h = ap (λ x. with_slot (Some x) xs) h ∙ none_of (Some (one (number z))) same (λ n e. other n (same_Some (one (number z)) (one (reference n)) e))
        where
          other : (n : ℕ) → one (number z) ≡ one (reference n) → ⊥
          other n e = cc

      of_reference : (n : ℕ) (a : Slot) → v ≡ Some (one (reference n)) → IsObject items n a → with_slot (Some a) xs ≡ held_numbers new
      of_reference n a same o = ap (λ x. with_slot (Some x) xs) o.is ∙ given_numbers xs ascend is n same

      one_number : (z : ℤ) (a : Option Slot) → v ≡ Some (one (number z)) → HasFront items (Some (one (number z))) a → with_slot a xs ≡ held_numbers new
      one_number z None same front = absurd front
      one_number z (Some a) same front = of_number z a same front

      some : (t : Ty) (a : Option Slot) → IsResult (Some t) v → HasFront items v a → with_slot a xs ≡ held_numbers new
      some int a q front = one_number q.0 a q.1 (subst (λ u. HasFront items u a) q.1 front)
      some bool a q front = one_number q.0 a q.1 (subst (λ u. HasFront items u a) q.1 front)
      some (tracked k t ys) a q front = one_object q.0 a q.1 (subst (λ u. HasFront items u a) q.1 front)
        where
          one_object : (n : ℕ) (a : Option Slot) → v ≡ Some (one (reference n)) → HasFront items (Some (one (reference n))) a → with_slot a xs ≡ held_numbers new
          one_object n None same front = absurd front
          one_object n (Some a) same front = of_reference n a same front
      some (owning s t ys) a q front = absurd q
      some (guarded k t ys) a q front = absurd q
      some (variant t ys) a q front = absurd q
      some (owning_variant t ys) a q front = absurd q

      no_value : (a : Option Slot) → v ≡ None → HasFront items v a → with_slot a xs ≡ held_numbers new
      no_value a same front = empty a (subst (λ u. HasFront items u a) same front)
        where
          empty : (a : Option Slot) → HasFront items None a → with_slot a xs ≡ held_numbers new
          empty None front = none_of None same (λ n e. none-some (one (reference n)) e)
          empty (Some a) front = absurd front

      by_type : (t : Option Ty) → IsResult t v → with_slot a xs ≡ held_numbers new
      by_type None q = no_value a q front
      by_type (Some t) q = some t a q front

-- ---- room for what the host holds

count_few : {A : Type 0} (test : A → Bool) (xs : List A) → count_by test xs ≤ length xs
count_few test [] = omega arith
count_few test (x ∷ xs) = by (test x) (sum_by-cons (λ z. cond (test z) 1 0) x xs) (count_few test xs)
  where
    by : (b : Bool) → count_by test (x ∷ xs) ≡ cond b 1 0 + count_by test xs → count_by test xs ≤ length xs → count_by test (x ∷ xs) ≤ suc (length xs)
    by true is l = omega (arith, is, l)
    by false is l = omega (arith, is, l)

pub few_live : (h : Heap) (items : Items) → Holds h items → IsSound h → live_count items ≤ heap_of h
few_live h items holds sound =
    let a = count_items items in
    let b = holds.things.hold.count in
    let l = count_few (λ p. places.is_live p.mark) h.places.places.items in
    let w = sound.settled.sound.within in
    omega (arith, a, b, l, w)

pub few_numbers : (h : Heap) (items : Items) (width : ℕ) (objects : List Thing) (ns : List ℕ) → Holds h items → IsSound h → ShowObjects items width objects → ns ≡ held_numbers objects → length ns ≤ heap_of h
few_numbers h items width objects ns holds sound shown is =
    let a = few_held items width objects shown in
    let b = few_live h items holds sound in
    let n = ap length is in
    omega (arith, a, b, n)
