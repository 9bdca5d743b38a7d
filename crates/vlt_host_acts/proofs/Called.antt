-- The frame of a function that a host calls is shown.
use Rattle.std.proofs.Common.{◌≡◌, ℕ, suc, ◌+◌, ◌*◌, ◌<◌, ◌≤◌, ◌==◌, Bool, true, false, ◌&&◌, if◌then◌else◌, List, [], ◌∷◌, ◌++◌, map, max, length, Option, Some, None, refl, sym, ap, ◌∙◌, subst, arith, slice_get}
use Rattle.std.proofs.Math.Nat.{mul-le-mul_right}
use Rattle.std.specs.Option.{option_and_then}
use Rattle.std.proofs.lemmas.Bool.{eqb-true}
use Rattle.std.proofs.lemmas.Bool.Decides.{nat_tests}
use Rattle.std.proofs.lemmas.List.FromFn.{get_or-map-range_with_len, length-map-range_with_len}
use Rattle.std.proofs.lemmas.Option.{none-some, same_Some, slice_get_within, slice_get-get_or}
use Rattle.vlt_core.specs.Core.{Ty, int, bool, tracked, owning, guarded, variant, owning_variant, Func}
use Rattle.vlt_core.specs.KindedHeads.{parameters_of}
use Rattle.vlt_rings.proofs.Rows.{row_fits}
use Rattle.vlt_heap.specs.Items.{Items, IsMadeAt}
use Rattle.vlt_heap.specs.Shown.{IsLive, ForObject}
use Rattle.vlt_heap.specs.declared.slots.Obj.{Obj}
use Rattle.vlt_heap.specs.declared.slots.Slot.{Slot}
use Rattle.vlt_heap.specs.declared.slots.Slot.TheVariants.{Object as ToObject}
use Rattle.vlt_heap.proofs.Listed.{made_at}
use Rattle.vlt_meaning.specs.World as world
use Rattle.vlt_meaning.specs.World.{one, reference, Object}
use Rattle.vlt_meaning.specs.Calls.{Binding, is_new_key, callee_key, callee_frame}
use Rattle.vlt_acts.specs.declared.values.values.Values.{Values}
use Rattle.vlt_acts.specs.Values.Parts.{IsObject, HasPartAt, HaveValue}
use Rattle.vlt_acts.specs.Values.Pushed.{HaveValues}
use Rattle.vlt_acts.specs.Values.Shown.{with_frame, key_at, ShowsFrame, IsGrown, IsKeySet}
use Rattle.vlt_acts.proofs.OfActs.Keeping.{value_same}
use Rattle.vlt_acts.proofs.OfFrames.Callees.{value_in}
use Rattle.vlt_host_meaning.specs.Calls.{Argument, number, object, value_of_argument}
use Rattle.vlt_host_meaning.specs.HostFrame.{holds_in, host_holds, host_key, host_frame}
use Rattle.vlt_host_meaning.specs.Permitted.{argument_fits, arguments_fit, argument_binding, argument_bindings, object_of_key, or_unused, host_keys}
use Rattle.vlt_host_acts.specs.declared.permits.hosted.Hosted.{Hosted}
use Rattle.vlt_host_acts.specs.Permits.Hosted.{ShowsHosted}
use Rattle.vlt_host_acts.proofs.OfPermits.Seen.{seen}
use Rattle.vlt_host_acts.specs.Frames.{part_of_argument, AreKeysSet}

pub both : (a b : Bool) → (a && b) ≡ true → (a ≡ true) × (b ≡ true)
both true b e = (refl, e)
both false b e = cc

clash : true ≡ false → ⊥
clash e = cc

-- ---- slots of objects

-- a slot that goes to an object that is held
pub object_there : (h : Hosted) (objects : List Object) (s : ShowsHosted h objects) (o : Obj) (n : ℕ) → IsLive h.heap.now o →
    ForObject h.heap.now o (λ items m x. m ≡ n) → IsObject s.items n (ToObject o n)
object_there h objects s o n live is =
    let q = seen h objects s o n live is in
    record { object = o; is = refl; made = subst (λ c. IsMadeAt s.items c n) q.place (made_at s.items n q.item q.at) }

pub not_there : (objects : List Object) (n : ℕ) → false ≡ host_holds objects n → host_holds objects n ≡ true → ⊥
not_there objects n e h = clash (sym h ∙ sym e)

-- an object that fits is held
pub fits_held : (objects : List Object) (t : Ty) (n : ℕ) → argument_fits objects t (object n) ≡ true → host_holds objects n ≡ true
fits_held objects int n e = cc
fits_held objects bool n e = cc
fits_held objects (tracked k t args) n e = (both (host_holds objects n) _ e).0
fits_held objects (owning s t args) n e = cc
fits_held objects (guarded k t args) n e = cc
fits_held objects (variant t args) n e = cc
fits_held objects (owning_variant t args) n e = cc

-- a value has one part
pub its_value : (a : Argument) → one (part_of_argument a) ≡ value_of_argument a
its_value (number z) = refl
its_value (object n) = refl

-- ---- arguments one after another

pub fit_first : (objects : List Object) (tys : List Ty) (a : Argument) (rest : List Argument) → arguments_fit objects tys (a ∷ rest) ≡ true →
    (t : Ty) × (ts : List Ty) × (argument_fits objects t a ≡ true) × (arguments_fit objects ts rest ≡ true)
fit_first objects [] a rest e = cc
fit_first objects (t ∷ ts) a rest e = let b = both (argument_fits objects t a) (arguments_fit objects ts rest) e in (t, ts, b.0, b.1)

pub fit_first_at : (objects : List Object) (t : Ty) (ts : List Ty) (a : Argument) (rest : List Argument) → arguments_fit objects (t ∷ ts) (a ∷ rest) ≡ true →
    (argument_fits objects t a ≡ true) × (arguments_fit objects ts rest ≡ true)
fit_first_at objects t ts a rest e = both (argument_fits objects t a) (arguments_fit objects ts rest) e

pub given_first : (items : Items) (old mid new : Values) (a : Argument) (rest : List Argument) →
    length mid.slots.items ≡ length old.slots.items + old.width → mid.width ≡ old.width → IsGrown mid new →
    HaveValue items mid.slots.items (length old.slots.items) old.width (one (part_of_argument a)) →
    HaveValues items new.slots.items (length mid.slots.items) mid.width (map value_of_argument rest) →
    HaveValues items new.slots.items (length old.slots.items) old.width (map value_of_argument (a ∷ rest))
given_first items old mid new a rest long width grown first others = (
  value_same items mid.slots.items new.slots.items (length old.slots.items) old.width (value_of_argument a) (λ j low high. grown.same j (omega (arith, high, long)))
      (subst (HaveValue items mid.slots.items (length old.slots.items) old.width) (its_value a) first),
  subst (λ w. HaveValues items new.slots.items (length old.slots.items + old.width) w (map value_of_argument rest)) width
      (subst (λ k. HaveValues items new.slots.items k mid.width (map value_of_argument rest)) long others),
)

-- ---- keys

-- a number less
pub below_key : (k j : ℕ) → (k == j) ≡ true → k ≡ j
below_key k j e = eqb-true k j e

-- the slot of one key was set
pub key_put : (keys k : ℕ) (a : Slot) (old new : Values) → k < keys → IsKeySet k a old new → AreKeysSet keys old new
key_put keys k a old new within set = record {
  before = λ j l. set.others j (λ e. omega (arith, e, l));
  long = set.long;
  room = set.room;
  base = set.base;
  vars = set.vars;
  width = set.width;
}

pub none_put : (keys : ℕ) (old : Values) → AreKeysSet keys old old
none_put keys old = record { before = λ j l. refl; long = refl; room = refl; base = refl; vars = refl; width = refl }

pub both_put : (keys : ℕ) (old mid new : Values) → AreKeysSet keys old mid → AreKeysSet keys mid new → AreKeysSet keys old new
both_put keys old mid new first second = record {
  before = λ j l. second.before j (rw (first.base, first.vars, first.width) l) ∙ first.before j l;
  long = second.long ∙ first.long;
  room = second.room ∙ first.room;
  base = second.base ∙ first.base;
  vars = second.vars ∙ first.vars;
  width = second.width ∙ first.width;
}

pub same_place : (keys : ℕ) (old mid : Values) (k : ℕ) → AreKeysSet keys old mid → key_at mid k ≡ key_at old k
same_place keys old mid k set = rw (set.base, set.vars, set.width) refl

-- the key of a reference is named
pub its_key : (items : Items) (j t n k m : ℕ) (xs : List ℕ) (a : Slot) (old new : Values) → IsKeySet j a old new → IsObject items n a →
    object_of_key (argument_binding (tracked j t xs) (object n)) k ≡ Some m → HasPartAt items new.slots.items (key_at old k) (reference m)
its_key items j t n k m xs a old new set is e = by (j == k) refl e
  where
    by : (b : Bool) → (j == k) ≡ b → (if b then Some n else None) ≡ Some m → HasPartAt items new.slots.items (key_at old k) (reference m)
    by true same e = subst (λ x. HasPartAt items new.slots.items (key_at old k) (reference x)) (same_Some n m e)
        (subst (λ x. HasPartAt items new.slots.items (key_at old x) (reference n)) (eqb-true j k same) (record { slot = a; at = set.here; part = is }))
    by false same e = absurd (none-some m e)

pub other_key : (j t n k : ℕ) (xs : List ℕ) (a : Slot) (old new : Values) → IsKeySet j a old new →
    object_of_key (argument_binding (tracked j t xs) (object n)) k ≡ None →
    slice_get new.slots.items (key_at old k) ≡ slice_get old.slots.items (key_at old k)
other_key j t n k xs a old new set e = by (j == k) refl e
  where
    by : (b : Bool) → (j == k) ≡ b → (if b then Some n else None) ≡ None → slice_get new.slots.items (key_at old k) ≡ slice_get old.slots.items (key_at old k)
    by true same e = absurd (none-some n (sym e))
    by false same e = set.others (key_at old k) (λ at. clash (sym (grind (arith, nat_tests, at)) ∙ same))

-- a key that isn't one of so many isn't asked for
pub too_high : (keys j t n k m : ℕ) (xs : List ℕ) → keys ≤ j → k < keys → object_of_key (argument_binding (tracked j t xs) (object n)) k ≡ Some m → ⊥
too_high keys j t n k m xs high within e = by (j == k) refl e
  where
    by : (b : Bool) → (j == k) ≡ b → (if b then Some n else None) ≡ Some m → ⊥
    by true same e = let is = eqb-true j k same in omega (arith, is, high, within)
    by false same e = none-some m e

-- one binding before others
front_of : (xs ys : List Binding) (k n : ℕ) → object_of_key (xs ++ ys) k ≡ Some n → (o : Option ℕ) → object_of_key xs k ≡ o → (P : Type 0) →
    (object_of_key xs k ≡ Some n → P) → (object_of_key xs k ≡ None → object_of_key ys k ≡ Some n → P) → P
front_of [] ys k n e o is P here there = there refl e
front_of (b ∷ xs) ys k n e o is P here there = by (b.key == k) (λ e h t. front_of xs ys k n e (object_of_key xs k) refl P h t) e here there
  where
    by : (c : Bool) → (object_of_key (xs ++ ys) k ≡ Some n → (object_of_key xs k ≡ Some n → P) → (object_of_key xs k ≡ None → object_of_key ys k ≡ Some n → P) → P) →
        (if c then Some b.number else object_of_key (xs ++ ys) k) ≡ Some n → ((if c then Some b.number else object_of_key xs k) ≡ Some n → P) →
        ((if c then Some b.number else object_of_key xs k) ≡ None → object_of_key ys k ≡ Some n → P) → P
    by true rest e h t = h e
    by false rest e h t = rest e h t

-- keys of the other parameters were named, then that of the first
pub keys_named : (items : Items) (old mid new : Values) (keys : ℕ) (t : Ty) (ts : List Ty) (a : Argument) (rest : List Argument) (k n : ℕ) →
    AreKeysSet keys old mid →
    (object_of_key (argument_binding t a) k ≡ Some n → HasPartAt items new.slots.items (key_at mid k) (reference n)) →
    (object_of_key (argument_binding t a) k ≡ None → slice_get new.slots.items (key_at mid k) ≡ slice_get mid.slots.items (key_at mid k)) →
    (object_of_key (argument_bindings ts rest) k ≡ Some n → HasPartAt items mid.slots.items (key_at old k) (reference n)) →
    object_of_key (argument_bindings (t ∷ ts) (a ∷ rest)) k ≡ Some n → HasPartAt items new.slots.items (key_at old k) (reference n)
keys_named items old mid new keys t ts a rest k n set first others more e =
    let at = same_place keys old mid k set in
    front_of (argument_binding t a) (argument_bindings ts rest) k n e (object_of_key (argument_binding t a) k) refl (HasPartAt items new.slots.items (key_at old k) (reference n))
    (λ here. subst (λ j. HasPartAt items new.slots.items j (reference n)) at (first here))
    (λ none there.
    let q = more there in
    record { slot = q.slot; at = ap (slice_get new.slots.items) (sym at) ∙ (others none ∙ (ap (slice_get mid.slots.items) at ∙ q.at)); part = q.part })

-- ---- the frame

-- the host's key for an object is its number
host_key_is : (objects : List Object) (c n : ℕ) → host_key objects c ≡ Some n → (host_holds objects c ≡ true) × (c ≡ n)
host_key_is objects c n e = by (host_holds objects c) refl e
  where
    by : (b : Bool) → host_holds objects c ≡ b → (if b then Some c else None) ≡ Some n → (host_holds objects c ≡ true) × (c ≡ n)
    by true is e = (is, same_Some c n e)
    by false is e = absurd (none-some n e)

held_within : (objects : List Object) (n : ℕ) → host_holds objects n ≡ true → n < length objects
held_within objects n e = by (slice_get objects n) refl e
  where
    by : (o : Option Object) → slice_get objects n ≡ o → holds_in n o ≡ true → n < length objects
    by None at e = cc
    by (Some o) at e = slice_get_within objects n o at

-- a key of the function that names an object
pub record IsNamed (f : Func) (args : List Argument) (k n : ℕ) : Type 0 where
  pub within : k < length f.keys
  pub given : object_of_key (argument_bindings (parameters_of f) args) k ≡ Some n

abbrev stood : Func → List Argument → List Object → (key : ℕ) → ℕ
stood f args objects j = or_unused (length objects) (object_of_key (argument_bindings (parameters_of f) args) j)

pub called_key : (f : Func) (args : List Argument) (objects : List Object) (k n : ℕ) →
    callee_key f (host_keys f args objects) (host_frame objects) k ≡ Some n → IsNamed f args k n
called_key f args objects k n e = first (is_new_key f k) e
  where
    given : (o : Option ℕ) → object_of_key (argument_bindings (parameters_of f) args) k ≡ o → host_holds objects (or_unused (length objects) o) ≡ true → or_unused (length objects) o ≡ n →
        object_of_key (argument_bindings (parameters_of f) args) k ≡ Some n
    given None is held at = absurd (let l = held_within objects (length objects) held in omega (arith, l))
    given (Some m) is held at = is ∙ ap Some at

    second : (x : Option ℕ) → slice_get (host_keys f args objects) k ≡ x → option_and_then (host_key objects) x ≡ Some n → IsNamed f args k n
    second None at e = absurd (none-some n e)
    second (Some c) at e =
        let long : length (host_keys f args objects) ≡ length f.keys = length-map-range_with_len (stood f args objects) 0 (length f.keys) in
        let l = slice_get_within (host_keys f args objects) k c at in
        let within : k < length f.keys = omega (arith, l, long) in
        let is : c ≡ stood f args objects k = same_Some c (stood f args objects k) (sym at ∙ (slice_get-get_or (host_keys f args objects) k 0 (omega (arith, l)) ∙ ap Some (get_or-map-range_with_len (stood f args objects) 0 (length f.keys) k k 0 within (omega arith)))) in
        let h = host_key_is objects c n e in
        record {
          within = within;
          given = given (object_of_key (argument_bindings (parameters_of f) args) k) refl (subst (λ x. host_holds objects x ≡ true) is h.0) (sym is ∙ h.1);
        }

    first : (b : Bool) → (if b then None else option_and_then (host_key objects) (slice_get (host_keys f args objects) k)) ≡ Some n → IsNamed f args k n
    first true e = absurd (none-some n e)
    first false e = second (slice_get (host_keys f args objects) k) refl e

-- what the code did: values were pushed, the table grew, and keys were set
pub record IsStarted (old mid grown new : Values) (f : Func) (count : ℕ) : Type 0 where
  pub empty : length old.slots.items ≡ 0
  pub few : count ≤ length f.vars
  pub first : IsGrown old mid
  pub long : length mid.slots.items ≡ length old.slots.items + count * old.width
  pub second : IsGrown mid grown
  pub reach : length grown.slots.items ≡ length f.vars * old.width + length f.keys
  pub keys : AreKeysSet (length f.keys) (with_frame grown 0 (length f.vars)) new

pub started_so : (old mid grown run new : Values) (f : Func) (count n k w : ℕ) → length old.slots.items ≡ 0 → count ≤ length f.vars → IsGrown old mid → length mid.slots.items ≡ length old.slots.items + count * old.width → IsGrown mid grown →
    w ≡ mid.width → n ≡ length f.vars → k ≡ length f.keys → length grown.slots.items ≡ max (length mid.slots.items) (n * w + k) → run ≡ with_frame grown 0 n → AreKeysSet k run new → IsStarted old mid grown new f count
started_so old mid grown run new f count n k w empty few first long second wide is_n is_k reach is_run keys = record {
  empty = empty;
  few = few;
  first = first;
  long = long;
  second = second;
  reach =
      let same : n * w ≡ length f.vars * old.width = ap (λ x. x * w) is_n ∙ ap (λ x. length f.vars * x) (wide ∙ first.width) in
      let less : count * old.width ≤ length f.vars * old.width = mul-le-mul_right old.width few in
      omega (arith, reach, same, less, long, empty, is_k);
  keys = subst (λ j. AreKeysSet j (with_frame grown 0 (length f.vars)) new) is_k (subst (λ j. AreKeysSet k (with_frame grown 0 j) new) is_n (subst (λ r. AreKeysSet k r new) is_run keys));
}

pub started_shown : (items : Items) (old mid grown new : Values) (f : Func) (args : List Argument) (objects : List Object) → IsStarted old mid grown new f (length args) →
    HaveValues items mid.slots.items (length old.slots.items) old.width (map value_of_argument args) →
    ((k n : ℕ) → k < length f.keys → object_of_key (argument_bindings (parameters_of f) args) k ≡ Some n → HasPartAt items new.slots.items (key_at (with_frame grown 0 (length f.vars)) k) (reference n)) →
    ShowsFrame items new (callee_frame f (host_keys f args objects) (map value_of_argument args) (host_frame objects))
started_shown items old mid grown new f args objects did given named = record {
  vars = λ v a at.
      let l = slice_get_within (map value_of_argument args) v a at in
      let count : length (map value_of_argument args) ≡ length args = length_map args in
      let few = did.few in
      let within : v < length f.vars = omega (arith, l, count, few) in
      let fits = row_fits v (length args) old.width old.width (omega (arith, l, count)) (omega arith) in
      let all = row_fits v (length f.vars) old.width old.width within (omega arith) in
      let long = did.long in
      let wide : grown.width ≡ old.width = did.second.width ∙ did.first.width in
      let vars_end : length f.vars * grown.width ≡ length f.vars * old.width = ap (λ x. length f.vars * x) wide in
      record {
        within = subst (λ n. v < n) (sym did.keys.vars) within;
        value = rw (did.keys.base, width) (value_same items mid.slots.items new.slots.items (0 + v * old.width) old.width a
            (λ j low high. did.keys.before j (omega (arith, high, all, vars_end)) ∙ did.second.same j (omega (arith, high, fits, long)))
            (value_in items mid 0 old.width (map value_of_argument args) v a (subst (λ k. HaveValues items mid.slots.items k old.width (map value_of_argument args)) did.empty given) at));
      };
  keys = λ k n e.
      let q = called_key f args objects k n e in
      subst (λ j. HasPartAt items new.slots.items j (reference n)) (sym (same_place (length f.keys) (with_frame grown 0 (length f.vars)) new k did.keys)) (named k n q.within q.given);
}
  where
    width : new.width ≡ old.width
    width = did.keys.width ∙ (did.second.width ∙ did.first.width)

    length_map : (xs : List Argument) → length (map value_of_argument xs) ≡ length xs
    length_map [] = refl
    length_map (x ∷ xs) = ap suc (length_map xs)
