-- Calls of instances: their clauses name what the clause of the function names, and the object of the bound key chooses one.
use Rattle.std.proofs.Common.{◌≡◌, ◌==◌, ◌&&◌, ◌||◌, ℕ, zero, suc, Bool, true, false, IsTrue, if◌then◌else◌, List, [], ◌∷◌, ◌++◌, map, Option, None, Some, Ok, refl, sym, ap, ◌∙◌, subst, slice_get}
use Rattle.std.specs.List.{list_any}
use Rattle.std.specs.Option.{option_map, option_to_list, option_and_then}
use Rattle.std.proofs.Math.Path.{fun_ext}
use Rattle.std.proofs.lemmas.Bool.{false≢true, eqb-true}
use Rattle.std.proofs.lemmas.Option.{none-some, same_Some}
use Rattle.vlt_core.specs.Core.{Mode, kept, taken, given, fresh, up_to, Entry, Func, Program}
use Rattle.vlt_core.specs.Lookups.{is_new, is_held_before, key_states_up_to}
use Rattle.vlt_core.specs.Instances.{Bound, bound_at, or_else, bound_in, entry_of_instance, clause_of_instance, instance, IsWithinBound}
use Rattle.vlt_heap.specs.declared.heap.Heap.{Heap}
use Rattle.vlt_meaning.specs.World.{Value, Object as Thing, held, is_out, out, is_at, World, Frame, missing, wrong_state}
use Rattle.vlt_meaning.specs.Found.{Found, ◌>>=◌, or_fault, Named}
use Rattle.vlt_meaning.specs.Objects.{in_states, objects_after_move}
use Rattle.vlt_meaning.specs.Values.{held_object}
use Rattle.vlt_meaning.specs.Calls.{caller_object, passed_object, passed_objects, is_new_key, state_in, state_under}
use Rattle.vlt_meaning.specs.Externals.{is_given, taken_objects, come_back}
use Rattle.vlt_meaning_laws.proofs.Keeping.{bound}
use Rattle.vlt_acts.specs.declared.values.values.Values.{Values}
use Rattle.vlt_acts.specs.declared.hosts.host.Host.{Host}
use Rattle.vlt_acts.specs.Values.Shown.{Seen}
use Rattle.vlt_acts.proofs.OfValues.Touching.{held_is, so_is, some_is}
use Rattle.vlt_externals.specs.HostAnswers.Read.{AreWithin}
use Rattle.vlt_externals.specs.Sent.{IsNamed, AreNamed, CanTake, Takes}
use Rattle.vlt_externals.specs.Back.{AreGiven, AreBack, ComesBack}
use Rattle.vlt_externals.specs.HostCalls.Heeded.{IsOldKey, ListsKeys}
use Rattle.vlt_externals.specs.HostCalls.Called.{IsCall, OriginTold}

-- ---- what goes out, and what comes back

module _ (p : Program) (g : Func) (o : ℕ) (keys : List ℕ) (frame : Frame) where
  abbrev of : Entry → Entry
  of e = entry_of_instance p g o e

  taken_same : (es : List Entry) → taken_objects keys frame (map of es) ≡ taken_objects keys frame es
  taken_same [] = refl
  taken_same (e ∷ es) = by (taken_same es) e.mode
    where
      by : taken_objects keys frame (map of es) ≡ taken_objects keys frame es → (m : Mode) → taken_objects keys frame (of (record e { mode = m }) ∷ map of es) ≡ taken_objects keys frame (record e { mode = m } ∷ es)
      by rest kept = rest
      by rest (up_to b) = rest
      by rest given = rest
      by rest fresh = rest
      by rest taken = ap (λ l. option_to_list (caller_object keys frame e) ++ l) rest

  back_same : (es : List Entry) (objects : List Thing) → come_back keys frame (map of es) objects ≡ come_back keys frame es objects
  back_same [] objects = refl
  back_same (e ∷ es) objects = by (λ os. back_same es os) e.mode
    where
      go : (List Thing → Found (List Thing)) → Found (List Thing)
      go f = or_fault missing (slice_get keys e.key) >>= (λ k. or_fault missing (frame.keys k) >>= (λ n. objects_after_move is_out (held frame.depth k) (n ∷ []) objects >>= (λ back. f back)))

      by : ((os : List Thing) → come_back keys frame (map of es) os ≡ come_back keys frame es os) → (m : Mode) → come_back keys frame (of (record e { mode = m }) ∷ map of es) objects ≡ come_back keys frame (record e { mode = m } ∷ es) objects
      by rest kept = rest objects
      by rest (up_to b) = rest objects
      by rest given = ap go (fun_ext rest)
      by rest fresh = rest objects
      by rest taken = rest objects

  named_as : (e f : Entry) → f.key ≡ e.key → IsNamed keys frame e → IsNamed keys frame f
  named_as e f same n = record { number = n.number; is = ap (λ k. option_and_then frame.keys (slice_get keys k)) same ∙ n.is }

  given_down : (es : List Entry) → AreGiven keys frame (map of es) → AreGiven keys frame es
  given_down [] h = tt
  given_down (e ∷ es) h = (by e.mode h.0, given_down es h.1)
    where
      by : (m : Mode) → (is_given (of (record e { mode = m })) ≡ true → IsNamed keys frame (of (record e { mode = m }))) → is_given (record e { mode = m }) ≡ true → IsNamed keys frame (record e { mode = m })
      by kept h on = absurd (false≢true on)
      by (up_to b) h on = absurd (false≢true on)
      by given h on = named_as (of (record e { mode = given })) (record e { mode = given }) refl (h on)
      by fresh h on = absurd (false≢true on)
      by taken h on = absurd (false≢true on)

  named_down : (es : List Entry) → AreNamed keys frame (map of es) → AreNamed keys frame es
  named_down [] h = tt
  named_down (e ∷ es) h = (by e.mode h.0, named_down es h.1)
    where
      by : (m : Mode) → (is_held_before (of (record e { mode = m })) ≡ true → IsNamed keys frame (of (record e { mode = m }))) → is_held_before (record e { mode = m }) ≡ true → IsNamed keys frame (record e { mode = m })
      by kept h on = named_as (of (record e { mode = kept })) (record e { mode = kept }) refl (h on)
      by (up_to b) h on = named_as (of (record e { mode = up_to b })) (record e { mode = up_to b }) refl (h refl)
      by given h on = absurd (false≢true on)
      by fresh h on = absurd (false≢true on)
      by taken h on = named_as (of (record e { mode = taken })) (record e { mode = taken }) refl (h on)

module _ (p : Program) (g : Func) where
  -- objects that come back for the clause come back for that of an instance
  pub back_in_instance : (o : Option ℕ) (keys : List ℕ) (es : List Entry) (values : Values) (old new : Heap) (b : Bool) → ComesBack keys es values old new b → ComesBack keys (clause_of_instance p g o es) values old new b
  back_in_instance None keys es values old new b comes c named = comes c named
  back_in_instance (Some o) keys es values old new b comes c named =
      subst (AreBack c.items new values c.frame b) (sym (back_same p g o keys c.frame es c.objects)) (comes c (given_down p g o keys c.frame es named))

  pub take_for : (o : Option ℕ) (keys : List ℕ) (es : List Entry) (values : Values) (heap : Heap) → CanTake heap values keys (clause_of_instance p g o es) → CanTake heap values keys es
  take_for None keys es values heap can = can
  take_for (Some o) keys es values heap can = record {
    seen = can.seen;
    named = named_down p g o keys can.seen.frame es can.named;
    after = can.after;
    is = ap (λ ns. objects_after_move (is_at can.seen.frame.depth) out ns can.seen.objects) (sym (taken_same p g o keys can.seen.frame es)) ∙ can.is;
  }

  pub takes_for : (o : Option ℕ) (keys : List ℕ) (es : List Entry) (values : Values) (old new : Heap) → Takes keys es values old new → Takes keys (clause_of_instance p g o es) values old new
  takes_for None keys es values old new takes c after named is = takes c after named is
  takes_for (Some o) keys es values old new takes c after named is =
      takes c after (named_down p g o keys c.frame es named)
      (ap (λ ns. objects_after_move (is_at c.frame.depth) out ns c.objects) (sym (taken_same p g o keys c.frame es)) ∙ is)

-- ---- keys that a call lists

module _ (p : Program) (g : Func) (o : ℕ) where
  new_same : (j : ℕ) (es : List Entry) → list_any (λ e. is_new e && e.key == j) (map (entry_of_instance p g o) es) ≡ list_any (λ e. is_new e && e.key == j) es
  new_same j [] = refl
  new_same j (e ∷ es) = by (new_same j es) e.mode
    where
      by : list_any (λ e. is_new e && e.key == j) (map (entry_of_instance p g o) es) ≡ list_any (λ e. is_new e && e.key == j) es → (m : Mode)
          → list_any (λ e. is_new e && e.key == j) (entry_of_instance p g o (record e { mode = m }) ∷ map (entry_of_instance p g o) es) ≡ list_any (λ e. is_new e && e.key == j) (record e { mode = m } ∷ es)
      by rest kept = rest
      by rest (up_to b) = rest
      by rest given = rest
      by rest fresh = ap (λ b. e.key == j || b) rest
      by rest taken = rest

  old_key : (e : Entry) → is_new (entry_of_instance p g o e) ≡ false → is_new e ≡ false
  old_key e old = by e.mode old
    where
      by : (m : Mode) → is_new (entry_of_instance p g o (record e { mode = m })) ≡ false → is_new (record e { mode = m }) ≡ false
      by kept old = refl
      by (up_to b) old = refl
      by given old = refl
      by fresh old = old
      by taken old = refl

module _ (p : Program) (g : Func) where
  pub same_new : (o : Option ℕ) (j : ℕ) → is_new_key (instance p g o) j ≡ is_new_key g j
  same_new None j = refl
  same_new (Some o) j = new_same p g o j g.clause

  old_in : (o : Option ℕ) (keys : List ℕ) (j : ℕ) → IsOldKey g keys j → IsOldKey (instance p g o) keys j
  old_in o keys j h = record { listed = h.listed; old = same_new o j ∙ h.old }

  entries_in_instance : (o : ℕ) (keys : List ℕ) (es : List Entry) → ((i : ℕ) (e : Entry) → slice_get es i ≡ Some e → is_new e ≡ false → IsOldKey g keys e.key)
      → (i : ℕ) (e : Entry) → slice_get (map (entry_of_instance p g o) es) i ≡ Some e → is_new e ≡ false → IsOldKey (instance p g (Some o)) keys e.key
  entries_in_instance o keys [] all i e at old = absurd (none-some e at)
  entries_in_instance o keys (f ∷ es) all zero e at old =
      let same : entry_of_instance p g o f ≡ e = same_Some (entry_of_instance p g o f) e at in
      subst (λ x. is_new x ≡ false → IsOldKey (instance p g (Some o)) keys x.key) same (λ old. old_in (Some o) keys f.key (all zero f refl (old_key p g o f old))) old
  entries_in_instance o keys (f ∷ es) all (suc i) e at old = entries_in_instance o keys es (λ j x at2. all (suc j) x at2) i e at old

  pub lists_in : (o : Option ℕ) (keys : List ℕ) → ListsKeys p g keys → ListsKeys p (instance p g o) keys
  lists_in None keys lists = lists
  lists_in (Some o) keys lists = record {
    entries = entries_in_instance o keys g.clause lists.entries;
    cases = λ v c i d k result decl at.
        let s = lists.cases v c i d k result decl at in
        record { key = s.key; is = s.is; listed = old_in (Some o) keys s.key s.listed };
  }

  pub call_in : (o : Option ℕ) (keys : List ℕ) (h : Heap) (values : Values) (host : Host) (c : Seen h values) (w : World) (args : List Value) → IsCall p g keys h values host c w args → IsCall p (instance p g o) keys h values host c w args
  call_in o keys h values host c w args call = record {
    program = call.program;
    objects = call.objects;
    hosts = call.hosts;
    running = call.running;
    names = call.names;
    own = call.own;
    args_at = call.args_at;
    known = λ j listed old. call.known j listed (sym (same_new o j) ∙ old);
  }

-- ---- the instance that is called

both_true : (a b : Bool) → (a && b) ≡ true → (a ≡ true) × (b ≡ true)
both_true true true e = (refl, refl)
both_true true false e = absurd (false≢true e)
both_true false b e = absurd (false≢true e)

module _ (p : Program) (g h : Func) (keys : List ℕ) (frame : Frame) (objects : List Thing) (o : ℕ) where
  abbrev here : Entry → Entry
  here e = entry_of_instance p g o e

  -- what is passed for a bound entry is in the state, which is up to the bound
  passed_up : (k b : ℕ) (n m : Named) → in_states (λ s. s == o && key_states_up_to p g k b s) n ≡ Ok m → IsTrue (key_states_up_to p g k b o)
  passed_up k b n m is =
      let both = both_true (n.object.state == o) (key_states_up_to p g k b n.object.state) (so_is (n.object.state == o && key_states_up_to p g k b n.object.state) wrong_state n m is).0 in
      subst (λ s. key_states_up_to p g k b s ≡ true) (eqb-true n.object.state o both.0) both.1

  -- the first entry is passed, and the others are
  passed_first : (e : Entry) (es : List Entry) (ns : List ℕ) → is_held_before e ≡ true → passed_objects p h keys frame objects (e ∷ es) ≡ Ok ns → (m : Named) × (passed_object p h keys frame objects e ≡ Ok m)
  passed_first e es ns on is =
      let whole = ap (λ b. if b then (passed_object p h keys frame objects e >>= (λ n. passed_objects p h keys frame objects es >>= (λ ns. Ok (n.number ∷ ns)))) else passed_objects p h keys frame objects es) (sym on) ∙ is in
      let n = bound (passed_object p h keys frame objects e) _ ns whole in
      (n.0, n.1)

  passed_more : (e : Entry) (es : List Entry) (ns : List ℕ) → passed_objects p h keys frame objects (e ∷ es) ≡ Ok ns → (ms : List ℕ) × (passed_objects p h keys frame objects es ≡ Ok ms)
  passed_more e es ns is = by (is_held_before e) is
    where
      by : (b : Bool) → (if b then (passed_object p h keys frame objects e >>= (λ n. passed_objects p h keys frame objects es >>= (λ ns. Ok (n.number ∷ ns)))) else passed_objects p h keys frame objects es) ≡ Ok ns → (ms : List ℕ) × (passed_objects p h keys frame objects es ≡ Ok ms)
      by false is = (ns, is)
      by true is =
          let n = bound (passed_object p h keys frame objects e) _ ns is in
          let rest = bound (passed_objects p h keys frame objects es) _ ns n.2 in
          (rest.0, rest.1)

  same_state : (b c : ℕ) → up_to b ≡ up_to c → b ≡ c
  same_state b c e = cc

  within_one : (e : Entry) (es : List Entry) (ns : List ℕ) → passed_objects p h keys frame objects (here e ∷ es) ≡ Ok ns → IsWithinBound p g (Some o) e
  within_one e es ns is = by e.mode is
    where
      by : (m : Mode) → passed_objects p h keys frame objects (here (record e { mode = m }) ∷ es) ≡ Ok ns → IsWithinBound p g (Some o) (record e { mode = m })
      by (up_to b) is = λ c same.
          let n = passed_first (here (record e { mode = up_to b })) es ns refl is in
          let k = bound (or_fault missing (slice_get keys e.key)) _ n.0 n.1 in
          let x = bound (held_object k.0 frame objects) _ n.0 k.2 in
          subst (λ s. IsTrue (key_states_up_to p g e.key s o)) (same_state b c same) (passed_up e.key b x.0 n.0 x.2)
      by kept is = λ c same. absurd cc
      by taken is = λ c same. absurd cc
      by given is = λ c same. absurd cc
      by fresh is = λ c same. absurd cc

  pub within_all : (es : List Entry) (ns : List ℕ) → passed_objects p h keys frame objects (map here es) ≡ Ok ns → AreWithin p g (Some o) es
  within_all [] ns is = tt
  within_all (e ∷ es) ns is =
      let rest = passed_more (here e) (map here es) ns is in
      (within_one e (map here es) ns is, within_all es rest.0 rest.1)

  -- the object of the bound key is held
  pub record IsHeldUnder (key : ℕ) : Type 0 where
    pub caller : ℕ
    pub is : slice_get keys key ≡ Some caller
    pub object : Named
    pub found : held_object caller frame objects ≡ Ok object

  first_held : (es : List Entry) (ns : List ℕ) (b : Bound) → bound_in es ≡ Some b → passed_objects p h keys frame objects (map here es) ≡ Ok ns → IsHeldUnder b.key
  first_held [] ns b at is = absurd (none-some b at)
  first_held (e ∷ es) ns b at is = by (λ ms more is. first_held es ms b more is) e.mode at is
    where
      by : ((ms : List ℕ) → bound_in es ≡ Some b → passed_objects p h keys frame objects (map here es) ≡ Ok ms → IsHeldUnder b.key)
          → (m : Mode) → or_else (bound_at e.key m) (bound_in es) ≡ Some b → passed_objects p h keys frame objects (here (record e { mode = m }) ∷ map here es) ≡ Ok ns → IsHeldUnder b.key
      by rest (up_to s) at is =
          let n = passed_first (here (record e { mode = up_to s })) (map here es) ns refl is in
          let k = bound (or_fault missing (slice_get keys e.key)) _ n.0 n.1 in
          let x = bound (held_object k.0 frame objects) _ n.0 k.2 in
          let same : e.key ≡ b.key = ap (λ q. q.key) (same_Some (record { key = e.key; state = s }) b at) in
          subst IsHeldUnder same (record { caller = k.0; is = some_is missing (slice_get keys e.key) k.0 k.1; object = x.0; found = x.1 })
      by rest kept at is = let more = passed_more (here (record e { mode = kept })) (map here es) ns is in rest more.0 at more.1
      by rest taken at is = let more = passed_more (here (record e { mode = taken })) (map here es) ns is in rest more.0 at more.1
      by rest given at is = let more = passed_more (here (record e { mode = given })) (map here es) ns is in rest more.0 at more.1
      by rest fresh at is = let more = passed_more (here (record e { mode = fresh })) (map here es) ns is in rest more.0 at more.1

  state_told : (key : ℕ) (u : IsHeldUnder key) → u.object.object.state ≡ state_under keys frame objects key
  state_told key u =
      let q = held_is u.caller frame objects u.object u.found in
      sym (ap (λ x. state_in (option_and_then (slice_get objects) (option_and_then frame.keys x))) u.is
      ∙ ap (λ x. state_in (option_and_then (slice_get objects) x)) q.key
      ∙ ap state_in q.at)

-- nothing is bound where there is no origin
none_within : (p : Program) (g : Func) (es : List Entry) → AreWithin p g None es
none_within p g [] = tt
none_within p g (e ∷ es) = (tt, none_within p g es)

module _ (p : Program) (g : Func) (keys : List ℕ) (frame : Frame) (objects : List Thing) where
  abbrev pub chosen : Option Bound → Option ℕ
  chosen b = option_map (λ b. state_under keys frame objects b.key) b

  pub within_called : (ns : List ℕ) → passed_objects p (instance p g (chosen (bound_in g.clause))) keys frame objects (instance p g (chosen (bound_in g.clause))).clause ≡ Ok ns → AreWithin p g (chosen (bound_in g.clause)) g.clause
  within_called ns is = by (bound_in g.clause) is
    where
      by : (x : Option Bound) → passed_objects p (instance p g (chosen x)) keys frame objects (instance p g (chosen x)).clause ≡ Ok ns → AreWithin p g (chosen x) g.clause
      by None is = none_within p g g.clause
      by (Some b) is = within_all p g (instance p g (chosen (Some b))) keys frame objects (state_under keys frame objects b.key) g.clause ns is

  -- what the code found is the origin that the frame and the objects choose
  pub origin_called : (h : Heap) (values : Values) (c : Seen h values) (r : Option ℕ) (ns : List ℕ) → c.frame ≡ frame → c.objects ≡ objects
      → passed_objects p (instance p g (chosen (bound_in g.clause))) keys frame objects (instance p g (chosen (bound_in g.clause))).clause ≡ Ok ns → OriginTold (bound_in g.clause) keys h values r → r ≡ chosen (bound_in g.clause)
  origin_called h values c r ns frame_is objects_are is told = by (bound_in g.clause) refl is told
    where
      by : (x : Option Bound) → bound_in g.clause ≡ x → passed_objects p (instance p g (chosen x)) keys frame objects (instance p g (chosen x)).clause ≡ Ok ns → OriginTold x keys h values r → r ≡ chosen x
      by None at is told = told
      by (Some b) at is told =
          let u = first_held p g (instance p g (chosen (Some b))) keys frame objects (state_under keys frame objects b.key) g.clause ns b at is in
          let state = state_told p g (instance p g (chosen (Some b))) keys frame objects (state_under keys frame objects b.key) b.key u in
          told.1 ∙ ap Some (told.2 c u.caller u.object u.is
          (ap (λ x. held_object u.caller x c.objects) frame_is ∙ ap (held_object u.caller frame) objects_are ∙ u.found) ∙ state)
