-- States that are set, one after another.
use Rattle.std.proofs.Common.{◌≡◌, ℕ, ℤ, Bool, true, false, if◌then◌else◌, List, [], ◌∷◌, ◌++◌, filter, Option, None, Some, refl, sym, ap, ◌∙◌, subst, slice_get}
use Rattle.std.specs.List.{zip}
use Rattle.std.specs.Option.{option_map, option_to_list, option_and_then}
use Rattle.std.proofs.lemmas.Option.{none-some}
use Rattle.vlt_core.specs.Core.{CaseKey, Entry, Func, Program}
use Rattle.vlt_core.specs.Lookups.{is_held_after, is_new, after_set}
use Rattle.vlt_heap.specs.declared.heap.Heap.{Heap}
use Rattle.vlt_meaning.specs.World.{Object as Thing, Frame}
use Rattle.vlt_meaning.specs.Objects.{with_state, with_changed_object}
use Rattle.vlt_meaning.specs.Calls.{caller_object}
use Rattle.vlt_meaning.specs.HostAnswers.{Reading, reads, then_reads, ◌>>=◌, each, state_in, key_state}
use Rattle.vlt_meaning.specs.Externals.{entry_states, with_states}
use Rattle.vlt_externals.proofs.OfHostAnswers.Reading.{each_none, each_some}
use Rattle.vlt_acts.specs.declared.values.values.Values.{Values}
use Rattle.vlt_acts.specs.Values.Shown.{Seen}
use Rattle.vlt_acts.specs.Acts.Acts.{Shows}
use Rattle.vlt_externals.specs.Back.{Becomes}
use Rattle.vlt_externals.proofs.Going.{seen_after, shows_twice, shows_same}
use Rattle.vlt_externals.specs.Results.Stated.{state_of_entry, Sets, SetsEntry, SetsEntries, key_for, AreCaseObjects, SetsCase}

pub states_append : (qs rs : List (ℕ × ℕ)) (objects : List Thing) → with_states (qs ++ rs) objects ≡ with_states rs (with_states qs objects)
states_append [] rs objects = refl
states_append (q ∷ qs) rs objects = states_append qs rs (with_changed_object q.0 (with_state q.1) objects)

-- some states, then others
pub sets_both : (old between new : Heap) (values : Values) (first rest : Frame → List (ℕ × ℕ)) (c : Seen old values) → (s : Sets values old between first c) → Sets values between new rest (seen_after old between values c (with_states (first c.frame) c.objects) s)
    → Sets values old new (λ frame. first frame ++ rest frame) c
sets_both old between new values first rest c s t =
    subst (Shows c.items new values c.frame) (sym (states_append (first c.frame) (rest c.frame) c.objects))
    (shows_twice old between new values c (with_states (first c.frame) c.objects) (with_states (rest c.frame) (with_states (first c.frame) c.objects)) s t)

abbrev states_in : Option (List ℕ × List ℤ) → List ℕ
states_in None = []
states_in (Some q) = q.0

unread : (q : List ℕ × List ℤ) → ◌≡◌ {A = Option (List ℕ × List ℤ)} None (Some q) → ⊥
unread q e = none-some q e

-- ---- an entry

of_entry : (keys : List ℕ) (frame : Frame) (e : Entry) (s : ℕ) (b : Bool) → is_new e ≡ b → state_of_entry keys frame e s ≡ (if b then [] else option_to_list (option_map (λ n. (n, s)) (caller_object keys frame e)))
of_entry keys frame e s b is = ap (λ t. if t then [] else option_to_list (option_map (λ n. (n, s)) (caller_object keys frame e))) is

pub new_entry : (h : Heap) (values : Values) (keys : List ℕ) (e : Entry) (s : ℕ) → is_new e ≡ true → SetsEntry keys e s values h h
new_entry h values keys e s new c named =
    subst (λ qs. Shows c.items h values c.frame (with_states qs c.objects)) (sym (of_entry keys c.frame e s true new)) (shows_same h values c)

pub old_entry : (old new : Heap) (values : Values) (keys : List ℕ) (e : Entry) (s k : ℕ) → is_new e ≡ false → slice_get keys e.key ≡ Some k → Becomes k s values old new → SetsEntry keys e s values old new
old_entry old new values keys e s k kept key becomes c named =
    let n = named kept in
    let at : c.frame.keys k ≡ Some n.number = ap (option_and_then c.frame.keys) (sym key) ∙ n.is in
    let one : state_of_entry keys c.frame e s ≡ (n.number, s) ∷ [] = of_entry keys c.frame e s false kept ∙ ap (λ x. option_to_list (option_map (λ m. (m, s)) x)) n.is in
    subst (λ qs. Shows c.items new values c.frame (with_states qs c.objects)) (sym one) (becomes c n.number at)

pub no_entry : (h : Heap) (values : Values) (keys : List ℕ) (e : Entry) (s : ℕ) → is_new e ≡ false → slice_get keys e.key ≡ None → SetsEntry keys e s values h h
no_entry h values keys e s kept key c named =
    let n = named kept in absurd (none-some n.number (ap (option_and_then c.frame.keys) (sym key) ∙ n.is))

-- ---- entries

module _ (p : Program) (g : Func) (keys : List ℕ) where
  abbrev pub read_state : Entry → Reading ℕ
  read_state e = state_in (after_set p g e)

  pub no_entries : (h : Heap) (values : Values) (zs : List ℤ) → SetsEntries p g keys [] zs values h h
  no_entries h values zs c ss rest named e = shows_same h values c

  kept_list : (e : Entry) (es : List Entry) (b : Bool) → is_held_after e ≡ b → filter is_held_after (e ∷ es) ≡ (if b then e ∷ filter is_held_after es else filter is_held_after es)
  kept_list e es b is = ap (λ t. if t then e ∷ filter is_held_after es else filter is_held_after es) is

  pub skip_entry : (old new : Heap) (values : Values) (e : Entry) (es : List Entry) (zs : List ℤ) → is_held_after e ≡ false → SetsEntries p g keys es zs values old new → SetsEntries p g keys (e ∷ es) zs values old new
  skip_entry old new values e es zs off sets c ss rest named read =
      let list = kept_list e es false off in
      subst (λ xs. Shows c.items new values c.frame (with_states (entry_states keys c.frame xs ss) c.objects)) (sym list)
      (sets c ss rest named.1 (ap (λ xs. each read_state xs zs) (sym list) ∙ read))

  pub entry_missing : (h : Heap) (values : Values) (e : Entry) (es : List Entry) (zs : List ℤ) → is_held_after e ≡ true → read_state e zs ≡ None → SetsEntries p g keys (e ∷ es) zs values h h
  entry_missing h values e es zs on none c ss rest named read =
      absurd (unread (ss, rest) (sym (each_none read_state e (filter is_held_after es) zs none) ∙ ap (λ xs. each read_state xs zs) (sym (kept_list e es true on)) ∙ read))

  pub first_entry : (old between new : Heap) (values : Values) (e : Entry) (es : List Entry) (zs more : List ℤ) (s : ℕ) → is_held_after e ≡ true → read_state e zs ≡ Some (s, more) → SetsEntry keys e s values old between → SetsEntries p g keys es more values between new
      → SetsEntries p g keys (e ∷ es) zs values old new
  first_entry old between new values e es zs more s on one first others c ss rest named read =
      let list = kept_list e es true on in
      let all : then_reads (λ bs. reads (s ∷ bs)) (each read_state (filter is_held_after es) more) ≡ Some (ss, rest) =
      sym (each_some read_state e (filter is_held_after es) zs s more one) ∙ ap (λ xs. each read_state xs zs) (sym list) ∙ read in
      by (each read_state (filter is_held_after es) more) refl all list
    where
      by : (x : Option (List ℕ × List ℤ)) → each read_state (filter is_held_after es) more ≡ x → then_reads (λ bs. reads (s ∷ bs)) x ≡ Some (ss, rest) → filter is_held_after (e ∷ es) ≡ e ∷ filter is_held_after es
          → Shows c.items new values c.frame (with_states (entry_states keys c.frame (filter is_held_after (e ∷ es)) ss) c.objects)
      by None at all list = absurd (unread (ss, rest) all)
      by (Some q) at all list =
          let states : s ∷ q.0 ≡ ss = ap states_in all in
          let done = first c (named.0 on) in
          let after = seen_after old between values c (with_states (state_of_entry keys c.frame e s) c.objects) done in
          subst (λ xs. Shows c.items new values c.frame (with_states (entry_states keys c.frame xs ss) c.objects)) (sym list)
          (subst (λ xs. Shows c.items new values c.frame (with_states (entry_states keys c.frame (e ∷ filter is_held_after es) xs) c.objects)) states
          (sets_both old between new values (λ frame. state_of_entry keys frame e s) (λ frame. entry_states keys frame (filter is_held_after es) q.0) c done (others after q.0 q.1 named.1 at)))

-- ---- the keys of a case

module _ (keys args : List ℕ) where
  pub no_keys : (h : Heap) (values : Values) (zs : List ℤ) → SetsCase keys args [] zs values h h
  no_keys h values zs c ns ss rest are read = by ns are
    where
      by : (ns : List ℕ) → AreCaseObjects keys args c.frame [] ns → Shows c.items h values c.frame (with_states (zip ns ss) c.objects)
      by [] are = shows_same h values c
      by (n ∷ ns) are = absurd are

  -- a key that doesn't stand for one of the caller, or whose state can't be read
  pub key_missing : (h : Heap) (values : Values) (k : CaseKey) (ks : List CaseKey) (zs : List ℤ) → key_for keys args k.position ≡ None → SetsCase keys args (k ∷ ks) zs values h h
  key_missing h values k ks zs key c ns ss rest are read = by ns are
    where
      by : (ns : List ℕ) → AreCaseObjects keys args c.frame (k ∷ ks) ns → Shows c.items h values c.frame (with_states (zip ns ss) c.objects)
      by [] are = absurd are
      by (n ∷ ns) are = absurd (none-some n (ap (option_and_then c.frame.keys) (sym key) ∙ are.0))

  pub state_missing : (h : Heap) (values : Values) (k : CaseKey) (ks : List CaseKey) (zs : List ℤ) → key_state k zs ≡ None → SetsCase keys args (k ∷ ks) zs values h h
  state_missing h values k ks zs none c ns ss rest are read =
      absurd (unread (ss, rest) (sym (ap (then_reads (λ b. each key_state ks >>= (λ bs. reads (b ∷ bs)))) none) ∙ read))

  pub first_key : (old between new : Heap) (values : Values) (k : CaseKey) (ks : List CaseKey) (zs more : List ℤ) (key s : ℕ) → key_for keys args k.position ≡ Some key → key_state k zs ≡ Some (s, more) → Becomes key s values old between → SetsCase keys args ks more values between new
      → SetsCase keys args (k ∷ ks) zs values old new
  first_key old between new values k ks zs more key s is one becomes others c ns ss rest are read =
      by ns are (each key_state ks more) refl (sym (each_some key_state k ks zs s more one) ∙ read)
    where
      by : (ns : List ℕ) → AreCaseObjects keys args c.frame (k ∷ ks) ns → (x : Option (List ℕ × List ℤ)) → each key_state ks more ≡ x → then_reads (λ bs. reads (s ∷ bs)) x ≡ Some (ss, rest)
          → Shows c.items new values c.frame (with_states (zip ns ss) c.objects)
      by [] are x at all = absurd are
      by (n ∷ ns) are None at all = absurd (unread (ss, rest) all)
      by (n ∷ ns) are (Some q) at all =
          let states : s ∷ q.0 ≡ ss = ap states_in all in
          let named : c.frame.keys key ≡ Some n = ap (option_and_then c.frame.keys) (sym is) ∙ are.0 in
          let done = becomes c n named in
          let after = seen_after old between values c (with_changed_object n (with_state s) c.objects) done in
          subst (λ xs. Shows c.items new values c.frame (with_states (zip (n ∷ ns) xs) c.objects)) states
          (shows_twice old between new values c (with_changed_object n (with_state s) c.objects) (with_states (zip ns q.0) (with_changed_object n (with_state s) c.objects)) done (others after ns q.0 q.1 are.1 at))
