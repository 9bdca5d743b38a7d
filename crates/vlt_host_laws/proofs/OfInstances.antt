-- A host's call of a function with a bound entry is one of an instance: what is asked of the function is so of it, and what it
-- keeps the function keeps.
use Rattle.std.proofs.Common.{◌≡◌, inl, inr, ⊎_elim, ℕ, ◌==◌, Bool, true, false, ◌&&◌, not, if◌then◌else◌, IsTrue, List, [], ◌∷◌, map, Option, Some, None, refl, sym, ap, ◌∙◌, subst, slice_get}
use Rattle.std.specs.Prelude.{filter}
use Rattle.std.proofs.lemmas.Bool.{eqb-true, eq-eqb}
use Rattle.std.proofs.lemmas.Option.{same_Some}
use Rattle.std.specs.List.{list_all, list_any}
use Rattle.std.specs.Option.{option_map, option_and_then}
use Rattle.vlt_core.specs.Core.{States, Ty, int, bool, tracked, owning, guarded, variant, owning_variant, Mode, kept, taken, given, fresh, up_to, Entry, Func, Program}
use Rattle.vlt_core.specs.Lookups.{key_states_up_to, is_before, is_after, is_held_before, is_held_after, is_new, after_set}
use Rattle.vlt_core.specs.Instances.{Bound, bound_in, mode_of_instance, entry_of_instance, instance, IsOriginOf, IsOrigin}
use Rattle.vlt_core.specs.Types.{stands_for}
use Rattle.vlt_core.specs.KindedHeads.{are_apart}
use Rattle.vlt_meaning.specs.World.{Value, Object}
use Rattle.vlt_meaning.specs.Calls.{state_in, state_under}
use Rattle.vlt_meaning.specs.Externals.{is_given, is_taken}
use Rattle.vlt_sound_worlds.specs.Look.{look, look_in}
use Rattle.vlt_sound_worlds.proofs.Empty.{both_so}
use Rattle.vlt_sound_worlds.specs.Typed.{IsTyped}
use Rattle.vlt_sound_calls.specs.Heads.{HasHead}
use Rattle.vlt_sound_calls.specs.Bounds.{HasBound}
use Rattle.vlt_sound_calls.specs.Callee.{caller_key}
use Rattle.vlt_sound_calls.specs.Among.{Among}
use Rattle.vlt_sound_calls.proofs.Pairs.{among_filtered, filtered_among}
use Rattle.vlt_sound_calls.proofs.Instanced.{is_new_of}
use Rattle.vlt_sound_calls.proofs.Narrowing.{bound_entry}
use Rattle.vlt_host_meaning.specs.Calls.{Argument}
use Rattle.vlt_host_meaning.specs.EntryFunctions.{is_host_type, gives_new_object, is_host_result}
use Rattle.vlt_host_meaning.specs.HostFrame.{host_key, host_frame}
use Rattle.vlt_host_meaning.specs.Permitted.{host_keys, entries_before, permitted_states, is_object_in}
use Rattle.vlt_host_laws.specs.Promise.{IsEntryOf, IsTaken, IsNewObject, IsLeftIn, ChangesByClause}
use Rattle.vlt_host_laws.proofs.Unbound.{instance_plain}
use Rattle.vlt_host_laws.proofs.HostAsCaller.{key_of_held}
use Rattle.vlt_host_laws.proofs.HostAgrees.{HostAgrees}
use Rattle.vlt_host_laws.proofs.Arguments.{IsAsked}
use Rattle.vlt_host_laws.proofs.CallFromHost.{all_among, is_call, entry_held, permitted_state}

-- ---- lists

all_so : (test : Entry → Bool) (es : List Entry) → ((e : Entry) → Among e es → test e ≡ true) → list_all test es ≡ true
all_so test [] each = refl
all_so test (x ∷ es) each = rw (each x (inl refl), all_so test es (λ e i. each e (inr i))) refl

-- ---- entries of an instance

module _ (p : Program) (g : Func) (o : ℕ) where
  abbrev made : Entry → Entry
  made e = entry_of_instance p g o e

  before_of : (e : Entry) → is_held_before (made e) ≡ is_held_before e
  before_of e = by e.mode
    where
      by : (m : Mode) → is_before (mode_of_instance m) ≡ is_before m
      by kept = refl
      by taken = refl
      by given = refl
      by fresh = refl
      by (up_to b) = refl

  after_of : (e : Entry) → is_held_after (made e) ≡ is_held_after e
  after_of e = by e.mode
    where
      by : (m : Mode) → is_after (mode_of_instance m) ≡ is_after m
      by kept = refl
      by taken = refl
      by given = refl
      by fresh = refl
      by (up_to b) = refl

  taken_of : (e : Entry) → is_taken (made e) ≡ is_taken e
  taken_of e = rw (before_of e, after_of e) refl

  given_of : (e : Entry) → is_given (made e) ≡ is_given e
  given_of e = rw (before_of e, is_new_of p g o e) refl

  made_among : (es : List Entry) (e : Entry) → Among e es → Among (made e) (map made es)
  made_among [] e i = absurd i
  made_among (x ∷ es) e (inl same) = inl (ap made same)
  made_among (x ∷ es) e (inr rest) = inr (made_among es e rest)

  among_made : (es : List Entry) (e : Entry) → Among e (map made es) → (d : Entry) × Among d es × (e ≡ made d)
  among_made [] e i = absurd i
  among_made (x ∷ es) e (inl same) = (x, inl refl, same)
  among_made (x ∷ es) e (inr rest) = let d = among_made es e rest in (d.0, inr d.1, d.2)

  befores : (keys : List ℕ) (es : List Entry) →
      map (λ e. stands_for keys e.key) (filter is_held_before (map made es)) ≡ map (λ e. stands_for keys e.key) (filter is_held_before es)
  befores keys [] = refl
  befores keys (e ∷ es) = rw (before_of e) (by (befores keys es) (is_held_before e))
    where
      by : map (λ e. stands_for keys e.key) (filter is_held_before (map made es)) ≡ map (λ e. stands_for keys e.key) (filter is_held_before es) →
          (b : Bool) →
          map (λ e. stands_for keys e.key) (if b then made e ∷ filter is_held_before (map made es) else filter is_held_before (map made es))
          ≡ map (λ e. stands_for keys e.key) (if b then e ∷ filter is_held_before es else filter is_held_before es)
      by more true = ap (λ ks. stands_for keys e.key ∷ ks) more
      by more false = more

  no_givens : (es : List Entry) → list_all (λ e. not (is_given e)) (map made es) ≡ list_all (λ e. not (is_given e)) es
  no_givens [] = refl
  no_givens (e ∷ es) = rw (given_of e, no_givens es) refl

  new_key_of : (k : ℕ) (es : List Entry) →
      list_any (λ e. is_new e && e.key == k) (map made es) ≡ list_any (λ e. is_new e && e.key == k) es
  new_key_of k [] = refl
  new_key_of k (e ∷ es) = rw (is_new_of p g o e, new_key_of k es) refl

  gives_of : (ty : Ty) → gives_new_object (instance p g (Some o)) ty ≡ gives_new_object g ty
  gives_of (tracked k t args) = new_key_of k g.clause
  gives_of int = refl
  gives_of bool = refl
  gives_of (owning s t args) = refl
  gives_of (guarded k t args) = refl
  gives_of (variant t args) = refl
  gives_of (owning_variant t args) = refl

  result_of : (r : Option Ty) → is_host_result (instance p g (Some o)) r ≡ is_host_result g r
  result_of None = refl
  result_of (Some ty) = ap (λ b. is_host_type ty && b) (gives_of ty)

  -- a state that the entry allows is one of the instance's, where a bound entry's object is in the one state
  states_of : (e : Entry) (q : Option Object) → ((b : ℕ) → e.mode ≡ up_to b → (look_in q).state ≡ o) →
      is_object_in (permitted_states p g e e.mode) q ≡ true → is_object_in (permitted_states p (instance p g (Some o)) (made e) (made e).mode) q ≡ true
  states_of e q at t = by e.mode at t
    where
      one : (S : States) (q : Option Object) → (look_in q).state ≡ o → is_object_in S q ≡ true → is_object_in (λ s. s == o && S s) q ≡ true
      one S None at t = cc
      one S (Some x) at t = rw (eq-eqb x.state o at, t) refl

      by : (m : Mode) → ((b : ℕ) → m ≡ up_to b → (look_in q).state ≡ o) → is_object_in (permitted_states p g (record e { mode = m }) m) q ≡ true →
          is_object_in (permitted_states p (instance p g (Some o)) (made (record e { mode = m })) (mode_of_instance m)) q ≡ true
      by kept at t = t
      by taken at t = t
      by given at t = t
      by fresh at t = t
      by (up_to b) at t = one (key_states_up_to p g e.key b) q (at b refl) t

-- ---- what is asked

module _ {p : Program} {i : ℕ} {g : Func} (head : HasHead p g) (typed : IsTyped p g) {os : List Object} (a : HostAgrees p os)
    (args : List Argument) (q : IsAsked p i g args os) (bound : HasBound g) where
  abbrev keys : List ℕ
  keys = host_keys g args os

  -- the state of the bound entry's object
  abbrev pub origin : Option ℕ
  origin = option_map (λ b. state_under keys (host_frame os) os b.key) (bound_in g.clause)

  bound_before : (e : Entry) (b : ℕ) → e.mode ≡ up_to b → is_held_before e ≡ true
  bound_before e b is = ap is_before is

  state_there : (e : Entry) (b : ℕ) → Among e g.clause → e.mode ≡ up_to b →
      state_under keys (host_frame os) os e.key ≡ (look os (caller_key keys e)).state
  state_there e b j is =
      ap (λ k. state_in (option_and_then (slice_get os) (option_and_then (host_key os) k)))
      ((is_call head typed a args q).entries e j) ∙
      (ap (λ n. state_in (option_and_then (slice_get os) n))
      (key_of_held os (caller_key keys e) (entry_held head typed a args q e j (bound_before e b is))) ∙
      found (slice_get os (caller_key keys e)))
    where
      found : (x : Option Object) → state_in x ≡ (look_in x).state
      found None = refl
      found (Some o) = refl

  origin_is : (e : Entry) (b : ℕ) → Among e g.clause → e.mode ≡ up_to b → origin ≡ Some (look os (caller_key keys e)).state
  origin_is e b j is =
      ap (option_map (λ b. state_under keys (host_frame os) os b.key)) (bound.only e b j is) ∙ ap Some (state_there e b j is)

  pub allowed : IsOrigin p g origin
  allowed = by (bound_in g.clause) refl
    where
      by : (x : Option Bound) → bound_in g.clause ≡ x → IsOriginOf p g x (option_map (λ b. state_under keys (host_frame os) os b.key) x)
      by None is = tt
      by (Some x) is =
          let f = bound_entry g.clause x is in
          let s = permitted_state head typed a args q f.entry f.among (bound_before f.entry x.state f.mode) in
          let t = subst (λ m. IsTrue (permitted_states p g f.entry m (look os (caller_key keys f.entry)).state)) f.mode s in
          subst (λ k. IsTrue (key_states_up_to p g k x.state (state_under keys (host_frame os) os k))) f.key
          (subst (λ s. IsTrue (key_states_up_to p g f.entry.key x.state s)) (sym (state_there f.entry x.state f.among f.mode)) t)

  pub plain : bound_in (instance p g origin).clause ≡ None
  plain = by (bound_in g.clause) refl
    where
      by : (x : Option Bound) → bound_in g.clause ≡ x →
          bound_in (instance p g (option_map (λ b. state_under keys (host_frame os) os b.key) x)).clause ≡ None
      by None is = is
      by (Some x) is = instance_plain p g (state_under keys (host_frame os) os x.key)

  -- an origin that is the state of each bound entry's object
  abbrev IsStateOf : Option ℕ → Type 0
  IsStateOf o = (e : Entry) (b : ℕ) → Among e g.clause → e.mode ≡ up_to b → o ≡ Some (look os (caller_key keys e)).state

  pub asked_of : IsAsked p i (instance p g origin) args os
  asked_of = by origin origin_is
    where
      by : (o : Option ℕ) → IsStateOf o → IsAsked p i (instance p g o) args os
      by None is = q
      by (Some o) is = record {
        body = q.body;
        bare = q.bare;
        result = result_of p g o g.result ∙ q.result;
        no_given = no_givens p g o g.clause ∙ q.no_given;
        fit = q.fit;
        one_each = q.one_each;
        apart = subst (λ ks. are_apart ks ≡ true) (sym (befores p g o keys g.clause)) q.apart;
        states = all_so _ (entries_before (instance p g (Some o))) (λ e j.
            let m = among_filtered is_held_before (map (entry_of_instance p g o) g.clause) e j in
            let d = among_made p g o g.clause e m.0 in
            let b = sym (before_of p g o d.0) ∙ (ap is_held_before (sym d.2) ∙ m.1) in
            subst (λ e. is_object_in (permitted_states p (instance p g (Some o)) e e.mode) (slice_get os (stands_for keys e.key)) ≡ true) (sym d.2)
            (states_of p g o d.0 (slice_get os (stands_for keys d.0.key))
            (λ b mode. same_Some (look os (caller_key keys d.0)).state o (sym (is d.0 b d.1 mode)))
            (all_among (λ e. is_object_in (permitted_states p g e e.mode) (slice_get os (stands_for keys e.key))) (entries_before g) q.states d.0
            (filtered_among is_held_before g.clause d.0 d.1 b))));
      }

  -- ---- what is kept

  module _ (o : ℕ) (states : IsStateOf (Some o)) (v : Option Value) (back : List Object) where
    abbrev g' : Func
    g' = instance p g (Some o)

    entry_there : (e : Entry) (n : ℕ) → IsEntryOf g args os e n → IsEntryOf g' args os (made p g o e) n
    entry_there e n x = record {
      among = made_among p g o g.clause e x.among;
      old = is_new_of p g o e ∙ x.old;
      stands = x.stands;
    }

    record Here (e : Entry) (n : ℕ) : Type 0 where
      pub entry : Entry
      pub of : IsEntryOf g args os entry n
      pub is : e ≡ made p g o entry

    entry_here_whole : (e : Entry) (n : ℕ) → IsEntryOf g' args os e n → Here e n
    entry_here_whole e n x =
        let d = among_made p g o g.clause e x.among in
        record {
          entry = d.0;
          of = record {
            among = d.1;
            old = sym (is_new_of p g o d.0) ∙ (ap is_new (sym d.2) ∙ x.old);
            stands = ap (λ e. stands_for keys e.key) (sym d.2) ∙ x.stands;
          };
          is = d.2;
        }

    entry_here : (e : Entry) (n : ℕ) → IsEntryOf g' args os e n → (d : Entry) × IsEntryOf g args os d n
    entry_here e n x = let h = entry_here_whole e n x in (h.entry, h.of)

    taken_there : (n : ℕ) → IsTaken g args os n → IsTaken g' args os n
    taken_there n t = record {
      entry = made p g o t.entry;
      is = entry_there t.entry n t.is;
      taken = taken_of p g o t.entry ∙ t.taken;
    }

    taken_here : (n : ℕ) → IsTaken g' args os n → IsTaken g args os n
    taken_here n t =
        let h = entry_here_whole t.entry n t.is in
        record { entry = h.entry; is = h.of; taken = sym (taken_of p g o h.entry) ∙ (ap is_taken (sym h.is) ∙ t.taken) }

    new_there : (e : Entry) (n : ℕ) → IsNewObject g v e n → IsNewObject g' v (made p g o e) n
    new_there e n x = record {
      among = made_among p g o g.clause e x.among;
      new = is_new_of p g o e ∙ x.new;
      given = x.given;
    }

    new_here : (e : Entry) (n : ℕ) → IsNewObject g' v e n → (d : Entry) × IsNewObject g v d n
    new_here e n x =
        let d = among_made p g o g.clause e x.among in
        (d.0, record { among = d.1; new = sym (is_new_of p g o d.0) ∙ (ap is_new (sym d.2) ∙ x.new); given = x.given })

    left_in : (e : Entry) (n : ℕ) → IsEntryOf g args os e n →
        IsLeftIn p g' (made p g o e) (made p g o e).mode (look os n).state (look back n).state →
        IsLeftIn p g e e.mode (look os n).state (look back n).state
    left_in e n x = by_mode e.mode refl
      where
        by_mode : (m : Mode) → e.mode ≡ m →
            IsLeftIn p g' (made p g o (record e { mode = m })) (mode_of_instance m) (look os n).state (look back n).state →
            IsLeftIn p g (record e { mode = m }) m (look os n).state (look back n).state
        by_mode kept m t = t
        by_mode taken m t = t
        by_mode given m t = t
        by_mode fresh m t = t
        by_mode (up_to b) m t =
            let both = both_so ((look back n).state == o) (key_states_up_to p g e.key b (look back n).state) t in
            eqb-true (look back n).state o both.0 ∙
            (same_Some o (look os (caller_key keys e)).state (states e b x.among m) ∙ ap (λ n. (look os n).state) x.stands)

    new_in : (e : Entry) (n : ℕ) → IsNewObject g v e n → IsTrue (after_set p g' (made p g o e) (look back n).state) →
        IsTrue (after_set p g e (look back n).state)
    new_in e n x = by_mode e.mode x.new
      where
        by_mode : (m : Mode) → is_new (record e { mode = m }) ≡ true →
            IsTrue (after_set p g' (made p g o (record e { mode = m })) (look back n).state) →
            IsTrue (after_set p g (record e { mode = m }) (look back n).state)
        by_mode kept m t = t
        by_mode taken m t = t
        by_mode given m t = t
        by_mode fresh m t = t
        by_mode (up_to b) m t = cc

    kept_some : ChangesByClause p g' args v os back → ChangesByClause p g args v os back
    kept_some c = record {
      held = λ n h. ⊎_elim
          (λ k. inl (k.0, λ t. k.1 (taken_there n t)))
          (λ e. let d = new_here e.0 n e.1 in inr (d.0, d.1))
          (c.held n h);
      keeps = λ n h free. c.keeps n h (λ t. free (taken_here n t));
      gets = λ e n new. c.gets (made p g o e) n (new_there e n new);
      made = λ e j new.
          let m = c.made (made p g o e) (made_among p g o g.clause e j) (is_new_of p g o e ∙ new) in
          (m.0, record { among = j; new = new; given = m.1.given });
      states = λ e n x after.
          left_in e n x (c.states (made p g o e) n (entry_there e n x) (after_of p g o e ∙ after));
      new_states = λ e n new. new_in e n new (c.new_states (made p g o e) n (new_there e n new));
      others = λ n h none. c.others n h (λ e x. let d = entry_here e n x in none d.0 d.1);
    }

  pub kept_of : (v : Option Value) (back : List Object) → ChangesByClause p (instance p g origin) args v os back → ChangesByClause p g args v os back
  kept_of v back = by origin origin_is
    where
      by : (o : Option ℕ) → IsStateOf o → ChangesByClause p (instance p g o) args v os back → ChangesByClause p g args v os back
      by None is c = c
      by (Some o) is c = kept_some o is v back c
