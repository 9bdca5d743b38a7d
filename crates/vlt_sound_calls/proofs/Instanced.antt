-- What is known of a function without a run is known of its instances.
use Rattle.std.proofs.Common.{◌≡◌, inl, inr, ⊎_elim, ℕ, zero, suc, ◌==◌, ◌&&◌, Bool, true, false, IsTrue, List, [], ◌∷◌, map, Option, Some, None, refl, sym, ap, ◌∙◌, subst, slice_get}
use Rattle.std.specs.List.{list_any, filter_map, enumerate_from}
use Rattle.std.proofs.lemmas.Option.{none-some, same_Some}
use Rattle.vlt_core.specs.Core.{Ty, tracked, CaseKey, CaseDecl, Mode, kept, taken, given, fresh, up_to, Entry, Operand, Func, Program}
use Rattle.vlt_core.specs.Lookups.{var_type, is_fresh, is_new, key_type, after_set, every_state, all_states, key_states_up_to}
use Rattle.vlt_core.specs.Instances.{mode_of_instance, entry_of_instance, instance}
use Rattle.vlt_core.specs.KindedHeads.{when_some, has, keys_of_parameters, are_apart, tracked_keys}
use Rattle.vlt_core.specs.KindedScopes.{Ids}
use Rattle.vlt_core.specs.KindedCalls.{is_fresh_call, keys_fit, clause_keys_broken, caller_keys_broken, caller_type, result_misfit, result_broken_by, call_target_broken, with_call_target, call_broken}
use Rattle.vlt_core_laws.proofs.Instanced.{new_keys_same, clause_keys_same, head_keys_same}
use Rattle.vlt_sound_worlds.specs.Typed.{IsTyped}
use Rattle.vlt_sound_calls.specs.Heads.{IsNewKey, HasHead}
use Rattle.vlt_sound_calls.specs.Meet.{KeysMeet}
use Rattle.vlt_sound_calls.specs.Among.{Among}
use Rattle.vlt_sound_calls.specs.ReturnHeads.{IsHostKey, IsHostCase, HasHostHead}

-- ---- entries

pub is_new_of : (p : Program) (f : Func) (o : ℕ) (e : Entry) → is_new (entry_of_instance p f o e) ≡ is_new e
is_new_of p f o e = by e.mode
  where
    by : (m : Mode) → is_fresh (mode_of_instance m) ≡ is_fresh m
    by kept = refl
    by taken = refl
    by given = refl
    by fresh = refl
    by (up_to b) = refl

-- an entry of an instance is made of one of the function
pub record OfEntry (p : Program) (f : Func) (o : Option ℕ) (e : Entry) : Type 0 where
  pub entry : Entry
  pub key : e.key ≡ entry.key
  pub new : is_new e ≡ is_new entry

-- what an entry of an instance is made of
abbrev pub OfInstance : Program → Func → Option ℕ → (d e : Entry) → Type 0
OfInstance p f None d e = e ≡ d
OfInstance p f (Some o) d e = e ≡ entry_of_instance p f o d

module _ (p : Program) (f : Func) where
  pub entry_at : (o : Option ℕ) (i : ℕ) (e : Entry) → slice_get (instance p f o).clause i ≡ Some e →
      (d : OfEntry p f o e) × (slice_get f.clause i ≡ Some d.entry)
  entry_at None i e at = (record { entry = e; key = refl; new = refl }, at)
  entry_at (Some o) i e at = by f.clause i at
    where
      by : (es : List Entry) (i : ℕ) → slice_get (map (entry_of_instance p f o) es) i ≡ Some e →
          (d : OfEntry p f (Some o) e) × (slice_get es i ≡ Some d.entry)
      by [] i at = absurd (none-some e at)
      by (x ∷ es) zero at =
          let same = same_Some (entry_of_instance p f o x) e at in
          (record { entry = x; key = ap (λ e. e.key) (sym same); new = ap is_new (sym same) ∙ is_new_of p f o x }, refl)
      by (x ∷ es) (suc i) at = by es i at

  -- ---- heads

  pub typed_instance : (o : Option ℕ) → IsTyped p f → IsTyped p (instance p f o)
  typed_instance o t = record {
    limited = t.limited;
    sets = t.sets;
    vars = t.vars;
    fields = t.fields;
    variants = t.variants;
    field_variants = t.field_variants;
    keys = t.keys;
    heads = t.heads;
  }

  new_key_instance : (o : Option ℕ) (k : ℕ) → IsNewKey f k → IsNewKey (instance p f o) k
  new_key_instance o k n = record { type = n.type; args = n.args; is = n.is; not_args = n.not_args; not_vars = n.not_vars }

  pub head_instance : (o : Option ℕ) → HasHead p f → HasHead p (instance p f o)
  head_instance o h = record {
    params = h.params;
    numbers = λ k e. h.numbers k (subst (λ ks. has ks k ≡ true) (head_keys_same p f o) e);
    apart = subst (λ ks. are_apart ks ≡ true) (sym (clause_keys_same p f o)) h.apart;
    entries = λ i e at.
        let d = entry_at o i e at in
        ⊎_elim (λ n. inl (d.0.new ∙ n)) (λ k. inr (subst (λ k. has (keys_of_parameters f) k ≡ true) (sym d.0.key) k)) (h.entries i d.0.entry d.1);
    new = λ i e at n.
        let d = entry_at o i e at in
        subst (IsNewKey (instance p f o)) (sym d.0.key) (new_key_instance o d.0.entry.key (h.new i d.0.entry d.1 (sym d.0.new ∙ n)));
    result = λ k i. ⊎_elim (λ n. inl (subst (λ ks. has ks k ≡ true) (sym (new_keys_same p f o)) n)) (λ q. inr q) (h.result k i);
    result_variants = h.result_variants;
    given = h.given;
  }

  -- ---- calls

  pub meet_instance : (c : Func) (o : Option ℕ) → KeysMeet p c f → KeysMeet p c (instance p f o)
  meet_instance c o m = record { types = m.types }

  fresh_same : (o : Option ℕ) → is_fresh_call (instance p f o) ≡ is_fresh_call f
  fresh_same None = refl
  fresh_same (Some o) = by f.clause
    where
      by : (es : List Entry) → list_any is_new (map (entry_of_instance p f o) es) ≡ list_any is_new es
      by [] = refl
      by (x ∷ es) = rw (is_new_of p f o x, by es) refl

  caller_keys_of : (o : Option ℕ) (keys : List ℕ) → filter_map (λ e. slice_get keys e.key) (instance p f o).clause ≡ filter_map (λ e. slice_get keys e.key) f.clause
  caller_keys_of None keys = refl
  caller_keys_of (Some o) keys = by f.clause
    where
      by : (es : List Entry) → filter_map (λ e. slice_get keys e.key) (map (entry_of_instance p f o) es) ≡ filter_map (λ e. slice_get keys e.key) es
      by [] = refl
      by (x ∷ es) = rw (by es) refl

  keys_fit_same : (o : Option ℕ) (keys : List ℕ) → keys_fit (instance p f o) keys ≡ keys_fit f keys
  keys_fit_same o keys = rw (new_keys_same p f o) refl

  clause_same : (o : Option ℕ) (keys : List ℕ) → clause_keys_broken (instance p f o) keys ≡ clause_keys_broken f keys
  clause_same o keys = rw (caller_keys_of o keys) refl

  caller_same : (c : Func) (ids : Ids) (o : Option ℕ) (qs : List (ℕ × ℕ)) → caller_keys_broken c ids (instance p f o) qs ≡ caller_keys_broken c ids f qs
  caller_same c ids o [] = refl
  caller_same c ids o (q ∷ qs) = rw (new_keys_same p f o, caller_same c ids o qs) refl

  misfit_same : (o : Option ℕ) (w t : Ty) → result_misfit (instance p f o) w t ≡ result_misfit f w t
  misfit_same o w t = rw (fresh_same o) refl

  result_same : (o : Option ℕ) (keys : List ℕ) (r t : Option Ty) → result_broken_by (instance p f o) keys r t ≡ result_broken_by f keys r t
  result_same o keys None t = refl
  result_same o keys (Some w) None = refl
  result_same o keys (Some w) (Some t) = ap (λ go. when_some (caller_type keys w) go) (λ i w. misfit_same o w t i)

  target_same : (c : Func) (ids : Ids) (o : Option ℕ) (keys : List ℕ) (target : Option ℕ) →
      call_target_broken c ids (instance p f o) keys target ≡ call_target_broken c ids f keys target
  target_same c ids o keys None = rw (fresh_same o) refl
  target_same c ids o keys (Some v) = rw (result_same o keys f.result (var_type c v), fresh_same o) refl

  pub callee_same : (c : Func) (ids : Ids) (o : Option ℕ) (target : Option ℕ) (keys : List ℕ) (args : List Operand) →
      call_broken p c ids (Some (instance p f o)) target keys args ≡ call_broken p c ids (Some f) target keys args
  callee_same c ids o target keys args =
      rw (keys_fit_same o keys, clause_same o keys, caller_same c ids o (enumerate_from 0 keys), target_same c ids o keys target) refl

  pub with_target_same : (c : Func) (o : Option ℕ) (target : Option ℕ) (ids : Ids) →
      with_call_target c (Some (instance p f o)) target ids ≡ with_call_target c (Some f) target ids
  with_target_same c o None ids = refl
  with_target_same c o (Some v) ids = rw (fresh_same o) refl

  -- ---- externals

  among_instance : (o : Option ℕ) (e : Entry) → Among e (instance p f o).clause → (d : Entry) × Among d f.clause × (OfInstance p f o d e)
  among_instance None e i = (e, i, refl)
  among_instance (Some o) e i = by f.clause i
    where
      by : (es : List Entry) → Among e (map (entry_of_instance p f o) es) → (d : Entry) × Among d es × (e ≡ entry_of_instance p f o d)
      by [] i = absurd i
      by (x ∷ es) (inl same) = (x, inl refl, same)
      by (x ∷ es) (inr rest) = let d = by es rest in (d.0, inr d.1, d.2)

  of_key : (o : Option ℕ) (d e : Entry) → OfInstance p f o d e → e.key ≡ d.key
  of_key None d e same = ap (λ e. e.key) same
  of_key (Some o) d e same = ap (λ e. e.key) same

  of_new : (o : Option ℕ) (d e : Entry) → OfInstance p f o d e → is_new e ≡ is_new d
  of_new None d e same = ap is_new same
  of_new (Some o) d e same = ap is_new same ∙ is_new_of p f o d

  -- the states after a call are those of the function's entry, or one of the key's type
  after_of : (o : Option ℕ) (d e : Entry) (t s : ℕ) → OfInstance p f o d e → key_type f d.key ≡ Some t →
      (IsTrue (after_set p f d s) → IsTrue (all_states p t s)) → IsTrue (after_set p (instance p f o) e s) → IsTrue (all_states p t s)
  after_of None d e t s same typed was is = was (subst (λ e. IsTrue (after_set p f e s)) same is)
  after_of (Some o) d e t s same typed was is = by d.mode was (subst (λ e. IsTrue (after_set p (instance p f (Some o)) e s)) same is)
    where
      within : (b : ℕ) → IsTrue (s == o && key_states_up_to p f d.key b s) → IsTrue (all_states p t s)
      within b e = let q = rw typed at e in both_left (all_states p t s) _ (both_right (every_state s) _ (both_right (s == o) _ q))
        where
          both_left : (a b : Bool) → IsTrue (a && b) → IsTrue a
          both_left true b e = refl
          both_left false b e = cc

          both_right : (a b : Bool) → IsTrue (a && b) → IsTrue b
          both_right true b e = e
          both_right false b e = cc

      by : (m : Mode) → (IsTrue (after_set p f (record d { mode = m }) s) → IsTrue (all_states p t s)) →
          IsTrue (after_set p (instance p f (Some o)) (entry_of_instance p f o (record d { mode = m })) s) → IsTrue (all_states p t s)
      by kept was is = was is
      by taken was is = was is
      by given was is = was is
      by fresh was is = was is
      by (up_to b) was is = within b is

  host_key : (o : Option ℕ) (t : ℕ) (args : List ℕ) (k : CaseKey) → IsHostKey p f t args k → IsHostKey p (instance p f o) t args k
  host_key o t args k h = record { key = h.key; is = h.is; known = h.known; of = h.of; header = h.header; typed = h.typed; states = h.states }

  host_case : (o : Option ℕ) (t : ℕ) (args : List ℕ) (d : CaseDecl) → IsHostCase p f t args d → IsHostCase p (instance p f o) t args d
  host_case o t args d h = record { payload = h.payload; keys = λ i k at. host_key o t args k (h.keys i k at) }

  pub host_instance : (o : Option ℕ) → HasHostHead p f → HasHostHead p (instance p f o)
  host_instance o h = record {
    known = λ e i old.
        let d = among_instance o e i in
        subst (λ k. has (tracked_keys f) k ≡ true) (sym (of_key o d.0 e d.2)) (h.known d.0 d.1 (λ n. old (of_new o d.0 e d.2 ∙ n)));
    typed = h.typed;
    after = λ e t s i typed is.
        let d = among_instance o e i in
        let own : key_type f d.0.key ≡ Some t = subst (λ k. key_type f k ≡ Some t) (of_key o d.0 e d.2) typed in
        after_of o d.0 e t s d.2 own (h.after d.0 t s d.1 own) is;
    fresh = λ e t args i n r.
        let d = among_instance o e i in
        let k = of_key o d.0 e d.2 in
        subst (λ k. key_type f k ≡ Some t) (sym k)
        (h.fresh d.0 t args d.1 (sym (of_new o d.0 e d.2) ∙ n) (subst (λ k. f.result ≡ Some (tracked k t args)) k r));
    references = λ k t args r.
        let q = h.references k t args r in
        (subst (λ ks. has ks k ≡ true) (sym (new_keys_same p f o)) q.0, q.1);
    unguarded = h.unguarded;
    owned = h.owned;
    cases = λ t c args d v at. host_case o t args d (h.cases t c args d v at);
  }
