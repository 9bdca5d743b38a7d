-- A call that is permitted is a call from the host: its keys fit the callee's head, and its values are handed over.
use Rattle.std.proofs.Common.{◌≡◌, inl, inr, ⊎_elim, ℕ, zero, suc, ◌==◌, ◌<◌, Bool, true, false, ◌&&◌, not, if◌then◌else◌, IsTrue, List, [], ◌∷◌, ◌++◌, map, length, take, Option, Some, None, refl, sym, ap, ◌∙◌, subst, arith, slice_get}
use Rattle.std.proofs.lemmas.Bool.{cases_Bool, eqb-true, ltb-true, ltb-false}
use Rattle.std.proofs.lemmas.List.{length-map}
use Rattle.std.proofs.lemmas.Option.{none-some, same_Some, slice_get-get_or}
use Rattle.std.specs.List.{list_all, flat_map}
use Rattle.std.specs.Option.{option_map}
use Rattle.vlt_core.specs.Core.{States, Ty, tracked, VarDecl, Mode, kept, taken, given, fresh, up_to, a_key, Entry, Func, Program}
use Rattle.vlt_core.specs.Lookups.{key_type, states_or_all, before_set, is_before, is_fresh, is_held_before, is_new}
use Rattle.vlt_core.specs.Instances.{bound_in}
use Rattle.vlt_core.specs.Types.{keys_of_ty, stands_for, with_keys}
use Rattle.vlt_core.specs.Maps as maps
use Rattle.vlt_core.specs.Maps.{held, HeldMap, kind_of, IsWanted, row_passed, CanPass}
use Rattle.vlt_core.specs.Rows.{on_option, held_in, entry_wanted, entry_row, clause_rows}
use Rattle.vlt_core.specs.KindedHeads.{parameters_of, keys_of_parameters, keys_of_result}
use Rattle.vlt_meaning.specs.World.{Value, Object}
use Rattle.vlt_meaning.specs.Externals.{is_given}
use Rattle.vlt_sound_worlds.specs.Look.{look, look_in}
use Rattle.vlt_sound_worlds.proofs.Empty.{both_so}
use Rattle.vlt_sound_worlds.proofs.Rows.{row_other}
use Rattle.vlt_sound_worlds.proofs.Leaving.{key_same}
use Rattle.vlt_sound_worlds.specs.Agrees.{Agrees}
use Rattle.vlt_sound_worlds.specs.Typed.{IsTyped}
use Rattle.vlt_sound_worlds.specs.Handed.{handed_values}
use Rattle.vlt_sound_worlds.proofs.Starting.{has_left, has_right, has_in}
use Rattle.vlt_sound_worlds.specs.Members.{In}
use Rattle.vlt_sound_worlds.proofs.Members.{in_left, in_right}
use Rattle.vlt_sound_calls.specs.Heads.{HasHead}
use Rattle.vlt_sound_calls.specs.Callee.{AreApartBy, caller_key, IsParamKey, IsCall}
use Rattle.vlt_sound_calls.specs.Among.{Among}
use Rattle.vlt_sound_calls.proofs.Entries.{same_entry}
use Rattle.vlt_sound_calls.proofs.Pairs.{filtered_among}
use Rattle.vlt_sound_calls.proofs.LeavingLaws.{entry_has}
use Rattle.vlt_sound_calls.proofs.Statics.{apart_by, among_at, param_not_new}
use Rattle.vlt_sound_calls.proofs.ClauseRows.{AreThere}
use Rattle.vlt_host_meaning.specs.Calls.{Argument, value_of_argument}
use Rattle.vlt_host_meaning.specs.HostFrame.{host_holds, host_frame}
use Rattle.vlt_host_meaning.specs.Permitted.{argument_bindings, object_of_key, or_unused, host_keys, entries_before, permitted_states, is_object_in}
use Rattle.vlt_host_laws.proofs.Ranges.{mapped_at, mapped_length, mapped_past}
use Rattle.vlt_host_laws.proofs.HostAsCaller.{holds_within, not_past, host_func, host_ids, host_map, host_context, holds_scope, key_type_is}
use Rattle.vlt_host_laws.proofs.HostAgrees.{HostAgrees, host_agrees, host_typed, status_held, status_absent}
use Rattle.vlt_host_laws.proofs.Unbound.{not_bound}
use Rattle.vlt_host_laws.proofs.Arguments.{IsAsked, IsGivenFor, object_given, key_given, args_long, values_bare, values_fit}

-- ---- lists

pub all_among : (test : Entry → Bool) (es : List Entry) → list_all test es ≡ true → (e : Entry) → Among e es → test e ≡ true
all_among test [] all e i = absurd i
all_among test (x ∷ es) all e i =
    let both = both_so (test x) (list_all test es) all in
    ⊎_elim (λ same. ap test same ∙ both.0) (λ rest. all_among test es both.1 e rest) i

-- entries with different keys, of which none have the same key here either
apart_too : (at : Entry → ℕ) (es : List Entry) → AreApartBy (λ e. e.key) es →
    ((d e : Entry) → Among d es → Among e es → at d ≡ at e → d.key ≡ e.key) → AreApartBy at es
apart_too at [] apart same = tt
apart_too at (x ∷ es) apart same =
    (λ d i e. apart.0 d i (same d x (inr i) (inl refl) e), apart_too at es apart.1 (λ d e i j. same d e (inr i) (inr j)))

taken_at : (n : ℕ) (ds : List VarDecl) (v : ℕ) (ty : Ty) → slice_get (map (λ d. d.ty) (take n ds)) v ≡ Some ty →
    option_map (λ d. d.ty) (slice_get ds v) ≡ Some ty
taken_at zero ds v ty e = absurd (none-some ty e)
taken_at (suc n) [] v ty e = absurd (none-some ty e)
taken_at (suc n) (d ∷ ds) zero ty e = e
taken_at (suc n) (d ∷ ds) (suc v) ty e = taken_at n ds v ty e

keyed_at : (tys : List Ty) (v k t : ℕ) → slice_get tys v ≡ Some (tracked k t []) → In k (flat_map keys_of_ty tys)
keyed_at [] v k t e = absurd (none-some (tracked k t []) e)
keyed_at (x ∷ tys) zero k t e =
    in_left k (keys_of_ty x) (flat_map keys_of_ty tys)
    (subst (λ y. In k (keys_of_ty y)) (sym (same_Some x (tracked k t []) e)) (inl refl))
keyed_at (x ∷ tys) (suc v) k t e = in_right k (keys_of_ty x) (flat_map keys_of_ty tys) (keyed_at tys v k t e)

-- each row wants what the map has, and they are of different keys
rows_pass : (p : Program) (f : Func) (keys : List ℕ) (es : List Entry) → AreThere keys es → AreApartBy (caller_key keys) es →
    (h : HeldMap) → ((e : Entry) → Among e es → IsWanted (entry_wanted e) (h (a_key (caller_key keys e)))) →
    CanPass (clause_rows p f keys es) h
rows_pass p f keys [] there apart h wanted = tt
rows_pass p f keys (x ∷ es) there apart h wanted =
    let first : clause_rows p f keys (x ∷ es) ≡ entry_row p f (caller_key keys x) x ∷ clause_rows p f keys es =
    ap (λ o. on_option o (λ k. entry_row p f k x ∷ []) ++ clause_rows p f keys es) (there x (inl refl)) in
    subst (λ rs. CanPass rs h) (sym first) (
      wanted x (inl refl),
      rows_pass p f keys es (λ e i. there e (inr i)) apart.1 (row_passed (entry_row p f (caller_key keys x) x) h) (λ e i.
          subst (IsWanted (entry_wanted e))
          (sym (row_other (entry_row p f (caller_key keys x) x) h (a_key (caller_key keys e)) (λ same. apart.0 e i (key_same same))))
          (wanted e (inr i))),
    )

pub before_not_new : (e : Entry) → is_held_before e ≡ true → is_new e ≡ true → ⊥
before_not_new e b n = by e.mode b n
  where
    by : (m : Mode) → is_before m ≡ true → is_fresh m ≡ true → ⊥
    by kept b n = cc
    by taken b n = cc
    by given b n = cc
    by fresh b n = cc
    by (up_to b) x n = cc

module _ {p : Program} {i : ℕ} {g : Func} (head : HasHead p g) (typed : IsTyped p g) {os : List Object} (a : HostAgrees p os)
    (args : List Argument) (q : IsAsked p i g args os) where
  abbrev pub keys : List ℕ
  keys = host_keys g args os

  abbrev pub F : Func
  F = host_func os

  there_at : (k : ℕ) → k < length g.keys → slice_get keys k ≡ Some (or_unused (length os) (object_of_key (argument_bindings (parameters_of g) args) k))
  there_at k lt = mapped_at (λ k. or_unused (length os) (object_of_key (argument_bindings (parameters_of g) args) k)) (length g.keys) k lt

  keys_long : length keys ≡ length g.keys
  keys_long = mapped_length (λ k. or_unused (length os) (object_of_key (argument_bindings (parameters_of g) args) k)) (length g.keys)

  there : (k : ℕ) → k < length g.keys → slice_get keys k ≡ Some (stands_for keys k)
  there k lt = let l = keys_long in slice_get-get_or keys k 0 (omega arith)

  stands_at : (k : ℕ) → k < length g.keys → stands_for keys k ≡ or_unused (length os) (object_of_key (argument_bindings (parameters_of g) args) k)
  stands_at k lt = same_Some (stands_for keys k) (or_unused (length os) (object_of_key (argument_bindings (parameters_of g) args) k)) (sym (there k lt) ∙ there_at k lt)

  param_within : (k : ℕ) → IsParamKey g k → k < length g.keys
  param_within k param =
      ltb-true k (length g.keys) (head.numbers k
      (has_left k (keys_of_result g ++ keys_of_parameters g) (map (λ e. e.key) g.clause)
      (has_right k (keys_of_result g) (keys_of_parameters g) param)))

  entry_within : (e : Entry) → Among e g.clause → e.key < length g.keys
  entry_within e j =
      ltb-true e.key (length g.keys) (head.numbers e.key
      (has_right e.key (keys_of_result g ++ keys_of_parameters g) (map (λ e. e.key) g.clause) (entry_has g.clause e j)))

  given_for : (k n : ℕ) → object_of_key (argument_bindings (parameters_of g) args) k ≡ Some n → IsGivenFor os (parameters_of g) k n
  given_for k n e = object_given os (parameters_of g) args q.fit q.bare k n e

  given_param : (k n : ℕ) → object_of_key (argument_bindings (parameters_of g) args) k ≡ Some n → IsParamKey g k
  given_param k n e =
      let r = given_for k n e in has_in k (keys_of_parameters g) (keyed_at (parameters_of g) r.position k r.type r.param)

  stands_given : (k n : ℕ) → object_of_key (argument_bindings (parameters_of g) args) k ≡ Some n → stands_for keys k ≡ n
  stands_given k n e = stands_at k (param_within k (given_param k n e)) ∙ ap (or_unused (length os)) e

  -- what stands for a key of the parameters
  pub record Stands (k : ℕ) : Type 0 where
    pub number : ℕ
    pub is : stands_for keys k ≡ number
    pub given : IsGivenFor os (parameters_of g) k number

  pub stands : (k : ℕ) → IsParamKey g k → Stands k
  stands k param =
      let r = key_given os (parameters_of g) args q.fit q.bare k param in
      record { number = r.0; is = stands_given k r.0 r.1; given = given_for k r.0 r.1 }

  pub stands_held : (k : ℕ) → IsParamKey g k → host_holds os (stands_for keys k) ≡ true
  stands_held k param = let s = stands k param in subst (λ n. host_holds os n ≡ true) (sym s.is) s.given.holds

  -- ---- entries

  pub before_param : (e : Entry) → Among e g.clause → is_new e ≡ false → IsParamKey g e.key
  before_param e j old =
      let at = among_at g.clause e j in
      ⊎_elim (λ new. absurd (clash (sym old ∙ new))) (λ param. param) (head.entries at.0 e at.1)
    where
      clash : false ≡ true → ⊥
      clash e = cc

  not_so : (b : Bool) → (b ≡ true → ⊥) → b ≡ false
  not_so true off = absurd (off refl)
  not_so false off = refl

  pub before_old : (e : Entry) → is_held_before e ≡ true → is_new e ≡ false
  before_old e b = not_so (is_new e) (before_not_new e b)

  pub new_or_before : (e : Entry) → Among e g.clause → is_held_before e ≡ false → is_new e ≡ true
  new_or_before e j b = by (is_new e) refl
    where
      clash : false ≡ true → ⊥
      clash e = cc

      by : (n : Bool) → is_new e ≡ n → n ≡ true
      by true n = refl
      by false n =
          let ok = all_among (λ e. not (is_given e)) g.clause q.no_given e j in
          absurd (clash (sym (ap not (ap (λ b. not b && not (is_new e)) b ∙ ap not n)) ∙ ok))

  pub entry_held : (e : Entry) → Among e g.clause → is_held_before e ≡ true → host_holds os (caller_key keys e) ≡ true
  entry_held e j b = stands_held e.key (before_param e j (before_old e b))

  -- no object stands for a new key
  new_spare : (e : Entry) → Among e g.clause → is_new e ≡ true → caller_key keys e ≡ length os
  new_spare e j new = by (object_of_key (argument_bindings (parameters_of g) args) e.key) refl
    where
      by : (o : Option ℕ) → object_of_key (argument_bindings (parameters_of g) args) e.key ≡ o → caller_key keys e ≡ length os
      by None o = stands_at e.key (entry_within e j) ∙ ap (or_unused (length os)) o
      by (Some n) o =
          let at = among_at g.clause e j in
          let r = given_for e.key n o in
          absurd ((head.new at.0 e at.1 new).not_vars r.position (tracked e.key r.type [])
          (taken_at g.params g.vars r.position (tracked e.key r.type []) r.param) (inl refl))

  one_new : (d e : Entry) → Among d g.clause → Among e g.clause → is_new d ≡ true → is_new e ≡ true → d.key ≡ e.key
  one_new d e i j m n =
      let x = among_at g.clause d i in
      let y = among_at g.clause e j in
      let b = head.new x.0 d x.1 m in
      let c = head.new y.0 e y.1 n in
      same_tracked d.key e.key b.type c.type b.args c.args
      (same_Some (tracked d.key b.type b.args) (tracked e.key c.type c.args) (sym b.is ∙ c.is))
    where
      same_tracked : (k j t u : ℕ) (args others : List ℕ) → tracked k t args ≡ tracked j u others → k ≡ j
      same_tracked k j t u args others e = cc

  callers_apart : AreApartBy (caller_key keys) g.clause
  callers_apart =
      apart_too (caller_key keys) g.clause (apart_by (λ e. e.key) g.clause head.apart) (λ d e i j same. ⊎_elim
      (λ bd. ⊎_elim
      (λ be. ap (λ e. e.key) (same_entry (caller_key keys) (entries_before g) (apart_by (caller_key keys) (entries_before g) q.apart) d e (filtered_among is_held_before g.clause d i bd) (filtered_among is_held_before g.clause e j be) same))
      (λ be. absurd (held_spare d e i j bd be same))
      (cases_Bool (is_held_before e)))
      (λ bd. ⊎_elim
      (λ be. absurd (held_spare e d j i be bd (sym same)))
      (λ be. one_new d e i j (new_or_before d i bd) (new_or_before e j be))
      (cases_Bool (is_held_before e)))
      (cases_Bool (is_held_before d)))
    where
      held_spare : (d e : Entry) → Among d g.clause → Among e g.clause → is_held_before d ≡ true → is_held_before e ≡ false →
          caller_key keys d ≡ caller_key keys e → ⊥
      held_spare d e i j bd be same =
          let lt = holds_within os (caller_key keys d) (entry_held d i bd) in
          let spare = new_spare e j (new_or_before e j be) in
          absurd (omega arith)

  pub is_call : IsCall p F g (host_ids os) keys
  is_call = record {
    entries = λ e j. there e.key (entry_within e j);
    params = λ k param. there k (param_within k param);
    old = λ k param. param_not_new head k param;
    beyond = λ k past. mapped_past (λ k. or_unused (length os) (object_of_key (argument_bindings (parameters_of g) args) k)) (length g.keys) k (ltb-false k (length g.keys) past);
    before = λ e j b. before_param e j (before_old e b);
    apart = apart_by (λ e. e.key) g.clause head.apart;
    callers = callers_apart;
    scoped = λ k param. holds_scope os (stands_for keys k) (stands_held k param);
    typed = λ k t param type.
        let s = stands k param in
        let known = typed.keys s.given.position k s.given.type [] (taken_at g.params g.vars s.given.position (tracked k s.given.type []) s.given.param) in
        subst (λ n. key_type F n ≡ Some t) (sym s.is)
        (key_type_is os s.number (holds_within os s.number s.given.holds) ∙ (ap Some s.given.typed ∙ (sym known ∙ type)));
  }

  -- ---- the clause's rows

  pub permitted_state : (e : Entry) → Among e g.clause → is_held_before e ≡ true →
      IsTrue (permitted_states p g e e.mode (look os (caller_key keys e)).state)
  permitted_state e j b =
      of_object (slice_get os (caller_key keys e))
      (all_among (λ e. is_object_in (permitted_states p g e e.mode) (slice_get os (stands_for keys e.key))) (entries_before g) q.states e
      (filtered_among is_held_before g.clause e j b))
    where
      of_object : (o : Option Object) → is_object_in (permitted_states p g e e.mode) o ≡ true → IsTrue (permitted_states p g e e.mode (look_in o).state)
      of_object None t = cc
      of_object (Some o) t = t

  entry_state : bound_in g.clause ≡ None → (e : Entry) → Among e g.clause → is_held_before e ≡ true →
      IsTrue (before_set p g e (look os (caller_key keys e)).state)
  entry_state plain e j b = by e.mode refl (permitted_state e j b)
    where
      by : (m : Mode) → e.mode ≡ m → IsTrue (permitted_states p g e m (look os (caller_key keys e)).state) →
          IsTrue (before_set p g e (look os (caller_key keys e)).state)
      by kept is t = t
      by taken is t = t
      by given is t = t
      by fresh is t = t
      by (up_to x) is t = absurd (not_bound g.clause plain e x j is)

  wanted : bound_in g.clause ≡ None → (e : Entry) → Among e g.clause →
      IsWanted (entry_wanted e) (host_map os (a_key (caller_key keys e)))
  wanted plain e j = ⊎_elim
      (λ b. subst (λ c. IsWanted (if c then held_in e.before else maps.wants_absent) (host_map os (a_key (caller_key keys e)))) (sym b)
      (subst (IsWanted (held_in e.before)) (sym (status_held a (caller_key keys e) (entry_held e j b)))
      (by e.before (entry_state plain e j b))))
      (λ b. subst (λ c. IsWanted (if c then held_in e.before else maps.wants_absent) (host_map os (a_key (caller_key keys e)))) (sym b)
      (ap kind_of (status_absent a (caller_key keys e)
      (let spare = new_spare e j (new_or_before e j b) in not_past os (caller_key keys e) (omega arith)))))
      (cases_Bool (is_held_before e))
    where
      by : (o : Option States) → IsTrue (states_or_all p g e.key o (look os (caller_key keys e)).state) →
          IsWanted (held_in o) (held (λ s. s == (look os (caller_key keys e)).state))
      by None t = refl
      by (Some S) t = (
        refl,
        record { each = λ s same. subst (λ x. IsTrue (S x)) (sym (eqb-true s (look os (caller_key keys e)).state same)) t },
      )

  pub passes : bound_in g.clause ≡ None → CanPass (clause_rows p F keys g.clause) (host_map os)
  passes plain = rows_pass p F keys g.clause (λ e j. there e.key (entry_within e j)) callers_apart (host_map os) (wanted plain)

  -- ---- the values

  abbrev pub values : List Value
  values = map value_of_argument args

  pub values_long : length values ≡ length (map (with_keys keys) (parameters_of g))
  values_long =
      length-map args value_of_argument ∙ (args_long os (parameters_of g) args q.fit ∙ sym (length-map (parameters_of g) (with_keys keys)))

  pub before_call : Agrees p F (host_context os) (host_map os) (host_ids os) (handed_values (map (with_keys keys) (parameters_of g)) values) (host_frame os) os
  before_call =
      host_agrees a (handed_values (map (with_keys keys) (parameters_of g)) values)
      (values_bare os (map (with_keys keys) (parameters_of g)) args)
      (values_fit a keys (argument_bindings (parameters_of g) args) stands_given (parameters_of g) args q.fit q.bare q.one_each)

  pub host_is_typed : IsTyped p F
  host_is_typed = host_typed a g typed
