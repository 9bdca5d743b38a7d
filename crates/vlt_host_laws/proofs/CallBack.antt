-- A host's call came back: what is so of the objects, and what the host holds.
use Rattle.std.proofs.Common.{◌≡◌, ◌⊎◌, inl, inr, ⊎_elim, ℕ, ◌==◌, ◌<◌, ◌≤◌, nat_lt, Bool, true, false, ◌&&◌, ◌||◌, not, if◌then◌else◌, IsTrue, List, [], ◌∷◌, map, length, Option, Some, None, refl, sym, ap, ◌∙◌, subst, arith}
use Rattle.std.proofs.lemmas.Bool.{cases_Bool, cases_eq, eqb-true}
use Rattle.std.proofs.lemmas.Option.{same_Some}
use Rattle.vlt_core.specs.Core.{Ty, int, bool, tracked, owning, guarded, variant, owning_variant, Mode, kept, taken, given, fresh, up_to, a_key, Entry, Func, Program}
use Rattle.vlt_core.specs.Lookups.{after_set, is_held_before, is_held_after, is_new}
use Rattle.vlt_core.specs.Instances.{bound_in}
use Rattle.vlt_core.specs.Types.{stands_for}
use Rattle.vlt_core.specs.Maps.{Status, absent, held}
use Rattle.vlt_meaning.specs.World as world
use Rattle.vlt_meaning.specs.World.{Owner, gone, loose, inside, adopted_by, out, Value, one, reference, objects_in, Object, World}
use Rattle.vlt_meaning.specs.Objects.{with_owner, with_changed_object}
use Rattle.vlt_meaning.specs.Calls.{entries_after, callee_key, binding}
use Rattle.vlt_meaning.specs.Externals.{is_taken}
use Rattle.vlt_sound_worlds.specs.Look.{look}
use Rattle.vlt_sound_worlds.proofs.Look.{live_within, changes_one}
use Rattle.vlt_sound_worlds.specs.Members.{In, IsOnce}
use Rattle.vlt_sound_worlds.proofs.Members.{in_or_not}
use Rattle.vlt_sound_worlds.specs.Roots.{Root, in_var, in_hand, in_wait, in_cell, owned_by, content}
use Rattle.vlt_sound_worlds.specs.Keys.{HasKey, AllowsHeld, AllowsLent, IsUnder}
use Rattle.vlt_sound_worlds.proofs.KeysLaws.{under_is}
use Rattle.vlt_sound_worlds.proofs.Leaving.{length_changed, key_same}
use Rattle.vlt_sound_worlds.specs.Scene.{Scene, IsOf}
use Rattle.vlt_sound_worlds.specs.Agrees.{Waiting, Context, WaitsWell, scene, stock}
use Rattle.vlt_sound_worlds.specs.Typed.{IsDeclared, IsTyped}
use Rattle.vlt_sound_calls.specs.Returned.{is_lasting, IsKept, FitsResult, Returned}
use Rattle.vlt_sound_calls.specs.Heads.{HasHead}
use Rattle.vlt_sound_calls.specs.Callee.{caller_key, IsParamKey, IsCall, without, with_waiting, callee_context}
use Rattle.vlt_sound_calls.specs.Among.{Among}
use Rattle.vlt_sound_calls.proofs.Contexts.{kept_held}
use Rattle.vlt_sound_calls.proofs.Entries.{same_entry, sought}
use Rattle.vlt_sound_calls.proofs.Pairs.{AmongBoth, among_filtered, filtered_among, number_entry, entry_number, both_kept, both_entry, both_number, holders_length}
use Rattle.vlt_sound_calls.proofs.ClauseRows.{without_here, without_other}
use Rattle.vlt_sound_calls.proofs.Rekeyed.{Rekeyed, state_same, type_same, rekeyed_objects, rekeyed_adopted, rekeyed_placed, rekeyed_ranked}
use Rattle.vlt_sound_calls.proofs.Parameters.{waiting_here, waiting_other}
use Rattle.vlt_sound_calls.proofs.Statics.{among_at}
use Rattle.vlt_sound_calls.proofs.ResultsLaws.{new_is_after}
use Rattle.vlt_host_meaning.specs.Calls.{Argument}
use Rattle.vlt_host_meaning.specs.EntryFunctions.{is_host_result}
use Rattle.vlt_host_meaning.specs.HostFrame.{host_holds, host_key, host_frame}
use Rattle.vlt_host_meaning.specs.Permitted.{host_keys}
use Rattle.vlt_host_meaning.specs.OneCall.{held_by_host}
use Rattle.vlt_host_laws.specs.Promise.{IsTaken, IsNewObject, IsLeftIn, ChangesByClause}
use Rattle.vlt_host_laws.proofs.HostAsCaller.{holds_owner, owner_holds, key_of_held, var_of_held, key_names, host_func, host_ids, host_map, nobody, host_context, holds_scope, var_type_is}
use Rattle.vlt_host_laws.proofs.HostAgrees.{bare_stock, HostAgrees, same_placed, status_held, no_values}
use Rattle.vlt_host_laws.proofs.Unbound.{not_bound}
use Rattle.vlt_host_laws.proofs.Arguments.{IsAsked}
use Rattle.vlt_host_laws.proofs.CallFromHost.{before_param, before_old, is_call}

-- ---- objects that come back

again_other : (ns : List ℕ) (os : List Object) → ((n : ℕ) → In n ns → n < length os) → (n : ℕ) → (In n ns → ⊥) →
    look (held_by_host ns os) n ≡ look os n
again_other [] os within n off = refl
again_other (m ∷ ns) os within n off =
    let q : Object → Object = with_owner (world.held 0 m) in
    let change = changes_one os m q (within m (inl refl)) in
    again_other ns (with_changed_object m q os) (λ k i. subst (λ l. k < l) (sym (length_changed os m q)) (within k (inr i))) n (λ i. off (inr i)) ∙
    change.others n (λ e. off (inl e))

again_here : (ns : List ℕ) (os : List Object) → ((n : ℕ) → In n ns → n < length os) → IsOnce ns → (n : ℕ) → In n ns →
    look (held_by_host ns os) n ≡ with_owner (world.held 0 n) (look os n)
again_here [] os within once n i = absurd i
again_here (m ∷ ns) os within once n (inl same) =
    let q : Object → Object = with_owner (world.held 0 m) in
    let change = changes_one os m q (within m (inl refl)) in
    again_other ns (with_changed_object m q os) (λ k i. subst (λ l. k < l) (sym (length_changed os m q)) (within k (inr i))) n
    (λ i. once.0 (subst (λ k. In k ns) same i)) ∙
    (ap (look (with_changed_object m q os)) same ∙ (change.here ∙ ap (λ k. with_owner (world.held 0 k) (look os k)) (sym same)))
again_here (m ∷ ns) os within once n (inr rest) =
    let q : Object → Object = with_owner (world.held 0 m) in
    let change = changes_one os m q (within m (inl refl)) in
    again_here ns (with_changed_object m q os) (λ k i. subst (λ l. k < l) (sym (length_changed os m q)) (within k (inr i))) once.1 n rest ∙
    ap (with_owner (world.held 0 n)) (change.others n (λ same. once.0 (subst (λ k. In k ns) same rest)))

module _ {p : Program} {i : ℕ} {g : Func} (head : HasHead p g) (typed : IsTyped p g) {os : List Object} (a : HostAgrees p os)
    (args : List Argument) (q : IsAsked p i g args os)
    (results : (k t : ℕ) → g.result ≡ Some (tracked k t []) → IsDeclared p t [])
    {v : Option Value} {ns : List ℕ} {w : World}
    (left : Returned p g (callee_context (host_func os) (host_map os) (host_ids os) (host_frame os) (host_context os) g (host_keys g args os)) v ns w) where
  abbrev keys : List ℕ
  keys = host_keys g args os

  abbrev waits_now : Waiting
  waits_now = record { func = host_func os; map = without keys g.clause (host_map os); ids = host_ids os; frame = host_frame os }

  abbrev inner : Context
  inner = callee_context (host_func os) (host_map os) (host_ids os) (host_frame os) (host_context os) g keys

  abbrev es : List Entry
  es = entries_after g

  abbrev pub back : List Object
  back = held_by_host ns w.objects

  abbrev last : Scene
  last = scene (host_context os) w.objects left.agrees.heads

  call : IsCall p (host_func os) g (host_ids os) keys
  call = is_call head typed a args q

  mine : WaitsWell p last waits_now 0
  mine =
      subst (λ x. WaitsWell p last x 0) (waiting_here 0 waits_now (nobody (host_func os)) 0 refl)
      (left.agrees.rest.waits 0 (omega arith))

  was_held : (n : ℕ) → In n ns → (k : ℕ) × ((look w.objects n).owner ≡ world.held 1 k)
  was_held n j = kept_held p g 1 left.names (look w.objects) es ns left.kept n j

  within : (n : ℕ) → In n ns → n < length w.objects
  within n j = let h = was_held n j in live_within w.objects n (λ e. clash h.0 (sym e ∙ h.1))
    where
      clash : (k : ℕ) → gone ≡ world.held 1 k → ⊥
      clash k e = cc

  now_held : (n : ℕ) → In n ns → look back n ≡ with_owner (world.held 0 n) (look w.objects n)
  now_held n j = again_here ns w.objects within left.once n j

  still : (n : ℕ) → (In n ns → ⊥) → look back n ≡ look w.objects n
  still n off = again_other ns w.objects within n off

  same_length : length back ≡ length w.objects
  same_length = holders_length keys 0 (map (λ n. binding n n) ns) w.objects

  rekeyed : Rekeyed (look w.objects) (look back)
  rekeyed = record {
    each = λ n. ⊎_elim
        (λ j.
        let h = was_held n j in
        inr (record { depth = 1; key = h.0; was = h.1; to_depth = 0; to_key = n; now = now_held n j }))
        (λ off. inl (still n off))
        (in_or_not n ns);
  }

  entry_of : (n : ℕ) → In n ns → (e : Entry) × AmongBoth e n es ns
  entry_of n j = number_entry p g 1 left.names (look w.objects) es ns left.kept n j

  in_clause : (e : Entry) → Among e es → Among e g.clause × (is_held_after e ≡ true)
  in_clause e j = among_filtered is_held_after g.clause e j

  is_kept : (e : Entry) (n : ℕ) → AmongBoth e n es ns → IsKept p g 1 left.names (look w.objects) e n
  is_kept e n j = both_kept p g 1 left.names (look w.objects) es ns left.kept e n j

  -- ---- what is given back

  callee_name : (k : ℕ) → IsParamKey g k → callee_key g keys (host_frame os) k ≡ host_key os (stands_for keys k)
  callee_name k param = rw (call.old k param, call.params k param) refl

  lasting : (k : ℕ) → IsParamKey g k → is_lasting g k ≡ true
  lasting k param = ap (λ b. b || not (nat_lt k (length g.keys))) param

  -- of an entry that isn't new the object that it had
  old_number : (e : Entry) (n : ℕ) → AmongBoth e n es ns → is_new e ≡ false → (host_holds os n ≡ true) × (caller_key keys e ≡ n)
  old_number e n j old =
      let among = (in_clause e (both_entry es ns e n j)).0 in
      let param = before_param head typed a args q e among old in
      let names = key_names os (caller_key keys e) n
      (sym (callee_name e.key param) ∙ (sym (left.named e.key (lasting e.key param)) ∙ (is_kept e n j).named)) in
      (subst (λ m. host_holds os m ≡ true) names.1 names.0, names.1)

  -- of a new one the object of the result
  pub record IsResult (e : Entry) (n : ℕ) : Type 0 where
    pub type : ℕ
    pub result : g.result ≡ Some (tracked e.key type [])
    pub given : v ≡ Some (one (reference n))
    pub of : IsOf last type [] n

  new_number : (e : Entry) (n : ℕ) → AmongBoth e n es ns → is_new e ≡ true → IsResult e n
  new_number e n j new =
      let among = (in_clause e (both_entry es ns e n j)).0 in
      let at = among_at g.clause e among in
      let k = head.new at.0 e at.1 new in
      by k.type k.args k.is (subst (λ o. is_host_result g o ≡ true) k.is q.result)
      (subst (λ o. FitsResult p last left.names o v) k.is left.value)
    where
      by : (t : ℕ) (args : List ℕ) → g.result ≡ Some (tracked e.key t args) → is_host_result g (Some (tracked e.key t args)) ≡ true →
          FitsResult p last left.names (Some (tracked e.key t args)) v → IsResult e n
      by t [] is ok fits =
          let one_fit = fits.2 in
          let ref = one_fit.fits in
          let same : ref.object ≡ n = same_Some ref.object n (sym ref.named ∙ (is_kept e n j).named) in
          record {
            type = t;
            result = is;
            given = fits.1 ∙ ap Some (one_fit.is ∙ (ap one ref.is ∙ ap (λ m. one (reference m)) same));
            of = subst (IsOf last t []) same ref.of;
          }
      by t (x ∷ xs) is ok fits = cc

  -- an object that the host held is of its type still, and has no header
  still_of : (n : ℕ) → host_holds os n ≡ true → IsOf last (look os n).type [] n
  still_of n e =
      let f = mine.vars.fit n (tracked n (look os n).type []) (one (reference n)) (holds_scope os n e) (var_type_is os n e) (var_of_held os n e) in
      subst (IsOf last (look os n).type []) (same_Some f.fits.object n (sym f.fits.named ∙ key_of_held os n e)) f.fits.of

  -- ---- what is under keys

  -- what isn't given back is under the host's key for it, if under any
  host_own : (n k : ℕ) → IsUnder 0 k (look w.objects n).owner → (host_holds os n ≡ true) × ((look w.objects n).owner ≡ world.held 0 n)
  host_own n k u =
      let names = key_names os k n (under_is (mine.keys k) n u) in
      (subst (λ m. host_holds os m ≡ true) names.1 names.0, by (look w.objects n).owner refl (subst (λ j. IsUnder 0 j (look w.objects n).owner) names.1 u))
    where
      no_lent : (s : Status) (x : ℕ) → (s ≡ absent) ⊎ ((S : ℕ → Bool) × (s ≡ held S)) → AllowsLent s x → ⊥
      no_lent s x (inl e) l = subst (λ s. AllowsLent s x) e l
      no_lent s x (inr e) l = subst (λ s. AllowsLent s x) e.1 l

      host_status : (j : ℕ) → (host_map os (a_key j) ≡ absent) ⊎ ((S : ℕ → Bool) × (host_map os (a_key j) ≡ held S))
      host_status j = of_bool (host_holds os j)
        where
          of_bool : (b : Bool) →
              ((if b then held (λ s. s == (look os j).state) else absent) ≡ absent) ⊎ ((S : ℕ → Bool) × ((if b then held (λ s. s == (look os j).state) else absent) ≡ held S))
          of_bool true = inr (λ s. s == (look os j).state, refl)
          of_bool false = inl refl

      status : (es : List Entry) (j : ℕ) →
          (without keys es (host_map os) (a_key j) ≡ absent) ⊎ ((S : ℕ → Bool) × (without keys es (host_map os) (a_key j) ≡ held S))
      status [] j = host_status j
      status (x ∷ xs) j = of_bool (is_held_before x && (j == caller_key keys x)) (status xs j)
        where
          of_bool : (b : Bool) →
              (without keys xs (host_map os) (a_key j) ≡ absent) ⊎ ((S : ℕ → Bool) × (without keys xs (host_map os) (a_key j) ≡ held S)) →
              ((if b then absent else without keys xs (host_map os) (a_key j)) ≡ absent) ⊎ ((S : ℕ → Bool) × ((if b then absent else without keys xs (host_map os) (a_key j)) ≡ held S))
          of_bool true r = inl refl
          of_bool false r = r

      by : (o : Owner) → (look w.objects n).owner ≡ o → IsUnder 0 n o → o ≡ world.held 0 n
      by (world.held d j) is u = ap (λ d. world.held d j) u.0 ∙ ap (world.held 0) u.1
      by (world.lent d j) is u =
          let own : (look w.objects n).owner ≡ world.lent 0 n = is ∙ (ap (λ d. world.lent d j) u.0 ∙ ap (world.lent 0) u.1) in
          absurd (no_lent (without keys g.clause (host_map os) (a_key n)) (look w.objects n).state (status g.clause n) ((mine.keys n).lent n own).1)
      by loose is u = absurd u
      by (inside m) is u = absurd u
      by (adopted_by m) is u = absurd u
      by out is u = absurd u
      by gone is u = absurd u

  back_own : (n d k : ℕ) → IsUnder d k (look back n).owner → (look back n).owner ≡ world.held 0 n
  back_own n d k u = ⊎_elim
      (λ j. ap (λ o. o.owner) (now_held n j))
      (λ off.
      let before = subst (λ o. IsUnder d k o.owner) (still n off) u in
      let le = left.agrees.rest.bounded n d k before in
      ap (λ o. o.owner) (still n off) ∙
      ⊎_elim
      (λ (same : d ≡ 1). absurd (off (left.only n k (subst (λ d. IsUnder d k (look w.objects n).owner) same before))))
      (λ (other : d ≡ 1 → ⊥).
      let zero_is : d ≡ 0 = at_most_one d le other in
      (host_own n k (subst (λ d. IsUnder d k (look w.objects n).owner) zero_is before)).1)
      (cases_eq d 1))
      (in_or_not n ns)
    where
      at_most_one : (d : ℕ) → d ≤ 1 → (d ≡ 1 → ⊥) → d ≡ 0
      at_most_one d le other = omega arith

  held_before_back : (n : ℕ) → (In n ns → ⊥) → (look back n).owner ≡ world.held 0 n → host_holds os n ≡ true
  held_before_back n off own =
      (host_own n n (subst (λ o. IsUnder 0 n o) (sym (sym (ap (λ o. o.owner) (still n off)) ∙ own)) (refl, refl))).0

  pub record IsBareHere (n : ℕ) : Type 0 where
    pub type : ℕ
    pub of : IsOf last type [] n
    pub declared : IsDeclared p type []

  old_bare : (n : ℕ) → host_holds os n ≡ true → IsBareHere n
  old_bare n e = record { type = (look os n).type; of = still_of n e; declared = a.declared n (holds_owner os n e) }

  bare_here : (n : ℕ) → (look back n).owner ≡ world.held 0 n → IsBareHere n
  bare_here n own = ⊎_elim
      (λ j.
      let e = entry_of n j in
      ⊎_elim
      (λ new. let r = new_number e.0 n e.1 new in record { type = r.type; of = r.of; declared = results e.0.key r.type r.result })
      (λ old. old_bare n (old_number e.0 n e.1 old).0)
      (cases_Bool (is_new e.0)))
      (λ off. old_bare n (held_before_back n off own))
      (in_or_not n ns)

  -- ---- the host goes on

  result_plain : owned_by v ≡ []
  result_plain = by g.result q.result left.value
    where
      by : (o : Option Ty) → is_host_result g o ≡ true → FitsResult p last left.names o v → owned_by v ≡ []
      by None ok fits = ap owned_by fits
      by (Some int) ok fits = ap owned_by fits.1 ∙ ap objects_in (fits.2.is ∙ ap one fits.2.fits.1)
      by (Some bool) ok fits = ap owned_by fits.1 ∙ ap objects_in (fits.2.is ∙ ap one fits.2.fits.1)
      by (Some (tracked k t args)) ok fits = ap owned_by fits.1 ∙ ap objects_in (fits.2.is ∙ ap one fits.2.fits.is)
      by (Some (owning S t args)) ok fits = cc
      by (Some (guarded k t args)) ok fits = cc
      by (Some (variant t args)) ok fits = cc
      by (Some (owning_variant t args)) ok fits = cc

  pub goes_on : HostAgrees p back
  goes_on = record {
    heads = left.agrees.heads;
    placed = same_placed same (rekeyed_placed left.agrees back same_length rekeyed);
    ranked = rekeyed_ranked rekeyed left.agrees.ranked;
    objects = rekeyed_objects left.agrees back same_length rekeyed;
    adopted = rekeyed_adopted left.agrees back same_length rekeyed;
    own = back_own;
    bare = λ n own. (bare_here n own).of.headed;
    declared = λ n own.
        let b = bare_here n own in
        subst (λ t. IsDeclared p t []) (sym (type_same rekeyed n ∙ b.of.typed)) b.declared;
  }
    where
      waiting_none : (d u : ℕ) → owned_by ((with_waiting 0 waits_now (nobody (host_func os)) d).frame.vars u) ≡ []
      waiting_none d u = ⊎_elim
          (λ same.
          ap (λ x. owned_by (x.frame.vars u)) (waiting_here 0 waits_now (nobody (host_func os)) d same) ∙ no_values a u)
          (λ other. ap (λ x. owned_by (x.frame.vars u)) (waiting_other 0 waits_now (nobody (host_func os)) d other))
          (cases_eq d 0)

      same : (P : Root) → content (bare_stock back) P ≡ content (stock inner left.hand left.frame back) P
      same (in_var u) = sym (left.emptied u)
      same in_hand = sym (left.owns ∙ result_plain)
      same (in_wait d u) = sym (waiting_none d u)
      same (in_cell n j) = refl

  -- ---- what the clause says

  clash : false ≡ true → ⊥
  clash e = cc

  not_taken_after : (e : Entry) → is_held_after e ≡ true → is_taken e ≡ true → ⊥
  not_taken_after e t k = by (is_held_before e) (is_held_after e) t k
    where
      by : (b c : Bool) → c ≡ true → (b && not c) ≡ true → ⊥
      by true true t k = cc
      by true false t k = cc
      by false c t k = cc

  taken_before : (e : Entry) → is_taken e ≡ true → is_held_before e ≡ true
  taken_before e t = by (is_held_before e) (is_held_after e) t
    where
      by : (b c : Bool) → (b && not c) ≡ true → b ≡ true
      by true c t = refl
      by false c t = cc

  -- an object under no entry's key stays as it was
  pub record IsStill (n : ℕ) : Type 0 where
    pub off : In n ns → ⊥
    pub owner : (look w.objects n).owner ≡ world.held 0 n
    pub state : (look w.objects n).state ≡ (look os n).state

  stays : (n : ℕ) → host_holds os n ≡ true → ((e : Entry) → Among e g.clause → is_held_before e ≡ true → caller_key keys e ≡ n → ⊥) → IsStill n
  stays n e none =
      let status : without keys g.clause (host_map os) (a_key n) ≡ held (λ s. s == (look os n).state) =
      without_other keys g.clause (host_map os) (a_key n) (λ d j b same. none d j b (sym (key_same same))) ∙ status_held a n e in
      let has = subst (λ s. HasKey s 0 n (host_key os n) (look w.objects)) status (mine.keys n).has in
      let same : has.number ≡ n = same_Some has.number n (sym has.named ∙ key_of_held os n e) in
      let own : (look w.objects n).owner ≡ world.held 0 n = subst (λ m. (look w.objects m).owner ≡ world.held 0 n) same has.owned in
      record {
        off = λ j. let h = was_held n j in other_depth h.0 (sym h.1 ∙ own);
        owner = own;
        state = eqb-true (look w.objects n).state (look os n).state
            (subst (λ s. AllowsHeld s (look w.objects n).state) status ((mine.keys n).held n own).1);
      }
    where
      other_depth : (k : ℕ) → world.held 1 k ≡ world.held 0 n → ⊥
      other_depth k e = cc

  -- an entry that is held before and after gives its object back
  gives_back : (e : Entry) (n : ℕ) → Among e g.clause → is_held_after e ≡ true → is_new e ≡ false → caller_key keys e ≡ n → AmongBoth e n es ns
  gives_back e n j after old same =
      let r = entry_number p g 1 left.names (look w.objects) es ns left.kept e (filtered_among is_held_after g.clause e j after) in
      subst (λ m. AmongBoth e m es ns) (sym (old_number e r.0 r.1 old).1 ∙ same) r.1

  back_state : (n : ℕ) → (look back n).state ≡ (look w.objects n).state
  back_state n = state_same rekeyed n

  pub came_back : bound_in g.clause ≡ None → ChangesByClause p g args v os back
  came_back plain = record {
    held = λ n h. is_held_now n (holds_owner back n h);
    keeps = λ n h free. owner_holds back n (kept_now n h free);
    gets = λ e n new. owner_holds back n (got_now e n new);
    made = λ e j new.
        let r = entry_number p g 1 left.names (look w.objects) es ns left.kept e (filtered_among is_held_after g.clause e j (new_is_after e new)) in
        (r.0, record { among = j; new = new; given = (new_number e r.0 r.1 new).given });
    states = λ e n is after.
        let b = gives_back e n is.among after is.old is.stands in
        left_in e n is.among (subst (λ s. IsTrue (after_set p g e s)) (sym (back_state n)) (is_kept e n b).state);
    new_states = λ e n new.
        subst (λ s. IsTrue (after_set p g e s)) (sym (back_state n)) (is_kept e n (new_among e n new)).state;
    others = λ n h none.
        let s = stays n h (λ e j b same. none e (record { among = j; old = before_old head typed a args q e b; stands = same })) in
        back_state n ∙ s.state;
  }
    where
      left_in : (e : Entry) (n : ℕ) → Among e g.clause → IsTrue (after_set p g e (look back n).state) →
          IsLeftIn p g e e.mode (look os n).state (look back n).state
      left_in e n j t = by e.mode refl
        where
          by : (m : Mode) → e.mode ≡ m → IsLeftIn p g e m (look os n).state (look back n).state
          by kept is = t
          by taken is = t
          by given is = t
          by fresh is = t
          by (up_to b) is = absurd (not_bound g.clause plain e b j is)

      -- the result is that of the entry
      new_among : (e : Entry) (n : ℕ) → IsNewObject g v e n → AmongBoth e n es ns
      new_among e n new =
          let r = entry_number p g 1 left.names (look w.objects) es ns left.kept e (filtered_among is_held_after g.clause e new.among (new_is_after e new.new)) in
          let given = (new_number e r.0 r.1 new.new).given in
          subst (λ m. AmongBoth e m es ns) (same_reference r.0 n (same_Some (one (reference r.0)) (one (reference n)) (sym given ∙ new.given))) r.1
        where
          same_reference : (m n : ℕ) → one (reference m) ≡ one (reference n) → m ≡ n
          same_reference m n e = cc

      got_now : (e : Entry) (n : ℕ) → IsNewObject g v e n → (look back n).owner ≡ world.held 0 n
      got_now e n new = ap (λ o. o.owner) (now_held n (both_number es ns e n (new_among e n new)))

      taken_if : (e : Entry) → is_held_before e ≡ true → is_held_after e ≡ false → is_taken e ≡ true
      taken_if e b f = rw (b, f) refl

      kept_now : (n : ℕ) → host_holds os n ≡ true → (IsTaken g args os n → ⊥) → (look back n).owner ≡ world.held 0 n
      kept_now n h free = ⊎_elim
          (λ s. ⊎_elim
          (λ after. ap (λ o. o.owner) (now_held n (both_number es ns s.entry n (gives_back s.entry n s.among after (before_old head typed a args q s.entry s.passes) s.is))))
          (λ ends.
          absurd (free (record {
            entry = s.entry;
            is = record { among = s.among; old = before_old head typed a args q s.entry s.passes; stands = s.is };
            taken = taken_if s.entry s.passes ends;
          })))
          (cases_Bool (is_held_after s.entry)))
          (λ none. let s = stays n h none in ap (λ o. o.owner) (still n s.off) ∙ s.owner)
          (sought is_held_before (caller_key keys) g.clause n)

      is_held_now : (n : ℕ) → (look back n).owner ≡ world.held 0 n →
          ((host_holds os n ≡ true) × (IsTaken g args os n → ⊥)) ⊎ ((e : Entry) × IsNewObject g v e n)
      is_held_now n own = ⊎_elim
          (λ j.
          let e = entry_of n j in
          let among = in_clause e.0 (both_entry es ns e.0 n e.1) in
          ⊎_elim
          (λ new. inr (e.0, record { among = among.0; new = new; given = (new_number e.0 n e.1 new).given }))
          (λ old.
          let m = old_number e.0 n e.1 old in
          inl (
            m.0,
            λ t.
                let same : t.entry ≡ e.0 = same_entry (caller_key keys) g.clause call.callers t.entry e.0 t.is.among among.0 (t.is.stands ∙ sym m.1) in
                not_taken_after e.0 among.1 (ap is_taken (sym same) ∙ t.taken),
          ))
          (cases_Bool (is_new e.0)))
          (λ off.
          inl (
            held_before_back n off own,
            λ t.
                let gone_from : without keys g.clause (host_map os) (a_key n) ≡ absent =
                subst (λ k. without keys g.clause (host_map os) (a_key k) ≡ absent) t.is.stands
                (without_here keys g.clause (host_map os) t.entry t.is.among (taken_before t.entry t.taken)) in
                subst (λ s. AllowsHeld s (look w.objects n).state) gone_from
                ((mine.keys n).held n (sym (ap (λ o. o.owner) (still n off)) ∙ own)).1,
          ))
          (in_or_not n ns)
