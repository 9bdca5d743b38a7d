-- A callee has left, and its caller goes on.
use Rattle.std.proofs.Common.{◌≡◌, inl, inr, ⊎_elim, ℕ, suc, ◌<◌, ◌≤◌, Bool, true, false, nat_lt, ◌||◌, not, if◌then◌else◌, IsTrue, List, [], ◌∷◌, length, Option, Some, None, refl, sym, ap, ◌∙◌, subst, arith}
use Rattle.std.proofs.lemmas.Bool.{cases_eq, cases_Bool}
use Rattle.std.proofs.lemmas.Option.{same_Some}
use Rattle.vlt_core.specs.Core.{States, tracked, a_key, a_var, Mode, kept, taken, given, fresh, up_to, Entry, Func, Program}
use Rattle.vlt_core.specs.Lookups.{is_owning_var, key_type, states_or_all, states_of_type, is_before, is_after, is_held_before, is_held_after, is_new}
use Rattle.vlt_core.specs.Types.{stands_for}
use Rattle.vlt_core.specs.Maps.{Status, absent, held, lent, full, kind_of, is_absent, HeldMap, IsWanted, wants_absent, becomes_held, becomes_absent, status_after, CanPass, map_after}
use Rattle.vlt_core.specs.Rows.{held_in, clause_rows}
use Rattle.vlt_core.specs.KindedScopes.{Ids}
use Rattle.vlt_meaning.specs.World as world
use Rattle.vlt_meaning.specs.World.{Value, gone, objects_in, Object, Frame, World}
use Rattle.vlt_meaning.specs.Objects.{with_owner}
use Rattle.vlt_meaning.specs.Step.{set_at}
use Rattle.vlt_meaning.specs.Calls.{entries_after, callee_key, Binding, bindings, with_names, with_holders}
use Rattle.vlt_sound_worlds.specs.Look.{look}
use Rattle.vlt_sound_worlds.proofs.Look.{live_within}
use Rattle.vlt_sound_worlds.specs.Members.{In}
use Rattle.vlt_sound_worlds.specs.Placed.{IsPlaced}
use Rattle.vlt_sound_worlds.specs.Roots.{content, home, owner_of}
use Rattle.vlt_sound_worlds.proofs.Members.{in_or_not}
use Rattle.vlt_sound_worlds.specs.Keys.{IsOfType, KeyAgrees, IsUnder, SameUnder}
use Rattle.vlt_sound_worlds.proofs.KeysLaws.{key_kept, key_held, none_under}
use Rattle.vlt_sound_worlds.specs.Scene.{Scene}
use Rattle.vlt_sound_worlds.proofs.Fits.{fits_named}
use Rattle.vlt_sound_worlds.specs.Scopes.{NonePins}
use Rattle.vlt_sound_worlds.specs.Agrees.{HasVar, VarsFit, Handed, values_of, FitHanded, Waiting, Pin, PinsAgree, Context, WaitsWell, scene, Agrees}
use Rattle.vlt_sound_worlds.specs.Typed.{IsTyped}
use Rattle.vlt_sound_worlds.proofs.Kept.{vars_kept, handed_kept, waits_kept}
use Rattle.vlt_sound_worlds.proofs.Leaving.{key_same, var_is_no_key}
use Rattle.vlt_sound_worlds.specs.Scoped.{IsKeyInScope, IsScoped}
use Rattle.vlt_sound_calls.specs.Returned.{is_lasting, IsEntered, IsKept, FitsResult, Returned}
use Rattle.vlt_sound_calls.specs.Heads.{HasHead}
use Rattle.vlt_sound_calls.proofs.Contexts.{kept_held}
use Rattle.vlt_sound_calls.specs.Callee.{AreApartBy, caller_key, IsParamKey, IsCall, without, with_waiting, callee_context}
use Rattle.vlt_sound_calls.specs.Among.{Among}
use Rattle.vlt_sound_calls.proofs.Entries.{same_entry, Sought, sought}
use Rattle.vlt_sound_calls.proofs.ClauseRows.{AreThere, clause_wanted, clause_here, clause_other, without_here, without_other}
use Rattle.vlt_sound_calls.proofs.Rekeyed.{Rekeyed, rekeyed_grows, rekeyed_states, rekeyed_objects, rekeyed_adopted, rekeyed_placed, rekeyed_ranked, rekeyed_foci}
use Rattle.vlt_sound_calls.proofs.Parameters.{waiting_here, waiting_other}
use Rattle.vlt_sound_calls.proofs.Typing.{keys_typed}
use Rattle.vlt_sound_calls.proofs.Begins.{states_fit}
use Rattle.vlt_sound_calls.specs.Fresh.{IsFreshCall}
use Rattle.vlt_sound_calls.proofs.Pairs.{AmongBoth, among_filtered, filtered_among, filtered_apart, number_entry, entry_number, both_kept, both_entry, both_number, names_other, names_here, holders_length, holders_other, holders_here}
use Rattle.vlt_sound_calls.proofs.Places.{vars_go_on}

absent_is : (s : Status) → kind_of s ≡ is_absent → s ≡ absent
absent_is absent e = refl
absent_is (held S) e = cc
absent_is (lent S) e = cc
absent_is full e = cc

-- each entry is held before, or after
before_or_after : (m : Mode) → is_before m ≡ false → is_after m ≡ false → ⊥
before_or_after kept b a = cc
before_or_after (up_to u) b a = cc
before_or_after taken b a = cc
before_or_after given b a = cc
before_or_after fresh b a = cc

-- names change in a frame and nothing else
pub names_frame : (bs : List Binding) (frame : Frame) →
    with_names bs frame ≡ record { depth = frame.depth; vars = frame.vars; keys = (with_names bs frame).keys }
names_frame [] frame = refl
names_frame (b ∷ bs) frame =
    names_frame bs (record { depth = frame.depth; vars = frame.vars; keys = set_at b.key (Some b.number) frame.keys })

after_allowed : (p : Program) (g f : Func) (k j : ℕ) (o : Option States) (s : ℕ) → IsTrue (states_or_all p g k o s) →
    IsTrue (states_of_type p (key_type f j) s) → IsTrue (states_or_all p f j o s)
after_allowed p g f k j None s is all = all
after_allowed p g f k j (Some S) s is all = is

module _ {p : Program} {f : Func} {c : Context} {h : HeldMap} {ids : Ids} {hand : List Handed} {frame : Frame} {os : List Object}
    (agrees : Agrees p f c h ids hand frame os) (g : Func) (keys : List ℕ) (call : IsCall p f g ids keys)
    (new : IsFreshCall f c g ids keys) (head : HasHead p g)
    (typed : IsTyped p f) (entered : IsEntered p f c) (scoped : IsScoped f c ids)
    (pass : CanPass (clause_rows p f keys g.clause) h) {a : Option Value} {ns : List ℕ} {w : World}
    (left : Returned p g (callee_context f h ids frame c g keys) a ns w) where
  abbrev waits_now : Waiting
  waits_now = record { func = f; map = without keys g.clause h; ids = ids; frame = frame }

  abbrev es : List Entry
  es = entries_after g

  abbrev pub back_names : List Binding
  back_names = bindings keys (entries_after g) ns

  abbrev pub back_objects : List Object
  back_objects = with_holders frame.depth (bindings keys (entries_after g) ns) w.objects

  abbrev pub back_frame : Frame
  back_frame =
      record { depth = frame.depth; vars = frame.vars; keys = (with_names (bindings keys (entries_after g) ns) frame).keys }

  abbrev pub back_map : HeldMap
  back_map = map_after (clause_rows p f keys g.clause) h

  abbrev last : Scene
  last = scene c w.objects left.agrees.heads

  depth_is : frame.depth ≡ c.depth
  depth_is = agrees.rest.depth

  there : AreThere keys es
  there e i = call.entries e (among_filtered is_held_after g.clause e i).0

  in_clause : (e : Entry) → Among e es → Among e g.clause
  in_clause e i = (among_filtered is_held_after g.clause e i).0

  held_after : (e : Entry) → Among e es → is_held_after e ≡ true
  held_after e i = (among_filtered is_held_after g.clause e i).1

  apart : AreApartBy (caller_key keys) es
  apart = filtered_apart (caller_key keys) is_held_after g.clause call.callers

  -- ---- what waited

  mine : WaitsWell p last waits_now frame.depth
  mine =
      subst (λ a. WaitsWell p last a frame.depth) (waiting_here frame.depth waits_now c.waiting frame.depth refl)
      (left.agrees.rest.waits frame.depth (omega arith))

  lower : (d : ℕ) → d < c.depth → WaitsWell p last (c.waiting d) d
  lower d lt =
      let depth = depth_is in
      let other : d ≡ frame.depth → ⊥ = λ e. absurd (omega arith) in
      subst (λ a. WaitsWell p last a d) (waiting_other frame.depth waits_now c.waiting d other)
      (left.agrees.rest.waits d (omega arith))

  -- ---- what is given back

  pub is_kept : (e : Entry) (n : ℕ) → AmongBoth e n es ns → IsKept p g (suc frame.depth) left.names (look w.objects) e n
  is_kept e n i = both_kept p g (suc frame.depth) left.names (look w.objects) es ns left.kept e n i

  was_held : (n : ℕ) → In n ns → (k : ℕ) × ((look w.objects n).owner ≡ world.held (suc frame.depth) k)
  was_held n i = kept_held p g (suc frame.depth) left.names (look w.objects) es ns left.kept n i

  within : (n : ℕ) → In n ns → n < length w.objects
  within n i = let q = was_held n i in live_within w.objects n (λ e. clash q.0 (sym e ∙ q.1))
    where
      clash : (k : ℕ) → gone ≡ world.held (suc frame.depth) k → ⊥
      clash k e = cc

  now_held : (e : Entry) (n : ℕ) → AmongBoth e n es ns →
      look back_objects n ≡ with_owner (world.held frame.depth (caller_key keys e)) (look w.objects n)
  now_held e n i = holders_here keys frame.depth es ns there w.objects within left.once e n i

  still : (n : ℕ) → (In n ns → ⊥) → look back_objects n ≡ look w.objects n
  still n off = holders_other keys frame.depth es ns there w.objects within n off

  pub same_length : length back_objects ≡ length w.objects
  same_length = holders_length keys frame.depth (bindings keys es ns) w.objects

  pub rekeyed : Rekeyed (look w.objects) (look back_objects)
  rekeyed = record {
    each = λ n. ⊎_elim
        (λ i.
        let e = number_entry p g (suc frame.depth) left.names (look w.objects) es ns left.kept n i in
        let q = was_held n i in
        inr (record {
          depth = suc frame.depth;
          key = q.0;
          was = q.1;
          to_depth = frame.depth;
          to_key = caller_key keys e.0;
          now = now_held e.0 n e.1;
        }))
        (λ off. inl (still n off))
        (in_or_not n ns);
  }

  -- ---- names

  pub callee_name : (k : ℕ) → IsParamKey g k → callee_key g keys frame k ≡ frame.keys (stands_for keys k)
  callee_name k param = rw (call.old k param, call.params k param) refl

  pub lasting : (k : ℕ) → IsParamKey g k → is_lasting g k ≡ true
  lasting k param = ap (λ b. b || not (nat_lt k (length g.keys))) param

  -- an object that isn't new has the name that it had
  name_same : (e : Entry) (n : ℕ) → AmongBoth e n es ns → (is_new e ≡ true → ⊥) → frame.keys (caller_key keys e) ≡ Some n
  name_same e n i old =
      let among = both_entry es ns e n i in
      let param = new.params e (in_clause e among) (held_after e among) old in
      sym (left.named e.key (lasting e.key param) ∙ callee_name e.key param) ∙ (is_kept e n i).named

  pub named_back : (e : Entry) (n : ℕ) → AmongBoth e n es ns → back_frame.keys (caller_key keys e) ≡ Some n
  named_back e n i = names_here keys es ns there apart frame e n i

  keep : (k : ℕ) → ((e : Entry) → Among e g.clause → is_new e ≡ true → k ≡ caller_key keys e → ⊥) →
      back_frame.keys k ≡ frame.keys k
  keep k off = ⊎_elim
      (λ s.
      let n = entry_number p g (suc frame.depth) left.names (look w.objects) es ns left.kept s.entry s.among in
      subst (λ k. back_frame.keys k ≡ frame.keys k) s.is
      (named_back s.entry n.0 n.1 ∙
      sym (name_same s.entry n.0 n.1 (λ t. off s.entry (in_clause s.entry s.among) t (sym s.is)))))
      (λ none. names_other keys es ns there frame k (λ e i is. none e i refl (sym is)))
      (sought (λ e. true) (caller_key keys) es k)

  -- a key in scope is no new one
  old_key : (k : ℕ) → IsKeyInScope ids k → (e : Entry) → Among e g.clause → is_new e ≡ true → k ≡ caller_key keys e → ⊥
  old_key k i e among t same =
      let is_fresh = new.fresh e among t in
      ⊎_elim
      (λ param. is_fresh.head (subst (λ k. IsTrue (c.head k)) same (entered.head k ∙ ap (λ b. b || not (nat_lt k (length f.keys))) param)))
      (λ o. is_fresh.vars o.var (tracked k o.type o.args) o.scoped o.is (inl (sym same)))
      (scoped.owned k i)

  pub keep_scoped : (k : ℕ) → IsKeyInScope ids k → back_frame.keys k ≡ frame.keys k
  keep_scoped k i = keep k (old_key k i)

  -- ---- types and states of what is given back

  has_type : (e : Entry) (n : ℕ) → AmongBoth e n es ns → IsOfType (key_type f (caller_key keys e)) (look w.objects n).type
  has_type e n i = by (key_type f (caller_key keys e)) refl
    where
      among : Among e es
      among = both_entry es ns e n i

      made : (t : ℕ) → key_type f (caller_key keys e) ≡ Some t → is_new e ≡ true → (look w.objects n).type ≡ t
      made t type is =
          let r = new.result e (in_clause e among) is in
          let value = subst (λ o. FitsResult p last left.names o a) r.2 left.value in
          let fit = value.2.fits in
          ap (λ m. (look w.objects m).type) (same_Some n fit.object (sym (is_kept e n i).named ∙ fit.named)) ∙
          (fit.of.typed ∙ same_Some r.0 t (sym (new.typed e r.0 r.1 (in_clause e among) is r.2) ∙ type))

      was : (t : ℕ) → key_type f (caller_key keys e) ≡ Some t → is_new e ≡ false → (look w.objects n).type ≡ t
      was t type is =
          let old : is_new e ≡ true → ⊥ = λ e. clash (sym is ∙ e) in
          keys_typed typed entered scoped frame agrees.rest.named last lower mine.vars (caller_key keys e) t n
          (call.scoped e.key (new.params e (in_clause e among) (held_after e among) old)) type (name_same e n i old)
        where
          clash : false ≡ true → ⊥
          clash e = cc

      by : (o : Option ℕ) → key_type f (caller_key keys e) ≡ o → IsOfType o (look w.objects n).type
      by None type = tt
      by (Some t) type = ⊎_elim (made t type) (was t type) (cases_Bool (is_new e))

  has_state : (e : Entry) (n : ℕ) → AmongBoth e n es ns →
      IsTrue (states_or_all p f (caller_key keys e) e.after (look w.objects n).state)
  has_state e n i =
      let k = is_kept e n i in
      let q = was_held n (both_number es ns e n i) in
      let all = (left.agrees.objects n (λ e. clash q.0 (sym e ∙ q.1))).state in
      let type = key_type f (caller_key keys e) in
      let small = (typed.limited.narrow (look w.objects n).type).below (look w.objects n).state all in
      after_allowed p g f e.key (caller_key keys e) e.after (look w.objects n).state k.state
      (states_fit p type type (look w.objects n).type (look w.objects n).state (λ u e. e) (has_type e n i) all small).0
    where
      clash : (k : ℕ) → gone ≡ world.held (suc frame.depth) k → ⊥
      clash k e = cc

  -- ---- keys

  not_deeper : suc frame.depth ≡ frame.depth → ⊥
  not_deeper e = absurd (omega arith)

  given_under : (n : ℕ) → In n ns → (d k : ℕ) → IsUnder d k (look w.objects n).owner → suc frame.depth ≡ d
  given_under n i d k u = let q = was_held n i in (subst (IsUnder d k) q.1 u).0

  back_under : (e : Entry) (n : ℕ) → AmongBoth e n es ns → (d k : ℕ) → IsUnder d k (look back_objects n).owner →
      (frame.depth ≡ d) × (caller_key keys e ≡ k)
  back_under e n i d k u = subst (λ o. IsUnder d k o.owner) (now_held e n i) u

  entry_of : (n : ℕ) → In n ns → (e : Entry) × AmongBoth e n es ns
  entry_of n i = number_entry p g (suc frame.depth) left.names (look w.objects) es ns left.kept n i

  -- nothing was under the key of an entry that is given back
  was_absent : (e : Entry) → Among e es → without keys g.clause h (a_key (caller_key keys e)) ≡ absent
  was_absent e i = ⊎_elim
      (λ b. without_here keys g.clause h e (in_clause e i) b)
      (λ b.
      without_other keys g.clause h (a_key (caller_key keys e)) (λ d j t same.
      let is : d ≡ e = same_entry (caller_key keys) g.clause call.callers d e j (in_clause e i) (sym (key_same same)) in
      clash (sym b ∙ (ap is_held_before (sym is) ∙ t))) ∙
      absent_is (h (a_key (caller_key keys e)))
      (subst (λ b. IsWanted (if b then held_in e.before else wants_absent) (h (a_key (caller_key keys e)))) b
      (clause_wanted p f keys g.clause call.entries call.callers h pass e (in_clause e i))))
      (cases_Bool (is_held_before e))
    where
      clash : false ≡ true → ⊥
      clash e = cc

  held_status : (e : Entry) → Among e es → back_map (a_key (caller_key keys e)) ≡ held (states_or_all p f (caller_key keys e) e.after)
  held_status e i =
      clause_here p f keys g.clause call.entries call.callers h e (in_clause e i) ∙
      ap (λ b. status_after (if b then becomes_held (states_or_all p f (caller_key keys e) e.after) else becomes_absent) (h (a_key (caller_key keys e)))) (held_after e i)

  other_status : (k : ℕ) → ((e : Entry) → Among e es → caller_key keys e ≡ k → ⊥) →
      back_map (a_key k) ≡ without keys g.clause h (a_key k)
  other_status k none = ⊎_elim
      (λ s. subst (λ k. back_map (a_key k) ≡ without keys g.clause h (a_key k)) s.is
      (clause_here p f keys g.clause call.entries call.callers h s.entry s.among ∙
      (ap (λ b. status_after (if b then becomes_held (states_or_all p f (caller_key keys s.entry) s.entry.after) else becomes_absent) (h (a_key (caller_key keys s.entry)))) (not_after s.entry s.among s.is)
      ∙ sym (without_here keys g.clause h s.entry s.among s.passes))))
      (λ off.
      clause_other p f keys g.clause call.entries h (a_key k) (λ e i same.
      before_or_after e.mode (not_so (is_held_before e) (λ t. off e i t (sym (key_same same)))) (not_after e i (sym (key_same same)))) ∙
      sym (without_other keys g.clause h (a_key k) (λ e i t same. off e i t (sym (key_same same)))))
      (sought is_held_before (caller_key keys) g.clause k)
    where
      not_so : (b : Bool) → (b ≡ true → ⊥) → b ≡ false
      not_so true off = absurd (off refl)
      not_so false off = refl

      not_after : (e : Entry) → Among e g.clause → caller_key keys e ≡ k → is_held_after e ≡ false
      not_after e i same =
          not_so (is_held_after e) (λ t. none e (filtered_among is_held_after g.clause e i t) same)

  back_keys : (k : ℕ) →
      KeyAgrees (key_type f k) (back_map (a_key k)) frame.depth k (back_frame.keys k) (look back_objects)
  back_keys k = ⊎_elim one none (sought (λ e. true) (caller_key keys) es k)
    where
      one : Sought (λ e. true) (caller_key keys) es k →
          KeyAgrees (key_type f k) (back_map (a_key k)) frame.depth k (back_frame.keys k) (look back_objects)
      one s =
          subst (λ k. KeyAgrees (key_type f k) (back_map (a_key k)) frame.depth k (back_frame.keys k) (look back_objects)) s.is
          (key_held (states_or_all p f (caller_key keys e) e.after) (held_status e s.among) (record {
            number = n;
            named = named_back e n i;
            owned = ap (λ o. o.owner) (now_held e n i);
            typed = subst (λ o. IsOfType (key_type f (caller_key keys e)) o.type) (sym (now_held e n i)) (has_type e n i);
            state = subst (λ o. IsTrue (states_or_all p f (caller_key keys e) e.after o.state)) (sym (now_held e n i)) (has_state e n i);
            only = only;
          }))
        where
          e : Entry
          e = s.entry

          both : (n : ℕ) × AmongBoth e n es ns
          both = entry_number p g (suc frame.depth) left.names (look w.objects) es ns left.kept e s.among

          n : ℕ
          n = both.0

          i : AmongBoth e n es ns
          i = both.1

          only : (m : ℕ) → IsUnder frame.depth (caller_key keys e) (look back_objects m).owner → m ≡ n
          only m u = ⊎_elim
              (λ j.
              let d = entry_of m j in
              let same : d.0 ≡ e =
              same_entry (caller_key keys) es apart d.0 e (both_entry es ns d.0 m d.1) s.among
              (back_under d.0 m d.1 frame.depth (caller_key keys e) u).1 in
              same_Some m n (sym (subst (λ e. back_frame.keys (caller_key keys e) ≡ Some m) same (named_back d.0 m d.1)) ∙ named_back e n i))
              (λ off. absurd (none_under (was_absent e s.among) (mine.keys (caller_key keys e)) m
              (subst (λ o. IsUnder frame.depth (caller_key keys e) o.owner) (still m off) u)))
              (in_or_not m ns)

      none : ((e : Entry) → Among e es → true ≡ true → caller_key keys e ≡ k → ⊥) →
          KeyAgrees (key_type f k) (back_map (a_key k)) frame.depth k (back_frame.keys k) (look back_objects)
      none off =
          key_kept (other_status k (λ e i. off e i refl)) (names_other keys es ns there frame k (λ e i is. off e i refl (sym is)))
          (record {
            to = λ m u. ⊎_elim
                (λ i. absurd (not_deeper (given_under m i frame.depth k u)))
                (λ o. ap (λ o. o.owner) (still m o))
                (in_or_not m ns);
            back = λ m u. ⊎_elim
                (λ i.
                let d = entry_of m i in
                absurd (off d.0 (both_entry es ns d.0 m d.1) refl (back_under d.0 m d.1 frame.depth k u).1))
                (λ o. record {
                  owner = ap (λ o. o.owner) (still m o);
                  type = ap (λ o. o.type) (still m o);
                  state = ap (λ o. o.state) (still m o);
                })
                (in_or_not m ns);
          })
          (mine.keys k)

  others_under : (d k : ℕ) → d < frame.depth → SameUnder d k (look w.objects) (look back_objects)
  others_under d k lt = record {
    to = λ m u. ⊎_elim
        (λ i. let e = given_under m i d k u in absurd (omega arith))
        (λ o. ap (λ o. o.owner) (still m o))
        (in_or_not m ns);
    back = λ m u. ⊎_elim
        (λ i. let d' = entry_of m i in let e = (back_under d'.0 m d'.1 d k u).0 in absurd (omega arith))
        (λ o. record {
          owner = ap (λ o. o.owner) (still m o);
          type = ap (λ o. o.type) (still m o);
          state = ap (λ o. o.state) (still m o);
        })
        (in_or_not m ns);
  }

  bounded : (n d k : ℕ) → IsUnder d k (look back_objects n).owner → d ≤ c.deepest
  bounded n d k u = ⊎_elim
      (λ i.
      let e = entry_of n i in
      let same = (back_under e.0 n e.1 d k u).0 in
      let depth = depth_is in
      let le = agrees.rest.within in
      omega arith)
      (λ off.
      let v = subst (λ o. IsUnder d k o.owner) (still n off) u in
      let le = left.agrees.rest.bounded n d k v in
      let depth = depth_is in
      let flat = entered.flat in
      ⊎_elim
      (λ (same : d ≡ suc frame.depth). absurd (off (left.only n k (subst (λ d. IsUnder d k (look w.objects n).owner) same v))))
      (λ (other : d ≡ suc frame.depth → ⊥). lower_bound d le other)
      (cases_eq d (suc frame.depth)))
      (in_or_not n ns)
    where
      lower_bound : (d : ℕ) → d ≤ suc frame.depth → (d ≡ suc frame.depth → ⊥) → d ≤ c.deepest
      lower_bound d le other = let depth = depth_is in let flat = entered.flat in omega arith

  pins : (ps : List Pin) → ((e : Entry) → Among e g.clause → is_new e ≡ true → NonePins (caller_key keys e) ps) →
      PinsAgree frame.keys ps → PinsAgree back_frame.keys ps
  pins [] off was = tt
  pins (q ∷ qs) off was =
      (keep q.key (λ e i t same. (off e i t).0 same) ∙ was.0, pins qs (λ e i t. (off e i t).1) was.1)

  -- ---- the caller goes on

  fits_again : VarsFit p f ids last back_frame.keys frame.vars
  fits_again = record {
    fit = λ v ty b i is at. fits_named p last frame.keys back_frame.keys ty b
        (λ k j. keep_scoped k (scoped.vars v k ty i is j)) (mine.vars.fit v ty b i is at);
    there = mine.vars.there;
  }

  pub agrees_again : (hand' : List Handed) → values_of hand' ≡ values_of left.hand →
      FitHanded p last back_frame.keys hand' →
      Agrees p f c back_map ids hand' back_frame back_objects
  agrees_again hand' same fit = record {
    heads = left.agrees.heads;
    placed =
        vars_go_on frame.vars left.frame.vars (values_of hand') frame.depth waits_now c.waiting (look back_objects)
        (owner_of (look back_objects)) refl (λ v. let depth = depth_is in entered.free frame.depth v (omega arith)) left.emptied
        (subst (λ ns. IsPlaced (content (record { vars = left.frame.vars; hand = ns; waits = λ e. (with_waiting frame.depth waits_now c.waiting e).frame.vars; objects = look back_objects })) home (owner_of (look back_objects)))
        (sym same) (rekeyed_placed left.agrees back_objects same_length rekeyed));
    ranked = rekeyed_ranked rekeyed left.agrees.ranked;
    objects = rekeyed_objects left.agrees back_objects same_length rekeyed;
    adopted = rekeyed_adopted left.agrees back_objects same_length rekeyed;
    keys = back_keys;
    vars = record {
      plain = agrees.vars.plain;
      full =
          λ v. subst (λ s. HasVar (is_owning_var f v) s (frame.vars v))
          (sym (clause_other p f keys g.clause call.entries h (a_var v) (λ e i. var_is_no_key))) (agrees.vars.full v);
    };
    fit =
        vars_kept p (rekeyed_grows left.agrees back_objects same_length rekeyed) f ids back_frame.keys frame.vars
        (λ v b at. rekeyed_states left.agrees back_objects same_length rekeyed (objects_in b)) fits_again;
    handed =
        handed_kept p (rekeyed_grows left.agrees back_objects same_length rekeyed) back_frame.keys hand'
        (rekeyed_states left.agrees back_objects same_length rekeyed (values_of hand')) fit;
    rest = record {
      depth = depth_is;
      within = agrees.rest.within;
      named = λ k i. keep k (λ e among t same. (new.fresh e among t).head (subst (λ k. IsTrue (c.head k)) same i)) ∙ agrees.rest.named k i;
      bounded = bounded;
      focused = rekeyed_foci rekeyed c.foci left.agrees.rest.focused;
      pinned = pins c.pins (λ e i t. (new.fresh e i t).pins) agrees.rest.pinned;
      waits = λ d lt. waits_kept p (rekeyed_grows left.agrees back_objects same_length rekeyed) (c.waiting d) d
          (λ k. let depth = depth_is in others_under d k (omega arith))
          (λ v b at. rekeyed_states left.agrees back_objects same_length rekeyed (objects_in b)) (lower d lt);
    };
  }
