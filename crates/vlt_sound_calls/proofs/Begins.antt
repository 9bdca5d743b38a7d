-- What is under the keys of a callee where it begins, and under those of the caller that waits.
use Rattle.std.proofs.Common.{◌≡◌, ◌⊎◌, inl, inr, ⊎_elim, ℕ, suc, ◌==◌, ◌<◌, ◌≤◌, Bool, true, false, ◌&&◌, if◌then◌else◌, IsTrue, List, [], ◌∷◌, Option, Some, None, refl, sym, ap, ◌∙◌, subst, arith}
use Rattle.std.proofs.lemmas.Bool.{cases_eq, cases_Bool, eq-eqb, ne_eqb, lt-ltb}
use Rattle.std.proofs.lemmas.Option.{same_Some}
use Rattle.vlt_core.specs.Core.{States, a_key, Entry, Func, Program}
use Rattle.vlt_core.specs.Lookups.{key_type, all_states, states_of_type, states_or_all, is_held_before, before_set}
use Rattle.vlt_core.specs.Types.{stands_for}
use Rattle.vlt_core.specs.Maps.{Status, absent, held, kind_of, is_held, states_of, HeldMap, IsWanted, wants_absent, CanPass}
use Rattle.vlt_core.specs.Rows.{held_in, entry_wanted, clause_rows}
use Rattle.vlt_core.specs.Derives.{status_at_start}
use Rattle.vlt_core.specs.KindedScopes.{Ids}
use Rattle.vlt_meaning.specs.World as world
use Rattle.vlt_meaning.specs.World.{gone, Object, Frame}
use Rattle.vlt_meaning.specs.Objects.{with_owner}
use Rattle.vlt_meaning.specs.Calls.{handed_over, callee_key}
use Rattle.vlt_sound_worlds.specs.Look.{look, IsLive}
use Rattle.vlt_sound_worlds.proofs.Look.{live_within}
use Rattle.vlt_sound_worlds.specs.Keys.{IsOfType, KeyAgrees, IsUnder, SameUnder, IsOnly}
use Rattle.vlt_sound_worlds.proofs.KeysLaws.{key_kept, key_absent, key_held, held_one, under_is}
use Rattle.vlt_sound_worlds.specs.Agrees.{Handed, Context, Agrees}
use Rattle.vlt_sound_worlds.specs.Typed.{IsLimited}
use Rattle.vlt_sound_worlds.proofs.Touch.{held_is}
use Rattle.vlt_sound_worlds.proofs.Leaving.{key_same}
use Rattle.vlt_sound_calls.specs.Callee.{AreApartBy, caller_key, IsParamKey, IsCall, without}
use Rattle.vlt_sound_calls.specs.Among.{Among}
use Rattle.vlt_sound_calls.proofs.Entries.{same_entry, Sought, sought}
use Rattle.vlt_sound_calls.proofs.ClauseRows.{clause_wanted, without_here, without_other}
use Rattle.vlt_sound_calls.proofs.Over.{Holds, HoldsAll, Over, Stays, handed}

-- ---- the status of a key where a body begins

module _ (p : Program) (g : Func) where
  pub status_here : (es : List Entry) → AreApartBy (λ e. e.key) es → (e : Entry) → Among e es →
      is_held_before e ≡ true → status_at_start p g es e.key ≡ held (before_set p g e)
  status_here [] apart e i before = absurd i
  status_here (x ∷ es) apart e (inl same) before =
      let b : is_held_before x ≡ true = ap is_held_before (sym same) ∙ before in
      let k : (e.key == x.key) ≡ true = eq-eqb e.key x.key (ap (λ e. e.key) same) in
      rw (b, k) (ap (λ e. held (before_set p g e)) (sym same))
  status_here (x ∷ es) apart e (inr rest) before =
      let off : (e.key == x.key) ≡ false = ne_eqb e.key x.key (apart.0 e rest) in
      rw off (by (is_held_before x) (status_here es apart.1 e rest before))
    where
      by : (b : Bool) → status_at_start p g es e.key ≡ held (before_set p g e) →
          (if b && false then held (before_set p g x) else status_at_start p g es e.key) ≡ held (before_set p g e)
      by true again = again
      by false again = again

  pub status_none : (es : List Entry) (k : ℕ) →
      ((e : Entry) → Among e es → is_held_before e ≡ true → e.key ≡ k → ⊥) → status_at_start p g es k ≡ absent
  status_none [] k none = refl
  status_none (x ∷ es) k none =
      ⊎_elim
      (λ b. ⊎_elim
      (λ same. absurd (none x (inl refl) b same))
      (λ other. rw (b, ne_eqb k x.key (λ e. other (sym e))) (status_none es k (λ e i. none e (inr i))))
      (cases_eq x.key k))
      (λ b. rw b (status_none es k (λ e i. none e (inr i))))
      (cases_Bool (is_held_before x))

-- ---- what a held entry wants

held_kind : (o : Option States) (s : Status) → IsWanted (held_in o) s → kind_of s ≡ is_held
held_kind None s w = w
held_kind (Some S) s w = w.0

before_wanted : (e : Entry) (s : Status) → is_held_before e ≡ true → IsWanted (entry_wanted e) s →
    IsWanted (held_in e.before) s
before_wanted e s b w = subst (λ b. IsWanted (if b then held_in e.before else wants_absent) s) b w

-- a type's states, where a key that stands for another one has that one's type
pub states_fit : (p : Program) (wanted type : Option ℕ) (t s : ℕ) → ((u : ℕ) → wanted ≡ Some u → type ≡ Some u) →
    IsOfType type t → IsTrue (all_states p t s) → s < 32 → IsTrue (states_of_type p wanted s) × IsOfType wanted t
states_fit p None type t s same is state small = (lt-ltb s 32 small, tt)
states_fit p (Some u) type t s same is state small =
    let e : t ≡ u = subst (λ o. IsOfType o t) (same u refl) is in
    (subst (λ u. IsTrue (all_states p u s)) e state, e)

pub states_allowed : (p : Program) (g : Func) (k : ℕ) (o : Option States) (status : Status) (s : ℕ) →
    IsWanted (held_in o) status → IsTrue (states_of status s) → IsTrue (states_of_type p (key_type g k) s) →
    IsTrue (states_or_all p g k o s)
states_allowed p g k None status s w is all = all
states_allowed p g k (Some S) status s w is all = w.1.each s is

module _ {p : Program} {f : Func} {c : Context} {h : HeldMap} {ids : Ids} {hand : List Handed} {frame : Frame} {os : List Object}
    (agrees : Agrees p f c h ids hand frame os) (g : Func) (keys : List ℕ) (call : IsCall p f g ids keys)
    (limited : IsLimited p) (flat : c.deepest ≡ c.depth) (pass : CanPass (clause_rows p f keys g.clause) h) where
  abbrev AHeld : Entry → Type 0
  AHeld e =
      IsOnly (world.held frame.depth (caller_key keys e)) (key_type f (caller_key keys e))
      (states_of (h (a_key (caller_key keys e)))) frame.depth (caller_key keys e) (frame.keys (caller_key keys e)) (look os)

  wanted : (e : Entry) → Among e g.clause → is_held_before e ≡ true →
      IsWanted (held_in e.before) (h (a_key (caller_key keys e)))
  wanted e i b =
      before_wanted e (h (a_key (caller_key keys e))) b
      (clause_wanted p f keys g.clause call.entries call.callers h pass e i)

  held_entry : (e : Entry) → Among e g.clause → is_held_before e ≡ true → AHeld e
  held_entry e i b =
      let s = h (a_key (caller_key keys e)) in
      held_one (states_of s) (held_is s (held_kind e.before s (wanted e i b))) (agrees.keys (caller_key keys e))

  held_live : (n d k : ℕ) → (look os n).owner ≡ world.held d k → IsLive (look os) n
  held_live n d k own e = clash (sym e ∙ own)
    where
      clash : gone ≡ world.held d k → ⊥
      clash e = cc

  pub holds : HoldsAll keys frame os g.clause
  holds e i b =
      let one = held_entry e i b in
      record {
        number = one.number;
        key = call.entries e i;
        named = one.named;
        within = live_within os one.number (held_live one.number frame.depth (caller_key keys e) one.owned);
        owned = one.owned;
      }

  number_is : (e : Entry) (x y : Holds keys frame os e) → x.number ≡ y.number
  number_is e x y = same_Some x.number y.number (sym x.named ∙ y.named)

  -- the object is of the callee's key's type, in a state of the entry's
  pub passes_states : (e : Entry) → Among e g.clause → is_held_before e ≡ true → (x : Holds keys frame os e) →
      IsTrue (before_set p g e (look os x.number).state) × IsOfType (key_type g e.key) (look os x.number).type
  passes_states e i b x =
      let one = held_entry e i b in
      let same : one.number ≡ x.number = same_Some one.number x.number (sym one.named ∙ x.named) in
      let live = held_live one.number frame.depth (caller_key keys e) one.owned in
      let state = (agrees.objects one.number live).state in
      let small = (limited.narrow (look os one.number).type).below (look os one.number).state state in
      let fit =
      states_fit p (key_type g e.key) (key_type f (caller_key keys e)) (look os one.number).type (look os one.number).state
      (λ t. call.typed e.key t (call.before e i b)) one.typed state small in
      subst (λ n. IsTrue (before_set p g e (look os n).state) × IsOfType (key_type g e.key) (look os n).type) same
      (states_allowed p g e.key e.before (h (a_key (caller_key keys e))) (look os one.number).state (wanted e i b) one.state fit.0, fit.1)

  pub callee_names : (k : ℕ) → IsParamKey g k → callee_key g keys frame k ≡ frame.keys (stands_for keys k)
  callee_names k param = rw (call.old k param, call.params k param) refl

  abbrev over : List Object
  over = handed_over keys frame g.clause os

  shape : (n : ℕ) → Over keys frame os g.clause n (look over n) ⊎ Stays keys frame os g.clause n (look over n)
  shape n = handed keys frame os g.clause holds n

  too_deep : (n k : ℕ) → IsUnder (suc frame.depth) k (look os n).owner → ⊥
  too_deep n k u =
      let le = agrees.rest.bounded n (suc frame.depth) k u in
      let depth = agrees.rest.depth in
      absurd (omega arith)

  not_itself : (d : ℕ) → suc d ≡ d → ⊥
  not_itself d e = absurd (omega arith)

  over_under : (n : ℕ) → (o : Over keys frame os g.clause n (look over n)) → (d k : ℕ) → IsUnder d k (look over n).owner →
      (suc frame.depth ≡ d) × (o.entry.key ≡ k)
  over_under n o d k u = subst (λ q. IsUnder d k q.owner) o.now u

  stays_under : (n : ℕ) → Stays keys frame os g.clause n (look over n) → (d k : ℕ) → IsUnder d k (look over n).owner →
      IsUnder d k (look os n).owner
  stays_under n s d k u = subst (λ o. IsUnder d k o.owner) s.now u

  -- an object that is handed over was under the caller's key
  was_under : (n : ℕ) → (o : Over keys frame os g.clause n (look over n)) →
      (look os n).owner ≡ world.held frame.depth (caller_key keys o.entry)
  was_under n o = ap (λ m. (look os m).owner) o.is ∙ o.holds.owned

  -- ---- under the callee's keys

  pub callee_keys : (k : ℕ) →
      KeyAgrees (key_type g k) (status_at_start p g g.clause k) (suc frame.depth) k (callee_key g keys frame k) (look over)
  callee_keys k = ⊎_elim mine none (sought is_held_before (λ e. e.key) g.clause k)
    where
      none : ((e : Entry) → Among e g.clause → is_held_before e ≡ true → e.key ≡ k → ⊥) →
          KeyAgrees (key_type g k) (status_at_start p g g.clause k) (suc frame.depth) k (callee_key g keys frame k) (look over)
      none off = key_absent (status_none p g g.clause k off) (λ m u. ⊎_elim
          (λ o. off o.entry o.among o.before (over_under m o (suc frame.depth) k u).1)
          (λ s. too_deep m k (stays_under m s (suc frame.depth) k u))
          (shape m))

      mine : Sought is_held_before (λ e. e.key) g.clause k →
          KeyAgrees (key_type g k) (status_at_start p g g.clause k) (suc frame.depth) k (callee_key g keys frame k) (look over)
      mine s =
          subst (λ k. KeyAgrees (key_type g k) (status_at_start p g g.clause k) (suc frame.depth) k (callee_key g keys frame k) (look over))
          s.is
          (key_held (before_set p g e) (status_here p g g.clause call.apart e s.among s.passes) (record {
            number = x.number;
            named = callee_names e.key (call.before e s.among s.passes) ∙ x.named;
            owned = owned;
            typed = subst (λ o. IsOfType (key_type g e.key) o.type) (sym new) fits.1;
            state = subst (λ o. IsTrue (before_set p g e o.state)) (sym new) fits.0;
            only = λ m u. ⊎_elim
                (λ o.
                let same : o.entry ≡ e =
                same_entry (λ e. e.key) g.clause call.apart o.entry e o.among s.among (over_under m o (suc frame.depth) e.key u).1 in
                o.is ∙ same_number o.entry same o.holds)
                (λ st. absurd (too_deep m e.key (stays_under m st (suc frame.depth) e.key u)))
                (shape m);
          }))
        where
          e : Entry
          e = s.entry

          x : Holds keys frame os e
          x = holds e s.among s.passes

          fits : IsTrue (before_set p g e (look os x.number).state) × IsOfType (key_type g e.key) (look os x.number).type
          fits = passes_states e s.among s.passes x

          same_number : (d : Entry) → d ≡ e → (y : Holds keys frame os d) → y.number ≡ x.number
          same_number d same y =
              same_Some y.number x.number (sym y.named ∙ (ap (λ e. frame.keys (caller_key keys e)) same ∙ x.named))

          new : look over x.number ≡ with_owner (world.held (suc frame.depth) e.key) (look os x.number)
          new = ⊎_elim
              (λ o.
              let both : world.held frame.depth (caller_key keys o.entry) ≡ world.held frame.depth (caller_key keys e) =
              sym (was_under x.number o) ∙ x.owned in
              let same : o.entry ≡ e =
              same_entry (caller_key keys) g.clause call.callers o.entry e o.among s.among (held_keys both) in
              o.now ∙ ap (λ d. with_owner (world.held (suc frame.depth) d.key) (look os x.number)) same)
              (λ st. absurd (st.none e s.among s.passes x refl))
              (shape x.number)
            where
              held_keys : {d a b : ℕ} → world.held d a ≡ world.held d b → a ≡ b
              held_keys {d} {a} {b} q = cc

          owned : (look over x.number).owner ≡ world.held (suc frame.depth) e.key
          owned = ap (λ o. o.owner) new

  -- ---- under the caller's keys

  pub waiting_keys : (k : ℕ) →
      KeyAgrees (key_type f k) (without keys g.clause h (a_key k)) frame.depth k (frame.keys k) (look over)
  waiting_keys k = ⊎_elim mine none (sought is_held_before (caller_key keys) g.clause k)
    where
      mine : Sought is_held_before (caller_key keys) g.clause k →
          KeyAgrees (key_type f k) (without keys g.clause h (a_key k)) frame.depth k (frame.keys k) (look over)
      mine s =
          subst (λ k. KeyAgrees (key_type f k) (without keys g.clause h (a_key k)) frame.depth k (frame.keys k) (look over)) s.is
          (key_absent (without_here keys g.clause h s.entry s.among s.passes) (λ m u. ⊎_elim
          (λ o. not_itself frame.depth (over_under m o frame.depth (caller_key keys s.entry) u).0)
          (λ st.
          let x = holds s.entry s.among s.passes in
          let name =
          under_is (agrees.keys (caller_key keys s.entry)) m (stays_under m st frame.depth (caller_key keys s.entry) u) in
          st.none s.entry s.among s.passes x (same_Some m x.number (sym name ∙ x.named)))
          (shape m)))

      none : ((e : Entry) → Among e g.clause → is_held_before e ≡ true → caller_key keys e ≡ k → ⊥) →
          KeyAgrees (key_type f k) (without keys g.clause h (a_key k)) frame.depth k (frame.keys k) (look over)
      none off =
          key_kept (without_other keys g.clause h (a_key k) (λ e i b same. off e i b (sym (key_same same)))) refl
          (record {
            to = λ m u. ⊎_elim
                (λ o.
                let at : IsUnder frame.depth k (world.held frame.depth (caller_key keys o.entry)) =
                subst (IsUnder frame.depth k) (was_under m o) u in
                absurd (off o.entry o.among o.before at.1))
                (λ s. ap (λ o. o.owner) s.now)
                (shape m);
            back = λ m u. ⊎_elim
                (λ o. absurd (not_itself frame.depth (over_under m o frame.depth k u).0))
                (λ s. record {
                  owner = ap (λ o. o.owner) s.now;
                  type = ap (λ o. o.type) s.now;
                  state = ap (λ o. o.state) s.now;
                })
                (shape m);
          })
          (agrees.keys k)

  -- ---- under the keys of other functions that wait

  pub others_under : (d k : ℕ) → d < frame.depth → SameUnder d k (look os) (look over)
  others_under d k lt = record {
    to = λ m u. ⊎_elim
        (λ o.
        let at : IsUnder d k (world.held frame.depth (caller_key keys o.entry)) =
        subst (IsUnder d k) (was_under m o) u in
        let same : frame.depth ≡ d = at.0 in
        absurd (omega arith))
        (λ s. ap (λ o. o.owner) s.now)
        (shape m);
    back = λ m u. ⊎_elim
        (λ o. let same : suc frame.depth ≡ d = (over_under m o d k u).0 in absurd (omega arith))
        (λ s. record {
          owner = ap (λ o. o.owner) s.now;
          type = ap (λ o. o.type) s.now;
          state = ap (λ o. o.state) s.now;
        })
        (shape m);
  }

  pub over_bounded : (n d k : ℕ) → IsUnder d k (look over n).owner → d ≤ suc frame.depth
  over_bounded n d k u = ⊎_elim
      (λ o. let same : suc frame.depth ≡ d = (over_under n o d k u).0 in omega arith)
      (λ s.
      let le = agrees.rest.bounded n d k (stays_under n s d k u) in
      let depth = agrees.rest.depth in
      omega arith)
      (shape n)
