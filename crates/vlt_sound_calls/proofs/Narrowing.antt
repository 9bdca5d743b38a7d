-- A call of a function with a bound entry is one of an instance, where the caller knows the one state that the object has.
use Rattle.std.proofs.Common.{◌≡◌, inl, inr, ⊎_elim, ℕ, ◌==◌, Bool, true, false, ◌&&◌, if◌then◌else◌, IsTrue, List, [], ◌∷◌, ◌++◌, map, Option, Some, None, refl, sym, ap, ◌∙◌, subst, slice_get}
use Rattle.std.proofs.lemmas.Bool.{eqb-true, eq-eqb}
use Rattle.std.proofs.lemmas.Option.{same_Some}
use Rattle.std.specs.Option.{option_map, option_and_then}
use Rattle.vlt_core.specs.Core.{States, Tok, a_key, Mode, kept, taken, given, fresh, up_to, Entry, Func, Program}
use Rattle.vlt_core.specs.Lookups.{key_type, key_states_up_to, is_held_before}
use Rattle.vlt_core.specs.Instances.{Bound, bound_at, or_else, bound_in, entry_of_instance, instance, IsOriginOf, IsOrigin}
use Rattle.vlt_core.specs.Maps.{held, states_of, HeldMap, IsStatusBelow, IsBelow, IsWanted, wants_in, stays, Row, row_passed, CanPass, map_after, is_tok}
use Rattle.vlt_core.specs.Rows.{on_option, row, entry_wanted, entry_row, called_row, clause_rows, called_rows}
use Rattle.vlt_core.specs.KindedScopes.{Ids}
use Rattle.vlt_core.proofs.Maps.{within_refl, map_refl, wanted_below, row_below}
use Rattle.vlt_meaning.specs.World as world
use Rattle.vlt_meaning.specs.World.{Object, Frame}
use Rattle.vlt_meaning.specs.Calls.{state_in, state_under, called_instance}
use Rattle.vlt_sound_worlds.specs.Look.{look_in, look}
use Rattle.vlt_sound_worlds.specs.Keys.{KeyAgrees, IsOnly, IsUnder}
use Rattle.vlt_sound_worlds.proofs.KeysLaws.{held_one}
use Rattle.vlt_sound_worlds.specs.Agrees.{Handed, Context, Agrees}
use Rattle.vlt_sound_worlds.proofs.Rows.{row_other, tok_is, tok_itself}
use Rattle.vlt_sound_worlds.proofs.Touch.{held_is}
use Rattle.vlt_sound_worlds.proofs.Leaving.{key_same}
use Rattle.vlt_sound_calls.specs.Callee.{AreApartBy, caller_key, IsCall}
use Rattle.vlt_sound_calls.specs.Among.{Among}
use Rattle.vlt_sound_calls.specs.Bounds.{HasBound}
use Rattle.vlt_sound_calls.proofs.ClauseRows.{AreThere}

-- ---- bound entries

-- the entry that a clause's bound is of
pub record BoundEntry (es : List Entry) (x : Bound) : Type 0 where
  pub entry : Entry
  pub among : Among entry es
  pub mode : entry.mode ≡ up_to x.state
  pub key : entry.key ≡ x.key

pub bound_entry : (es : List Entry) (x : Bound) → bound_in es ≡ Some x → BoundEntry es x
bound_entry [] x e = cc
bound_entry (y ∷ ys) x e = by y.mode refl (bound_entry ys x) e
  where
    later : (bound_in ys ≡ Some x → BoundEntry ys x) → bound_in ys ≡ Some x → BoundEntry (y ∷ ys) x
    later more e = let r = more e in record { entry = r.entry; among = inr r.among; mode = r.mode; key = r.key }

    by : (m : Mode) → y.mode ≡ m → (bound_in ys ≡ Some x → BoundEntry ys x) → or_else (bound_at y.key m) (bound_in ys) ≡ Some x →
        BoundEntry (y ∷ ys) x
    by kept is more e = later more e
    by taken is more e = later more e
    by given is more e = later more e
    by fresh is more e = later more e
    by (up_to b) is more e =
        let same = same_Some (record { key = y.key; state = b }) x e in
        record { entry = y; among = inl refl; mode = is ∙ ap (λ x. up_to x.state) same; key = ap (λ x. x.key) same }

-- ---- rows of a call

module _ (p : Program) (f : Func) (keys : List ℕ) where
  called_first : (e : Entry) (es : List Entry) → AreThere keys (e ∷ es) →
      called_rows p f keys (e ∷ es) ≡ called_row p f (caller_key keys e) e ∷ called_rows p f keys es
  called_first e es there =
      ap (λ o. on_option o (λ k. called_row p f k e ∷ []) ++ called_rows p f keys es) (there e (inl refl))

  called_tok : (k : ℕ) (e : Entry) → (called_row p f k e).tok ≡ a_key k
  called_tok k e = by e.mode
    where
      by : (m : Mode) → (called_row p f k (record e { mode = m })).tok ≡ a_key k
      by kept = refl
      by taken = refl
      by given = refl
      by fresh = refl
      by (up_to b) = refl

  called_bound : (k : ℕ) (e : Entry) (b : ℕ) → e.mode ≡ up_to b → called_row p f k e ≡ row (a_key k) (wants_in (key_states_up_to p f k b)) stays
  called_bound k e b is = ap (λ m. called_row p f k (record e { mode = m })) is

  -- a clause without a bound entry has its plain rows
  pub plain_rows : (es : List Entry) → bound_in es ≡ None → called_rows p f keys es ≡ clause_rows p f keys es
  plain_rows [] e = refl
  plain_rows (x ∷ es) e = by x.mode (λ e. plain_rows es e) e
    where
      with_row : (r : ℕ → Row) → called_rows p f keys es ≡ clause_rows p f keys es →
          on_option (slice_get keys x.key) (λ k. r k ∷ []) ++ called_rows p f keys es ≡ on_option (slice_get keys x.key) (λ k. r k ∷ []) ++ clause_rows p f keys es
      with_row r same = ap (λ rs. on_option (slice_get keys x.key) (λ k. r k ∷ []) ++ rs) same

      by : (m : Mode) → (bound_in es ≡ None → called_rows p f keys es ≡ clause_rows p f keys es) → or_else (bound_at x.key m) (bound_in es) ≡ None →
          called_rows p f keys (record x { mode = m } ∷ es) ≡ clause_rows p f keys (record x { mode = m } ∷ es)
      by kept more e = with_row (λ k. entry_row p f k (record x { mode = kept })) (more e)
      by taken more e = with_row (λ k. entry_row p f k (record x { mode = taken })) (more e)
      by given more e = with_row (λ k. entry_row p f k (record x { mode = given })) (more e)
      by fresh more e = with_row (λ k. entry_row p f k (record x { mode = fresh })) (more e)
      by (up_to b) more e = cc

  -- what a bound entry wants is so before all rows
  pub bound_wanted : (es : List Entry) → AreThere keys es → AreApartBy (caller_key keys) es → (h : HeldMap) →
      CanPass (called_rows p f keys es) h → (e : Entry) (b : ℕ) → Among e es → e.mode ≡ up_to b →
      IsWanted (wants_in (key_states_up_to p f (caller_key keys e) b)) (h (a_key (caller_key keys e)))
  bound_wanted [] there apart h pass e b i is = absurd i
  bound_wanted (x ∷ es) there apart h pass e b i is =
      let pass = subst (λ rs. CanPass rs h) (called_first x es there) pass in
      ⊎_elim
      (λ same.
      let r = called_bound (caller_key keys x) x b (ap (λ d. d.mode) (sym same) ∙ is) in
      let w : IsWanted (wants_in (key_states_up_to p f (caller_key keys x) b)) (h (a_key (caller_key keys x))) =
      subst (λ r. IsWanted r.wanted (h r.tok)) r pass.0 in
      subst (λ d. IsWanted (wants_in (key_states_up_to p f (caller_key keys d) b)) (h (a_key (caller_key keys d)))) (sym same) w)
      (λ rest. subst (IsWanted (wants_in (key_states_up_to p f (caller_key keys e) b)))
      (row_other (called_row p f (caller_key keys x) x) h (a_key (caller_key keys e))
      (λ t. apart.0 e rest (key_same (t ∙ called_tok (caller_key keys x) x))))
      (bound_wanted es (λ d j. there d (inr j)) apart.1 (row_passed (called_row p f (caller_key keys x) x) h) pass.1 e b rest is))
      i

-- ---- a map that knows the one state

-- the states of a bound entry in an instance
abbrev one_state : Program → Func → (key bound origin : ℕ) → States
one_state p g k b o s = s == o && key_states_up_to p g k b s

module _ (p : Program) (f g : Func) (keys : List ℕ) (o : ℕ) where
  abbrev IsNarrow : HeldMap → List Entry → Type 0
  IsNarrow h es = (e : Entry) (b : ℕ) → Among e es → e.mode ≡ up_to b → h (a_key (caller_key keys e)) ≡ held (one_state p g e.key b o)

  -- a row of the clause, and the one of the instance
  row_narrow : (e : Entry) (k : ℕ) (h' h : HeldMap) → IsBelow h' h →
      ((b : ℕ) → e.mode ≡ up_to b → h' (a_key k) ≡ held (one_state p g e.key b o)) →
      IsWanted (called_row p f k e).wanted (h (called_row p f k e).tok) →
      IsWanted (entry_wanted (entry_of_instance p g o e)) (h' (a_key k)) ×
      IsBelow (row_passed (entry_row p f k (entry_of_instance p g o e)) h') (row_passed (called_row p f k e) h)
  row_narrow e k h' h below at w = by e.mode at w
    where
      by : (m : Mode) → ((b : ℕ) → m ≡ up_to b → h' (a_key k) ≡ held (one_state p g e.key b o)) →
          IsWanted (called_row p f k (record e { mode = m })).wanted (h (called_row p f k (record e { mode = m })).tok) →
          IsWanted (entry_wanted (entry_of_instance p g o (record e { mode = m }))) (h' (a_key k)) ×
          IsBelow (row_passed (entry_row p f k (entry_of_instance p g o (record e { mode = m }))) h') (row_passed (called_row p f k (record e { mode = m })) h)
      by kept at w = (wanted_below (entry_wanted (record e { mode = kept })) (h' (a_key k)) (h (a_key k)) (below.each (a_key k)) w, row_below (entry_row p f k (record e { mode = kept })) h' h below)
      by taken at w = (wanted_below (entry_wanted (record e { mode = taken })) (h' (a_key k)) (h (a_key k)) (below.each (a_key k)) w, row_below (entry_row p f k (record e { mode = taken })) h' h below)
      by given at w = (wanted_below (entry_wanted (record e { mode = given })) (h' (a_key k)) (h (a_key k)) (below.each (a_key k)) w, row_below (entry_row p f k (record e { mode = given })) h' h below)
      by fresh at w = (wanted_below (entry_wanted (record e { mode = fresh })) (h' (a_key k)) (h (a_key k)) (below.each (a_key k)) w, row_below (entry_row p f k (record e { mode = fresh })) h' h below)
      by (up_to b) at w =
          let here = at b refl in (
            subst (IsWanted (wants_in (one_state p g e.key b o))) (sym here) (refl, within_refl (one_state p g e.key b o)),
            record { each = λ t. at_token t here (is_tok t (a_key k)) },
          )
        where
          at_token : (t : Tok) → h' (a_key k) ≡ held (one_state p g e.key b o) → (c : Bool) →
              IsStatusBelow (if c then held (one_state p g e.key b o) else h' t) (if c then h (a_key k) else h t)
          at_token t here true = subst (λ s. IsStatusBelow s (h (a_key k))) here (below.each (a_key k))
          at_token t here false = below.each t

  pub narrow : (es : List Entry) → AreThere keys es → AreApartBy (caller_key keys) es → (h' h : HeldMap) → IsBelow h' h → IsNarrow h' es →
      CanPass (called_rows p f keys es) h →
      CanPass (clause_rows p f keys (map (entry_of_instance p g o) es)) h' ×
      IsBelow (map_after (clause_rows p f keys (map (entry_of_instance p g o) es)) h') (map_after (called_rows p f keys es) h)
  narrow [] there apart h' h below at pass = (tt, below)
  narrow (e ∷ es) there apart h' h below at pass =
      let k = caller_key keys e in
      let called = called_first p f keys e es there in
      let made : clause_rows p f keys (map (entry_of_instance p g o) (e ∷ es)) ≡ entry_row p f k (entry_of_instance p g o e) ∷ clause_rows p f keys (map (entry_of_instance p g o) es) =
      ap (λ q. on_option q (λ k. entry_row p f k (entry_of_instance p g o e) ∷ []) ++ clause_rows p f keys (map (entry_of_instance p g o) es)) (there e (inl refl)) in
      let pass = subst (λ rs. CanPass rs h) called pass in
      let first = row_narrow e k h' h below (λ b is. at e b (inl refl) is) pass.0 in
      let rest =
      narrow es (λ d j. there d (inr j)) apart.1 (row_passed (entry_row p f k (entry_of_instance p g o e)) h') (row_passed (called_row p f k e) h) first.1
      (λ d b j is. row_other (entry_row p f k (entry_of_instance p g o e)) h' (a_key (caller_key keys d)) (λ t. apart.0 d j (key_same t)) ∙ at d b (inr j) is)
      pass.1 in (
        subst (λ rs. CanPass rs h') (sym made) (first.0, rest.0),
        subst (λ rs. IsBelow (map_after rs h') (map_after (called_rows p f keys (e ∷ es)) h)) (sym made)
            (subst (λ rs. IsBelow (map_after (clause_rows p f keys (map (entry_of_instance p g o) es)) (row_passed (entry_row p f k (entry_of_instance p g o e)) h')) (map_after rs h)) (sym called) rest.1),
      )

-- ---- the instance of a call

-- the caller, where it knows the state of a bound entry's object: what the instance's clause wants is so, and what the caller
-- knows after it is true
pub record Narrowed (p : Program) (f : Func) (c : Context) (h : HeldMap) (ids : Ids) (hand : List Handed) (frame : Frame)
    (os : List Object) (g : Func) (keys : List ℕ) : Type 0 where
  pub origin : Option ℕ
  pub called : called_instance p g keys frame os ≡ instance p g origin
  pub allowed : IsOrigin p g origin
  pub map : HeldMap
  pub agrees : Agrees p f c map ids hand frame os
  pub pass : CanPass (clause_rows p f keys (instance p g origin).clause) map
  pub below : IsBelow (map_after (clause_rows p f keys (instance p g origin).clause) map) (map_after (called_rows p f keys g.clause) h)

up_to_same : (p : Program) (f g : Func) (k j b s t : ℕ) → key_type f k ≡ Some t → key_type g j ≡ Some t →
    IsTrue (key_states_up_to p f k b s) → IsTrue (key_states_up_to p g j b s)
up_to_same p f g k j b s t e d x = rw d (rw e at x)

state_is : (q : Option Object) → state_in q ≡ (look_in q).state
state_is None = refl
state_is (Some o) = refl

module _ {p : Program} {f : Func} {c : Context} {h : HeldMap} {ids : Ids} {hand : List Handed} {frame : Frame} {os : List Object}
    (agrees : Agrees p f c h ids hand frame os) (g : Func) (keys : List ℕ) (call : IsCall p f g ids keys) (bound : HasBound g)
    (pass : CanPass (called_rows p f keys g.clause) h) where
  -- the object of the bound entry is the only one under its key, in a state that the entry allows
  module _ (x : Bound) (is : bound_in g.clause ≡ Some x) where
    found : BoundEntry g.clause x
    found = bound_entry g.clause x is

    abbrev key : ℕ
    key = caller_key keys found.entry

    wanted : IsWanted (wants_in (key_states_up_to p f key x.state)) (h (a_key key))
    wanted = bound_wanted p f keys g.clause call.entries call.callers h pass found.entry x.state found.among found.mode

    one : IsOnly (world.held frame.depth key) (key_type f key) (states_of (h (a_key key))) frame.depth key (frame.keys key) (look os)
    one = held_one (states_of (h (a_key key))) (held_is (h (a_key key)) wanted.0) (agrees.keys key)

    abbrev state : ℕ
    state = (look os one.number).state

    before : is_held_before found.entry ≡ true
    before = by found.entry.mode found.mode
      where
        by : (m : Mode) → m ≡ up_to x.state → is_held_before (record found.entry { mode = m }) ≡ true
        by (up_to b) e = refl
        by kept e = cc
        by taken e = cc
        by given e = cc
        by fresh e = cc

    within : IsTrue (key_states_up_to p g found.entry.key x.state state)
    within =
        let typed = bound.typed found.entry x.state found.among found.mode in
        up_to_same p f g key found.entry.key x.state state typed.0
        (call.typed found.entry.key typed.0 (call.before found.entry found.among before) typed.1) typed.1 (wanted.1.each state one.state)

    state_found : state_under keys frame os x.key ≡ state
    state_found =
        ap (λ k. state_under keys frame os k) (sym found.key) ∙
        (ap (λ k. state_in (option_and_then (slice_get os) (option_and_then frame.keys k))) (call.entries found.entry found.among) ∙
        (ap (λ n. state_in (option_and_then (slice_get os) n)) one.named ∙ state_is (slice_get os one.number)))

    abbrev states : States
    states = one_state p g found.entry.key x.state state

    has_state : IsTrue (states state)
    has_state = rw (eq-eqb state state refl) within

    abbrev narrower : HeldMap
    narrower t = if is_tok t (a_key key) then held states else h t

    status_below : IsStatusBelow (held states) (h (a_key key))
    status_below = record { kind = sym wanted.0; within = record { each = λ s e. in_it s (states_of (h (a_key key))) one.state e } }
      where
        in_it : (s : ℕ) (S : States) → IsTrue (S state) → IsTrue (states s) → IsTrue (S s)
        in_it s S has e = by (s == state) refl e
          where
            by : (b : Bool) → (s == state) ≡ b → IsTrue (b && key_states_up_to p g found.entry.key x.state s) → IsTrue (S s)
            by true q e = subst (λ s. IsTrue (S s)) (sym (eqb-true s state q)) has
            by false q e = absurd (none e)
              where
                none : IsTrue false → ⊥
                none e = cc

    map_below : IsBelow narrower h
    map_below = record { each = λ t. by t (is_tok t (a_key key)) refl }
      where
        by : (t : Tok) (b : Bool) → is_tok t (a_key key) ≡ b → IsStatusBelow (if b then held states else h t) (h t)
        by t true q = subst (λ t. IsStatusBelow (held states) (h t)) (sym (tok_is t (a_key key) q)) status_below
        by t false q = (map_refl h).each t

    keys_agree : (j : ℕ) → KeyAgrees (key_type f j) (narrower (a_key j)) frame.depth j (frame.keys j) (look os)
    keys_agree j = by (j == key) refl
      where
        here : KeyAgrees (key_type f key) (held states) frame.depth key (frame.keys key) (look os)
        here = record {
          held = λ n e.
              let same : n ≡ one.number = one.only n (subst (IsUnder frame.depth key) (sym e) (refl, refl)) in
              (((agrees.keys key).held n e).0, subst (λ n. IsTrue (states (look os n).state)) (sym same) has_state);
          lent = λ n e.
              let same : n ≡ one.number = one.only n (subst (IsUnder frame.depth key) (sym e) (refl, refl)) in
              absurd (clash (sym one.owned ∙ (ap (λ n. (look os n).owner) (sym same) ∙ e)));
          has = record { number = one.number; named = one.named; owned = one.owned };
        }
          where
            clash : world.held frame.depth key ≡ world.lent frame.depth key → ⊥
            clash e = cc

        by : (b : Bool) → (j == key) ≡ b → KeyAgrees (key_type f j) (if b then held states else h (a_key j)) frame.depth j (frame.keys j) (look os)
        by true q = subst (λ j. KeyAgrees (key_type f j) (held states) frame.depth j (frame.keys j) (look os)) (sym (eqb-true j key q)) here
        by false q = agrees.keys j

    agrees_narrower : Agrees p f c narrower ids hand frame os
    agrees_narrower = record {
      heads = agrees.heads;
      placed = agrees.placed;
      ranked = agrees.ranked;
      objects = agrees.objects;
      adopted = agrees.adopted;
      keys = keys_agree;
      vars = record { plain = agrees.vars.plain; full = agrees.vars.full };
      fit = agrees.fit;
      handed = agrees.handed;
      rest = agrees.rest;
    }

    -- each bound entry is this one
    at : (e : Entry) (b : ℕ) → Among e g.clause → e.mode ≡ up_to b → narrower (a_key (caller_key keys e)) ≡ held (one_state p g e.key b state)
    at e b i m =
        let same = same_Some (record { key = e.key; state = b }) x (sym (bound.only e b i m) ∙ is) in
        let k : e.key ≡ found.entry.key = ap (λ x. x.key) same ∙ sym found.key in
        let s : b ≡ x.state = ap (λ x. x.state) same in
        let t : is_tok (a_key (caller_key keys e)) (a_key key) ≡ true =
        ap (λ j. is_tok (a_key (caller_key keys (record e { key = j }))) (a_key key)) k ∙ tok_itself (a_key key) in
        ap (λ c. if c then held states else h (a_key (caller_key keys e))) t ∙
        (ap (λ j. held (one_state p g j x.state state)) (sym k) ∙ ap (λ b. held (one_state p g e.key b state)) (sym s))

    narrowed_some : Narrowed p f c h ids hand frame os g keys
    narrowed_some =
        let both = narrow p f g keys state g.clause call.entries call.callers narrower h map_below at pass in
        record {
          origin = Some state;
          called =
              ap (λ q. instance p g (option_map (λ b. state_under keys frame os b.key) q)) is ∙
              ap (λ s. instance p g (Some s)) state_found;
          allowed =
              subst (λ q. IsOriginOf p g q (Some state)) (sym is)
              (subst (λ k. IsTrue (key_states_up_to p g k x.state state)) found.key within);
          map = narrower;
          agrees = agrees_narrower;
          pass = both.0;
          below = both.1;
        }

  pub narrowed : Narrowed p f c h ids hand frame os g keys
  narrowed = by (bound_in g.clause) refl
    where
      by : (q : Option Bound) → bound_in g.clause ≡ q → Narrowed p f c h ids hand frame os g keys
      by None is =
          let same = plain_rows p f keys g.clause is in
          record {
            origin = None;
            called = ap (λ q. instance p g (option_map (λ b. state_under keys frame os b.key) q)) is;
            allowed = subst (λ q. IsOriginOf p g q None) (sym is) tt;
            map = h;
            agrees = agrees;
            pass = subst (λ rs. CanPass rs h) same pass;
            below = subst (λ rs. IsBelow (map_after (clause_rows p f keys g.clause) h) (map_after rs h)) (sym same) (map_refl (map_after (clause_rows p f keys g.clause) h));
          }
      by (Some x) is = narrowed_some x is
