-- A variable that is switched on: its parts are handed over, and the objects of its case's keys go under them. Meanwhile
-- it is out of scope, and has what isn't under its key yet.
use Rattle.std.proofs.Common.{◌≡◌, inl, ⊎_elim, ℕ, ◌<◌, ◌≤◌, ◌==◌, Bool, true, false, not, IsTrue, if◌then◌else◌, List, [], ◌∷◌, ◌++◌, length, filter, map, Option, Some, None, refl, sym, ap, ◌∙◌, subst, arith}
use Rattle.std.proofs.lemmas.Bool.{cases_eq, eqb-true, eq-eqb, ne_eqb, or_left, or_right}
use Rattle.vlt_core.specs.Core.{Tok, a_key, a_var, Func, Program}
use Rattle.vlt_core.specs.Lookups.{is_owning_var, owns, key_type, KeyIn}
use Rattle.vlt_core.specs.Maps.{absent, held, full, HeldMap, wants_absent, becomes_held, Row, is_tok, row_passed, CanPass, map_after}
use Rattle.vlt_core.specs.Rows.{row}
use Rattle.vlt_core.specs.KindedHeads.{has}
use Rattle.vlt_core.specs.KindedScopes.{Ids}
use Rattle.vlt_core_laws.proofs.Ids.{or_split}
use Rattle.vlt_meaning.specs.World.{Value, of_case, objects_in, Owner, loose, is_loose, adopted_by, gone, Object, Frame, World, no_value, other_object, wrong_state}
use Rattle.vlt_meaning.specs.World as world
use Rattle.vlt_meaning.specs.Found.{◌>>=◌, or_fault, if_so}
use Rattle.vlt_meaning.specs.Objects.{with_changed_object, with_owner, owned_at, in_states}
use Rattle.vlt_meaning.specs.Step.{Step, with_changed, set_at}
use Rattle.vlt_meaning.specs.Step as step
use Rattle.vlt_meaning.specs.Operands.{case_object, with_case_opened}
use Rattle.vlt_sound_worlds.specs.Look.{look, ChangesOne}
use Rattle.vlt_sound_worlds.proofs.Look.{changes_one, owns_one, live_within}
use Rattle.vlt_sound_worlds.proofs.Ranks.{ranked_root}
use Rattle.vlt_sound_worlds.specs.Members.{In}
use Rattle.vlt_sound_worlds.specs.Roots.{Root, in_var, in_hand, in_wait, in_cell, owned_by, cell_of, content, home}
use Rattle.vlt_sound_worlds.proofs.Members.{in_left}
use Rattle.vlt_sound_worlds.proofs.Placed as placed
use Rattle.vlt_sound_worlds.proofs.Roots.{homes, same_root}
use Rattle.vlt_sound_worlds.specs.Keys.{KeyAgrees, IsUnder, IsOfType}
use Rattle.vlt_sound_worlds.proofs.KeysLaws.{key_kept, key_held, none_under, under_one}
use Rattle.vlt_sound_worlds.specs.Scene.{Focus}
use Rattle.vlt_sound_worlds.specs.Fits.{Names}
use Rattle.vlt_sound_worlds.specs.Agrees.{HasVar, Handed, values_of, FitHanded, Context, FociAgree, scene, stock, Agrees}
use Rattle.vlt_sound_worlds.specs.Safe.{Goal, Safe}
use Rattle.vlt_sound_worlds.proofs.Rows.{row_here, row_other}
use Rattle.vlt_sound_worlds.proofs.Touch.{named}
use Rattle.vlt_sound_worlds.proofs.Safe.{found_safe}
use Rattle.vlt_sound_worlds.proofs.FrameChanges.{set_here, set_other, rest_with_var}
use Rattle.vlt_sound_worlds.proofs.FrameOwners.{agrees_owner, ChangesTok, cells_stay}
use Rattle.vlt_sound_worlds.proofs.Leaving.{key_same, var_is_no_key, length_changed}
use Rattle.vlt_sound_worlds.proofs.Moved.{owned_found}
use Rattle.vlt_sound_statements.proofs.Facts.{absent_is}
use Rattle.vlt_sound_statements.specs.Opened.{IsOpened, AreOpened}

-- ---- scopes and maps

-- the scope without the variable
abbrev pub apart_from : (v : ℕ) → Ids → Ids
apart_from v ids = record ids { vars = filter (λ u. not (u == v)) ids.vars }

clash : true ≡ false → ⊥
clash e = cc

kept_in : (v u : ℕ) (ns : List ℕ) → has (filter (λ u. not (u == v)) ns) u ≡ true → (has ns u ≡ true) × (u ≡ v → ⊥)
kept_in v u [] e = cc
kept_in v u (m ∷ ns) e = by (m == v) refl e (λ more. kept_in v u ns more)
  where
    by : (b : Bool) → (m == v) ≡ b →
        has (if not b then m ∷ filter (λ u. not (u == v)) ns else filter (λ u. not (u == v)) ns) u ≡ true →
        (has (filter (λ u. not (u == v)) ns) u ≡ true → (has ns u ≡ true) × (u ≡ v → ⊥)) →
        (has (m ∷ ns) u ≡ true) × (u ≡ v → ⊥)
    by true q e more = let r = more e in (or_right (m == u) (has ns u) r.0, r.1)
    by false q e more = ⊎_elim
        (λ same. (or_left (m == u) (has ns u) same, λ is. clash (sym (eq-eqb m v (eqb-true m u same ∙ is)) ∙ q)))
        (λ rest. let r = more rest in (or_right (m == u) (has ns u) r.0, r.1))
        (or_split (m == u) (has (filter (λ u. not (u == v)) ns) u) e)

back_in : (v u : ℕ) (ns : List ℕ) → has ns u ≡ true → (u ≡ v → ⊥) → has (filter (λ u. not (u == v)) ns) u ≡ true
back_in v u [] e other = cc
back_in v u (m ∷ ns) e other = ⊎_elim
    (λ same. by (m == v) (ne_eqb m v (λ is. other (sym (eqb-true m u same) ∙ is))) same)
    (λ rest. more (m == v) (back_in v u ns rest other))
    (or_split (m == u) (has ns u) e)
  where
    by : (b : Bool) → b ≡ false → (m == u) ≡ true →
        has (if not b then m ∷ filter (λ u. not (u == v)) ns else filter (λ u. not (u == v)) ns) u ≡ true
    by true q same = absurd (clash q)
    by false q same = or_left (m == u) (has (filter (λ u. not (u == v)) ns) u) same

    more : (b : Bool) → has (filter (λ u. not (u == v)) ns) u ≡ true →
        has (if not b then m ∷ filter (λ u. not (u == v)) ns else filter (λ u. not (u == v)) ns) u ≡ true
    more true e = e
    more false e = or_right (m == u) (has (filter (λ u. not (u == v)) ns) u) e

-- the map in which the variable has a value still
abbrev pub with_full : (v : ℕ) → HeldMap → HeldMap
with_full v m t = if is_tok t (a_var v) then full else m t

abbrev pub key_row : KeyIn → Row
key_row k = row (a_key k.key) wants_absent (becomes_held k.states)

-- a variable set twice has what it was set to last
pub with_var_twice : (v : ℕ) (a b : Option Value) (frame : Frame) →
    step.with_var v b (step.with_var v a frame) ≡ step.with_var v b frame
with_var_twice v a b frame = ap (λ vars. record frame { vars = vars }) (λ i u. (at u) i)
  where
    at : (u : ℕ) → set_at v b (set_at v a frame.vars) u ≡ set_at v b frame.vars u
    at u = by (u == v)
      where
        by : (t : Bool) → (if t then b else (if t then a else frame.vars u)) ≡ (if t then b else frame.vars u)
        by true = refl
        by false = refl

-- ---- out of the scope

module _ {p : Program} {f : Func} {c : Context} {h : HeldMap} {ids : Ids} {frame : Frame} {os : List Object}
    (agrees : Agrees p f c h ids [] frame os) (v : ℕ) (a rest : Value) (hand : List Handed)
    (value : frame.vars v ≡ Some a) (owner : is_owning_var f v ≡ true) (status : h (a_var v) ≡ full) where
  -- what the hand has is handed over, and the variable keeps the rest, out of scope
  pub agrees_split : objects_in a ≡ values_of hand ++ objects_in rest →
      FitHanded p (scene c os agrees.heads) frame.keys hand →
      Agrees p f c h (apart_from v ids) hand (step.with_var v (Some rest) frame) os
  agrees_split splits fits = record {
    heads = agrees.heads;
    placed = placed.shifted home same_root agrees.placed (in_var v) in_hand (values_of hand) (objects_in rest) []
        (record {
          apart = λ e. cc;
          was = ap owned_by value ∙ splits;
          left = ap owned_by (set_here v (Some rest) frame.vars);
          before = refl;
          now = refl;
          others = same_content;
        })
        (record {
          those = λ n i. (agrees.placed.here (in_var v) n (subst (In n) (sym (ap owned_by value ∙ splits)) (in_left n (values_of hand) (objects_in rest) i))).1;
          others = λ n i. refl;
        });
    ranked = agrees.ranked;
    objects = agrees.objects;
    adopted = agrees.adopted;
    keys = agrees.keys;
    vars = record {
      plain = λ u e. ⊎_elim
          (λ same. absurd (clash (sym owner ∙ (ap (is_owning_var f) (sym same) ∙ e))))
          (λ other. ap owned_by (set_other v (Some rest) frame.vars u other) ∙ agrees.vars.plain u e)
          (cases_eq u v);
      full = λ u. ⊎_elim
          (λ same. subst (λ u. HasVar (is_owning_var f u) (h (a_var u)) (set_at v (Some rest) frame.vars u)) (sym same)
          (subst (λ s. HasVar (is_owning_var f v) s (set_at v (Some rest) frame.vars v)) (sym status) (rest, set_here v (Some rest) frame.vars)))
          (λ other. subst (HasVar (is_owning_var f u) (h (a_var u))) (sym (set_other v (Some rest) frame.vars u other)) (agrees.vars.full u))
          (cases_eq u v);
    };
    fit = record {
      fit = λ u t b scoped type at.
          let out = kept_in v u ids.vars scoped in
          agrees.fit.fit u t b out.0 type (sym (set_other v (Some rest) frame.vars u out.1) ∙ at);
      there = λ u t scoped type plain.
          let out = kept_in v u ids.vars scoped in
          let r = agrees.fit.there u t out.0 type plain in
          (r.0, set_other v (Some rest) frame.vars u out.1 ∙ r.1);
    };
    handed = fits;
    rest = rest_with_var v _ agrees.rest;
  }
    where
      same_content : (P : Root) → (P ≡ in_var v → ⊥) → (P ≡ in_hand → ⊥) →
          content (stock c hand (step.with_var v (Some rest) frame) os) P ≡ content (stock c [] frame os) P
      same_content (in_var u) x y = ap owned_by (set_other v (Some rest) frame.vars u (λ e. x (ap in_var e)))
      same_content in_hand x y = absurd (y refl)
      same_content (in_wait d u) x y = refl
      same_content (in_cell n i) x y = refl

-- ---- back into the scope

key_is_no_var : {k v : ℕ} → a_key k ≡ a_var v → ⊥
key_is_no_var e = cc

var_same : {u v : ℕ} → a_var u ≡ a_var v → u ≡ v
var_same e = ap number e
  where
    number : Tok → ℕ
    number (a_key k) = k
    number (a_var v) = v

module _ {p : Program} {f : Func} {c : Context} {h : HeldMap} (ids : Ids) {hand : List Handed} {frame : Frame} {os : List Object}
    (v : ℕ) (agrees : Agrees p f c h (apart_from v ids) hand frame os) (a : Value)
    (value : frame.vars v ≡ Some a) (none : objects_in a ≡ []) (owner : is_owning_var f v ≡ true)
    (h' : HeldMap) (tok : ChangesTok (a_var v) absent h h') where
  -- a variable that has no object any more is empty
  pub agrees_emptied : Agrees p f c h' ids hand (step.with_var v None frame) os
  agrees_emptied = record {
    heads = agrees.heads;
    placed = placed.kept home same_root agrees.placed same_content (λ n o. refl) (λ n o. refl) homes;
    ranked = agrees.ranked;
    objects = agrees.objects;
    adopted = agrees.adopted;
    keys = λ k.
        subst (λ s. KeyAgrees (key_type f k) s frame.depth k (frame.keys k) (look os))
        (sym (tok.others (a_key k) key_is_no_var)) (agrees.keys k);
    vars = record {
      plain = λ u e. ⊎_elim
          (λ same. absurd (clash (sym owner ∙ (ap (is_owning_var f) (sym same) ∙ e))))
          (λ other. ap owned_by (set_other v None frame.vars u other) ∙ agrees.vars.plain u e)
          (cases_eq u v);
      full = λ u. ⊎_elim
          (λ same. subst (λ u. HasVar (is_owning_var f u) (h' (a_var u)) (set_at v None frame.vars u)) (sym same)
          (subst (λ s. HasVar (is_owning_var f v) s (set_at v None frame.vars v)) (sym tok.here) (λ e. set_here v None frame.vars)))
          (λ other. subst (HasVar (is_owning_var f u) (h' (a_var u))) (sym (set_other v None frame.vars u other))
          (subst (λ s. HasVar (is_owning_var f u) s (frame.vars u)) (sym (tok.others (a_var u) (λ e. other (var_same e)))) (agrees.vars.full u)))
          (cases_eq u v);
    };
    fit = record {
      fit = λ u t b scoped type at. ⊎_elim
          (λ same. absurd (none_some b (sym (set_here v None frame.vars) ∙ (ap (set_at v None frame.vars) (sym same) ∙ at))))
          (λ other. agrees.fit.fit u t b (back_in v u ids.vars scoped other) type (sym (set_other v None frame.vars u other) ∙ at))
          (cases_eq u v);
      there = λ u t scoped type plain. ⊎_elim
          (λ same. absurd (clash (sym owner ∙ (ap (is_owning_var f) (sym same) ∙ (ap owns type ∙ plain)))))
          (λ other.
          let r = agrees.fit.there u t (back_in v u ids.vars scoped other) type plain in
          (r.0, set_other v None frame.vars u other ∙ r.1))
          (cases_eq u v);
    };
    handed = agrees.handed;
    rest = rest_with_var v _ agrees.rest;
  }
    where
      none_some : (b : Value) → ◌≡◌ {A = Option Value} None (Some b) → ⊥
      none_some b e = cc

      same_content : (P : Root) →
          content (stock c hand (step.with_var v None frame) os) P ≡ content (stock c hand frame os) P
      same_content (in_var u) = ⊎_elim
          (λ same. ap owned_by (ap (set_at v None frame.vars) same ∙ set_here v None frame.vars) ∙
          sym (ap (λ u. owned_by (frame.vars u)) same ∙ (ap owned_by value ∙ none)))
          (λ other. ap owned_by (set_other v None frame.vars u other))
          (cases_eq u v)
      same_content in_hand = refl
      same_content (in_wait d u) = refl
      same_content (in_cell n i) = refl

-- ---- one object goes under its key

module _ {p : Program} {f : Func} {c : Context} {h : HeldMap} (ids : Ids) {hand : List Handed} {frame : Frame} {os : List Object}
    (v : ℕ) (agrees : Agrees p f c h (apart_from v ids) hand frame os) (i n : ℕ) (ns : List ℕ)
    (value : frame.vars v ≡ Some (of_case i [] (n ∷ ns))) (owner : is_owning_var f v ≡ true)
    (status : h (a_var v) ≡ full) (k : KeyIn) (opened : IsOpened f frame.keys (look os) k n)
    (empty : h (a_key k.key) ≡ absent) (h' : HeldMap) (tok : ChangesTok (a_key k.key) (held k.states) h h') where
  abbrev moved : List Object
  moved = with_changed_object n (with_owner (world.held frame.depth k.key)) os

  abbrev rest : Value
  rest = of_case i [] ns

  pub was_loose : (look os n).owner ≡ loose
  was_loose = (agrees.placed.here (in_var v) n (subst (λ o. In n (owned_by o)) (sym value) (inl refl))).1

  gone_loose : gone ≡ loose → ⊥
  gone_loose e = cc

  gone_held : gone ≡ world.held frame.depth k.key → ⊥
  gone_held e = cc

  loose_adopted : (g : ℕ) → loose ≡ adopted_by g → ⊥
  loose_adopted g e = cc

  held_adopted : (g : ℕ) → world.held frame.depth k.key ≡ adopted_by g → ⊥
  held_adopted g e = cc

  pub within : n < length os
  within = live_within os n (λ e. gone_loose (sym e ∙ was_loose))

  change : ChangesOne n (with_owner (world.held frame.depth k.key)) (look os) (look moved)
  change = changes_one os n (with_owner (world.held frame.depth k.key)) within

  mine_is_within : (d : ℕ) → frame.depth ≡ d → d ≤ c.deepest
  mine_is_within d e = let depth = agrees.rest.depth in let le = agrees.rest.within in omega arith

  mine_is_not_below : (d : ℕ) → d < c.depth → frame.depth ≡ d → ⊥
  mine_is_not_below d lt e = let depth = agrees.rest.depth in absurd (omega arith)

  same_content : (P : Root) → (P ≡ in_var v → ⊥) →
      content (stock c hand (step.with_var v (Some rest) frame) moved) P ≡ content (stock c hand frame os) P
  same_content (in_var u) other = ap owned_by (set_other v (Some rest) frame.vars u (λ e. other (ap in_var e)))
  same_content in_hand other = refl
  same_content (in_wait d u) other = refl
  same_content (in_cell m j) other = ⊎_elim
      (λ e. ap (λ k. cell_of (look moved k) j) e ∙
      (cells_stay (look os n) (look moved n) (ap (λ o. o.cells) change.here) (λ q. gone_loose (sym q ∙ was_loose))
      (λ q. gone_held (sym q ∙ ap (λ o. o.owner) change.here)) j ∙
      ap (λ k. cell_of (look os k) j) (sym e)))
      (λ off. ap (λ o. cell_of o j) (change.others m off))
      (cases_eq m n)

  foci_moved : (fs : List Focus) → FociAgree (look os) fs → FociAgree (look moved) fs
  foci_moved [] agree = tt
  foci_moved (q ∷ qs) agree = (
    ap (λ o. o.owner) (change.others q.guard (λ e. lent_loose q (sym agree.0 ∙ (ap (λ m. (look os m).owner) e ∙ was_loose)))) ∙ agree.0,
    foci_moved qs agree.1,
  )
    where
      lent_loose : (q : Focus) → world.lent q.depth q.guard_key ≡ loose → ⊥
      lent_loose q e = cc

  keys_moved : (j : ℕ) → KeyAgrees (key_type f j) (h' (a_key j)) frame.depth j (frame.keys j) (look moved)
  keys_moved j = ⊎_elim
      (λ e. subst (λ j. KeyAgrees (key_type f j) (h' (a_key j)) frame.depth j (frame.keys j) (look moved)) (sym e)
      (key_held k.states tok.here (record {
        number = n;
        named = opened.named;
        owned = ap (λ o. o.owner) change.here;
        typed = subst (IsOfType (key_type f k.key)) (sym (ap (λ o. o.type) change.here)) opened.typed;
        state = subst (λ s. IsTrue (k.states s)) (sym (ap (λ o. o.state) change.here)) opened.state;
        only = λ m u. ⊎_elim
            (λ same. same)
            (λ off. absurd (none_under empty (agrees.keys k.key) m (subst (λ o. IsUnder frame.depth k.key o.owner) (change.others m off) u)))
            (cases_eq m n);
      })))
      (λ off. key_kept (tok.others (a_key j) (λ e. off (key_same e))) refl
      (under_one frame.depth j n (with_owner (world.held frame.depth k.key)) change
      (λ u. subst (IsUnder frame.depth j) was_loose u) (λ u. off (sym u.1)))
      (agrees.keys j))
      (cases_eq j k.key)

  -- the first object goes under the key, and the variable keeps the others
  pub agrees_keyed : Agrees p f c h' (apart_from v ids) hand (step.with_var v (Some rest) frame) moved
  agrees_keyed = agrees_owner agrees n (world.held frame.depth k.key) moved h' (apart_from v ids) hand (step.with_var v (Some rest) frame) (record {
    change = change;
    long = length_changed os n (with_owner (world.held frame.depth k.key));
    live = λ e. gone_loose (sym e ∙ was_loose);
    lives = λ e. cc;
    ranked = ranked_root n (world.held frame.depth k.key) (owns_one n (world.held frame.depth k.key) change) refl
        (λ e. cc) agrees.ranked;
    lost = λ g e. absurd (loose_adopted g (sym was_loose ∙ e));
    adoptable = λ g e. absurd (held_adopted g e);
    placed = placed.let_go home same_root agrees.placed (in_var v) (n ∷ []) ns (world.held frame.depth k.key) (λ o. o)
        (record { was = ap owned_by value; left = ap owned_by (set_here v (Some rest) frame.vars); others = same_content })
        (record {
          those = λ m i. ⊎_elim (λ e. ap (λ k. (look moved k).owner) e ∙ ap (λ o. o.owner) change.here) (λ i. absurd i) i;
          others = λ m off. ap (λ o. o.owner) (change.others m (λ e. off (inl e)));
        });
    keys = keys_moved;
    vars = record {
      plain = λ u e. ⊎_elim
          (λ same. absurd (clash (sym owner ∙ (ap (is_owning_var f) (sym same) ∙ e))))
          (λ other. ap owned_by (set_other v (Some rest) frame.vars u other) ∙ agrees.vars.plain u e)
          (cases_eq u v);
      full = λ u. ⊎_elim
          (λ same. subst (λ u. HasVar (is_owning_var f u) (h' (a_var u)) (set_at v (Some rest) frame.vars u)) (sym same)
          (subst (λ s. HasVar (is_owning_var f v) s (set_at v (Some rest) frame.vars v)) (sym (tok.others (a_var v) var_is_no_key ∙ status)) (rest, set_here v (Some rest) frame.vars)))
          (λ other. subst (HasVar (is_owning_var f u) (h' (a_var u))) (sym (set_other v (Some rest) frame.vars u other))
          (subst (λ s. HasVar (is_owning_var f u) s (frame.vars u)) (sym (tok.others (a_var u) var_is_no_key)) (agrees.vars.full u)))
          (cases_eq u v);
    };
    fit = record {
      fit = λ u t b scoped type at.
          agrees.fit.fit u t b scoped type (sym (set_other v (Some rest) frame.vars u (kept_in v u ids.vars scoped).1) ∙ at);
      there = λ u t scoped type plain.
          let r = agrees.fit.there u t scoped type plain in
          (r.0, set_other v (Some rest) frame.vars u (kept_in v u ids.vars scoped).1 ∙ r.1);
    };
    handed = agrees.handed;
    depth = refl;
    named = agrees.rest.named;
    pinned = agrees.rest.pinned;
    bounded = λ d j u. mine_is_within d u.0;
    focused = foci_moved c.foci agrees.rest.focused;
    was_mine = λ d j lt u. subst (IsUnder d j) was_loose u;
    is_mine = λ d j lt u. mine_is_not_below d lt u.0;
  })

-- ---- all of them

-- what is known of the others stays so
opened_stay : (f : Func) (names : Names) (os : List Object) (n : ℕ) (q : Owner) → n < length os → (ks : List KeyIn) (ns : List ℕ) →
    AreOpened f names (look os) ks ns → AreOpened f names (look (with_changed_object n (with_owner q) os)) ks ns
opened_stay f names os n q there [] [] all = tt
opened_stay f names os n q there [] (m ∷ ns) all = absurd all
opened_stay f names os n q there (k ∷ ks) [] all = absurd all
opened_stay f names os n q there (k ∷ ks) (m ∷ ns) all = (
  record {
    named = all.0.named;
    typed = subst (IsOfType (key_type f k.key)) (sym (types m)) all.0.typed;
    state = subst (λ s. IsTrue (k.states s)) (sym (states m)) all.0.state;
  },
  opened_stay f names os n q there ks ns all.1,
)
  where
    change : ChangesOne n (with_owner q) (look os) (look (with_changed_object n (with_owner q) os))
    change = changes_one os n (with_owner q) there

    types : (m : ℕ) → (look (with_changed_object n (with_owner q) os) m).type ≡ (look os m).type
    types m = ⊎_elim
        (λ same. ap (λ k. (look (with_changed_object n (with_owner q) os) k).type) same ∙ (ap (λ o. o.type) change.here ∙ ap (λ k. (look os k).type) (sym same)))
        (λ other. ap (λ o. o.type) (change.others m other))
        (cases_eq m n)

    states : (m : ℕ) → (look (with_changed_object n (with_owner q) os) m).state ≡ (look os m).state
    states m = ⊎_elim
        (λ same. ap (λ k. (look (with_changed_object n (with_owner q) os) k).state) same ∙ (ap (λ o. o.state) change.here ∙ ap (λ k. (look os k).state) (sym same)))
        (λ other. ap (λ o. o.state) (change.others m other))
        (cases_eq m n)

-- a row on a key is the same row beside a variable that has a value still
key_passed : (v : ℕ) (k : KeyIn) (m : HeldMap) →
    ChangesTok (a_key k.key) (held k.states) (with_full v m) (with_full v (row_passed (key_row k) m))
key_passed v k m = record {
  here = row_here (key_row k) m;
  others = λ u other. ap (λ s. if is_tok u (a_var v) then full else s) (row_other (key_row k) m u other);
}

status_full : (v : ℕ) (m : HeldMap) → with_full v m (a_var v) ≡ full
status_full v m = ap (λ b. if b then full else m (a_var v)) (eq-eqb v v refl)

module _ {p : Program} {f : Func} {c : Context} (ids : Ids) {hand : List Handed} (frame : Frame) (v i : ℕ)
    (owner : is_owning_var f v ≡ true) (g : Goal) (go : World → Step) where
  pub opened_safe : (ks : List KeyIn) (ns : List ℕ) (m : HeldMap) (w : World) →
      Agrees p f c (with_full v m) (apart_from v ids) hand (step.with_var v (Some (of_case i [] ns)) frame) w.objects →
      AreOpened f frame.keys (look w.objects) ks ns → CanPass (map key_row ks) m →
      ((w' : World) → Agrees p f c (with_full v (map_after (map key_row ks) m)) (apart_from v ids) hand (step.with_var v (Some (of_case i [] [])) frame) w'.objects → Safe g (go w')) →
      Safe g (with_case_opened ks ns frame w go)
  unfolding with_case_opened
  opened_safe [] [] m w agrees all pass safe = safe w agrees
  opened_safe [] (n ∷ ns) m w agrees all pass safe = absurd all
  opened_safe (k ∷ ks) [] m w agrees all pass safe = absurd all
  opened_safe (k ∷ ks) (n ∷ ns) m w agrees all pass safe =
      let a : Value = of_case i [] (n ∷ ns) in
      let here = set_here v (Some a) frame.vars in
      let empty = absent_is (m (a_key k.key)) pass.0 in
      let loose_now = was_loose ids v agrees i n ns here owner (status_full v m) k all.0 empty (with_full v (row_passed (key_row k) m)) (key_passed v k m) in
      let there = within ids v agrees i n ns here owner (status_full v m) k all.0 empty (with_full v (row_passed (key_row k) m)) (key_passed v k m) in
      let now = agrees_keyed ids v agrees i n ns here owner (status_full v m) k all.0 empty (with_full v (row_passed (key_row k) m)) (key_passed v k m) in
      let w' = with_changed w n (with_owner (world.held frame.depth k.key)) in
      found_safe g (case_object k n frame w.objects) (named n (look w.objects n)) w _
      (ap (λ o. or_fault no_value o >>= λ m. owned_at is_loose w.objects n >>= λ o. if_so (m == n) other_object o >>= in_states k.states) all.0.named ∙
      (ap (λ r. r >>= λ o. if_so (n == n) other_object o >>= in_states k.states) (owned_found is_loose w.objects n there (ap is_loose loose_now)) ∙
      (ap (λ b. if_so b other_object (named n (look w.objects n)) >>= in_states k.states) (eq-eqb n n refl) ∙
      ap (λ b. if_so b wrong_state (named n (look w.objects n))) all.0.state)))
      (opened_safe ks ns (row_passed (key_row k) m) w'
      (subst (λ fr. Agrees p f c (with_full v (row_passed (key_row k) m)) (apart_from v ids) hand fr w'.objects)
      (with_var_twice v (Some a) (Some (of_case i [] ns)) frame) now)
      (opened_stay f frame.keys w.objects n (world.held frame.depth k.key) there ks ns all.1) pass.1 safe)
