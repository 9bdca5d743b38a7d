-- A focus is safe where its block is.
use Rattle.std.proofs.Common.{◌≡◌, ◌⊎◌, inl, inr, ⊎_elim, ℕ, ◌<◌, ◌==◌, nat_lt, Bool, true, false, ◌&&◌, IsTrue, if◌then◌else◌, List, [], ◌∷◌, length, map, Option, None, Some, Ok, refl, sym, ap, ◌∙◌, subst}
use Rattle.std.proofs.lemmas.Bool.{eq-eqb, or_left}
use Rattle.std.proofs.lemmas.Option.{same_Some}
use Rattle.vlt_core.specs.Core.{States, Tok, tracked, guarded, a_key, focus, Block, Func, Program}
use Rattle.vlt_core.specs.Lookups.{var_type, Reference, reference_of, tracked_in, guarded_of, guarded_in, release_set}
use Rattle.vlt_core.specs.Types.{is_droppable_struct}
use Rattle.vlt_core.specs.Maps.{absent, held, lent, states_of, HeldMap, IsBelow, wants_absent, wants_held, wants_in, wants_lent, becomes_absent, becomes_held, becomes_lent, comes_back, status_after, Row, row_passed, CanPass, map_after}
use Rattle.vlt_core.specs.Rows.{row, rows_of, focus_end_rows}
use Rattle.vlt_core.specs.Bodies.{flow_of, flow_of_block}
use Rattle.vlt_core.specs.Derives.{Derives, DerivesBlock}
use Rattle.vlt_core.specs.KindedHeads.{has}
use Rattle.vlt_core.specs.KindedScopes.{Ids, with_key as with_key_bound, own_key, left_behind}
use Rattle.vlt_core.specs.KindedBodies.{focus_broken, with_focus, in_focus, list_broken, ids_following_block}
use Rattle.vlt_meaning.specs.World.{Value, one, reference, adopted_by, above, gone, Object, Frame, World, is_lent_under, missing, other_object, wrong_state, not_held}
use Rattle.vlt_meaning.specs.World as world
use Rattle.vlt_meaning.specs.Found.{◌>>=◌, Named, or_fault, if_so}
use Rattle.vlt_meaning.specs.Objects.{in_states, with_owner, with_changed_object, named_in}
use Rattle.vlt_meaning.specs.Values.{held_object, guarded_object}
use Rattle.vlt_meaning.specs.Step.{Step, goes, jumps, leaves, ends, with_changed, with_var, with_key}
use Rattle.vlt_meaning.specs.Run.{Setup, Meaning, does_form, does_block, focused_object, lent_object, focus_end_step, focus_end}
use Rattle.vlt_sound_worlds.specs.Look.{look, ChangesOne}
use Rattle.vlt_sound_worlds.proofs.Look.{look_at, live_within, changes_one}
use Rattle.vlt_sound_worlds.specs.Keys.{IsOfType}
use Rattle.vlt_sound_worlds.specs.Scene.{Focus, IsOf}
use Rattle.vlt_sound_worlds.proofs.Scene.{grows_itself}
use Rattle.vlt_sound_worlds.specs.Agrees.{InScope, Context, scene, Agrees}
use Rattle.vlt_sound_worlds.specs.Typed.{IsTyped}
use Rattle.vlt_sound_worlds.specs.Safe.{Goal, Safe}
use Rattle.vlt_sound_worlds.proofs.Empty.{both_empty}
use Rattle.vlt_sound_worlds.proofs.Rows.{row_here}
use Rattle.vlt_sound_worlds.proofs.Touch.{named, held_found, guarded_found, held_is, guarded_held, tracked_held}
use Rattle.vlt_sound_worlds.proofs.Safe.{found_safe}
use Rattle.vlt_sound_worlds.proofs.FrameChanges.{set_here, agrees_set}
use Rattle.vlt_sound_worlds.proofs.Leaving.{agrees_adopted}
use Rattle.vlt_sound_worlds.specs.Scopes.{IsFresh}
use Rattle.vlt_sound_worlds.proofs.Blocks.{agrees_below, agrees_in}
use Rattle.vlt_sound_worlds.proofs.Owning.{row_tok}
use Rattle.vlt_sound_worlds.specs.Scoped.{WasKeyBound, IsScoped, HasKeys}
use Rattle.vlt_sound_worlds.proofs.Widening.{focus_widens, block_widens, widens_both}
use Rattle.vlt_sound_worlds.proofs.Binding.{first_or_other}
use Rattle.vlt_sound_worlds.proofs.Scoping.{focus_scoped}
use Rattle.vlt_sound_worlds.proofs.Fresh.{is_fresh}
use Rattle.vlt_sound_calls.proofs.Contexts.{entered_with}
use Rattle.vlt_sound_statements.specs.Kinded.{IsKindedForm, IsKindedBlock}
use Rattle.vlt_sound_statements.specs.Sites.{Site, comes_to, IsAt}
use Rattle.vlt_sound_statements.specs.Statements.{IsSafeForm, IsSafeBlock}
use Rattle.vlt_sound_statements.proofs.Lending.{AreApart, held_apart, foci_stay, agrees_turned}
use Rattle.vlt_sound_statements.proofs.FocusOpening.{with_foci, agrees_foci, opens, closes}
use Rattle.vlt_sound_statements.proofs.Taking.{agrees_taken}
use Rattle.vlt_sound_statements.proofs.Facts.{absent_is, lent_is, IsFocus, focus_known, binding_within}

-- what comes after the block of a focus; nothing leaves it by a jump or a return
ending_safe : (g g' : Goal) (r : Setup) (k q : Reference) (a n : ℕ) (s : Step) → Safe g s →
    ((frame : Frame) (w : World) → g.goes frame w → Safe g' (focus_end_step r k q a n frame w)) →
    ((c : Bool) (frame : Frame) (w : World) → g.jumps c frame w → ⊥) →
    ((v : Option Value) (kept : List ℕ) (w : World) → g.leaves v kept w → ⊥) → Safe g' (focus_end r k q a n s)
unfolding focus_end
ending_safe g g' r k q a n (goes frame w) safe on jumped left = on frame w safe
ending_safe g g' r k q a n (jumps c frame w) safe on jumped left = absurd (jumped c frame w safe)
ending_safe g g' r k q a n (leaves v kept w) safe on jumped left = absurd (left v kept w safe)
ending_safe g g' r k q a n (ends o w) safe on jumped left = safe

abbrev pub lends : ℕ → Row
lends k = row (a_key k) wants_held becomes_lent

abbrev pub takes : States → ℕ → Row
takes states k = row (a_key k) wants_absent (becomes_held states)

abbrev pub gives : States → ℕ → Row
gives states k = row (a_key k) (wants_in states) becomes_absent

abbrev pub returns : ℕ → Row
returns k = row (a_key k) wants_lent comes_back

abbrev focus_of : (depth guard_key guard number : ℕ) → Focus
focus_of d gk a n = record { depth = d; guard_key = gk; guard = a; number = n }

-- the context of the block
abbrev pub inside : Context → (guard_key key guard number : ℕ) → Context
inside c gk k a n =
    with_foci (focus_of c.depth gk a n ∷ c.foci) (record { key = k; number = n } ∷ record { key = gk; number = a } ∷ c.pins) c

-- ---- the beginning

-- what is so where the block of a focus begins
pub record Begun (p : Program) (f : Func) (c : Context) (h : HeldMap) (ids : Ids) (frame : Frame) (w : World) (y z gk k t : ℕ)
    (args : List ℕ) : Type 0 where
  pub guard : ℕ
  pub number : ℕ
  pub found_guard : held_object gk frame w.objects ≡ Ok (named guard (look w.objects guard))
  pub found : guarded_object (record { key = gk; type = t }) y frame w.objects ≡ Ok (named number (look w.objects number))
  pub droppable : is_droppable_struct p t ≡ true
  pub apart : AreApart c.foci guard
  pub agrees : Agrees p f (inside c gk k guard number) (map_after (lends gk ∷ takes (release_set p t) k ∷ []) h) (with_focus f z ids) []
      (with_var z (Some (one (reference number))) (with_key k number frame))
      (with_changed (with_changed w guard (with_owner (world.lent frame.depth gk))) number
      (with_owner (world.held frame.depth k))).objects

-- a variable that a focus brings into scope
focus_scope : (f : Func) (z : ℕ) (ids : Ids) (u : ℕ) → InScope (with_focus f z ids) u → (u ≡ z) ⊎ InScope ids u
focus_scope f z ids u e = by (nat_lt z (length f.vars)) e
  where
    same_vars : (o : Option ℕ) → (with_key_bound f o ids).vars ≡ ids.vars
    same_vars None = refl
    same_vars (Some k) = by_key (nat_lt k (length f.keys))
      where
        by_key : (b : Bool) →
            (if b then record ids { keys = k ∷ ids.keys; keys_ever = k ∷ ids.keys_ever } else ids).vars ≡ ids.vars
        by_key true = refl
        by_key false = refl

    was : (u : ℕ) → InScope (with_key_bound f (own_key f z) ids) u → InScope ids u
    was u e = subst (λ vs. has vs u ≡ true) (same_vars (own_key f z)) e

    by : (b : Bool) →
        has (if b then record (with_key_bound f (own_key f z) ids) { vars = z ∷ (with_key_bound f (own_key f z) ids).vars; vars_ever = z ∷ (with_key_bound f (own_key f z) ids).vars_ever } else with_key_bound f (own_key f z) ids).vars u ≡ true →
        (u ≡ z) ⊎ InScope ids u
    by true e = ⊎_elim (λ same. inl same) (λ old. inr (was u old)) (first_or_other u z (with_key_bound f (own_key f z) ids).vars e)
    by false e = inr (was u e)

-- the variable of a focus is in scope in its block
focus_binds : (f : Func) (ids : Ids) (z : ℕ) → nat_lt z (length f.vars) ≡ true → InScope (with_focus f z ids) z
focus_binds f ids z lt = by (nat_lt z (length f.vars)) lt
  where
    by : (b : Bool) → b ≡ true →
        has (if b then record (with_key_bound f (own_key f z) ids) { vars = z ∷ (with_key_bound f (own_key f z) ids).vars; vars_ever = z ∷ (with_key_bound f (own_key f z) ids).vars_ever } else with_key_bound f (own_key f z) ids).vars z ≡ true
    by true e = or_left (z == z) (has (with_key_bound f (own_key f z) ids).vars z) (eq-eqb z z refl)
    by false e = cc

part_same : (n m : ℕ) → reference n ≡ reference m → n ≡ m
part_same n m e = ap number e
  where
    number : world.Part → ℕ
    number (reference n) = n
    number _ = 0

value_same : (n m : ℕ) → one (reference n) ≡ one (reference m) → n ≡ m
value_same n m e = part_same n m (ap part e)
  where
    part : Value → world.Part
    part (one a) = a
    part (world.of_case c ps ks) = reference 0

module _ (p : Program) (f : Func) (typed : IsTyped p f) (keyed : HasKeys f) {c : Context} {h : HeldMap} {ids : Ids} {frame : Frame}
    (w : World) (agrees : Agrees p f c h ids [] frame w.objects) (scoped : IsScoped f c ids) where
  begins : (y z gk k t : ℕ) (args : List ℕ) → var_type f y ≡ Some (guarded gk t args) →
      var_type f z ≡ Some (tracked k t args) → InScope ids y → IsFresh f c ids [] k →
      CanPass (lends gk ∷ takes (release_set p t) k ∷ []) h → Begun p f c h ids frame w y z gk k t args
  begins y z gk k t args y_is z_is in_scope fresh pass =
      let gr = guarded_held agrees y gk t args in_scope y_is pass.0 in
      let a = gr.guard in
      let n = gr.number in
      let S = states_of (h (a_key gk)) in
      let h1 = row_passed (lends gk) h in
      let h2 = row_passed (takes (release_set p t) k) h1 in
      let was_held = held_is (h (a_key gk)) pass.0 in
      let there : a < length w.objects = live_within w.objects a (λ e. gone_held (sym e ∙ gr.held)) in
      let os1 = with_changed_object a (with_owner (world.lent frame.depth gk)) w.objects in
      let change : ChangesOne a (with_owner (world.lent frame.depth gk)) (look w.objects) (look os1) =
      changes_one w.objects a (with_owner (world.lent frame.depth gk)) there in
      let apart = held_apart (look w.objects) a frame.depth gk gr.held c.foci agrees.rest.focused in
      let lent_now = agrees_turned agrees false true gk a S gr.named gr.held was_held there h1
      (row_tok (lends gk) h (lent S) (row_here (lends gk) h ∙ ap (status_after becomes_lent) was_held))
      (foci_stay (look w.objects) (look os1) a (with_owner (world.lent frame.depth gk)) change c.foci apart agrees.rest.focused) in
      let other : n ≡ a → ⊥ = λ e. adopted_held a (sym gr.adopted ∙ (ap (λ m. (look w.objects m).owner) e ∙ gr.held)) in
      let adopted : (look os1 n).owner ≡ adopted_by a = ap (λ o. o.owner) (change.others n other) ∙ gr.adopted in
      let q = focus_of c.depth gk a n in
      let c1 = with_foci (q ∷ c.foci) (record { key = gk; number = a } ∷ c.pins) c in
      let opened = agrees_foci (q ∷ c.foci) (record { key = gk; number = a } ∷ c.pins) lent_now
      (opens c os1 lent_now.heads q (record { key = gk; number = a } ∷ c.pins))
      (ap (λ o. o.owner) change.here ∙ ap (λ d. world.lent d gk) agrees.rest.depth, lent_now.rest.focused)
      (gr.named, lent_now.rest.pinned) in
      let fresh1 : IsFresh f c1 ids [] k = record {
        vars = fresh.vars;
        handed = tt;
        head = fresh.head;
        pins = (λ e. fresh.vars y (guarded gk t args) in_scope y_is (inl (sym e)), fresh.pins);
      } in
      let type : (look os1 n).type ≡ t = ap (λ o. o.type) (change.others n other) ∙ gr.of.typed in
      let taken = agrees_taken opened n a adopted (live_within os1 n (λ e. gone_adopted a (sym e ∙ adopted))) (inl (refl, refl)) k
      (release_set p t) h2 (absent_is (h1 (a_key k)) pass.1.0)
      (row_tok (takes (release_set p t) k) h1 (held (release_set p t)) (row_here (takes (release_set p t) k) h1))
      (subst (λ s. IsTrue (release_set p t s)) (sym (ap (λ o. o.state) (change.others n other))) gr.state)
      (subst (λ o. IsOfType o (look os1 n).type) (sym (typed.keys z k t args z_is)) type) fresh1 in
      let still = taken.fit.fit y (guarded gk t args) (one (reference n)) in_scope y_is gr.var in
      let object : still.fits.object ≡ n =
      sym (value_same n still.fits.object (still.is ∙ ap one still.fits.is)) in
      let bound = agrees_set taken z (tracked k t args) (one (reference n)) (with_focus f z ids) z_is refl refl
      (record {
        part = reference n;
        is = refl;
        fits = record {
          object = n;
          named = set_here k (Some n) frame.keys;
          is = refl;
          of = subst (IsOf (scene c1 (with_changed_object n (with_owner (world.held frame.depth k)) os1) taken.heads) t (map (with_key k n frame).keys args)) object still.fits.of;
        };
      })
      (focus_scope f z ids) in
      record {
        guard = a;
        number = n;
        found_guard = held_found gk frame w.objects a (look w.objects a) gr.named (look_at w.objects a there) gr.held;
        found = guarded_found (record { key = gk; type = t }) y frame w.objects a (look w.objects a) n (look w.objects n) gr.named
            (look_at w.objects a there) gr.held gr.var (look_at w.objects n gr.of.within) gr.adopted;
        droppable = ap (is_droppable_struct p) (sym gr.of.typed) ∙ (agrees.adopted n a gr.adopted).droppable;
        apart = apart;
        agrees = pinned k n c1 bound (set_here k (Some n) frame.keys);
      }
    where
      gone_held : gone ≡ world.held frame.depth gk → ⊥
      gone_held e = cc

      gone_adopted : (a : ℕ) → gone ≡ adopted_by a → ⊥
      gone_adopted a e = cc

      adopted_held : (a : ℕ) → adopted_by a ≡ world.held frame.depth gk → ⊥
      adopted_held a e = cc

      -- the new key is pinned as well
      pinned : (k n : ℕ) (c : Context) {h : HeldMap} {ids : Ids} {frame : Frame} {os : List Object} →
          Agrees p f c h ids [] frame os → frame.keys k ≡ Some n →
          Agrees p f (with_foci c.foci (record { key = k; number = n } ∷ c.pins) c) h ids [] frame os
      pinned k n c {os = os} agrees name =
          agrees_foci c.foci (record { key = k; number = n } ∷ c.pins) agrees
          (grows_itself (scene c os agrees.heads))
          agrees.rest.focused (name, agrees.rest.pinned)

-- ---- the end

module _ (r : Setup) (f : Func) {c : Context} {m : HeldMap} {ids : Ids} {frame : Frame} (w : World) (gk k a n : ℕ)
    (agrees : Agrees r.program f (inside c gk k a n) m ids [] frame w.objects) where
  ends_well : (z t : ℕ) (args : List ℕ) (ids' : Ids) (last : HeldMap) (g : Goal) →
      ((frame : Frame) (w : World) → Agrees r.program f c last ids' [] frame w.objects → g.goes frame w) →
      var_type f z ≡ Some (tracked k t args) → InScope ids z →
      ((v : ℕ) → InScope ids' v → InScope ids v) → AreApart c.foci a → is_droppable_struct r.program t ≡ true →
      CanPass (gives (release_set r.program t) k ∷ returns gk ∷ []) m →
      IsBelow (map_after (gives (release_set r.program t) k ∷ returns gk ∷ []) m) last →
      Safe g (focus_end_step r (record { key = gk; type = t }) (record { key = k; type = t }) a n frame w)
  unfolding focus_end_step
  ends_well z t args ids' last g on z_is in_scope smaller apart droppable pass below =
      let tr = tracked_held agrees z k t args in_scope z_is pass.0.0 in
      let same : tr.number ≡ n = same_Some tr.number n (sym tr.named ∙ agrees.rest.pinned.0) in
      let held_n : (look w.objects n).owner ≡ world.held frame.depth k = ap (λ m. (look w.objects m).owner) (sym same) ∙ tr.owned in
      let there : n < length w.objects = live_within w.objects n (λ e. gone_held (sym e ∙ held_n)) in
      let type : (look w.objects n).type ≡ t = ap (λ m. (look w.objects m).type) (sym same) ∙ tr.of.typed in
      let released : IsTrue (release_set r.program t (look w.objects n).state) =
      pass.0.1.each (look w.objects n).state (subst (λ j. IsTrue (states_of (m (a_key k)) (look w.objects j).state)) same tr.state) in
      let lent_a : (look w.objects a).owner ≡ world.lent frame.depth gk =
      agrees.rest.focused.0 ∙ ap (λ d. world.lent d gk) (sym agrees.rest.depth) in
      let there_a : a < length w.objects = live_within w.objects a (λ e. gone_lent (sym e ∙ lent_a)) in
      let other : n ≡ a → ⊥ = λ e. held_lent (sym held_n ∙ (ap (λ m. (look w.objects m).owner) e ∙ lent_a)) in
      let h1 = row_passed (gives (release_set r.program t) k) m in
      let h2 = row_passed (returns gk) h1 in
      let S = states_of (h1 (a_key gk)) in
      let was_lent = lent_is (h1 (a_key gk)) pass.1.0 in
      let os1 = with_changed_object n (with_owner (adopted_by a)) w.objects in
      let change : ChangesOne n (with_owner (adopted_by a)) (look w.objects) (look os1) =
      changes_one w.objects n (with_owner (adopted_by a)) there in
      let again = agrees_adopted agrees k n agrees.rest.pinned.0 held_n there h1
      (row_tok (gives (release_set r.program t) k) m absent (row_here (gives (release_set r.program t) k) m))
      a other (λ e. gone_lent (sym e ∙ lent_a)) (ap above lent_a)
      (record { released = rw type released; droppable = rw type droppable }) in
      let closed = closed_foci again (ap (λ o. o.owner) change.here) in
      let still_lent : (look os1 a).owner ≡ world.lent frame.depth gk =
      ap (λ o. o.owner) (change.others a (λ e. other (sym e))) ∙ lent_a in
      let there_1 : a < length os1 = live_within os1 a (λ e. gone_lent (sym e ∙ still_lent)) in
      let os2 = with_changed_object a (with_owner (world.held frame.depth gk)) os1 in
      let held_again = agrees_turned closed true false gk a S agrees.rest.pinned.1.0 still_lent was_lent there_1 h2
      (row_tok (returns gk) h1 (held S) (row_here (returns gk) h1 ∙ ap (status_after comes_back) was_lent))
      (foci_stay (look os1) (look os2) a (with_owner (world.held frame.depth gk))
      (changes_one os1 a (with_owner (world.held frame.depth gk)) there_1) c.foci apart closed.rest.focused) in
      found_safe g (focused_object r (record { key = k; type = t }) n frame w.objects) (named n (look w.objects n)) w _
      (ap (λ o. o >>= λ m. if_so (m.number == n) other_object m >>= in_states (release_set r.program t))
      (held_found k frame w.objects n (look w.objects n) agrees.rest.pinned.0 (look_at w.objects n there) held_n) ∙
      (ap (λ b. if_so b other_object (named n (look w.objects n)) >>= in_states (release_set r.program t)) (eq-eqb n n refl) ∙
      ap (λ b. if_so b wrong_state (named n (look w.objects n))) released))
      (found_safe g (lent_object gk a frame w.objects) (named a (look w.objects a)) w _
      (ap (λ o. named_in a o >>= λ m. if_so (is_lent_under frame.depth gk m.object.owner) not_held m) (look_at w.objects a there_a) ∙
      (ap (λ q. if_so (is_lent_under frame.depth gk q) not_held (named a (look w.objects a))) lent_a ∙
      ap (λ b. if_so b not_held (named a (look w.objects a))) (both_eq frame.depth gk)))
      (on frame (with_changed (with_changed w n (with_owner (adopted_by a))) a (with_owner (world.held frame.depth gk)))
      (agrees_in ids' smaller (agrees_below below held_again))))
    where
      gone_held : gone ≡ world.held frame.depth k → ⊥
      gone_held e = cc

      gone_lent : gone ≡ world.lent frame.depth gk → ⊥
      gone_lent e = cc

      held_lent : world.held frame.depth k ≡ world.lent frame.depth gk → ⊥
      held_lent e = cc

      both_eq : (d j : ℕ) → (d == d && j == j) ≡ true
      both_eq d j = rw (eq-eqb d d refl, eq-eqb j j refl) refl

      -- the focus is closed, and its keys are pinned no more
      closed_foci : {h : HeldMap} {os : List Object} → Agrees r.program f (inside c gk k a n) h ids [] frame os →
          (look os n).owner ≡ adopted_by a → Agrees r.program f c h ids [] frame os
      closed_foci {os = os} agrees adopted =
          agrees_foci c.foci c.pins agrees
          (closes c os agrees.heads (focus_of c.depth gk a n) (record { key = k; number = n } ∷ record { key = gk; number = a } ∷ c.pins) adopted)
          agrees.rest.focused.1 agrees.rest.pinned.1.1

-- ---- a focus

abbrev pub begin_rows : Program → {f : Func} {ids : Ids} {y z : ℕ} → IsFocus f ids y z → List Row
begin_rows p fact = lends fact.guard_key ∷ takes (release_set p fact.type) fact.key ∷ []

abbrev pub end_rows : Program → {f : Func} {ids : Ids} {y z : ℕ} → IsFocus f ids y z → List Row
end_rows p fact = gives (release_set p fact.type) fact.key ∷ returns fact.guard_key ∷ []

-- what is known where a focus begins
pub record FocusAt (p : Program) (f : Func) (y z : ℕ) (b : Block) (frame : Frame) (w : World) : Type 0 where
  pub site : Site
  pub ids : Ids
  pub before : HeldMap
  pub last : HeldMap
  pub following : HeldMap
  pub here : IsAt p f site ids
  pub agrees : Agrees p f site.context before ids [] frame w.objects
  pub broken : focus_broken p f ids y z ≡ []
  pub block : IsKindedBlock p f in_focus [] (with_focus f z ids) b
  pub fact : IsFocus f ids y z
  pub pass : CanPass (begin_rows p fact) before
  pub leads : DerivesBlock site.breaks site.turns (map_after (begin_rows p fact) before) (flow_of_block p f site.left b) last
  pub pass_end : CanPass (end_rows p fact) last
  pub below : IsBelow (map_after (end_rows p fact) last) following

pub starts_with : (p : Program) (f : Func) (y z : ℕ) (b : Block) (left : List Tok) {ids : Ids} (fact : IsFocus f ids y z) →
    rows_of p f left (focus y z b) ≡ begin_rows p fact
starts_with p f y z b left fact = rw (fact.guarded_is, fact.tracked_is) refl

pub ends_with : (p : Program) (f : Func) (y z : ℕ) {ids : Ids} (fact : IsFocus f ids y z) → focus_end_rows p f y z ≡ end_rows p fact
ends_with p f y z fact = rw (fact.guarded_is, fact.tracked_is) refl

-- of a focus that breaks no rule, and whose map leads through it
module _ (p : Program) (f : Func) (y z : ℕ) (b : Block) (s : Site) (h k : HeldMap) (ids : Ids) (frame : Frame) (w : World)
    (here : IsAt p f s ids) (kinded : IsKindedForm p f s.around ids (focus y z b))
    (leads : Derives s.breaks s.turns h (flow_of p f s.left (focus y z b)) k) (agrees : Agrees p f s.context h ids [] frame w.objects) where
  pub unbroken : (focus_broken p f ids y z ≡ []) × (list_broken p f [] (with_focus f z ids) b ≡ [])
  unbroken = both_empty (focus_broken p f ids y z) (list_broken p f [] (with_focus f z ids) b) kinded.row

  pub known : IsFocus f ids y z
  known = focus_known f p ids y z unbroken.0

  abbrev pub focus_at : FocusAt p f y z b frame w
  focus_at = record {
    site = s;
    ids = ids;
    before = h;
    last = leads.1.0;
    following = k;
    here = here;
    agrees = agrees;
    broken = unbroken.0;
    block = record { listed = unbroken.1; rows = kinded.rows };
    fact = known;
    pass = subst (λ rs. CanPass rs h) (starts_with p f y z b s.left known) leads.0;
    leads =
        subst (λ rs. DerivesBlock s.breaks s.turns (map_after rs h) (flow_of_block p f s.left b) leads.1.0)
        (starts_with p f y z b s.left known) leads.1.1;
    pass_end = subst (λ rs. CanPass rs leads.1.0) (ends_with p f y z known) leads.1.2;
    below = subst (λ rs. IsBelow (map_after rs leads.1.0) k) (ends_with p f y z known) leads.1.3;
  }

module _ (r : Setup) (f : Func) (typed : IsTyped r.program f) (keyed : HasKeys f) {y z : ℕ} {b : Block} {frame : Frame} {w : World}
    (x : FocusAt r.program f y z b frame w) where
  abbrev pub inner_ids : Ids
  inner_ids = with_focus f z x.ids

  pub begun : Begun r.program f x.site.context x.before x.ids frame w y z x.fact.guard_key x.fact.key x.fact.type x.fact.args
  begun =
      begins r.program f typed keyed w x.agrees x.here.scoped y z x.fact.guard_key x.fact.key x.fact.type x.fact.args
      x.fact.guarded_is x.fact.tracked_is x.fact.scoped
      (is_fresh x.here.scoped x.fact.key [] tt (keyed.keys z x.fact.key (tracked x.fact.key x.fact.type x.fact.args) x.fact.tracked_is (inl refl)) x.fact.fresh)
      x.pass

  -- the references, and the objects that they lead to
  abbrev pub guard_is : Reference
  guard_is = record { key = x.fact.guard_key; type = x.fact.type }

  abbrev pub bound_is : Reference
  bound_is = record { key = x.fact.key; type = x.fact.type }

  pub guarded_known : guarded_of f y ≡ Some guard_is
  guarded_known = ap guarded_in x.fact.guarded_is

  pub bound_known : reference_of f z ≡ Some bound_is
  bound_known = ap tracked_in x.fact.tracked_is

  abbrev pub guard_named : Named
  guard_named = named begun.guard (look w.objects begun.guard)

  abbrev pub object_named : Named
  object_named = named begun.number (look w.objects begun.number)

  pub guard_found : held_object x.fact.guard_key frame w.objects ≡ Ok guard_named
  guard_found = begun.found_guard

  pub object_found : guarded_object guard_is y frame w.objects ≡ Ok object_named
  object_found = begun.found

  -- ---- where the block begins

  abbrev pub focus_frame : Frame
  focus_frame = with_var z (Some (one (reference begun.number))) (with_key x.fact.key begun.number frame)

  abbrev pub focus_world : World
  focus_world =
      with_changed (with_changed w begun.guard (with_owner (world.lent frame.depth x.fact.guard_key))) begun.number
      (with_owner (world.held frame.depth x.fact.key))

  abbrev pub focus_site : Site
  focus_site = record x.site {
    context = inside x.site.context x.fact.guard_key x.fact.key begun.guard begun.number;
    around = in_focus;
    outer = inner_ids;
  }

  pub focus_agrees : Agrees r.program f focus_site.context (map_after (begin_rows r.program x.fact) x.before) inner_ids [] focus_frame focus_world.objects
  focus_agrees = begun.agrees

  z_there : InScope inner_ids z
  z_there = focus_binds f x.ids z (binding_within r.program f x.ids y z x.broken)

  pub focus_here : IsAt r.program f focus_site inner_ids
  focus_here =
      let c = x.site.context in
      let scoped = focus_scoped r.program keyed y z x.broken x.here.scoped in
      record {
        entered = entered_with (focus_of c.depth x.fact.guard_key begun.guard begun.number ∷ c.foci)
            (record { key = x.fact.key; number = begun.number } ∷ record { key = x.fact.guard_key; number = begun.guard } ∷ c.pins) x.here.entered;
        scoped = record {
          vars = scoped.vars;
          keys = scoped.keys;
          ever = scoped.ever;
          head = scoped.head;
          pins = (bound_ever scoped, ((focus_widens f z x.ids).keys_ever x.fact.guard_key guard_ever, scoped.pins));
          owned = scoped.owned;
        };
        outer = λ v e. e;
      }
    where
      -- the key of a variable's type was bound
      guard_ever : WasKeyBound x.ids x.fact.guard_key
      guard_ever =
          x.here.scoped.keys x.fact.guard_key
          (x.here.scoped.vars y x.fact.guard_key (guarded x.fact.guard_key x.fact.type x.fact.args) x.fact.scoped x.fact.guarded_is (inl refl))

      bound_ever : IsScoped f x.site.context inner_ids → WasKeyBound inner_ids x.fact.key
      bound_ever scoped =
          scoped.keys x.fact.key
          (scoped.vars z x.fact.key (tracked x.fact.key x.fact.type x.fact.args) z_there x.fact.tracked_is (inl refl))

  -- ---- where it ends

  abbrev last : Ids
  last = ids_following_block r.program f b inner_ids

  abbrev G : Goal
  G = comes_to r.program f x.site x.following (left_behind x.ids last)

  -- nothing leaves the block by a jump or a return
  pub focus_ends : (s : Step) → Safe (comes_to r.program f focus_site x.last (ids_following_block r.program f b inner_ids)) s →
      Safe (comes_to r.program f x.site x.following (left_behind x.ids (ids_following_block r.program f b inner_ids)))
      (focus_end r guard_is bound_is begun.guard begun.number s)
  focus_ends s safe =
      ending_safe (comes_to r.program f focus_site x.last last) G r guard_is bound_is begun.guard begun.number s safe
      (λ frame w now. ends_well r f w x.fact.guard_key x.fact.key begun.guard begun.number now z x.fact.type x.fact.args (left_behind x.ids last) x.following G
      (λ frame w done. done) x.fact.tracked_is
      ((block_widens r.program f b inner_ids).vars z z_there)
      (λ v e. (widens_both (focus_widens f z x.ids) (block_widens r.program f b inner_ids)).vars v e)
      begun.apart begun.droppable x.pass_end x.below)
      (λ c frame w jumped. never jumped.allowed)
      (λ v kept w left. never left.allowed)
    where
      never : false ≡ true → ⊥
      never e = cc

module _ (r : Setup) (rest_of : Meaning) (f : Func) (typed : IsTyped r.program f) (keyed : HasKeys f)
    (y z : ℕ) (b : Block) (safe : IsSafeBlock r rest_of f b) where
  by_facts : {frame : Frame} {w : World} (x : FocusAt r.program f y z b frame w) →
      Safe (comes_to r.program f x.site x.following (left_behind x.ids (ids_following_block r.program f b (with_focus f z x.ids))))
      (does_form r rest_of f (focus y z b) frame w)
  by_facts {frame} {w} x =
      let G = comes_to r.program f x.site x.following (left_behind x.ids (ids_following_block r.program f b (with_focus f z x.ids))) in
      let frame' = focus_frame r f typed keyed x in
      let w' = focus_world r f typed keyed x in
      found_safe G (or_fault missing (guarded_of f y)) (guard_is r f typed keyed x) w _
      (ap (or_fault missing) (guarded_known r f typed keyed x))
      (found_safe G (or_fault missing (reference_of f z)) (bound_is r f typed keyed x) w _
      (ap (or_fault missing) (bound_known r f typed keyed x))
      (found_safe G (held_object x.fact.guard_key frame w.objects) (guard_named r f typed keyed x) w _ (guard_found r f typed keyed x)
      (found_safe G (guarded_object (guard_is r f typed keyed x) y frame w.objects) (object_named r f typed keyed x) w _ (object_found r f typed keyed x)
      (focus_ends r f typed keyed x (does_block r rest_of f b frame' w')
      (safe (focus_site r f typed keyed x) (map_after (begin_rows r.program x.fact) x.before) x.last [] (with_focus f z x.ids) frame' w'
      (focus_here r f typed keyed x) x.block x.leads (focus_agrees r f typed keyed x))))))

  pub focus_is_safe : IsSafeForm r rest_of f (focus y z b)
  focus_is_safe s h k ids frame w here kinded leads agrees =
      by_facts (focus_at r.program f y z b s h k ids frame w here kinded leads agrees)
