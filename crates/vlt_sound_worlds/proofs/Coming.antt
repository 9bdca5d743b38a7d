-- What is handed over goes under a key that had nothing.
use Rattle.std.proofs.Common.{◌≡◌, ◌⊎◌, inl, ⊎_elim, ℕ, ◌<◌, ◌≤◌, IsTrue, List, [], ◌∷◌, ◌++◌, length, Some, refl, sym, ap, ◌∙◌, subst, arith}
use Rattle.std.proofs.lemmas.Bool.{cases_eq}
use Rattle.vlt_core.specs.Core.{States, a_key, a_var, Func, Program}
use Rattle.vlt_core.specs.Lookups.{is_owning_var, key_type}
use Rattle.vlt_core.specs.Maps.{absent, held, HeldMap}
use Rattle.vlt_core.specs.Types.{keys_of_ty}
use Rattle.vlt_core.specs.KindedScopes.{Ids}
use Rattle.vlt_meaning.specs.World.{one, owned, objects_in, loose, adopted_by, gone, Object, Frame}
use Rattle.vlt_meaning.specs.World as world
use Rattle.vlt_meaning.specs.Objects.{with_changed_object, with_owner}
use Rattle.vlt_meaning.specs.Step.{with_key}
use Rattle.vlt_sound_worlds.specs.Look.{look, ChangesOne}
use Rattle.vlt_sound_worlds.proofs.Look.{changes_one, owns_one}
use Rattle.vlt_sound_worlds.proofs.Ranks.{ranked_root}
use Rattle.vlt_sound_worlds.specs.Members.{In}
use Rattle.vlt_sound_worlds.specs.Roots.{Root, in_var, in_hand, in_wait, in_cell, cell_of, content, home}
use Rattle.vlt_sound_worlds.proofs.Placed as placed
use Rattle.vlt_sound_worlds.proofs.Roots.{same_root}
use Rattle.vlt_sound_worlds.specs.Keys.{KeyAgrees, IsUnder, IsOfType}
use Rattle.vlt_sound_worlds.proofs.KeysLaws.{key_kept, key_held, none_under, under_one}
use Rattle.vlt_sound_worlds.specs.Scene.{Focus}
use Rattle.vlt_sound_worlds.proofs.Fits.{fits_named}
use Rattle.vlt_sound_worlds.specs.Agrees.{HasVar, Handed, values_of, FitHanded, Pin, Context, FociAgree, PinsAgree, scene, stock, Agrees}
use Rattle.vlt_sound_worlds.specs.Scopes.{NoneSpeaks, NonePins, IsFresh}
use Rattle.vlt_sound_worlds.proofs.FrameChanges.{set_here, set_other}
use Rattle.vlt_sound_worlds.proofs.FrameOwners.{agrees_owner, owner_heads, ChangesTok, cells_stay}
use Rattle.vlt_sound_worlds.proofs.Leaving.{key_same, var_is_no_key, length_changed}

module _ {p : Program} {f : Func} {c : Context} {h : HeldMap} {ids : Ids} {x : Handed} {hand : List Handed} {frame : Frame} {os : List Object}
    (agrees : Agrees p f c h ids (x ∷ hand) frame os) (n : ℕ) (is : x.value ≡ one (owned n))
    (within : n < length os) where
  pub agrees_bound : (k : ℕ) (states : States) (h' : HeldMap) → h (a_key k) ≡ absent →
      ChangesTok (a_key k) (held states) h h' →
      IsTrue (states (look os n).state) → IsOfType (key_type f k) (look os n).type → IsFresh f c ids hand k →
      Agrees p f c h' ids hand (with_key k n frame) (with_changed_object n (with_owner (world.held frame.depth k)) os)
  agrees_bound k states h' none tok state type fresh =
      agrees_owner agrees n (world.held frame.depth k) os' h' ids hand (with_key k n frame) (record {
        change = change;
        long = length_changed os n (with_owner (world.held frame.depth k));
        live = λ e. gone_loose (sym e ∙ was);
        lives = λ e. cc;
        ranked =
            ranked_root n (world.held frame.depth k) (owns_one n (world.held frame.depth k) change) refl
            (λ e. cc) agrees.ranked;
        lost = λ g e. absurd (loose_adopted g (sym was ∙ e));
        adoptable = λ g e. absurd (held_adopted g e);
        placed =
            placed.let_go home same_root agrees.placed in_hand (n ∷ []) (values_of hand) (world.held frame.depth k) (λ o. o)
            (record { was = ap (λ v. objects_in v ++ values_of hand) is; left = refl; others = same_content })
            (record {
              those = λ m i. ⊎_elim (λ e. ap (λ k. (look os' k).owner) e ∙ ap (λ o. o.owner) change.here) (λ i. absurd i) i;
              others = λ m off. ap (λ o. o.owner) (change.others m (λ e. off (inl e)));
            });
        keys = keys;
        vars = record {
          plain = agrees.vars.plain;
          full =
              λ v. subst (λ s. HasVar (is_owning_var f v) s (frame.vars v))
              (sym (tok.others (a_var v) var_is_no_key)) (agrees.vars.full v);
        };
        fit = record {
          fit = λ v ty a scoped known at. fits_named p (scene c os agrees.heads) frame.keys (with_key k n frame).keys ty a
              (λ j i. set_other k (Some n) frame.keys j (λ e. fresh.vars v ty scoped known (subst (λ j. In j (keys_of_ty ty)) e i)))
              (agrees.fit.fit v ty a scoped known at);
          there = agrees.fit.there;
        };
        handed = handed hand fresh.handed agrees.handed.1;
        depth = refl;
        named =
            λ j on. set_other k (Some n) frame.keys j (λ e. fresh.head (subst (λ j. IsTrue (c.head j)) e on))
            ∙ agrees.rest.named j on;
        pinned = pins c.pins fresh.pins agrees.rest.pinned;
        bounded = λ d j u. mine_is_within d u.0;
        focused = foci c.foci agrees.rest.focused;
        was_mine = λ d j lt u. subst (IsUnder d j) was u;
        is_mine = λ d j lt u. mine_is_not_below d lt u.0;
      })
    where
      os' : List Object
      os' = with_changed_object n (with_owner (world.held frame.depth k)) os

      change : ChangesOne n (with_owner (world.held frame.depth k)) (look os) (look os')
      change = changes_one os n (with_owner (world.held frame.depth k)) within

      was : (look os n).owner ≡ loose
      was = (agrees.placed.here in_hand n (subst (λ v. In n (objects_in v ++ values_of hand)) (sym is) (inl refl))).1

      gone_loose : gone ≡ loose → ⊥
      gone_loose e = cc

      loose_adopted : (g : ℕ) → loose ≡ adopted_by g → ⊥
      loose_adopted g e = cc

      held_adopted : (g : ℕ) → world.held frame.depth k ≡ adopted_by g → ⊥
      held_adopted g e = cc

      mine_is_within : (d : ℕ) → frame.depth ≡ d → d ≤ c.deepest
      mine_is_within d e = let depth = agrees.rest.depth in let le = agrees.rest.within in omega arith

      mine_is_not_below : (d : ℕ) → d < c.depth → frame.depth ≡ d → ⊥
      mine_is_not_below d lt e = let depth = agrees.rest.depth in absurd (omega arith)

      same_content : (P : Root) → (P ≡ in_hand → ⊥) →
          content (stock c hand (with_key k n frame) os') P ≡ content (stock c (x ∷ hand) frame os) P
      same_content (in_var v) other = refl
      same_content in_hand other = absurd (other refl)
      same_content (in_wait d v) other = refl
      same_content (in_cell m i) other = ⊎_elim
          (λ e. ap (λ k. cell_of (look os' k) i) e ∙
          (cells_stay (look os n) (look os' n) (ap (λ o. o.cells) change.here) (λ q. gone_loose (sym q ∙ was)) (λ q. gone_held (sym q ∙ ap (λ o. o.owner) change.here)) i ∙
          ap (λ k. cell_of (look os k) i) (sym e)))
          (λ off. ap (λ o. cell_of o i) (change.others m off))
          (cases_eq m n)
        where
          gone_held : gone ≡ world.held frame.depth k → ⊥
          gone_held e = cc

      foci : (fs : List Focus) → FociAgree (look os) fs → FociAgree (look os') fs
      foci [] a = tt
      foci (q ∷ qs) a =
          (ap (λ o. o.owner) (change.others q.guard (λ e. lent_loose q (sym a.0 ∙ (ap (λ m. (look os m).owner) e ∙ was)))) ∙ a.0, foci qs a.1)
        where
          lent_loose : (q : Focus) → world.lent q.depth q.guard_key ≡ loose → ⊥
          lent_loose q e = cc

      pins : (ps : List Pin) → NonePins k ps → PinsAgree frame.keys ps → PinsAgree (with_key k n frame).keys ps
      pins [] off a = tt
      pins (q ∷ qs) off a = (set_other k (Some n) frame.keys q.key off.0 ∙ a.0, pins qs off.1 a.1)

      handed : (xs : List Handed) → NoneSpeaks k xs → FitHanded p (scene c os agrees.heads) frame.keys xs →
          FitHanded p (scene c os agrees.heads) (with_key k n frame).keys xs
      handed [] off fits = tt
      handed (y ∷ ys) off fits = (
        fits_named p (scene c os agrees.heads) frame.keys (with_key k n frame).keys y.type y.value
            (λ j i. set_other k (Some n) frame.keys j (λ e. off.0 (subst (λ j. In j (keys_of_ty y.type)) e i))) fits.0,
        handed ys off.1 fits.1,
      )

      keys : (j : ℕ) → KeyAgrees (key_type f j) (h' (a_key j)) frame.depth j ((with_key k n frame).keys j) (look os')
      keys j = ⊎_elim
          (λ e. subst (λ j. KeyAgrees (key_type f j) (h' (a_key j)) frame.depth j ((with_key k n frame).keys j) (look os')) (sym e)
          (key_held states tok.here (record {
            number = n;
            named = set_here k (Some n) frame.keys;
            owned = ap (λ o. o.owner) change.here;
            typed = subst (IsOfType (key_type f k)) (sym (ap (λ o. o.type) change.here)) type;
            state = subst (λ s. IsTrue (states s)) (sym (ap (λ o. o.state) change.here)) state;
            only = λ m u. ⊎_elim
                (λ same. same)
                (λ off. absurd (none_under none (agrees.keys k) m (subst (λ o. IsUnder frame.depth k o.owner) (change.others m off) u)))
                (cases_eq m n);
          })))
          (λ off. key_kept (tok.others (a_key j) (λ e. off (key_same e))) (set_other k (Some n) frame.keys j off)
          (under_one frame.depth j n (with_owner (world.held frame.depth k)) change
          (λ u. subst (IsUnder frame.depth j) was u) (λ u. off (sym u.1)))
          (agrees.keys j))
          (cases_eq j k)

  -- what stood for headers is what it was
  pub bound_heads : (k : ℕ) (states : States) (h' : HeldMap) (none : h (a_key k) ≡ absent)
      (tok : ChangesTok (a_key k) (held states) h h') (state : IsTrue (states (look os n).state))
      (type : IsOfType (key_type f k) (look os n).type) (fresh : IsFresh f c ids hand k) →
      (agrees_bound k states h' none tok state type fresh).heads ≡ agrees.heads
  unfolding agrees_bound
  bound_heads k states h' none tok state type fresh =
      owner_heads agrees n (world.held frame.depth k) (with_changed_object n (with_owner (world.held frame.depth k)) os) h' ids hand
      (with_key k n frame) _
