-- An adopted object goes under a key that had nothing, while a focus on it is open.
use Rattle.std.proofs.Common.{◌≡◌, inr, ⊎_elim, ℕ, ◌<◌, ◌≤◌, IsTrue, List, [], ◌∷◌, length, Some, refl, sym, ap, ◌∙◌, subst, arith}
use Rattle.std.proofs.lemmas.Bool.{cases_eq}
use Rattle.vlt_core.specs.Core.{States, a_key, a_var, Func, Program}
use Rattle.vlt_core.specs.Lookups.{is_owning_var, key_type}
use Rattle.vlt_core.specs.Maps.{absent, held, HeldMap}
use Rattle.vlt_core.specs.Types.{keys_of_ty}
use Rattle.vlt_core.specs.KindedScopes.{Ids}
use Rattle.vlt_meaning.specs.World.{Owner, adopted_by, gone, Object, Frame}
use Rattle.vlt_meaning.specs.World as world
use Rattle.vlt_meaning.specs.Objects.{with_changed_object, with_owner}
use Rattle.vlt_meaning.specs.Step.{with_key}
use Rattle.vlt_sound_worlds.specs.Look.{look, ChangesOne}
use Rattle.vlt_sound_worlds.proofs.Look.{changes_one, owns_one}
use Rattle.vlt_sound_worlds.proofs.Ranks.{ranked_root}
use Rattle.vlt_sound_worlds.specs.Members.{In}
use Rattle.vlt_sound_worlds.specs.Placed.{IsOwned}
use Rattle.vlt_sound_worlds.specs.Roots.{Root, in_var, in_hand, in_wait, in_cell, cell_of, content, home}
use Rattle.vlt_sound_worlds.proofs.Placed as placed
use Rattle.vlt_sound_worlds.proofs.Roots.{homes, same_root}
use Rattle.vlt_sound_worlds.specs.Keys.{KeyAgrees, IsUnder, IsOfType}
use Rattle.vlt_sound_worlds.proofs.KeysLaws.{key_kept, key_held, none_under, under_one}
use Rattle.vlt_sound_worlds.specs.Scene.{Focus, IsFocusOn}
use Rattle.vlt_sound_worlds.proofs.Fits.{fits_named}
use Rattle.vlt_sound_worlds.specs.Agrees.{HasVar, Pin, Context, FociAgree, PinsAgree, scene, stock, Agrees}
use Rattle.vlt_sound_worlds.proofs.FrameChanges.{set_here, set_other}
use Rattle.vlt_sound_worlds.proofs.FrameOwners.{agrees_owner, ChangesTok, cells_stay}
use Rattle.vlt_sound_worlds.proofs.Leaving.{key_same, var_is_no_key, length_changed}
use Rattle.vlt_sound_worlds.specs.Scopes.{NonePins, IsFresh}

module _ {p : Program} {f : Func} {c : Context} {h : HeldMap} {ids : Ids} {frame : Frame} {os : List Object}
    (agrees : Agrees p f c h ids [] frame os) (n a : ℕ)
    (was : (look os n).owner ≡ adopted_by a) (within : n < length os) (on : IsFocusOn c.foci a n)
    (k : ℕ) (states : States) (h' : HeldMap) (none : h (a_key k) ≡ absent)
    (tok : ChangesTok (a_key k) (held states) h h') where
  abbrev pub taken : List Object
  taken = with_changed_object n (with_owner (world.held frame.depth k)) os

  change : ChangesOne n (with_owner (world.held frame.depth k)) (look os) (look taken)
  change = changes_one os n (with_owner (world.held frame.depth k)) within

  gone_adopted : gone ≡ adopted_by a → ⊥
  gone_adopted e = cc

  held_adopted : (g : ℕ) → world.held frame.depth k ≡ adopted_by g → ⊥
  held_adopted g e = cc

  unowned : (m : ℕ) → m ≡ n → IsOwned (look os m).owner → ⊥
  unowned m same o = subst IsOwned (ap (λ m. (look os m).owner) same ∙ was) o

  unowned_now : (m : ℕ) → m ≡ n → IsOwned (look taken m).owner → ⊥
  unowned_now m same o =
      subst IsOwned (ap (λ m. (look taken m).owner) same ∙ ap (λ o. o.owner) change.here) o

  mine_is_within : (d : ℕ) → frame.depth ≡ d → d ≤ c.deepest
  mine_is_within d e = let depth = agrees.rest.depth in let le = agrees.rest.within in omega arith

  mine_is_not_below : (d : ℕ) → d < c.depth → frame.depth ≡ d → ⊥
  mine_is_not_below d lt e = let depth = agrees.rest.depth in absurd (omega arith)

  same_content : (P : Root) → content (stock c [] (with_key k n frame) taken) P ≡ content (stock c [] frame os) P
  same_content (in_var v) = refl
  same_content in_hand = refl
  same_content (in_wait d v) = refl
  same_content (in_cell m i) = ⊎_elim
      (λ e. ap (λ k. cell_of (look taken k) i) e ∙
      (cells_stay (look os n) (look taken n) (ap (λ o. o.cells) change.here) (λ q. gone_adopted (sym q ∙ was))
      (λ q. gone_held (sym q ∙ ap (λ o. o.owner) change.here)) i ∙
      ap (λ k. cell_of (look os k) i) (sym e)))
      (λ off. ap (λ o. cell_of o i) (change.others m off))
      (cases_eq m n)
    where
      gone_held : gone ≡ world.held frame.depth k → ⊥
      gone_held e = cc

  foci_taken : (fs : List Focus) → FociAgree (look os) fs → FociAgree (look taken) fs
  foci_taken [] agree = tt
  foci_taken (q ∷ qs) agree = (
    ap (λ o. o.owner) (change.others q.guard (λ e. lent_adopted q (sym agree.0 ∙ (ap (λ m. (look os m).owner) e ∙ was)))) ∙ agree.0,
    foci_taken qs agree.1,
  )
    where
      lent_adopted : (q : Focus) → world.lent q.depth q.guard_key ≡ adopted_by a → ⊥
      lent_adopted q e = cc

  pins_taken : (ps : List Pin) → NonePins k ps → PinsAgree frame.keys ps → PinsAgree (with_key k n frame).keys ps
  pins_taken [] off agree = tt
  pins_taken (q ∷ qs) off agree =
      (set_other k (Some n) frame.keys q.key off.0 ∙ agree.0, pins_taken qs off.1 agree.1)

  keys_taken : IsTrue (states (look os n).state) → IsOfType (key_type f k) (look os n).type → (j : ℕ) →
      KeyAgrees (key_type f j) (h' (a_key j)) frame.depth j ((with_key k n frame).keys j) (look taken)
  keys_taken state type j = ⊎_elim
      (λ e. subst (λ j. KeyAgrees (key_type f j) (h' (a_key j)) frame.depth j ((with_key k n frame).keys j) (look taken)) (sym e)
      (key_held states tok.here (record {
        number = n;
        named = set_here k (Some n) frame.keys;
        owned = ap (λ o. o.owner) change.here;
        typed = subst (IsOfType (key_type f k)) (sym (ap (λ o. o.type) change.here)) type;
        state = subst (λ s. IsTrue (states s)) (sym (ap (λ o. o.state) change.here)) state;
        only = λ m u. ⊎_elim
            (λ same. same)
            (λ off. absurd (none_under none (agrees.keys k) m (subst (λ o. IsUnder frame.depth k o.owner) (change.others m off) u)))
            (cases_eq m n);
      })))
      (λ off. key_kept (tok.others (a_key j) (λ e. off (key_same e))) (set_other k (Some n) frame.keys j off)
      (under_one frame.depth j n (with_owner (world.held frame.depth k)) change
      (λ u. subst (IsUnder frame.depth j) was u) (λ u. off (sym u.1)))
      (agrees.keys j))
      (cases_eq j k)

  pub agrees_taken : IsTrue (states (look os n).state) → IsOfType (key_type f k) (look os n).type →
      IsFresh f c ids [] k → Agrees p f c h' ids [] (with_key k n frame) taken
  agrees_taken state type fresh =
      agrees_owner agrees n (world.held frame.depth k) taken h' ids [] (with_key k n frame) (record {
        change = change;
        long = length_changed os n (with_owner (world.held frame.depth k));
        live = λ e. gone_adopted (sym e ∙ was);
        lives = λ e. cc;
        ranked = ranked_root n (world.held frame.depth k) (owns_one n (world.held frame.depth k) change) refl
            (λ e. cc) agrees.ranked;
        lost = λ g e. inr (inr (subst (λ g. IsFocusOn c.foci g n) (adopter a g (sym was ∙ e)) on));
        adoptable = λ g e. absurd (held_adopted g e);
        placed = placed.kept home same_root agrees.placed same_content
            (λ m o. ⊎_elim (λ same. absurd (unowned m same o)) (λ other. ap (λ o. o.owner) (change.others m other)) (cases_eq m n))
            (λ m o. ⊎_elim (λ same. absurd (unowned_now m same o)) (λ other. ap (λ o. o.owner) (change.others m other)) (cases_eq m n))
            homes;
        keys = keys_taken state type;
        vars = record {
          plain = agrees.vars.plain;
          full =
              λ v. subst (λ s. HasVar (is_owning_var f v) s (frame.vars v))
              (sym (tok.others (a_var v) var_is_no_key)) (agrees.vars.full v);
        };
        fit = record {
          fit = λ v ty b scoped known at. fits_named p (scene c os agrees.heads) frame.keys (with_key k n frame).keys ty b
              (λ j i. set_other k (Some n) frame.keys j (λ e. fresh.vars v ty scoped known (subst (λ j. In j (keys_of_ty ty)) e i)))
              (agrees.fit.fit v ty b scoped known at);
          there = agrees.fit.there;
        };
        handed = tt;
        depth = refl;
        named =
            λ j head. set_other k (Some n) frame.keys j (λ e. fresh.head (subst (λ j. IsTrue (c.head j)) e head))
            ∙ agrees.rest.named j head;
        pinned = pins_taken c.pins fresh.pins agrees.rest.pinned;
        bounded = λ d j u. mine_is_within d u.0;
        focused = foci_taken c.foci agrees.rest.focused;
        was_mine = λ d j lt u. subst (IsUnder d j) was u;
        is_mine = λ d j lt u. mine_is_not_below d lt u.0;
      })
    where
      adopter : (a g : ℕ) → adopted_by a ≡ adopted_by g → a ≡ g
      adopter a g e = ap number e
        where
          number : Owner → ℕ
          number (adopted_by n) = n
          number _ = 0
