-- A field of a held object and a variable exchange their values.
use Rattle.std.proofs.Common.{◌≡◌, inl, inr, ⊎_elim, ℕ, ◌<◌, true, false, List, length, Some, refl, sym, ap, ◌∙◌, subst, slice_get, slice_set}
use Rattle.std.proofs.lemmas.Bool.{cases_eq}
use Rattle.std.proofs.lemmas.Option.{same_Some}
use Rattle.vlt_core.specs.Core.{Ty, a_var, FieldDecl, Func, Program}
use Rattle.vlt_core.specs.Lookups.{var_type, is_owning, is_owning_var, owns, fields_of}
use Rattle.vlt_core.specs.Types.{with_keys, stands_for}
use Rattle.vlt_core.specs.Maps.{full, HeldMap}
use Rattle.vlt_core.specs.KindedScopes.{Ids}
use Rattle.vlt_meaning.specs.World.{Value, objects_in, loose, inside, above, Object, Frame}
use Rattle.vlt_meaning.specs.World as world
use Rattle.vlt_meaning.specs.Objects.{with_cell}
use Rattle.vlt_meaning.specs.Step.{set_at, with_var}
use Rattle.vlt_meaning_laws.proofs.Lists.{get_set_same, get_set_other}
use Rattle.vlt_sound_worlds.specs.Look.{look, IsLive, ChangesOne}
use Rattle.vlt_sound_worlds.proofs.Look.{live_within}
use Rattle.vlt_sound_worlds.proofs.Ranks.{ranked_same}
use Rattle.vlt_sound_worlds.specs.Members.{In}
use Rattle.vlt_sound_worlds.specs.Placed.{IsOwned}
use Rattle.vlt_sound_worlds.specs.Roots.{Root, in_var, in_hand, in_wait, in_cell, owned_by, cell_of, content, home}
use Rattle.vlt_sound_worlds.proofs.Members.{in_or_not}
use Rattle.vlt_sound_worlds.proofs.Roots.{same_root}
use Rattle.vlt_sound_worlds.specs.Keys.{IsUnder}
use Rattle.vlt_sound_worlds.proofs.KeysLaws.{key_kept}
use Rattle.vlt_sound_worlds.specs.Scene.{Grows}
use Rattle.vlt_sound_worlds.specs.Fits.{Names, names_of, Fits}
use Rattle.vlt_sound_worlds.proofs.Fits.{fits_kept, fits_named, fits_after}
use Rattle.vlt_sound_worlds.specs.Agrees.{HasVar, VarsFit, VarsAgree, ObjectFits, Handed, Context, scene, stock, Agrees}
use Rattle.vlt_sound_worlds.specs.Typed.{IsTyped}
use Rattle.vlt_sound_worlds.proofs.Kept.{KeepsOwned, cells_in, object_kept, old_cells_kept}
use Rattle.vlt_sound_worlds.proofs.Expressions.{Read, names_at}
use Rattle.vlt_sound_worlds.proofs.FrameChanges.{set_here, set_other}
use Rattle.vlt_sound_worlds.proofs.Fields.{cells_set}
use Rattle.vlt_sound_worlds.specs.Moved.{MovesThese}
use Rattle.vlt_sound_worlds.proofs.Chains.{ranked_roots, ranked_children}
use Rattle.vlt_sound_worlds.proofs.Places.{exchanged}
use Rattle.vlt_sound_worlds.proofs.Changing.{agrees_changed, owned_live}
use Rattle.vlt_sound_statements.proofs.Shuffled.{Shuffles, was_unowned, is_unowned, gone_unowned, adopted_unowned, under_stays, under_was, cells_shuffle, foci_shuffle}

module _ {p : Program} {f : Func} (typed : IsTyped p f) {c : Context} {h : HeldMap} {ids : Ids} {hand : List Handed} {frame : Frame} {os : List Object}
    (agrees : Agrees p f c h ids hand frame os) (x i v : ℕ) (at : Read typed ids agrees x i)
    (new : Value) (there : frame.vars v ≡ Some new) (k : ℕ)
    (held_by : (look os at.touch.number).owner ≡ world.held frame.depth k) where
  -- the objects of the field are loose, then those of the variable are in the field's object, then the field has the value
  pub record Swaps (os1 os2 os3 : List Object) : Type 0 where
    pub first : MovesThese (objects_in at.value) loose (look os) (look os1)
    pub second : MovesThese (objects_in new) (inside at.touch.number) (look os1) (look os2)
    pub third : ChangesOne at.touch.number (with_cell i new) (look os2) (look os3)
    pub long : length os3 ≡ length os

  pub agrees_swapped : (os1 os2 os3 : List Object) → Swaps os1 os2 os3 → (ty : Ty) → var_type f v ≡ Some ty →
      is_owning ty ≡ true → h (a_var v) ≡ full →
      Fits p (scene c os agrees.heads) frame.keys (with_keys at.args at.field.decl.ty) new →
      Fits p (scene c os agrees.heads) frame.keys ty at.value →
      Agrees p f c h ids hand (with_var v (Some at.value) frame) os3
  agrees_swapped os1 os2 os3 s ty is owning filled fits_new fits_old =
      agrees_changed agrees os3 agrees.heads h ids hand (with_var v (Some old) frame) (record {
        long = λ m lt. subst (λ k. m < k) (sym s.long) lt;
        type = λ m lt. (shuffles m).type;
        state = λ m lt. (shuffles m).state;
        headed = λ m lt. refl;
        ended = λ m lt e. was_unowned (shuffles m) (gone_unowned e) ∙ e;
        lost = λ g m e. inr (inl (was_unowned (shuffles m) (adopted_unowned g e) ∙ e));
        old = λ m owned. subst (λ k. m < k) s.long (live_within os3 m (owned_live os3 m owned));
        placed = exchanged home same_root agrees.placed (in_var v) (in_cell n i) (record {
          apart = λ e. cc;
          first = ap owned_by (set_here v (Some old) frame.vars) ∙ sym was_cell;
          second = now_cell ∙ sym (ap owned_by there);
          others = same_content;
          to_first = λ m j. owner_old m (subst (In m) was_cell j);
          to_second = λ m j. owner_new m (subst (λ a. In m (owned_by a)) there j);
          stays = λ m off off'. owner_other m (λ j. off' (subst (In m) (sym was_cell) j))
              (λ j. off (subst (λ a. In m (owned_by a)) (sym there) j));
        });
        ranked = ranked_same owner_third
            (ranked_children (objects_in new) (inside n) s.second n refl n_not_new (live_first) (ap above root_first)
            (ranked_roots (objects_in old) loose s.first refl (λ e. cc) agrees.ranked));
        objects = objects;
        adopted = λ m g e.
            let was = is_unowned (shuffles m) (adopted_unowned g e) in
            let a = agrees.adopted m g (sym was ∙ e) in
            record {
              released = rw ((shuffles m).type, (shuffles m).state) a.released;
              droppable = rw (shuffles m).type a.droppable;
            };
        keys = λ j. key_kept refl refl
            (record { to = λ m u. under_stays frame.depth j (shuffles m) u; back = λ m u. under_was frame.depth j (shuffles m) u })
            (agrees.keys j);
        vars = vars;
        fit = fit;
        handed = agrees.handed;
        depth = refl;
        named = agrees.rest.named;
        pinned = agrees.rest.pinned;
        bounded = λ m d j u. agrees.rest.bounded m d j (subst (IsUnder d j) (under_was d j (shuffles m) u).owner u);
        focused = foci_shuffle (look os) (look os3) (λ m. inr (shuffles m)) c.foci agrees.rest.focused;
        under =
            λ d j lt. record { to = λ m u. under_stays d j (shuffles m) u; back = λ m u. under_was d j (shuffles m) u };
      })
    where
      n : ℕ
      n = at.touch.number

      old : Value
      old = at.value

      -- ---- where the objects are

      was_cell : cell_of (look os n) i ≡ objects_in old
      was_cell = cells_in (look os n) at.touch.live i ∙ ap owned_by at.at

      old_owner : (m : ℕ) → In m (objects_in old) → (look os m).owner ≡ inside n
      old_owner m j = (agrees.placed.here (in_cell n i) m (subst (In m) (sym was_cell) j)).1

      new_owner : (m : ℕ) → In m (objects_in new) → (look os m).owner ≡ loose
      new_owner m j = (agrees.placed.here (in_var v) m (subst (λ a. In m (owned_by a)) (sym there) j)).1

      n_not_old : In n (objects_in old) → ⊥
      n_not_old j = let e = sym held_by ∙ old_owner n j in cc

      n_not_new : In n (objects_in new) → ⊥
      n_not_new j = let e = sym held_by ∙ new_owner n j in cc

      apart : (m : ℕ) → In m (objects_in old) → In m (objects_in new) → ⊥
      apart m j l = let e = sym (old_owner m j) ∙ new_owner m l in cc

      root_first : (look os1 n).owner ≡ world.held frame.depth k
      root_first = ap (λ o. o.owner) (s.first.others n n_not_old) ∙ held_by

      live_first : IsLive (look os1) n
      live_first e = let q = sym e ∙ root_first in cc

      -- ---- what becomes of each object

      owner_third : (m : ℕ) → (look os3 m).owner ≡ (look os2 m).owner
      owner_third m = ⊎_elim
          (λ e. ap (λ k. (look os3 k).owner) e ∙ (ap (λ o. o.owner) s.third.here ∙ ap (λ k. (look os2 k).owner) (sym e)))
          (λ other. ap (λ o. o.owner) (s.third.others m other))
          (cases_eq m n)

      owner_old : (m : ℕ) → In m (objects_in old) → (look os3 m).owner ≡ loose
      owner_old m j =
          owner_third m ∙
          (ap (λ o. o.owner) (s.second.others m (apart m j)) ∙ ap (λ o. o.owner) (s.first.those m j))

      owner_new : (m : ℕ) → In m (objects_in new) → (look os3 m).owner ≡ inside n
      owner_new m j = owner_third m ∙ ap (λ o. o.owner) (s.second.those m j)

      owner_other : (m : ℕ) → (In m (objects_in old) → ⊥) → (In m (objects_in new) → ⊥) →
          (look os3 m).owner ≡ (look os m).owner
      owner_other m off off' =
          owner_third m ∙
          (ap (λ o. o.owner) (s.second.others m off') ∙ ap (λ o. o.owner) (s.first.others m off))

      moved_type : (m : ℕ) → (look os2 m).type ≡ (look os m).type
      moved_type m = ⊎_elim
          (λ j. ap (λ o. o.type) (s.second.those m j))
          (λ off. ap (λ o. o.type) (s.second.others m off))
          (in_or_not m (objects_in new)) ∙
          ⊎_elim
          (λ j. ap (λ o. o.type) (s.first.those m j))
          (λ off. ap (λ o. o.type) (s.first.others m off))
          (in_or_not m (objects_in old))

      moved_state : (m : ℕ) → (look os2 m).state ≡ (look os m).state
      moved_state m = ⊎_elim
          (λ j. ap (λ o. o.state) (s.second.those m j))
          (λ off. ap (λ o. o.state) (s.second.others m off))
          (in_or_not m (objects_in new)) ∙
          ⊎_elim
          (λ j. ap (λ o. o.state) (s.first.those m j))
          (λ off. ap (λ o. o.state) (s.first.others m off))
          (in_or_not m (objects_in old))

      moved_cells : (m : ℕ) → (look os2 m).cells ≡ (look os m).cells
      moved_cells m = ⊎_elim
          (λ j. ap (λ o. o.cells) (s.second.those m j))
          (λ off. ap (λ o. o.cells) (s.second.others m off))
          (in_or_not m (objects_in new)) ∙
          ⊎_elim
          (λ j. ap (λ o. o.cells) (s.first.those m j))
          (λ off. ap (λ o. o.cells) (s.first.others m off))
          (in_or_not m (objects_in old))

      third_type : (m : ℕ) → (look os3 m).type ≡ (look os2 m).type
      third_type m = ⊎_elim
          (λ e. ap (λ k. (look os3 k).type) e ∙ (ap (λ o. o.type) s.third.here ∙ ap (λ k. (look os2 k).type) (sym e)))
          (λ other. ap (λ o. o.type) (s.third.others m other))
          (cases_eq m n)

      third_state : (m : ℕ) → (look os3 m).state ≡ (look os2 m).state
      third_state m = ⊎_elim
          (λ e. ap (λ k. (look os3 k).state) e ∙ (ap (λ o. o.state) s.third.here ∙ ap (λ k. (look os2 k).state) (sym e)))
          (λ other. ap (λ o. o.state) (s.third.others m other))
          (cases_eq m n)

      shuffles : (m : ℕ) → Shuffles (look os m) (look os3 m)
      shuffles m = record {
        type = third_type m ∙ moved_type m;
        state = third_state m ∙ moved_state m;
        owner = ⊎_elim
            (λ j. inr (subst IsOwned (sym (old_owner m j)) tt, subst IsOwned (sym (owner_old m j)) tt))
            (λ off. ⊎_elim
            (λ j. inr (subst IsOwned (sym (new_owner m j)) tt, subst IsOwned (sym (owner_new m j)) tt))
            (λ off'. inl (owner_other m off off'))
            (in_or_not m (objects_in new)))
            (in_or_not m (objects_in old));
      }

      -- ---- cells

      cells_here : (look os3 n).cells ≡ slice_set (look os n).cells i new
      cells_here = ap (λ o. o.cells) s.third.here ∙ ap (λ cs. slice_set cs i new) (moved_cells n)

      cells_other : (m : ℕ) → (m ≡ n → ⊥) → (look os3 m).cells ≡ (look os m).cells
      cells_other m other = ap (λ o. o.cells) (s.third.others m other) ∙ moved_cells m

      live_now : IsLive (look os3) n
      live_now e = let q = sym e ∙ (owner_other n n_not_old n_not_new ∙ held_by) in cc

      now_cell : cell_of (look os3 n) i ≡ objects_in new
      now_cell =
          cells_in (look os3 n) live_now i ∙
          (ap (λ cs. owned_by (slice_get cs i)) cells_here ∙
          ap owned_by (get_set_same (look os n).cells i new old at.at))

      same_content : (P : Root) → (P ≡ in_var v → ⊥) → (P ≡ in_cell n i → ⊥) →
          content (stock c hand (with_var v (Some old) frame) os3) P ≡ content (stock c hand frame os) P
      same_content (in_var u) y z = ap owned_by (set_other v (Some old) frame.vars u (λ e. y (ap in_var e)))
      same_content in_hand y z = refl
      same_content (in_wait d u) y z = refl
      same_content (in_cell m j) y z = cells_shuffle (shuffles m) j (⊎_elim
          (λ e. ap (λ k. slice_get (look os3 k).cells j) e ∙
          (ap (λ cs. slice_get cs j) cells_here ∙
          (get_set_other (look os n).cells i j new (λ q. z (ap (λ k. in_cell k j) e ∙ ap (in_cell n) q)) ∙
          ap (λ k. slice_get (look os k).cells j) (sym e))))
          (λ other. ap (λ cs. slice_get cs j) (cells_other m other))
          (cases_eq m n))

      here_fits : Grows (scene c os agrees.heads) (scene c os3 agrees.heads) → KeepsOwned (look os) (look os3) →
          ObjectFits p (scene c os3 agrees.heads) n
      here_fits growing keeping =
          let names : Names = names_of (agrees.heads n) in
          let d : FieldDecl = at.field.decl in
          let declared : slice_get (fields_of p (look os n).type) i ≡ Some d =
          ap (λ t. slice_get (fields_of p t) i) at.touch.of.typed ∙ at.field.at in
          let now = fits_kept p growing names d.ty new
          (record { state = λ m j. (shuffles m).state; type = λ m j. (shuffles m).type })
          (fits_named p (scene c os agrees.heads) (λ k. frame.keys (stands_for at.args k)) names d.ty new
          (λ k j. ap (λ hs. names_of hs k) at.touch.of.headed ∙
          names_at frame.keys at.args k (subst (λ m. k < m) (sym at.count) (typed.fields at.type i d at.field.at k j)))
          (fits_after p (scene c os agrees.heads) frame.keys at.args d.ty new fits_new)) in
          record {
            cells = rw ((shuffles n).type, cells_here)
                (cells_set p (scene c os3 agrees.heads) names (fields_of p (look os n).type) (look os n).cells i d new
                (old_cells_kept agrees os3 agrees.heads growing keeping n at.touch.live) declared now);
            state = rw ((shuffles n).type, (shuffles n).state) (agrees.objects n at.touch.live).state;
          }

      was_live : (m : ℕ) → IsLive (look os3) m → IsLive (look os) m
      was_live m live e = live (was_unowned (shuffles m) (gone_unowned e) ∙ e)

      objects : Grows (scene c os agrees.heads) (scene c os3 agrees.heads) → KeepsOwned (look os) (look os3) →
          (m : ℕ) → IsLive (look os3) m → ObjectFits p (scene c os3 agrees.heads) m
      objects growing keeping m live = ⊎_elim
          (λ e. subst (ObjectFits p (scene c os3 agrees.heads)) (sym e) (here_fits growing keeping))
          (λ other. object_kept agrees os3 agrees.heads growing keeping m (was_live m live) refl (shuffles m).type (cells_other m other)
          (rw ((shuffles m).type, (shuffles m).state) (agrees.objects m (was_live m live)).state))
          (cases_eq m n)

      -- ---- variables

      clash : true ≡ false → ⊥
      clash e = cc

      vars : VarsAgree f h (with_var v (Some old) frame).vars
      vars = record {
        plain = λ u e. ⊎_elim
            (λ same. absurd (clash (sym (ap owns is ∙ owning) ∙ (ap (is_owning_var f) (sym same) ∙ e))))
            (λ other. ap owned_by (set_other v (Some old) frame.vars u other) ∙ agrees.vars.plain u e)
            (cases_eq u v);
        full = λ u. ⊎_elim
            (λ same. subst (λ u. HasVar (is_owning_var f u) (h (a_var u)) (set_at v (Some old) frame.vars u)) (sym same)
            (subst (HasVar (is_owning_var f v) (h (a_var v))) (sym (set_here v (Some old) frame.vars))
            (subst (λ s. HasVar (is_owning_var f v) s (Some old)) (sym filled) (old, refl))))
            (λ other. subst (HasVar (is_owning_var f u) (h (a_var u))) (sym (set_other v (Some old) frame.vars u other)) (agrees.vars.full u))
            (cases_eq u v);
      }

      fit : VarsFit p f ids (scene c os agrees.heads) frame.keys (with_var v (Some old) frame).vars
      fit = record {
        fit = λ u t b scoped type here. ⊎_elim
            (λ same.
            let value : old ≡ b =
            same_Some old b
            (sym (set_here v (Some old) frame.vars) ∙ (ap (set_at v (Some old) frame.vars) (sym same) ∙ here)) in
            let types : ty ≡ t = same_Some ty t (sym is ∙ (ap (var_type f) (sym same) ∙ type)) in
            subst (λ b. Fits p (scene c os agrees.heads) frame.keys t b) value
            (subst (λ t. Fits p (scene c os agrees.heads) frame.keys t old) types fits_old))
            (λ other. agrees.fit.fit u t b scoped type (sym (set_other v (Some old) frame.vars u other) ∙ here))
            (cases_eq u v);
        there = λ u t scoped type plain. ⊎_elim
            (λ same. (old, ap (set_at v (Some old) frame.vars) same ∙ set_here v (Some old) frame.vars))
            (λ other. let r = agrees.fit.there u t scoped type plain in (r.0, set_other v (Some old) frame.vars u other ∙ r.1))
            (cases_eq u v);
      }
