-- What is handed over and the objects of a case's keys become one value.
use Rattle.std.proofs.Common.{◌≡◌, inl, inr, ⊎_elim, ℕ, ◌<◌, List, [], ◌∷◌, ◌++◌, map, length, refl, sym, ap, ◌∙◌, subst, arith}
use Rattle.std.proofs.lemmas.List.{append-nil}
use Rattle.std.proofs.lemmas.Option.{same_Some}
use Rattle.vlt_core.specs.Core.{a_key, a_var, Func, Program}
use Rattle.vlt_core.specs.Lookups.{is_owning_var, key_type, KeyIn}
use Rattle.vlt_core.specs.Maps.{HeldMap, map_after}
use Rattle.vlt_core.specs.KindedScopes.{Ids}
use Rattle.vlt_meaning.specs.World.{objects_in, loose, gone, adopted_by, Object, Frame}
use Rattle.vlt_meaning.specs.World as world
use Rattle.vlt_sound_worlds.specs.Look.{look, IsLive}
use Rattle.vlt_sound_worlds.proofs.Look.{live_within}
use Rattle.vlt_sound_worlds.specs.Members.{In}
use Rattle.vlt_sound_worlds.specs.Placed.{IsOwned}
use Rattle.vlt_sound_worlds.specs.Roots.{Root, in_var, in_hand, in_wait, in_cell, cell_of, content, home}
use Rattle.vlt_sound_worlds.proofs.Members.{in_or_not}
use Rattle.vlt_sound_worlds.proofs.Placed as placed
use Rattle.vlt_sound_worlds.proofs.Roots.{homes, same_root}
use Rattle.vlt_sound_worlds.specs.Keys.{KeyAgrees, IsUnder, SameUnder}
use Rattle.vlt_sound_worlds.proofs.KeysLaws.{key_kept, key_absent, under_is}
use Rattle.vlt_sound_worlds.specs.Scene.{Focus}
use Rattle.vlt_sound_worlds.specs.Fits.{Fits}
use Rattle.vlt_sound_worlds.specs.Agrees.{HasVar, Handed, values_of, Context, FociAgree, scene, stock, Agrees}
use Rattle.vlt_sound_worlds.proofs.Kept.{object_kept}
use Rattle.vlt_sound_worlds.proofs.FrameOwners.{cells_stay}
use Rattle.vlt_sound_worlds.proofs.Leaving.{key_same}
use Rattle.vlt_sound_worlds.specs.Moved.{MovesThese}
use Rattle.vlt_sound_worlds.proofs.Chains.{ranked_roots}
use Rattle.vlt_sound_worlds.proofs.Changing.{agrees_changed, owned_live}
use Rattle.vlt_sound_statements.proofs.Shuffled.{held_unowned}
use Rattle.vlt_sound_statements.proofs.Packing.{pack_row, keys_in_list, HoldAll, packed_absent, packed_other, held_in, named_in, hold_once}

module _ {p : Program} {f : Func} {c : Context} {h : HeldMap} {ids : Ids} {hand : List Handed} {frame : Frame} {os : List Object}
    (agrees : Agrees p f c h ids hand frame os) (ks : List KeyIn) (ns : List ℕ) (all : HoldAll f frame os ks ns)
    (os' : List Object) (moves : MovesThese ns loose (look os) (look os')) (long : length os' ≡ length os) where
  pub agrees_boxed : (x : Handed) → objects_in x.value ≡ values_of hand ++ ns →
      Fits p (scene c os agrees.heads) frame.keys x.type x.value →
      Agrees p f c (map_after (map pack_row ks) h) ids (x ∷ []) frame os'
  agrees_boxed x objects fits =
      agrees_changed agrees os' agrees.heads (map_after (map pack_row ks) h) ids (x ∷ []) frame (record {
        long = λ m lt. subst (λ n. m < n) (sym long) lt;
        type = λ m lt. types m;
        state = λ m lt. states m;
        headed = λ m lt. refl;
        ended = λ m lt e. owner_other m (not_gone m e) ∙ e;
        lost = λ g m e. inr (inl (owner_other m (not_adopted m g e) ∙ e));
        old = λ m owned. subst (λ n. m < n) long (live_within os' m (owned_live os' m owned));
        placed = placed.taken home same_root agrees.placed in_hand ns (values_of hand)
            (record {
              before = refl;
              now = append-nil (objects_in x.value) ∙ objects;
              others = same_content;
            })
            (hold_once f frame os ks ns all)
            (λ m i P has. held_unowned frame.depth (held m i).0 (held m i).2
            (subst IsOwned (sym (agrees.placed.here P m has).1) (homes P)))
            (record { those = owner_there; others = owner_other });
        ranked = ranked_roots ns loose moves refl (λ e. cc) agrees.ranked;
        objects = λ growing keeping m live.
            let was : IsLive (look os) m = λ e. live (owner_other m (not_gone m e) ∙ e) in
            object_kept agrees os' agrees.heads growing keeping m was refl (types m) (cells m)
            (rw (types m, states m) (agrees.objects m was).state);
        adopted = λ m g e.
            let off : In m ns → ⊥ = λ i. loose_adopted g (sym (owner_there m i) ∙ e) in
            let a = agrees.adopted m g (sym (owner_other m off) ∙ e) in
            record { released = rw (types m, states m) a.released; droppable = rw (types m) a.droppable };
        keys = keys;
        vars = record {
          plain = agrees.vars.plain;
          full =
              λ v. subst (λ s. HasVar (is_owning_var f v) s (frame.vars v))
              (sym (packed_other ks h (a_var v) (λ j e i. var_is_no_key e))) (agrees.vars.full v);
        };
        fit = agrees.fit;
        handed = (fits, tt);
        depth = refl;
        named = agrees.rest.named;
        pinned = agrees.rest.pinned;
        bounded = λ m d j u. agrees.rest.bounded m d j (subst (IsUnder d j) (owner_other m (not_loose m d j u)) u);
        focused = foci c.foci agrees.rest.focused;
        under = λ d j lt. same_under d j (λ m i u. mine d j lt (held m i).0 (subst (IsUnder d j) (held m i).2 u));
      })
    where
      var_is_no_key : {v j : ℕ} → a_var v ≡ a_key j → ⊥
      var_is_no_key e = cc

      loose_adopted : (g : ℕ) → loose ≡ adopted_by g → ⊥
      loose_adopted g e = cc

      held : (m : ℕ) → In m ns →
          (j : ℕ) × In j (keys_in_list ks) × ((look os m).owner ≡ world.held frame.depth j)
      held m i = held_in f frame os ks ns all m i

      owner_there : (m : ℕ) → In m ns → (look os' m).owner ≡ loose
      owner_there m i = ap (λ o. o.owner) (moves.those m i)

      owner_other : (m : ℕ) → (In m ns → ⊥) → (look os' m).owner ≡ (look os m).owner
      owner_other m off = ap (λ o. o.owner) (moves.others m off)

      types : (m : ℕ) → (look os' m).type ≡ (look os m).type
      types m = ⊎_elim
          (λ i. ap (λ o. o.type) (moves.those m i))
          (λ off. ap (λ o. o.type) (moves.others m off))
          (in_or_not m ns)

      states : (m : ℕ) → (look os' m).state ≡ (look os m).state
      states m = ⊎_elim
          (λ i. ap (λ o. o.state) (moves.those m i))
          (λ off. ap (λ o. o.state) (moves.others m off))
          (in_or_not m ns)

      cells : (m : ℕ) → (look os' m).cells ≡ (look os m).cells
      cells m = ⊎_elim
          (λ i. ap (λ o. o.cells) (moves.those m i))
          (λ off. ap (λ o. o.cells) (moves.others m off))
          (in_or_not m ns)

      not_gone : (m : ℕ) → (look os m).owner ≡ gone → In m ns → ⊥
      not_gone m e i = clash (held m i).0 (sym e ∙ (held m i).2)
        where
          clash : (j : ℕ) → gone ≡ world.held frame.depth j → ⊥
          clash j e = cc

      not_adopted : (m g : ℕ) → (look os m).owner ≡ adopted_by g → In m ns → ⊥
      not_adopted m g e i = clash (held m i).0 (sym e ∙ (held m i).2)
        where
          clash : (j : ℕ) → adopted_by g ≡ world.held frame.depth j → ⊥
          clash j e = cc

      not_loose : (m d j : ℕ) → IsUnder d j (look os' m).owner → In m ns → ⊥
      not_loose m d j u i = subst (IsUnder d j) (owner_there m i) u

      mine : (d j : ℕ) → d < c.depth → (k : ℕ) → IsUnder d j (world.held frame.depth k) → ⊥
      mine d j lt k u =
          let same : frame.depth ≡ d = u.0 in
          let depth : frame.depth ≡ c.depth = agrees.rest.depth in
          absurd (omega arith)

      -- where none of the objects was under a key, the same are
      same_under : (d j : ℕ) → ((m : ℕ) → In m ns → IsUnder d j (look os m).owner → ⊥) →
          SameUnder d j (look os) (look os')
      same_under d j was = record {
        to = λ m u. owner_other m (λ i. was m i u);
        back = λ m u.
            let e = moves.others m (not_loose m d j u) in
            record { owner = ap (λ o. o.owner) e; type = ap (λ o. o.type) e; state = ap (λ o. o.state) e };
      }

      live_before : (m : ℕ) → In m ns → IsLive (look os) m
      live_before m i e = not_gone m e i

      live_after : (m : ℕ) → In m ns → IsLive (look os') m
      live_after m i e = clash (sym e ∙ owner_there m i)
        where
          clash : gone ≡ loose → ⊥
          clash e = cc

      same_content : (P : Root) → (P ≡ in_hand → ⊥) →
          content (stock c (x ∷ []) frame os') P ≡ content (stock c hand frame os) P
      same_content (in_var v) other = refl
      same_content in_hand other = absurd (other refl)
      same_content (in_wait d v) other = refl
      same_content (in_cell m l) other = ⊎_elim
          (λ i. cells_stay (look os m) (look os' m) (cells m) (live_before m i) (live_after m i) l)
          (λ off. ap (λ o. cell_of o l) (moves.others m off))
          (in_or_not m ns)

      keys : (j : ℕ) → KeyAgrees (key_type f j) (map_after (map pack_row ks) h (a_key j)) frame.depth j (frame.keys j) (look os')
      keys j = ⊎_elim
          (λ i. key_absent (packed_absent ks h j i) (λ m u.
          let was = subst (IsUnder frame.depth j) (owner_other m (not_loose m frame.depth j u)) u in
          let at = named_in f frame os ks ns all j i in
          not_loose m frame.depth j u
          (subst (λ n. In n ns) (same_Some at.0 m (sym at.1 ∙ under_is (agrees.keys j) m was)) at.2)))
          (λ off. key_kept (packed_other ks h (a_key j) (λ l e i. off (subst (λ l. In l (keys_in_list ks)) (sym (key_same e)) i))) refl
          (same_under frame.depth j (λ m i u.
          let at : IsUnder frame.depth j (world.held frame.depth (held m i).0) = subst (IsUnder frame.depth j) (held m i).2 u in
          off (subst (λ l. In l (keys_in_list ks)) at.1 (held m i).1)))
          (agrees.keys j))
          (in_or_not j (keys_in_list ks))

      foci : (fs : List Focus) → FociAgree (look os) fs → FociAgree (look os') fs
      foci [] a = tt
      foci (q ∷ qs) a = (
        owner_other q.guard (λ i. clash (held q.guard i).0 (sym a.0 ∙ (held q.guard i).2)) ∙ a.0,
        foci qs a.1,
      )
        where
          clash : (j : ℕ) → world.lent q.depth q.guard_key ≡ world.held frame.depth j → ⊥
          clash j e = cc
