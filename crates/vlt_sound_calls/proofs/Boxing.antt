-- What is handed over and objects that the host has become one value.
use Rattle.std.proofs.Common.{◌≡◌, inl, inr, ⊎_elim, ℕ, ◌<◌, List, [], ◌∷◌, ◌++◌, refl, sym, ap, ◌∙◌, subst}
use Rattle.std.proofs.lemmas.List.{append-nil}
use Rattle.vlt_core.specs.Core.{Func, Program}
use Rattle.vlt_core.specs.Maps.{HeldMap}
use Rattle.vlt_core.specs.KindedScopes.{Ids}
use Rattle.vlt_meaning.specs.World as world
use Rattle.vlt_meaning.specs.World.{objects_in, Owner, loose, out, gone, adopted_by, Object, Frame}
use Rattle.vlt_sound_worlds.specs.Look.{look, IsLive}
use Rattle.vlt_sound_worlds.proofs.Look.{live_within}
use Rattle.vlt_sound_worlds.specs.Members.{In}
use Rattle.vlt_sound_worlds.specs.Placed.{IsOwned}
use Rattle.vlt_sound_worlds.specs.Roots.{Root, in_var, in_hand, in_wait, in_cell, cell_of, content, home}
use Rattle.vlt_sound_worlds.proofs.Members.{in_or_not}
use Rattle.vlt_sound_worlds.proofs.Placed as placed
use Rattle.vlt_sound_worlds.proofs.Roots.{homes, same_root}
use Rattle.vlt_sound_worlds.specs.Keys.{IsUnder, SameUnder}
use Rattle.vlt_sound_worlds.proofs.KeysLaws.{key_kept}
use Rattle.vlt_sound_worlds.specs.Scene.{Focus}
use Rattle.vlt_sound_worlds.specs.Fits.{Fits}
use Rattle.vlt_sound_worlds.specs.Agrees.{Handed, values_of, Context, FociAgree, scene, stock, Agrees}
use Rattle.vlt_sound_worlds.proofs.Kept.{object_kept}
use Rattle.vlt_sound_worlds.proofs.FrameOwners.{cells_stay}
use Rattle.vlt_sound_worlds.proofs.Chains.{ranked_roots}
use Rattle.vlt_sound_worlds.proofs.Changing.{agrees_changed, owned_live}
use Rattle.vlt_sound_calls.specs.TakenOver.{AreTakenOver}

module _ {p : Program} {f : Func} {c : Context} {h : HeldMap} {ids : Ids} {hand : List Handed} {frame : Frame} {os : List Object}
    (agrees : Agrees p f c h ids hand frame os) (ns : List ℕ) (os' : List Object) (t : AreTakenOver ns os os') where
  pub agrees_boxed : (x : Handed) → objects_in x.value ≡ values_of hand ++ ns →
      Fits p (scene c os agrees.heads) frame.keys x.type x.value → Agrees p f c h ids (x ∷ []) frame os'
  agrees_boxed x objects fits =
      agrees_changed agrees os' agrees.heads h ids (x ∷ []) frame (record {
        long = λ m lt. subst (λ n. m < n) (sym t.long) lt;
        type = λ m lt. types m;
        state = λ m lt. states m;
        headed = λ m lt. refl;
        ended = λ m lt e. owner_other m (stays gone m (λ e. cc) e) ∙ e;
        lost = λ g m e. inr (inl (owner_other m (stays (adopted_by g) m (λ e. cc) e) ∙ e));
        old = λ m owned. subst (λ n. m < n) t.long (live_within os' m (owned_live os' m owned));
        placed = placed.taken home same_root agrees.placed in_hand ns (values_of hand)
            (record {
              before = refl;
              now = append-nil (objects_in x.value) ∙ objects;
              others = same_content;
            })
            t.once
            (λ m i P has. subst IsOwned (sym (agrees.placed.here P m has).1 ∙ t.was m i) (homes P))
            (record { those = owner_there; others = owner_other });
        ranked = ranked_roots ns loose t.moves refl (λ e. cc) agrees.ranked;
        objects = λ growing keeping m live.
            let was : IsLive (look os) m = λ e. live (owner_other m (stays gone m (λ e. cc) e) ∙ e) in
            object_kept agrees os' agrees.heads growing keeping m was refl (types m) (cells m)
            (rw (types m, states m) (agrees.objects m was).state);
        adopted = λ m g e.
            let off : In m ns → ⊥ = λ i. loose_adopted g (sym (owner_there m i) ∙ e) in
            let a = agrees.adopted m g (sym (owner_other m off) ∙ e) in
            record { released = rw (types m, states m) a.released; droppable = rw (types m) a.droppable };
        keys = λ j. key_kept refl refl (same_under frame.depth j) (agrees.keys j);
        vars = agrees.vars;
        fit = agrees.fit;
        handed = (fits, tt);
        depth = refl;
        named = agrees.rest.named;
        pinned = agrees.rest.pinned;
        bounded = λ m d j u. agrees.rest.bounded m d j (subst (IsUnder d j) (owner_other m (not_loose m d j u)) u);
        focused = foci c.foci agrees.rest.focused;
        under = λ d j lt. same_under d j;
      })
    where
      loose_adopted : (g : ℕ) → loose ≡ adopted_by g → ⊥
      loose_adopted g e = cc

      owner_there : (m : ℕ) → In m ns → (look os' m).owner ≡ loose
      owner_there m i = ap (λ o. o.owner) (t.moves.those m i)

      owner_other : (m : ℕ) → (In m ns → ⊥) → (look os' m).owner ≡ (look os m).owner
      owner_other m off = ap (λ o. o.owner) (t.moves.others m off)

      -- what has another owner than the host stays
      stays : (q : Owner) (m : ℕ) → (out ≡ q → ⊥) → (look os m).owner ≡ q → In m ns → ⊥
      stays q m other is i = other (sym (t.was m i) ∙ is)

      types : (m : ℕ) → (look os' m).type ≡ (look os m).type
      types m = ⊎_elim
          (λ i. ap (λ o. o.type) (t.moves.those m i))
          (λ off. ap (λ o. o.type) (t.moves.others m off))
          (in_or_not m ns)

      states : (m : ℕ) → (look os' m).state ≡ (look os m).state
      states m = ⊎_elim
          (λ i. ap (λ o. o.state) (t.moves.those m i))
          (λ off. ap (λ o. o.state) (t.moves.others m off))
          (in_or_not m ns)

      cells : (m : ℕ) → (look os' m).cells ≡ (look os m).cells
      cells m = ⊎_elim
          (λ i. ap (λ o. o.cells) (t.moves.those m i))
          (λ off. ap (λ o. o.cells) (t.moves.others m off))
          (in_or_not m ns)

      not_loose : (m d j : ℕ) → IsUnder d j (look os' m).owner → In m ns → ⊥
      not_loose m d j u i = subst (IsUnder d j) (owner_there m i) u

      same_under : (d j : ℕ) → SameUnder d j (look os) (look os')
      same_under d j = record {
        to = λ m u. owner_other m (λ i. subst (IsUnder d j) (t.was m i) u);
        back = λ m u.
            let e = t.moves.others m (not_loose m d j u) in
            record { owner = ap (λ o. o.owner) e; type = ap (λ o. o.type) e; state = ap (λ o. o.state) e };
      }

      live_before : (m : ℕ) → In m ns → IsLive (look os) m
      live_before m i e = stays gone m (λ e. cc) e i

      live_after : (m : ℕ) → In m ns → IsLive (look os') m
      live_after m i e = clash (sym e ∙ owner_there m i)
        where
          clash : gone ≡ loose → ⊥
          clash e = cc

      same_content : (P : Root) → (P ≡ in_hand → ⊥) →
          content (stock c (x ∷ []) frame os') P ≡ content (stock c hand frame os) P
      same_content (in_var v) other = refl
      same_content in_hand other = absurd (other refl)
      same_content (in_wait d v) other = refl
      same_content (in_cell m l) other = ⊎_elim
          (λ i. cells_stay (look os m) (look os' m) (cells m) (live_before m i) (live_after m i) l)
          (λ off. ap (λ o. cell_of o l) (t.moves.others m off))
          (in_or_not m ns)

      foci : (fs : List Focus) → FociAgree (look os) fs → FociAgree (look os') fs
      foci [] a = tt
      foci (q ∷ qs) a =
          (owner_other q.guard (stays (world.lent q.depth q.guard_key) q.guard (λ e. cc) a.0) ∙ a.0, foci qs a.1)
