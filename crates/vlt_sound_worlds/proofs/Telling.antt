-- An object that the host has gets another state.
use Rattle.std.proofs.Common.{◌≡◌, inl, inr, ⊎_elim, ℕ, ◌<◌, IsTrue, List, [], ◌∷◌, length, refl, sym, ap, ◌∙◌, subst}
use Rattle.std.proofs.lemmas.Bool.{cases_eq}
use Rattle.vlt_core.specs.Core.{Func, Program}
use Rattle.vlt_core.specs.Lookups.{all_states}
use Rattle.vlt_core.specs.Maps.{HeldMap}
use Rattle.vlt_core.specs.KindedScopes.{Ids}
use Rattle.vlt_meaning.specs.World.{adopted_by, out, gone, Object, Frame}
use Rattle.vlt_meaning.specs.Objects.{with_state, with_changed_object}
use Rattle.vlt_sound_worlds.specs.Look.{look, IsLive, ChangesOne}
use Rattle.vlt_sound_worlds.proofs.Look.{changes_one}
use Rattle.vlt_sound_worlds.proofs.Ranks.{ranked_same}
use Rattle.vlt_sound_worlds.specs.Placed.{IsOwned}
use Rattle.vlt_sound_worlds.specs.Roots.{Root, in_var, in_hand, in_wait, in_cell, cell_of, content, home}
use Rattle.vlt_sound_worlds.proofs.Placed as placed
use Rattle.vlt_sound_worlds.proofs.Roots.{homes, same_root}
use Rattle.vlt_sound_worlds.specs.Keys.{IsUnder}
use Rattle.vlt_sound_worlds.proofs.KeysLaws.{key_kept, under_one}
use Rattle.vlt_sound_worlds.specs.Scene.{Focus, Grows}
use Rattle.vlt_sound_worlds.proofs.Scene.{grows}
use Rattle.vlt_sound_worlds.specs.Agrees.{Handed, Context, FociAgree, ObjectFits, scene, stock, Agrees}
use Rattle.vlt_sound_worlds.proofs.Kept.{KeepsOwned, vars_kept, handed_kept, var_states, hand_states, rest_kept, object_kept}
use Rattle.vlt_sound_worlds.proofs.FrameOwners.{cells_stay}
use Rattle.vlt_sound_worlds.proofs.Leaving.{length_changed}

module _ {p : Program} {f : Func} {c : Context} {h : HeldMap} {ids : Ids} {hand : List Handed} {frame : Frame} {os : List Object}
    (agrees : Agrees p f c h ids hand frame os) (n s : ℕ) (was : (look os n).owner ≡ out) (within : n < length os) where
  pub agrees_told : IsTrue (all_states p (look os n).type s) →
      Agrees p f c h ids hand frame (with_changed_object n (with_state s) os)
  agrees_told is_state = record {
    heads = agrees.heads;
    placed = placed.kept home same_root agrees.placed same_content (λ m o. owners m) (λ m o. owners m) homes;
    ranked = ranked_same owners agrees.ranked;
    objects = λ m live. fits m (λ e. live (owners m ∙ e));
    adopted = λ m g e.
        let is = agrees.adopted m g (sym (owners m) ∙ e) in
        let other : m ≡ n → ⊥ =
        λ same. adopted_out g (sym e ∙ (owners m ∙ (ap (λ k. (look os k).owner) same ∙ was))) in
        let same = change.others m other in
        record { released = rw same is.released; droppable = rw same is.droppable };
    keys = λ j. key_kept refl refl
        (under_one frame.depth j n (with_state s) change (unkeyed frame.depth j) (unkeyed frame.depth j))
        (agrees.keys j);
    vars = agrees.vars;
    fit = vars_kept p growing f ids frame.keys frame.vars (var_states agrees keeping) agrees.fit;
    handed = handed_kept p growing frame.keys hand (hand_states agrees keeping) agrees.handed;
    rest = rest_kept agrees os' agrees.heads growing keeping (record {
      bounded = λ m d j u. agrees.rest.bounded m d j (subst (IsUnder d j) (owners m) u);
      focused = foci c.foci agrees.rest.focused;
      under = λ d j lt. under_one d j n (with_state s) change (unkeyed d j) (unkeyed d j);
    });
  }
    where
      os' : List Object
      os' = with_changed_object n (with_state s) os

      change : ChangesOne n (with_state s) (look os) (look os')
      change = changes_one os n (with_state s) within

      owners : (m : ℕ) → (look os' m).owner ≡ (look os m).owner
      owners m = ⊎_elim
          (λ e. ap (λ k. (look os' k).owner) e ∙ (ap (λ o. o.owner) change.here ∙ ap (λ k. (look os k).owner) (sym e)))
          (λ other. ap (λ o. o.owner) (change.others m other))
          (cases_eq m n)

      types : (m : ℕ) → (look os' m).type ≡ (look os m).type
      types m = ⊎_elim
          (λ e. ap (λ k. (look os' k).type) e ∙ (ap (λ o. o.type) change.here ∙ ap (λ k. (look os k).type) (sym e)))
          (λ other. ap (λ o. o.type) (change.others m other))
          (cases_eq m n)

      cells : (m : ℕ) → (look os' m).cells ≡ (look os m).cells
      cells m = ⊎_elim
          (λ e. ap (λ k. (look os' k).cells) e ∙ (ap (λ o. o.cells) change.here ∙ ap (λ k. (look os k).cells) (sym e)))
          (λ other. ap (λ o. o.cells) (change.others m other))
          (cases_eq m n)

      adopted_out : (g : ℕ) → adopted_by g ≡ out → ⊥
      adopted_out g e = cc

      gone_out : gone ≡ out → ⊥
      gone_out e = cc

      unkeyed : (d j : ℕ) → IsUnder d j (look os n).owner → ⊥
      unkeyed d j u = subst (IsUnder d j) was u

      -- no value and no field has it
      unowned : (m : ℕ) → IsOwned (look os m).owner → m ≡ n → ⊥
      unowned m o e = subst IsOwned (ap (λ k. (look os k).owner) e ∙ was) o

      keeping : KeepsOwned (look os) (look os')
      keeping = record { state = λ m o. ap (λ o. o.state) (change.others m (unowned m o)); type = λ m o. types m }

      growing : Grows (scene c os agrees.heads) (scene c os' agrees.heads)
      growing = grows (scene c os agrees.heads) (scene c os' agrees.heads) (record {
        types = record {
          long = λ m lt. subst (λ k. m < k) (sym (length_changed os n (with_state s))) lt;
          type = λ m lt. types m;
        };
        heads = λ m lt. refl;
        ended = λ g lt e. owners g ∙ e;
        adopted = λ g m e. inr (inl (owners m ∙ e));
        foci = λ g m i. inr (inr i);
      })

      fits : (m : ℕ) → IsLive (look os) m → ObjectFits p (scene c os' agrees.heads) m
      fits m live =
          object_kept agrees os' agrees.heads growing keeping m live refl (types m) (cells m) (⊎_elim
          (λ e. subst (λ k. IsTrue (all_states p (look os' k).type (look os' k).state)) (sym e)
          (rw (types n, ap (λ o. o.state) change.here) is_state))
          (λ other. rw (change.others m other) (agrees.objects m live).state)
          (cases_eq m n))

      foci : (fs : List Focus) → FociAgree (look os) fs → FociAgree (look os') fs
      foci [] a = tt
      foci (q ∷ qs) a = (owners q.guard ∙ a.0, foci qs a.1)

      same_content : (P : Root) → content (stock c hand frame os') P ≡ content (stock c hand frame os) P
      same_content (in_var v) = refl
      same_content in_hand = refl
      same_content (in_wait d v) = refl
      same_content (in_cell m i) = ⊎_elim
          (λ e. ap (λ k. cell_of (look os' k) i) e ∙
          (cells_stay (look os n) (look os' n) (cells n) (λ q. gone_out (sym q ∙ was)) (λ q. gone_out (sym q ∙ (owners n ∙ was))) i ∙
          ap (λ k. cell_of (look os k) i) (sym e)))
          (λ other. ap (λ o. cell_of o i) (change.others m other))
          (cases_eq m n)
