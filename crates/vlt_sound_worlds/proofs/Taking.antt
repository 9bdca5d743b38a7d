-- An object that the host has becomes a value that is handed over.
use Rattle.std.proofs.Common.{◌≡◌, inl, inr, ⊎_elim, ℕ, ◌<◌, List, [], ◌∷◌, ◌++◌, length, refl, sym, ap, ◌∙◌, subst}
use Rattle.std.proofs.lemmas.Bool.{cases_eq}
use Rattle.vlt_core.specs.Core.{Func, Program}
use Rattle.vlt_core.specs.Maps.{HeldMap}
use Rattle.vlt_core.specs.KindedScopes.{Ids}
use Rattle.vlt_meaning.specs.World.{one, owned, objects_in, loose, adopted_by, out, gone, Object, Frame}
use Rattle.vlt_meaning.specs.World as world
use Rattle.vlt_meaning.specs.Objects.{with_changed_object, with_owner}
use Rattle.vlt_sound_worlds.specs.Look.{look, ChangesOne}
use Rattle.vlt_sound_worlds.proofs.Look.{changes_one, owns_one}
use Rattle.vlt_sound_worlds.proofs.Ranks.{ranked_root}
use Rattle.vlt_sound_worlds.specs.Members.{In}
use Rattle.vlt_sound_worlds.specs.Placed.{IsOwned}
use Rattle.vlt_sound_worlds.specs.Roots.{Root, in_var, in_hand, in_wait, in_cell, cell_of, content, home}
use Rattle.vlt_sound_worlds.proofs.Placed as placed
use Rattle.vlt_sound_worlds.proofs.Roots.{homes, same_root}
use Rattle.vlt_sound_worlds.specs.Keys.{IsUnder}
use Rattle.vlt_sound_worlds.proofs.KeysLaws.{key_kept, under_one}
use Rattle.vlt_sound_worlds.specs.Scene.{Focus}
use Rattle.vlt_sound_worlds.specs.Fits.{Fits}
use Rattle.vlt_sound_worlds.specs.Agrees.{Handed, values_of, Context, FociAgree, scene, stock, Agrees}
use Rattle.vlt_sound_worlds.proofs.FrameOwners.{agrees_owner, cells_stay}
use Rattle.vlt_sound_worlds.proofs.Leaving.{length_changed, hand_more, handed_more}

module _ {p : Program} {f : Func} {c : Context} {h : HeldMap} {ids : Ids} {hand : List Handed} {frame : Frame} {os : List Object}
    (agrees : Agrees p f c h ids hand frame os) (n : ℕ) (was : (look os n).owner ≡ out) (within : n < length os) where
  pub agrees_taken : (x : Handed) → x.value ≡ one (owned n) →
      Fits p (scene c os agrees.heads) frame.keys x.type x.value →
      Agrees p f c h ids (hand ++ x ∷ []) frame (with_changed_object n (with_owner loose) os)
  agrees_taken x is fit = agrees_owner agrees n loose os' h ids (hand ++ x ∷ []) frame (record {
    change = change;
    long = length_changed os n (with_owner loose);
    live = λ e. gone_out (sym e ∙ was);
    lives = λ e. cc;
    ranked = ranked_root n loose (owns_one n loose change) refl (λ e. cc) agrees.ranked;
    lost = λ g e. absurd (out_adopted g (sym was ∙ e));
    adoptable = λ g e. absurd (loose_adopted g e);
    placed = placed.taken home same_root agrees.placed in_hand (n ∷ []) (values_of hand)
        (record {
          before = refl;
          now = hand_more hand x ∙ ap (λ v. values_of hand ++ objects_in v) is;
          others = same_content;
        })
        ((λ i. i), tt)
        (λ m i P has. nowhere m i P has)
        (record {
          those = λ m i. ⊎_elim (λ e. ap (λ k. (look os' k).owner) e ∙ now) (λ none. absurd none) i;
          others = λ m off. ap (λ o. o.owner) (change.others m (λ e. off (inl e)));
        });
    keys = λ j. key_kept refl refl
        (under_one frame.depth j n (with_owner loose) change (λ u. subst (IsUnder frame.depth j) was u) (λ u. u))
        (agrees.keys j);
    vars = agrees.vars;
    fit = agrees.fit;
    handed = handed_more p (scene c os agrees.heads) frame.keys hand x agrees.handed fit;
    depth = refl;
    named = agrees.rest.named;
    pinned = agrees.rest.pinned;
    bounded = λ d k u. absurd u;
    focused = foci c.foci agrees.rest.focused;
    was_mine = λ d k lt u. subst (IsUnder d k) was u;
    is_mine = λ d k lt u. u;
  })
    where
      os' : List Object
      os' = with_changed_object n (with_owner loose) os

      change : ChangesOne n (with_owner loose) (look os) (look os')
      change = changes_one os n (with_owner loose) within

      now : (look os' n).owner ≡ loose
      now = ap (λ o. o.owner) change.here

      gone_out : gone ≡ out → ⊥
      gone_out e = cc

      gone_loose : gone ≡ loose → ⊥
      gone_loose e = cc

      out_adopted : (g : ℕ) → out ≡ adopted_by g → ⊥
      out_adopted g e = cc

      loose_adopted : (g : ℕ) → loose ≡ adopted_by g → ⊥
      loose_adopted g e = cc

      nowhere : (m : ℕ) → In m (n ∷ []) → (P : Root) → In m (content (stock c hand frame os) P) → ⊥
      nowhere m (inr none) P has = none
      nowhere m (inl same) P has =
          subst IsOwned (sym (agrees.placed.here P m has).1 ∙ (ap (λ k. (look os k).owner) same ∙ was)) (homes P)

      same_content : (P : Root) → (P ≡ in_hand → ⊥) →
          content (stock c (hand ++ x ∷ []) frame os') P ≡ content (stock c hand frame os) P
      same_content (in_var v) other = refl
      same_content in_hand other = absurd (other refl)
      same_content (in_wait d v) other = refl
      same_content (in_cell m i) other = ⊎_elim
          (λ e. ap (λ k. cell_of (look os' k) i) e ∙
          (cells_stay (look os n) (look os' n) (ap (λ o. o.cells) change.here) (λ q. gone_out (sym q ∙ was)) (λ q. gone_loose (sym q ∙ now)) i ∙
          ap (λ k. cell_of (look os k) i) (sym e)))
          (λ off. ap (λ o. cell_of o i) (change.others m off))
          (cases_eq m n)

      foci : (fs : List Focus) → FociAgree (look os) fs → FociAgree (look os') fs
      foci [] a = tt
      foci (q ∷ qs) a =
          (ap (λ o. o.owner) (change.others q.guard (λ e. lent_out q (sym a.0 ∙ (ap (λ m. (look os m).owner) e ∙ was)))) ∙ a.0, foci qs a.1)
        where
          lent_out : (q : Focus) → world.lent q.depth q.guard_key ≡ out → ⊥
          lent_out q e = cc
