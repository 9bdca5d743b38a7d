-- An object that the host has comes back under the key that names it.
use Rattle.std.proofs.Common.{◌≡◌, ⊎_elim, ℕ, ◌<◌, ◌≤◌, IsTrue, List, [], ◌∷◌, length, Some, refl, sym, ap, ◌∙◌, subst, arith}
use Rattle.std.proofs.lemmas.Bool.{cases_eq}
use Rattle.vlt_core.specs.Core.{States, a_key, a_var, Func, Program}
use Rattle.vlt_core.specs.Lookups.{key_type, is_owning_var}
use Rattle.vlt_core.specs.Maps.{absent, held, HeldMap}
use Rattle.vlt_core.specs.KindedScopes.{Ids}
use Rattle.vlt_meaning.specs.World.{adopted_by, out, gone, Object, Frame}
use Rattle.vlt_meaning.specs.World as world
use Rattle.vlt_meaning.specs.Objects.{with_changed_object, with_owner}
use Rattle.vlt_sound_worlds.specs.Look.{look, ChangesOne}
use Rattle.vlt_sound_worlds.proofs.Look.{changes_one, owns_one}
use Rattle.vlt_sound_worlds.proofs.Ranks.{ranked_root}
use Rattle.vlt_sound_worlds.specs.Placed.{IsOwned}
use Rattle.vlt_sound_worlds.specs.Roots.{Root, in_var, in_hand, in_wait, in_cell, cell_of, content, home}
use Rattle.vlt_sound_worlds.proofs.Placed as placed
use Rattle.vlt_sound_worlds.proofs.Roots.{homes, same_root}
use Rattle.vlt_sound_worlds.specs.Keys.{KeyAgrees, IsUnder, IsOfType}
use Rattle.vlt_sound_worlds.proofs.KeysLaws.{key_kept, key_held, none_under, under_one}
use Rattle.vlt_sound_worlds.specs.Scene.{Focus}
use Rattle.vlt_sound_worlds.specs.Agrees.{HasVar, Handed, Context, FociAgree, stock, Agrees}
use Rattle.vlt_sound_worlds.proofs.FrameOwners.{agrees_owner, ChangesTok, cells_stay}
use Rattle.vlt_sound_worlds.proofs.Leaving.{key_same, var_is_no_key, length_changed}

module _ {p : Program} {f : Func} {c : Context} {h : HeldMap} {ids : Ids} {hand : List Handed} {frame : Frame} {os : List Object}
    (agrees : Agrees p f c h ids hand frame os) (k n : ℕ) (named : frame.keys k ≡ Some n)
    (was : (look os n).owner ≡ out) (within : n < length os) where
  pub agrees_back : (states : States) (h' : HeldMap) → h (a_key k) ≡ absent →
      ChangesTok (a_key k) (held states) h h' → IsTrue (states (look os n).state) →
      IsOfType (key_type f k) (look os n).type →
      Agrees p f c h' ids hand frame (with_changed_object n (with_owner (world.held frame.depth k)) os)
  agrees_back states h' none tok state type = agrees_owner agrees n (world.held frame.depth k) os' h' ids hand frame (record {
    change = change;
    long = length_changed os n (with_owner (world.held frame.depth k));
    live = λ e. gone_out (sym e ∙ was);
    lives = λ e. gone_held (sym e);
    ranked = ranked_root n (world.held frame.depth k) (owns_one n (world.held frame.depth k) change) refl
        (λ e. gone_held (sym e)) agrees.ranked;
    lost = λ g e. absurd (out_adopted g (sym was ∙ e));
    adoptable = λ g e. absurd (held_adopted g e);
    placed = placed.kept home same_root agrees.placed same_content
        (λ m o. ap (λ o. o.owner) (change.others m (λ e. subst IsOwned (ap (λ k. (look os k).owner) e ∙ was) o)))
        (λ m o. ap (λ o. o.owner) (change.others m (λ e. subst IsOwned (ap (λ k. (look os' k).owner) e ∙ now) o)))
        homes;
    keys = keys;
    vars = record {
      plain = agrees.vars.plain;
      full =
          λ v. subst (λ s. HasVar (is_owning_var f v) s (frame.vars v))
          (sym (tok.others (a_var v) var_is_no_key)) (agrees.vars.full v);
    };
    fit = agrees.fit;
    handed = agrees.handed;
    depth = refl;
    named = agrees.rest.named;
    pinned = agrees.rest.pinned;
    bounded = λ d j u. mine_is_within d u.0;
    focused = foci c.foci agrees.rest.focused;
    was_mine = λ d j lt u. subst (IsUnder d j) was u;
    is_mine = λ d j lt u. mine_is_not_below d lt u.0;
  })
    where
      os' : List Object
      os' = with_changed_object n (with_owner (world.held frame.depth k)) os

      change : ChangesOne n (with_owner (world.held frame.depth k)) (look os) (look os')
      change = changes_one os n (with_owner (world.held frame.depth k)) within

      now : (look os' n).owner ≡ world.held frame.depth k
      now = ap (λ o. o.owner) change.here

      gone_out : gone ≡ out → ⊥
      gone_out e = cc

      gone_held : gone ≡ world.held frame.depth k → ⊥
      gone_held e = cc

      out_adopted : (g : ℕ) → out ≡ adopted_by g → ⊥
      out_adopted g e = cc

      held_adopted : (g : ℕ) → world.held frame.depth k ≡ adopted_by g → ⊥
      held_adopted g e = cc

      mine_is_within : (d : ℕ) → frame.depth ≡ d → d ≤ c.deepest
      mine_is_within d e = let depth = agrees.rest.depth in let le = agrees.rest.within in omega arith

      mine_is_not_below : (d : ℕ) → d < c.depth → frame.depth ≡ d → ⊥
      mine_is_not_below d lt e = let depth = agrees.rest.depth in absurd (omega arith)

      same_content : (P : Root) → content (stock c hand frame os') P ≡ content (stock c hand frame os) P
      same_content (in_var v) = refl
      same_content in_hand = refl
      same_content (in_wait d v) = refl
      same_content (in_cell m i) = ⊎_elim
          (λ e. ap (λ k. cell_of (look os' k) i) e ∙
          (cells_stay (look os n) (look os' n) (ap (λ o. o.cells) change.here) (λ q. gone_out (sym q ∙ was)) (λ q. gone_held (sym q ∙ now)) i ∙
          ap (λ k. cell_of (look os k) i) (sym e)))
          (λ off. ap (λ o. cell_of o i) (change.others m off))
          (cases_eq m n)

      foci : (fs : List Focus) → FociAgree (look os) fs → FociAgree (look os') fs
      foci [] a = tt
      foci (q ∷ qs) a =
          (ap (λ o. o.owner) (change.others q.guard (λ e. lent_out q (sym a.0 ∙ (ap (λ m. (look os m).owner) e ∙ was)))) ∙ a.0, foci qs a.1)
        where
          lent_out : (q : Focus) → world.lent q.depth q.guard_key ≡ out → ⊥
          lent_out q e = cc

      keys : (j : ℕ) → KeyAgrees (key_type f j) (h' (a_key j)) frame.depth j (frame.keys j) (look os')
      keys j = ⊎_elim
          (λ e. subst (λ j. KeyAgrees (key_type f j) (h' (a_key j)) frame.depth j (frame.keys j) (look os')) (sym e)
          (key_held states tok.here (record {
            number = n;
            named = named;
            owned = now;
            typed = subst (IsOfType (key_type f k)) (sym (ap (λ o. o.type) change.here)) type;
            state = subst (λ s. IsTrue (states s)) (sym (ap (λ o. o.state) change.here)) state;
            only = λ m u. ⊎_elim
                (λ same. same)
                (λ off. absurd (none_under none (agrees.keys k) m (subst (λ o. IsUnder frame.depth k o.owner) (change.others m off) u)))
                (cases_eq m n);
          })))
          (λ off. key_kept (tok.others (a_key j) (λ e. off (key_same e))) refl
          (under_one frame.depth j n (with_owner (world.held frame.depth k)) change
          (λ u. subst (IsUnder frame.depth j) was u) (λ u. off (sym u.1)))
          (agrees.keys j))
          (cases_eq j k)
