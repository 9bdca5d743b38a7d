-- Objects go from keys to other keys: what that keeps.
use Rattle.std.proofs.Common.{◌≡◌, ◌⊎◌, inl, inr, ⊎_elim, ℕ, ◌<◌, List, [], ◌∷◌, length, refl, sym, ap, ◌∙◌, subst}
use Rattle.vlt_core.specs.Core.{Func, Program}
use Rattle.vlt_core.specs.Maps.{HeldMap}
use Rattle.vlt_core.specs.KindedScopes.{Ids}
use Rattle.vlt_meaning.specs.World as world
use Rattle.vlt_meaning.specs.World.{Owner, gone, adopted_by, above, Object, Frame}
use Rattle.vlt_meaning.specs.Objects.{with_owner}
use Rattle.vlt_sound_worlds.specs.Look.{look, IsLive}
use Rattle.vlt_sound_worlds.specs.Ranks.{IsRanked}
use Rattle.vlt_sound_worlds.specs.Placed.{IsOwned, IsPlaced}
use Rattle.vlt_sound_worlds.specs.Roots.{Root, in_var, in_hand, in_wait, in_cell, cell_of, content, home, owner_of}
use Rattle.vlt_sound_worlds.proofs.Placed as placed
use Rattle.vlt_sound_worlds.proofs.Roots.{homes, same_root}
use Rattle.vlt_sound_worlds.specs.Scene.{Focus, Grows, SameStates}
use Rattle.vlt_sound_worlds.proofs.Scene.{grows}
use Rattle.vlt_sound_worlds.specs.Agrees.{ObjectFits, IsAdoptable, Handed, Context, FociAgree, scene, stock, Agrees}
use Rattle.vlt_sound_worlds.proofs.Kept.{KeepsOwned, object_kept}
use Rattle.vlt_sound_worlds.proofs.FrameOwners.{cells_stay}

-- an object that was under a key is under another one
pub record IsRekeyed (old new : Object) : Type 0 where
  pub depth : ℕ
  pub key : ℕ
  pub was : old.owner ≡ world.held depth key
  pub to_depth : ℕ
  pub to_key : ℕ
  pub now : new ≡ with_owner (world.held to_depth to_key) old

-- each object is as it was, or under another key
pub record Rekeyed (old new : ℕ → Object) : Type 0 where
  pub each : (n : ℕ) → (new n ≡ old n) ⊎ IsRekeyed (old n) (new n)

-- an owner under no key that is held
pub record IsUnheld (q : Owner) : Type 0 where
  pub none : (d k : ℕ) → q ≡ world.held d k → ⊥

pub unheld_gone : IsUnheld gone
unheld_gone = record { none = λ d k e. cc }

pub unheld_adopted : (g : ℕ) → IsUnheld (adopted_by g)
unheld_adopted g = record { none = λ d k e. cc }

pub unheld_lent : (d k : ℕ) → IsUnheld (world.lent d k)
unheld_lent d k = record { none = λ e j is. cc }

module _ {old new : ℕ → Object} (r : Rekeyed old new) where
  pub state_same : (n : ℕ) → (new n).state ≡ (old n).state
  state_same n = ⊎_elim (λ e. ap (λ o. o.state) e) (λ q. ap (λ o. o.state) q.now) (r.each n)

  pub type_same : (n : ℕ) → (new n).type ≡ (old n).type
  type_same n = ⊎_elim (λ e. ap (λ o. o.type) e) (λ q. ap (λ o. o.type) q.now) (r.each n)

  pub cells_same : (n : ℕ) → (new n).cells ≡ (old n).cells
  cells_same n = ⊎_elim (λ e. ap (λ o. o.cells) e) (λ q. ap (λ o. o.cells) q.now) (r.each n)

  pub owner_to : (n : ℕ) (q : Owner) → IsUnheld q → (old n).owner ≡ q → (new n).owner ≡ q
  owner_to n q off is = ⊎_elim
      (λ e. ap (λ o. o.owner) e ∙ is)
      (λ k. absurd (off.none k.depth k.key (sym is ∙ k.was)))
      (r.each n)

  pub owner_back : (n : ℕ) (q : Owner) → IsUnheld q → (new n).owner ≡ q → (old n).owner ≡ q
  owner_back n q off is = ⊎_elim
      (λ e. ap (λ o. o.owner) (sym e) ∙ is)
      (λ k. absurd (off.none k.to_depth k.to_key (sym is ∙ ap (λ o. o.owner) k.now)))
      (r.each n)

  pub owned_to : (n : ℕ) → IsOwned (old n).owner → (new n).owner ≡ (old n).owner
  owned_to n owned =
      ⊎_elim (λ e. ap (λ o. o.owner) e) (λ k. absurd (subst IsOwned k.was owned)) (r.each n)

  pub owned_back : (n : ℕ) → IsOwned (new n).owner → (new n).owner ≡ (old n).owner
  owned_back n owned =
      ⊎_elim (λ e. ap (λ o. o.owner) e) (λ k. absurd (subst IsOwned (ap (λ o. o.owner) k.now) owned)) (r.each n)

  above_same : (n : ℕ) → above (new n).owner ≡ above (old n).owner
  above_same n = ⊎_elim
      (λ e. ap (λ o. above o.owner) e)
      (λ k. ap (λ o. above o.owner) k.now ∙ sym (ap above k.was))
      (r.each n)

  pub live_to : (n : ℕ) → IsLive old n → IsLive new n
  live_to n live e = live (owner_back n gone unheld_gone e)

  pub live_back : (n : ℕ) → IsLive new n → IsLive old n
  live_back n live e = live (owner_to n gone unheld_gone e)

  pub rekeyed_ranked : IsRanked old → IsRanked new
  rekeyed_ranked k = record {
    rank = k.rank;
    top = k.top;
    under = k.under;
    linked = λ n p e.
        let l = k.linked n p (sym (above_same n) ∙ e) in
        record { live = live_to p l.live; lower = l.lower };
  }

  pub cell_same : (n i : ℕ) → cell_of (new n) i ≡ cell_of (old n) i
  cell_same n i = ⊎_elim
      (λ e. ap (λ o. cell_of o i) e)
      (λ k. cells_stay (old n) (new n) (ap (λ o. o.cells) k.now) (λ e. held_live k.depth k.key (sym e ∙ k.was))
      (λ e. held_live k.to_depth k.to_key (sym e ∙ ap (λ o. o.owner) k.now)) i)
      (r.each n)
    where
      held_live : (d k : ℕ) → gone ≡ world.held d k → ⊥
      held_live d k e = cc

  pub rekeyed_foci : (fs : List Focus) → FociAgree old fs → FociAgree new fs
  rekeyed_foci [] a = tt
  rekeyed_foci (q ∷ qs) a =
      (owner_to q.guard (world.lent q.depth q.guard_key) (unheld_lent q.depth q.guard_key) a.0, rekeyed_foci qs a.1)

module _ {p : Program} {f : Func} {c : Context} {h : HeldMap} {ids : Ids} {hand : List Handed} {frame : Frame} {os : List Object}
    (agrees : Agrees p f c h ids hand frame os) (os' : List Object) (long : length os' ≡ length os)
    (r : Rekeyed (look os) (look os')) where
  pub rekeyed_grows : Grows (scene c os agrees.heads) (scene c os' agrees.heads)
  rekeyed_grows = grows (scene c os agrees.heads) (scene c os' agrees.heads) (record {
    types = record { long = λ n lt. subst (λ k. n < k) (sym long) lt; type = λ n lt. type_same r n };
    heads = λ n lt. refl;
    ended = λ g lt e. owner_to r g gone unheld_gone e;
    adopted = λ g n e. inr (inl (owner_to r n (adopted_by g) (unheld_adopted g) e));
    foci = λ g n i. inr (inr i);
  })

  pub rekeyed_keeps : KeepsOwned (look os) (look os')
  rekeyed_keeps = record { state = λ n o. state_same r n; type = λ n o. type_same r n }

  pub rekeyed_states : (ns : List ℕ) → SameStates (scene c os agrees.heads) (scene c os' agrees.heads) ns
  rekeyed_states ns = record { state = λ n i. state_same r n; type = λ n i. type_same r n }

  pub rekeyed_objects : (n : ℕ) → IsLive (look os') n → ObjectFits p (scene c os' agrees.heads) n
  rekeyed_objects n live =
      object_kept agrees os' agrees.heads rekeyed_grows rekeyed_keeps n (live_back r n live) refl (type_same r n)
      (cells_same r n) (rw (type_same r n, state_same r n) (agrees.objects n (live_back r n live)).state)

  pub rekeyed_adopted : (n g : ℕ) → (look os' n).owner ≡ adopted_by g → IsAdoptable p (look os' n)
  rekeyed_adopted n g e =
      let a = agrees.adopted n g (owner_back r n (adopted_by g) (unheld_adopted g) e) in
      record {
        released = rw (type_same r n, state_same r n) a.released;
        droppable = rw (type_same r n) a.droppable;
      }

  pub rekeyed_placed : IsPlaced (content (stock c hand frame os')) home (owner_of (look os'))
  rekeyed_placed = placed.kept home same_root agrees.placed same (owned_to r) (owned_back r) homes
    where
      same : (P : Root) → content (stock c hand frame os') P ≡ content (stock c hand frame os) P
      same (in_var v) = refl
      same in_hand = refl
      same (in_wait d v) = refl
      same (in_cell n i) = cell_same r n i
