-- What any change of the objects keeps of the fact on a running function, as long as none is lost or changes its state.
use Rattle.std.proofs.Common.{◌≡◌, inr, ℕ, ◌<◌, ◌≤◌, IsTrue, List, length, Option, refl, sym, ◌∙◌, subst}
use Rattle.vlt_core.specs.Core.{a_key, Func, Program}
use Rattle.vlt_core.specs.Lookups.{key_type}
use Rattle.vlt_core.specs.Maps.{HeldMap}
use Rattle.vlt_core.specs.KindedScopes.{Ids}
use Rattle.vlt_meaning.specs.World.{objects_in, adopted_by, gone, Object, Frame}
use Rattle.vlt_sound_worlds.specs.Look.{look, IsLive}
use Rattle.vlt_sound_worlds.specs.Ranks.{IsRanked}
use Rattle.vlt_sound_worlds.proofs.Look.{live_within}
use Rattle.vlt_sound_worlds.specs.Members.{In}
use Rattle.vlt_sound_worlds.specs.Placed.{IsOwned, IsPlaced}
use Rattle.vlt_sound_worlds.specs.Roots.{Root, in_var, in_hand, in_wait, content, home, owner_of}
use Rattle.vlt_sound_worlds.proofs.Roots.{homes}
use Rattle.vlt_sound_worlds.specs.Keys.{KeyAgrees, IsUnder, SameUnder}
use Rattle.vlt_sound_worlds.specs.Scene.{IsGuardedBy, Grows, SameStates}
use Rattle.vlt_sound_worlds.proofs.Scene.{grows}
use Rattle.vlt_sound_worlds.specs.Agrees.{ObjectFits, IsAdoptable, VarsFit, VarsAgree, Handed, values_of, FitHanded, Context, FociAgree, PinsAgree, scene, stock, Agrees}
use Rattle.vlt_sound_worlds.proofs.Kept.{KeepsOwned, vars_kept, handed_kept, waits_kept, value_in}

pub owned_live : (os : List Object) (n : ℕ) → IsOwned (look os n).owner → IsLive (look os) n
owned_live os n owned e = subst IsOwned e owned

module _ {p : Program} {f : Func} {c : Context} {h : HeldMap} {ids : Ids} {hand : List Handed} {frame : Frame} {os : List Object}
    (agrees : Agrees p f c h ids hand frame os) where
  pub record Changed (os' : List Object) (heads' : ℕ → List (Option ℕ)) (h' : HeldMap) (ids' : Ids)
      (hand' : List Handed) (frame' : Frame) : Type 0 where
    pub long : (n : ℕ) → n < length os → n < length os'
    pub type : (n : ℕ) → n < length os → (look os' n).type ≡ (look os n).type
    pub state : (n : ℕ) → n < length os → (look os' n).state ≡ (look os n).state
    pub headed : (n : ℕ) → n < length os → heads' n ≡ agrees.heads n
    pub ended : (n : ℕ) → n < length os → (look os n).owner ≡ gone → (look os' n).owner ≡ gone
    pub lost : (g n : ℕ) → (look os n).owner ≡ adopted_by g → IsGuardedBy (scene c os' heads') g n
    -- a new object isn't owned by a value or a field
    pub old : (n : ℕ) → IsOwned (look os' n).owner → n < length os
    pub placed : IsPlaced (content (stock c hand' frame' os')) home (owner_of (look os'))
    pub ranked : IsRanked (look os')
    pub objects : Grows (scene c os agrees.heads) (scene c os' heads') → KeepsOwned (look os) (look os') → (n : ℕ) →
        IsLive (look os') n → ObjectFits p (scene c os' heads') n
    pub adopted : (n g : ℕ) → (look os' n).owner ≡ adopted_by g → IsAdoptable p (look os' n)
    pub keys : (k : ℕ) → KeyAgrees (key_type f k) (h' (a_key k)) frame'.depth k (frame'.keys k) (look os')
    pub vars : VarsAgree f h' frame'.vars
    -- values fit before the change
    pub fit : VarsFit p f ids' (scene c os agrees.heads) frame'.keys frame'.vars
    pub handed : FitHanded p (scene c os agrees.heads) frame'.keys hand'
    pub depth : frame'.depth ≡ frame.depth
    pub named : (k : ℕ) → IsTrue (c.head k) → frame'.keys k ≡ c.names k
    pub pinned : PinsAgree frame'.keys c.pins
    pub bounded : (n d k : ℕ) → IsUnder d k (look os' n).owner → d ≤ c.deepest
    pub focused : FociAgree (look os') c.foci
    pub under : (d k : ℕ) → d < c.depth → SameUnder d k (look os) (look os')

  pub agrees_changed : (os' : List Object) (heads' : ℕ → List (Option ℕ)) (h' : HeldMap) (ids' : Ids)
      (hand' : List Handed) (frame' : Frame) → Changed os' heads' h' ids' hand' frame' →
      Agrees p f c h' ids' hand' frame' os'
  agrees_changed os' heads' h' ids' hand' frame' m = record {
    heads = heads';
    placed = m.placed;
    ranked = m.ranked;
    objects = m.objects growing keeping;
    adopted = m.adopted;
    keys = m.keys;
    vars = m.vars;
    fit = vars_kept p growing f ids' frame'.keys frame'.vars (λ v a at. states (in_var v) (objects_in a) (value_in frame'.vars v a at)) m.fit;
    handed = handed_kept p growing frame'.keys hand' (states in_hand (values_of hand') (λ n i. i)) m.handed;
    rest = record {
      depth = m.depth ∙ agrees.rest.depth;
      within = agrees.rest.within;
      named = m.named;
      bounded = m.bounded;
      focused = m.focused;
      pinned = m.pinned;
      waits = λ d lt. waits_kept p growing (c.waiting d) d (λ k. m.under d k lt)
          (λ v b at. states (in_wait d v) (objects_in b) (value_in (c.waiting d).frame.vars v b at))
          (agrees.rest.waits d lt);
    };
  }
    where
      growing : Grows (scene c os agrees.heads) (scene c os' heads')
      growing = grows (scene c os agrees.heads) (scene c os' heads') (record {
        types = record { long = m.long; type = m.type };
        heads = m.headed;
        ended = m.ended;
        adopted = m.lost;
        foci = λ g i on. inr (inr on);
      })

      was_there : (n : ℕ) → IsOwned (look os n).owner → n < length os
      was_there n owned = live_within os n (owned_live os n owned)

      keeping : KeepsOwned (look os) (look os')
      keeping =
          record { state = λ n owned. m.state n (was_there n owned); type = λ n owned. m.type n (was_there n owned) }

      -- what is at a place after the change was there before it
      states : (P : Root) (ns : List ℕ) → ((n : ℕ) → In n ns → In n (content (stock c hand' frame' os') P)) →
          SameStates (scene c os agrees.heads) (scene c os' heads') ns
      states P ns part = record {
        state = λ n i. m.state n (there n i);
        type = λ n i. m.type n (there n i);
      }
        where
          there : (n : ℕ) → In n ns → n < length os
          there n i = m.old n (subst IsOwned (sym (m.placed.here P n (part n i)).1) (homes P))

  pub heads_changed : (os' : List Object) (heads' : ℕ → List (Option ℕ)) (h' : HeldMap) (ids' : Ids)
      (hand' : List Handed) (frame' : Frame) (m : Changed os' heads' h' ids' hand' frame') →
      (agrees_changed os' heads' h' ids' hand' frame' m).heads ≡ heads'
  unfolding agrees_changed
  heads_changed os' heads' h' ids' hand' frame' m = refl
