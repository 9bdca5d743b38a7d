-- What a change of one object's owner, or of its state, keeps of the fact on a running function.
use Rattle.std.proofs.Common.{◌≡◌, inl, inr, ⊎_elim, ℕ, ◌<◌, ◌≤◌, IsTrue, List, length, refl, sym, ap, ◌∙◌, subst, slice_get}
use Rattle.std.proofs.lemmas.Bool.{cases_eq}
use Rattle.vlt_core.specs.Core.{Tok, a_key, Func, Program}
use Rattle.vlt_core.specs.Lookups.{key_type, release_set}
use Rattle.vlt_core.specs.Types.{is_droppable_struct}
use Rattle.vlt_core.specs.Maps.{Status, HeldMap}
use Rattle.vlt_core.specs.KindedScopes.{Ids}
use Rattle.vlt_meaning.specs.World.{objects_in, Owner, adopted_by, gone, Object, Frame}
use Rattle.vlt_meaning.specs.Objects.{with_owner}
use Rattle.vlt_sound_worlds.specs.Look.{look, IsLive, ChangesOne}
use Rattle.vlt_sound_worlds.specs.Ranks.{IsRanked}
use Rattle.vlt_sound_worlds.specs.Placed.{IsPlaced}
use Rattle.vlt_sound_worlds.specs.Roots.{cell_of, owned_by, content, home, owner_of}
use Rattle.vlt_sound_worlds.specs.Keys.{KeyAgrees, IsUnder}
use Rattle.vlt_sound_worlds.proofs.KeysLaws.{under_one}
use Rattle.vlt_sound_worlds.specs.Scene.{IsGuardedBy, Grows, SameStates}
use Rattle.vlt_sound_worlds.proofs.Scene.{grows}
use Rattle.vlt_sound_worlds.specs.Agrees.{IsAdoptable, VarsFit, VarsAgree, Handed, values_of, FitHanded, Context, FociAgree, PinsAgree, scene, stock, Agrees}
use Rattle.vlt_sound_worlds.proofs.Kept.{KeepsOwned, vars_kept, handed_kept, waits_kept, object_kept, cells_in}

module _ {p : Program} {f : Func} {c : Context} {h : HeldMap} {ids : Ids} {hand : List Handed} {frame : Frame} {os : List Object}
    (agrees : Agrees p f c h ids hand frame os) where
  -- one object gets an owner; the frame, the map and what is handed over may change with it
  pub record Moves (n : ℕ) (q : Owner) (os' : List Object) (h' : HeldMap) (ids' : Ids) (hand' : List Handed)
      (frame' : Frame) : Type 0 where
    pub change : ChangesOne n (with_owner q) (look os) (look os')
    pub long : length os' ≡ length os
    pub live : IsLive (look os) n
    pub lives : q ≡ gone → ⊥
    pub ranked : IsRanked (look os')
    pub lost : (g : ℕ) → (look os n).owner ≡ adopted_by g → IsGuardedBy (scene c os' agrees.heads) g n
    pub adoptable : (g : ℕ) → q ≡ adopted_by g → IsAdoptable p (look os n)
    pub placed : IsPlaced (content (stock c hand' frame' os')) home (owner_of (look os'))
    pub keys : (k : ℕ) → KeyAgrees (key_type f k) (h' (a_key k)) frame'.depth k (frame'.keys k) (look os')
    pub vars : VarsAgree f h' frame'.vars
    -- values fit before the change
    pub fit : VarsFit p f ids' (scene c os agrees.heads) frame'.keys frame'.vars
    pub handed : FitHanded p (scene c os agrees.heads) frame'.keys hand'
    pub depth : frame'.depth ≡ frame.depth
    pub named : (k : ℕ) → IsTrue (c.head k) → frame'.keys k ≡ c.names k
    pub pinned : PinsAgree frame'.keys c.pins
    pub bounded : (d k : ℕ) → IsUnder d k q → d ≤ c.deepest
    pub focused : FociAgree (look os') c.foci
    pub was_mine : (d k : ℕ) → d < c.depth → IsUnder d k (look os n).owner → ⊥
    pub is_mine : (d k : ℕ) → d < c.depth → IsUnder d k q → ⊥

  -- nothing but owners changes
  same_states : (n : ℕ) (q : Owner) (os' : List Object) → ChangesOne n (with_owner q) (look os) (look os') →
      (m : ℕ) → (look os' m).state ≡ (look os m).state
  same_states n q os' change m = ⊎_elim
      (λ same. ap (λ k. (look os' k).state) same ∙ (ap (λ o. o.state) change.here ∙ ap (λ k. (look os k).state) (sym same)))
      (λ other. ap (λ o. o.state) (change.others m other))
      (cases_eq m n)

  same_types : (n : ℕ) (q : Owner) (os' : List Object) → ChangesOne n (with_owner q) (look os) (look os') →
      (m : ℕ) → (look os' m).type ≡ (look os m).type
  same_types n q os' change m = ⊎_elim
      (λ same. ap (λ k. (look os' k).type) same ∙ (ap (λ o. o.type) change.here ∙ ap (λ k. (look os k).type) (sym same)))
      (λ other. ap (λ o. o.type) (change.others m other))
      (cases_eq m n)

  same_cells : (n : ℕ) (q : Owner) (os' : List Object) → ChangesOne n (with_owner q) (look os) (look os') →
      (m : ℕ) → (look os' m).cells ≡ (look os m).cells
  same_cells n q os' change m = ⊎_elim
      (λ same. ap (λ k. (look os' k).cells) same ∙ (ap (λ o. o.cells) change.here ∙ ap (λ k. (look os k).cells) (sym same)))
      (λ other. ap (λ o. o.cells) (change.others m other))
      (cases_eq m n)

  pub agrees_owner : (n : ℕ) (q : Owner) (os' : List Object) (h' : HeldMap) (ids' : Ids) (hand' : List Handed)
      (frame' : Frame) →
      Moves n q os' h' ids' hand' frame' → Agrees p f c h' ids' hand' frame' os'
  agrees_owner n q os' h' ids' hand' frame' m = record {
    heads = agrees.heads;
    placed = m.placed;
    ranked = m.ranked;
    objects = λ i live. object_kept agrees os' agrees.heads growing keeping i (was_live i live) refl (types i) (cells i)
        (rw (types i, states i) (agrees.objects i (was_live i live)).state);
    adopted = λ i g e. ⊎_elim
        (λ same.
        let a = m.adoptable g (sym (ap (λ o. o.owner) m.change.here) ∙ (ap (λ k. (look os' k).owner) (sym same) ∙ e)) in
        record {
          released =
              rw (types i, states i)
              (subst (λ k. IsTrue (release_set p (look os k).type (look os k).state)) (sym same) a.released);
          droppable = rw (types i) (ap (λ k. is_droppable_struct p (look os k).type) same ∙ a.droppable);
        })
        (λ other.
        let a = agrees.adopted i g (sym (ap (λ o. o.owner) (m.change.others i other)) ∙ e) in
        record { released = rw (types i, states i) a.released; droppable = rw (types i) a.droppable })
        (cases_eq i n);
    keys = m.keys;
    vars = m.vars;
    fit = vars_kept p growing f ids' frame'.keys frame'.vars (λ v a at. all_states' (objects_in a)) m.fit;
    handed = handed_kept p growing frame'.keys hand' (all_states' (values_of hand')) m.handed;
    rest = record {
      depth = m.depth ∙ agrees.rest.depth;
      within = agrees.rest.within;
      named = m.named;
      bounded = λ i d k u. ⊎_elim
          (λ same. m.bounded d k (subst (λ o. IsUnder d k o.owner) (ap (look os') same ∙ m.change.here) u))
          (λ other. agrees.rest.bounded i d k (subst (λ o. IsUnder d k o.owner) (m.change.others i other) u))
          (cases_eq i n);
      focused = m.focused;
      pinned = m.pinned;
      waits = λ d lt. waits_kept p growing (c.waiting d) d
          (λ k. under_one d k n (with_owner q) m.change (m.was_mine d k lt) (m.is_mine d k lt))
          (λ v b at. all_states' (objects_in b)) (agrees.rest.waits d lt);
    };
  }
    where
      states : (i : ℕ) → (look os' i).state ≡ (look os i).state
      states = same_states n q os' m.change

      types : (i : ℕ) → (look os' i).type ≡ (look os i).type
      types = same_types n q os' m.change

      cells : (i : ℕ) → (look os' i).cells ≡ (look os i).cells
      cells = same_cells n q os' m.change

      keeping : KeepsOwned (look os) (look os')
      keeping = record { state = λ i o. states i; type = λ i o. types i }

      all_states' : (ns : List ℕ) → SameStates (scene c os agrees.heads) (scene c os' agrees.heads) ns
      all_states' ns = record { state = λ i o. states i; type = λ i o. types i }

      was_live : (i : ℕ) → IsLive (look os') i → IsLive (look os) i
      was_live i live = ⊎_elim
          (λ same e. m.live (ap (λ k. (look os k).owner) (sym same) ∙ e))
          (λ other e. live (ap (λ o. o.owner) (m.change.others i other) ∙ e))
          (cases_eq i n)

      growing : Grows (scene c os agrees.heads) (scene c os' agrees.heads)
      growing = grows (scene c os agrees.heads) (scene c os' agrees.heads) (record {
        types = record { long = λ i lt. subst (λ k. i < k) (sym m.long) lt; type = λ i lt. types i };
        heads = λ i lt. refl;
        ended = λ g lt e. ⊎_elim
            (λ same. absurd (m.live (ap (λ k. (look os k).owner) (sym same) ∙ e)))
            (λ other. ap (λ o. o.owner) (m.change.others g other) ∙ e)
            (cases_eq g n);
        adopted = λ g i e. ⊎_elim
            (λ same. subst (IsGuardedBy (scene c os' agrees.heads) g) (sym same) (m.lost g (ap (λ k. (look os k).owner) (sym same) ∙ e)))
            (λ other. inr (inl (ap (λ o. o.owner) (m.change.others i other) ∙ e)))
            (cases_eq i n);
        foci = λ g i on. inr (inr on);
      })

  -- what stood for headers is what it was
  pub owner_heads : (n : ℕ) (q : Owner) (os' : List Object) (h' : HeldMap) (ids' : Ids) (hand' : List Handed)
      (frame' : Frame) (m : Moves n q os' h' ids' hand' frame') →
      (agrees_owner n q os' h' ids' hand' frame' m).heads ≡ agrees.heads
  unfolding agrees_owner
  owner_heads n q os' h' ids' hand' frame' m = refl

-- ---- maps that differ in one token

pub record ChangesTok (t : Tok) (s : Status) (old new : HeldMap) : Type 0 where
  pub here : new t ≡ s
  pub others : (u : Tok) → (u ≡ t → ⊥) → new u ≡ old u

-- the cells that a live object has do not depend on who has it
pub cells_stay : (o o' : Object) → o'.cells ≡ o.cells → (o.owner ≡ gone → ⊥) → (o'.owner ≡ gone → ⊥) → (i : ℕ) →
    cell_of o' i ≡ cell_of o i
cells_stay o o' cells live live' i =
    cells_in o' live' i ∙ (ap (λ cs. owned_by (slice_get cs i)) cells ∙ sym (cells_in o live i))
