-- What a change of the objects keeps of values, variables and waiting functions.
use Rattle.std.proofs.Common.{◌≡◌, ⊎_elim, ℕ, suc, ◌<◌, ◌≤◌, IsTrue, List, [], ◌∷◌, Option, Some, refl, sym, subst, slice_get}
use Rattle.std.specs.List.{flat_map}
use Rattle.vlt_core.specs.Core.{FieldDecl, Func, Program}
use Rattle.vlt_core.specs.Lookups.{all_states, fields_of}
use Rattle.vlt_core.specs.Maps.{HeldMap}
use Rattle.vlt_core.specs.KindedScopes.{Ids}
use Rattle.vlt_meaning.specs.World.{Value, objects_in, Owner, gone, adopted_by, Object, Frame}
use Rattle.vlt_meaning.specs.World as world
use Rattle.vlt_sound_worlds.specs.Look.{look, IsLive}
use Rattle.vlt_sound_worlds.specs.Members.{In}
use Rattle.vlt_sound_worlds.specs.Placed.{IsOwned, IsPlaced}
use Rattle.vlt_sound_worlds.specs.Roots.{Root, in_var, in_hand, in_wait, in_cell, owned_by, cell_of, unless_gone, home, owner_of}
use Rattle.vlt_sound_worlds.proofs.Members.{in_left, in_right, in_either}
use Rattle.vlt_sound_worlds.proofs.Roots.{homes}
use Rattle.vlt_sound_worlds.specs.Keys.{IsUnder, SameUnder}
use Rattle.vlt_sound_worlds.proofs.KeysLaws.{key_kept}
use Rattle.vlt_sound_worlds.specs.Scene.{Scene, Grows, SameStates}
use Rattle.vlt_sound_worlds.specs.Fits.{Names, names_of}
use Rattle.vlt_sound_worlds.proofs.Fits.{fits_kept}
use Rattle.vlt_sound_worlds.specs.Agrees.{FitCells, ObjectFits, VarsFit, Handed, values_of, FitHanded, Waiting, Context, FociAgree, WaitsWell, RestAgrees, scene, Agrees}

-- objects that a value or a field owns keep their states and their types
pub record KeepsOwned (os os' : ℕ → Object) : Type 0 where
  pub state : (n : ℕ) → IsOwned (os n).owner → (os' n).state ≡ (os n).state
  pub type : (n : ℕ) → IsOwned (os n).owner → (os' n).type ≡ (os n).type

module _ (p : Program) {s s' : Scene} (g : Grows s s') where
  pub vars_kept : (f : Func) (ids : Ids) (names : Names) (vars : ℕ → Option Value) →
      ((v : ℕ) (a : Value) → vars v ≡ Some a → SameStates s s' (objects_in a)) →
      VarsFit p f ids s names vars → VarsFit p f ids s' names vars
  vars_kept f ids names vars same fit = record {
    fit = λ v ty a scoped is at. fits_kept p g names ty a (same v a at) (fit.fit v ty a scoped is at);
    there = fit.there;
  }

  pub handed_kept : (names : Names) (hand : List Handed) → SameStates s s' (values_of hand) →
      FitHanded p s names hand → FitHanded p s' names hand
  handed_kept names [] same fit = fit
  handed_kept names (q ∷ qs) same fit = (
    fits_kept p g names q.type q.value
        (record {
          state = λ n i. same.state n (in_left n (objects_in q.value) (values_of qs) i);
          type = λ n i. same.type n (in_left n (objects_in q.value) (values_of qs) i);
        }) fit.0,
    handed_kept names qs
        (record {
          state = λ n i. same.state n (in_right n (objects_in q.value) (values_of qs) i);
          type = λ n i. same.type n (in_right n (objects_in q.value) (values_of qs) i);
        }) fit.1,
  )

  pub cells_kept : (names : Names) (ds : List FieldDecl) (cells : List Value) →
      SameStates s s' (flat_map objects_in cells) →
      FitCells p s names ds cells → FitCells p s' names ds cells
  cells_kept names [] [] same fit = fit
  cells_kept names [] (a ∷ cells) same fit = fit
  cells_kept names (d ∷ ds) [] same fit = fit
  cells_kept names (d ∷ ds) (a ∷ cells) same fit = (
    fits_kept p g names d.ty a
        (record {
          state = λ n i. same.state n (in_left n (objects_in a) (flat_map objects_in cells) i);
          type = λ n i. same.type n (in_left n (objects_in a) (flat_map objects_in cells) i);
        }) fit.0,
    cells_kept names ds cells
        (record {
          state = λ n i. same.state n (in_right n (objects_in a) (flat_map objects_in cells) i);
          type = λ n i. same.type n (in_right n (objects_in a) (flat_map objects_in cells) i);
        }) fit.1,
  )

  pub waits_kept : (a : Waiting) (d : ℕ) → ((k : ℕ) → SameUnder d k (look s.objects) (look s'.objects)) →
      ((v : ℕ) (b : Value) → a.frame.vars v ≡ Some b → SameStates s s' (objects_in b)) → WaitsWell p s a d →
      WaitsWell p s' a d
  waits_kept a d under same well = record {
    depth = well.depth;
    keys = λ k. key_kept refl refl (under k) (well.keys k);
    vars = vars_kept a.func a.ids a.frame.keys a.frame.vars same well.vars;
  }

-- ---- the objects of a place keep their states

module _ {s s' : Scene} (keeps : KeepsOwned (look s.objects) (look s'.objects)) where
  pub owned_states : (ns : List ℕ) → ((n : ℕ) → In n ns → IsOwned (look s.objects n).owner) → SameStates s s' ns
  owned_states ns owned = record { state = λ n i. keeps.state n (owned n i); type = λ n i. keeps.type n (owned n i) }

  -- of a place, and of a part of it
  pub placed_states : {content : Root → List ℕ} → IsPlaced content home (owner_of (look s.objects)) →
      (P : Root) (ns : List ℕ) →
      ((n : ℕ) → In n ns → In n (content P)) → SameStates s s' ns
  placed_states placed P ns part = owned_states ns (λ n i. subst IsOwned (sym (placed.here P n (part n i)).1) (homes P))

-- a variable's value is at the variable
pub value_in : (vars : ℕ → Option Value) (v : ℕ) (a : Value) → vars v ≡ Some a → (n : ℕ) → In n (objects_in a) →
    In n (owned_by (vars v))
value_in vars v a at n i = subst (λ o. In n (owned_by o)) (sym at) i

-- the cells of a live object are its places
pub cells_in : (o : Object) → (o.owner ≡ gone → ⊥) → (i : ℕ) → cell_of o i ≡ owned_by (slice_get o.cells i)
cells_in o live i = by o.owner live
  where
    by : (q : Owner) → (q ≡ gone → ⊥) → unless_gone q (owned_by (slice_get o.cells i)) ≡ owned_by (slice_get o.cells i)
    by (world.held d k) live = refl
    by (world.lent d k) live = refl
    by world.loose live = refl
    by (world.inside n) live = refl
    by (adopted_by n) live = refl
    by world.out live = refl
    by gone live = absurd (live refl)

-- what some cell has, a list of cells has
pub in_cells : (n : ℕ) (cells : List Value) → In n (flat_map objects_in cells) →
    (i : ℕ) × In n (owned_by (slice_get cells i))
in_cells n [] i = absurd i
in_cells n (a ∷ cells) i = ⊎_elim
    (λ here. (0, here))
    (λ rest. let r = in_cells n cells rest in (suc r.0, r.1))
    (in_either n (objects_in a) (flat_map objects_in cells) i)

-- ---- a change of the objects

-- what a change leaves of what stands around
pub record LeavesAround (c : Context) (os os' : ℕ → Object) : Type 0 where
  pub bounded : (n d k : ℕ) → IsUnder d k (os' n).owner → d ≤ c.deepest
  pub focused : FociAgree os' c.foci
  pub under : (d k : ℕ) → d < c.depth → SameUnder d k os os'

module _ {p : Program} {f : Func} {c : Context} {h : HeldMap} {ids : Ids} {hand : List Handed} {frame : Frame} {os : List Object}
    (agrees : Agrees p f c h ids hand frame os) where
  pub var_states : {s' : Scene} → KeepsOwned (look os) (look s'.objects) → (v : ℕ) (a : Value) → frame.vars v ≡ Some a →
      SameStates (scene c os agrees.heads) s' (objects_in a)
  var_states keeps v a at = placed_states keeps agrees.placed (in_var v) (objects_in a) (value_in frame.vars v a at)

  pub rest_kept : (os' : List Object) (heads' : ℕ → List (Option ℕ)) →
      Grows (scene c os agrees.heads) (scene c os' heads') →
      KeepsOwned (look os) (look os') → LeavesAround c (look os) (look os') → RestAgrees p c (scene c os' heads') frame
  rest_kept os' heads' grows keeps around = record {
    depth = agrees.rest.depth;
    within = agrees.rest.within;
    named = agrees.rest.named;
    bounded = around.bounded;
    focused = around.focused;
    pinned = agrees.rest.pinned;
    waits = λ d lt. waits_kept p grows (c.waiting d) d (λ k. around.under d k lt)
        (λ v b at. placed_states keeps agrees.placed (in_wait d v) (objects_in b) (value_in (c.waiting d).frame.vars v b at))
        (agrees.rest.waits d lt);
  }

  pub hand_states : {s' : Scene} → KeepsOwned (look os) (look s'.objects) →
      SameStates (scene c os agrees.heads) s' (values_of hand)
  hand_states keeps = placed_states keeps agrees.placed in_hand (values_of hand) (λ n i. i)

  -- the cells that a live object had fit still
  pub old_cells_kept : (os' : List Object) (heads' : ℕ → List (Option ℕ)) →
      Grows (scene c os agrees.heads) (scene c os' heads') →
      KeepsOwned (look os) (look os') → (m : ℕ) → IsLive (look os) m →
      FitCells p (scene c os' heads') (names_of (agrees.heads m)) (fields_of p (look os m).type) (look os m).cells
  old_cells_kept os' heads' grows keeps m live =
      cells_kept p grows (names_of (agrees.heads m)) (fields_of p (look os m).type) (look os m).cells
      (owned_states keeps (flat_map objects_in (look os m).cells)
      (λ n i. let at = in_cells n (look os m).cells i in
      subst IsOwned
      (sym (agrees.placed.here (in_cell m at.0) n (subst (In n) (sym (cells_in (look os m) live at.0)) at.1)).1) (homes (in_cell m at.0))))
      (agrees.objects m live).cells

  -- a live object's cells stay fit, where it isn't changed
  pub object_kept : (os' : List Object) (heads' : ℕ → List (Option ℕ)) →
      Grows (scene c os agrees.heads) (scene c os' heads') →
      KeepsOwned (look os) (look os') → (m : ℕ) → IsLive (look os) m → heads' m ≡ agrees.heads m →
      (look os' m).type ≡ (look os m).type → (look os' m).cells ≡ (look os m).cells →
      IsTrue (all_states p (look os' m).type (look os' m).state) →
      ObjectFits p (scene c os' heads') m
  object_kept os' heads' grows keeps m live headed type cells state =
      let fit = agrees.objects m live in
      let now = cells_kept p grows (names_of (agrees.heads m)) (fields_of p (look os m).type) (look os m).cells
      (owned_states keeps (flat_map objects_in (look os m).cells)
      (λ n i. let at = in_cells n (look os m).cells i in
      subst IsOwned
      (sym (agrees.placed.here (in_cell m at.0) n (subst (In n) (sym (cells_in (look os m) live at.0)) at.1)).1) (homes (in_cell m at.0))))
      fit.cells in
      record {
        cells = rw (headed, type, cells) now;
        state = state;
      }
