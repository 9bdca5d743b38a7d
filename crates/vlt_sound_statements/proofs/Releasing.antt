-- The object of a reference is released.
use Rattle.std.proofs.Common.{◌≡◌, inl, ⊎_elim, ℕ, ◌<◌, true, IsTrue, List, [], ◌∷◌, Some, refl, sym, ap, ◌∙◌, subst, arith}
use Rattle.std.proofs.lemmas.Bool.{cases_eq}
use Rattle.std.proofs.lemmas.Option.{same_Some}
use Rattle.vlt_core.specs.Core.{tracked, a_key, a_var, Func, Program, release}
use Rattle.vlt_core.specs.Lookups.{var_type, key_type, is_owning_var, tracked_in, release_set}
use Rattle.vlt_core.specs.Maps.{absent, HeldMap, wants_in, becomes_absent, Row, row_passed, CanPass, map_after}
use Rattle.vlt_core.specs.Rows.{simple_rows, row}
use Rattle.vlt_core.specs.Types.{is_droppable_struct}
use Rattle.vlt_core.specs.declared.rules.TheConstants as rule
use Rattle.vlt_core.specs.KindedScopes.{Ids}
use Rattle.vlt_core.specs.KindedStatements.{tracked_broken, droppable_broken, simple_broken, ids_after}
use Rattle.vlt_meaning.specs.World.{above, Object, World, Frame, wrong_state}
use Rattle.vlt_meaning.specs.World as world
use Rattle.vlt_meaning.specs.Objects.{is_releasable, objects_after_release}
use Rattle.vlt_meaning.specs.Values.{object_of}
use Rattle.vlt_meaning.specs.Step.{Step, goes, with_objects, with_released}
use Rattle.vlt_meaning.specs.Run.{Setup, does_simple, any_state}
use Rattle.vlt_sound_worlds.specs.Look.{look}
use Rattle.vlt_sound_worlds.proofs.Look.{look_at}
use Rattle.vlt_sound_worlds.specs.Members.{In}
use Rattle.vlt_sound_worlds.specs.Placed.{IsOwned}
use Rattle.vlt_sound_worlds.specs.Roots.{Root, content}
use Rattle.vlt_sound_worlds.proofs.Roots.{homes}
use Rattle.vlt_sound_worlds.specs.Keys.{KeyAgrees, IsUnder}
use Rattle.vlt_sound_worlds.proofs.KeysLaws.{key_kept, key_absent, under_is}
use Rattle.vlt_sound_worlds.specs.Agrees.{HasVar, InScope, VarsAgree, Handed, Context, stock, Agrees}
use Rattle.vlt_sound_worlds.specs.Typed.{IsTyped}
use Rattle.vlt_sound_worlds.specs.Safe.{Goal, Safe, goes_to}
use Rattle.vlt_sound_worlds.proofs.Empty.{both_empty}
use Rattle.vlt_sound_worlds.proofs.Rows.{row_here}
use Rattle.vlt_sound_worlds.proofs.Touch.{tracked_held, named}
use Rattle.vlt_sound_worlds.proofs.Safe.{found_safe, so_safe}
use Rattle.vlt_sound_worlds.proofs.FrameOwners.{ChangesTok}
use Rattle.vlt_sound_worlds.proofs.Leaving.{key_same, var_is_no_key}
use Rattle.vlt_sound_worlds.proofs.TypeFacts.{tracked_known, droppable_known}
use Rattle.vlt_sound_worlds.proofs.Owning.{row_tok}
use Rattle.vlt_sound_worlds.proofs.Adopting.{object_found}
use Rattle.vlt_sound_statements.specs.Ended.{MayEnd}
use Rattle.vlt_sound_statements.proofs.Below.{all_below, releasable, ended_none, ended_more}
use Rattle.vlt_sound_statements.proofs.Parts.{droppable_free, below_ends}
use Rattle.vlt_sound_statements.proofs.Ending.{IsEndable, Ends, HandEnds, under_kept, under_before, ends_now, agrees_ended}

-- where an object and all below it may be released, it is
pub released_safe : (g : Goal) (p : Program) (n : ℕ) (w : World) (go : World → Step) →
    is_releasable p w.objects n ≡ true → Safe g (go (with_objects w (objects_after_release n w.objects))) →
    Safe g (with_released p n w go)
unfolding with_released
released_safe g p n w go may safe = so_safe g (is_releasable p w.objects n) wrong_state (Some n) w _ may safe

module _ {p : Program} {f : Func} {c : Context} {h : HeldMap} {ids : Ids} {hand : List Handed} {frame : Frame} {os : List Object}
    (agrees : Agrees p f c h ids hand frame os) (k n : ℕ) (named : frame.keys k ≡ Some n)
    (held_by : (look os n).owner ≡ world.held frame.depth k) where
  pub held_endable : IsEndable c (look os n).owner
  held_endable = record {
    root = ap above held_by;
    unlent = λ d j e. clash d j (sym held_by ∙ e);
    mine = λ d j lt u. mine d j lt (subst (IsUnder d j) held_by u);
  }
    where
      clash : (d j : ℕ) → world.held frame.depth k ≡ world.lent d j → ⊥
      clash d j e = cc

      mine : (d j : ℕ) → d < c.depth → IsUnder d j (world.held frame.depth k) → ⊥
      mine d j lt u =
          let same : frame.depth ≡ d = u.0 in
          let depth : frame.depth ≡ c.depth = agrees.rest.depth in
          absurd (omega arith)

  pub held_nowhere : (P : Root) → In n (content (stock c hand frame os) P) → ⊥
  held_nowhere P i = subst IsOwned (sym (agrees.placed.here P n i).1 ∙ held_by) (homes P)

  -- the key's object is released, and maybe what it owned comes out before
  module _ (ys : List ℕ) (os1 os' : List Object) (e : Ends agrees (n ∷ []) ys os1 os') (h' : HeldMap)
      (tok : ChangesTok (a_key k) absent h h') where
    pub keys_end : (j : ℕ) → KeyAgrees (key_type f j) (h' (a_key j)) frame.depth j (frame.keys j) (look os')
    keys_end j = ⊎_elim
        (λ same. subst (λ j. KeyAgrees (key_type f j) (h' (a_key j)) frame.depth j (frame.keys j) (look os')) (sym same) (key_absent tok.here none))
        (λ other. key_kept (tok.others (a_key j) (λ e. other (key_same e))) refl
        (under_kept agrees (n ∷ []) ys os1 os' e frame.depth j (off j other)) (agrees.keys j))
        (cases_eq j k)
      where
        off : (j : ℕ) → (j ≡ k → ⊥) → (m : ℕ) → In m (n ∷ []) → IsUnder frame.depth j (look os m).owner → ⊥
        off j other m i u = ⊎_elim
            (λ same.
            let at : IsUnder frame.depth j (world.held frame.depth k) =
            subst (IsUnder frame.depth j) (ap (λ m. (look os m).owner) same ∙ held_by) u in
            other (sym at.1))
            (λ none. none)
            i

        none : (m : ℕ) → IsUnder frame.depth k (look os' m).owner → ⊥
        none m u =
            let is_gone = ends_now agrees (n ∷ []) ys os1 os' e n (e.ended.below.itself n (inl refl)) in
            ⊎_elim
            (λ same. subst (IsUnder frame.depth k) (ap (λ m. (look os' m).owner) same ∙ is_gone) u)
            (λ other.
            let was = under_is (agrees.keys k) m (under_before agrees (n ∷ []) ys os1 os' e frame.depth k m u) in
            other (same_Some m n (sym was ∙ named)))
            (cases_eq m n)

    pub vars_end : VarsAgree f h' frame.vars
    vars_end = record {
      plain = agrees.vars.plain;
      full = λ v. subst (λ s. HasVar (is_owning_var f v) s (frame.vars v)) (sym (tok.others (a_var v) var_is_no_key)) (agrees.vars.full v);
    }

module _ (r : Setup) (f : Func)
    (typed : IsTyped r.program f) {c : Context} {h : HeldMap} {ids : Ids} {frame : Frame} (w : World)
    (agrees : Agrees r.program f c h ids [] frame w.objects) where
  releases : (x k t : ℕ) (args : List ℕ) → InScope ids x → var_type f x ≡ Some (tracked k t args) →
      is_droppable_struct r.program t ≡ true → CanPass (simple_rows r.program f (release x)) h →
      Safe (goes_to r.program f c (map_after (simple_rows r.program f (release x)) h) ids [])
      (does_simple r f (release x) frame w)
  releases x k t args scoped is droppable pass =
      let os = w.objects in
      let kr : Row = row (a_key k) (wants_in (release_set r.program t)) becomes_absent in
      let rows : simple_rows r.program f (release x) ≡ kr ∷ [] = rw is refl in
      let ok = subst (λ rs. CanPass rs h) rows pass in
      let tx = tracked_held agrees x k t args scoped is ok.0.0 in
      let n : ℕ = tx.number in
      let h1 : HeldMap = row_passed kr h in
      let tok = row_tok kr h absent (row_here kr h) in
      let G = goes_to r.program f c h1 ids [] in
      let may : MayEnd r.program (look os n) = record {
        released =
            subst (λ t. IsTrue (release_set r.program t (look os n).state)) (sym tx.of.typed)
            (ok.0.1.each (look os n).state tx.state);
        free = droppable_free r.program (look os n).type (ap (is_droppable_struct r.program) tx.of.typed ∙ droppable);
      } in
      let all =
      all_below os n tx.of.within agrees.ranked (λ m. MayEnd r.program (look os m)) may
      (λ m q up me. below_ends typed agrees m q up me.free) in
      let ends : Ends agrees (n ∷ []) [] os (objects_after_release n os) = record {
        moves = record { those = λ m i. absurd i; others = λ m off. refl };
        long = refl;
        ended = ended_more [] os os (ended_none os agrees.ranked) n tx.of.within;
        out = λ m i. absurd i;
        roots = λ m i. ⊎_elim
            (λ same. subst (λ m. IsEndable c (look os m).owner) (sym same) (held_endable agrees k n tx.named tx.owned))
            (λ none. absurd none) i;
      } in
      let hands : HandEnds agrees (n ∷ []) [] [] = record {
        unplaced = λ m i P other at. ⊎_elim
            (λ same. held_nowhere agrees k n tx.named tx.owned P (subst (λ m. In m (content (stock c [] frame os) P)) same at))
            (λ none. none) i;
        stays = λ m i off. i;
        from = λ m i. absurd i;
        comes = λ m i. i;
        once = tt;
        handed = tt;
      } in
      subst
      (λ rs. Safe (goes_to r.program f c (map_after rs h) ids []) (does_simple r f (release x) frame w)) (sym rows)
      (found_safe G (object_of f any_state x frame os) (named n (look os n)) w _
      (object_found f any_state x k t frame os n (ap tracked_in is) tx.var tx.named (look_at os n tx.of.within) tx.owned refl)
      (released_safe G r.program n w (goes frame) (releasable r.program os n (λ m t. (all m t).released))
      (agrees_ended agrees (n ∷ []) [] os (objects_after_release n os) ends [] hands h1
      (keys_end agrees k n tx.named tx.owned [] os (objects_after_release n os) ends h1 tok)
      (vars_end agrees k n tx.named tx.owned [] os (objects_after_release n os) ends h1 tok))))

  pub release_safe : (x : ℕ) → simple_broken r.program f ids (release x) ≡ [] →
      CanPass (simple_rows r.program f (release x)) h →
      Safe
      (goes_to r.program f c (map_after (simple_rows r.program f (release x)) h) (ids_after f (release x) ids) [])
      (does_simple r f (release x) frame w)
  release_safe x kinded pass =
      let both = both_empty (tracked_broken f ids rule.WRONG_RELEASE x) (droppable_broken r.program f x) kinded in
      let x' = tracked_known f ids rule.WRONG_RELEASE x both.0 in
      releases x x'.key x'.type x'.args x'.scoped x'.is
      (droppable_known r.program f x x'.key x'.type x'.args typed x'.is both.1) pass
