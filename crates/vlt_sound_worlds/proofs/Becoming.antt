-- A key's object gets another state.
use Rattle.std.proofs.Common.{◌≡◌, inl, inr, ⊎_elim, ℕ, ◌==◌, ◌<◌, Bool, true, false, IsTrue, if◌then◌else◌, List, [], ◌∷◌, length, Some, refl, sym, ap, ◌∙◌, subst, arith}
use Rattle.std.proofs.lemmas.Bool.{cases_eq, eq-eqb}
use Rattle.std.proofs.lemmas.Option.{same_Some}
use Rattle.vlt_core.specs.Core.{States, tracked, a_key, a_var, Func, Program, become}
use Rattle.vlt_core.specs.Lookups.{var_type, key_type, all_states, is_owning_var, tracked_in}
use Rattle.vlt_core.specs.Maps.{held, HeldMap, wants_held, becomes_held, Row, row_passed, CanPass, map_after}
use Rattle.vlt_core.specs.Rows.{simple_rows, row}
use Rattle.vlt_core.specs.Types.{is_struct}
use Rattle.vlt_core.specs.KindedHeads.{unless, when_some, state_broken}
use Rattle.vlt_core.specs.declared.rules.TheConstants as rule
use Rattle.vlt_core.specs.KindedScopes.{Ids}
use Rattle.vlt_core.specs.KindedStatements.{tracked_broken, struct_broken, simple_broken, ids_after}
use Rattle.vlt_meaning.specs.World.{Object, World, Frame, adopted_by, gone}
use Rattle.vlt_meaning.specs.World as world
use Rattle.vlt_meaning.specs.Objects.{with_state, with_changed_object}
use Rattle.vlt_meaning.specs.Values.{object_of}
use Rattle.vlt_meaning.specs.Run.{Setup, does_simple, any_state}
use Rattle.vlt_sound_worlds.specs.Look.{look, IsLive, ChangesOne}
use Rattle.vlt_sound_worlds.proofs.Look.{changes_one, look_at}
use Rattle.vlt_sound_worlds.proofs.Ranks.{ranked_same}
use Rattle.vlt_sound_worlds.specs.Placed.{IsOwned}
use Rattle.vlt_sound_worlds.specs.Roots.{Root, in_var, in_hand, in_wait, in_cell, cell_of, content, home}
use Rattle.vlt_sound_worlds.proofs.Placed as placed
use Rattle.vlt_sound_worlds.proofs.Roots.{homes, same_root}
use Rattle.vlt_sound_worlds.specs.Keys.{KeyAgrees, IsOfType, IsUnder}
use Rattle.vlt_sound_worlds.proofs.KeysLaws.{key_kept, key_held, under_one, under_is}
use Rattle.vlt_sound_worlds.specs.Scene.{Focus, Grows}
use Rattle.vlt_sound_worlds.proofs.Scene.{grows}
use Rattle.vlt_sound_worlds.specs.Agrees.{HasVar, InScope, Handed, Context, FociAgree, ObjectFits, scene, stock, Agrees}
use Rattle.vlt_sound_worlds.specs.Typed.{IsTyped}
use Rattle.vlt_sound_worlds.specs.Safe.{Safe, goes_to}
use Rattle.vlt_sound_worlds.proofs.Empty.{both_empty, unless_so}
use Rattle.vlt_sound_worlds.proofs.Rows.{row_here}
use Rattle.vlt_sound_worlds.proofs.Touch.{tracked_held, named}
use Rattle.vlt_sound_worlds.proofs.Safe.{found_safe}
use Rattle.vlt_sound_worlds.proofs.Kept.{KeepsOwned, vars_kept, handed_kept, var_states, hand_states, rest_kept, object_kept}
use Rattle.vlt_sound_worlds.proofs.FrameOwners.{ChangesTok, cells_stay}
use Rattle.vlt_sound_worlds.proofs.Leaving.{key_same, var_is_no_key, length_changed}
use Rattle.vlt_sound_worlds.proofs.TypeFacts.{tracked_known}
use Rattle.vlt_sound_worlds.proofs.Owning.{row_tok}
use Rattle.vlt_sound_worlds.proofs.Adopting.{object_found}

module _ {p : Program} {f : Func} {c : Context} {h : HeldMap} {ids : Ids} {hand : List Handed} {frame : Frame} {os : List Object}
    (agrees : Agrees p f c h ids hand frame os) (k n : ℕ) (named : frame.keys k ≡ Some n)
    (held_by : (look os n).owner ≡ world.held frame.depth k)
    (within : n < length os) (states : States) (s : ℕ) (h' : HeldMap) (tok : ChangesTok (a_key k) (held states) h h') where
  pub agrees_became : IsTrue (states s) → IsTrue (all_states p (look os n).type s) →
      Agrees p f c h' ids hand frame (with_changed_object n (with_state s) os)
  agrees_became allows is_state = record {
    heads = agrees.heads;
    placed = placed.kept home same_root agrees.placed same_content (λ m o. owners m) (λ m o. owners m) homes;
    ranked = ranked_same owners agrees.ranked;
    objects = λ m live. fits m (λ e. live (owners m ∙ e));
    adopted = λ m g e.
        let was = agrees.adopted m g (sym (owners m) ∙ e) in
        let other : m ≡ n → ⊥ = λ same. adopted_held g (sym e ∙ (owners m ∙ (ap (λ k. (look os k).owner) same ∙ held_by))) in
        let same = change.others m other in
        record {
          released = rw same was.released;
          droppable = rw same was.droppable;
        };
    keys = keys;
    vars = record {
      plain = agrees.vars.plain;
      full = λ v. subst (λ s. HasVar (is_owning_var f v) s (frame.vars v)) (sym (tok.others (a_var v) var_is_no_key)) (agrees.vars.full v);
    };
    fit = vars_kept p growing f ids frame.keys frame.vars (var_states agrees keeping) agrees.fit;
    handed = handed_kept p growing frame.keys hand (hand_states agrees keeping) agrees.handed;
    rest = rest_kept agrees os' agrees.heads growing keeping (record {
      bounded = λ m d j u. agrees.rest.bounded m d j (subst (IsUnder d j) (owners m) u);
      focused = foci c.foci agrees.rest.focused;
      under = λ d j lt. under_one d j n (with_state s) change (mine d j lt) (mine d j lt);
    });
  }
    where
      os' : List Object
      os' = with_changed_object n (with_state s) os

      change : ChangesOne n (with_state s) (look os) (look os')
      change = changes_one os n (with_state s) within

      owners : (m : ℕ) → (look os' m).owner ≡ (look os m).owner
      owners m = ⊎_elim
          (λ e. ap (λ k. (look os' k).owner) e ∙ (ap (λ o. o.owner) change.here ∙ ap (λ k. (look os k).owner) (sym e)))
          (λ other. ap (λ o. o.owner) (change.others m other))
          (cases_eq m n)

      types : (m : ℕ) → (look os' m).type ≡ (look os m).type
      types m = ⊎_elim
          (λ e. ap (λ k. (look os' k).type) e ∙ (ap (λ o. o.type) change.here ∙ ap (λ k. (look os k).type) (sym e)))
          (λ other. ap (λ o. o.type) (change.others m other))
          (cases_eq m n)

      cells : (m : ℕ) → (look os' m).cells ≡ (look os m).cells
      cells m = ⊎_elim
          (λ e. ap (λ k. (look os' k).cells) e ∙ (ap (λ o. o.cells) change.here ∙ ap (λ k. (look os k).cells) (sym e)))
          (λ other. ap (λ o. o.cells) (change.others m other))
          (cases_eq m n)

      adopted_held : (g : ℕ) → adopted_by g ≡ world.held frame.depth k → ⊥
      adopted_held g e = cc

      gone_held : gone ≡ world.held frame.depth k → ⊥
      gone_held e = cc

      -- no value and no field has it
      unowned : (m : ℕ) → IsOwned (look os m).owner → m ≡ n → ⊥
      unowned m o e = subst IsOwned (ap (λ k. (look os k).owner) e ∙ held_by) o

      keeping : KeepsOwned (look os) (look os')
      keeping = record { state = λ m o. ap (λ o. o.state) (change.others m (unowned m o)); type = λ m o. types m }

      growing : Grows (scene c os agrees.heads) (scene c os' agrees.heads)
      growing = grows (scene c os agrees.heads) (scene c os' agrees.heads) (record {
        types = record { long = λ m lt. subst (λ k. m < k) (sym (length_changed os n (with_state s))) lt; type = λ m lt. types m };
        heads = λ m lt. refl;
        ended = λ g lt e. owners g ∙ e;
        adopted = λ g m e. inr (inl (owners m ∙ e));
        foci = λ g m i. inr (inr i);
      })

      fits : (m : ℕ) → IsLive (look os) m → ObjectFits p (scene c os' agrees.heads) m
      fits m live =
          object_kept agrees os' agrees.heads growing keeping m live refl (types m) (cells m) (⊎_elim
          (λ e. subst (λ k. IsTrue (all_states p (look os' k).type (look os' k).state)) (sym e)
          (rw (types n, ap (λ o. o.state) change.here) is_state))
          (λ other. rw (change.others m other) (agrees.objects m live).state)
          (cases_eq m n))

      -- it is under no key of a waiting function
      mine : (d j : ℕ) → d < c.depth → IsUnder d j (look os n).owner → ⊥
      mine d j lt u =
          let at : IsUnder d j (world.held frame.depth k) = subst (IsUnder d j) held_by u in
          let same : frame.depth ≡ d = at.0 in
          let depth : frame.depth ≡ c.depth = agrees.rest.depth in
          absurd (omega arith)

      foci : (fs : List Focus) → FociAgree (look os) fs → FociAgree (look os') fs
      foci [] a = tt
      foci (q ∷ qs) a = (owners q.guard ∙ a.0, foci qs a.1)

      same_content : (P : Root) → content (stock c hand frame os') P ≡ content (stock c hand frame os) P
      same_content (in_var v) = refl
      same_content in_hand = refl
      same_content (in_wait d v) = refl
      same_content (in_cell m i) = ⊎_elim
          (λ e. ap (λ k. cell_of (look os' k) i) e ∙
          (cells_stay (look os n) (look os' n) (cells n) (λ q. gone_held (sym q ∙ held_by)) (λ q. gone_held (sym q ∙ (owners n ∙ held_by))) i ∙
          ap (λ k. cell_of (look os k) i) (sym e)))
          (λ other. ap (λ o. cell_of o i) (change.others m other))
          (cases_eq m n)

      keys : (j : ℕ) → KeyAgrees (key_type f j) (h' (a_key j)) frame.depth j (frame.keys j) (look os')
      keys j = ⊎_elim
          (λ e. subst (λ j. KeyAgrees (key_type f j) (h' (a_key j)) frame.depth j (frame.keys j) (look os')) (sym e)
          (key_held states tok.here (record {
            number = n;
            named = named;
            owned = owners n ∙ held_by;
            typed = subst (IsOfType (key_type f k)) (sym (types n)) ((agrees.keys k).held n held_by).0.typed;
            state = rw (ap (λ o. o.state) change.here) allows;
            only = λ m u. same_Some m n (sym (under_is (agrees.keys k) m (subst (IsUnder frame.depth k) (owners m) u)) ∙ named);
          })))
          (λ off. key_kept (tok.others (a_key j) (λ e. off (key_same e))) refl
          (under_one frame.depth j n (with_state s) change (not_under j off) (not_under j off))
          (agrees.keys j))
          (cases_eq j k)
        where
          not_under : (j : ℕ) → (j ≡ k → ⊥) → IsUnder frame.depth j (look os n).owner → ⊥
          not_under j off u = off (sym (subst (IsUnder frame.depth j) held_by u).1)

-- ---- the statement

-- a state that the statement names is one of the type's
state_known : (p : Program) (f : Func) (x k t s : ℕ) (args : List ℕ) → IsTyped p f →
    var_type f x ≡ Some (tracked k t args) →
    struct_broken p f rule.WRONG_BECOME x (λ p t args. state_broken p t s) ≡ [] → all_states p t s ≡ true
state_known p f x k t s args typed is e =
    let dec = typed.vars x (tracked k t args) t is refl in
    let q1 = rw is at e in
    let q2 : (if is_struct (Some dec.decl) then state_broken p t s else rule.WRONG_BECOME ∷ []) ≡ [] =
    subst (λ o. when_some o (λ d. if is_struct (Some d) then state_broken p t s else rule.WRONG_BECOME ∷ []) ≡ []) dec.is q1 in
    unless_so (all_states p t s) rule.NOT_A_STATE
    (subst (λ b. (if b then unless (all_states p t s) rule.NOT_A_STATE else []) ≡ []) (typed.sets t)
    (of_struct (is_struct (Some dec.decl)) q2))
  where
    of_struct : (b : Bool) → (if b then state_broken p t s else rule.WRONG_BECOME ∷ []) ≡ [] → state_broken p t s ≡ []
    of_struct true e = e
    of_struct false e = cc

module _ (r : Setup) (f : Func)
    (typed : IsTyped r.program f) {c : Context} {h : HeldMap} {ids : Ids} {frame : Frame} (w : World)
    (agrees : Agrees r.program f c h ids [] frame w.objects) where
  becomes : (x s k t : ℕ) (args : List ℕ) → InScope ids x → var_type f x ≡ Some (tracked k t args) →
      all_states r.program t s ≡ true → CanPass (simple_rows r.program f (become x s)) h →
      Safe (goes_to r.program f c (map_after (simple_rows r.program f (become x s)) h) ids [])
      (does_simple r f (become x s) frame w)
  becomes x s k t args scoped is allowed pass =
      let os = w.objects in
      let one : States = λ q. q == s in
      let kr : Row = row (a_key k) wants_held (becomes_held one) in
      let rows : simple_rows r.program f (become x s) ≡ kr ∷ [] = rw is refl in
      let ok = subst (λ rs. CanPass rs h) rows pass in
      let tx = tracked_held agrees x k t args scoped is ok.0 in
      let h1 : HeldMap = row_passed kr h in
      let G = goes_to r.program f c h1 ids [] in
      subst
      (λ rs. Safe (goes_to r.program f c (map_after rs h) ids []) (does_simple r f (become x s) frame w)) (sym rows)
      (found_safe G (object_of f any_state x frame os) (named tx.number (look os tx.number)) w _
      (object_found f any_state x k t frame os tx.number (ap tracked_in is) tx.var tx.named (look_at os tx.number tx.of.within) tx.owned refl)
      (agrees_became agrees k tx.number tx.named tx.owned tx.of.within one s h1
      (row_tok kr h (held one) (row_here kr h)) (eq-eqb s s refl) (rw tx.of.typed allowed)))

  pub become_safe : (x s : ℕ) → simple_broken r.program f ids (become x s) ≡ [] →
      CanPass (simple_rows r.program f (become x s)) h →
      Safe
      (goes_to r.program f c (map_after (simple_rows r.program f (become x s)) h) (ids_after f (become x s) ids) [])
      (does_simple r f (become x s) frame w)
  become_safe x s kinded pass =
      let both = both_empty (tracked_broken f ids rule.WRONG_BECOME x)
      (struct_broken r.program f rule.WRONG_BECOME x (λ p t args. state_broken p t s)) kinded in
      let x' = tracked_known f ids rule.WRONG_BECOME x both.0 in
      becomes x s x'.key x'.type x'.args x'.scoped x'.is
      (state_known r.program f x x'.key x'.type s x'.args typed x'.is both.1) pass
