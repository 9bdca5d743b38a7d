-- An object is opened: what its owning fields have goes into variables, and the object is released with all that it adopted.
use Rattle.std.proofs.Common.{◌≡◌, inl, ⊎_elim, ℕ, ◌==◌, ◌<◌, Bool, true, false, IsTrue, if◌then◌else◌, List, [], ◌∷◌, ◌++◌, length, map, Some, refl, sym, ap, ◌∙◌, subst, slice_get}
use Rattle.std.proofs.lemmas.Bool.{cases_eq, eqb-true, eq-eqb}
use Rattle.std.proofs.lemmas.Option.{none-some, same_Some}
use Rattle.vlt_core.specs.Core.{tracked, variant, a_key, FieldDecl, Func, Program, open_into}
use Rattle.vlt_core.specs.Lookups.{var_type, fields_of, tracked_in, reference_of, release_set}
use Rattle.vlt_core.specs.Maps.{absent, HeldMap, wants_in, becomes_absent, Row, row_passed, CanPass, map_after}
use Rattle.vlt_core.specs.Rows.{simple_rows, row, fill_rows}
use Rattle.vlt_core.specs.Types.{header_of, is_struct, is_owning_type, with_keys, stands_for}
use Rattle.vlt_core.specs.KindedHeads.{Rules, unless, when_some}
use Rattle.vlt_core.specs.declared.rules.TheConstants as rule
use Rattle.vlt_core.specs.KindedScopes.{Ids}
use Rattle.vlt_core.specs.KindedStatements.{tracked_type, tracked_broken, struct_broken, owning_field_types, opened_types, opened_broken, with_bindings, simple_broken, ids_after}
use Rattle.vlt_meaning.specs.World.{Value, Owner, loose, inside, adopted_by, out, gone, is_inside, above, Object, World, Frame, missing}
use Rattle.vlt_meaning.specs.World as world
use Rattle.vlt_meaning.specs.Found.{or_fault}
use Rattle.vlt_meaning.specs.Objects.{is_releasable, objects_after_release}
use Rattle.vlt_meaning.specs.Operands.{owning_cells}
use Rattle.vlt_meaning.specs.Values.{object_of}
use Rattle.vlt_meaning.specs.Step.{goes, with_objects, with_filled}
use Rattle.vlt_meaning.specs.Run.{Setup, does_simple, any_state, open_step}
use Rattle.vlt_sound_worlds.specs.Look.{look, IsLive}
use Rattle.vlt_sound_worlds.specs.Ranks.{IsRanked}
use Rattle.vlt_sound_worlds.proofs.Look.{look_at, live_within}
use Rattle.vlt_sound_worlds.specs.Members.{In, IsOnce}
use Rattle.vlt_sound_worlds.specs.Placed.{IsOwned}
use Rattle.vlt_sound_worlds.specs.Roots.{Root, in_var, in_hand, in_wait, in_cell, owned_by, content, home}
use Rattle.vlt_sound_worlds.proofs.Members.{in_or_not}
use Rattle.vlt_sound_worlds.proofs.Placed.{one_place}
use Rattle.vlt_sound_worlds.proofs.Roots.{same_root}
use Rattle.vlt_sound_worlds.specs.Fits.{names_of, Fits}
use Rattle.vlt_sound_worlds.proofs.Fits.{fits_named, fits_before}
use Rattle.vlt_sound_worlds.specs.Agrees.{FitCells, InScope, Context, scene, stock, Agrees}
use Rattle.vlt_sound_worlds.specs.Typed.{IsTyped}
use Rattle.vlt_sound_worlds.specs.Safe.{Safe, goes_to}
use Rattle.vlt_sound_worlds.proofs.Empty.{both_empty, unless_so}
use Rattle.vlt_sound_worlds.proofs.Rows.{row_here}
use Rattle.vlt_sound_worlds.proofs.Touch.{tracked_held, named}
use Rattle.vlt_sound_worlds.proofs.Expressions.{names_at}
use Rattle.vlt_sound_worlds.proofs.Safe.{found_safe}
use Rattle.vlt_sound_worlds.proofs.Kept.{cells_in}
use Rattle.vlt_sound_worlds.proofs.FrameOwners.{ChangesTok}
use Rattle.vlt_sound_worlds.proofs.TypeFacts.{tracked_known}
use Rattle.vlt_sound_worlds.proofs.Owning.{row_tok}
use Rattle.vlt_sound_worlds.proofs.Adopting.{object_found}
use Rattle.vlt_sound_worlds.specs.Moved.{ArePassing, IsMoved}
use Rattle.vlt_sound_worlds.proofs.Moved.{moved_all, moved_safe}
use Rattle.vlt_sound_worlds.proofs.Chains.{ranked_roots}
use Rattle.vlt_core_laws.specs.Parts.{IsFree}
use Rattle.vlt_sound_statements.specs.Ended.{MayEnd}
use Rattle.vlt_sound_statements.proofs.Below.{all_below, releasable, ended_none, ended_more}
use Rattle.vlt_sound_statements.proofs.Parts.{droppable_free, below_ends}
use Rattle.vlt_sound_statements.proofs.Ending.{IsEndable, Ends, HandEnds, agrees_ended}
use Rattle.vlt_sound_statements.proofs.Releasing.{released_safe, held_endable, held_nowhere, keys_end, vars_end}
use Rattle.vlt_sound_statements.proofs.Cells.{out_of, out_in, out_once, AreApart, all_out, given_out, given_values, given_objects, given_types, given_owning, given_fit}
use Rattle.vlt_sound_statements.proofs.Filling.{filled_safe}

abbrev number_in : Owner → ℕ
number_in (inside n) = n
number_in o = 0

abbrev position_in : Root → ℕ
position_in (in_cell n i) = i
position_in P = 0

-- as many variables as owning fields
count_known : (p : Program) (f : Func) (x k t : ℕ) (args vs : List ℕ) → IsTyped p f →
    var_type f x ≡ Some (tracked k t args) →
    struct_broken p f rule.WRONG_RELEASE x (λ p t args. unless (length (owning_field_types p t args) == length vs) rule.WRONG_COUNT) ≡ [] →
    length (owning_field_types p t args) ≡ length vs
count_known p f x k t args vs typed is e =
    let dec = typed.vars x (tracked k t args) t is refl in
    let counted : Rules = unless (length (owning_field_types p t args) == length vs) rule.WRONG_COUNT in
    let q1 = rw is at e in
    let q2 : (if is_struct (Some dec.decl) then counted else rule.WRONG_RELEASE ∷ []) ≡ [] =
    subst (λ o. when_some o (λ d. if is_struct (Some d) then counted else rule.WRONG_RELEASE ∷ []) ≡ []) dec.is q1 in
    eqb-true (length (owning_field_types p t args)) (length vs)
    (unless_so (length (owning_field_types p t args) == length vs) rule.WRONG_COUNT (of_struct counted (is_struct (Some dec.decl)) q2))
  where
    of_struct : (rules : Rules) (b : Bool) → (if b then rules else rule.WRONG_RELEASE ∷ []) ≡ [] → rules ≡ []
    of_struct rules true e = e
    of_struct rules false e = cc

-- ---- the object's fields

module _ {p : Program} {f : Func} {c : Context} {h : HeldMap} {ids : Ids} {frame : Frame} {os : List Object}
    (typed : IsTyped p f) (agrees : Agrees p f c h ids [] frame os) (k n t : ℕ) (args : List ℕ)
    (named_so : frame.keys k ≡ Some n) (held_by : (look os n).owner ≡ world.held frame.depth k)
    (type : (look os n).type ≡ t) (headed : agrees.heads n ≡ map frame.keys args)
    (count : length args ≡ length (header_of p t)) where
  abbrev cells : List Value
  cells = (look os n).cells

  abbrev ys : List ℕ
  ys = out_of (fields_of p t) cells

  live : IsLive (look os) n
  live e = let q = sym e ∙ held_by in cc

  fit : FitCells p (scene c os agrees.heads) (names_of (agrees.heads n)) (fields_of p t) cells
  fit = subst (λ t. FitCells p (scene c os agrees.heads) (names_of (agrees.heads n)) (fields_of p t) cells) type (agrees.objects n live).cells

  copied : (i u : ℕ) (d : FieldDecl) (given : List ℕ) → slice_get (fields_of p t) i ≡ Some d → d.ty ≡ variant u given →
      is_owning_type p u ≡ false
  copied i u d given at e = typed.field_variants t i u d given at e

  in_place : (i m : ℕ) → In m (owned_by (slice_get cells i)) → In m (content (stock c [] frame os) (in_cell n i))
  in_place i m at = subst (In m) (sym (cells_in (look os n) live i)) at

  out_owner : (m : ℕ) → In m ys → (look os m).owner ≡ inside n
  out_owner m i =
      let r = out_in (fields_of p t) cells m i in
      (agrees.placed.here (in_cell n r.0) m (in_place r.0 m r.1)).1

  apart : AreApart cells
  apart = record {
    once = λ i. subst IsOnce (cells_in (look os n) live i) (agrees.placed.once (in_cell n i));
    one = λ i j m x y. ap position_in
        (one_place home same_root agrees.placed (in_cell n i) (in_cell n j) m (in_place i m x) (in_place j m y));
  }

  inside_lives : (m : ℕ) → (look os m).owner ≡ inside n → IsLive (look os) m
  inside_lives m is e = let q = sym e ∙ is in cc

  passing : ArePassing (is_inside n) ys os
  passing m i =
      let is = out_owner m i in
      (live_within os m (inside_lives m is), ap (is_inside n) is ∙ eq-eqb n n refl)

  pub moved_out : IsMoved (is_inside n) loose ys os
  moved_out = moved_all (is_inside n) loose ys os (out_once (fields_of p t) cells apart) passing

  -- what is in the object comes out of it
  inside_out : (m : ℕ) → (look os m).owner ≡ inside n → In m ys
  inside_out m is =
      let there = agrees.placed.there m (subst IsOwned (sym is) tt) in
      at (agrees.placed.place m) there.has (there.lies ∙ is)
    where
      at : (P : Root) → In m (content (stock c [] frame os) P) → home P ≡ inside n → In m ys
      at (in_var v) i e = cc
      at in_hand i e = cc
      at (in_wait d v) i e = cc
      at (in_cell r i) j e =
          all_out p (scene c os agrees.heads) (names_of (agrees.heads n)) (fields_of p t) cells fit
          copied i m
          (subst (In m) (cells_in (look os n) live i)
          (subst (λ r. In m (content (stock c [] frame os) (in_cell r i))) (ap number_in e) j))

  module _ (within : n < length os) (state : IsTrue (release_set p t (look os n).state)) where
    abbrev os1 : List Object
    os1 = moved_out.objects

    abbrev os2 : List Object
    os2 = objects_after_release n os1

    ranked1 : IsRanked (look os1)
    ranked1 = ranked_roots ys loose moved_out.change refl (λ e. cc) agrees.ranked

    within1 : n < length os1
    within1 = subst (λ l. n < l) (sym moved_out.long) within

    stays : In n ys → ⊥
    stays i = let q = sym (out_owner n i) ∙ held_by in cc

    same_type : (q : ℕ) → (look os1 q).type ≡ (look os q).type
    same_type q = ⊎_elim
        (λ i. ap (λ o. o.type) (moved_out.change.those q i))
        (λ off. ap (λ o. o.type) (moved_out.change.others q off))
        (in_or_not q ys)

    -- below it is only what it adopted, and what that has
    abbrev IsBelowSo : ℕ → Type 0
    IsBelowSo m = IsTrue (release_set p (look os1 m).type (look os1 m).state) × ((m ≡ n → ⊥) → IsFree p (look os1 m).type)

    adopted_ends : (m : ℕ) → (In m ys → ⊥) → above (look os m).owner ≡ Some n → MayEnd p (look os m)
    adopted_ends m off up = by (look os m).owner refl up
      where
        by : (o : Owner) → (look os m).owner ≡ o → above o ≡ Some n → MayEnd p (look os m)
        by (inside r) e up = absurd (off (inside_out m (e ∙ ap inside (same_Some r n up))))
        by (adopted_by g) e up =
            let a = agrees.adopted m g e in
            record { released = a.released; free = droppable_free p (look os m).type a.droppable }
        by (world.held d j) e up = cc
        by (world.lent d j) e up = cc
        by loose e up = cc
        by out e up = cc
        by gone e up = cc

    step_down : (m q : ℕ) → above (look os1 m).owner ≡ Some q → IsBelowSo q → IsBelowSo m
    step_down m q up me =
        let off : In m ys → ⊥ =
        λ i. none-some q (ap (λ o. above o.owner) (sym (moved_out.change.those m i)) ∙ up) in
        let same = moved_out.change.others m off in
        let was : above (look os m).owner ≡ Some q = ap (λ o. above o.owner) (sym same) ∙ up in
        let may : MayEnd p (look os m) =
        ⊎_elim
        (λ e. adopted_ends m off (was ∙ ap Some e))
        (λ other. below_ends typed agrees m q was (subst (IsFree p) (same_type q) (me.1 other)))
        (cases_eq q n) in
        (rw same may.released, λ other. rw same may.free)

    pub opens_releasable : is_releasable p os1 n ≡ true
    opens_releasable =
        let same = moved_out.change.others n stays in
        let top : IsBelowSo n = (rw same (rw type state), λ other. absurd (other refl)) in
        releasable p os1 n (λ m under. (all_below os1 n within1 ranked1 IsBelowSo top step_down m under).0)

    pub opens_ends : Ends agrees (n ∷ []) ys os1 os2
    opens_ends = record {
      moves = moved_out.change;
      long = moved_out.long;
      ended = ended_more [] os1 os1 (ended_none os1 ranked1) n within1;
      out = λ m i. (n, inl refl, out_owner m i);
      roots = λ m i. ⊎_elim
          (λ same. subst (λ m. IsEndable c (look os m).owner) (sym same) (held_endable agrees k n named_so held_by))
          (λ none. absurd none) i;
    }

    pub opens_hand : HandEnds agrees (n ∷ []) ys (given_out args (fields_of p t) cells)
    opens_hand = record {
      unplaced = λ m i P other at. ⊎_elim
          (λ same. held_nowhere agrees k n named_so held_by P (subst (λ m. In m (content (stock c [] frame os) P)) same at))
          (λ none. none) i;
      stays = λ m i off. absurd i;
      from = λ m i. inl (subst (In m) (given_objects args (fields_of p t) cells) i);
      comes = λ m i. subst (In m) (sym (given_objects args (fields_of p t) cells)) i;
      once = subst IsOnce (sym (given_objects args (fields_of p t) cells)) (out_once (fields_of p t) cells apart);
      handed = given_fit p (scene c os agrees.heads) frame.keys (names_of (agrees.heads n)) args (fields_of p t) cells fit to;
    }
      where
        to : (i : ℕ) (d : FieldDecl) (a : Value) → slice_get (fields_of p t) i ≡ Some d →
            Fits p (scene c os agrees.heads) (names_of (agrees.heads n)) d.ty a →
            Fits p (scene c os agrees.heads) frame.keys (with_keys args d.ty) a
        to i d a at fits =
            fits_before p (scene c os agrees.heads) frame.keys args d.ty a
            (fits_named p (scene c os agrees.heads) (names_of (agrees.heads n)) (λ j. frame.keys (stands_for args j)) d.ty a
            (λ j in_ty. sym (ap (λ hs. names_of hs j) headed ∙
            names_at frame.keys args j (subst (λ l. j < l) (sym count) (typed.fields t i d at j in_ty)))) fits)

    pub agrees_opened : (h' : HeldMap) → ChangesTok (a_key k) absent h h' →
        Agrees p f c h' ids (given_out args (fields_of p t) cells) frame os2
    agrees_opened h' tok =
        agrees_ended agrees (n ∷ []) ys os1 os2 opens_ends (given_out args (fields_of p t) cells) opens_hand h'
        (keys_end agrees k n named_so held_by ys os1 os2 opens_ends h' tok)
        (vars_end agrees k n named_so held_by ys os1 os2 opens_ends h' tok)

-- ---- the statement

module _ (r : Setup) (f : Func)
    (typed : IsTyped r.program f) {c : Context} {h : HeldMap} {ids : Ids} {frame : Frame} (w : World)
    (agrees : Agrees r.program f c h ids [] frame w.objects) where
  -- what comes of the object
  module _ (vs : List ℕ) (k n t : ℕ) (args : List ℕ)
      (named_so : frame.keys k ≡ Some n) (held_by : (look w.objects n).owner ≡ world.held frame.depth k)
      (type : (look w.objects n).type ≡ t) (headed : agrees.heads n ≡ map frame.keys args)
      (count : length args ≡ length (header_of r.program t)) (within : n < length w.objects)
      (state : IsTrue (release_set r.program t (look w.objects n).state)) where
    opened_safe : (h1 : HeldMap) → ChangesTok (a_key k) absent h h1 →
        length (owning_field_types r.program t args) ≡ length vs →
        opened_broken r.program f ids (owning_field_types r.program t args) vs ≡ [] → CanPass (fill_rows f vs) h1 →
        Safe (goes_to r.program f c (map_after (fill_rows f vs) h1) (with_bindings f vs ids) [])
        (open_step r n (owning_cells (fields_of r.program t) (look w.objects n).cells) f vs frame w)
    unfolding open_step
    opened_safe h1 tok counted kinded pass =
        let p = r.program in
        let os = w.objects in
        let ds = fields_of p t in
        let values = (look os n).cells in
        let G = goes_to p f c (map_after (fill_rows f vs) h1) (with_bindings f vs ids) [] in
        let m = moved_out typed agrees k n t args named_so held_by type headed count in
        let types =
        given_types p (scene c os agrees.heads) (names_of (agrees.heads n)) args ds values
        (fit typed agrees k n t args named_so held_by type headed count) in
        let w1 : World = with_objects w m.objects in
        let w2 : World = with_objects w1 (objects_after_release n m.objects) in
        moved_safe G (is_inside n) loose (out_of ds values) w _ m
        (released_safe G p n w1 _
        (opens_releasable typed agrees k n t args named_so held_by type headed count within state)
        (subst (λ given. Safe G (with_filled f vs given frame w2 (λ frame. goes frame w2))) (given_values args ds values)
        (filled_safe p f typed vs (given_out args ds values) h1 ids frame w2
        (agrees_opened typed agrees k n t args named_so held_by type headed count within state h1 tok)
        (given_owning args ds values) (ap length types ∙ counted)
        (subst (λ tys. opened_broken p f ids tys vs ≡ []) (sym types) kinded) pass)))

  opens : (x k t : ℕ) (args vs : List ℕ) → InScope ids x → var_type f x ≡ Some (tracked k t args) →
      length (owning_field_types r.program t args) ≡ length vs →
      opened_broken r.program f ids (owning_field_types r.program t args) vs ≡ [] →
      CanPass (simple_rows r.program f (open_into x vs)) h →
      Safe
      (goes_to r.program f c (map_after (simple_rows r.program f (open_into x vs)) h) (with_bindings f vs ids) [])
      (does_simple r f (open_into x vs) frame w)
  opens x k t args vs scoped is counted kinded pass =
      let os = w.objects in
      let kr : Row = row (a_key k) (wants_in (release_set r.program t)) becomes_absent in
      let rows : simple_rows r.program f (open_into x vs) ≡ kr ∷ fill_rows f vs = rw is refl in
      let ok = subst (λ rs. CanPass rs h) rows pass in
      let tx = tracked_held agrees x k t args scoped is ok.0.0 in
      let n : ℕ = tx.number in
      let h1 : HeldMap = row_passed kr h in
      let G = goes_to r.program f c (map_after (fill_rows f vs) h1) (with_bindings f vs ids) [] in
      let dec = typed.vars x (tracked k t args) t is refl in
      subst
      (λ rs. Safe (goes_to r.program f c (map_after rs h) (with_bindings f vs ids) []) (does_simple r f (open_into x vs) frame w)) (sym rows)
      (found_safe G (or_fault missing (reference_of f x)) (record { key = k; type = t }) w _
      (ap (λ o. or_fault missing (tracked_in o)) is)
      (found_safe G (object_of f any_state x frame os) (named n (look os n)) w _
      (object_found f any_state x k t frame os n (ap tracked_in is) tx.var tx.named (look_at os n tx.of.within) tx.owned refl)
      (opened_safe vs k n t args tx.named tx.owned tx.of.typed tx.of.headed dec.count tx.of.within
      (ok.0.1.each (look os n).state tx.state) h1 (row_tok kr h absent (row_here kr h)) counted kinded ok.1)))

  pub open_safe : (x : ℕ) (vs : List ℕ) → simple_broken r.program f ids (open_into x vs) ≡ [] →
      CanPass (simple_rows r.program f (open_into x vs)) h →
      Safe
      (goes_to r.program f c (map_after (simple_rows r.program f (open_into x vs)) h) (ids_after f (open_into x vs) ids) [])
      (does_simple r f (open_into x vs) frame w)
  open_safe x vs kinded pass =
      let T = tracked_broken f ids rule.WRONG_RELEASE x in
      let S =
      struct_broken r.program f rule.WRONG_RELEASE x
      (λ p t args. unless (length (owning_field_types p t args) == length vs) rule.WRONG_COUNT) in
      let s2 = both_empty (T ++ S) (opened_broken r.program f ids (opened_types r.program (tracked_type (var_type f x))) vs) kinded in
      let s1 = both_empty T S s2.0 in
      let x' = tracked_known f ids rule.WRONG_RELEASE x s1.0 in
      opens x x'.key x'.type x'.args vs x'.scoped x'.is
      (count_known r.program f x x'.key x'.type x'.args vs typed x'.is s1.1)
      (subst (λ o. opened_broken r.program f ids (opened_types r.program (tracked_type o)) vs ≡ []) x'.is s2.1) pass
