-- What an owning variable has is released.
use Rattle.std.proofs.Common.{◌≡◌, ◌⊎◌, inl, inr, ⊎_elim, ℕ, ◌<◌, true, ◌&&◌, List, [], ◌∷◌, length, Some, refl, sym, ap, ◌∙◌, subst}
use Rattle.std.proofs.lemmas.Bool.{cases_Bool}
use Rattle.std.proofs.lemmas.List.{append-nil}
use Rattle.std.proofs.lemmas.Option.{none-some}
use Rattle.vlt_core.specs.Core.{Ty, a_var, Func, Program, drop}
use Rattle.vlt_core.specs.Lookups.{var_type, is_owning, is_owning_var}
use Rattle.vlt_core.specs.Maps.{absent, HeldMap, row_passed, CanPass, map_after}
use Rattle.vlt_core.specs.Rows.{simple_rows, empty_row}
use Rattle.vlt_core.specs.Types.{is_droppable}
use Rattle.vlt_core.specs.KindedHeads.{unless, when_some}
use Rattle.vlt_core.specs.declared.rules.TheConstants as rule
use Rattle.vlt_core.specs.KindedScopes.{Ids, use_broken}
use Rattle.vlt_core.specs.KindedStatements.{simple_broken, ids_after}
use Rattle.vlt_meaning.specs.World.{objects_in, gone, loose, is_loose, above, Object, World, Frame, no_value}
use Rattle.vlt_meaning.specs.World as world
use Rattle.vlt_meaning.specs.Found.{or_fault}
use Rattle.vlt_meaning.specs.Objects.{is_under, owned_at, objects_after_release}
use Rattle.vlt_meaning.specs.Step.{Step, goes, with_objects, with_dropped}
use Rattle.vlt_meaning.specs.Run.{Setup, does_simple}
use Rattle.vlt_sound_worlds.specs.Look.{look}
use Rattle.vlt_sound_worlds.proofs.Look.{live_within}
use Rattle.vlt_sound_worlds.specs.Members.{In, IsOnce}
use Rattle.vlt_sound_worlds.specs.Roots.{in_hand, content, home}
use Rattle.vlt_sound_worlds.proofs.Members.{in_left, once_left}
use Rattle.vlt_sound_worlds.proofs.Placed.{one_place}
use Rattle.vlt_sound_worlds.proofs.Roots.{same_root}
use Rattle.vlt_sound_worlds.specs.Keys.{IsUnder}
use Rattle.vlt_sound_worlds.proofs.KeysLaws.{key_kept}
use Rattle.vlt_sound_worlds.specs.Agrees.{HasVar, Handed, Context, scene, stock, Agrees}
use Rattle.vlt_sound_worlds.specs.Typed.{IsTyped}
use Rattle.vlt_sound_worlds.specs.Safe.{Goal, Safe, goes_to}
use Rattle.vlt_sound_worlds.proofs.Empty.{both_empty, both_so, unless_so}
use Rattle.vlt_sound_worlds.proofs.Rows.{row_here}
use Rattle.vlt_sound_worlds.proofs.Touch.{used, named}
use Rattle.vlt_sound_worlds.proofs.Safe.{found_safe}
use Rattle.vlt_sound_worlds.proofs.Owning.{row_tok, full_is}
use Rattle.vlt_sound_worlds.proofs.Handing.{agrees_moved}
use Rattle.vlt_sound_worlds.proofs.Moved.{owned_found}
use Rattle.vlt_sound_statements.specs.Ended.{AreEnded, MayEnd}
use Rattle.vlt_sound_statements.proofs.Below.{all_below, releasable, ended_none, ended_more}
use Rattle.vlt_sound_statements.proofs.Parts.{placed_small, value_ends, below_ends}
use Rattle.vlt_sound_statements.proofs.Ending.{IsEndable, Ends, under_kept, agrees_ended}
use Rattle.vlt_sound_statements.proofs.Releasing.{released_safe}

-- ---- one object after another

-- a value's object that may be released, and isn't yet
record IsNext (p : Program) (os : List Object) (done : List ℕ) (m : ℕ) : Type 0 where
  within : m < length os
  is : (look os m).owner ≡ loose
  may : MayEnd p (look os m)
  undone : In m done → ⊥

-- what was released in the end
record HaveEnded (os os' : List Object) (ns done : List ℕ) : Type 0 where
  all : List ℕ
  ended : AreEnded all os os'
  from : (m : ℕ) → In m all → In m ns ⊎ In m done
  to : (m : ℕ) → In m ns ⊎ In m done → In m all

module _ {p : Program} {f : Func} {c : Context} {h : HeldMap} {ids : Ids} {hand : List Handed} {frame : Frame} {os : List Object}
    (typed : IsTyped p f) (agrees : Agrees p f c h ids hand frame os) where
  -- an object that isn't released is as it was
  still : (done : List ℕ) (os' : List Object) (a : AreEnded done os os') (m : ℕ) →
      (gone ≡ (look os' m).owner → ⊥) → look os' m ≡ look os m
  still done os' a m lives = ⊎_elim
      (λ t. absurd (lives (sym (ap (λ o. o.owner) (a.ends.those m t)))))
      (λ off. a.ends.others m off)
      (cases_Bool (a.test m))

  same_type : (done : List ℕ) (os' : List Object) (a : AreEnded done os os') (m : ℕ) →
      (look os' m).type ≡ (look os m).type
  same_type done os' a m = ⊎_elim
      (λ t. ap (λ o. o.type) (a.ends.those m t))
      (λ off. ap (λ o. o.type) (a.ends.others m off))
      (cases_Bool (a.test m))

  next_stays : (done : List ℕ) (os' : List Object) (a : AreEnded done os os') (n : ℕ) → IsNext p os done n →
      look os' n ≡ look os n
  next_stays done os' a n next = ⊎_elim
      (λ t.
      let u = a.below.down n t next.undone in
      absurd (none-some u.upper (sym (ap above next.is) ∙ u.is)))
      (λ off. a.ends.others n off)
      (cases_Bool (a.test n))

  -- a value's object, and all below it, may be released while others are already
  next_ends : (done : List ℕ) (os' : List Object) (a : AreEnded done os os') (n : ℕ) → IsNext p os done n → (m : ℕ) →
      is_under os' (n ∷ []) m ≡ true → MayEnd p (look os' m)
  next_ends done os' a n next =
      all_below os' n (subst (λ l. n < l) (sym a.long) next.within) a.ranked (λ m. MayEnd p (look os' m))
      (subst (MayEnd p) (sym (next_stays done os' a n next)) next.may) step
    where
      lives : (m q : ℕ) → above (look os' m).owner ≡ Some q → gone ≡ (look os' m).owner → ⊥
      lives m q up e = none-some q (ap above e ∙ up)

      step : (m q : ℕ) → above (look os' m).owner ≡ Some q → MayEnd p (look os' q) → MayEnd p (look os' m)
      step m q up me =
          let kept = still done os' a m (lives m q up) in
          subst (MayEnd p) (sym kept)
          (below_ends typed agrees m q (ap (λ o. above o.owner) (sym kept) ∙ up)
          (rw⁻¹ (same_type done os' a q) me.free))

  drops : (g : Goal) (ns done : List ℕ) (w : World) (go : World → Step) → AreEnded done os w.objects →
      ((m : ℕ) → In m ns → IsNext p os done m) → IsOnce ns →
      ((v : World) → HaveEnded os v.objects ns done → Safe g (go v)) → Safe g (with_dropped p ns w go)
  unfolding with_dropped
  drops g [] done w go a each once safe =
      safe w (record { all = done; ended = a; from = λ m i. inr i; to = λ m i. ⊎_elim (λ none. absurd none) (λ i. i) i })
  drops g (n ∷ ns) done w go a each once safe =
      let next = each n (inl refl) in
      let within : n < length w.objects = subst (λ l. n < l) (sym a.long) next.within in
      let held : (look w.objects n).owner ≡ loose = ap (λ o. o.owner) (next_stays done w.objects a n next) ∙ next.is in
      found_safe g (owned_at is_loose w.objects n) (named n (look w.objects n)) w _
      (owned_found is_loose w.objects n within (ap is_loose held))
      (released_safe g p n w (λ w. with_dropped p ns w go)
      (releasable p w.objects n (λ m t. (next_ends done w.objects a n next m t).released))
      (drops g ns (n ∷ done) (with_objects w (objects_after_release n w.objects)) go
      (ended_more done os w.objects a n next.within)
      (λ m i.
      let was = each m (inr i) in
      record {
        within = was.within;
        is = was.is;
        may = was.may;
        undone = λ j. ⊎_elim (λ same. once.0 (subst (λ m. In m ns) same i)) (λ rest. was.undone rest) j;
      })
      once.1
      (λ v e. safe v (record {
        all = e.all;
        ended = e.ended;
        from = λ m i. ⊎_elim (λ j. inl (inr j)) (λ j. ⊎_elim (λ same. inl (inl same)) inr j) (e.from m i);
        to = λ m i. e.to m (⊎_elim (λ j. ⊎_elim (λ same. inr (inl same)) inl j) (λ j. inr (inr j)) i);
      }))))

-- ---- the statement

droppable_ty : (f : Func) (p : Program) (v : ℕ) (ty : Ty) → var_type f v ≡ Some ty →
    when_some (var_type f v) (λ ty. unless (is_owning ty && is_droppable p ty) rule.WRONG_RELEASE) ≡ [] →
    (is_owning ty ≡ true) × (is_droppable p ty ≡ true)
droppable_ty f p v ty is e =
    let q = rw is at e in
    both_so (is_owning ty) (is_droppable p ty) (unless_so (is_owning ty && is_droppable p ty) rule.WRONG_RELEASE q)

module _ (r : Setup) (f : Func)
    (typed : IsTyped r.program f) {c : Context} {h : HeldMap} {ids : Ids} {frame : Frame} (w : World) where
  -- a value that is handed over alone is released
  hand_ends : (x : Handed) → (agrees : Agrees r.program f c h ids (x ∷ []) frame w.objects) →
      is_droppable r.program x.type ≡ true →
      Safe (goes_to r.program f c h ids []) (with_dropped r.program (objects_in x.value) w (goes frame))
  hand_ends x agrees droppable =
      drops typed agrees (goes_to r.program f c h ids []) (objects_in x.value) [] w (goes frame)
      (ended_none os agrees.ranked) next (once_left (objects_in x.value) [] (agrees.placed.once in_hand))
      (λ v e.
      let ends : Ends agrees e.all [] os v.objects = record {
        moves = record { those = λ m i. absurd i; others = λ m off. refl };
        long = refl;
        ended = e.ended;
        out = λ m i. absurd i;
        roots = λ m i. loose_root m (is_loose_now m (mine e.all (e.from) m i));
      } in
      agrees_ended agrees e.all [] os v.objects ends []
      (record {
        unplaced = λ m i P other at.
            other (one_place home same_root agrees.placed P in_hand m at (in_left m (objects_in x.value) [] (mine e.all e.from m i)));
        stays = λ m i off. absurd (off (e.to m (inl (subst (In m) (append-nil (objects_in x.value)) i))));
        from = λ m i. absurd i;
        comes = λ m i. i;
        once = tt;
        handed = tt;
      })
      h
      (λ k. key_kept refl refl (under_kept agrees e.all [] os v.objects ends frame.depth k
      (λ m i u. subst (IsUnder frame.depth k) (is_loose_now m (mine e.all e.from m i)) u)) (agrees.keys k))
      agrees.vars)
    where
      os : List Object
      os = w.objects

      mine : (all : List ℕ) → ((m : ℕ) → In m all → In m (objects_in x.value) ⊎ In m []) → (m : ℕ) → In m all →
          In m (objects_in x.value)
      mine all from m i = ⊎_elim (λ j. j) (λ none. absurd none) (from m i)

      in_the_hand : (m : ℕ) → In m (objects_in x.value) → In m (content (stock c (x ∷ []) frame os) in_hand)
      in_the_hand m i = in_left m (objects_in x.value) [] i

      is_loose_now : (m : ℕ) → In m (objects_in x.value) → (look os m).owner ≡ loose
      is_loose_now m i = (agrees.placed.here in_hand m (in_the_hand m i)).1

      loose_root : (m : ℕ) → (look os m).owner ≡ loose → IsEndable c (look os m).owner
      loose_root m is = record {
        root = ap above is;
        unlent = λ d k e. clash d k (sym is ∙ e);
        mine = λ d k lt u. subst (IsUnder d k) is u;
      }
        where
          clash : (d k : ℕ) → loose ≡ world.lent d k → ⊥
          clash d k e = cc

      next : (m : ℕ) → In m (objects_in x.value) → IsNext r.program os [] m
      next m i = record {
        within = live_within os m (λ e. clash (sym e ∙ is_loose_now m i));
        is = is_loose_now m i;
        may =
            value_ends r.program (scene c os agrees.heads) frame.keys x.type x.value droppable
            (λ n j. placed_small typed agrees in_hand n (in_the_hand n j)) agrees.handed.0 m i;
        undone = λ none. none;
      }
        where
          clash : gone ≡ loose → ⊥
          clash e = cc

module _ (r : Setup) (f : Func)
    (typed : IsTyped r.program f) {c : Context} {h : HeldMap} {ids : Ids} {frame : Frame} (w : World)
    (agrees : Agrees r.program f c h ids [] frame w.objects) where
  pub drop_safe : (v : ℕ) → simple_broken r.program f ids (drop v) ≡ [] →
      CanPass (simple_rows r.program f (drop v)) h →
      Safe
      (goes_to r.program f c (map_after (simple_rows r.program f (drop v)) h) (ids_after f (drop v) ids) [])
      (does_simple r f (drop v) frame w)
  drop_safe v kinded pass =
      let both = both_empty (use_broken f ids v)
      (when_some (var_type f v) (λ ty. unless (is_owning ty && is_droppable r.program ty) rule.WRONG_RELEASE)) kinded in
      let v' = used f ids v both.0 in
      let facts = droppable_ty f r.program v v'.ty v'.is both.1 in
      let value =
      subst (λ s. HasVar (is_owning_var f v) s (frame.vars v)) (full_is (h (a_var v)) pass.0) (agrees.vars.full v) in
      let h1 : HeldMap = row_passed (empty_row v) h in
      let a1 =
      agrees_moved agrees v h1 absent
      (row_tok (empty_row v) h absent (row_here (empty_row v) h)) value.0 v'.ty value.1 v'.is facts.0 v'.scoped refl in
      found_safe (goes_to r.program f c h1 ids []) (or_fault no_value (frame.vars v)) value.0 w _
      (ap (or_fault no_value) value.1)
      (hand_ends r f typed w (record { value = value.0; type = v'.ty }) a1 facts.1)
