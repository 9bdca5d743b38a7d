-- Whole runs of programs that break no rule and are accepted.
use Rattle.std.proofs.Common.{◌≡◌, ◌⊎◌, inl, inr, ⊎_elim, ℕ, zero, suc, ◌==◌, ◌+◌, nat_le, length, Bool, true, false, ◌&&◌, not, if◌then◌else◌, List, [], ◌∷◌, ◌++◌, map, Option, Some, None, refl, sym, ap, ◌∙◌, subst, arith, slice_get}
use Rattle.std.proofs.lemmas.Bool.{eqb-true, eq-eqb}
use Rattle.std.proofs.lemmas.Option.{none-some, same_Some}
use Rattle.std.specs.Prelude.{filter}
use Rattle.std.specs.List.{flat_map, enumerate_from}
use Rattle.vlt_core.specs.Core.{Ty, int, bool, tracked, owning, guarded, variant, owning_variant, Mode, kept, taken, given, fresh, up_to, Entry, Func, Program}
use Rattle.vlt_core.specs.Lookups.{is_before, is_fresh, is_held_before, is_new}
use Rattle.vlt_core.specs.Instances.{IsOriginOf}
use Rattle.vlt_core.specs.Derives.{start_map, IsAccepted}
use Rattle.vlt_sound.proofs.Bounded.{none_bound}
use Rattle.vlt_core.specs.KindedHeads.{Rules, unless, set_broken, is_bound_entry, type_rows, is_main_head, head_broken}
use Rattle.vlt_core.specs.Kinded.{has_main, rows_broken, function_rows, IsKinded}
use Rattle.vlt_core.specs.KindedBodies.{first_ids, end_broken}
use Rattle.vlt_core.specs.declared.rules.TheConstants as rule
use Rattle.vlt_meaning.specs.World.{Value, World, is_fault, depth_end}
use Rattle.vlt_meaning.specs.World as world
use Rattle.vlt_meaning.specs.Step.{Step, goes, jumps, leaves, ends}
use Rattle.vlt_meaning.specs.Clean.{IsClean}
use Rattle.vlt_meaning_laws.proofs.Done.{done_is_clean}
use Rattle.vlt_meaning.specs.Run.{Setup, first_frame, start, ran, ran_of, main_run}
use Rattle.vlt_core_laws.specs.States.{HasStates}
use Rattle.vlt_core_laws.proofs.Unbroken.{each_left, each_right, each_of_first, left_empty, right_empty, unless_holds}
use Rattle.vlt_core_laws.specs.Unbroken.{EachEmpty}
use Rattle.vlt_sound_worlds.specs.Agrees.{Agrees}
use Rattle.vlt_sound_worlds.specs.Safe.{Safe}
use Rattle.vlt_sound_calls.specs.Returned.{returns_to}
use Rattle.vlt_sound.specs.Sizes.{HasSizes}
use Rattle.vlt_sound_calls.specs.Among.{Among}
use Rattle.vlt_sound.specs.Narrow.{HasNarrowHeads}
use Rattle.vlt_sound.specs.Promise.{NeverGoesWrong, LeavesOnlyItsClause}
use Rattle.vlt_sound.specs.Main.{IsMain}
use Rattle.vlt_sound.proofs.Start.{main_context, main_agrees, main_entered, main_scoped}
use Rattle.vlt_sound.proofs.Clean.{clean}
use Rattle.vlt_sound.proofs.Levels.{level}

-- ---- main

-- the rows of a function, by its number
each_at : (p : Program) (from i : ℕ) (fs : List Func) (f : Func) →
    EachEmpty (flat_map (function_rows p) (enumerate_from from fs)) → slice_get fs i ≡ Some f →
    EachEmpty (function_rows p (from + i, f))
each_at p from i [] f e at = absurd (none-some f at)
each_at p from zero (x ∷ fs) f e at =
    let here : from ≡ from + 0 = omega arith in
    subst (λ n. EachEmpty (function_rows p (n, f))) here
    (subst (λ g. EachEmpty (function_rows p (from, g))) (same_Some x f at)
    (each_left (function_rows p (from, x)) (flat_map (function_rows p) (enumerate_from (from + 1) fs)) e))
each_at p from (suc i) (x ∷ fs) f e at =
    let there : (from + 1) + i ≡ from + suc i = omega arith in
    subst (λ n. EachEmpty (function_rows p (n, f))) there
    (each_at p (from + 1) i fs f
    (each_right (function_rows p (from, x)) (flat_map (function_rows p) (enumerate_from (from + 1) fs)) e) at)

no_rows_before : (p : Program) → List Rules
no_rows_before p =
    unless (has_main p) rule.NO_MAIN ∷ map set_broken p.sets ++
    flat_map (λ q. type_rows p q.0 q.1) (enumerate_from 0 p.types)

module _ (p : Program) (kinded : IsKinded p) where
  all_empty : EachEmpty (rows_broken p)
  all_empty = each_of_first 0 (rows_broken p) kinded

  main_there : has_main p ≡ true
  main_there = unless_holds (has_main p) rule.NO_MAIN all_empty.0

  main_row : (f : Func) → slice_get p.fns p.main ≡ Some f → head_broken p (0 + p.main) f ≡ []
  unfolding no_rows_before
  main_row f at =
      left_empty (head_broken p (0 + p.main) f) (end_broken p f)
      (each_at p 0 p.main p.fns f
      (each_right (no_rows_before p) (flat_map (function_rows p) (enumerate_from 0 p.fns)) all_empty) at).0

  main_body : (f : Func) → slice_get p.fns p.main ≡ Some f → f.external ≡ false
  main_body f at = not_so f.external (rw at at main_there)
    where
      not_so : (b : Bool) → not b ≡ true → b ≡ false
      not_so true e = cc
      not_so false e = refl

  main_head : (f : Func) → slice_get p.fns p.main ≡ Some f → is_main_head f ≡ true
  main_head f at =
      let before = left_empty _ (unless (nat_le (length (filter is_bound_entry f.clause)) 1) rule.SECOND_BOUND) (main_row f at) in
      let last = right_empty _ (if (0 + p.main) == p.main then unless (is_main_head f) rule.MAIN_HEAD else []) before in
      let here : ((0 + p.main) == p.main) ≡ true = eq-eqb (0 + p.main) p.main (omega arith) in
      unless_holds (is_main_head f) rule.MAIN_HEAD
      (subst (λ b. (if b then unless (is_main_head f) rule.MAIN_HEAD else []) ≡ []) here last)

  new_not_before : (e : Entry) → is_new e ≡ true → is_held_before e ≡ false
  new_not_before e t = by e.mode t
    where
      by : (m : Mode) → is_fresh m ≡ true → is_before m ≡ false
      by kept t = cc
      by (up_to u) t = cc
      by taken t = cc
      by given t = cc
      by fresh t = refl

  -- what main's result and clause are
  pub record HasMainHead (o : Option Ty) (es : List Entry) : Type 0 where
    pub before : (e : Entry) → Among e es → is_held_before e ≡ false
    pub result : (o ≡ None) ⊎ ((k : ℕ) × (t : ℕ) × (args : List ℕ) × (o ≡ Some (tracked k t args)))

  second : (a b : Bool) → (a && b) ≡ true → b ≡ true
  second true b e = e
  second false b e = cc

  head_parts : (f : Func) → is_main_head f ≡ true → (o : Option Ty) → f.result ≡ o → (es : List Entry) → f.clause ≡ es →
      HasMainHead o es
  head_parts f h None r [] q = record { before = λ e i. absurd i; result = inl refl }
  head_parts f h None r (x ∷ es) q = let b = second (f.params == 0) _ (rw (r, q) at h) in cc
  head_parts f h (Some (tracked k t args)) r (x ∷ []) q =
      let b : is_new x ≡ true = second (f.params == 0) _ (rw (r, q) at h) in
      record {
        before = λ e i. ⊎_elim (λ same. ap is_held_before same ∙ new_not_before x b) (λ none. absurd none) i;
        result = inr (k, t, args, refl);
      }
  head_parts f h (Some (tracked k t args)) r [] q = let b = second (f.params == 0) _ (rw (r, q) at h) in cc
  head_parts f h (Some (tracked k t args)) r (x ∷ y ∷ es) q = let b = second (f.params == 0) _ (rw (r, q) at h) in cc
  head_parts f h (Some int) r es q = let b = second (f.params == 0) _ (rw r at h) in cc
  head_parts f h (Some bool) r es q = let b = second (f.params == 0) _ (rw r at h) in cc
  head_parts f h (Some (owning S t args)) r es q = let b = second (f.params == 0) _ (rw r at h) in cc
  head_parts f h (Some (guarded k t args)) r es q = let b = second (f.params == 0) _ (rw r at h) in cc
  head_parts f h (Some (variant t args)) r es q = let b = second (f.params == 0) _ (rw r at h) in cc
  head_parts f h (Some (owning_variant t args)) r es q = let b = second (f.params == 0) _ (rw r at h) in cc

  first : (a b : Bool) → (a && b) ≡ true → a ≡ true
  first true b e = refl
  first false b e = cc

  pub is_main : (f : Func) → slice_get p.fns p.main ≡ Some f → IsMain f
  is_main f at =
      let q = head_parts f (main_head f at) f.result refl f.clause refl in
      record {
        body = main_body f at;
        params = eqb-true f.params 0 (first (f.params == 0) _ (main_head f at));
        before = q.before;
        result = q.result;
      }

-- ---- runs

module _ (p : Program) (kinded : IsKinded p) (accepted : IsAccepted p) (sizes : HasSizes p) (filled : HasStates p)
    (narrow : HasNarrowHeads p) (heap depth fuel : ℕ) (w : World)
    (empty : w.objects ≡ []) where
  abbrev setup : Setup
  setup = record { program = p; heap = heap; depth = depth }

  main_safe : (f : Func) → slice_get p.fns p.main ≡ Some f →
      Safe (returns_to p f (main_context f)) (main_run setup fuel (Some f) w)
  main_safe f at =
      let m = is_main p kinded f at in
      (level p heap depth kinded accepted sizes filled narrow (suc fuel)).callees.each p.main f None at m.body
      (subst (λ q. IsOriginOf p f q None) (sym (none_bound f.clause m.before)) tt) (main_context f) (first_frame 1) w
      (main_entered p f m) (main_scoped p f m)
      (subst (λ os. Agrees p f (main_context f) (start_map p f) (first_ids p f) [] (first_frame 1) os) (sym empty) (main_agrees p f m))

  no_fault : (f : Func) (step : Step) → Safe (returns_to p f (main_context f)) step → is_fault (ran_of step).outcome ≡ false
  no_fault f (goes fr u) safe = absurd safe
  no_fault f (jumps b fr u) safe = absurd safe
  no_fault f (leaves a ns u) safe = refl
  no_fault f (ends o u) safe = safe

  pub never : is_fault (ran_of (if depth == 0 then ends depth_end w else main_run setup fuel (slice_get p.fns p.main) w)).outcome ≡ false
  never = by (depth == 0)
    where
      run_safe : (o : Option Func) → slice_get p.fns p.main ≡ o → is_fault (ran_of (main_run setup fuel o w)).outcome ≡ false
      run_safe None at = let there = main_there p kinded in absurd (no_main (rw at at there))
        where
          no_main : false ≡ true → ⊥
          no_main e = cc
      run_safe (Some f) at = no_fault f (main_run setup fuel (Some f) w) (main_safe f at)

      by : (b : Bool) → is_fault (ran_of (if b then ends depth_end w else main_run setup fuel (slice_get p.fns p.main) w)).outcome ≡ false
      by true = refl
      by false = run_safe (slice_get p.fns p.main) refl

  pub leaves_clean : (a : Option Value) (ns : List ℕ) (u : World) →
      main_run setup fuel (slice_get p.fns p.main) w ≡ leaves a ns u → IsClean (ran world.done ns u)
  leaves_clean a ns u e = by (slice_get p.fns p.main) refl e
    where
      by : (o : Option Func) → slice_get p.fns p.main ≡ o → main_run setup fuel o w ≡ leaves a ns u → IsClean (ran world.done ns u)
      by None at e = let there = main_there p kinded in absurd (no_main (rw at at there))
        where
          no_main : false ≡ true → ⊥
          no_main e = cc
      by (Some f) at e =
          clean (is_main p kinded f at) (subst (Safe (returns_to p f (main_context f))) e (main_safe f at))

pub promises : (p : Program) → IsKinded p → IsAccepted p → HasSizes p → HasStates p → HasNarrowHeads p →
    NeverGoesWrong p × LeavesOnlyItsClause p
promises p kinded accepted sizes filled narrow = (
  λ fuel heap depth zs answers.
      never p kinded accepted sizes filled narrow heap depth fuel (start fuel zs answers) refl,
  done_is_clean p (λ fuel heap depth zs answers a ns w e.
      leaves_clean p kinded accepted sizes filled narrow heap depth fuel (start fuel zs answers) refl a ns w e),
)
