-- A switch: the arm of the case, whose variables get the payload.
use Rattle.std.proofs.Common.{◌≡◌, ◌≤◌, ◌+◌, ◌==◌, ℕ, ℤ, pos, suc, Bool, true, false, if◌then◌else◌, List, map, length, Option, Some, None, Ok, Err, refl, sym, ap, ◌∙◌, subst, arith, option_map}
use Rattle.std.specs.Borrow.{Bor}
use Rattle.std.proofs.lemmas.Bool.{false≢true}
use Rattle.std.proofs.lemmas.Option.{none-some, same_Some}
use Rattle.std.proofs.lemmas.List.{length-append, length-map}
use Rattle.vlt_core.specs.Core.{Arms, no_arms, arm, switch, Func, Program}
use Rattle.vlt_core.specs.Lookups.{VariantOf, variant_of, is_owning_var, case_keys}
use Rattle.vlt_base.specs.declared.ids.VarId.{VarId}
use Rattle.vlt_core.specs.declared.program.Arm.{Arm, out-Arm}
use Rattle.vlt_core.specs.View.{ArmView, func_of, program_of, arm_of, arms_of, block_of, vars_of}
use Rattle.vlt_core.proofs.Views.{arm_parts}
use Rattle.vlt_meaning.specs.World.{Value, one, owned, of_case, World, Frame, missing, fault}
use Rattle.vlt_meaning.specs.Found.{Found, or_fault}
use Rattle.vlt_meaning.specs.Operands.{Case, case_in, with_empty_variable}
use Rattle.vlt_meaning.specs.Step.{goes, ends, with_var}
use Rattle.vlt_meaning.specs.Run.{Setup}
use Rattle.vlt_meaning_laws.specs.Machine.Got.{Got, got, stopped, then_got, opened_got, filled_got}
use Rattle.vlt_meaning_laws.specs.Machine.Machine as m
use Rattle.vlt_meaning_laws.specs.Machine.Machine.{Conf, at, act, enter_block, enter_arm, when_found, when_got}
use Rattle.vlt_acts.specs.Values.Parts.{flat}
use Rattle.vlt_acts.proofs.OfValues.Touching.{OrFault, some_fault}
use Rattle.vlt_acts.specs.Acts.Acts.{Shows}
use Rattle.vlt_acts.specs.Objects.Cases.{TellsCase, IsOpened, OpensArm}
use Rattle.vlt_acts.proofs.OfObjects.Arms.{open_shows, OpenShows}
use Rattle.vlt_acts.specs.Hosts.Hosts.{ShowsHost}
use Rattle.vlt_steps.specs.Writing.{Outside}
use Rattle.vlt_interp.specs.declared.tasks.task.Rules.{Rules}
use Rattle.vlt_interp.specs.declared.tasks.task.Run.{Run}
use Rattle.vlt_interp.specs.Tasks.Own.{AreVars, AreOwnArms}
use Rattle.vlt_interp.specs.Tasks.Shown.{tasks_left, ShowsConf}
use Rattle.vlt_interp.specs.Tasks.Moves.{CanDo, IsRight}
use Rattle.vlt_interp.proofs.OfTasks.Staying.{IsGoing, going, seen_in, IsSameRun, stays_left}
use Rattle.vlt_interp.proofs.OfTasks.Coming.{Came, wrong_came, missing_came, found_came, came_since}
use Rattle.vlt_interp.specs.Statements.Arms.{arm_for}
use Rattle.vlt_interp.proofs.OfStatements.Asking.{can_seen}
use Rattle.vlt_interp.proofs.OfTasks.Inside.{IsSameOutside, outside_same}
use Rattle.vlt_interp.proofs.OfStatements.Finding.{when_right, got_right, StopsWrong, Fills, IsFilling, filling, filling_wrong, IsOutside, opened_outside}

-- ---- the arm of a case

abbrev arm_conf : Func → Case → List m.Task → Frame → World → ArmView → Conf
arm_conf f c ts frame w x = when_got (filled_got f x.1 (map one c.parts) frame w) f ts (λ u frame same. enter_block f x.2 ts frame w)

pub arm_entered : (f : Func) (c : Case) (arms : Arms) (x : ArmView) (ts : List m.Task) (frame : Frame) (w : World) → arm_for c.number arms ≡ Some x → enter_arm f c arms ts frame w ≡ arm_conf f c ts frame w x
arm_entered f c no_arms x ts frame w e = absurd (none-some x e)
arm_entered f c (arm n vs body rest) x ts frame w e = by (c.number == n) e (λ k. arm_entered f c rest x ts frame w k)
  where
    by : (t : Bool) → (if t then Some (n, vs, body) else arm_for c.number rest) ≡ Some x → (arm_for c.number rest ≡ Some x → enter_arm f c rest ts frame w ≡ arm_conf f c ts frame w x)
        → (if t then arm_conf f c ts frame w (n, vs, body) else enter_arm f c rest ts frame w) ≡ arm_conf f c ts frame w x
    by true e h = ap (arm_conf f c ts frame w) (same_Some _ x e)
    by false e h = h e

pub arm_lacking : (f : Func) (c : Case) (arms : Arms) (ts : List m.Task) (frame : Frame) (w : World) → arm_for c.number arms ≡ None → enter_arm f c arms ts frame w ≡ at f ts (ends (fault missing None) w)
arm_lacking f c no_arms ts frame w e = refl
arm_lacking f c (arm n vs body rest) ts frame w e = by (c.number == n) e (λ k. arm_lacking f c rest ts frame w k)
  where
    by : (t : Bool) → (if t then Some (n, vs, body) else arm_for c.number rest) ≡ None → (arm_for c.number rest ≡ None → enter_arm f c rest ts frame w ≡ at f ts (ends (fault missing None) w))
        → (if t then arm_conf f c ts frame w (n, vs, body) else enter_arm f c rest ts frame w) ≡ at f ts (ends (fault missing None) w)
    by true e h = absurd (none-some _ (sym e))
    by false e h = h e

arm_own : (p : Program) (f : Func) (n : ℕ) (arms : Arms) (x : ArmView) → AreOwnArms p f arms → arm_for n arms ≡ Some x → AreVars f x.1
arm_own p f n no_arms x own e = absurd (none-some x e)
arm_own p f n (arm k vs body rest) x own e = by (n == k) e (λ h. arm_own p f n rest x own.2 h)
  where
    by : (t : Bool) → (if t then Some (k, vs, body) else arm_for n rest) ≡ Some x → (arm_for n rest ≡ Some x → AreVars f x.1) → AreVars f x.1
    by true e h = subst (λ y. AreVars f y.1) (same_Some _ x e) own.0
    by false e h = h e

-- the arm that the code found, and its variables
pub arm_has : (arms : List Arm) (n : ℕ) (found : Option (Bor Arm)) (a : Bor Arm) → found ≡ Some a → option_map (λ a. arm_of a.now) found ≡ arm_for n (arms_of arms) → arm_for n (arms_of arms) ≡ Some (arm_of a.now)
arm_has arms n found a is e = sym e ∙ ap (option_map (λ a. arm_of a.now)) is

pub arm_lacks : (arms : List Arm) (n : ℕ) (found : Option (Bor Arm)) → found ≡ None → option_map (λ a. arm_of a.now) found ≡ arm_for n (arms_of arms) → arm_for n (arms_of arms) ≡ None
arm_lacks arms n found is e = sym e ∙ ap (option_map (λ a. arm_of a.now)) is

pub arm_vars_are : (a : Arm) (vs : List VarId) → vs ≡ (out-Arm a).vars → vars_of vs ≡ (arm_of a).1
arm_vars_are a vs e = ap vars_of e ∙ sym (ap (λ x. x.1) (arm_parts a))

pub arm_block_is : (a : Arm) → block_of (out-Arm a).body ≡ (arm_of a).2
arm_block_is a = sym (ap (λ x. x.2) (arm_parts a))

-- ---- the case of a value

case_fault : (x : Option Value) → OrFault (case_in x)
case_fault (Some (of_case c parts keys)) = tt
case_fault (Some (one a)) = refl
case_fault None = refl

case_value : (x : Option Value) (c : Case) → case_in x ≡ Ok c → x ≡ Some (of_case c.number c.parts c.keys)
case_value (Some (of_case n parts keys)) c e = ap (λ k. Some (of_case k.number k.parts k.keys)) (ap (case_or c) e)
  where
    case_or : Case → Found Case → Case
    case_or d (Ok k) = k
    case_or d (Err o) = d
case_value (Some (one a)) c e = absurd (subst is_err e tt)
  where
    is_err : Found Case → Type 0
    is_err (Ok k) = ⊥
    is_err (Err o) = Unit {0}
case_value None c e = absurd (subst is_err e tt)
  where
    is_err : Found Case → Type 0
    is_err (Ok k) = ⊥
    is_err (Err o) = Unit {0}

emptied_depth : (f : Func) (v : ℕ) (frame : Frame) → (with_empty_variable f v frame).depth ≡ frame.depth
emptied_depth f v frame = by (is_owning_var f v)
  where
    by : (t : Bool) → (if t then with_var v None frame else frame).depth ≡ frame.depth
    by true = refl
    by false = refl

-- ---- a switch that doesn't go wrong

pub record FindsArm (r : Run) (arms : Arms) (v : ℕ) (frame : Frame) : Type 0 where
  pub case : Case
  pub is : case_in (frame.vars v) ≡ Ok case
  pub view : ArmView
  pub has : arm_for case.number arms ≡ Some view
  pub count : length view.1 ≡ length case.parts

opened_wrong : (items : _) (width : ℕ) (frame : Frame) (x : Got (Unit {0})) → OpenShows items width frame x → StopsWrong x
opened_wrong items width frame (got u g w) h = tt
opened_wrong items width frame (stopped o w) h = h

module _ (v : ℕ) (arms : Arms) (rules : Rules) (r : Run) (can : CanDo (switch v arms 0) rules r) where
  abbrev f : Func
  f = can.right.func

  abbrev w : World
  w = can.right.world

  abbrev frame : Frame
  frame = can.right.frame

  -- the arm is there, and has as many variables as the case has parts
  there : (c : Case) → case_in (frame.vars v) ≡ Ok c → (after : World) → IsRight (enter_arm f c arms can.right.tasks (with_empty_variable f v frame) after).step → FindsArm r arms v frame
  there c is after right = by (arm_for c.number arms) refl
    where
      by : (x : Option ArmView) → arm_for c.number arms ≡ x → FindsArm r arms v frame
      by None e = absurd (false≢true (sym (right (fault missing None) after (ap (λ k. k.step) (arm_lacking f c arms can.right.tasks (with_empty_variable f v frame) after e)))))
      by (Some x) e =
          let k = filling f x.1 (map one c.parts) (with_empty_variable f v frame) after in
          let g = got_right (filled_got f x.1 (map one c.parts) (with_empty_variable f v frame) after) f can.right.tasks (λ u frame same. enter_block f x.2 can.right.tasks frame after)
          (filling_wrong _ _ (with_empty_variable f v frame) after (filled_got f x.1 (map one c.parts) (with_empty_variable f v frame) after) k)
          (subst (λ q. IsRight q.step) (arm_entered f c arms x can.right.tasks (with_empty_variable f v frame) after e) right) in
          let h : Fills (length x.1) (length (map one c.parts)) (with_empty_variable f v frame) g.frame after g.world = subst (IsFilling (length x.1) (length (map one c.parts)) (with_empty_variable f v frame) after) g.is k in
          record { case = c; is = is; view = x; has = e; count = h.count ∙ length-map c.parts one }

  pub finds_arm : FindsArm r arms v frame
  finds_arm =
      let t = when_right (or_fault missing (variant_of f v)) f can.right.tasks w _ (some_fault missing (variant_of f v)) can.right.right in
      let c = when_right (case_in (frame.vars v)) f can.right.tasks w _ (case_fault (frame.vars v)) t.right in
      let s = can_seen (switch v arms 0) rules r can in
      let ks = case_keys (program_of rules.program.now) t.value c.value.number in
      let o = got_right (opened_got ks c.value.keys frame w) f can.right.tasks _ (opened_wrong s.items r.values.width frame (opened_got ks c.value.keys frame w) (open_shows s.items r.values.width ks c.value.keys frame w s.shown)) c.right in
      there c.value c.is o.world o.right

  -- its case, with the parts and the number in front, fits the width
  pub arm_wide : 1 + length finds_arm.view.1 ≤ r.values.width
  arm_wide =
      let a = finds_arm in
      let s = can_seen (switch v arms 0) rules r can in
      let n = (s.fits.vars v _ (case_value (frame.vars v) a.case a.is)).value.narrow in
      let k : length (flat (of_case a.case.number a.case.parts a.case.keys)) ≡ suc (length a.case.parts + length (map owned a.case.keys)) = ap suc (length-append a.case.parts _) in
      let e = a.count in
      omega (arith, n, k, e)

  pub arm_vars : AreVars (func_of r.func.now) finds_arm.view.1
  arm_vars = arm_own (program_of rules.program.now) (func_of r.func.now) finds_arm.case.number arms finds_arm.view can.own.1 finds_arm.has

  pub arm_number : (z : ℤ) → TellsCase v r.values z → z ≡ pos finds_arm.case.number
  arm_number z h = h r.heap (can_seen (switch v arms 0) rules r can) finds_arm.case finds_arm.is

  -- the arm that the code found
  module _ (z : ℤ) (view : ArmView) (tells : TellsCase v r.values z) (found : (n : ℕ) → z ≡ pos n → arm_for n arms ≡ Some view) where
    view_is : finds_arm.view ≡ view
    view_is = same_Some finds_arm.view view (sym finds_arm.has ∙ found finds_arm.case.number (arm_number z tells))

    pub wide_at : (n : ℕ) → n ≡ length view.1 → 1 + n ≤ r.values.width
    wide_at n e = let l = arm_wide in let k : length finds_arm.view.1 ≡ length view.1 = ap (λ x. length x.1) view_is in omega (arith, l, k, e)

    pub vars_at : AreVars (func_of r.func.now) view.1
    vars_at = subst (λ x. AreVars (func_of r.func.now) x.1) view_is arm_vars

  pub always_found : (z : ℤ) → TellsCase v r.values z → ((n : ℕ) → z ≡ pos n → arm_for n arms ≡ None) → ⊥
  always_found z tells none = none-some finds_arm.view (sym (none finds_arm.case.number (arm_number z tells)) ∙ finds_arm.has)

-- ---- where it comes to

module _ (s : Setup) (v : ℕ) (arms : Arms) (end : ℕ) (old mid new : Run) (z : ℤ) (view : ArmView) (tells : TellsCase v old.values z) (found : (n : ℕ) → z ≡ pos n → arm_for n arms ≡ Some view) (same : IsSameRun old mid) (heap : mid.heap ≡ old.heap) (host : mid.host ≡ old.host) (fuel : mid.fuel ≡ old.fuel)
    (opens : OpensArm v view.1 old.heap old.values mid.values) (b : Outside) (enters : (f : Func) (ts : List m.Task) (frame : Frame) (w : World) → ShowsConf mid (at f ts (goes frame w)) → Came w b b None new (enter_block f view.2 ts frame w)) where
  module _ (f : Func) (ts : List m.Task) (frame : Frame) (w : World) (q : ShowsConf old (at f ts (goes frame w))) where
    abbrev g : IsGoing q.items old f old.at frame w
    g = going q.items old f old.at frame w q.step

    -- the arm's variables are filled
    filled_came : (c : Case) (u : World) → IsSameOutside w u → (x : Got (Unit {0})) → IsFilling (length view.1) (length (map one c.parts)) (with_empty_variable f v frame) u x → IsOpened q.items mid.heap mid.values x
        → Came w b b None new (when_got x f ts (λ k after same. enter_block f view.2 ts after u))
    unfolding when_got
    filled_came c u out (got k after y) h shows = came_since w u b b new out.events None _ _ (enters f ts after u (stays_left old mid f ts frame w after u same q (record {
      tables = subst (λ j. Shows q.items mid.heap mid.values after j.objects) h.world shows;
      depth = h.depth ∙ emptied_depth f v frame;
      hosts = subst (λ k. ShowsHost k u) (sym host) (record { input = out.input ∙ g.runs.hosts.input; answers = out.answers ∙ g.runs.hosts.answers; taken = out.taken ∙ g.runs.hosts.taken });
      fuel = out.fuel ∙ g.runs.fuel ∙ sym fuel;
    })))
    filled_came c u out (stopped o y) h shows = wrong_came w b b None new (at f ts (ends o y)) o y h

    -- the objects of the case came back
    opened_came : (c : Case) → case_in (frame.vars v) ≡ Ok c → (x : Got (Unit {0})) → OpenShows q.items old.values.width frame x → IsOutside w x
        → IsOpened q.items mid.heap mid.values (then_got x (λ u same w. filled_got f view.1 (map one c.parts) (with_empty_variable f v frame) w))
        → Came w b b None new (when_got x f ts (λ u same w. enter_arm f c arms ts (with_empty_variable f v frame) w))
    unfolding when_got then_got
    opened_came c is (got k h u) shown out shows = subst (λ y. Came w b b None new y) (sym (arm_entered f c arms view ts (with_empty_variable f v frame) u (found c.number (tells old.heap (seen_in s.program old (tasks_left old) f ts frame w q) c is))))
        (filled_came c u out (filled_got f view.1 (map one c.parts) (with_empty_variable f v frame) u) (filling f view.1 (map one c.parts) (with_empty_variable f v frame) u) shows)
    opened_came c is (stopped o u) shown out shows = wrong_came w b b None new (at f ts (ends o u)) o u shown

    pub switch_came : Came w b b None new (act s f (switch v arms end) ts frame w)
    switch_came = by_variant (variant_of f v)
      where
        opened_shows : (t : VariantOf) (c : Case) → case_in (frame.vars v) ≡ Ok c → IsOpened q.items mid.heap mid.values (then_got (opened_got (case_keys s.program t c.number) c.keys frame w) (λ u same w. filled_got f view.1 (map one c.parts) (with_empty_variable f v frame) w))
        opened_shows t c is = subst (λ h. IsOpened q.items h mid.values (then_got (opened_got (case_keys s.program t c.number) c.keys frame w) (λ u same w. filled_got f view.1 (map one c.parts) (with_empty_variable f v frame) w))) (sym heap)
            (opens (seen_in s.program old (tasks_left old) f ts frame w q) w c (case_keys s.program t c.number) refl is)

        by_case : (t : VariantOf) (x : Found Case) → case_in (frame.vars v) ≡ x → OrFault x → Came w b b None new (when_found x f ts w (λ c. when_got (opened_got (case_keys s.program t c.number) c.keys frame w) f ts (λ u same w. enter_arm f c arms ts (with_empty_variable f v frame) w)))
        by_case t (Ok c) e bad = found_came w b new f ts None (Ok c) c _ refl
            (opened_came c e (opened_got (case_keys s.program t c.number) c.keys frame w) (open_shows q.items old.values.width (case_keys s.program t c.number) c.keys frame w g.runs.objects) (opened_outside w (case_keys s.program t c.number) c.keys frame w (outside_same w)) (opened_shows t c e))
        by_case t (Err o) e bad = missing_came w b new f ts None (Err o) _ (record { outcome = o; is = refl; fault = bad })

        by_variant : (x : Option VariantOf) → Came w b b None new (when_found (or_fault missing x) f ts w (λ t. when_found (case_in (frame.vars v)) f ts w (λ c. when_got (opened_got (case_keys s.program t c.number) c.keys frame w) f ts (λ u same w. enter_arm f c arms ts (with_empty_variable f v frame) w))))
        by_variant None = missing_came w b new f ts None (or_fault missing None) _ (record { outcome = fault missing None; is = refl; fault = refl })
        by_variant (Some t) = found_came w b new f ts None (or_fault missing (Some t)) t _ refl (by_case t (case_in (frame.vars v)) refl (case_fault (frame.vars v)))
