-- Calls keep that what comes next is known.
use Rattle.std.proofs.Common.{◌≡◌, ℕ, zero, suc, ◌==◌, ◌-◌, nat_lt, Bool, true, false, if◌then◌else◌, List, [], ◌∷◌, ◌++◌, length, Option, Some, None, Ok, Err, refl, sym, ap, ◌∙◌, subst, slice_get}
use Rattle.std.proofs.lemmas.Option.{same_Some, none-some}
use Rattle.vlt_core.specs.Core.{Ty, call, next, Form, Stmts, Operand, Func, Program}
use Rattle.vlt_core.specs.Kinded.{IsKinded}
use Rattle.vlt_core.specs.Derives.{start_map, IsAcceptedFunc, IsAccepted}
use Rattle.vlt_core.specs.Instances.{instance, IsInstanceOf}
use Rattle.vlt_core.specs.Maps.{HeldMap, IsBelow, Row, CanPass, map_after}
use Rattle.vlt_core.proofs.Maps.{map_trans, can_below, passed_below}
use Rattle.vlt_core_laws.proofs.Instanced.{body_rows_same}
use Rattle.vlt_sound_calls.specs.ReturnHeads.{HasHostHead, HasHosts}
use Rattle.vlt_sound_calls.proofs.Narrowing.{narrowed}
use Rattle.vlt_sound_calls.proofs.Instanced.{typed_instance, head_instance, meet_instance, callee_same, with_target_same, host_instance}
use Rattle.vlt_core.specs.Rows.{on_option, operands_rows, clause_rows, called_rows, target_rows}
use Rattle.vlt_core.specs.KindedBodies.{first_ids, stmts_rows, body_rows, ids_following_stmts}
use Rattle.vlt_core.specs.KindedCalls.{call_broken, call_target_broken, with_call_target}
use Rattle.vlt_meaning.specs.World.{Value, World, Frame, depth_end, fuel_end, missing}
use Rattle.vlt_meaning.specs.Found.{Found, or_fault}
use Rattle.vlt_meaning.specs.Step.{Step, goes, jumps, leaves, ends, with_objects}
use Rattle.vlt_meaning.specs.Calls.{called_instance, passed_objects, handed_over, callee_frame, back_in}
use Rattle.vlt_meaning.specs.Run.{Setup}
use Rattle.vlt_meaning_laws.specs.Machine.Got.{Got, got, stopped, then_step, operands_got}
use Rattle.vlt_meaning_laws.specs.Machine.Machine.{Task, Caller, list, back, Conf, at, when_found, when_got, when_so, spending, enter_body, enter_by, enter}
use Rattle.vlt_meaning_laws.proofs.OfMachine.Gots.{operands_step}
use Rattle.vlt_sound_worlds.specs.Agrees.{Agrees}
use Rattle.vlt_sound_worlds.specs.Typed.{IsTyped}
use Rattle.vlt_sound_worlds.specs.Safe.{Goal, Safe, goes_to}
use Rattle.vlt_sound_worlds.proofs.Rows.{pass_split, passed_split}
use Rattle.vlt_sound_worlds.proofs.Blocks.{agrees_below}
use Rattle.vlt_sound_worlds.specs.Handed.{handed_values}
use Rattle.vlt_sound_worlds.proofs.OperandsLaws.{operands_safe}
use Rattle.vlt_sound_calls.specs.Callee.{IsCall, callee_context}
use Rattle.vlt_sound_calls.proofs.EnteringLaws.{argument_types, callee_agrees, callee_entered, callee_scoped}
use Rattle.vlt_sound_calls.specs.Heads.{HasHead}
use Rattle.vlt_sound_calls.specs.Fresh.{IsFreshCall}
use Rattle.vlt_sound_calls.specs.Meet.{HasFunctions}
use Rattle.vlt_sound_calls.specs.Externals.{ExternalsAreSafe}
use Rattle.vlt_sound_calls.proofs.Delivering.{left_safe}
use Rattle.vlt_sound_calls.proofs.Statics.{args_long, args_fit, target_fit, is_call, is_fresh_too}
use Rattle.vlt_sound_statements.specs.Kinded.{BreakNone}
use Rattle.vlt_sound_statements.specs.Sites.{Site, comes_to}
use Rattle.vlt_sound_statements.proofs.Control.{weaker}
use Rattle.vlt_sound.proofs.Facts.{body_kinded}
use Rattle.vlt_run_laws.proofs.Instanced.{typed_of}
use Rattle.vlt_run_laws.specs.Known.{IsKnown}
use Rattle.vlt_run_laws.proofs.ReachedNaming.{callee_head}
use Rattle.vlt_run_laws.proofs.Moves.{Good, Follows, GoodForm, AllLists, lists_now, fewer}
use Rattle.vlt_run_laws.proofs.Ending.{ended_good}

-- ---- parts of a move

module _ (r : Setup) (n : ℕ) where
  pub any_found : {A : Type 0} (x : Found A) (f : Func) (ts : List Task) (w : World) (conf : A → Conf) →
      ((a : A) → x ≡ Ok a → Good r n (conf a)) → Good r n (when_found x f ts w conf)
  unfolding when_found
  any_found (Ok a) f ts w conf good = good a refl
  any_found (Err o) f ts w conf good = ended_good r o w n f ts

  pub any_so : (b : Bool) (f : Func) (ts : List Task) (w : World) (c : Conf) → Good r n c → Good r n (when_so b missing f ts w c)
  unfolding when_so
  any_so true f ts w c good = good
  any_so false f ts w c good = ended_good r _ w n f ts

  pub any_spend : (f : Func) (ts : List Task) (w : World) (conf : World → Conf) →
      Good r n (conf (record w { fuel = w.fuel - 1 })) → Good r n (spending f ts w conf)
  unfolding spending
  any_spend f ts w conf good = by (w.fuel == 0)
    where
      by : (b : Bool) → Good r n (if b then at f ts (ends fuel_end w) else conf (record w { fuel = w.fuel - 1 }))
      by true = ended_good r fuel_end w n f ts
      by false = good

-- ---- operands: what is handed on, in one frame

abbrev before : Option Value → (ℕ → Option Value) → ℕ → Option Value
before a vars zero = a
before a vars (suc v) = vars v

abbrev with_first : Option Value → Frame → Frame
with_first a frame = record { depth = frame.depth; vars = before a frame.vars; keys = frame.keys }

abbrev without_first : Frame → Frame
without_first frame = record { depth = frame.depth; vars = λ v. frame.vars (suc v); keys = frame.keys }

abbrev with_all : List Value → Frame → Frame
with_all [] frame = with_first None frame
with_all (a ∷ rest) frame = with_first (Some a) (with_all rest frame)

all_same : (us bs : List Value) (x y : Frame) → with_all us x ≡ with_all bs y → (us ≡ bs) × (x ≡ y)
all_same [] [] x y e = (refl, ap without_first e)
all_same [] (b ∷ bs) x y e = absurd (none-some b (ap (λ fr. fr.vars 0) e))
all_same (a ∷ us) [] x y e = absurd (none-some a (sym (ap (λ fr. fr.vars 0) e)))
all_same (a ∷ us) (b ∷ bs) x y e =
    let rest = all_same us bs x y (ap without_first e) in
    (ap (λ c. c ∷ us) (same_Some a b (ap (λ fr. fr.vars 0) e)) ∙ ap (λ cs. b ∷ cs) rest.0, rest.1)

record Told (P : List Value → Frame → World → Type 0) (one : Frame) (w : World) : Type 0 where
  values : List Value
  frame : Frame
  same : one ≡ with_all values frame
  holds : P values frame w

abbrev telling : (List Value → Frame → World → Type 0) → Goal
telling P = record {
  goes = λ frame w. Told P frame w;
  jumps = λ continues frame w. ⊥;
  leaves = λ a kept w. ⊥;
}

got_good : (r : Setup) (n : ℕ) (P : List Value → Frame → World → Type 0) (x : Got (List Value)) (f : Func) (ts : List Task)
    (conf : List Value → Frame → World → Conf) → Safe (telling P) (then_step x (λ values frame w. goes (with_all values frame) w)) →
    ((values : List Value) (frame : Frame) (w : World) → P values frame w → Good r n (conf values frame w)) →
    Good r n (when_got x f ts conf)
unfolding when_got then_step
got_good r n P (got values frame w) f ts conf safe good =
    let q = all_same values safe.values frame safe.frame safe.same in
    good values frame w
    (subst (λ vs. P vs frame w) (sym q.0) (subst (λ fr. P safe.values fr w) (sym q.1) safe.holds))
got_good r n P (stopped o w) f ts conf safe good = ended_good r o w n f ts

-- ---- calls

module _ (r : Setup) (kinded : IsKinded r.program) (accepted : IsAccepted r.program) (functions : HasFunctions r.program)
    (hosts : HasHosts r.program) (externals : ExternalsAreSafe r) (n : ℕ) (all : AllLists r n) where
  -- where a callee has left
  back_good : (m : ℕ) (p : Program) (f g : Func) (frame : Frame) (target : Option ℕ) (keys : List ℕ) (ts : List Task) (a : Step) →
      ((v : Option Value) (kept : List ℕ) (w : World) → a ≡ leaves v kept w → Good r m (at f ts (back_in f target keys g frame a))) →
      Good r m (at g (back (record { func = f; frame = frame; target = target; keys = keys }) ∷ ts) a)
  unfolding back_in
  back_good zero p f g frame target keys ts a good = tt
  back_good (suc m) p f g frame target keys ts a good =
      (λ form fr w e. absurd (clash e.are), by a good)
    where
      k : Caller
      k = record { func = f; frame = frame; target = target; keys = keys }

      clash : {place : ℕ} {form : Form} {rest : Stmts} {us : List Task} → back k ∷ ts ≡ list (next place form rest) ∷ us → ⊥
      clash e = cc

      by : (a : Step) → ((v : Option Value) (kept : List ℕ) (w : World) → a ≡ leaves v kept w → Good r (suc m) (at f ts (back_in f target keys g frame a))) →
          Good r m (at f ts (back_in f target keys g frame a))
      by (goes fr w) good = ended_good r _ w m f ts
      by (jumps b fr w) good = ended_good r _ w m f ts
      by (ends o w) good = ended_good r o w m f ts
      by (leaves v kept w) good = fewer r m _ (good v kept w refl)

  func_is : (o : Option Func) (g : Func) → or_fault missing o ≡ Ok g → o ≡ Some g
  func_is None g e = cc
  func_is (Some h) g e = ap Some (same h g e)
    where
      same : (h g : Func) → ◌≡◌ {A = Found Func} (Ok h) (Ok g) → h ≡ g
      same h g e = cc

  module _ (f : Func) (i : ℕ) (target : Option ℕ) (keys : List ℕ) (args : List Operand) {frame : Frame} {w : World}
      (x : IsKnown r.program f (call i target keys args) frame w) (ts : List Task) (g : Func) (known : slice_get r.program.fns i ≡ Some g)
      (follows : Follows r n f ts (comes_to r.program f x.site x.following (with_call_target f (Some g) target x.ids))) where
    abbrev types : List Ty
    types = argument_types g keys

    abbrev operands : List Row
    operands = operands_rows r.program f args

    abbrev clause : List Row
    clause = called_rows r.program f keys g.clause

    unbroken : call_broken r.program f x.ids (Some g) target keys args ≡ []
    unbroken = subst (λ o. call_broken r.program f x.ids o target keys args ≡ []) known x.kinded.row

    leads : CanPass (operands ++ clause ++ target_rows f target) x.map × IsBelow (map_after (operands ++ clause ++ target_rows f target) x.map) x.following
    leads = subst (λ o. CanPass (operands ++ on_option o (λ g. called_rows r.program f keys g.clause) ++ target_rows f target) x.map × IsBelow (map_after (operands ++ on_option o (λ g. called_rows r.program f keys g.clause) ++ target_rows f target) x.map) x.following) known x.leads

    same_map : map_after (operands ++ clause ++ target_rows f target) x.map ≡ map_after (target_rows f target) (map_after clause (map_after operands x.map))
    same_map = passed_split (operands ++ clause) (target_rows f target) x.map ∙ ap (map_after (target_rows f target)) (passed_split operands clause x.map)

    abbrev Handing : List Value → Frame → World → Type 0
    Handing values frame' w' = (length values ≡ length types) × Agrees r.program f x.site.context (map_after operands x.map) x.ids (handed_values types values) frame' w'.objects

    abbrev G : Goal
    G = goes_to r.program f x.site.context (map_after (target_rows f target) (map_after clause (map_after operands x.map))) (with_call_target f (Some g) target x.ids) []

    abbrev C : Goal
    C = comes_to r.program f x.site x.following (with_call_target f (Some g) target x.ids)

    -- the call of a function with a plain clause, whose arguments are handed over
    module _ (h : Func) (K : HeldMap) (values : List Value) (frame' : Frame) (w' : World) (many : length values ≡ length (argument_types h keys))
        (now : Agrees r.program f x.site.context K x.ids (handed_values (argument_types h keys) values) frame' w'.objects)
        (typed : IsTyped r.program f) (typed_callee : IsTyped r.program h) (head : HasHead r.program h) (fits : IsCall r.program f h x.ids keys)
        (new : IsFreshCall f x.site.context h x.ids keys) (broken : call_target_broken f x.ids h keys target ≡ [])
        (pass : CanPass (clause_rows r.program f keys h.clause) K)
        (rows : CanPass (target_rows f target) (map_after (clause_rows r.program f keys h.clause) K))
        (below : IsBelow (map_after (target_rows f target) (map_after (clause_rows r.program f keys h.clause) K)) x.following)
        (same : with_call_target f (Some h) target x.ids ≡ with_call_target f (Some g) target x.ids) where
      abbrev H : Goal
      H = goes_to r.program f x.site.context (map_after (target_rows f target) (map_after (clause_rows r.program f keys h.clause) K)) (with_call_target f (Some h) target x.ids) []

      onward : (a : Step) → Safe H a → Safe C a
      onward a safe =
          weaker H C a (λ fr v now. subst (λ ids. Agrees r.program f x.site.context x.following ids [] fr v.objects) same (agrees_below below now))
          (λ c fr v never. absurd never) (λ v kept u never. absurd never) safe

      -- the site of the callee's body
      abbrev inner : IsAcceptedFunc r.program h → Site
      inner body = record {
        context = callee_context f K x.ids frame' x.site.context h keys;
        around = record { jumps = false; returns = true };
        left = [];
        breaks = body.0;
        turns = body.1;
        outer = first_ids r.program h;
      }

      enters_body : IsInstanceOf r.program i h → h.external ≡ false → IsAcceptedFunc r.program h → BreakNone (body_rows r.program h) →
          Good r n (enter_body r f target keys h values ts frame' w')
      unfolding enter_body
      enters_body of internal body unbroken_rows =
          let site = inner body in
          by (nat_lt frame'.depth r.depth) _
          (any_found r n (passed_objects r.program h keys frame' w'.objects h.clause) f ts w' _ (λ ns is.
          lists_now r n all h h.body (callee_frame h keys values frame') (with_objects w' (handed_over keys frame' h.clause w'.objects))
          (record {
            position = i;
            function = of;
            site = site;
            ids = first_ids r.program h;
            map = start_map r.program h;
            following = body.2.1.0;
            ended = false;
            here = record {
              entered = callee_entered h keys values now many fits typed typed_callee head x.here.entered x.here.scoped pass;
              scoped = callee_scoped h keys values now many fits typed typed_callee head x.here.entered x.here.scoped pass;
              outer = λ v e. e;
            };
            kinded = subst (λ b. BreakNone (if b then [] else stmts_rows r.program h site.around (first_ids r.program h) false h.body)) internal unbroken_rows;
            leads = body.2.1.1;
            agrees = callee_agrees h keys values now many fits typed typed_callee head x.here.entered x.here.scoped pass;
            head = callee_head r.program f now x.here.entered x.here.scoped x.head h keys fits;
          })
          (back (record { func = f; frame = frame'; target = target; keys = keys }) ∷ ts)
          (λ a safe. back_good n r.program f h frame' target keys ts a (λ v kept u left.
          follows _ (onward _
          (subst (λ q. Safe H (back_in f target keys h frame' q)) (sym left)
          (left_safe w' now h keys fits new head typed x.here.entered x.here.scoped pass u
          (subst (Safe (comes_to r.program h site body.2.1.0 (ids_following_stmts r.program h h.body (first_ids r.program h)))) left safe).returned target broken rows)))))))
        where
          by : (b : Bool) (c : Conf) → Good r n c → Good r n (if b then c else at f ts (ends depth_end w'))
          by true c good = good
          by false c good = ended_good r depth_end w' n f ts

      plain_enters : (b : Bool) → (b ≡ true → HasHostHead r.program h) → (b ≡ false → Good r n (enter_body r f target keys h values ts frame' w')) →
          Good r n (enter_by b r f target keys h values ts frame' w')
      unfolding enter_by
      plain_enters true host inside =
          follows _ (onward _ (externals.each f x.site.context K x.ids frame' w' h keys values target (host refl) typed typed_callee head x.here.entered x.here.scoped fits new broken many now pass rows))
      plain_enters false host inside = inside refl

    -- that of the instance for the state that the bound entry's object has
    called_enters : (values : List Value) (frame' : Frame) (w' : World) → length values ≡ length types →
        Agrees r.program f x.site.context (map_after operands x.map) x.ids (handed_values types values) frame' w'.objects →
        CanPass clause (map_after operands x.map) → CanPass (target_rows f target) (map_after clause (map_after operands x.map)) →
        IsBelow (map_after (target_rows f target) (map_after clause (map_after operands x.map))) x.following →
        Good r n (enter_by g.external r f target keys (called_instance r.program g keys frame' w'.objects) values ts frame' w')
    called_enters values frame' w' many now pass rows below =
        let p = r.program in
        let typed = typed_of functions x.position f x.function in
        let scoped = x.here.scoped in
        let head = functions.heads i g known in
        let meet = functions.meet f typed i g known in
        let q = narrowed now g keys (is_call target keys args head typed scoped meet unbroken) (functions.bounds i g known) pass in
        let o = q.origin in
        let head = head_instance p g o head in
        let meet = meet_instance p g f o meet in
        let broken = callee_same p g f x.ids o target keys args ∙ unbroken in
        let less = passed_below (target_rows f target) _ _ q.below in
        let rows = can_below (target_rows f target) _ _ q.below rows in
        let typed_callee = typed_instance p g o (functions.typed i g known) in
        let fits = is_call target keys args head typed scoped meet broken in
        let new = is_fresh_too target keys args head typed scoped meet broken in
        let fit = target_fit target keys args head typed scoped meet broken in
        let lower = map_trans _ _ _ less below in
        let same = with_target_same p g f o target x.ids in
        subst (λ h. Good r n (enter_by g.external r f target keys h values ts frame' w')) (sym q.called)
        (plain_enters (instance p g o) q.map values frame' w' many q.agrees typed typed_callee head fits new fit q.pass rows lower same
        g.external (λ e. host_instance p g o (hosts.heads i g known e))
        (λ e. enters_body (instance p g o) q.map values frame' w' many q.agrees typed typed_callee head fits new fit q.pass rows lower same
        (record { declared = g; origin = o; at = known; is = refl }) e (accepted i g o known e q.allowed)
        (subst BreakNone (sym (body_rows_same p g o)) (body_kinded p i g kinded known))))

    enters : Good r n (enter r f target keys g args ts frame w)
    unfolding enter
    enters =
        let typed = typed_of functions x.position f x.function in
        let head = functions.heads i g known in
        let meet = functions.meet f typed i g known in
        let scoped = x.here.scoped in
        let last = pass_split (operands ++ clause) (target_rows f target) x.map leads.0 in
        let first = pass_split operands clause x.map last.0 in
        let rows = subst (CanPass (target_rows f target)) (passed_split operands clause x.map) last.1 in
        let below = subst (λ m. IsBelow m x.following) same_map leads.1 in
        any_so r n (length args == g.params) f ts w _
        (got_good r n Handing (operands_got r.program f args frame w) f ts _
        (subst (Safe (telling Handing)) (operands_step r.program f args frame w (λ values frame w. goes (with_all values frame) w))
        (operands_safe typed args types x.map [] frame w x.agrees (telling Handing) _
        (args_long target keys args head typed scoped meet unbroken) (args_fit target keys args head typed scoped meet unbroken) first.0
        (λ values frame' w' many next. record { values = values; frame = frame'; same = refl; holds = (many, next) })))
        (λ values frame' w' ready. any_spend r n f ts w' _
        (called_enters values frame' (record w' { fuel = w'.fuel - 1 }) ready.0 ready.1 first.1 rows below)))

  pub call_good : (f : Func) (i : ℕ) (target : Option ℕ) (keys : List ℕ) (args : List Operand) → GoodForm r n f (call i target keys args)
  call_good f i target keys args frame w x ts follows =
      any_found r n (or_fault missing (slice_get r.program.fns i)) f ts w _ (λ g is.
      let known = func_is (slice_get r.program.fns i) g is in
      enters f i target keys args x ts g known
      (subst (λ o. Follows r n f ts (comes_to r.program f x.site x.following (with_call_target f o target x.ids))) known follows))
