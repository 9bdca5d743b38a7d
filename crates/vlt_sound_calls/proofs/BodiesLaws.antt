-- Calls of functions with a body.
use Rattle.std.proofs.Common.{◌≡◌, ℕ, ◌==◌, ◌-◌, nat_lt, Bool, true, false, if◌then◌else◌, List, [], ◌∷◌, ◌++◌, take, length, Option, Some, None, refl, sym, ap, ◌∙◌, subst, slice_get}
use Rattle.std.proofs.lemmas.Bool.{eq-eqb, leb-true}
use Rattle.std.proofs.lemmas.List.{length-map, length-take-le}
use Rattle.std.specs.List.{flat_map}
use Rattle.vlt_core.specs.Core.{Tok, Operand, call, Func, Program}
use Rattle.vlt_core.specs.Types.{with_keys}
use Rattle.vlt_core.specs.Instances.{instance}
use Rattle.vlt_core.specs.Maps.{HeldMap, IsBelow, CanPass, map_after}
use Rattle.vlt_core.proofs.Maps.{can_below, passed_below}
use Rattle.vlt_core.specs.Rows.{on_option, operands_rows, clause_rows, called_rows, target_rows, rows_of}
use Rattle.vlt_core.specs.KindedHeads.{unless, parameters_of}
use Rattle.vlt_core.specs.KindedScopes.{Ids}
use Rattle.vlt_core.specs.KindedOperands.{operands_broken}
use Rattle.vlt_core.specs.KindedCalls.{call_target_broken, call_broken, with_call_target, target_alone_broken}
use Rattle.vlt_core.specs.declared.rules.TheConstants as rule
use Rattle.vlt_meaning.specs.World.{Value, Frame, World, depth_end, fuel_end, missing}
use Rattle.vlt_meaning.specs.Found.{or_fault}
use Rattle.vlt_meaning.specs.Step.{Step, goes, jumps, leaves, ends, with_found, where_so, spend, with_objects, deliver}
use Rattle.vlt_meaning.specs.Operands.{with_operands}
use Rattle.vlt_meaning.specs.Calls.{entries_after, passed_objects, handed_over, callee_frame, bindings, with_names, with_holders, back_in, called_instance}
use Rattle.vlt_meaning.specs.Run.{Setup, Meaning, call_body, call_by, does_form}
use Rattle.vlt_sound_worlds.specs.Agrees.{Context, Agrees}
use Rattle.vlt_sound_worlds.specs.Typed.{IsTyped}
use Rattle.vlt_sound_worlds.specs.Safe.{Goal, Safe, goes_to}
use Rattle.vlt_sound_worlds.proofs.Safe.{found_safe, so_safe}
use Rattle.vlt_sound_worlds.proofs.Rows.{pass_split, passed_split}
use Rattle.vlt_sound_worlds.proofs.Empty.{both_empty}
use Rattle.vlt_sound_worlds.specs.Scoped.{IsScoped}
use Rattle.vlt_sound_worlds.specs.Handed.{handed_values}
use Rattle.vlt_sound_worlds.proofs.OperandsLaws.{operands_safe}
use Rattle.vlt_sound_calls.specs.Returned.{IsEntered, Returned, returns_to, IsSafeCallee, CalleesAreSafe}
use Rattle.vlt_sound_calls.specs.Heads.{HasHead}
use Rattle.vlt_sound_calls.specs.Calls.{CallsAreSafe}
use Rattle.vlt_sound_calls.specs.Callee.{IsCall, callee_context}
use Rattle.vlt_sound_calls.proofs.Over.{all_passed}
use Rattle.vlt_sound_calls.proofs.Begins.{holds, passes_states}
use Rattle.vlt_sound_calls.proofs.EnteringLaws.{argument_types, callee_agrees, callee_entered, callee_scoped}
use Rattle.vlt_sound_calls.specs.Fresh.{IsFreshCall}
use Rattle.vlt_sound_calls.proofs.Delivering.{deliver_safe}
use Rattle.vlt_sound_calls.specs.ReturnHeads.{HasHostHead, HasHosts}
use Rattle.vlt_sound_calls.proofs.Narrowing.{narrowed}
use Rattle.vlt_sound_calls.proofs.Instanced.{typed_instance, head_instance, meet_instance, callee_same, with_target_same, host_instance}
use Rattle.vlt_sound_worlds.proofs.Blocks.{agrees_below}
use Rattle.vlt_sound_calls.specs.Meet.{HasFunctions}
use Rattle.vlt_sound_calls.specs.Externals.{ExternalsAreSafe}
use Rattle.vlt_sound_calls.proofs.Statics.{args_long, args_fit, target_fit, is_call, is_fresh_too}

-- where a callee's body came to
back_safe : (G : Goal) (p : Program) (f : Func) (target : Option ℕ) (keys : List ℕ) (g : Func) (c : Context) (frame : Frame) (step : Step) →
    Safe (returns_to p g c) step → ((a : Option Value) (ns : List ℕ) (w : World) → Returned p g c a ns w →
    Safe G (deliver f target a (with_names (bindings keys (entries_after g) ns) frame) (with_objects w (with_holders frame.depth (bindings keys (entries_after g) ns) w.objects)))) →
    Safe G (back_in f target keys g frame step)
unfolding back_in
back_safe G p f target keys g c frame (leaves a ns w) safe next = next a ns w safe
back_safe G p f target keys g c frame (ends o w) safe next = safe
back_safe G p f target keys g c frame (goes fr w) safe next = absurd safe
back_safe G p f target keys g c frame (jumps b fr w) safe next = absurd safe

spend_safe : (G : Goal) (w : World) (go : World → Step) → Safe G (go (record w { fuel = w.fuel - 1 })) → Safe G (spend w go)
unfolding spend
spend_safe G w go safe = by (w.fuel == 0)
  where
    by : (b : Bool) → Safe G (if b then ends fuel_end w else go (record w { fuel = w.fuel - 1 }))
    by true = refl
    by false = safe

module _ (r : Setup) (rest_of : Meaning) {f : Func} {c : Context} {h : HeldMap} {ids : Ids} {frame : Frame} (w : World)
    (g : Func) (safe : IsSafeCallee r rest_of g) (keys : List ℕ)
    (values : List Value) (agrees : Agrees r.program f c h ids (handed_values (argument_types g keys) values) frame w.objects)
    (long : length values ≡ length (argument_types g keys)) (fits : IsCall r.program f g ids keys)
    (new : IsFreshCall f c g ids keys)
    (typed : IsTyped r.program f) (typed_callee : IsTyped r.program g) (head : HasHead r.program g)
    (entered : IsEntered r.program f c) (scoped : IsScoped f c ids)
    (pass : CanPass (clause_rows r.program f keys g.clause) h) where
  abbrev following : HeldMap
  following = map_after (clause_rows r.program f keys g.clause) h

  pub body_safe : (target : Option ℕ) → call_target_broken f ids g keys target ≡ [] → CanPass (target_rows f target) following →
      Safe (goes_to r.program f c (map_after (target_rows f target) following) (with_call_target f (Some g) target ids) [])
      (call_body r rest_of f target keys g values frame w)
  unfolding call_body
  body_safe target broken rows = by (nat_lt frame.depth r.depth)
    where
      run : Safe (goes_to r.program f c (map_after (target_rows f target) following) (with_call_target f (Some g) target ids) [])
          (with_found (passed_objects r.program g keys frame w.objects g.clause) w (λ ns.
          back_in f target keys g frame
          (rest_of g g.body (callee_frame g keys values frame) (with_objects w (handed_over keys frame g.clause w.objects)))))
      run =
          let ok =
          all_passed keys frame w.objects r.program g g.clause (holds agrees g keys fits typed.limited entered.flat pass)
          (λ e j b x. (passes_states agrees g keys fits typed.limited entered.flat pass e j b x).0) in
          found_safe (goes_to r.program f c (map_after (target_rows f target) following) (with_call_target f (Some g) target ids) [])
          (passed_objects r.program g keys frame w.objects g.clause) ok.0 w _ ok.1
          (back_safe (goes_to r.program f c (map_after (target_rows f target) following) (with_call_target f (Some g) target ids) [])
          r.program f target keys g (callee_context f h ids frame c g keys) frame _
          (safe (callee_context f h ids frame c g keys) (callee_frame g keys values frame)
          (with_objects w (handed_over keys frame g.clause w.objects))
          (callee_entered g keys values agrees long fits typed typed_callee head entered scoped pass)
          (callee_scoped g keys values agrees long fits typed typed_callee head entered scoped pass)
          (callee_agrees g keys values agrees long fits typed typed_callee head entered scoped pass))
          (λ a ns w2 left.
          deliver_safe w agrees g keys fits new head typed entered scoped pass w2 left target broken rows))

      by : (b : Bool) → Safe (goes_to r.program f c (map_after (target_rows f target) following) (with_call_target f (Some g) target ids) [])
          (if b then with_found (passed_objects r.program g keys frame w.objects g.clause) w (λ ns.
          back_in f target keys g frame
          (rest_of g g.body (callee_frame g keys values frame) (with_objects w (handed_over keys frame g.clause w.objects))))
          else ends depth_end w)
      by true = run
      by false = refl

-- ---- calls

-- a step that is safe is so where the map after it allows more
widened : (p : Program) (f : Func) (c : Context) (k m : HeldMap) (ids : Ids) → IsBelow k m → (step : Step) →
    Safe (goes_to p f c k ids []) step → Safe (goes_to p f c m ids []) step
widened p f c k m ids below (goes frame w) safe = agrees_below below safe
widened p f c k m ids below (ends o w) safe = safe
widened p f c k m ids below (leaves a ns w) safe = absurd safe
widened p f c k m ids below (jumps b frame w) safe = absurd safe

module _ (r : Setup) (rest_of : Meaning) (callees : CalleesAreSafe r rest_of) (functions : HasFunctions r.program)
    (hosts : HasHosts r.program) (externals : ExternalsAreSafe r) {f : Func} {c : Context} {ids : Ids}
    (typed : IsTyped r.program f) (entered : IsEntered r.program f c) (scoped : IsScoped f c ids) where
  -- a call whose arguments are handed over, of a function without a bound entry
  plain_call : (g : Func) → HasHead r.program g → IsTyped r.program g → (b : Bool) → (b ≡ true → HasHostHead r.program g) →
      (b ≡ false → IsSafeCallee r rest_of g) → (target : Option ℕ) (keys : List ℕ) (values : List Value) (k : HeldMap) (frame : Frame) (w : World) →
      IsCall r.program f g ids keys → IsFreshCall f c g ids keys → call_target_broken f ids g keys target ≡ [] →
      length values ≡ length (argument_types g keys) →
      Agrees r.program f c k ids (handed_values (argument_types g keys) values) frame w.objects →
      CanPass (clause_rows r.program f keys g.clause) k →
      CanPass (target_rows f target) (map_after (clause_rows r.program f keys g.clause) k) →
      Safe (goes_to r.program f c (map_after (target_rows f target) (map_after (clause_rows r.program f keys g.clause) k)) (with_call_target f (Some g) target ids) [])
      (call_by b r rest_of f target keys g values frame w)
  unfolding call_by
  plain_call g head typed_callee true host body target keys values k frame w fits new broken long agrees pass rows =
      externals.each f c k ids frame w g keys values target (host refl) typed typed_callee head entered scoped fits new broken long agrees pass rows
  plain_call g head typed_callee false host body target keys values k frame w fits new broken long agrees pass rows =
      body_safe r rest_of w g (body refl) keys values agrees long fits new typed typed_callee head entered scoped pass target broken rows

  -- a call whose arguments are handed over: that of the instance for the state that the bound entry's object has
  called_safe : (i : ℕ) (g : Func) → slice_get r.program.fns i ≡ Some g → (target : Option ℕ) (keys : List ℕ) (args : List Operand) →
      call_broken r.program f ids (Some g) target keys args ≡ [] → (values : List Value) (k : HeldMap) (frame : Frame) (w : World) →
      length values ≡ length (argument_types g keys) →
      Agrees r.program f c k ids (handed_values (argument_types g keys) values) frame w.objects →
      CanPass (called_rows r.program f keys g.clause) k →
      CanPass (target_rows f target) (map_after (called_rows r.program f keys g.clause) k) →
      Safe (goes_to r.program f c (map_after (target_rows f target) (map_after (called_rows r.program f keys g.clause) k)) (with_call_target f (Some g) target ids) [])
      (call_by g.external r rest_of f target keys (called_instance r.program g keys frame w.objects) values frame w)
  called_safe i g known target keys args broken values k frame w long agrees pass rows =
      let p = r.program in
      let head = functions.heads i g known in
      let meet = functions.meet f typed i g known in
      let n = narrowed agrees g keys (is_call target keys args head typed scoped meet broken) (functions.bounds i g known) pass in
      let o = n.origin in
      let head = head_instance p g o head in
      let meet = meet_instance p g f o meet in
      let broken = callee_same p g f ids o target keys args ∙ broken in
      let below = passed_below (target_rows f target) _ _ n.below in
      let rows = can_below (target_rows f target) _ _ n.below rows in
      let safe =
      plain_call (instance p g o) head (typed_instance p g o (functions.typed i g known)) g.external
      (λ e. host_instance p g o (hosts.heads i g known e)) (λ e. callees.each i g o known e n.allowed) target keys values n.map frame w
      (is_call target keys args head typed scoped meet broken) (is_fresh_too target keys args head typed scoped meet broken)
      (target_fit target keys args head typed scoped meet broken) long n.agrees n.pass rows in
      subst (λ x. Safe (goes_to p f c (map_after (target_rows f target) (map_after (called_rows p f keys g.clause) k)) (with_call_target f (Some g) target ids) [])
      (call_by g.external r rest_of f target keys x values frame w)) (sym n.called)
      (widened p f c _ _ (with_call_target f (Some g) target ids) below _
      (subst (λ x. Safe (goes_to p f c (map_after (target_rows f target) (map_after (clause_rows p f keys (instance p g o).clause) n.map)) x [])
      (call_by g.external r rest_of f target keys (instance p g o) values frame w)) (with_target_same p g f o target ids) safe))

  module _ {h : HeldMap} {frame : Frame} (w : World) (agrees : Agrees r.program f c h ids [] frame w.objects) where
    call_known : (i : ℕ) (g : Func) → slice_get r.program.fns i ≡ Some g → (target : Option ℕ) (keys : List ℕ) (args : List Operand) →
        call_broken r.program f ids (Some g) target keys args ≡ [] →
        CanPass (operands_rows r.program f args ++ called_rows r.program f keys g.clause ++ target_rows f target) h →
        Safe (goes_to r.program f c (map_after (operands_rows r.program f args ++ called_rows r.program f keys g.clause ++ target_rows f target) h)
        (with_call_target f (Some g) target ids) [])
        (where_so (length args == g.params) missing None w (λ w.
        with_operands r.program f args frame w (λ values frame w.
        spend w (λ w. call_by g.external r rest_of f target keys (called_instance r.program g keys frame w.objects) values frame w))))
    call_known i g known target keys args broken rows =
        let head = functions.heads i g known in
        let meet = functions.meet f typed i g known in
        let long = args_long target keys args head typed scoped meet broken in
        let operands = operands_rows r.program f args in
        let clause = called_rows r.program f keys g.clause in
        let last = pass_split (operands ++ clause) (target_rows f target) h rows in
        let first = pass_split operands clause h last.0 in
        let same_map : map_after (operands ++ clause ++ target_rows f target) h ≡
        map_after (target_rows f target) (map_after clause (map_after operands h)) =
        passed_split (operands ++ clause) (target_rows f target) h ∙
        ap (map_after (target_rows f target)) (passed_split operands clause h) in
        let target_pass : CanPass (target_rows f target) (map_after clause (map_after operands h)) =
        subst (CanPass (target_rows f target)) (passed_split operands clause h) last.1 in
        let count : (length args == g.params) ≡ true =
        eq-eqb (length args) g.params (long ∙ (length-map (parameters_of g) (with_keys keys) ∙ params_long g head)) in
        subst (λ m. Safe (goes_to r.program f c m (with_call_target f (Some g) target ids) [])
        (where_so (length args == g.params) missing None w (λ w.
        with_operands r.program f args frame w (λ values frame w.
        spend w (λ w. call_by g.external r rest_of f target keys (called_instance r.program g keys frame w.objects) values frame w))))) (sym same_map)
        (so_safe (goes_to r.program f c (map_after (target_rows f target) (map_after clause (map_after operands h))) (with_call_target f (Some g) target ids) [])
        (length args == g.params) missing None w _ count
        (operands_safe typed args (argument_types g keys) h [] frame w agrees
        (goes_to r.program f c (map_after (target_rows f target) (map_after clause (map_after operands h))) (with_call_target f (Some g) target ids) [])
        _ long (args_fit target keys args head typed scoped meet broken) first.0
        (λ values frame' w2 many next.
        spend_safe (goes_to r.program f c (map_after (target_rows f target) (map_after clause (map_after operands h))) (with_call_target f (Some g) target ids) [])
        w2 _
        (called_safe i g known target keys args broken values (map_after operands h) frame' (record w2 { fuel = w2.fuel - 1 }) many next first.1 target_pass))))
      where
        params_long : (g : Func) → HasHead r.program g → length (parameters_of g) ≡ g.params
        params_long g head =
            length-map (take g.params g.vars) (λ d. d.ty) ∙
            length-take-le g.params g.vars (leb-true g.params (length g.vars) head.params)

    pub call_safe : (left : List Tok) (i : ℕ) (target : Option ℕ) (keys : List ℕ) (args : List Operand) →
        call_broken r.program f ids (slice_get r.program.fns i) target keys args ≡ [] →
        CanPass (rows_of r.program f left (call i target keys args)) h →
        Safe (goes_to r.program f c (map_after (rows_of r.program f left (call i target keys args)) h)
        (with_call_target f (slice_get r.program.fns i) target ids) [])
        (does_form r rest_of f (call i target keys args) frame w)
    unfolding with_found
    call_safe left i target keys args broken rows = by (slice_get r.program.fns i) refl broken rows
      where
        by : (o : Option Func) → slice_get r.program.fns i ≡ o → call_broken r.program f ids o target keys args ≡ [] →
            CanPass (operands_rows r.program f args ++ on_option o (λ g. called_rows r.program f keys g.clause) ++ target_rows f target) h →
            Safe (goes_to r.program f c (map_after (operands_rows r.program f args ++ on_option o (λ g. called_rows r.program f keys g.clause) ++ target_rows f target) h)
            (with_call_target f o target ids) [])
            (with_found (or_fault missing o) w (λ g.
            where_so (length args == g.params) missing None w (λ w.
            with_operands r.program f args frame w (λ values frame w.
            spend w (λ w. call_by g.external r rest_of f target keys (called_instance r.program g keys frame w.objects) values frame w)))))
        by None known broken rows =
            let q =
            (both_empty (flat_map (λ k. unless (nat_lt k (length f.keys)) rule.UNKNOWN_NAME) keys ++
            rule.UNKNOWN_NAME ∷ operands_broken r.program f ids [] args) (target_alone_broken f ids target) broken).0 in
            let none =
            (both_empty (flat_map (λ k. unless (nat_lt k (length f.keys)) rule.UNKNOWN_NAME) keys)
            (rule.UNKNOWN_NAME ∷ operands_broken r.program f ids [] args) q).1 in
            cc
        by (Some g) known broken rows = call_known i g known target keys args broken rows

pub calls_are_safe : (r : Setup) (rest_of : Meaning) → HasFunctions r.program → HasHosts r.program → ExternalsAreSafe r →
    CalleesAreSafe r rest_of → CallsAreSafe r rest_of
calls_are_safe r rest_of functions hosts externals callees = record {
  each = λ f c h ids frame w left i target keys args typed keyed head entered scoped agrees broken rows.
      call_safe r rest_of callees functions hosts externals typed entered scoped w agrees left i target keys args broken rows;
}
