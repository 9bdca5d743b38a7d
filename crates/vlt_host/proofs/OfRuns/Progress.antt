-- How far a host's calls have come.
use Rattle.std.proofs.Common.{◌≡◌, ℕ, zero, suc, ◌≤◌, true, false, if◌then◌else◌, List, [], ◌∷◌, ◌++◌, drop, Option, Some, None, IfSome, refl, sym, ap, ◌∙◌, subst, append_assoc, append-nil, arith, slice_get}
use Rattle.std.specs.Option.{option_map}
use Rattle.vlt_io.specs.Outside.{Rose, Grew, GrewByPart}
use Rattle.vlt_core.specs.Core.{Func, Program}
use Rattle.vlt_meaning.specs.World.{Value, World, Outcome}
use Rattle.vlt_meaning.specs.Run.{Setup}
use Rattle.vlt_steps.specs.declared.stop.Stop.{Stop}
use Rattle.vlt_steps.specs.declared.stop.Stop.TheVariants.{Done, SinkFault}
use Rattle.vlt_steps.specs.Stops.{IsTold}
use Rattle.vlt_steps.specs.Writing.{Outside}
use Rattle.vlt_steps.proofs.Writing.{grew_both, rose_more}
use Rattle.vlt_acts.specs.Hosts.Stops.{outcome_of}
use Rattle.vlt_host_acts.specs.declared.values.HostValue.{HostValue}
use Rattle.vlt_host_meaning.specs.Calls.{Argument, HostCall}
use Rattle.vlt_host_meaning.specs.EntryFunctions.{function_of_name}
use Rattle.vlt_host_meaning.specs.Permitted.{is_permitted}
use Rattle.vlt_host_meaning.specs.Lines.{held_line}
use Rattle.vlt_host_meaning.specs.OneCall.{CallEnd, came_back, stopped, host_calls}
use Rattle.vlt_host_meaning.specs.HostRun.{HostOutcome, ended, bad_call, CallsEnd, all_came_back, broke_off, after_text, then_calls, call_function, call_number, after_calls, HostRan, host_ran_of}
use Rattle.vlt_host.specs.declared.machine.called.Called.{Called}
use Rattle.vlt_host.specs.declared.machine.called.Called.TheVariants.{Back, Ended}
use Rattle.vlt_host.specs.declared.machine.called.Supply.{Supply}
use Rattle.vlt_host.specs.declared.machine.host_machine.HostMachine.{HostMachine}
use Rattle.vlt_host.specs.Machine.HostMachine.{ShowsWorld, fuel_left}
use Rattle.vlt_host.specs.Machine.Called.{CallComes, IsBack, HasEnded}
use Rattle.vlt_host.specs.Machine.Callable.{may_call, may_call_in}
use Rattle.vlt_host.specs.declared.runs.stop.HostStop.TheVariants.{Stopped, BadCall}
use Rattle.vlt_host.specs.Runs.Ends.{StopsAs}
use Rattle.vlt_host.specs.Runs.Made.{asked, IsRefused, IsCalled}
use Rattle.vlt_host.proofs.OfRuns.Written.{part_first, part_after, whole_part}

-- ---- texts

after_texts : (t u : List ℕ) (e : CallsEnd) → after_text t (after_text u e) ≡ after_text (t ++ u) e
unfolding after_text
after_texts t u (all_came_back more w) = ap (λ l. all_came_back l w) (sym (append_assoc t u more))
after_texts t u (broke_off more o w) = ap (λ l. broke_off l o w) (sym (append_assoc t u more))

after_nothing : (e : CallsEnd) → after_text [] e ≡ e
unfolding after_text
after_nothing (all_came_back more w) = refl
after_nothing (broke_off more o w) = refl

-- what comes after a text leaves the text where it is
begins_so : (p : Program) (t : List ℕ) (e : CallsEnd) → (more : List ℕ) × ((host_ran_of p (after_text t e)).text ≡ t ++ more)
unfolding after_text
begins_so p t (all_came_back more w) = (more ++ held_line p w.objects, append_assoc t more (held_line p w.objects))
begins_so p t (broke_off more o w) = (more, refl)

-- ---- one call

refused_call : (r : Setup) (c : HostCall) (w : World) (at : ℕ) (go : World → CallsEnd) → function_of_name c.name 0 r.program.fns ≡ None →
    asked r c w at go ≡ broke_off [] (bad_call at) w
unfolding call_number
refused_call r c w at go none = ap (λ o. call_number r at o c.args w go) none

forbidden_function : (r : Setup) (at i : ℕ) (o : Option Func) (args : List Argument) (w : World) (go : World → CallsEnd) →
    may_call_in r.program i o args w.objects ≡ false → call_function r at i o args w go ≡ broke_off [] (bad_call at) w
unfolding call_function
forbidden_function r at i None args w go off = refl
forbidden_function r at i (Some f) args w go off = ap (λ b. if b then then_calls (host_calls r f args w) go else broke_off [] (bad_call at) w) off

-- the function of a number isn't permitted
forbidden_call : (r : Setup) (c : HostCall) (w : World) (at : ℕ) (go : World → CallsEnd) (i : ℕ) → function_of_name c.name 0 r.program.fns ≡ Some i →
    may_call r.program i c.args w.objects ≡ false → asked r c w at go ≡ broke_off [] (bad_call at) w
unfolding call_number
forbidden_call r c w at go i is off =
    ap (λ o. call_number r at o c.args w go) is ∙ forbidden_function r at i (slice_get r.program.fns i) c.args w go off

permitted_call : (r : Setup) (c : HostCall) (w : World) (at : ℕ) (go : World → CallsEnd) (i : ℕ) (f : Func) → function_of_name c.name 0 r.program.fns ≡ Some i →
    slice_get r.program.fns i ≡ Some f → may_call r.program i c.args w.objects ≡ true → asked r c w at go ≡ then_calls (host_calls r f c.args w) go
unfolding call_number call_function
permitted_call r c w at go i f is there on =
    let allowed : is_permitted r.program i f c.args w.objects ≡ true = subst (λ o. may_call_in r.program i o c.args w.objects ≡ true) there on in
    ap (λ o. call_number r at o c.args w go) is ∙ ap (λ o. call_function r at i o c.args w go) there
    ∙ ap (λ b. if b then then_calls (host_calls r f c.args w) go else broke_off [] (bad_call at) w) allowed

pub is_refused : (r : Setup) (c : HostCall) (w : World) (b : Outside) → function_of_name c.name 0 r.program.fns ≡ None → IsRefused r c w b b
is_refused r c w b none = record { untouched = refl; bad = λ at go. refused_call r c w at go none }

pub is_forbidden : (r : Setup) (c : HostCall) (w : World) (b : Outside) (i : ℕ) → function_of_name c.name 0 r.program.fns ≡ Some i →
    may_call r.program i c.args w.objects ≡ false → IsRefused r c w b b
is_forbidden r c w b i is off = record { untouched = refl; bad = λ at go. forbidden_call r c w at go i is off }

pub is_called : (r : Setup) (c : HostCall) (w : World) (before after : Outside) (m : HostMachine) (s : Supply) (x : Called) (i : ℕ) (f : Func) →
    function_of_name c.name 0 r.program.fns ≡ Some i → slice_get r.program.fns i ≡ Some f → may_call r.program i c.args w.objects ≡ true →
    CallComes (host_calls r f c.args w) before after m s x → IsCalled r c w before after m s x
is_called r c w before after m s x i f is there on comes =
    record { function = f; goes = λ at go. permitted_call r c w at go i f is there on; comes = comes }

-- a call that came back
came : (e : CallEnd) (before after : Outside) (m : HostMachine) (s : Supply) (x : Option HostValue) → CallComes e before after m s (Back x) →
    (text : List ℕ) × (a : Option Value) × (w : World) × (e ≡ came_back text a w) × IsBack text a w before after m s x
came (came_back text a w) before after m s x comes = (text, a, w, refl, comes)
came (stopped text o w) before after m s x comes = absurd comes

-- ---- all calls

-- After so many calls all that were made came back: this world is shown, this text was written, and what the calls come to is that
-- text and what the others come to from there.
pub record Stands (r : Setup) (calls : List HostCall) (first : World) (index : ℕ) (m : HostMachine) (s : Supply) (before now : Outside) : Type 0 where
  pub world : World
  pub text : List ℕ
  pub shows : ShowsWorld m s world
  pub wrote : Grew before.written now.written text
  pub counted : before.faults ≤ now.faults
  pub comes : after_calls r 1 calls first ≡ after_text text (after_calls r (suc index) (drop index calls) world)

pub stands_first : (r : Setup) (calls : List HostCall) (first : World) (m : HostMachine) (s : Supply) (b : Outside) → ShowsWorld m s first → Grew b.written b.written [] →
    Stands r calls first 0 m s b b
stands_first r calls first m s b shows nothing = record {
  world = first;
  text = [];
  shows = shows;
  wrote = nothing;
  counted = omega arith;
  comes = sym (after_nothing (after_calls r 1 calls first));
}

dropped : {A : Type 0} (xs : List A) (i : ℕ) (x : A) → slice_get xs i ≡ Some x → drop i xs ≡ x ∷ drop (suc i) xs
dropped [] i x e = absurd cc
dropped (y ∷ ys) zero x e = ap (λ z. z ∷ ys) (same y x e)
  where
    same : {A : Type 0} (a b : A) → Some a ≡ Some b → a ≡ b
    same a b h = cc
dropped (y ∷ ys) (suc i) x e = dropped ys i x e

dropped_all : {A : Type 0} (xs : List A) (i : ℕ) → slice_get xs i ≡ None → drop i xs ≡ []
dropped_all [] zero e = refl
dropped_all [] (suc i) e = refl
dropped_all (y ∷ ys) zero e = absurd cc
dropped_all (y ∷ ys) (suc i) e = dropped_all ys i e

module _ (r : Setup) (calls : List HostCall) (first : World) (index : ℕ) (m : HostMachine) (s : Supply) (before now : Outside)
    (x : Stands r calls first index m s before now) where
  -- the next call, with the others after it
  asks : (c : HostCall) → slice_get calls index ≡ Some c →
      after_calls r 1 calls first ≡ after_text x.text (asked r c x.world (suc index) (λ w. after_calls r (suc (suc index)) (drop (suc index) calls) w))
  asks c at = x.comes ∙ ap (λ cs. after_text x.text (after_calls r (suc index) cs x.world)) (dropped calls index c at)

  -- the next call came back
  pub stands_next : (c : HostCall) (n : HostMachine) (t : Supply) (after : Outside) (y : Option HostValue) → slice_get calls index ≡ Some c →
      IsCalled r c x.world now after n t (Back y) → Stands r calls first (suc index) n t before after
  unfolding then_calls
  stands_next c n t after y at called =
      let b = came (host_calls r called.function c.args x.world) now after n t y called.comes in
      let go : World → CallsEnd = λ w. after_calls r (suc (suc index)) (drop (suc index) calls) w in
      let back = b.4 in
      record {
        world = b.2;
        text = x.text ++ b.0;
        shows = back.shows;
        wrote = grew_both before.written now.written after.written x.text b.0 x.wrote back.wrote;
        counted = omega (arith, x.counted, back.counted);
        comes =
            asks c at ∙ ap (after_text x.text) (called.goes (suc index) go ∙ ap (λ e. then_calls e go) b.3)
            ∙ after_texts x.text b.0 (go b.2);
      }

  ran_is : (e : CallsEnd) → after_calls r 1 calls first ≡ e → host_ran_of r.program (after_calls r 1 calls first) ≡ host_ran_of r.program e
  ran_is e same = ap (host_ran_of r.program) same

  abbrev ran : HostRan
  ran = host_ran_of r.program (after_calls r 1 calls first)

  -- the next call isn't permitted
  pub stops_bad : (c : HostCall) (after : Outside) → slice_get calls index ≡ Some c → IsRefused r c x.world now after → StopsAs ran before after (BadCall (suc index))
  unfolding after_text
  stops_bad c after at off =
      let go : World → CallsEnd = λ w. after_calls r (suc (suc index)) (drop (suc index) calls) w in
      let is : ran ≡ host_ran_of r.program (broke_off (x.text ++ []) (bad_call (suc index)) x.world) =
      ran_is _ (asks c at ∙ ap (after_text x.text) (off.bad (suc index) go)) in
      let text : x.text ≡ ran.text = sym (ap (λ z. z.text) is ∙ append-nil x.text) in
      record {
        outcome = sym (ap (λ z. z.outcome) is);
        told = subst (λ l. Grew before.written after.written l) text (subst (λ o. Grew before.written o.written x.text) (sym off.untouched) x.wrote);
        cause = λ e. absurd (not_fault e);
        counted = subst (λ o. before.faults ≤ o.faults) (sym off.untouched) x.counted;
      }
    where
      not_fault : BadCall (suc index) ≡ Stopped SinkFault → ⊥
      not_fault e = cc

  fault_is : (s u : Stop) → Stopped s ≡ Stopped u → s ≡ u
  fault_is s u e = cc

  -- the outcome of a stop that came in a call
  outcome_so : (o : Option Outcome) (given : Outcome) (whole : HostOutcome) → IfSome o (λ p. Some given ≡ Some p) → ended given ≡ whole →
      IfSome (option_map (λ p. ended p) o) (λ p. p ≡ whole)
  outcome_so None given whole same is = tt
  outcome_so (Some p) given whole same is = ap (λ z. ended z) (sym (some_same given p same)) ∙ is
    where
      some_same : (a b : Outcome) → Some a ≡ Some b → a ≡ b
      some_same a b e = cc

  none_else : (o : Option Outcome) → IfSome o (λ p. None ≡ Some p) → o ≡ None
  none_else None is = refl
  none_else (Some p) is = absurd (never p is)
    where
      never : (p : Outcome) → None ≡ Some p → ⊥
      never p e = cc

  -- a part of what was written, where more would have come
  told_part : (after : Outside) (o : Option Outcome) (text more : List ℕ) → ran.text ≡ x.text ++ (text ++ more) → IsTold o text now.written after.written →
      GrewByPart before.written after.written ran.text
  told_part after (Some o) text more is told = subst (λ l. GrewByPart before.written after.written l) (sym is)
      (part_after before.written now.written after.written x.text (text ++ more) x.wrote
      (part_first now.written after.written text more (whole_part now.written after.written text told)))
  told_part after None text more is told = subst (λ l. GrewByPart before.written after.written l) (sym is)
      (part_after before.written now.written after.written x.text (text ++ more) x.wrote (part_first now.written after.written text more told))

  told_all : (after : Outside) (p : Option Outcome) (text : List ℕ) → ran.text ≡ x.text ++ text → IsTold p text now.written after.written →
      IsTold (option_map (λ z. ended z) p) ran.text before.written after.written
  told_all after (Some p) text is told = subst (λ l. Grew before.written after.written l) (sym is)
      (grew_both before.written now.written after.written x.text text x.wrote told)
  told_all after None text is told = subst (λ l. GrewByPart before.written after.written l) (sym is)
      (part_after before.written now.written after.written x.text text x.wrote told)

  rises : (after : Outside) (stop : Stop) → (stop ≡ SinkFault → Rose now.faults after.faults) → Stopped stop ≡ Stopped SinkFault → Rose before.faults after.faults
  rises after stop cause e = rose_more before.faults now.faults after.faults x.counted (cause (fault_is stop SinkFault e))

  abbrev others : World → CallsEnd
  others w = after_calls r (suc (suc index)) (drop (suc index) calls) w

  -- a stop in a call that would have come back
  cut_in : (text : List ℕ) (w : World) (after : Outside) (left : ℕ) (stop : Stop) → after_calls r 1 calls first ≡ after_text x.text (after_text text (others w)) →
      HasEnded text None w.fuel now after left stop → StopsAs ran before after (Stopped stop)
  cut_in text w after left stop is end =
      let none = none_else (outcome_of stop) end.outcome in
      let whole : after_calls r 1 calls first ≡ after_text (x.text ++ text) (others w) = is ∙ after_texts x.text text (others w) in
      let begun = begins_so r.program (x.text ++ text) (others w) in
      let text_is : ran.text ≡ x.text ++ (text ++ begun.0) = ap (λ z. z.text) (ran_is _ whole) ∙ begun.1 ∙ append_assoc x.text text begun.0 in
      record {
        outcome = subst (λ o. IfSome (option_map (λ p. ended p) o) (λ p. p ≡ ran.outcome)) (sym none) tt;
        told = subst (λ o. IsTold (option_map (λ p. ended p) o) ran.text before.written after.written) (sym none) (told_part after (outcome_of stop) text begun.0 text_is end.told);
        cause = rises after stop end.cause;
        counted = omega (arith, x.counted, end.counted);
      }

  -- a stop with the outcome of a call
  stopped_in : (text : List ℕ) (o : Outcome) (w : World) (after : Outside) (left : ℕ) (stop : Stop) → after_calls r 1 calls first ≡ after_text x.text (broke_off text (ended o) w) →
      HasEnded text (Some o) w.fuel now after left stop → StopsAs ran before after (Stopped stop)
  unfolding after_text
  stopped_in text o w after left stop whole end =
      let is : ran ≡ host_ran_of r.program (broke_off (x.text ++ text) (ended o) w) = ran_is _ whole in
      record {
        outcome = outcome_so (outcome_of stop) o ran.outcome end.outcome (sym (ap (λ z. z.outcome) is));
        told = told_all after (outcome_of stop) text (ap (λ z. z.text) is) end.told;
        cause = rises after stop end.cause;
        counted = omega (arith, x.counted, end.counted);
      }

  stops_by : (e : CallEnd) (n : HostMachine) (t : Supply) (after : Outside) (stop : Stop) → after_calls r 1 calls first ≡ after_text x.text (then_calls e others) →
      CallComes e now after n t (Ended stop) → StopsAs ran before after (Stopped stop)
  unfolding then_calls
  stops_by (came_back text a w) n t after stop is end = cut_in text w after (fuel_left n) stop is end
  stops_by (stopped text o w) n t after stop is end = stopped_in text o w after (fuel_left n) stop is end

  -- the next call stopped
  pub stops_in : (c : HostCall) (n : HostMachine) (t : Supply) (after : Outside) (stop : Stop) → slice_get calls index ≡ Some c →
      IsCalled r c x.world now after n t (Ended stop) → StopsAs ran before after (Stopped stop)
  stops_in c n t after stop at called =
      stops_by (host_calls r called.function c.args x.world) n t after stop (asks c at ∙ ap (after_text x.text) (called.goes (suc index) others)) called.comes

  -- there is no further call, and the last line was written
  all_back : slice_get calls index ≡ None → ran ≡ host_ran_of r.program (all_came_back (x.text ++ []) x.world)
  unfolding after_text
  all_back at = ran_is _ (x.comes ∙ ap (λ cs. after_text x.text (after_calls r (suc index) cs x.world)) (dropped_all calls index at))

  last_text : slice_get calls index ≡ None → ran.text ≡ x.text ++ held_line r.program x.world.objects
  last_text at = ap (λ z. z.text) (all_back at) ∙ ap (λ l. l ++ held_line r.program x.world.objects) (append-nil x.text)

  pub stops_done : (after : Outside) → slice_get calls index ≡ None → Grew now.written after.written (held_line r.program x.world.objects) → now.faults ≤ after.faults →
      StopsAs ran before after (Stopped Done)
  stops_done after at grew counted = record {
    outcome = sym (ap (λ z. z.outcome) (all_back at));
    told = subst (λ l. Grew before.written after.written l) (sym (last_text at))
        (grew_both before.written now.written after.written x.text (held_line r.program x.world.objects) x.wrote grew);
    cause = λ e. absurd (not_fault e);
    counted = omega (arith, x.counted, counted);
  }
    where
      not_fault : Stopped Done ≡ Stopped SinkFault → ⊥
      not_fault e = cc

  pub stops_cut : (after : Outside) → slice_get calls index ≡ None → GrewByPart now.written after.written (held_line r.program x.world.objects) → now.faults ≤ after.faults →
      Rose now.faults after.faults → StopsAs ran before after (Stopped SinkFault)
  stops_cut after at grew counted rose = record {
    outcome = tt;
    told = subst (λ l. GrewByPart before.written after.written l) (sym (last_text at))
        (part_after before.written now.written after.written x.text (held_line r.program x.world.objects) x.wrote grew);
    cause = λ e. rose_more before.faults now.faults after.faults x.counted rose;
    counted = omega (arith, x.counted, counted);
  }
