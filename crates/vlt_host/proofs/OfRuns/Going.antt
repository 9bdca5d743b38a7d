-- The loop over a host's calls.
use Rattle.std.proofs.Common.{◌≡◌, ℕ, ℤ, suc, ◌+◌, ◌<◌, ◌≤◌, ◌^◌, List, [], ◌∷◌, length, Some, None, refl, sym, ap, ap₂, ◌∙◌, subst, arith, slice_get}
use Rattle.std.proofs.lemmas.Option.{slice_get_within}
use Rattle.vlt_base.specs.declared.Budgets.{Budgets}
use Rattle.vlt_core.specs.Core.{Program}
use Rattle.vlt_meaning.specs.World.{World}
use Rattle.vlt_meaning.specs.Run.{Setup}
use Rattle.vlt_steps.specs.Writing.{Outside}
use Rattle.vlt_steps.proofs.Writing.{grew_nothing}
use Rattle.vlt_host_meaning.specs.declared.calls.HostArg.{HostArg}
use Rattle.vlt_host_meaning.specs.declared.calls.Calls.{Calls}
use Rattle.vlt_host_meaning.specs.Calls.{HostCall}
use Rattle.vlt_host_meaning.specs.Parts.{parts_of}
use Rattle.vlt_host_meaning.specs.Tables.{calls_with, calls_in}
use Rattle.vlt_host.specs.declared.machine.called.Called.{Called}
use Rattle.vlt_host.specs.declared.machine.called.Called.TheVariants.{Back}
use Rattle.vlt_host.specs.Machine.Called.{stop_in}
use Rattle.vlt_host.specs.declared.machine.called.Supply.{Supply}
use Rattle.vlt_host.specs.declared.machine.host_machine.HostMachine.{HostMachine}
use Rattle.vlt_host.specs.Machine.HostMachine.{IsHosted, ShowsWorld, program_in, budgets_of, setup_in}
use Rattle.vlt_host.specs.Runs.Made.{IsRefused, IsCalled}
use Rattle.vlt_io.specs.Outside.{Rose, Grew, GrewByPart}
use Rattle.vlt_meaning.specs.Run.{start}
use Rattle.vlt_steps.specs.declared.stop.Stop.{Stop}
use Rattle.vlt_steps.specs.declared.stop.Stop.TheVariants.{Done, SinkFault}
use Rattle.vlt_host_meaning.specs.Lines.{held_line}
use Rattle.vlt_host_meaning.specs.HostRun.{host_run}
use Rattle.vlt_host.specs.declared.machine.called.Called.TheVariants.{Ended}
use Rattle.vlt_host.specs.Machine.HostMachine.{fuel_left}
use Rattle.vlt_host.specs.declared.runs.stop.HostStop.{HostStop}
use Rattle.vlt_host.specs.declared.runs.stop.HostStop.TheVariants.{Stopped, BadCall}
use Rattle.vlt_host.specs.Runs.Ends.{StopsAs}
use Rattle.vlt_host.proofs.OfRuns.Progress.{Stands, stands_first, stands_next, stops_bad, stops_in, stops_done, stops_cut}

-- ---- positions

with_long : (names : List (List ℕ)) (args : List (List HostArg)) → length (calls_with names args) ≤ length names
with_long [] args = omega arith
with_long (name ∷ names) [] = omega arith
with_long (name ∷ names) (a ∷ args) = let more = with_long names args in omega (arith, more)

parts_long : {A : Type 0} (start : ℕ) (ends : List ℕ) (xs : List A) → length (parts_of start ends xs) ≡ length ends
parts_long start [] xs = refl
parts_long start (end ∷ ends) xs = ap (λ n. suc n) (parts_long end ends xs)

-- each position of a call is of 32 bits
pub few_calls : (c : Calls) → length (calls_in c) < 2 ^ 32
few_calls c =
    let long = with_long (parts_of 0 c.name_ends.items c.names.items) (parts_of 0 c.arg_ends.items c.args.items) in
    let names = parts_long 0 c.name_ends.items c.names.items in
    omega (arith, long, names, c.few)

pub call_within : (calls : List HostCall) (index : ℕ) (c : HostCall) → slice_get calls index ≡ Some c → index < length calls
call_within calls index c at = slice_get_within calls index c at

-- ---- setups

pub setup_same : (m n : HostMachine) → program_in m ≡ program_in n → budgets_of m ≡ budgets_of n → setup_in m ≡ setup_in n
setup_same m n program budgets = ap₂ (λ p (b : Budgets). made p b) program budgets
  where
    made : Program → Budgets → Setup
    made p b = record { program = p; heap = b.heap; depth = b.depth }

-- ---- the loop

-- after so many calls that came back, of a machine that was so at first
pub record Goes (calls : List HostCall) (first : World) (index : ℕ) (m0 m : HostMachine) (s : Supply) (before now : Outside) : Type 0 where
  pub hosted : IsHosted m
  pub setup : setup_in m ≡ setup_in m0
  pub stands : Stands (setup_in m0) calls first index m s before now

pub goes_first : (calls : List HostCall) (first : World) (m : HostMachine) (s : Supply) (b : Outside) → IsHosted m → ShowsWorld m s first → Goes calls first 0 m m s b b
goes_first calls first m s b hosted shows = record {
  hosted = hosted;
  setup = refl;
  stands = stands_first (setup_in m) calls first m s b shows (grew_nothing b.written);
}

pub goes_next : (calls : List HostCall) (first : World) (index : ℕ) (m0 m : HostMachine) (s : Supply) (before now : Outside) (x : Goes calls first index m0 m s before now)
    (c : HostCall) (n : HostMachine) (t : Supply) (after : Outside) (z : Called) → stop_in z ≡ None → slice_get calls index ≡ Some c → IsHosted n → setup_in n ≡ setup_in m →
    IsCalled (setup_in m) c x.stands.world now after n t z → Goes calls first (index + 1) m0 n t before after
goes_next calls first index m0 m s before now x c n t after (Ended stop) back at hosted setup called = absurd (no_stop stop back)
  where
    no_stop : (stop : Stop) → Some stop ≡ None → ⊥
    no_stop stop e = cc
goes_next calls first index m0 m s before now x c n t after (Back y) back at hosted setup called =
    let here = subst (λ r. IsCalled r c x.stands.world now after n t (Back y)) x.setup called in
    record {
      hosted = hosted;
      setup = setup ∙ x.setup;
      stands = subst (λ i. Stands (setup_in m0) calls first i n t before after) (omega arith) (stands_next (setup_in m0) calls first index m s before now x.stands c n t after y at here);
    }

-- ---- the end

is_ended : (z : Called) (stop : Stop) → stop_in z ≡ Some stop → z ≡ Ended stop
is_ended (Back y) stop e = absurd cc
is_ended (Ended s) stop e = ap (λ u. Ended u) (same s stop e)
  where
    same : (a b : Stop) → Some a ≡ Some b → a ≡ b
    same a b h = cc

-- a run within the budgets of the machine, over its fuel
module _ (p : Program) (calls : List HostCall) (input : List ℤ) (answers : List (List ℤ)) (index : ℕ) (m0 m : HostMachine) (s : Supply) (before now : Outside)
    (x : Goes calls (start (fuel_left m0) input answers) index m0 m s before now) (program : program_in m0 ≡ p) where
  abbrev StopsSo : Program → (after : Outside) → HostStop → Type 0
  StopsSo q after stop = StopsAs (host_run q (fuel_left m0) (budgets_of m0).heap (budgets_of m0).depth input answers calls) before after stop

  pub ends_bad : (c : HostCall) (after : Outside) → Some c ≡ slice_get calls index → IsRefused (setup_in m) c x.stands.world now after → StopsSo p after (BadCall (index + 1))
  ends_bad c after at off =
      let here = subst (λ r. IsRefused r c x.stands.world now after) x.setup off in
      let next : suc index ≡ index + 1 = omega arith in
      subst (λ q. StopsSo q after (BadCall (index + 1))) program
      (subst (λ i. StopsSo (program_in m0) after (BadCall i)) next
      (stops_bad (setup_in m0) calls (start (fuel_left m0) input answers) index m s before now x.stands c after (sym at) here))

  pub ends_in : (c : HostCall) (n : HostMachine) (t : Supply) (after : Outside) (z : Called) (stop : Stop) → stop_in z ≡ Some stop → Some c ≡ slice_get calls index →
      IsCalled (setup_in m) c x.stands.world now after n t z → StopsSo p after (Stopped stop)
  ends_in c n t after z stop so at called =
      let ended = subst (λ y. IsCalled (setup_in m) c x.stands.world now after n t y) (is_ended z stop so) called in
      let here = subst (λ r. IsCalled r c x.stands.world now after n t (Ended stop)) x.setup ended in
      subst (λ q. StopsSo q after (Stopped stop)) program
      (stops_in (setup_in m0) calls (start (fuel_left m0) input answers) index m s before now x.stands c n t after stop (sym at) here)

  pub ends_done : (after : Outside) → None ≡ slice_get calls index → Grew now.written after.written (held_line p x.stands.world.objects) → now.faults ≤ after.faults →
      StopsSo p after (Stopped Done)
  ends_done after none grew counted =
      subst (λ q. StopsSo q after (Stopped Done)) program
      (stops_done (setup_in m0) calls (start (fuel_left m0) input answers) index m s before now x.stands after (sym none)
      (subst (λ q. Grew now.written after.written (held_line q x.stands.world.objects)) (sym program) grew) counted)

  pub ends_cut : (after : Outside) → None ≡ slice_get calls index → GrewByPart now.written after.written (held_line p x.stands.world.objects) → now.faults ≤ after.faults →
      Rose now.faults after.faults → StopsSo p after (Stopped SinkFault)
  ends_cut after none grew counted rose =
      subst (λ q. StopsSo q after (Stopped SinkFault)) program
      (stops_cut (setup_in m0) calls (start (fuel_left m0) input answers) index m s before now x.stands after (sym none)
      (subst (λ q. GrewByPart now.written after.written (held_line q x.stands.world.objects)) (sym program) grew) counted rose)
