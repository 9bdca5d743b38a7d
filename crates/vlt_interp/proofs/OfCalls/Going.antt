-- A unit of fuel for a call.
use Rattle.std.proofs.Common.{◌≡◌, inl, inr, ◌<◌, ◌-◌, ◌==◌, ℕ, true, false, if◌then◌else◌, List, Option, Some, refl, sym, ap, ◌∙◌, subst, arith}
use Rattle.std.proofs.lemmas.Bool.Decides.{nat_tests}
use Rattle.vlt_core.specs.Core.{Func, Program}
use Rattle.vlt_core.specs.View.{program_of}
use Rattle.vlt_heap.specs.Shown.{heap_of}
use Rattle.vlt_meaning.specs.World.{Value, World, Frame, fuel_end}
use Rattle.vlt_meaning.specs.Calls.{called_instance}
use Rattle.vlt_meaning.specs.Step.{ends}
use Rattle.vlt_meaning.specs.Run.{Setup}
use Rattle.vlt_meaning_laws.specs.Machine.Machine as m
use Rattle.vlt_meaning_laws.specs.Machine.Machine.{Conf, at, spending, enter_by}
use Rattle.vlt_steps.specs.Writing.{Outside}
use Rattle.vlt_acts.proofs.OfHosts.Writing.{silent}
use Rattle.vlt_steps.specs.declared.stop.Stop.{Stop}
use Rattle.vlt_steps.specs.declared.stop.Stop.TheVariants.{FuelEnd}
use Rattle.vlt_interp.specs.declared.tasks.task.Rules.{Rules}
use Rattle.vlt_interp.specs.declared.tasks.task.Run.{Run}
use Rattle.vlt_interp.specs.Tasks.Shown.{setup_of}
use Rattle.vlt_interp.specs.Tasks.Moves.{IsRight}
use Rattle.vlt_interp.proofs.OfTasks.Staying.{keeps_all}
use Rattle.vlt_interp.proofs.OfTasks.Coming.{Came, came_since}
use Rattle.vlt_interp.specs.Calls.Called.{ShowsCall, CallPart, calling_out, entering_body, going_in, IsReadyIn, CanGoIn, DoesIn}

zero_is : (n : ℕ) → n ≡ 0 → (n == 0) ≡ true
zero_is n e = grind (arith, nat_tests)

some_is : (n : ℕ) → 0 < n → (n == 0) ≡ false
some_is n l = grind (arith, nat_tests)

abbrev less : World → World
less w = record w { fuel = w.fuel - 1 }

-- ---- fuel

module _ (w : World) (before after : Outside) (r : Run) (f : Func) (ts : List m.Task) (go : World → Conf) where
  pub fuel_ended : w.fuel ≡ r.fuel → r.fuel ≡ 0 → Came w before before (Some FuelEnd) r (spending f ts w go)
  unfolding spending
  fuel_ended e none = subst (λ b. Came w before before (Some FuelEnd) r (if b then at f ts (ends fuel_end w) else go (less w))) (sym (zero_is w.fuel (e ∙ none)))
      (inr (inl (record { outcome = refl; fuel = e; wrote = silent w w before refl })))

  pub fuel_spent : (result : Option Stop) → 0 < w.fuel → Came (less w) before after result r (go (less w)) → Came w before after result r (spending f ts w go)
  unfolding spending
  fuel_spent result some h = subst (λ b. Came w before after result r (if b then at f ts (ends fuel_end w) else go (less w))) (sym (some_is w.fuel some))
      (came_since w (less w) before after r refl result (go (less w)) (go (less w)).step h)

module _ (w : World) (f : Func) (ts : List m.Task) (go : World → Conf) where
  pub spent_right : 0 < w.fuel → IsRight (spending f ts w go).step → IsRight (go (less w)).step
  unfolding spending
  spent_right some h = subst (λ b. IsRight (if b then at f ts (ends fuel_end w) else go (less w)).step) (some_is w.fuel some) h

-- ---- the run with a unit less

module _ (old new : Run) (is : new ≡ record old { fuel = old.fuel - 1 }) where
  pub less_shown : (f : Func) (ts : List m.Task) (g : Func) (args : List Value) (frame : Frame) (w : World) → ShowsCall old f ts g args frame w → ShowsCall new f ts g args frame (record w { fuel = w.fuel - 1 })
  less_shown f ts g args frame w q = subst (λ r. ShowsCall r f ts g args frame (less w)) (sym is) (record {
    items = q.items;
    holds = q.holds;
    func = q.func;
    going = q.going;
    tasks = q.tasks;
    args_shown =
        let a = q.args_shown in
        record {
          objects = a.objects;
          frame_shown = a.frame_shown;
          names = a.names;
          running = a.running;
          count = a.count;
          values_at = a.values_at;
          depth = a.depth;
          hosts = record { input = a.hosts.input; answers = a.hosts.answers; taken = a.hosts.taken };
          fuel = ap (λ n. n - 1) a.fuel;
        };
  })

-- ---- a call that spends it

module _ (rules : Rules) (old : Run) (g : Func) (target : Option ℕ) (keys : List ℕ) where
  abbrev spent : Run
  spent = record old { fuel = old.fuel - 1 }

  abbrev here : Setup
  here = setup_of rules (heap_of old.heap)

  abbrev by_kind : Setup → Func → List m.Task → List Value → Frame → World → Conf
  by_kind s f ts args frame w = enter_by g.external s f target keys (called_instance s.program g keys frame w.objects) args ts frame w

  still_ready : (p : Program) (depth : ℕ) → IsReadyIn p depth g target keys old → IsReadyIn p depth g target keys spent
  still_ready p depth k = record {
    room = record { wide = k.room.wide; heap = k.room.heap; cells = k.room.cells; fields = k.room.fields; values = k.room.values; operands = k.room.operands; tasks = k.room.tasks; line = k.room.line };
    own = k.own;
    callee = k.callee;
    target_own = k.target_own;
    keys_own = k.keys_own;
    head = k.head;
    tasks = k.tasks;
    values = k.values;
    external = k.external;
  }

  module _ (part : CallPart) (is : (s : Setup) (f : Func) (ts : List m.Task) (args : List Value) (frame : Frame) (w : World) → by_kind s f ts args frame w ≡ part s f ts args frame w) (some : 0 < old.fuel) where
    some_left : {f : Func} {ts : List m.Task} {args : List Value} {frame : Frame} {w : World} → ShowsCall old f ts g args frame w → 0 < w.fuel
    some_left q = let e = q.args_shown.fuel in omega (arith, e, some)

    pub spent_can : CanGoIn (going_in target keys g) g target keys rules old → CanGoIn part g target keys rules spent
    spent_can can =
        let d = can.right in
        record {
          ready = still_ready (program_of rules.program.now) rules.depth can.ready;
          right = record {
            func = d.func;
            tasks = d.tasks;
            args = d.args;
            frame = d.frame;
            world = less d.world;
            shown = less_shown old spent refl d.func d.tasks g d.args d.frame d.world d.shown;
            known = d.known;
            right = subst (λ x. IsRight x.step) (is here d.func d.tasks d.args d.frame (less d.world)) (spent_right d.world d.func d.tasks (by_kind here d.func d.tasks d.args d.frame) (some_left d.shown) d.right);
          };
        }

    pub spent_does : (new : Run) (before after : Outside) (result : Option Stop) → DoesIn part g keys rules spent new before after result → DoesIn (going_in target keys g) g keys rules old new before after result
    spent_does new before after result k = record {
      keeps = record { sound = k.keeps.sound; size = k.keeps.size; width = k.keeps.width; values = k.keeps.values; tasks = k.keeps.tasks; line = k.keeps.line };
      comes = λ f ts args frame w q known.
          fuel_spent w before after new f ts (by_kind here f ts args frame) result (some_left q)
          (subst (λ x. Came (less w) before after result new x) (sym (is here f ts args frame (less w))) (k.comes f ts args frame (less w) (less_shown old spent refl f ts g args frame w q) known));
    }

  pub goes_out : g.external ≡ true → (s : Setup) (f : Func) (ts : List m.Task) (args : List Value) (frame : Frame) (w : World) → by_kind s f ts args frame w ≡ calling_out target keys g s f ts args frame w
  unfolding enter_by
  goes_out e s f ts args frame w = ap (λ b. enter_by b s f target keys (called_instance s.program g keys frame w.objects) args ts frame w) e

  pub goes_in : g.external ≡ false → (s : Setup) (f : Func) (ts : List m.Task) (args : List Value) (frame : Frame) (w : World) → by_kind s f ts args frame w ≡ entering_body target keys g s f ts args frame w
  unfolding enter_by
  goes_in e s f ts args frame w = ap (λ b. enter_by b s f target keys (called_instance s.program g keys frame w.objects) args ts frame w) e

  pub no_fuel : (b : Outside) → old.fuel ≡ 0 → CanGoIn (going_in target keys g) g target keys rules old → DoesIn (going_in target keys g) g keys rules old old b b (Some FuelEnd)
  no_fuel b none can = record {
    keeps = keeps_all old can.ready.room.heap;
    comes = λ f ts args frame w q known. fuel_ended w b b old f ts (by_kind here f ts args frame) q.args_shown.fuel none;
  }
