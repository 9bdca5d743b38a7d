-- The run goes on, and comes to its end.
use Rattle.std.proofs.Common.{◌≡◌, inl, inr, ⊎_elim, ℕ, ◌<◌, List, [], Some, None, refl, sym, ap, ◌∙◌, subst, append-nil}
use Rattle.c_meaning.specs.World as model
use Rattle.c_meaning.specs.World.{line_of, Outcome, Ran}
use Rattle.c_machine.specs.Machine as m
use Rattle.c_machine.specs.Machine.{Conf, Next, moves}
use Rattle.c_machine.specs.Within.{measure}
use Rattle.c_machine.proofs.Growing.{end_adds_to}
use Rattle.c_machine.proofs.Measure.{stopped_stays, still_stops}
use Rattle.c_primitives.specs.declared.world.World.{World}
use Rattle.c_primitives.specs.Stops.{Wrote}
use Rattle.vlt_steps.specs.declared.stop.Stop.TheVariants.{SinkFault}
use Rattle.vlt_steps.specs.Writing.{Outside}
use Rattle.vlt_steps.proofs.Writing as writing
use Rattle.c_interp.specs.declared.rules.Rules.{Rules}
use Rattle.c_interp.specs.declared.stop.CStop.{CStop}
use Rattle.c_interp.specs.declared.stop.CStop.TheVariants.{Stopped}
use Rattle.c_interp.specs.declared.frames.Frames.{Frames}
use Rattle.c_interp.specs.declared.task.Task.{Task}
use Rattle.c_interp.specs.Shown.{tasks_of, state_of, setup_of, CameTo, Came, HasRoom}
use Rattle.c_interp.specs.Running.{IsRunning, IsFinished}
use Rattle.c_interp.proofs.Rooms.{room_next, measure_falls}

-- ---- stops

abbrev outcome_at : Next → Outcome → Outcome
outcome_at (m.goes c) o = o
outcome_at (m.stops q v) o = q

abbrev world_at : Next → model.World → model.World
world_at (m.goes c) w = w
world_at (m.stops q v) w = v

module _ (r : Rules) (ran : Ran) (w0 : model.World) (a b c : Outside) (ts new : List Task) (f g : Frames) (s q : World) (size size' : ℕ) (running : IsRunning r ran w0 a b ts f s) (room : HasRoom r ts size f s) where
  conf : Conf
  conf = record { tasks = tasks_of ts; state = state_of f running.world }

  leads_on : moves (setup_of r) running.leads.count (m.move_of (setup_of r) (tasks_of ts) (state_of f running.world)) ≡ m.stops ran.outcome ran.world
  leads_on = still_stops (setup_of r) running.leads.count (record { tasks = tasks_of ts; state = state_of f running.world }) ran.outcome ran.world running.leads.is

  pub record GoesOn : Type 0 where
    pub goes : IsRunning r ran w0 a c new g q
    pub fits : HasRoom r new size' g q
    pub falls : measure r.count q.fuel (tasks_of new) < measure r.count s.fuel (tasks_of ts)

  pub goes_on : Came size size' f g s q b c None new (λ w. m.move_of (setup_of r) (tasks_of ts) (state_of f w)) → GoesOn
  goes_on came = by (m.move_of (setup_of r) (tasks_of ts) (state_of f running.world)) refl (came.comes running.things running.world running.shown running.made) leads_on
    where
      by : (x : Next) → m.move_of (setup_of r) (tasks_of ts) (state_of f running.world) ≡ x → CameTo running.world b c None new g q x → moves (setup_of r) running.leads.count x ≡ m.stops ran.outcome ran.world → GoesOn
      by (m.stops o v) is p leads = absurd p
      by (m.goes d) is p leads = record {
        goes = record {
          things = p.things;
          world = p.world;
          shown = p.shown;
          made = p.made;
          wrote = writing.wrote_both line_of w0.events running.world.events p.world.events a b c running.wrote p.wrote;
          leads = record { count = running.leads.count; is = ap (λ l. moves (setup_of r) running.leads.count (m.on l (state_of g p.world))) (sym p.tasks) ∙ ap (λ t. moves (setup_of r) running.leads.count (m.on d.tasks t)) (sym p.state) ∙ leads };
        };
        fits = room_next r ts size f s room running.world p.world new size' g q d is p.tasks p.state came.tasks came.slots came.world came.ready;
        falls = measure_falls r ts size f s room running.world p.world new g s.fuel q.fuel d is p.tasks p.state running.shown.fuel p.shown.fuel;
      }

  pub ends_so : (stop : CStop) → Came size size' f g s q b c (Some stop) new (λ w. m.move_of (setup_of r) (tasks_of ts) (state_of f w)) → IsFinished ran w0 a c stop q
  ends_so stop came = by (m.move_of (setup_of r) (tasks_of ts) (state_of f running.world)) (came.comes running.things running.world running.shown running.made) leads_on
    where
      by : (x : Next) → CameTo running.world b c (Some stop) new g q x → moves (setup_of r) running.leads.count x ≡ m.stops ran.outcome ran.world → IsFinished ran w0 a c stop q
      by (m.goes d) p leads =
          let more = end_adds_to (setup_of r) running.leads.count (m.goes d) ran.outcome ran.world leads in
          inr (writing.cut_both line_of (Stopped SinkFault) w0.events running.world.events d.state.world.events ran.world.events more.events a b c stop running.wrote p more.are)
      by (m.stops o v) p leads =
          let same = sym (stopped_stays (setup_of r) running.leads.count o v) ∙ leads in
          let so : o ≡ ran.outcome = ap (λ x. outcome_at x o) same in
          let there : v ≡ ran.world = ap (λ x. world_at x v) same in
          ⊎_elim
          (λ e. inl (record {
            outcome = e.outcome ∙ ap (λ x. Some x) so;
            fuel = ap (λ x. x.fuel) (sym there) ∙ e.fuel;
            wrote = writing.wrote_both line_of w0.events running.world.events ran.world.events a b c running.wrote (subst (λ x. Wrote running.world x b c) there e.wrote);
          }))
          (λ k. inr (writing.cut_both line_of (Stopped SinkFault) w0.events running.world.events v.events ran.world.events [] a b c stop running.wrote k (ap (λ x. x.events) (sym there) ∙ sym (append-nil v.events))))
          p
