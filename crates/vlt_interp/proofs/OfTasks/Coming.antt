-- Where a part of a move comes to, from where its step comes to.
use Rattle.std.proofs.Common.{◌≡◌, ⊎_elim, inl, inr, true, List, Option, Some, None, Result, Ok, Err, refl, sym, ◌∙◌, subst, ℤ}
use Rattle.vlt_core.specs.Core.{Func}
use Rattle.vlt_ops.specs.declared.TrapKind.{TrapKind}
use Rattle.vlt_meaning.specs.World.{line_of, World, Frame, Outcome, trap, is_fault}
use Rattle.vlt_meaning.specs.Found.{Found}
use Rattle.vlt_meaning.specs.Step.{Step, goes, jumps, leaves, ends}
use Rattle.vlt_meaning_laws.specs.Machine.Machine as m
use Rattle.vlt_meaning_laws.specs.Machine.Machine.{Conf, at, when_found}
use Rattle.vlt_meaning_laws.specs.Machine.Bounds.{IsAt}
use Rattle.vlt_acts.specs.Values.Shown.{IsNumber}
use Rattle.vlt_acts.proofs.OfValues.Numbers.{Faulty, number_is, trap_is}
use Rattle.vlt_steps.specs.declared.stop.Stop.{Stop}
use Rattle.vlt_acts.specs.Hosts.Hosts.{Comes}
use Rattle.vlt_steps.specs.Writing.{Outside}
use Rattle.vlt_acts.specs.Hosts.Stops.{Wrote, IsCut}
use Rattle.vlt_steps.proofs.Writing as writing
use Rattle.vlt_acts.proofs.OfHosts.Writing.{silent}
use Rattle.vlt_steps.specs.declared.stop.Stop.TheVariants.{Trap, SinkFault}
use Rattle.vlt_interp.specs.declared.tasks.task.Run.{Run}
use Rattle.vlt_interp.specs.Tasks.Halting.{stop_of_result}
use Rattle.vlt_interp.specs.Tasks.Shown.{ShowsConf}
use Rattle.vlt_interp.specs.Tasks.Moves.{GoneOn, CameTo}
use Rattle.vlt_interp.proofs.OfTasks.Staying.{IsSameRun, ShowsThen, stays_left}

-- where a configuration is come to
abbrev pub Came : World → (before after : Outside) → Option Stop → Run → Conf → Type 0
Came w before after result r c = CameTo w before after result r c c.step

-- where the run goes wrong, any answer will do
pub wrong_came : (w : World) (before after : Outside) (result : Option Stop) (r : Run) (c : Conf) (o : Outcome) (v : World) → is_fault o ≡ true → CameTo w before after result r c (ends o v)
wrong_came w before after None r c o v e = e
wrong_came w before after (Some stop) r c o v e = inl e

-- what comes since a world with the same events
module _ (w u : World) (before after : Outside) (r : Run) (same : u.events ≡ w.events) where
  wrote_since : (v : World) → Wrote u v before after → Wrote w v before after
  wrote_since v h = writing.wrote_since line_of u.events w.events v.events before after same h

  cut_since : (stop : Stop) (v : World) → IsCut u before after stop v → IsCut w before after stop v
  cut_since stop v h = writing.cut_since line_of SinkFault u.events w.events v.events before after stop same h

  gone_since : (c : Conf) (v : World) → GoneOn u before after r c v → GoneOn w before after r c v
  gone_since c v h = record { shown = h.shown; wrote = wrote_since v h.wrote }

  pub came_since : (result : Option Stop) (c : Conf) (a : Step) → CameTo u before after result r c a → CameTo w before after result r c a
  came_since None c (ends o v) h = h
  came_since None c (goes frame v) h = gone_since c v h
  came_since None c (jumps k frame v) h = gone_since c v h
  came_since None c (leaves k kept v) h = gone_since c v h
  came_since (Some stop) c (ends o v) h =
      ⊎_elim (λ e. inl e) (λ k. inr (⊎_elim (λ s. inl (record { outcome = s.outcome; fuel = s.fuel; wrote = wrote_since v s.wrote })) (λ x. inr (cut_since stop v x)) k)) h
  came_since (Some stop) c (goes frame v) h = cut_since stop v h
  came_since (Some stop) c (jumps k frame v) h = cut_since stop v h
  came_since (Some stop) c (leaves k kept v) h = cut_since stop v h

-- ---- statements that speak with the host

module _ (old new : Run) (f : Func) (ts : List m.Task) (frame : Frame) (w : World) (before after : Outside) (q : ShowsConf old (at f ts (goes frame w))) (same : IsSameRun old new) where
  -- it goes on where the tables show it
  pub went : (next : Frame) (v : World) → ShowsThen q.items new next frame.depth v → Wrote w v before after → GoneOn w before after new (at f ts (goes next v)) v
  went next v h wrote = record {
    shown = stays_left old new f ts frame w next v same q h;
    wrote = wrote;
  }

  -- what the host's part comes to
  pub spoken_came : (r : Result (Unit {0}) Stop) (a : Step) → w.fuel ≡ new.fuel → IsAt frame.depth a → Comes q.items new.heap new.values new.host before after r w a → CameTo w before after (stop_of_result r) new (at f ts a) a
  spoken_came (Ok u) (goes next v) fuel d c = went next v (record { tables = c.shows; depth = d; hosts = c.hosts; fuel = c.fuel ∙ fuel }) c.wrote
  spoken_came (Ok u) (ends o v) fuel d c = c
  spoken_came (Ok u) (jumps b next v) fuel d c = absurd c
  spoken_came (Ok u) (leaves b kept v) fuel d c = absurd c
  spoken_came (Err h) (goes next v) fuel d c = c
  spoken_came (Err h) (ends o v) fuel d c =
      ⊎_elim (λ e. inl e) (λ c. inr (⊎_elim (λ e. inl (record { outcome = e.outcome; fuel = e.fuel ∙ fuel; wrote = e.wrote })) (λ k. inr k) c)) c
  spoken_came (Err h) (jumps b next v) fuel d c = absurd c
  spoken_came (Err h) (leaves b kept v) fuel d c = absurd c

-- ---- expressions that may trap

module _ (w : World) (b : Outside) (new : Run) (f : Func) (ts : List m.Task) where
  -- a trap ends the run
  pub trap_came : (t : TrapKind) (c : Conf) → w.fuel ≡ new.fuel → CameTo w b b (Some (Trap t)) new c (ends (trap t) w)
  trap_came t c fuel = inr (inl (record { outcome = refl; fuel = fuel; wrote = silent w w b refl }))

  -- where what is wanted isn't found the run goes wrong
  pub missing_came : {A : Type 0} (result : Option Stop) (x : Found A) (go : A → Conf) → Faulty x → Came w b b result new (when_found x f ts w go)
  unfolding when_found
  missing_came result x go k = subst (λ y. Came w b b result new (when_found y f ts w go)) (sym k.is) (wrong_came w b b result new (at f ts (ends k.outcome w)) k.outcome w k.fault)

  pub found_came : {A : Type 0} (result : Option Stop) (x : Found A) (a : A) (go : A → Conf) → x ≡ Ok a → Came w b b result new (go a) → Came w b b result new (when_found x f ts w go)
  unfolding when_found
  found_came result x a go e h = subst (λ y. Came w b b result new (when_found y f ts w go)) (sym e) h

  -- a number is found
  pub number_came : (z : ℤ) (result : Option Stop) (x : Found ℤ) (go : ℤ → Conf) → IsNumber (Ok z) x → Came w b b result new (go z) → Came w b b result new (when_found x f ts w go)
  number_came z result x go e h = ⊎_elim (λ k. found_came result x z go k h) (λ k. missing_came result x go k) (number_is (Ok z) x z e refl)

  -- the expression traps
  pub trapped_came : (t : TrapKind) (x : Found ℤ) (go : ℤ → Conf) → w.fuel ≡ new.fuel → IsNumber (Err t) x → Came w b b (Some (Trap t)) new (when_found x f ts w go)
  unfolding when_found
  trapped_came t x go fuel e =
      ⊎_elim (λ k. subst (λ y. Came w b b (Some (Trap t)) new (when_found y f ts w go)) (sym k) (trap_came t (at f ts (ends (trap t) w)) fuel)) (λ k. missing_came (Some (Trap t)) x go k) (trap_is (Err t) x t e refl)
