-- What functions come to that change tasks and frames alone.
use Rattle.std.proofs.Common.{◌≡◌, inl, inr, ⊎_elim, ℕ, List, Option, Some, None, Ok, Err, refl, sym, ap, ◌∙◌, subst}
use Rattle.std.proofs.lemmas.Option.{none-some}
use Rattle.vlt_rings.specs.Things.{Things}
use Rattle.c_syntax.specs.declared.program.CVar.{CVar}
use Rattle.c_meaning.specs.World.{Outcome, undefined}
use Rattle.c_meaning.specs.Primitives.{Effect, gives, breaks_rule, ends}
use Rattle.c_values.specs.declared.value.Value.{Value}
use Rattle.c_values.specs.Shown.{AreMadeSlots}
use Rattle.c_primitives.specs.declared.halt.Halt.{Halt}
use Rattle.c_primitives.specs.declared.halt.Halt.TheVariants as halt
use Rattle.c_primitives.specs.declared.world.World.{World}
use Rattle.c_primitives.specs.Shown.{Shows, Comes}
use Rattle.c_primitives.specs.Stops.{halt_outcome, Wrote, IsCut as IsCutHere}
use Rattle.vlt_steps.specs.Writing.{Outside}
use Rattle.c_primitives.proofs.Coming.{silent}
use Rattle.c_interp.specs.Halting.{outcome_of, stop_for, IsCut}
use Rattle.c_interp.proofs.Setting.{slots_kept}
use Rattle.c_meaning.specs.World as model
use Rattle.c_machine.specs.Machine as m
use Rattle.c_machine.specs.Machine.{Next, State}
use Rattle.c_interp.specs.declared.stop.CStop.{CStop}
use Rattle.c_interp.specs.declared.stop.CStop.TheVariants.{Undefined}
use Rattle.c_interp.specs.declared.frames.Frames.{Frames}
use Rattle.c_interp.specs.declared.task.Task.{Task}
use Rattle.c_interp.specs.Shown.{tasks_of, state_of, given_view, IsPlain, KeepsFrames, CameTo}

pub plain_at : (r : Option CStop) (ts : List Task) (f : Frames) (w : model.World) (x y : Next) → y ≡ x → IsPlain r ts f w x → IsPlain r ts f w y
plain_at r ts f w x y e h = subst (IsPlain r ts f w) (sym e) h

pub plain_on : (ts : List Task) (f : Frames) (w : model.World) (us : List m.Task) (s : State) → us ≡ tasks_of ts → s ≡ state_of f w → IsPlain None ts f w (m.on us s)
plain_on ts f w us s e g = (e, g)

pub plain_stop : (r : Option CStop) (n : ℕ) (ts : List Task) (f : Frames) (w : model.World) → r ≡ Some (Undefined 6 n) → IsPlain r ts f w (m.stops (undefined 6 n) w)
plain_stop r n ts f w e = rw e (refl, refl)

-- ---- what that is in all

module _ (w v : model.World) (before after : Outside) (ts : List Task) (f : Frames) (s : World) (things : Things) where
  pub plain_came : (result : Option CStop) (x : Next) → Shows s things v → AreMadeSlots things f.values.items → Wrote w v before after → IsPlain result ts f v x → CameTo w before after result ts f s x
  plain_came None (m.goes c) h made wrote p = record { things = things; world = v; tasks = p.0; state = p.1; shown = h; made = made; wrote = wrote }
  plain_came None (m.stops o u) h made wrote p = absurd p
  plain_came (Some stop) (m.goes c) h made wrote p = absurd p
  plain_came (Some stop) (m.stops o u) h made wrote p = inl (record { outcome = p.0; fuel = ap (λ x. x.fuel) p.1 ∙ h.fuel; wrote = subst (λ x. Wrote w x before after) (sym p.1) wrote })

stop_outcome : (n : ℕ) (h : Halt) (o : Outcome) → halt_outcome h ≡ Some o → outcome_of (stop_for n h) ≡ Some o
stop_outcome n (halt.Broken r) o e = absurd (none-some o e)
stop_outcome n (halt.Stopped stop) o e = e

module _ (n : ℕ) (target : Option CVar) (things : Things) (s : World) (w : model.World) (before after : Outside) (ts : List Task) (f : Frames) where
  -- a statement gives a value or none
  pub after_given : (g : Frames) (value : Option Value) (result : Option CStop) (e : Effect) → AreMadeSlots things f.values.items → Comes things s w before after (Ok value) e
      → ((u : model.World) → IsPlain result ts g u (m.after_receiving n target (given_view value) (tasks_of ts) (state_of f u))) → KeepsFrames value f g → CameTo w before after result ts g s (m.after n target e (tasks_of ts) (state_of f w))
  unfolding m.after
  after_given g value result (gives v u) made c plain kept =
      plain_came w u before after ts g s c.things result _ c.shown (kept.made c.things c.made (slots_kept things c.things c.kept f.values.items made)) c.wrote
      (subst (λ x. IsPlain result ts g u (m.after_receiving n target x (tasks_of ts) (state_of f u))) c.value (plain u))
  after_given g value result (breaks_rule r) made c plain kept = absurd c
  after_given g value result (ends o u) made c plain kept = absurd c

  cut_at : (h : Halt) (v : model.World) → IsCutHere w before after h v → IsCut w before after (stop_for n h) v
  cut_at h v c = record { fault = ap (stop_for n) c.fault; events = c.events; added = c.added; grew = c.grew; rose = c.rose; counted = c.counted }

  after_stop : (h : Halt) (e : Effect) → Comes things s w before after (Err h) e → CameTo w before after (Some (stop_for n h)) ts f s (m.after n target e (tasks_of ts) (state_of f w))
  unfolding m.after
  after_stop h (gives v u) c = by target v
    where
      by : (t : Option CVar) (v : Option model.Value) → CameTo w before after (Some (stop_for n h)) ts f s (m.after_receiving n t v (tasks_of ts) (state_of f u))
      by None v = cut_at h u c
      by (Some x) None = inr (cut_at h u c)
      by (Some x) (Some a) = cut_at h u c
  after_stop h (breaks_rule r) c = inl (record { outcome = ap (λ x. outcome_of (stop_for n x)) c.is; fuel = c.fuel; wrote = subst (λ b. Wrote w w before b) (sym c.silent) (silent w w before refl) })
  after_stop h (ends o u) c = ⊎_elim (λ e. inl (record { outcome = stop_outcome n h o e.outcome; fuel = e.fuel; wrote = e.wrote })) (λ k. inr (cut_at h u k)) c

  -- or it ends the run
  pub after_halt : (h : Halt) (stop : CStop) (e : Effect) → stop ≡ stop_for n h → Comes things s w before after (Err h) e → CameTo w before after (Some stop) ts f s (m.after n target e (tasks_of ts) (state_of f w))
  after_halt h stop e is c = rw is (after_stop h e c)
