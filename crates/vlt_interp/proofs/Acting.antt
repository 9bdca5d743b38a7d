-- What a statement asks of its part of the machine, and what comes of it.
use Rattle.std.proofs.Common.{◌≡◌, ℕ, Bool, List, Option, None, refl, sym, subst, arith}
use Rattle.vlt_core.specs.Core.{Form, switch, scope, Block, Arms}
use Rattle.vlt_core.specs.Core as core
use Rattle.vlt_meaning_laws.specs.Machine.Machine.{at}
use Rattle.vlt_steps.specs.Writing.{Outside}
use Rattle.vlt_acts.proofs.OfHosts.Writing.{silent}
use Rattle.vlt_steps.specs.declared.stop.Stop.{Stop}
use Rattle.vlt_interp.specs.declared.tasks.task.At.TheVariants.{Jumps}
use Rattle.vlt_interp.specs.declared.tasks.task.Rules.{Rules}
use Rattle.vlt_interp.specs.declared.tasks.task.Run.{Run}
use Rattle.vlt_interp.specs.Tasks.Moves.{doing, entering, CanDo, MayDo, Does, DoesFor}
use Rattle.vlt_interp.proofs.OfTasks.Staying.{going}
use Rattle.vlt_interp.specs.Calls.Called.{CanCall, Acts}
use Rattle.vlt_interp.specs.Going.{setup_in, CanAct}

module _ (rules : Rules) (r : Run) where
  pub can_do : (form : Form) → CanAct form rules r → CanDo form rules r
  can_do form h = record {
    ready = h.ready;
    own = h.own;
    right = record { func = h.func; tasks = h.tasks; frame = h.frame; world = h.world; shown = h.shown; right = h.right };
  }

  pub may_do : (form other : Form) → form ≡ other → CanAct form rules r → MayDo other r
  may_do form other e h = subst (λ x. MayDo x r) e (record { rules = rules; can = can_do form h })

  pub may_call : (form : Form) (g : ℕ) (target : Option ℕ) (keys : List ℕ) (args : List core.Operand) → form ≡ core.call g target keys args → CanAct form rules r → CanCall g target keys args rules r
  may_call form g target keys args e h =
      let k = subst (λ x. CanAct x rules r) e h in
      record {
        ready = k.ready;
        own = k.own;
        right = record { func = k.func; tasks = k.tasks; frame = k.frame; world = k.world; shown = k.shown; right = k.right };
        known = k.known;
        external = k.lists;
      }

  -- where a switch ends doesn't matter
  pub may_switch : (form : Form) (v : ℕ) (arms : Arms) (end : ℕ) → form ≡ switch v arms end → CanAct form rules r → MayDo (switch v arms 0) r
  may_switch form v arms end e h =
      let k = subst (λ x. CanAct x rules r) e h in
      record {
        rules = rules;
        can = record {
          ready = k.ready;
          own = k.own;
          right = record { func = k.func; tasks = k.tasks; frame = k.frame; world = k.world; shown = k.shown; right = k.right };
        };
      }

  pub does_acts : (form other : Form) (new : Run) (before after : Outside) (result : Option Stop) → form ≡ other → Does (doing other) (setup_in rules r) r new before after result → Acts form rules r new before after result
  does_acts form other new before after result e h = subst (λ x. Acts x rules r new before after result) (sym e) (record { keeps = h.keeps; comes = λ f ts frame w q n. h.comes f ts frame w q })

  pub simple_acts : (form : Form) (new : Run) (before after : Outside) (result : Option Stop) → DoesFor (doing form) rules r new before after result → Acts form rules r new before after result
  simple_acts form new before after result h = record { keeps = h.keeps; comes = λ f ts frame w q n. h.comes f ts frame w q }

  pub call_acts : (form other : Form) (new : Run) (before after : Outside) (result : Option Stop) → form ≡ other → Acts other rules r new before after result → Acts form rules r new before after result
  call_acts form other new before after result e h = subst (λ x. Acts x rules r new before after result) (sym e) h

  pub scope_acts : (form : Form) (b : Block) (new : Run) (x : Outside) (result : Option Stop) → form ≡ scope b → Does (entering b) (setup_in rules r) r new x x result → Acts form rules r new x x result
  scope_acts form b new x result e h = subst (λ y. Acts y rules r new x x result) (sym e) (record { keeps = h.keeps; comes = λ f ts frame w q n. h.comes f ts frame w q })

  -- a jump
  pub jump_acts : (form : Form) (c : Bool) (x : Outside) → form ≡ core.jump c → CanAct form rules r → Acts form rules r (record r { at = Jumps c }) x x None
  jump_acts form c x e h = subst (λ y. Acts y rules r (record r { at = Jumps c }) x x None) (sym e) (record {
    keeps = record { sound = h.ready.room.heap; size = record { heap = refl; slots = refl }; width = refl; values = omega arith; tasks = omega arith; line = omega arith };
    comes = λ f ts frame w q n.
        let runs = (going q.items r f r.at frame w q.step).runs in
        record {
          shown = record {
            items = q.items;
            holds = q.holds;
            func = q.func;
            shown = q.shown;
            step = record { same = refl; runs = record { objects = runs.objects; frame_shown = runs.frame_shown; names = runs.names; running = runs.running; depth = runs.depth; hosts = runs.hosts; fuel = runs.fuel } };
          };
          wrote = silent w w x refl;
        };
  })
