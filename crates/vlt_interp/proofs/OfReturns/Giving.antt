-- A function is left.
use Rattle.std.proofs.Common.{◌≡◌, inl, inr, ◌≤◌, ◌+◌, ◌*◌, ℕ, zero, suc, List, length, Option, Some, None, Result, Ok, Err, refl, sym, ap, ◌∙◌, subst, arith}
use Rattle.std.specs.Vec.{vec_capacity}
use Rattle.vlt_ops.specs.declared.TrapKind.{TrapKind}
use Rattle.vlt_core.specs.Core.{Operand, return, Func}
use Rattle.vlt_core.specs.View.{func_of, program_of}
use Rattle.vlt_meaning.specs.World.{World, Frame, trap, fault, done, fuel_end, heap_end, depth_end, input_end, answers_end, bad_answer}
use Rattle.vlt_meaning.specs.Step.{Step, goes, jumps, leaves, ends}
use Rattle.vlt_meaning.specs.Run.{Setup, left_function}
use Rattle.vlt_meaning.specs.Calls.{with_returned}
use Rattle.vlt_meaning_laws.specs.Machine.Machine as m
use Rattle.vlt_meaning_laws.specs.Machine.Machine.{at}
use Rattle.vlt_acts.specs.declared.values.values.Values.{Values}
use Rattle.vlt_acts.specs.Values.Shown.{IsTable, IsGrown}
use Rattle.vlt_acts.specs.Frames.Frames.{IsLike}
use Rattle.vlt_acts.specs.Frames.Left.{IsLeft, Gives}
use Rattle.vlt_acts.specs.Hosts.Hosts.{ShowsHost}
use Rattle.vlt_steps.specs.Writing.{Outside}
use Rattle.vlt_acts.proofs.OfHosts.Writing.{silent}
use Rattle.vlt_steps.specs.declared.stop.Stop.TheVariants.{Trap}
use Rattle.vlt_interp.specs.declared.tasks.task.At.TheVariants.{Leaves}
use Rattle.vlt_interp.specs.declared.tasks.task.Run.{Run}
use Rattle.vlt_interp.specs.Tasks.Sizes.{frame_slots}
use Rattle.vlt_interp.specs.Tasks.Shown.{tasks_left, ShowsTasks, ShowsConf}
use Rattle.vlt_interp.specs.Tasks.Moves.{Keeps, CameTo, doing, MayDo, Does}
use Rattle.vlt_interp.proofs.OfTasks.Stacks.{tasks_kept}
use Rattle.vlt_interp.proofs.OfTasks.Staying.{going, running_table}
use Rattle.vlt_interp.proofs.OfTasks.Inside.{IsInside}
use Rattle.vlt_interp.proofs.OfReturns.Silence.{returned_inside}

-- what is asked of the table
pub given_table : (o : Option Operand) (r : Run) → MayDo (return o) r → IsTable r.values
given_table o r h =
    let q = h.can.right.shown in
    running_table r h.can.right.func (going q.items r h.can.right.func r.at h.can.right.frame h.can.right.world q.step).runs.running

pub given_room : (o : Option Operand) (r : Run) → MayDo (return o) r → length r.values.slots.items + r.values.width ≤ vec_capacity r.values.slots
given_room o r h =
    let p = program_of h.rules.program.now in
    let w = r.values.width in
    let a = h.can.ready.values in
    let b = h.can.ready.room.values in
    let c = square w h.can.ready.room.wide.some in
    let d = one_more h.rules.depth (frame_slots p w) in
    omega (arith, a, b, c, d)
  where
    square : (n : ℕ) → 1 ≤ n → n ≤ n * n
    square zero e = omega (arith, e)
    square (suc n) e = omega arith

    one_more : (d s : ℕ) → d * s ≤ (d + 1) * s
    one_more d s = let e : (d + 1) * s ≡ d * s + s = omega arith in omega (arith, e)

-- where the table has what was given
module _ (o : Option Operand) (old : Run) (values : Values) (can : MayDo (return o) old) (grown : IsGrown old.values values) (long : length old.values.slots.items ≤ length values.slots.items) (room : vec_capacity old.values.slots ≤ vec_capacity values.slots) where
  abbrev given : Run
  given = record old { values = values }

  abbrev gone : Run
  gone = record old { values = values; at = Leaves }

  given_keeps : Keeps old given
  given_keeps = record { sound = can.can.ready.room.heap; size = record { heap = refl; slots = refl }; width = grown.width; values = room; tasks = omega arith; line = omega arith }

  gone_keeps : Keeps old gone
  gone_keeps = record { sound = can.can.ready.room.heap; size = record { heap = refl; slots = refl }; width = grown.width; values = room; tasks = omega arith; line = omega arith }

  still_table : IsTable old.values → IsTable values
  still_table t = let e : values.base + values.vars * values.width ≡ old.values.base + old.values.vars * old.values.width = rw (grown.base, grown.vars, grown.width) refl in omega (arith, t, e, long)

  module _ (f : Func) (ts : List m.Task) (frame : Frame) (w : World) (b : Outside) (q : ShowsConf old (at f ts (goes frame w))) where
    tasks_still : ShowsTasks q.items values values.base old.depth (tasks_left old) ts
    tasks_still =
        let low : old.values.base ≤ length old.values.slots.items = (let t = running_table old f (going q.items old f old.at frame w q.step).runs.running in omega (arith, t)) in
        subst (λ n. ShowsTasks q.items values n old.depth (tasks_left old) ts) (sym grown.base)
        (tasks_kept q.items q.items old.values values old.values.base old.depth (tasks_left old) ts (record { keep = λ c n h. h; width = grown.width; same = λ j l. grown.same j (omega (arith, l, low)) }) q.shown)

    hosts_still : (v : World) → IsInside w (goes frame v) → ShowsHost old.host v
    hosts_still v i =
        let runs = (going q.items old f old.at frame w q.step).runs in
        record { input = i.same.input ∙ runs.hosts.input; answers = i.same.answers ∙ runs.hosts.answers; taken = i.same.taken ∙ runs.hosts.taken }

    fuel_still : (v : World) → IsInside w (goes frame v) → v.fuel ≡ old.fuel
    fuel_still v i = i.same.fuel ∙ (going q.items old f old.at frame w q.step).runs.fuel

    -- the function is left
    left_came : (a : Step) → IsInside w a → IsLeft q.items values f (Ok tt) a → CameTo w b b None gone (at f ts a) a
    left_came (leaves x kept v) i h = record {
      shown = record {
        items = q.items;
        holds = q.holds;
        func = q.func;
        shown = tasks_still;
        step = record {
          left = h.1;
          table = still_table (running_table old f (going q.items old f old.at frame w q.step).runs.running);
          hosts = hosts_still v (record { same = i.same });
          fuel = fuel_still v (record { same = i.same });
        };
      };
      wrote = silent w v b i.same.events;
    }
    left_came (goes frame2 v) i h = absurd h
    left_came (jumps c frame2 v) i h = absurd h
    left_came (ends (trap t) v) i h = absurd (no_trap t h)
      where
        no_trap : (t : TrapKind) → ◌≡◌ {A = Result (Unit {0}) TrapKind} (Ok tt) (Err t) → ⊥
        no_trap t e = cc
    left_came (ends done v) i h = h
    left_came (ends fuel_end v) i h = h
    left_came (ends heap_end v) i h = h
    left_came (ends depth_end v) i h = h
    left_came (ends input_end v) i h = h
    left_came (ends answers_end v) i h = h
    left_came (ends (bad_answer n) v) i h = h
    left_came (ends (fault s n) v) i h = h

    -- the operand trapped
    trap_came : (t : TrapKind) (a : Step) → IsInside w a → IsLeft q.items values f (Err t) a → CameTo w b b (Some (Trap t)) given (at f ts a) a
    trap_came t (leaves x kept v) i h = absurd (no_value t h.0)
      where
        no_value : (t : TrapKind) → ◌≡◌ {A = Result (Unit {0}) TrapKind} (Err t) (Ok tt) → ⊥
        no_value t e = cc
    trap_came t (goes frame2 v) i h = absurd h
    trap_came t (jumps c frame2 v) i h = absurd h
    trap_came t (ends (trap u) v) i h = inr (inl (record { outcome = ap (λ x. Some (trap x)) (same_trap t u h); fuel = fuel_still v (record { same = i.same }); wrote = silent w v b i.same.events }))
      where
        same_trap : (t u : TrapKind) → ◌≡◌ {A = Result (Unit {0}) TrapKind} (Err t) (Err u) → t ≡ u
        same_trap t u e = cc
    trap_came t (ends done v) i h = inl h
    trap_came t (ends fuel_end v) i h = inl h
    trap_came t (ends heap_end v) i h = inl h
    trap_came t (ends depth_end v) i h = inl h
    trap_came t (ends input_end v) i h = inl h
    trap_came t (ends answers_end v) i h = inl h
    trap_came t (ends (bad_answer n) v) i h = inl h
    trap_came t (ends (fault s n) v) i h = inl h

  -- what is given, in each instance of the function
  abbrev pub GivesAll : Result (Unit {0}) TrapKind → Type 0
  GivesAll result = (g : Func) → IsLike (func_of old.func.now) g → Gives g o old.heap old.values values result

  here : (s : Setup) (result : Result (Unit {0}) TrapKind) (f : Func) (ts : List m.Task) (frame : Frame) (w : World) (q : ShowsConf old (at f ts (goes frame w))) → GivesAll result
      → IsLeft q.items values f result (with_returned s.program f o frame w (λ a frame w. left_function s f o a frame w))
  here s result f ts frame w q gives =
      let runs = (going q.items old f old.at frame w q.step).runs in
      gives f q.func (record { program = s.program; func = f; frame = frame; objects = w.objects; items = q.items; holds = q.holds; shown = runs.objects; fits = runs.frame_shown }) w s refl refl refl

  pub left_does : GivesAll (Ok tt) → (s : Setup) (b : Outside) → Does (doing (return o)) s old gone b b None
  left_does gives s b = record {
    keeps = gone_keeps;
    comes = λ f ts frame w q. left_came f ts frame w b q (with_returned s.program f o frame w (λ a frame w. left_function s f o a frame w)) (returned_inside s f o frame w) (here s (Ok tt) f ts frame w q gives);
  }

  pub trap_does : (t : TrapKind) → GivesAll (Err t) → (s : Setup) (b : Outside) → Does (doing (return o)) s old given b b (Some (Trap t))
  trap_does t gives s b = record {
    keeps = given_keeps;
    comes = λ f ts frame w q. trap_came f ts frame w b q t (with_returned s.program f o frame w (λ a frame w. left_function s f o a frame w)) (returned_inside s f o frame w) (here s (Err t) f ts frame w q gives);
  }
