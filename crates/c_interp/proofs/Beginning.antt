-- The start of a run.
use Rattle.std.proofs.Common.{◌≡◌, ℕ, zero, suc, ◌+◌, ◌*◌, ◌≤◌, max, false, List, [], ◌∷◌, ◌++◌, length, replicate, Option, Some, None, refl, sym, ap, ◌∙◌, subst, arith, vec_capacity, slice_get}
use Rattle.std.proofs.lemmas.Option.{none-some, same_Some}
use Rattle.std.proofs.lemmas.List.{length-append, nil_from_length}
use Rattle.vlt_numbers.specs.HostAnswers.{lists_of}
use Rattle.c_syntax.specs.declared.program.CStmt.{CStmt}
use Rattle.c_syntax.specs.View.{func_of, stmts_of, program_of}
use Rattle.c_syntax.specs.C.{Func, Program}
use Rattle.c_meaning.specs.World as model
use Rattle.c_meaning.specs.Run.{Numbered, main_of, number_at, count_in, count_in_all}
use Rattle.c_machine.specs.Machine as m
use Rattle.c_machine.specs.Machine.{State, first_conf}
use Rattle.c_meaning.specs.Widths.{names_of, most, width_of, value_slots}
use Rattle.c_machine.specs.Bounds.{sizes_of, Fits}
use Rattle.c_machine.specs.Within.{longest_name, AreWithin}
use Rattle.c_machine.proofs.Starting.{first_fits}
use Rattle.c_machine.proofs.Theorems.{machine_is_right}
use Rattle.c_machine.proofs.Within.{main_within}
use Rattle.c_values.specs.declared.value.Value.{Value}
use Rattle.c_values.specs.Shown.{shown_slots, AreMadeSlots}
use Rattle.c_primitives.specs.declared.world.World.{World}
use Rattle.vlt_steps.specs.Writing.{Outside}
use Rattle.c_primitives.proofs.Coming.{silent}
use Rattle.c_interp.specs.declared.rules.Found.{Found}
use Rattle.c_interp.specs.declared.rules.Rules.{Rules}
use Rattle.c_interp.specs.declared.frames.Frames.{Frames}
use Rattle.c_interp.specs.declared.task.Task.{Task}
use Rattle.c_interp.specs.declared.task.Task.TheVariants.{List as Listed, Bottom}
use Rattle.std.specs.Borrow.{Bor}
use Rattle.c_interp.specs.Calling.{numbered_of}
use Rattle.c_interp.specs.Shown.{tasks_of, state_of, setup_of, HasRoom}
use Rattle.c_interp.specs.Running.{start_of, run_of, IsRunning, CanRun}
use Rattle.c_interp.proofs.Tasks.{pushed_two}
use Rattle.c_interp.proofs.Setting.{made_none}

one_less : (d v : ℕ) → (d + 1) * v ≡ d * v + v
one_less d v = omega arith

wide_at : (n : ℕ) (fs : List Func) (i : ℕ) (g : Numbered) → number_at n fs i ≡ Some g → width_of g.func ≤ most width_of fs
wide_at n [] i g is = absurd (none-some g is)
wide_at n (x ∷ fs) zero g is = subst (λ y. width_of y.func ≤ max (width_of x) (most width_of fs)) (same_Some (record { func = x; first = n }) g is) (omega arith)
wide_at n (x ∷ fs) (suc i) g is = let k = wide_at (n + count_in x.body) fs i g is in omega (arith, k)

main_width : (p : Program) (g : Numbered) → main_of p ≡ Some g → width_of g.func ≤ value_slots p
main_width p g is = let k = wide_at (count_in_all p.glue) p.fns p.main g is in omega (arith, k)

none_made : (xs : List (Option Value)) → xs ≡ [] → AreMadeSlots [] xs
none_made xs is k a at = absurd (none-some (Some a) (ap (λ l. slice_get l k) (sym is) ∙ at))

module _ (r : Rules) (main : Found) (old : List Task) (task_room : ℕ) (values : List (Option Value)) (room : ℕ) (s : World) (h : CanRun r main old task_room values room s) where
  pub frame_room : length values + length (func_of main.func.now).vars ≤ room
  frame_room =
      let a = length-append (func_of main.func.now).params (func_of main.func.now).vars in
      let v = h.room_of_values in
      let n = h.no_values in
      let w : width_of (func_of main.func.now) ≤ value_slots (program_of r.program.now) = main_width (program_of r.program.now) (numbered_of main) h.first in
      let d = one_less r.depth (value_slots (program_of r.program.now)) in
      omega (arith, a, v, n, w, d)

  module _ (f : Frames) (us vs : List Task) (body : Bor (List CStmt)) (size : ℕ) (func : f.func ≡ main.func) (base : f.base ≡ 0) (glue : f.is_glue ≡ false) (depth : f.depth ≡ 1)
      (items : f.values.items ≡ values ++ replicate (length (func_of main.func.now).vars) None) (kept : room ≤ vec_capacity f.values)
      (e : us ≡ old ++ Bottom main.func.now.result ∷ []) (e2 : vs ≡ us ++ Listed main.first body ∷ []) (is : body.now ≡ main.func.now.body) (more : task_room ≤ size) where
    empty : old ≡ []
    empty = nil_from_length old h.no_tasks

    no_value : values ≡ []
    no_value = nil_from_length values h.no_values

    tasks_first : (w : model.World) → tasks_of vs ≡ (first_conf (numbered_of main) w).tasks
    tasks_first w = pushed_two old us vs (Bottom main.func.now.result) (Listed main.first body) e e2 ∙ ap (λ l. m.list main.first (stmts_of l) ∷ m.bottom main.func.now.result ∷ tasks_of old) is ∙ ap (λ ts. m.list main.first (stmts_of main.func.now.body) ∷ m.bottom main.func.now.result ∷ tasks_of ts) empty

    nones : (k : ℕ) → shown_slots (replicate k None) ≡ replicate k None
    nones zero = refl
    nones (suc k) = ap (λ l. None ∷ l) (nones k)

    slots_first : shown_slots f.values.items ≡ replicate (length (func_of main.func.now).vars) None
    slots_first = ap shown_slots (items ∙ ap (λ l. l ++ replicate (length (func_of main.func.now).vars) None) no_value) ∙ nones (length (func_of main.func.now).vars)

    state_first : (w : model.World) → state_of f w ≡ (first_conf (numbered_of main) w).state
    state_first w =
        ap {B = State} (λ l. record { slots = l; base = f.base; names = names_of (func_of f.func.now); is_glue = f.is_glue; depth = f.depth; world = w }) slots_first
        ∙ ap {B = State} (λ x. record { slots = replicate (length (func_of main.func.now).vars) None; base = x; names = names_of (func_of f.func.now); is_glue = f.is_glue; depth = f.depth; world = w }) base
        ∙ ap {B = State} (λ x. record { slots = replicate (length (func_of main.func.now).vars) None; base = 0; names = names_of (func_of x.now); is_glue = f.is_glue; depth = f.depth; world = w }) func
        ∙ ap {B = State} (λ x. record { slots = replicate (length (func_of main.func.now).vars) None; base = 0; names = names_of (func_of main.func.now); is_glue = x; depth = f.depth; world = w }) glue
        ∙ ap {B = State} (λ x. record { slots = replicate (length (func_of main.func.now).vars) None; base = 0; names = names_of (func_of main.func.now); is_glue = false; depth = x; world = w }) depth

    pub first_room : HasRoom r vs size f s
    first_room = record {
      rules = h.rules;
      fits = λ w. subst (λ l. Fits (sizes_of (program_of r.program.now)) r.depth l (state_of f w)) (sym (tasks_first w)) (subst (Fits (sizes_of (program_of r.program.now)) r.depth (first_conf (numbered_of main) w).tasks) (sym (state_first w)) (first_fits (program_of r.program.now) r.depth (numbered_of main) w h.first h.some h.no_params));
      within = subst (AreWithin r.count (longest_name (program_of r.program.now))) (sym (tasks_first (start_of s))) (let k = main_within (program_of r.program.now) (numbered_of main) h.first in (omega (arith, k.numbers, h.rules.count), k.names, tt));
      tasks = omega (arith, h.room_of_tasks, more);
      slots = omega (arith, h.room_of_values, kept);
      cells = h.cells;
      name = h.name;
      heap = h.heap;
      ready = h.ready;
    }

    pub first_running : (b : Outside) → IsRunning r (run_of r s) (start_of s) b b vs f s
    first_running b =
        let lead = machine_is_right (program_of r.program.now) s.fuel r.heap r.depth s.input.now (lists_of s.answers.now) (numbered_of main) h.runnable h.first h.no_params h.some in
        record {
          things = [];
          world = start_of s;
          shown = h.shown;
          made = subst (AreMadeSlots []) (sym items) (made_none [] values (length (func_of main.func.now).vars) (none_made values no_value));
          wrote = silent (start_of s) (start_of s) b refl;
          leads = record { count = lead.count; is = ap (λ ts. m.moves (setup_of r) lead.count (m.on ts (state_of f (start_of s)))) (tasks_first (start_of s)) ∙ ap (λ st. m.moves (setup_of r) lead.count (m.on (first_conf (numbered_of main) (start_of s)).tasks st)) (state_first (start_of s)) ∙ lead.is };
        }
