-- The tables suffice.
use Rattle.std.proofs.Common.{◌≡◌, ℕ, suc, ◌+◌, ◌-◌, ◌*◌, ◌<◌, ◌≤◌, ◌==◌, ◌&&◌, not, Bool, true, false, if◌then◌else◌, List, [], ◌∷◌, length, take, drop, Option, Some, None, Result, Ok, Err, refl, sym, ap, ◌∙◌, subst, arith}
use Rattle.std.proofs.lemmas.Bool.{false≢true}
use Rattle.std.proofs.lemmas.Bool.Decides.{nat_tests}
use Rattle.std.proofs.Math.Nat.{mul-le-mul_right}
use Rattle.std.proofs.lemmas.List.{length-append, length-take, length-drop}
use Rattle.vlt_ops.specs.Operator.{is_true}
use Rattle.c_syntax.specs.declared.program.CResult.{CResult}
use Rattle.c_syntax.specs.declared.program.CResult.TheVariants as result
use Rattle.c_syntax.specs.declared.program.CVar.{CVar}
use Rattle.c_syntax.specs.declared.program.CName.{CName}
use Rattle.c_syntax.specs.C as c
use Rattle.c_syntax.specs.C.{Arg, Call, Stmt, Stmts, Func}
use Rattle.c_syntax.specs.Kinds.{same_variable}
use Rattle.c_meaning.specs.World.{Value, World, fuel_end, depth_end, undefined}
use Rattle.c_meaning.specs.Values.{arg_values}
use Rattle.c_meaning.specs.Primitives.{Effect, gives, breaks_rule, ends}
use Rattle.c_meaning.specs.Run.{Setup, Numbered, count_in_stmt, count_in, function_of, depth_in, has_room, can_call}
use Rattle.c_machine.specs.Machine.{with_value_under, first_values, Task, list, again, back, bottom, State, Next, stops, on, vars_in, frame_in, with_world, with_slot, after_receiving, after, with_found, depth_out, caller_state, leave, break_to, continue_to, body_end, spend, callee_state, caller_of, enter, call_found, does_call, act, move_of}
use Rattle.c_machine.specs.Bounds.{need, inner, need_of, Sizes, both_widths, width_in, room_in, one_unless, reach, frames, FrameFits, CallersFit, Fits, FitsNext}
use Rattle.c_meaning.specs.Widths.{cells_in, cells_in_stmt, width_of, cells_of}
use Rattle.c_machine.proofs.Names.{first_long}
use Rattle.c_machine.proofs.Leading.{args_long}

need_some : (ss : Stmts) → 1 ≤ need ss
need_some c.done = omega arith
need_some (c.next x xs) = let k = need_some xs in omega (arith, k)

pub length_reach : (ts : List Task) → length ts ≤ reach ts
length_reach [] = omega arith
length_reach (list n ss ∷ ts) = let i = need_some ss in omega (arith, i)
length_reach (again n b ∷ ts) = omega arith
length_reach (back k ∷ ts) = omega arith
length_reach (bottom g ∷ ts) = omega arith

filed_same : (vs : List CVar) (xs : List (Option Value)) (v : CVar) (a : Value) → length (with_value_under vs xs v a) ≡ length xs
filed_same [] xs v a = refl
filed_same (w ∷ vs) [] v a = refl
filed_same (w ∷ vs) (x ∷ xs) v a = by (same_variable v w) (filed_same vs xs v a)
  where
    by : (t : Bool) → length (with_value_under vs xs v a) ≡ length xs → length (if t then Some a ∷ xs else x ∷ with_value_under vs xs v a) ≡ suc (length xs)
    by true e = refl
    by false e = ap suc e

slot_long : (v : CVar) (a : Value) (s : State) → s.base ≤ length s.slots → length (with_slot v a s).slots ≡ length s.slots
slot_long v a s top =
    let one = length-append (take s.base s.slots) (with_value_under s.names (drop s.base s.slots) v a) in
    let two = filed_same s.names (drop s.base s.slots) v a in
    let three = length-take s.base s.slots in
    let four = length-drop s.base s.slots in
    omega (arith, one, two, three, four, top)

times_more : (n w : ℕ) → (n + 1) * w ≡ n * w + w
times_more n w = omega arith

suc_times : (n w : ℕ) → suc n * w ≡ n * w + w
suc_times n w = let e : suc n ≡ n + 1 = omega arith in ap (λ k. k * w) e ∙ times_more n w

narrow : (z : Sizes) (glue : Bool) → width_in z glue ≤ room_in z glue
narrow z true = omega arith
narrow z false = omega arith

module _ (z : Sizes) (depth : ℕ) where
  -- ---- fewer tasks

  rest_fits : (n : ℕ) (ss : Stmts) (ts : List Task) (s : State) → Fits z depth (list n ss ∷ ts) s → Fits z depth ts s
  rest_fits n ss ts s h = record {
    frame = record { values = h.frame.values; levels = h.frame.levels; tasks = omega (arith, h.frame.tasks) };
    within = h.within;
    top = h.top;
    slots = h.slots;
    callers = h.callers;
    small = h.small.1;
  }

  after_loop_fits : (n : ℕ) (b : Stmts) (ts : List Task) (s : State) → Fits z depth (again n b ∷ ts) s → Fits z depth ts s
  after_loop_fits n b ts s h = record {
    frame = record { values = h.frame.values; levels = h.frame.levels; tasks = omega (arith, h.frame.tasks) };
    within = h.within;
    top = h.top;
    slots = h.slots;
    callers = h.callers;
    small = h.small.1;
  }

  world_fits : (w : World) (ts : List Task) (s : State) → Fits z depth ts s → Fits z depth ts (with_world w s)
  world_fits w ts s h = record { frame = h.frame; within = h.within; top = h.top; slots = h.slots; callers = h.callers; small = h.small }

  received_fits : (n : ℕ) (target : Option CVar) (a : Option Value) (ts : List Task) (s : State) → Fits z depth ts s → FitsNext z depth (after_receiving n target a ts s)
  received_fits n None a ts s h = h
  received_fits n (Some v) None ts s h = tt
  received_fits n (Some v) (Some a) ts s h =
      let l = slot_long v a s h.top in
      record { frame = h.frame; within = h.within; top = omega (arith, l, h.top); slots = omega (arith, l, h.slots); callers = h.callers; small = h.small }

  after_fits : (n : ℕ) (target : Option CVar) (e : Effect) (ts : List Task) (s : State) → Fits z depth ts s → FitsNext z depth (after n target e ts s)
  unfolding after
  after_fits n target (gives a w) ts s h = received_fits n target a ts (with_world w s) (world_fits w ts s h)
  after_fits n target (breaks_rule b) ts s h = tt
  after_fits n target (ends o w) ts s h = tt

  found_fits : {A : Type 0} (n : ℕ) (e : Result A ℕ) (s : State) (go : A → Next) → ((a : A) → e ≡ Ok a → FitsNext z depth (go a)) → FitsNext z depth (with_found n e s go)
  unfolding with_found
  found_fits n (Err b) s go h = tt
  found_fits n (Ok a) s go h = h a refl

  depth_down : (glue : Bool) (d : ℕ) → depth_out glue d ≤ d
  depth_down true d = omega arith
  depth_down false d = omega arith

  leave_fits : (a : Option Value) (ts : List Task) (s : State) → Fits z depth ts s → FitsNext z depth (leave a ts s)
  leave_fits a [] s h = tt
  leave_fits a (list n ss ∷ ts) s h = leave_fits a ts s (rest_fits n ss ts s h)
  leave_fits a (again n b ∷ ts) s h = leave_fits a ts s (after_loop_fits n b ts s h)
  leave_fits a (bottom g ∷ ts) s h = tt
  leave_fits a (back k ∷ ts) s h =
      let l = length-take s.base s.slots in
      let d = depth_down s.is_glue s.depth in
      received_fits k.n k.target a ts (caller_state k s) (record {
        frame = h.callers.2;
        within = omega (arith, d, h.within);
        top = (let low = h.callers.0 in omega (arith, l, low, h.top));
        slots = (let high = h.callers.1 in omega (arith, l, high, h.top));
        callers = h.callers.3;
        small = h.small;
      })

  break_fits : (count : ℕ) (ts : List Task) (s : State) → Fits z depth ts s → FitsNext z depth (break_to count ts s)
  break_fits count [] s h = tt
  break_fits count (list n ss ∷ ts) s h = break_fits count ts s (rest_fits n ss ts s h)
  break_fits count (again n b ∷ ts) s h = after_loop_fits n b ts s h
  break_fits count (bottom g ∷ ts) s h = tt
  break_fits count (back k ∷ ts) s h = tt

  continue_fits : (count : ℕ) (ts : List Task) (s : State) → Fits z depth ts s → FitsNext z depth (continue_to count ts s)
  continue_fits count [] s h = tt
  continue_fits count (list n ss ∷ ts) s h = continue_fits count ts s (rest_fits n ss ts s h)
  continue_fits count (again n b ∷ ts) s h = h
  continue_fits count (bottom g ∷ ts) s h = tt
  continue_fits count (back k ∷ ts) s h = tt

  end_fits : (count : ℕ) (g : CResult) (ts : List Task) (s : State) → Fits z depth ts s → FitsNext z depth (body_end count g None ts s)
  end_fits count result.Nothing ts s h = leave_fits None ts s h
  end_fits count result.Number ts s h = tt
  end_fits count result.Reference ts s h = tt

  -- ---- a frame more

  pub record IsSmallFunc (glue : Bool) (g : Func) : Type 0 where
    pub width : width_of g ≤ width_in z glue
    pub need : need_of g ≤ z.tall
    pub cells : cells_of g ≤ z.cells

  same_depth : (glue : Bool) (d : ℕ) → depth_out glue (depth_in glue d) ≡ d
  same_depth true d = refl
  same_depth false d = omega arith

  and_right : (a b : Bool) → (a && b) ≡ true → b ≡ true
  and_right true b e = e
  and_right false b e = absurd (false≢true e)

  -- the values of the callee: glue is called by no glue
  values_fit : (glue running : Bool) (d base long : ℕ) → not (glue && running) ≡ true → base + room_in z running ≤ d * both_widths z → long ≤ base + width_in z running → long + room_in z glue ≤ depth_in glue d * both_widths z
  values_fit true true d base long ok fit l = absurd (false≢true ok)
  values_fit true false d base long ok fit l = omega (arith, fit, l)
  values_fit false running d base long ok fit l =
      let n = narrow z running in
      let m : suc d * both_widths z ≡ d * both_widths z + both_widths z = suc_times d (both_widths z) in
      omega (arith, fit, l, n, m)

  levels_fit : (glue running : Bool) (d f : ℕ) → not (glue && running) ≡ true → f + one_unless running ≤ 2 * d → (f + 1) + one_unless glue ≤ 2 * depth_in glue d
  levels_fit true true d f ok l = absurd (false≢true ok)
  levels_fit true false d f ok l = omega (arith, l)
  levels_fit false true d f ok l = omega (arith, l)
  levels_fit false false d f ok l = omega (arith, l)

  callee_fits : (n : ℕ) (target : Option CVar) (glue : Bool) (g : Numbered) (values : List Value) (ts : List Task) (s : State) → IsSmallFunc glue g.func → length g.func.params ≡ length values → not (glue && s.is_glue) ≡ true → depth_in glue s.depth ≤ depth
      → Fits z depth ts s → Fits z depth (list g.first g.func.body ∷ back (caller_of n target g.func s) ∷ ts) (callee_state glue g.func values s)
  callee_fits n target glue g values ts s small params ok within h =
      let a = length-append s.slots (first_values g.func values) in
      let b = first_long g.func values params in
      let f = h.frame.tasks in
      let t : (frames ts + 1) * (z.tall + 1) ≡ frames ts * (z.tall + 1) + (z.tall + 1) = times_more (frames ts) (z.tall + 1) in
      let l = length_reach ts in
      record {
        frame = record {
          values = values_fit glue s.is_glue s.depth s.base (length s.slots) ok h.frame.values h.slots;
          levels = levels_fit glue s.is_glue s.depth (frames ts) ok h.frame.levels;
          tasks = omega (arith, f, t, l, small.need);
        };
        within = within;
        top = omega (arith, a);
        slots = omega (arith, a, b, small.width);
        callers = (h.top, h.slots, subst (λ d. FrameFits z s.base s.is_glue d ts) (sym (same_depth glue s.depth)) h.frame, subst (λ d. CallersFit z s.base s.is_glue d ts) (sym (same_depth glue s.depth)) h.callers);
        small = (small.cells, h.small);
      }

  module _ (r : Setup) (same : r.depth ≡ depth) (small : (f : CName) (g : Numbered) → function_of r.program f ≡ Some g → IsSmallFunc f.glue g.func) where
    room_within : (glue : Bool) (d : ℕ) → has_room r glue d ≡ true → d ≤ depth → depth_in glue d ≤ depth
    room_within true d e l = l
    room_within false d e l = let m : d < r.depth = grind (arith, nat_tests) in omega (arith, m, same)

    call_fits : (n : ℕ) (target : Option CVar) (f : CName) (xs : List Arg) (found : Option Numbered) (ts : List Task) (s : State) → function_of r.program f ≡ found → Fits z depth ts s → FitsNext z depth (call_found r n target f.glue xs found ts s)
    unfolding call_found with_found enter spend
    call_fits n target f xs None ts s is h = tt
    call_fits n target f xs (Some g) ts s is h = by (can_call f.glue g.func xs (frame_in s)) refl
      where
        room : (values : List Value) (v : State) → Fits z depth ts v → length g.func.params ≡ length values → not (f.glue && v.is_glue) ≡ true → (t : Bool) → has_room r f.glue v.depth ≡ t
            → FitsNext z depth (if t then on (list g.first g.func.body ∷ back (caller_of n target g.func v) ∷ ts) (callee_state f.glue g.func values v) else stops depth_end v.world)
        room values v fits params ok true e = callee_fits n target f.glue g values ts v (small f g is) params ok (room_within f.glue v.depth e fits.within) fits
        room values v fits params ok false e = tt

        spent : (values : List Value) → length g.func.params ≡ length values → not (f.glue && s.is_glue) ≡ true → (t : Bool) → FitsNext z depth (if t then stops fuel_end s.world else (if has_room r f.glue s.depth then on (list g.first g.func.body ∷ back (caller_of n target g.func (with_world (record s.world { fuel = s.world.fuel - 1 }) s)) ∷ ts) (callee_state f.glue g.func values (with_world (record s.world { fuel = s.world.fuel - 1 }) s)) else stops depth_end (record s.world { fuel = s.world.fuel - 1 })))
        spent values params ok true = tt
        spent values params ok false = room values (with_world (record s.world { fuel = s.world.fuel - 1 }) s) (world_fits _ ts s h) params ok (has_room r f.glue s.depth) refl

        found : (length g.func.params == length xs) ≡ true → not (f.glue && s.is_glue) ≡ true → (v : Result (List Value) ℕ) → arg_values xs (vars_in s) ≡ v → FitsNext z depth (with_found n v s (λ values. enter r n target f.glue g values ts s))
        found many ok (Err b) e = tt
        found many ok (Ok values) e =
            let k = args_long xs (vars_in s) values e in
            let j : length g.func.params ≡ length xs = grind (arith, nat_tests) in
            spent values (j ∙ k) ok (s.world.fuel == 0)

        left_of : (a b : Bool) → (a && b) ≡ true → a ≡ true
        left_of true b e = refl
        left_of false b e = absurd (false≢true e)

        by : (t : Bool) → can_call f.glue g.func xs (frame_in s) ≡ t → FitsNext z depth (if t then with_found n (arg_values xs (vars_in s)) s (λ values. enter r n target f.glue g values ts s) else stops (undefined 6 n) s.world)
        by true e = found (left_of _ _ e) (and_right _ _ e) (arg_values xs (vars_in s)) refl
        by false e = tt

    does_call_fits : (n : ℕ) (target : Option CVar) (f : Call) (ts : List Task) (s : State) → Fits z depth ts s → FitsNext z depth (does_call r n target f ts s)
    does_call_fits n target (c.primitive p xs) ts s h = after_fits n target _ ts s h
    does_call_fits n target (c.function f xs) ts s h = call_fits n target f xs (function_of r.program f) ts s refl h

    -- one list more
    list_fits : (n m : ℕ) (xs rest : Stmts) (ts : List Task) (s : State) → Fits z depth (list m rest ∷ ts) s → length ts + (need xs + 1) ≤ frames ts * (z.tall + 1) → cells_in xs ≤ z.cells → Fits z depth (list n xs ∷ list m rest ∷ ts) s
    list_fits n m xs rest ts s h room cells = record {
      frame = record { values = h.frame.values; levels = h.frame.levels; tasks = omega (arith, h.frame.tasks, room) };
      within = h.within;
      top = h.top;
      slots = h.slots;
      callers = h.callers;
      small = (cells, h.small);
    }

    fits_if : (t : Bool) (x y : Next) → FitsNext z depth x → FitsNext z depth y → FitsNext z depth (if t then x else y)
    fits_if true x y a b = a
    fits_if false x y a b = b

    act_fits : (n m : ℕ) (x : Stmt) (rest : Stmts) (ts : List Task) (s : State) → Fits z depth (list m rest ∷ ts) s → length ts + inner x ≤ frames ts * (z.tall + 1) → cells_in_stmt x ≤ z.cells → FitsNext z depth (act r n x (list m rest ∷ ts) s)
    act_fits n m (c.set v e) rest ts s h room cells = after_fits n (Some v) _ _ s h
    act_fits n m (c.set_call v f) rest ts s h room cells = does_call_fits n (Some v) f _ s h
    act_fits n m (c.call f) rest ts s h room cells = does_call_fits n None f _ s h
    act_fits n m (c.put x e) rest ts s h room cells = after_fits n None _ _ s h
    act_fits n m (c.when e xs) rest ts s h room cells =
        found_fits n _ s _ (λ v is. fits_if (is_true v) _ _ (list_fits (suc n) m xs rest ts s h room cells) h)
    act_fits n m (c.choose e xs ys) rest ts s h room cells =
        found_fits n _ s _ (λ v is. fits_if (is_true v) _ _ (list_fits (suc n) m xs rest ts s h (omega (arith, room)) (omega (arith, cells))) (list_fits (suc n + count_in xs) m ys rest ts s h (omega (arith, room)) (omega (arith, cells))))
    act_fits n m (c.loop b) rest ts s h room cells = record {
      frame = record { values = h.frame.values; levels = h.frame.levels; tasks = omega (arith, h.frame.tasks, room) };
      within = h.within;
      top = h.top;
      slots = h.slots;
      callers = h.callers;
      small = (cells, h.small);
    }
    act_fits n m c.break rest ts s h room cells = break_fits _ _ s h
    act_fits n m c.continue rest ts s h room cells = continue_fits _ _ s h
    act_fits n m (c.return None) rest ts s h room cells = leave_fits None _ s h
    act_fits n m (c.return (Some e)) rest ts s h room cells = found_fits n _ s _ (λ a is. leave_fits (Some a) _ s h)

    -- the rest of a list, its first statement being taken
    pub next_fits : (n m : ℕ) (x : Stmt) (rest : Stmts) (ts : List Task) (s : State) → Fits z depth (list n (c.next x rest) ∷ ts) s → Fits z depth (list m rest ∷ ts) s
    next_fits n m x rest ts s h = record {
      frame = record { values = h.frame.values; levels = h.frame.levels; tasks = omega (arith, h.frame.tasks) };
      within = h.within;
      top = h.top;
      slots = h.slots;
      callers = h.callers;
      small = (let k = h.small.0 in omega (arith, k), h.small.1);
    }

    pub next_cells : (n : ℕ) (x : Stmt) (rest : Stmts) (ts : List Task) (s : State) → Fits z depth (list n (c.next x rest) ∷ ts) s → cells_in_stmt x ≤ z.cells
    next_cells n x rest ts s h = let k = h.small.0 in omega (arith, k)

    -- each move leaves room
    pub moved_fits : (ts : List Task) (s : State) → Fits z depth ts s → FitsNext z depth (move_of r ts s)
    unfolding spend
    moved_fits [] s h = tt
    moved_fits (list n c.done ∷ ts) s h = rest_fits n c.done ts s h
    moved_fits (list n (c.next x rest) ∷ ts) s h =
        act_fits n (n + count_in_stmt x) x rest ts s (next_fits n (n + count_in_stmt x) x rest ts s h) (omega (arith, h.frame.tasks)) (next_cells n x rest ts s h)
    moved_fits (again n b ∷ ts) s h = fits_if (s.world.fuel == 0) _ _ tt (record {
      frame = record { values = h.frame.values; levels = h.frame.levels; tasks = omega (arith, h.frame.tasks) };
      within = h.within;
      top = h.top;
      slots = h.slots;
      callers = h.callers;
      small = (h.small.0, h.small);
    })
    moved_fits (back k ∷ ts) s h = end_fits _ k.given (back k ∷ ts) s h
    moved_fits (bottom g ∷ ts) s h = end_fits _ g (bottom g ∷ ts) s h

  -- so the tables never hold more than this
  pub tasks_within : (ts : List Task) (s : State) → Fits z depth ts s → length ts ≤ 2 * depth * (z.tall + 1)
  tasks_within ts s h =
      let a = length_reach ts in
      let f : frames ts ≤ 2 * depth = omega (arith, h.frame.levels, h.within) in
      let l : frames ts * (z.tall + 1) ≤ 2 * depth * (z.tall + 1) = mul-le-mul_right (z.tall + 1) f in
      omega (arith, a, l, h.frame.tasks)

  pub slots_within : (ts : List Task) (s : State) → Fits z depth ts s → length s.slots ≤ depth * both_widths z
  slots_within ts s h =
      let n = narrow z s.is_glue in
      let l : s.depth * both_widths z ≤ depth * both_widths z = mul-le-mul_right (both_widths z) h.within in
      omega (arith, n, l, h.frame.values, h.slots)
