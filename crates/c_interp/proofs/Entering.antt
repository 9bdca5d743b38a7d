-- A unit of fuel is spent, and a function is entered.
use Rattle.std.proofs.Common.{◌≡◌, inl, ℕ, zero, suc, ◌-◌, ◌≤◌, ◌==◌, Bool, true, false, List, [], ◌∷◌, ◌++◌, map, length, replicate, Option, Some, None, refl, sym, ap, ◌∙◌, append_assoc, arith}
use Rattle.std.specs.Option.{option_map}
use Rattle.std.proofs.lemmas.Bool.Decides.{nat_tests}
use Rattle.std.proofs.lemmas.List.{map-append, length-map}
use Rattle.vlt_rings.specs.Things.{Things}
use Rattle.c_syntax.specs.declared.program.CVar.{CVar}
use Rattle.c_syntax.specs.View.{func_of, stmts_of}
use Rattle.c_syntax.specs.C.{Stmts}
use Rattle.c_meaning.specs.World as model
use Rattle.c_meaning.specs.Run.{Setup, Numbered, has_room, depth_in}
use Rattle.c_machine.specs.Machine as m
use Rattle.c_machine.specs.Machine.{State, Next, first_values}
use Rattle.c_meaning.specs.Widths.{names_of}
use Rattle.c_values.specs.declared.value.Value.{Value}
use Rattle.c_values.specs.Shown.{value_view, shown_slots, AreMadeSlots}
use Rattle.c_primitives.specs.declared.world.World.{World}
use Rattle.c_primitives.specs.Shown.{Shows, IsReady, KeepsRoom}
use Rattle.vlt_steps.specs.Writing.{Outside}
use Rattle.c_primitives.proofs.Coming.{silent}
use Rattle.c_interp.specs.declared.stop.CStop.{CStop}
use Rattle.c_interp.specs.declared.stop.CStop.TheVariants.{Stopped}
use Rattle.vlt_steps.specs.declared.stop.Stop.TheVariants.{FuelEnd, DepthEnd}
use Rattle.c_interp.specs.declared.frames.Frames.{Frames}
use Rattle.c_interp.specs.declared.task.Task.{Task}
use Rattle.c_interp.specs.declared.rules.Found.{Found}
use Rattle.c_interp.specs.Calling.{numbered_of, AreSame, HasPushed}
use Rattle.c_interp.specs.Shown.{caller_of, tasks_of, state_of, CameTo}
use Rattle.c_interp.specs.declared.task.Task.TheVariants.{List as Listed, Back}
use Rattle.c_syntax.specs.declared.program.CStmt.{CStmt}
use Rattle.std.specs.Borrow.{Bor}
use Rattle.c_interp.proofs.Tasks.{pushed_two}

pub ready_fuel : (s q : World) → IsReady s → IsReady (record s { fuel = q.fuel })
ready_fuel s q r = record { sound = r.sound; heap = r.heap; cells = r.cells; line = r.line }

pub room_fuel : (s q : World) → KeepsRoom s (record s { fuel = q.fuel })
room_fuel s q = record { heap = refl; cells = refl; line = omega arith }

pub keeps_room : (s : World) → KeepsRoom s s
keeps_room s = record { heap = refl; cells = refl; line = omega arith }

is_zero : (n : ℕ) → n ≡ 0 → (n == 0) ≡ true
is_zero n e = grind (arith, nat_tests)

not_zero : (n : ℕ) → 1 ≤ n → (n == 0) ≡ false
not_zero n e = grind (arith, nat_tests)

module _ (things : Things) (s : World) (w : model.World) (b : Outside) (h : Shows s things w) where
  abbrev pub less : model.World
  less = record w { fuel = w.fuel - 1 }

  pub shown_less : (q : World) → q.fuel ≡ s.fuel - 1 → Shows (record s { fuel = q.fuel }) things less
  shown_less q e = record { holds = h.holds; blocks = h.blocks; numbers = h.numbers; references = h.references; made = h.made; fuel = ap (λ n. n - 1) h.fuel ∙ sym e; input = h.input; answers = h.answers; taken = h.taken; talk = h.talk }

  -- no fuel is left
  pub spends_none : (f f' : Frames) (ts : List Task) (go : State → Next) → s.fuel ≡ 0 → CameTo w b b (Some (Stopped FuelEnd)) ts f' s (m.spend (state_of f w) go)
  unfolding m.spend
  spends_none f f' ts go none =
      let zero : (w.fuel == 0) ≡ true = is_zero w.fuel (h.fuel ∙ none) in
      rw zero (inl (record { outcome = refl; fuel = h.fuel; wrote = silent w w b refl }))

  pub spends_one : (f f' : Frames) (ts : List Task) (go : State → Next) (q : World) (r : Option CStop) → 1 ≤ s.fuel → CameTo w b b r ts f' q (go (state_of f less)) → CameTo w b b r ts f' q (m.spend (state_of f w) go)
  unfolding m.spend
  spends_one f f' ts go q r some c =
      let other : (w.fuel == 0) ≡ false = not_zero w.fuel (omega (arith, h.fuel, some)) in
      rw other c

  -- a turn of a loop
  pub turned : (r : Setup) (n : ℕ) (body : Stmts) (old new : List Task) (f : Frames) (q : World) → 1 ≤ s.fuel → q.fuel ≡ s.fuel - 1 → AreMadeSlots things f.values.items → tasks_of new ≡ m.list (suc n) body ∷ m.again n body ∷ tasks_of old
      → CameTo w b b None new f (record s { fuel = q.fuel }) (m.move_of r (m.again n body ∷ tasks_of old) (state_of f w))
  turned r n body old new f q some e made pushed =
      spends_one f f new _ (record s { fuel = q.fuel }) None some (record { things = things; world = less; tasks = sym pushed; state = refl; shown = shown_less q e; made = made; wrote = silent w less b refl })

  module _ (r : Setup) (n : ℕ) (target : Option CVar) (glue : Bool) (g : Numbered) (values : List model.Value) (f : Frames) (ts : List Task) where
    pub enters_no_fuel : (f' : Frames) (us : List Task) → s.fuel ≡ 0 → CameTo w b b (Some (Stopped FuelEnd)) us f' s (m.enter r n target glue g values (tasks_of ts) (state_of f w))
    unfolding m.enter
    enters_no_fuel f' us none = spends_none f f' us _ none

    pub enters_no_depth : (f' : Frames) (us : List Task) (q : World) → 1 ≤ s.fuel → q.fuel ≡ s.fuel - 1 → has_room r glue f.depth ≡ false
        → CameTo w b b (Some (Stopped DepthEnd)) us f' (record s { fuel = q.fuel }) (m.enter r n target glue g values (tasks_of ts) (state_of f w))
    unfolding m.enter
    enters_no_depth f' us q some e none =
        spends_one f f' us _ (record s { fuel = q.fuel }) (Some (Stopped DepthEnd)) some (rw none (inl (record { outcome = refl; fuel = ap (λ k. k - 1) h.fuel ∙ sym e; wrote = silent w less b refl })))

    pub enters : (new : Frames) (us : List Task) (q : World) → 1 ≤ s.fuel → q.fuel ≡ s.fuel - 1 → has_room r glue f.depth ≡ true
        → tasks_of us ≡ m.list g.first g.func.body ∷ m.back (m.caller_of n target g.func (state_of f less)) ∷ tasks_of ts → state_of new less ≡ m.callee_state glue g.func values (state_of f less) → AreMadeSlots things new.values.items
        → CameTo w b b None us new (record s { fuel = q.fuel }) (m.enter r n target glue g values (tasks_of ts) (state_of f w))
    unfolding m.enter
    enters new us q some e room tasks state made =
        spends_one f new us _ (record s { fuel = q.fuel }) None some (rw room (record { things = things; world = less; tasks = sym tasks; state = sym state; shown = shown_less q e; made = made; wrote = silent w less b refl }))

-- ---- the state of the callee

pub callee_is : (before new : Frames) (now : Frames) (found : Found) (values : List Value) (glue : Bool) (w : model.World) (d end : ℕ) → HasPushed before now values → end ≡ length before.values.items
    → new.values.items ≡ now.values.items ++ replicate (length (func_of found.func.now).vars) None → new.base ≡ end → new.func ≡ found.func → new.is_glue ≡ glue → new.depth ≡ d → d ≡ depth_in glue now.depth
    → state_of new w ≡ m.callee_state glue (func_of found.func.now) (map value_view values) (state_of before w)
callee_is before new now found values glue w d end p long items base func is_glue depth deep =
    let slots : shown_slots new.values.items ≡ shown_slots before.values.items ++ first_values (func_of found.func.now) (map value_view values) =
    ap shown_slots items ∙ map-append (option_map value_view) now.values.items (replicate (length (func_of found.func.now).vars) None)
    ∙ ap (λ l. shown_slots l ++ shown_slots (replicate (length (func_of found.func.now).vars) None)) p.items
    ∙ ap (λ l. l ++ shown_slots (replicate (length (func_of found.func.now).vars) None)) (map-append (option_map value_view) before.values.items (map Some values))
    ∙ append_assoc (shown_slots before.values.items) (shown_slots (map Some values)) (shown_slots (replicate (length (func_of found.func.now).vars) None))
    ∙ ap (λ l. shown_slots before.values.items ++ (l ++ shown_slots (replicate (length (func_of found.func.now).vars) None))) (somes values)
    ∙ ap (λ l. shown_slots before.values.items ++ (map Some (map value_view values) ++ l)) (nones (length (func_of found.func.now).vars)) in
    let at : new.base ≡ length (shown_slots before.values.items) = base ∙ long ∙ sym (length-map before.values.items (option_map value_view)) in
    ap {B = State} (λ l. record { slots = l; base = new.base; names = names_of (func_of new.func.now); is_glue = new.is_glue; depth = new.depth; world = w }) slots
    ∙ ap {B = State} (λ x. record { slots = shown_slots before.values.items ++ first_values (func_of found.func.now) (map value_view values); base = x; names = names_of (func_of new.func.now); is_glue = new.is_glue; depth = new.depth; world = w }) at
    ∙ ap {B = State} (λ x. record { slots = shown_slots before.values.items ++ first_values (func_of found.func.now) (map value_view values); base = length (shown_slots before.values.items); names = names_of (func_of x.now); is_glue = new.is_glue; depth = new.depth; world = w }) func
    ∙ ap {B = State} (λ x. record { slots = shown_slots before.values.items ++ first_values (func_of found.func.now) (map value_view values); base = length (shown_slots before.values.items); names = names_of (func_of found.func.now); is_glue = x; depth = new.depth; world = w }) is_glue
    ∙ ap {B = State} (λ x. record { slots = shown_slots before.values.items ++ first_values (func_of found.func.now) (map value_view values); base = length (shown_slots before.values.items); names = names_of (func_of found.func.now); is_glue = glue; depth = x; world = w }) (depth ∙ deep ∙ ap (depth_in glue) p.same.depth)
  where
    somes : (vs : List Value) → shown_slots (map Some vs) ≡ map Some (map value_view vs)
    somes [] = refl
    somes (v ∷ vs) = ap (λ l. Some (value_view v) ∷ l) (somes vs)

    nones : (k : ℕ) → shown_slots (replicate k None) ≡ replicate k None
    nones zero = refl
    nones (suc k) = ap (λ l. None ∷ l) (nones k)

-- ---- the tasks of the callee

caller_same : (before now : Frames) (n : ℕ) (target : Option CVar) (found : Found) (w : model.World) → AreSame before now
    → caller_of (record { base = now.base; func = now.func; is_glue = now.is_glue; n = n; target = target; given = found.func.now.result }) ≡ m.caller_of n target (func_of found.func.now) (state_of before w)
caller_same before now n target found w s =
    ap {B = m.Caller} (λ x. record { base = x; names = names_of (func_of now.func.now); is_glue = now.is_glue; n = n; target = target; given = found.func.now.result }) s.base
    ∙ ap {B = m.Caller} (λ x. record { base = before.base; names = names_of (func_of x.now); is_glue = now.is_glue; n = n; target = target; given = found.func.now.result }) s.func
    ∙ ap {B = m.Caller} (λ x. record { base = before.base; names = names_of (func_of before.func.now); is_glue = x; n = n; target = target; given = found.func.now.result }) s.glue

pub tasks_are : (before now : Frames) (n : ℕ) (target : Option CVar) (found : Found) (w : model.World) (ts us vs : List Task) (body : Bor (List CStmt)) → AreSame before now
    → us ≡ ts ++ Back (record { base = now.base; func = now.func; is_glue = now.is_glue; n = n; target = target; given = found.func.now.result }) ∷ [] → vs ≡ us ++ Listed found.first body ∷ [] → body.now ≡ found.func.now.body
    → tasks_of vs ≡ m.list (numbered_of found).first (numbered_of found).func.body ∷ m.back (m.caller_of n target (func_of found.func.now) (state_of before w)) ∷ tasks_of ts
tasks_are before now n target found w ts us vs body s e g is =
    pushed_two ts us vs _ _ e g
    ∙ ap (λ l. m.list found.first (stmts_of l) ∷ m.back (caller_of (record { base = now.base; func = now.func; is_glue = now.is_glue; n = n; target = target; given = found.func.now.result })) ∷ tasks_of ts) is
    ∙ ap (λ k. m.list found.first (stmts_of found.func.now.body) ∷ m.back k ∷ tasks_of ts) (caller_same before now n target found w s)
