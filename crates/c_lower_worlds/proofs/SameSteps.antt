-- What follows a step, on both sides.
use Rattle.std.proofs.Common.{◌≡◌, ◌≤◌, ◌<◌, ℕ, ◌==◌, ◌-◌, Bool, true, false, if◌then◌else◌, List, Option, None, Ok, Err, refl, sym, ◌∙◌, arith, true≢false, ap}
use Rattle.std.proofs.lemmas.Bool.Decides.{nat_tests}
use Rattle.vlt_core.specs.Core.{Tok, Func, Program}
use Rattle.vlt_meaning.specs.World as source
use Rattle.vlt_meaning.specs.World.{Reason}
use Rattle.vlt_meaning.specs.Found.{Found}
use Rattle.vlt_meaning.specs.Step as step
use Rattle.c_meaning.specs.World as cw
use Rattle.c_meaning.specs.Run as run
use Rattle.c_lower.specs.Slots.{Numbers, first_temps}
use Rattle.c_lower_worlds.specs.Worlds.{Registers, c_world}
use Rattle.c_lower_worlds.specs.Frames.{Spares}
use Rattle.c_lower_worlds.specs.SameStatements.{Begins}
use Rattle.c_lower_worlds.specs.Same.{Comes, Ended, EndedAs, Same}
use Rattle.c_lower_worlds.proofs.OfNaming.FoundObjects.{OnlyFaults}

-- ---- temps that are spared

pub spares_self : (t u : Numbers) (f : run.Frame) → Spares t u f f
spares_self t u f = record { vars = λ v b. refl; depth = refl; is_glue = refl }

pub spares_more : {t u : Numbers} {f g h : run.Frame} → Spares t u f g → Spares t u g h → Spares t u f h
spares_more a b = record { vars = λ v i. a.vars v i ∙ b.vars v i; depth = a.depth ∙ b.depth; is_glue = a.is_glue ∙ b.is_glue }

-- ---- where a state comes to

pub begins : {p : Program} {f : Func} {t : Numbers} {n : ℕ} {from : run.Frame} {s : source.Frame} {w : source.World} {to : run.Frame} {g : Registers} →
    Comes p f t n from s w to g → Begins p f n s w to g
begins h = record { stands = h.frame; shaped = h.shaped; registers = h.registers; fed = h.fed; fuel_left = h.fuel_left }

pub comes : {p : Program} {f : Func} {t : Numbers} {n : ℕ} {from : run.Frame} {s : source.Frame} {w : source.World} {to : run.Frame} {g : Registers} →
    Spares (first_temps p f) t from to → Begins p f n s w to g → Comes p f t n from s w to g
comes spares h = record { frame = h.stands; spares = spares; shaped = h.shaped; registers = h.registers; fed = h.fed; fuel_left = h.fuel_left }

pub goes_same : {p : Program} {f : Func} {t : Numbers} {n : ℕ} {s : source.Frame} {w : source.World} {frame : run.Frame} {g : Registers} →
    Begins p f n s w frame g → Same p f t n frame (step.goes s w) (run.goes frame (c_world p g w))
goes_same {p} {f} {t} {n} {s} {w} {frame} {g} h = record { to = frame; registers = g; is = refl; comes = comes (spares_self (first_temps p f) t frame) h }

-- the same from an earlier frame that differs in no such temp
pub earlier : (p : Program) (f : Func) (t : Numbers) (n : ℕ) (from mid : run.Frame) (a : step.Step) (c : run.Step) → Spares (first_temps p f) t from mid →
    Same p f t n mid a c → Same p f t n from a c
earlier p f t n from mid (step.goes s w) c m h = record { to = h.to; registers = h.registers; is = h.is; comes = comes (spares_more m h.comes.spares) (begins h.comes) }
earlier p f t n from mid (step.jumps true s w) c m h = record { to = h.to; registers = h.registers; is = h.is; comes = comes (spares_more m h.comes.spares) (begins h.comes) }
earlier p f t n from mid (step.jumps false s w) c m h = record { to = h.to; registers = h.registers; is = h.is; comes = comes (spares_more m h.comes.spares) (begins h.comes) }
earlier p f t n from mid (step.leaves a kept w) c m h = h
earlier p f t n from mid (step.ends o w) c m h = h

-- ---- one step and what follows it

-- what keeps the end of a run keeps that it is the same end
pub ended_through : (on : run.Step → run.Step) → ((o : cw.Outcome) (v : cw.World) → on (run.stops o v) ≡ run.stops o v) →
    (o : source.Outcome) (w : source.World) (c : run.Step) → EndedAs o w c → EndedAs o w (on c)
ended_through on stays o w c = by o
  where
    one : (o : cw.Outcome) → Ended o w c → Ended o w (on c)
    one o h = record { world = h.world; is = ap on h.is ∙ stays o h.world; events = h.events; fuel = h.fuel }

    by : (o : source.Outcome) → EndedAs o w c → EndedAs o w (on c)
    by source.done h = one cw.done h
    by (source.trap k) h = one (cw.trap k) h
    by source.fuel_end h = one cw.fuel_end h
    by source.heap_end h = one cw.heap_end h
    by source.depth_end h = one cw.depth_end h
    by source.input_end h = one cw.input_end h
    by source.answers_end h = one cw.answers_end h
    by (source.bad_answer i) h = one (cw.bad_answer i) h
    by (source.fault r i) h = tt

pub then_same : (p : Program) (f : Func) (t : Numbers) (n : ℕ) (from : run.Frame) (a : step.Step) (c : run.Step)
    (go : source.Frame → source.World → step.Step) (on : run.Frame → cw.World → run.Step) →
    Same p f t n from a c →
    ((s : source.Frame) (w : source.World) (frame : run.Frame) (g : Registers) → Begins p f n s w frame g →
    Spares (first_temps p f) t from frame → Same p f t n frame (go s w) (on frame (c_world p g w))) →
    Same p f t n from (step.then_do a go) (run.then_do c on)
unfolding step.then_do run.then_do
then_same p f t n from (step.goes s w) c go on h k =
    rw h.is (earlier p f t n from h.to (go s w) (on h.to (c_world p h.registers w)) h.comes.spares
    (k s w h.to h.registers (begins h.comes) h.comes.spares))
then_same p f t n from (step.jumps true s w) c go on h k = record { to = h.to; registers = h.registers; is = rw h.is refl; comes = h.comes }
then_same p f t n from (step.jumps false s w) c go on h k = record { to = h.to; registers = h.registers; is = rw h.is refl; comes = h.comes }
then_same p f t n from (step.leaves a kept w) c go on h k = record {
  value = h.value;
  registers = h.registers;
  is = rw h.is refl;
  gives = h.gives;
  kept_objects = h.kept_objects;
  shaped = h.shaped;
  are = h.are;
  fed = h.fed;
  fuel_left = h.fuel_left;
}
then_same p f t n from (step.ends o w) c go on h k = ended_through (λ c. run.then_do c on) (λ o v. refl) o w c h

-- a turn of a loop
pub turn_same : (p : Program) (f : Func) (t : Numbers) (n : ℕ) (from : run.Frame) (a : step.Step) (c : run.Step)
    (go : source.Frame → source.World → step.Step) (on : run.Frame → cw.World → run.Step) →
    Same p f t n from a c →
    ((s : source.Frame) (w : source.World) (frame : run.Frame) (g : Registers) → Begins p f n s w frame g →
    Spares (first_temps p f) t from frame → Same p f t n frame (go s w) (on frame (c_world p g w))) →
    Same p f t n from (step.then_turn a go) (run.then_turn c on)
unfolding step.then_turn run.then_turn
turn_same p f t n from (step.goes s w) c go on h k =
    rw h.is (earlier p f t n from h.to (go s w) (on h.to (c_world p h.registers w)) h.comes.spares
    (k s w h.to h.registers (begins h.comes) h.comes.spares))
turn_same p f t n from (step.jumps true s w) c go on h k =
    rw h.is (earlier p f t n from h.to (go s w) (on h.to (c_world p h.registers w)) h.comes.spares
    (k s w h.to h.registers (begins h.comes) h.comes.spares))
turn_same p f t n from (step.jumps false s w) c go on h k = record { to = h.to; registers = h.registers; is = rw h.is refl; comes = h.comes }
turn_same p f t n from (step.leaves a kept w) c go on h k = record {
  value = h.value;
  registers = h.registers;
  is = rw h.is refl;
  gives = h.gives;
  kept_objects = h.kept_objects;
  shaped = h.shaped;
  are = h.are;
  fed = h.fed;
  fuel_left = h.fuel_left;
}
turn_same p f t n from (step.ends o w) c go on h k = ended_through (λ c. run.then_turn c on) (λ o v. refl) o w c h

-- ---- tests that fail are faults

pub fault_same : (o : source.Outcome) (w : source.World) (c : run.Step) → source.is_fault o ≡ true → EndedAs o w c
fault_same source.done w c e = absurd (true≢false (sym e))
fault_same (source.trap k) w c e = absurd (true≢false (sym e))
fault_same source.fuel_end w c e = absurd (true≢false (sym e))
fault_same source.heap_end w c e = absurd (true≢false (sym e))
fault_same source.depth_end w c e = absurd (true≢false (sym e))
fault_same source.input_end w c e = absurd (true≢false (sym e))
fault_same source.answers_end w c e = absurd (true≢false (sym e))
fault_same (source.bad_answer n) w c e = absurd (true≢false (sym e))
fault_same (source.fault r n) w c e = tt

pub found_same : {A : Type 0} (p : Program) (f : Func) (t : Numbers) (n : ℕ) (from : run.Frame) (x : Found A) (w : source.World)
    (go : A → step.Step) (c : run.Step) → OnlyFaults x →
    ((a : A) → x ≡ Ok a → Same p f t n from (go a) c) → Same p f t n from (step.with_found x w go) c
unfolding step.with_found
found_same p f t n from (Ok a) w go c only k = k a refl
found_same p f t n from (Err o) w go c only k = fault_same o w c only

pub where_same : (p : Program) (f : Func) (t : Numbers) (n : ℕ) (from : run.Frame) (b : Bool) (r : Reason) (i : Option ℕ) (w : source.World)
    (go : source.World → step.Step) (c : run.Step) →
    (b ≡ true → Same p f t n from (go w) c) → Same p f t n from (step.where_so b r i w go) c
unfolding step.where_so
where_same p f t n from true r i w go c k = k refl
where_same p f t n from false r i w go c k = tt

-- a block that leaves something behind is a fault; else its end is nothing in C
pub block_same : (p : Program) (f : Func) (t : Numbers) (n : ℕ) (from : run.Frame) (bound : List Tok) (a : step.Step) (c : run.Step) →
    Same p f t n from a c → Same p f t n from (step.left_block bound a) c
unfolding step.left_block
block_same p f t n from bound (step.goes s w) c h =
    where_same p f t n from (step.are_unused bound s w) source.left_behind None w (λ w. step.goes s w) c (λ e. h)
block_same p f t n from bound (step.jumps true s w) c h =
    where_same p f t n from (step.are_unused bound s w) source.left_behind None w (λ w. step.jumps true s w) c (λ e. h)
block_same p f t n from bound (step.jumps false s w) c h =
    where_same p f t n from (step.are_unused bound s w) source.left_behind None w (λ w. step.jumps false s w) c (λ e. h)
block_same p f t n from bound (step.leaves a kept w) c h = h
block_same p f t n from bound (step.ends o w) c h = h

-- ---- fuel

-- one unit less is less than the bound
pub spent_less : (fuel n : ℕ) → fuel ≤ n → (fuel == 0) ≡ false → fuel - 1 < n
spent_less fuel n l e = grind (arith, nat_tests)

pub spend_same : (p : Program) (f : Func) (t : Numbers) (n : ℕ) (from : run.Frame) (w : source.World) (g : Registers)
    (go : source.World → step.Step) (on : cw.World → run.Step) →
    ((w.fuel == 0) ≡ false → Same p f t n from (go (record w { fuel = w.fuel - 1 })) (on (c_world p g (record w { fuel = w.fuel - 1 })))) →
    Same p f t n from (step.spend w go) (run.spend (c_world p g w) on)
unfolding step.spend run.spend
spend_same p f t n from w g go on k = by (w.fuel == 0) refl
  where
    by : (b : Bool) → (w.fuel == 0) ≡ b →
        Same p f t n from (if b then step.ends source.fuel_end w else go (record w { fuel = w.fuel - 1 }))
        (if b then run.stops cw.fuel_end (c_world p g w) else on (c_world p g (record w { fuel = w.fuel - 1 })))
    by true e = record { world = c_world p g w; is = refl; events = refl; fuel = refl }
    by false e = k e

pub if_same : (p : Program) (f : Func) (t : Numbers) (n : ℕ) (from : run.Frame) (b : Bool) (x y : step.Step) (c d : run.Step) →
    (b ≡ true → Same p f t n from x c) → (b ≡ false → Same p f t n from y d) →
    Same p f t n from (if b then x else y) (if b then c else d)
if_same p f t n from true x y c d h k = h refl
if_same p f t n from false x y c d h k = k refl

-- no more fuel than a greater bound
pub more_fuel : (p : Program) (f : Func) (t : Numbers) (n k : ℕ) (from : run.Frame) (a : step.Step) (c : run.Step) → n ≤ k →
    Same p f t n from a c → Same p f t k from a c
more_fuel p f t n k from (step.goes s w) c l h = record { to = h.to; registers = h.registers; is = h.is; comes = more l h.comes }
  where
    more : {s : source.Frame} {w : source.World} {to : run.Frame} {g : Registers} → n ≤ k → Comes p f t n from s w to g → Comes p f t k from s w to g
    more l h = let e = h.fuel_left in record { frame = h.frame; spares = h.spares; shaped = h.shaped; registers = h.registers; fed = h.fed; fuel_left = omega arith }
more_fuel p f t n k from (step.jumps true s w) c l h = record { to = h.to; registers = h.registers; is = h.is; comes = more l h.comes }
  where
    more : {s : source.Frame} {w : source.World} {to : run.Frame} {g : Registers} → n ≤ k → Comes p f t n from s w to g → Comes p f t k from s w to g
    more l h = let e = h.fuel_left in record { frame = h.frame; spares = h.spares; shaped = h.shaped; registers = h.registers; fed = h.fed; fuel_left = omega arith }
more_fuel p f t n k from (step.jumps false s w) c l h = record { to = h.to; registers = h.registers; is = h.is; comes = more l h.comes }
  where
    more : {s : source.Frame} {w : source.World} {to : run.Frame} {g : Registers} → n ≤ k → Comes p f t n from s w to g → Comes p f t k from s w to g
    more l h = let e = h.fuel_left in record { frame = h.frame; spares = h.spares; shaped = h.shaped; registers = h.registers; fed = h.fed; fuel_left = omega arith }
more_fuel p f t n k from (step.leaves a kept w) c l h =
    let e = h.fuel_left in
    record { value = h.value; registers = h.registers; is = h.is; gives = h.gives; kept_objects = h.kept_objects; shaped = h.shaped; are = h.are; fed = h.fed; fuel_left = omega arith }
more_fuel p f t n k from (step.ends o w) c l h = h

-- fewer temps are spared
pub fewer_same : (p : Program) (f : Func) (t u : Numbers) (n : ℕ) (from : run.Frame) (a : step.Step) (c : run.Step) →
    ((g h : run.Frame) → Spares (first_temps p f) u g h → Spares (first_temps p f) t g h) → Same p f u n from a c → Same p f t n from a c
fewer_same p f t u n from (step.goes s w) c l h = record { to = h.to; registers = h.registers; is = h.is; comes = comes (l from h.to h.comes.spares) (begins h.comes) }
fewer_same p f t u n from (step.jumps true s w) c l h = record { to = h.to; registers = h.registers; is = h.is; comes = comes (l from h.to h.comes.spares) (begins h.comes) }
fewer_same p f t u n from (step.jumps false s w) c l h = record { to = h.to; registers = h.registers; is = h.is; comes = comes (l from h.to h.comes.spares) (begins h.comes) }
fewer_same p f t u n from (step.leaves a kept w) c l h = h
fewer_same p f t u n from (step.ends o w) c l h = h
