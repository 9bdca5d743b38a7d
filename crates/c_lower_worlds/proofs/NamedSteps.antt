-- What follows a step, on both sides, where the source's step keeps the naming of references.
use Rattle.std.proofs.Common.{ℕ, true, false, List, None}
use Rattle.vlt_core.specs.Core.{Func, Program}
use Rattle.vlt_core.specs.KindedScopes.{Ids}
use Rattle.vlt_meaning.specs.World as source
use Rattle.vlt_meaning.specs.Step as step
use Rattle.c_meaning.specs.World as cw
use Rattle.c_meaning.specs.Run as run
use Rattle.c_lower.specs.Slots.{Numbers, first_temps}
use Rattle.c_lower_worlds.specs.Worlds.{Registers, c_world}
use Rattle.c_lower_worlds.specs.Frames.{Spares}
use Rattle.c_lower_worlds.specs.SameStatements.{Begins}
use Rattle.c_lower_worlds.specs.Same.{Same}
use Rattle.c_lower_worlds.specs.Naming.Naming.{Arrives, Promise}
use Rattle.c_lower_worlds.proofs.SameSteps.{begins, earlier, then_same, turn_same}

a_fault : source.Frame → source.World → step.Step
a_fault s w = step.ends (source.fault source.missing None) w

pub then_named : (p : Program) (f : Func) (t : Numbers) (n : ℕ) (from : run.Frame) (ids : Ids) (d : List ℕ) (before : source.Frame) (a : step.Step) (c : run.Step)
    (go : source.Frame → source.World → step.Step) (on : run.Frame → cw.World → run.Step) →
    Same p f t n from a c → Promise f ids d before a →
    ((s : source.Frame) (w : source.World) (frame : run.Frame) (g : Registers) → Arrives f ids d before s → Begins p f n s w frame g →
    Spares (first_temps p f) t from frame → Same p f t n frame (go s w) (on frame (c_world p g w))) →
    Same p f t n from (step.then_do a go) (run.then_do c on)
unfolding step.then_do run.then_do a_fault
then_named p f t n from ids d before (step.goes s w) c go on h promise k =
    rw h.is (earlier p f t n from h.to (go s w) (on h.to (c_world p h.registers w)) h.comes.spares
    (k s w h.to h.registers promise (begins h.comes) h.comes.spares))
then_named p f t n from ids d before (step.jumps true s w) c go on h promise k = then_same p f t n from (step.jumps true s w) c a_fault on h (λ s w frame g b sp. tt)
then_named p f t n from ids d before (step.jumps false s w) c go on h promise k = then_same p f t n from (step.jumps false s w) c a_fault on h (λ s w frame g b sp. tt)
then_named p f t n from ids d before (step.leaves a kept w) c go on h promise k = then_same p f t n from (step.leaves a kept w) c a_fault on h (λ s w frame g b sp. tt)
then_named p f t n from ids d before (step.ends o w) c go on h promise k = then_same p f t n from (step.ends o w) c a_fault on h (λ s w frame g b sp. tt)

pub turn_named : (p : Program) (f : Func) (t : Numbers) (n : ℕ) (from : run.Frame) (ids : Ids) (before : source.Frame) (a : step.Step) (c : run.Step)
    (go : source.Frame → source.World → step.Step) (on : run.Frame → cw.World → run.Step) →
    Same p f t n from a c → Promise f ids ids.vars before a →
    ((s : source.Frame) (w : source.World) (frame : run.Frame) (g : Registers) → Arrives f ids ids.vars before s → Begins p f n s w frame g →
    Spares (first_temps p f) t from frame → Same p f t n frame (go s w) (on frame (c_world p g w))) →
    Same p f t n from (step.then_turn a go) (run.then_turn c on)
unfolding step.then_turn run.then_turn a_fault
turn_named p f t n from ids before (step.goes s w) c go on h promise k =
    rw h.is (earlier p f t n from h.to (go s w) (on h.to (c_world p h.registers w)) h.comes.spares
    (k s w h.to h.registers promise (begins h.comes) h.comes.spares))
turn_named p f t n from ids before (step.jumps true s w) c go on h promise k =
    rw h.is (earlier p f t n from h.to (go s w) (on h.to (c_world p h.registers w)) h.comes.spares
    (k s w h.to h.registers promise (begins h.comes) h.comes.spares))
turn_named p f t n from ids before (step.jumps false s w) c go on h promise k = turn_same p f t n from (step.jumps false s w) c a_fault on h (λ s w frame g b sp. tt)
turn_named p f t n from ids before (step.leaves a kept w) c go on h promise k = turn_same p f t n from (step.leaves a kept w) c a_fault on h (λ s w frame g b sp. tt)
turn_named p f t n from ids before (step.ends o w) c go on h promise k = turn_same p f t n from (step.ends o w) c a_fault on h (λ s w frame g b sp. tt)
