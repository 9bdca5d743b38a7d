-- What a step of C does, where a step of the source does this.
use Rattle.std.specs.Prelude.{◌≡◌, ◌≤◌, ℕ, true, false, if◌then◌else◌, List, [], ◌∷◌, map, Option, Some, None, slice_get}
use Rattle.vlt_core.specs.Core.{Ty, Func, Program}
use Rattle.vlt_meaning.specs.World as source
use Rattle.vlt_meaning.specs.Step as step
use Rattle.c_meaning.specs.World as cw
use Rattle.c_meaning.specs.Run as run
use Rattle.c_lower.specs.Slots.{Numbers, first_temps}
use Rattle.c_lower_worlds.specs.Worlds.{Registers, AreRegisters, c_world, c_event, slot_values, numbers_in, references_in}
use Rattle.c_lower_worlds.specs.Given.{IsFed}
use Rattle.c_lower_worlds.specs.Shapes.{types_of, AreShaped, HasShape}
use Rattle.c_lower_worlds.specs.Frames.{StandsFor, Spares}
use Rattle.c_lower.specs.Statements.{is_variant, after_first}

-- a frame and a world after a step
pub record Comes (p : Program) (f : Func) (t : Numbers) (fuel : ℕ) (from : run.Frame)
    (s : source.Frame) (w : source.World) (to : run.Frame) (g : Registers) : Type 0 where
  pub frame : StandsFor p (types_of w.objects) f s to
  pub spares : Spares (first_temps p f) t from to
  pub shaped : AreShaped p w.objects
  pub registers : AreRegisters g
  pub fuel_left : w.fuel ≤ fuel
  pub fed : IsFed w.input w.answers

pub record Went (p : Program) (f : Func) (t : Numbers) (fuel : ℕ) (from : run.Frame)
    (s : source.Frame) (w : source.World) (after : run.Step) : Type 0 where
  pub to : run.Frame
  pub registers : Registers
  pub is : after ≡ run.goes to (c_world p registers w)
  pub comes : Comes p f t fuel from s w to registers

pub record Broke (p : Program) (f : Func) (t : Numbers) (fuel : ℕ) (from : run.Frame)
    (s : source.Frame) (w : source.World) (after : run.Step) : Type 0 where
  pub to : run.Frame
  pub registers : Registers
  pub is : after ≡ run.breaks to (c_world p registers w)
  pub comes : Comes p f t fuel from s w to registers

pub record Continued (p : Program) (f : Func) (t : Numbers) (fuel : ℕ) (from : run.Frame)
    (s : source.Frame) (w : source.World) (after : run.Step) : Type 0 where
  pub to : run.Frame
  pub registers : Registers
  pub is : after ≡ run.continues to (c_world p registers w)
  pub comes : Comes p f t fuel from s w to registers

-- ---- what a function gives

abbrev pub first_value : List cw.Value → Option cw.Value
first_value [] = None
first_value (a ∷ rest) = Some a

-- the registers begin with these
pub record BeginWith {A : Type 0} (ys xs : List A) : Type 0 where
  pub at : (k : ℕ) (y : A) → slice_get ys k ≡ Some y → slice_get xs k ≡ Some y

-- of a variant the slots after the first are in the registers
pub record InRegisters (vs : List cw.Value) (g : Registers) : Type 0 where
  pub numbers : BeginWith (numbers_in vs) g.numbers
  pub references : BeginWith (references_in vs) g.references

abbrev pub rest_values : Option Ty → List cw.Value → List cw.Value
rest_values ty vs = if is_variant ty then after_first vs else []

pub record IsGiven (p : Program) (types : List ℕ) (ty : Ty) (a : source.Value)
    (value : Option cw.Value) (g : Registers) : Type 0 where
  pub shape : HasShape p types ty a
  pub first : value ≡ first_value (slot_values p ty a)
  pub rest : InRegisters (rest_values (Some ty) (slot_values p ty a)) g

abbrev pub Gives : Program → (types : List ℕ) → Option Ty → Option source.Value → Option cw.Value →
    Registers → Type 0
Gives p ts None None v g = v ≡ None
Gives p ts (Some ty) (Some a) v g = IsGiven p ts ty a v g
Gives p ts _ _ v g = ⊥

-- an object that hangs on nothing and isn't out
pub record HangsOnNothing (objects : List source.Object) (n : ℕ) : Type 0 where
  pub object : source.Object
  pub at : slice_get objects n ≡ Some object
  pub above : source.above object.owner ≡ None
  pub out : source.is_out object.owner ≡ false
  pub live : source.is_gone object.owner ≡ false

abbrev pub HangOnNothing : List source.Object → List ℕ → Type 0
HangOnNothing objects [] = Unit {0}
HangOnNothing objects (n ∷ ns) = HangsOnNothing objects n × HangOnNothing objects ns

pub record Left (p : Program) (f : Func) (fuel : ℕ) (a : Option source.Value) (kept : List ℕ)
    (w : source.World) (after : run.Step) : Type 0 where
  pub value : Option cw.Value
  pub registers : Registers
  pub is : after ≡ run.leaves value (c_world p registers w)
  pub gives : Gives p (types_of w.objects) f.result a value registers
  pub kept_objects : HangOnNothing w.objects kept
  pub shaped : AreShaped p w.objects
  pub are : AreRegisters registers
  pub fuel_left : w.fuel ≤ fuel
  pub fed : IsFed w.input w.answers

-- ---- ends

-- At the end of a run the blocks are no matter: an answer may break off halfway.
pub record Ended (o : cw.Outcome) (w : source.World) (after : run.Step) : Type 0 where
  pub world : cw.World
  pub is : after ≡ run.stops o world
  pub events : world.events ≡ map c_event w.events
  pub fuel : world.fuel ≡ w.fuel

abbrev pub EndedAs : source.Outcome → source.World → run.Step → Type 0
EndedAs source.done w c = Ended cw.done w c
EndedAs (source.trap k) w c = Ended (cw.trap k) w c
EndedAs source.fuel_end w c = Ended cw.fuel_end w c
EndedAs source.heap_end w c = Ended cw.heap_end w c
EndedAs source.depth_end w c = Ended cw.depth_end w c
EndedAs source.input_end w c = Ended cw.input_end w c
EndedAs source.answers_end w c = Ended cw.answers_end w c
EndedAs (source.bad_answer n) w c = Ended (cw.bad_answer n) w c
EndedAs (source.fault r n) w c = Unit {0}

-- The step of C does what the step of the source does, where that isn't a fault: of a function's
-- statements whose temps begin with t, begun in this frame, with no more fuel than this.
abbrev pub Same : Program → Func → Numbers → (fuel : ℕ) → (from : run.Frame) → step.Step →
    run.Step → Type 0
Same p f t n from (step.goes s w) c = Went p f t n from s w c
Same p f t n from (step.jumps true s w) c = Continued p f t n from s w c
Same p f t n from (step.jumps false s w) c = Broke p f t n from s w c
Same p f t n from (step.leaves a kept w) c = Left p f n a kept w c
Same p f t n from (step.ends o w) c = EndedAs o w c
