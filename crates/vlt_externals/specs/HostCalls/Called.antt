-- What a call of an external comes to.
use Rattle.std.specs.Prelude.{◌≡◌, ◌<◌, ◌*◌, ℕ, false, List, length, Option, None, Some, Result, Ok, slice_get}
use Rattle.std.specs.Option.{option_map}
use Rattle.vlt_base.specs.declared.ids.VarId.{VarId}
use Rattle.vlt_core.specs.Core.{Func, Program}
use Rattle.vlt_core.specs.Instances.{Bound, bound_in}
use Rattle.vlt_meaning.specs.World.{Value, World, Outcome, is_fault}
use Rattle.vlt_meaning.specs.Found.{Named}
use Rattle.vlt_meaning.specs.Values.{held_object}
use Rattle.vlt_meaning.specs.Calls.{called_instance}
use Rattle.vlt_meaning.specs.Step.{Step, ends}
use Rattle.vlt_meaning.specs.Externals.{call_external}
use Rattle.vlt_meaning_laws.specs.Machine.Reached.{NamesKeys}
use Rattle.vlt_heap.specs.declared.heap.Heap.{Heap}
use Rattle.vlt_heap.specs.Shown.{heap_of}
use Rattle.vlt_acts.specs.declared.values.values.Values.{Values}
use Rattle.vlt_acts.specs.Values.Shown.{Seen}
use Rattle.vlt_acts.specs.Frames.Frames.{frame_end, IsRunning, NamesOwn}
use Rattle.vlt_steps.specs.declared.stop.Stop.{Stop}
use Rattle.vlt_acts.specs.declared.hosts.host.Host.{Host}
use Rattle.vlt_acts.specs.Hosts.Hosts.{ShowsHost, Comes}
use Rattle.vlt_steps.specs.Writing.{Outside}
use Rattle.vlt_externals.specs.Told.{AreArgs}

-- after the frame the values of the arguments stand, and the keys that the call lists name objects
pub record IsCall (p : Program) (g : Func) (keys : List ℕ) (h : Heap) (values : Values) (host : Host) (c : Seen h values) (w : World) (args : List Value) : Type 0 where
  pub program : c.program ≡ p
  pub objects : w.objects ≡ c.objects
  pub hosts : ShowsHost host w
  pub running : IsRunning values c.func (g.params * values.width)
  pub names : NamesOwn c.func c.frame
  pub own : (i k : ℕ) → slice_get keys i ≡ Some k → k < length c.func.keys
  pub args_at : AreArgs c.items values (frame_end values.width values.base c.func) g.params args
  pub known : NamesKeys g keys c.frame

-- where the definition comes to in a call of an instance
abbrev pub called_to : (h : Heap) (values : Values) (c : Seen h values) → Func → (target : Option VarId) → (keys : List ℕ) → List Value → World → Step
called_to h values c g target keys args w =
    call_external (heap_of h) c.program c.func (option_map (λ v. v.0) target) keys g args c.frame w

-- the step doesn't end in a fault
abbrev pub IsSafe : Step → Type 0
IsSafe s = (o : Outcome) (v : World) → s ≡ ends o v → is_fault o ≡ false

-- ---- an instance

-- it doesn't go wrong, for some frame and objects that the tables show
pub record CanCallAs (p : Program) (g : Func) (target : Option VarId) (keys : List ℕ) (h : Heap) (values : Values) (host : Host) : Type 0 where
  pub seen : Seen h values
  pub world : World
  pub args : List Value
  pub call : IsCall p g keys h values host seen world args
  pub right : IsSafe (called_to h values seen g target keys args world)

-- whatever the tables showed
abbrev pub CallsAs : Program → Func → (target : Option VarId) → (keys : List ℕ) → (before after : Heap) → (old new : Values) → (first last : Host) → (start end : Outside) → Result (Unit {0}) Stop → Type 0
CallsAs p g target keys before after old new first last start end r =
    (c : Seen before old) (w : World) (args : List Value) → IsCall p g keys before old first c w args →
    Comes c.items after new last start end r w (called_to before old c g target keys args w)

-- ---- the instance that is called

-- the state of the object that the bound entry's key stands for, where that is held
abbrev pub OriginTold : Option Bound → (keys : List ℕ) → (h : Heap) → (values : Values) → Option ℕ → Type 0
OriginTold None keys h values r = r ≡ None
OriginTold (Some b) keys h values r =
    (s : ℕ) × (r ≡ Some s) × ((c : Seen h values) (k : ℕ) (m : Named) → slice_get keys b.key ≡ Some k →
    held_object k c.frame c.objects ≡ Ok m → s ≡ m.object.state)

abbrev pub TellsOrigin : Func → (keys : List ℕ) → (h : Heap) → (values : Values) → Option ℕ → Type 0
TellsOrigin g keys h values r = OriginTold (bound_in g.clause) keys h values r

-- the instance that the frame and the objects choose
abbrev pub instance_in : (h : Heap) (values : Values) (c : Seen h values) → Func → (keys : List ℕ) → World → Func
instance_in h values c g keys w = called_instance c.program g keys c.frame w.objects

-- ---- the whole call

-- it doesn't go wrong, for some frame and objects that the tables show
pub record CanCall (p : Program) (g : Func) (target : Option VarId) (keys : List ℕ) (h : Heap) (values : Values) (host : Host) : Type 0 where
  pub seen : Seen h values
  pub world : World
  pub args : List Value
  pub call : IsCall p g keys h values host seen world args
  pub right : IsSafe (called_to h values seen (instance_in h values seen g keys world) target keys args world)

-- whatever the tables showed
abbrev pub Calls : Program → Func → (target : Option VarId) → (keys : List ℕ) → (before after : Heap) → (old new : Values) → (first last : Host) → (start end : Outside) → Result (Unit {0}) Stop → Type 0
Calls p g target keys before after old new first last start end r =
    (c : Seen before old) (w : World) (args : List Value) → IsCall p g keys before old first c w args →
    Comes c.items after new last start end r w (called_to before old c (instance_in before old c g keys w) target keys args w)
