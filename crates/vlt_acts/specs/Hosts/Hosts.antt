-- What a statement that speaks with the host comes to: in the tables, in the host's numbers, and in what is written.
use Rattle.std.specs.Prelude.{◌≡◌, ◌⊎◌, ℕ, true, drop, Result, Ok, Err}
use Rattle.vlt_numbers.specs.HostAnswers.{lists_of}
use Rattle.vlt_core.specs.Core.{Simple}
use Rattle.vlt_meaning.specs.World.{World, Frame, is_fault}
use Rattle.vlt_meaning.specs.Step.{Step, goes, jumps, leaves, ends}
use Rattle.vlt_meaning.specs.Run.{does_simple}
use Rattle.vlt_heap.specs.declared.heap.Heap.{Heap}
use Rattle.vlt_heap.specs.Items.{Items}
use Rattle.vlt_acts.specs.declared.values.values.Values.{Values}
use Rattle.vlt_acts.specs.Values.Shown.{Seen}
use Rattle.vlt_acts.specs.Acts.Acts.{setup, Shows}
use Rattle.vlt_steps.specs.declared.stop.Stop.{Stop}
use Rattle.vlt_steps.specs.Writing.{Outside}
use Rattle.vlt_acts.specs.declared.hosts.host.Host.{Host}
use Rattle.vlt_acts.specs.Hosts.Stops.{Wrote, IsCut, HasStopped}

-- the input and the answers that the host has left
pub record ShowsHost (host : Host) (w : World) : Type 0 where
  pub input : w.input ≡ host.input.now
  pub answers : w.answers ≡ drop host.taken (lists_of host.answers.now)
  pub taken : w.taken ≡ host.taken

-- ---- what is come to

-- the run goes on, and the tables show where it is
pub record Went (before : Items) (heap : Heap) (values : Values) (host : Host) (start end : Outside) (w : World) (frame : Frame) (v : World) : Type 0 where
  pub shows : Shows before heap values frame v.objects
  pub hosts : ShowsHost host v
  pub fuel : v.fuel ≡ w.fuel
  pub wrote : Wrote w v start end

-- Where the run goes wrong, any answer will do. The run may end after what the sink took a part of.
abbrev pub Comes : Items → Heap → Values → Host → (start end : Outside) → Result (Unit {0}) Stop → World → Step → Type 0
Comes before heap values host start end (Ok u) w (goes frame v) = Went before heap values host start end w frame v
Comes before heap values host start end (Err stop) w (goes frame v) = IsCut w start end stop v
Comes before heap values host start end (Ok u) w (ends o v) = is_fault o ≡ true
Comes before heap values host start end (Err stop) w (ends o v) =
    (is_fault o ≡ true) ⊎ (HasStopped w start end w.fuel stop o v ⊎ IsCut w start end stop v)
Comes before heap values host start end r w (jumps c frame v) = ⊥
Comes before heap values host start end r w (leaves a kept v) = ⊥

-- a statement, whatever frame and objects the tables showed
abbrev pub DoesOut : (h : Heap) → (old new : Values) → (before after : Host) → (start end : Outside) → Result (Unit {0}) Stop → Simple → Type 0
DoesOut h old new before after start end r s =
    (c : Seen h old) (w : World) (n d : ℕ) → w.objects ≡ c.objects → ShowsHost before w →
    Comes c.items h new after start end r w (does_simple (setup c.program n d) c.func s c.frame w)
