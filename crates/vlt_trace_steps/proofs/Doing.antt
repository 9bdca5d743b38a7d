-- The statement that a form is.
use Rattle.std.proofs.Common.{◌≡◌, ℕ, Result, sym, subst, ◌∙◌}
use Rattle.vlt_core.specs.Core.{Simple, Form, simple}
use Rattle.vlt_trace_worlds.specs.declared.stops.Halt.{Halt}
use Rattle.vlt_trace_worlds.specs.declared.running.Running.{Running}
use Rattle.vlt_trace_worlds.specs.declared.worlds.Frame.{Frame}
use Rattle.vlt_trace_worlds.specs.declared.worlds.World.{World}
use Rattle.vlt_trace_steps.specs.Does.{Does}

same_simple : (t s : Simple) → simple t ≡ simple s → t ≡ s
same_simple t s e = cc

pub does_as : (at : Running) (heap : ℕ) (form : Form) (t : Simple) (frame : Frame) (world : World) (r : Result (Unit {0}) Halt) (next : Frame) (after : World) → form ≡ simple t → Does at heap t frame world r next after →
    (s : Simple) → form ≡ simple s → Does at heap s frame world r next after
does_as at heap form t frame world r next after is d s e = subst (λ u. Does at heap u frame world r next after) (same_simple t s (sym is ∙ e)) d
