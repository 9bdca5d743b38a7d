-- What is known of a statement that a run of an accepted program comes to.
use Rattle.std.specs.Prelude.{◌≡◌, ℕ, []}
use Rattle.vlt_core.specs.Core.{Form, Func, Program}
use Rattle.vlt_core.specs.Instances.{IsInstanceOf}
use Rattle.vlt_core.specs.Maps.{HeldMap}
use Rattle.vlt_core.specs.Bodies.{flow_of}
use Rattle.vlt_core.specs.Derives.{Derives}
use Rattle.vlt_core.specs.KindedScopes.{Ids}
use Rattle.vlt_meaning.specs.World.{World, Frame}
use Rattle.vlt_meaning.specs.Run.{Setup}
use Rattle.vlt_meaning_laws.specs.Machine.Machine.{Conf}
use Rattle.vlt_meaning_laws.specs.Machine.Reached.{IsReached, IsBefore}
use Rattle.vlt_sound_worlds.specs.Agrees.{Agrees}
use Rattle.vlt_sound_statements.specs.Kinded.{IsKindedForm}
use Rattle.vlt_sound_statements.specs.Sites.{Site, IsAt}
use Rattle.vlt_run_laws.specs.Named.{HasNamedHead}

-- It breaks no rule in its scope, a map there tells the truth and leads through it, and the head's keys name objects.
pub record IsKnown (p : Program) (f : Func) (form : Form) (frame : Frame) (w : World) : Type 0 where
  pub position : ℕ
  pub function : IsInstanceOf p position f
  pub site : Site
  pub ids : Ids
  pub map : HeldMap
  pub following : HeldMap
  pub here : IsAt p f site ids
  pub kinded : IsKindedForm p f site.around ids form
  pub leads : Derives site.breaks site.turns map (flow_of p f site.left form) following
  pub agrees : Agrees p f site.context map ids [] frame w.objects
  pub head : HasNamedHead f site.context

-- each statement that a run comes to is known
abbrev pub KnowsItsSteps : Program → Type 0
KnowsItsSteps p =
    (r : Setup) (c : Conf) (form : Form) (frame : Frame) (w : World) → r.program ≡ p → IsReached r c →
    IsBefore c form frame w → IsKnown p c.func form frame w
