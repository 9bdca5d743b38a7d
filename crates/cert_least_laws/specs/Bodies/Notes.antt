-- The walk of an accepted body has notes.
use Rattle.std.specs.Prelude.{◌≡◌, ◌<◌, ◌^◌, ℕ, false, length, Option, Some, slice_get}
use Rattle.vlt_core.specs.Core.{Func, Program}
use Rattle.vlt_core.specs.Bodies.{body_flow}
use Rattle.vlt_core.specs.Derives.{start_map, IsAccepted}
use Rattle.vlt_core.specs.Flow.{size_block}
use Rattle.vlt_core.specs.Instances.{instance, IsOrigin}
use Rattle.vlt_core.specs.Kinded.{IsKinded}
use Rattle.vlt_core_laws.specs.Fit.{IsWellFormed}
use Rattle.vlt_flow.specs.Notes.Noted.{IsUnnoted}
use Rattle.cert_fit_laws.specs.Limits.{IsLimitedProgram}
use Rattle.cert_least_laws.specs.Bodies.Narrow.{HasNarrow}

-- In no instance of a body of fewer than 2^32 statements do the maps that a walk keeps lack a list.
abbrev pub AcceptedBodiesHaveNotes : Type 0
AcceptedBodiesHaveNotes =
    (p : Program) → IsKinded p → IsLimitedProgram p → IsWellFormed p → HasNarrow p →
    IsAccepted p → (g : ℕ) (f : Func) (o : Option ℕ) → slice_get p.fns g ≡ Some f →
    f.external ≡ false → IsOrigin p f o →
    size_block (body_flow p (instance p f o)) < 2 ^ 32 →
    IsUnnoted (length f.keys) (length f.vars) (body_flow p (instance p f o))
    (start_map p (instance p f o)) → ⊥
