-- The arm of a case.
use Rattle.std.specs.Prelude.{ℕ, ◌==◌, if◌then◌else◌, Option, Some, None}
use Rattle.vlt_core.specs.Core.{Arms, no_arms, arm}
use Rattle.vlt_core.specs.View.{ArmView}

-- the first one of the case, with the variables that take its payloads
abbrev pub arm_for : (case : ℕ) → Arms → Option ArmView
arm_for c no_arms = None
arm_for c (arm n vs body rest) = if c == n then Some (n, vs, body) else arm_for c rest
