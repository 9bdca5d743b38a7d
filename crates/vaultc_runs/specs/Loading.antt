-- What `load` keeps of a run, and how far the run came.
use Rattle.std.specs.Prelude.{ℕ, Bool, true, false, List}
use Rattle.vlt_steps.specs.declared.stop.Stop.{Stop}
use Rattle.vlt_steps.specs.declared.stop.Stop.TheVariants.{Done, SinkFault}
use Rattle.vlt_steps.specs.declared.end.RunEnd.{RunEnd}
use Rattle.vlt_steps.specs.declared.end.RunEnd.TheVariants.{Stopped}
use Rattle.vaultc_runs.specs.declared.kept.Kept.{Kept}

-- what was written to the sink
abbrev pub kept_bytes : Kept → List ℕ
kept_bytes kept = kept.bytes.items

-- how many writes failed
abbrev pub kept_faults : Kept → ℕ
kept_faults kept = kept.faults

-- the run came to the end of `main`
abbrev pub is_done : RunEnd Stop → Bool
is_done (Stopped Done) = true
is_done _ = false

-- the sink failed
abbrev pub is_cut : RunEnd Stop → Bool
is_cut (Stopped SinkFault) = true
is_cut _ = false
