use Rattle.std.proofs.Common.{◌≡◌, drop, map}
use Rattle.vlt_syntax.specs.View as view
use Rattle.vlt_core.specs.View as core_view
use Rattle.vlt_kinds_types.specs.Seen.{use_seen}
use Rattle.vlt_kinds_heads.specs.Places as p
use Rattle.vlt_kinds_heads.specs.Keys as k
use Rattle.vlt_kinds_heads.specs.Heads as h
use Rattle.vlt_kinds_heads.specs.Externals as e
use Rattle.vlt_kinds_heads.specs.Phase as q
use Rattle.vlt_kinds_heads.specs.Seen.{keys_seen}
use Rattle.vlt_kinds_heads.proofs.keys.HeadKeys.note_parameters.Given as goal

abbrev pub invariant-loop-place : goal.invariant-loop-place
invariant-loop-place l = k.after_parameters (keys_seen l.self) (map use_seen (drop l.place-index l.uses)) ≡ k.after_parameters (keys_seen l.initial.self) (map use_seen l.uses)
