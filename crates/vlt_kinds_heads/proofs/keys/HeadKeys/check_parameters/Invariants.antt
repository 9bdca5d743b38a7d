use Rattle.std.proofs.Common.{◌≡◌, drop, map}
use Rattle.vlt_syntax.specs.View as view
use Rattle.vlt_core.specs.View as core_view
use Rattle.vlt_kinds_types.specs.Names.Along.{found_along}
use Rattle.vlt_kinds_types.specs.Seen.{use_seen}
use Rattle.vlt_kinds_heads.specs.Places as p
use Rattle.vlt_kinds_heads.specs.Keys as k
use Rattle.vlt_kinds_heads.specs.Heads as h
use Rattle.vlt_kinds_heads.specs.Externals as e
use Rattle.vlt_kinds_heads.specs.Phase as q
use Rattle.vlt_kinds_heads.specs.Seen.{keys_seen}
use Rattle.vlt_kinds_heads.proofs.keys.HeadKeys.check_parameters.Given as goal

abbrev pub invariant-loop-place : goal.invariant-loop-place
invariant-loop-place l = record {
  keys : k.parameters_typed (keys_seen l.self) (map use_seen (drop l.place-index l.uses)) ≡ k.parameters_typed (keys_seen l.initial.self) (map use_seen l.uses);
  refused : found_along k.after_use h.clash (keys_seen l.self) (map use_seen (drop l.place-index l.uses)) l.found.least
      ≡ found_along k.after_use h.clash (keys_seen l.initial.self) (map use_seen l.uses) l.initial.found.least;
}
