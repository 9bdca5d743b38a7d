use Rattle.std.proofs.Common.{◌≡◌, ◌==◌, drop, map}
use Rattle.std.specs.List.{list_any}
use Rattle.vlt_syntax.specs.View as view
use Rattle.vlt_core.specs.View as core_view
use Rattle.vlt_kinds_heads.specs.Places as p
use Rattle.vlt_kinds_heads.specs.Keys as k
use Rattle.vlt_kinds_heads.specs.Heads as h
use Rattle.vlt_kinds_heads.specs.Externals as e
use Rattle.vlt_kinds_heads.specs.Phase as q
use Rattle.vlt_kinds_heads.proofs.externals.lists_position_in.Given as goal

abbrev pub invariant-loop-key : goal.invariant-loop-key
invariant-loop-key l =
    list_any (λ key. key.position == l.position) (map core_view.case_key_of l.keys)
    ≡ list_any (λ key. key.position == l.position) (map core_view.case_key_of (drop l.key-index l.keys))
