use Rattle.std.proofs.Common.{◌≡◌, ◌++◌, drop}
use Rattle.vlt_syntax.specs.View as view
use Rattle.vlt_core.specs.View as core_view
use Rattle.vlt_kinds_types.specs.Types as t
use Rattle.vlt_kinds_types.proofs.made.key_numbers.Given as goal

abbrev pub invariant-loop-key : goal.invariant-loop-key
invariant-loop-key g l =
    core_view.keys_of l.ids ++ t.key_numbers (g.K.KeyNumbers.numbers l.numbers) (view.names_of (drop l.key-index l.keys))
    ≡ t.key_numbers (g.K.KeyNumbers.numbers l.numbers) (view.names_of l.keys)
