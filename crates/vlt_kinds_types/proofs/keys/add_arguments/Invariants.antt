use Rattle.std.proofs.Common.{◌≡◌, ◌++◌, drop, map}
use Rattle.vlt_syntax.specs.View as view
use Rattle.vlt_kinds_types.specs.Files as f
use Rattle.vlt_kinds_types.specs.Types as t
use Rattle.vlt_kinds_types.specs.Seen.{use_seen}
use Rattle.vlt_kinds_types.specs.declared.shapes.Wanted.TheVariants as wanted
use Rattle.vlt_kinds_types.proofs.keys.add_arguments.Given as goal

abbrev pub invariant-loop-i : goal.invariant-loop-i
invariant-loop-i l =
    map use_seen l.uses ++ t.argument_uses (drop l.i l.header) (view.names_of (drop l.i l.keys))
    ≡ map use_seen l.initial.uses ++ t.argument_uses l.header (view.names_of l.keys)
