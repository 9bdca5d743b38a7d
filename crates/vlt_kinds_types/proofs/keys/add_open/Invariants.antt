use Rattle.std.proofs.Common.{◌≡◌, ◌++◌, drop, map}
use Rattle.vlt_syntax.specs.View as view
use Rattle.vlt_kinds_types.specs.Files as f
use Rattle.vlt_kinds_types.specs.Types as t
use Rattle.vlt_kinds_types.specs.Seen.{use_seen}
use Rattle.vlt_kinds_types.specs.declared.shapes.Wanted.TheVariants as wanted
use Rattle.vlt_kinds_types.proofs.keys.add_open.Given as goal

abbrev pub invariant-loop-key : goal.invariant-loop-key
invariant-loop-key l =
    map use_seen l.uses ++ map (t.key_use wanted.Unknown) (view.names_of (drop l.key-index l.keys))
    ≡ map use_seen l.initial.uses ++ map (t.key_use wanted.Unknown) (view.names_of l.keys)
