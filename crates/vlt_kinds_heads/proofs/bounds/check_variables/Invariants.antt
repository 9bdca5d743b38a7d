use Rattle.std.proofs.Common.{◌≡◌, false, drop, map}
use Rattle.vlt_syntax.specs.View as view
use Rattle.vlt_kinds_types.specs.Names.Along.{found_along}
use Rattle.vlt_kinds_types.specs.Names.Globals.{names_seen}
use Rattle.vlt_kinds_heads.specs.Bounds as b
use Rattle.vlt_kinds_heads.specs.Seen.{keys_seen}
use Rattle.vlt_kinds_heads.proofs.bounds.check_variables.Given as goal

abbrev pub invariant-loop-entry : goal.invariant-loop-entry
invariant-loop-entry l =
    found_along b.after_bound (b.variable_refused (names_seen l.known) (keys_seen l.keys) (map view.parameter_of l.parameters)) l.again (map view.entry_of (drop l.entry-index l.clause)) l.found.least
    ≡ found_along b.after_bound (b.variable_refused (names_seen l.known) (keys_seen l.keys) (map view.parameter_of l.parameters)) false (map view.entry_of l.clause) l.initial.found.least
