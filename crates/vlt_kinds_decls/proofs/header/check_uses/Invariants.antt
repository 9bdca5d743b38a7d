use Rattle.std.proofs.Common.{◌≡◌, drop, map}
use Rattle.vlt_syntax.specs.View as view
use Rattle.vlt_core.specs.View as core_view
use Rattle.vlt_kinds_types.specs.Names.Refusals.{found_each}
use Rattle.vlt_kinds_types.specs.Names.Globals.{names_seen}
use Rattle.vlt_kinds_types.specs.Types as t
use Rattle.vlt_kinds_types.specs.Seen.{use_seen}
use Rattle.vlt_kinds_decls.specs.Decls as d
use Rattle.vlt_kinds_decls.specs.Made as m
use Rattle.vlt_kinds_decls.specs.declared.parts.Part.TheVariants as part
use Rattle.vlt_kinds_decls.proofs.header.check_uses.Given as goal

abbrev pub invariant-loop-place : goal.invariant-loop-place
invariant-loop-place l =
    found_each (d.use_refused (names_seen l.file.globals) (map view.header_key_of l.params)) (map use_seen (drop l.place-index l.uses)) l.found.least
    ≡ found_each (d.use_refused (names_seen l.file.globals) (map view.header_key_of l.params)) (map use_seen l.uses) l.initial.found.least
