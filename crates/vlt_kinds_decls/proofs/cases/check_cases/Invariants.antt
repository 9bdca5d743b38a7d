use Rattle.std.proofs.Common.{◌≡◌, drop, map}
use Rattle.vlt_syntax.specs.View as view
use Rattle.vlt_core.specs.View as core_view
use Rattle.vlt_kinds_types.specs.Names.Refusals.{found_each}
use Rattle.vlt_kinds_types.specs.Types as t
use Rattle.vlt_kinds_types.specs.Seen.{file_seen}
use Rattle.vlt_kinds_decls.specs.Decls as d
use Rattle.vlt_kinds_decls.specs.Made as m
use Rattle.vlt_kinds_decls.specs.declared.parts.Part.TheVariants as part
use Rattle.vlt_kinds_decls.proofs.cases.check_cases.Given as goal

abbrev pub invariant-loop-case : goal.invariant-loop-case
invariant-loop-case l =
    found_each (d.case_refused (file_seen l.file) (map view.header_key_of l.params)) (map view.case_of (drop l.case-index l.cases)) l.found.least
    ≡ found_each (d.case_refused (file_seen l.file) (map view.header_key_of l.params)) (map view.case_of l.cases) l.initial.found.least
