use Rattle.std.proofs.Common.{◌≡◌, ◌<◌, [], drop, All}
use Rattle.vlt_syntax.specs.View as view
use Rattle.vlt_kinds_types.specs.Names.Refusals.{least_from}
use Rattle.vlt_kinds_types.specs.Files as f
use Rattle.vlt_kinds_types.specs.Types as t
use Rattle.vlt_kinds_types.specs.Seen.{states_seen}
use Rattle.vlt_kinds_types.specs.declared.shapes.Wanted.TheVariants as wanted
use Rattle.vlt_kinds_types.proofs.listed.check_listed.Given as goal

abbrev pub invariant-loop-name : goal.invariant-loop-name
invariant-loop-name l = record {
  refused : least_from l.found.least (t.listed_refused (t.known_states (states_seen l.known)) l.seen (view.names_of (drop l.name-index l.names)))
      ≡ least_from l.initial.found.least (t.listed_refused (t.known_states (states_seen l.known)) [] (view.names_of l.names));
  small : All (λ i. i < 32) l.seen;
}
