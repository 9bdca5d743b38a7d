use Rattle.std.proofs.Common.{◌≡◌, ◌+◌, [], map, drop}
use Rattle.vlt_syntax.specs.View.{decl_of}
use Rattle.vlt_kinds_types.specs.Names.Refusals.{least_from, refuse}
use Rattle.vlt_kinds_types.specs.Names.Globals.{names_seen, globals_of, globals_after, declared_again, no_counts, counts_seen}
use Rattle.vlt_core.specs.declared.rules.TheConstants as rule
use Rattle.vlt_kinds_types.proofs.names.globals.known_names.Given as goal

abbrev pub invariant-loop-decl : goal.invariant-loop-decl
invariant-loop-decl l = record {
  names : globals_after (names_seen l.known) (counts_seen l.counts) (map decl_of (drop l.decl-index l.decls)) ≡ globals_of (map decl_of l.decls);
  refused : least_from l.found.least (refuse rule.DECLARED_AGAIN (declared_again (names_seen l.known) (counts_seen l.counts) (map decl_of (drop l.decl-index l.decls))))
      ≡ least_from l.initial.found.least (refuse rule.DECLARED_AGAIN (declared_again [] no_counts (map decl_of l.decls)));
  sum : l.counts.sets + l.counts.types + l.counts.functions ≡ l.decl-index;
}
