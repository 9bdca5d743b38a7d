use Rattle.std.proofs.Common.{◌≡◌, ◌++◌, drop, map}
use Rattle.vlt_syntax.specs.View.{entry_of}
use Rattle.vlt_syntax_copies.specs.Mapped as m
use Rattle.vlt_syntax_copies.specs.Shifted as s
use Rattle.vlt_syntax_copies.proofs.heads.shifted_entries.Given as goal

abbrev pub invariant-loop-entry : goal.invariant-loop-entry
invariant-loop-entry l = map entry_of l.made ++ map (m.mapped_entry (s.shifted_span l.by)) (map entry_of (drop l.entry-index l.entries)) ≡ map (m.mapped_entry (s.shifted_span l.by)) (map entry_of l.entries)
