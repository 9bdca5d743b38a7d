use Rattle.std.proofs.Common.{◌≡◌, ◌++◌, drop}
use Rattle.vlt_syntax.specs.View.{names_of}
use Rattle.vlt_syntax_copies.specs.Mapped as m
use Rattle.vlt_syntax_copies.specs.Shifted as s
use Rattle.vlt_syntax_copies.proofs.names.shifted_names.Given as goal

abbrev pub invariant-loop-name : goal.invariant-loop-name
invariant-loop-name l = names_of l.made ++ m.mapped_names (s.shifted_span l.by) (names_of (drop l.name-index l.names)) ≡ m.mapped_names (s.shifted_span l.by) (names_of l.names)
