use Rattle.std.proofs.Common.{◌≡◌, ◌++◌, drop, map}
use Rattle.vlt_syntax.specs.View.{header_key_of}
use Rattle.vlt_syntax_copies.specs.Mapped as m
use Rattle.vlt_syntax_copies.specs.Shifted as s
use Rattle.vlt_syntax_copies.proofs.decls.shifted_header.Given as goal

abbrev pub invariant-loop-param : goal.invariant-loop-param
invariant-loop-param l = map header_key_of l.made ++ map (m.mapped_header_key (s.shifted_span l.by)) (map header_key_of (drop l.param-index l.params)) ≡ map (m.mapped_header_key (s.shifted_span l.by)) (map header_key_of l.params)
