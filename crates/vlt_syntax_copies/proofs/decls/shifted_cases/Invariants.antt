use Rattle.std.proofs.Common.{◌≡◌, ◌++◌, drop, map}
use Rattle.vlt_syntax.specs.View.{case_of}
use Rattle.vlt_syntax_copies.specs.Mapped as m
use Rattle.vlt_syntax_copies.specs.Shifted as s
use Rattle.vlt_syntax_copies.proofs.decls.shifted_cases.Given as goal

abbrev pub invariant-loop-case : goal.invariant-loop-case
invariant-loop-case l = map case_of l.made ++ map (m.mapped_case (s.shifted_span l.by)) (map case_of (drop l.case-index l.cases)) ≡ map (m.mapped_case (s.shifted_span l.by)) (map case_of l.cases)
