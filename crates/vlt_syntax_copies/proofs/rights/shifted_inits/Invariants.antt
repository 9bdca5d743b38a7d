use Rattle.std.proofs.Common.{◌≡◌, ◌++◌, drop, map}
use Rattle.vlt_syntax.specs.View.{init_of}
use Rattle.vlt_syntax_copies.specs.Mapped as m
use Rattle.vlt_syntax_copies.specs.Shifted as s
use Rattle.vlt_syntax_copies.proofs.rights.shifted_inits.Given as goal

abbrev pub invariant-loop-init : goal.invariant-loop-init
invariant-loop-init l = map init_of l.made ++ map (m.mapped_init (s.shifted_span l.by)) (map init_of (drop l.init-index l.inits)) ≡ map (m.mapped_init (s.shifted_span l.by)) (map init_of l.inits)
