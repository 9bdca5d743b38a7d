use Rattle.std.proofs.Common.{◌≡◌, take}
use Rattle.vlt_resolve_bodies.proofs.copies.declarations.copy_cases.Given as goal

abbrev pub invariant-loop-case : goal.invariant-loop-case
invariant-loop-case l = l.made ≡ take l.case-index l.cases
