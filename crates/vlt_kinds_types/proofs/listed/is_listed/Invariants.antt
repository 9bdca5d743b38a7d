use Rattle.std.proofs.Common.{◌≡◌, drop}
use Rattle.vlt_syntax.specs.View as view
use Rattle.vlt_kinds_types.specs.Files as f
use Rattle.vlt_kinds_types.specs.Types as t
use Rattle.vlt_kinds_types.specs.declared.shapes.Wanted.TheVariants as wanted
use Rattle.vlt_kinds_types.proofs.listed.is_listed.Given as goal

abbrev pub invariant-loop-other : goal.invariant-loop-other
invariant-loop-other l = t.is_listed l.seen l.number ≡ t.is_listed (drop l.other-index l.seen) l.number
