use Rattle.std.proofs.Common.{◌≡◌, suc}
use Rattle.vlt_kinds_queries.specs.Rounds as m
use Rattle.vlt_kinds_queries.specs.Types.{declared_seen}
use Rattle.vlt_kinds_queries.proofs.declared.Declared.last_marks.Given as goal

abbrev pub invariant-loop-round : goal.invariant-loop-round
invariant-loop-round l = l.marks ≡ m.marks_after (declared_seen l.self) (suc l.round)
