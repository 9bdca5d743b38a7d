-- Marks, as `vlt_kinds_decls` finds them.
use Rattle.std.proofs.Common.{◌≡◌, suc, length}
use Rattle.vlt_core.specs.Core.{Program}
use Rattle.vlt_kinds_queries.specs.Marks.{Marks, AreMarks}
use Rattle.vlt_kinds_queries.specs.Rounds.{marks_after}
use Rattle.vlt_kinds_queries.proofs.Marks.{are_marks}

pub are_marked : (p : Program) (marks : Marks) → marks ≡ marks_after p (suc (length p.types)) → AreMarks p marks
are_marked p marks is = are_marks p marks is
