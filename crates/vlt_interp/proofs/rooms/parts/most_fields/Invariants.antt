use Rattle.std.proofs.Common.{◌≡◌, max, map, drop, length, Some}
use Rattle.vlt_core.specs.Core.{TypeDecl}
use Rattle.vlt_core.specs.View.{program_of, type_of}
use Rattle.vlt_core.specs.Lookups.{fields_in}
use Rattle.vlt_core.specs.Widths.{greatest}
use Rattle.vlt_interp.proofs.rooms.parts.most_fields.Given as goal

abbrev pub invariant-loop-t : goal.invariant-loop-t
invariant-loop-t l =
    max l.most (greatest (λ (t : TypeDecl). length (fields_in (Some t))) (map type_of (drop l.t-index l.t-items))) ≡ greatest (λ (t : TypeDecl). length (fields_in (Some t))) (program_of l.p).types
