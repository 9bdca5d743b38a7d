use Rattle.std.proofs.Common.{◌≡◌, ◌<◌, ◌^◌, ℕ}
use Rattle.vlt_core.specs.View.{program_of}
use Rattle.vlt_core.specs.Least.{first_number}
use Rattle.cert_check.specs.Notes.{notes_of_all}
use Rattle.cert_check.specs.Whole.{HoldAt}
use Rattle.cert_check.proofs.whole.test_all.Given as goal

abbrev pub invariant-loop-g : goal.invariant-loop-g
invariant-loop-g l =
    (l.first ≡ first_number (program_of l.p) l.g) × (l.first < 2 ^ 62) × ((i : ℕ) → i < l.g → HoldAt (program_of l.p) (notes_of_all l.all) i)
