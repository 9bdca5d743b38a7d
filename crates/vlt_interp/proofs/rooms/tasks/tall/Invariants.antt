use Rattle.std.proofs.Common.{◌≡◌, max, drop, map}
use Rattle.vlt_core.specs.View.{program_of, func_of}
use Rattle.vlt_meaning_laws.specs.Machine.Bounds.{need_of, most, tall_of}
use Rattle.vlt_interp.proofs.rooms.tasks.tall.Given as goal

abbrev pub invariant-loop-f : goal.invariant-loop-f
invariant-loop-f l = max l.most (most need_of (map func_of (drop l.f-index l.f-items))) ≡ tall_of (program_of l.p)
