use Rattle.std.proofs.Common.{◌≡◌, ◌-◌, [], ◌∷◌, length}
use Rattle.vlt_base.specs.Parents.{reaches}
use Rattle.vlt_meaning.specs.Objects.{parents_of, is_under}
use Rattle.vlt_trace_worlds.specs.View.{objects_view}
use Rattle.vlt_trace_worlds.proofs.changes.is_under.Given as goal

abbrev pub invariant-loop-left : goal.invariant-loop-left
invariant-loop-left l = reaches (length l.objects - l.left) (parents_of (objects_view l.objects)) (l.root ∷ []) l.at ≡ is_under (objects_view l.objects) (l.root ∷ []) l.n
