use Rattle.std.proofs.Common.{◌≡◌, ◌<◌, ℕ, Some, [], ◌∷◌, length, slice_get}
use Rattle.vlt_meaning.specs.Objects.{is_under}
use Rattle.vlt_trace_worlds.specs.View.{objects_view}
use Rattle.vlt_trace_worlds.proofs.changes.all_under.Given as goal

abbrev pub invariant-loop-n : goal.invariant-loop-n
invariant-loop-n l = record {
  long : length l.under.items ≡ l.n;
  each : (k : ℕ) → k < l.n → slice_get l.under.items k ≡ Some (is_under (objects_view l.objects) (l.root ∷ []) k);
}
