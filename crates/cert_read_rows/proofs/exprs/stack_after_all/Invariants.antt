use Rattle.std.proofs.Common.{◌≡◌, map, drop, []}
use Rattle.serde_json.specs.View.{view}
use Rattle.cert_rows.specs.Expressions as s
use Rattle.cert_read_rows.specs.Stacks.{stack_of}
use Rattle.cert_read_rows.proofs.exprs.stack_after_all.Given as goal

abbrev pub invariant-loop-v : goal.invariant-loop-v
invariant-loop-v l = s.stack_after_all (stack_of l.stack) (map view (drop l.v-index l.items)) ≡ s.stack_after_all [] (map view l.items)
