use Rattle.std.proofs.Common.{rules, arith, ◌≤◌}
use Rattle.std.proofs.lemmas.Option.{slice_get_past}
use Rattle.vlt_heap.proofs.heap.Heap.find.Goals as goal

pub returns-then-i-from : goal.returns-then-i-from
returns-then-i-from c = λ items holds made o at.
    let past : c.args.self.now.width ≤ c.args.i = search rules in
    slice_get_past o.slots c.args.i (omega (arith, past, (holds.shown c.args.number o at).row.long))
