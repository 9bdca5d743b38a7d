use Rattle.std.proofs.Common.{◌≡◌, ◌<◌, ◌≤◌, length, get_or, ap, sym, rules, arith}
use Rattle.vlt_numbers.proofs.Slices.{slice_get-cut_at, slice_get-cut_at_past, bounds}
use Rattle.vlt_numbers.proofs.answers.Answers.get.Goals as goal

inside : (c : goal.After-row_known-2-1) → (c.start.result ≤ c.in_ok-end.field-0.now) × (c.in_ok-end.field-0.now ≤ length c.deref-2.result.now)
inside c =
    let here : c.args.index < length c.args.self.now.ends.items = search rules in
    let b = bounds 0 c.args.self.now.ends.items _ c.args.index c.args.self.now.ordered here in
    let end : c.in_ok-end.field-0.now ≡ get_or c.args.self.now.ends.items c.args.index 0 = search rules in
    let count : length c.deref-2.result.now ≡ length c.args.self.now.numbers.items = ap length c.deref-2.ensures.value in
    omega (arith, c.start.ensures, b.0, b.1)

pub slice_bounds-result-count : goal.slice_bounds-result-count
slice_bounds-result-count c = (inside c).0

pub slice_bounds-result-start : goal.slice_bounds-result-start
slice_bounds-result-start c = omega (arith, (inside c).0, (inside c).1)

pub slice_bounds-result-end : goal.slice_bounds-result-end
slice_bounds-result-end c = (inside c).1

pub returns : goal.returns
returns c =
    let here : c.args.index < length c.args.self.now.ends.items = search rules in
    let end : c.in_ok-end.field-0.now ≡ get_or c.args.self.now.ends.items c.args.index 0 = search rules in
    rw (c.deref-2.ensures.value, c.start.ensures, end) (sym (slice_get-cut_at 0 c.args.self.now.ends.items c.args.self.now.numbers.items c.args.index here))

pub returns-in_err-end : goal.returns-in_err-end
returns-in_err-end c =
    let past : length c.args.self.now.ends.items ≤ c.args.index = search rules in
    rw c.from_residual.ensures (sym (slice_get-cut_at_past 0 c.args.self.now.ends.items c.args.self.now.numbers.items c.args.index past))
