use Rattle.std.proofs.Common.{◌≡◌, ◌<◌, ◌≤◌, length, get_or, sym, rules, arith}
use Rattle.vlt_numbers.proofs.Slices.{bounds}
use Rattle.vlt_host_meaning.proofs.Parts.{part_at, no_part}
use Rattle.vlt_host_meaning.proofs.calls.part.Given as given
use Rattle.vlt_host_meaning.proofs.calls.part.Goals as goal

inside : (o : given.Over) (c : goal.After-row_known-2-1 o) → (c.start.result ≤ c.in_ok-end.field-0.now) × (c.in_ok-end.field-0.now ≤ length c.args.items.now)
inside o c =
    let here : c.args.index < length c.args.ends.now = search rules in
    let b = bounds 0 c.args.ends.now _ c.args.index c.requires here in
    let end : c.in_ok-end.field-0.now ≡ get_or c.args.ends.now c.args.index 0 = search rules in
    (omega (arith, c.start.ensures, b.0, b.1), omega (arith, b.1))

pub offset_bounds-items-start : goal.offset_bounds-items-start
offset_bounds-items-start o = λ c. omega (arith, (inside o c).0, (inside o c).1)

pub slice_bounds-result-count : goal.slice_bounds-result-count
slice_bounds-result-count o = λ c. (inside o c).0

pub slice_bounds-result-start : goal.slice_bounds-result-start
slice_bounds-result-start o = λ c. (inside o c).0

pub slice_bounds-result-end : goal.slice_bounds-result-end
slice_bounds-result-end o = λ c. (inside o c).1

pub returns : goal.returns
returns o = λ c.
    let here : c.args.index < length c.args.ends.now = search rules in
    let end : c.in_ok-end.field-0.now ≡ get_or c.args.ends.now c.args.index 0 = search rules in
    rw (c.start.ensures, end) (sym (part_at 0 c.args.ends.now c.args.items.now c.args.index here))

pub returns-in_err-end : goal.returns-in_err-end
returns-in_err-end o = λ c.
    let past : length c.args.ends.now ≤ c.args.index = search rules in
    rw c.from_residual.ensures (sym (no_part 0 c.args.ends.now c.args.items.now c.args.index past))
