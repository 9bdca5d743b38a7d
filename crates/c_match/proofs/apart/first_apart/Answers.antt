use Rattle.std.proofs.Common.{◌≡◌, ◌<◌, ◌≤◌, map, length, slice_get, Some, sym, ap, ◌∙◌, subst, below_more, arith, rules}
use Rattle.c_match.specs.Seen.{piece_seen}
use Rattle.c_match.proofs.Places.{seen_at, all_seen, ends_apart}
use Rattle.c_match.proofs.apart.first_apart.Goals as goal

pub loop-at-preserved : goal.loop-at-preserved
loop-at-preserved c =
    let a = c.args.a.now in
    let b = c.args.b.now in
    let at = c.loop-at.at in
    let both = c.min-both.ensures in
    let x = c.index-a-at.result in
    let y = c.index-b-at.result in
    let in_a : at < length a = omega (arith, both, c.loop-at-test.true) in
    let in_b : at < length b = omega (arith, both, c.loop-at-test.true) in
    let same : piece_seen x ≡ piece_seen y = search rules in
    below_more (λ j. slice_get (map piece_seen a) j ≡ slice_get (map piece_seen b) j) at c.loop-at.invariant
    (seen_at piece_seen a at x in_a c.index-a-at.is ∙ ap Some same ∙ sym (seen_at piece_seen b at y in_b c.index-b-at.is))

pub returns-then-a-b : goal.returns-then-a-b
returns-then-a-b c =
    let a = c.args.a.now in
    let b = c.args.b.now in
    all_seen piece_seen a b c.loop-at.at c.if-a-b.true (subst (λ n. n ≤ c.loop-at.at) c.min-both.ensures c.loop-at-test.false) c.loop-at.invariant

pub returns : goal.returns
returns c =
    let a = c.args.a.now in
    let b = c.args.b.now in
    record {
      before = λ j less. c.loop-at.invariant j (omega (arith, less, c.loop-at-test.false));
      here = ends_apart piece_seen a b c.min-both.result c.min-both.ensures c.if-a-b.false;
    }
