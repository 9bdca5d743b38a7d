use Rattle.std.proofs.Common.{◌≡◌, ◌+◌, ◌<◌, ◌≤◌, ◌++◌, ◌∷◌, [], length, Err, ap, sym, ◌∙◌, rules, arith}
use Rattle.std.proofs.lemmas.Bool.Decides.{nat_tests}
use Rattle.vlt_numbers.specs.Text.{numbers_of}
use Rattle.vlt_numbers.specs.declared.error.NumbersError.TheVariants.{Bad}
use Rattle.vlt_numbers.proofs.Reading.{line_in, after_line, more_lines, bad_line}
use Rattle.vlt_numbers.proofs.read_answers.Goals as goal

pub returns-in_err-push_numbers-clause-bad : goal.returns-in_err-push_numbers-clause-bad
returns-in_err-push_numbers-clause-bad c = λ line e.
    let first : c.cut.result.0.now ≡ line_in c.loop-rest.rest.now = c.cut.ensures.before in
    let more : 0 < length c.loop-rest.rest.now = grind (arith, nat_tests) in
    let told : c.push_numbers.result ≡ Err (Bad line) = search rules in
    let bad = c.push_numbers.ensures.bad line told in
    let at : line ≡ length c.loop-rest.ends.items + 1 = search rules in
    bad_line c.args.text.now c.loop-rest.rest.now c.loop-rest.numbers.items c.loop-rest.ends.items c.loop-rest.invariant more (rw first at bad.1) ∙ ap Err (sym at)

pub loop-rest-preserved : goal.loop-rest-preserved
loop-rest-preserved c =
    let first : c.cut.result.0.now ≡ line_in c.loop-rest.rest.now = c.cut.ensures.before in
    let following : c.cut.result.1.now ≡ after_line c.loop-rest.rest.now = c.cut.ensures.following in
    let more : 0 < length c.loop-rest.rest.now = grind (arith, nat_tests) in
    let numbers : c.push_numbers.new.numbers.items ≡ c.loop-rest.numbers.items ++ numbers_of (line_in c.loop-rest.rest.now) = rw first at c.in_ok-push_numbers.ensures.pushed in
    let count : c.len-in-loop-rest.result ≡ length c.push_numbers.new.numbers.items = search rules in
    let ends : c.push.new.self.items ≡ c.loop-rest.ends.items ++ length c.push_numbers.new.numbers.items ∷ [] = c.in_ok-push.ensures.items ∙ ap (λ n. c.loop-rest.ends.items ++ n ∷ []) count in
    let few : length c.push_numbers.new.numbers.items ≤ length c.loop-rest.numbers.items + length c.cut.result.0.now = search rules in
    rw (following, ends, numbers) (more_lines c.args.text.now c.loop-rest.rest.now c.loop-rest.numbers.items c.loop-rest.ends.items c.loop-rest.invariant more (rw first at c.in_ok-push_numbers.ensures.good) (rw (numbers, first) at few))
