use Rattle.std.proofs.Common.{◌≡◌, ◌<◌, ◌++◌, ◌∷◌, [], length, rules, arith, FitsSigned, w64}
use Rattle.std.proofs.lemmas.Bool.Decides.{nat_tests}
use Rattle.std.proofs.lemmas.Int.{to_z-of_z}
use Rattle.vlt_numbers.proofs.Reading.{word_in, after_word, pushes, stops}
use Rattle.vlt_numbers.proofs.line.push_numbers.Goals as goal

pub returns-in_default-clause-bad : goal.returns-in_default-clause-bad
returns-in_default-clause-bad c =
    let word : c.cut.result.0.now ≡ word_in c.loop-rest.rest.now = c.cut.ensures.before in
    let some : 0 < length c.cut.result.0.now = grind (arith, nat_tests) in
    let bad = stops _ c.loop-rest.rest.now _ _ c.loop-rest.invariant (rw word at some) (rw word at c.in_default.ensures) in
    λ n e. (cc, bad)

pub loop-rest-preserved-in_ok-push : goal.loop-rest-preserved-in_ok-push
loop-rest-preserved-in_ok-push c =
    let word : c.cut.result.0.now ≡ word_in c.loop-rest.rest.now = c.cut.ensures.before in
    let following : c.cut.result.1.now ≡ after_word c.loop-rest.rest.now = c.cut.ensures.following in
    let more : 0 < length c.loop-rest.rest.now = grind (arith, nat_tests) in
    let some : 0 < length c.cut.result.0.now = grind (arith, nat_tests) in
    let fits : FitsSigned w64 c.in-Some.number = search rules in
    let pushed : c.push.new.self.items ≡ c.loop-rest.numbers.items ++ c.in-Some.number ∷ [] = simp to_z-of_z at c.in_ok-push.ensures.items in
    rw (following, pushed) (pushes _ c.loop-rest.rest.now _ _ c.in-Some.number c.loop-rest.invariant more (rw word at some) (rw word at c.in-Some.ensures.0) (rw word at c.in-Some.ensures.1))
