use Rattle.std.proofs.Common.{◌≡◌, ◌<◌, length, arith}
use Rattle.std.proofs.lemmas.Bool.Decides.{nat_tests}
use Rattle.vlt_host.proofs.LineWords.{word_first}
use Rattle.vlt_numbers.proofs.Reading.{word_in, after_word}
use Rattle.vlt_host.proofs.words.next_word.Goals as goal

pub returns-then-not-is_empty-clause-some : goal.returns-then-not-is_empty-clause-some
returns-then-not-is_empty-clause-some c =
    let word : c.cut.result.0.now ≡ word_in c.loop-rest.rest.now = c.cut.ensures.before in
    let after : c.cut.result.1.now ≡ after_word c.loop-rest.rest.now = c.cut.ensures.following in
    let some : 0 < length c.cut.result.0.now = grind (arith, nat_tests) in
    rw (word, after) (word_first c.args.line.now c.loop-rest.rest.now c.loop-rest.invariant (rw word at some))
