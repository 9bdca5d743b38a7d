use Rattle.std.proofs.Common.{◌≡◌, ◌+◌, ◌<◌, ◌≤◌, ◌++◌, ◌∷◌, [], length, Err, ap, sym, ◌∙◌, rules, arith}
use Rattle.std.proofs.lemmas.Bool.Decides.{nat_tests}
use Rattle.vlt_host.specs.declared.error.CallsError.TheVariants.{Bad}
use Rattle.vlt_numbers.proofs.Reading.{line_in, after_line}
use Rattle.vlt_host.proofs.Files.{reads_more, stops}
use Rattle.vlt_host.proofs.read_calls.Goals as goal

pub returns-in_err-push_call-clause-bad : goal.returns-in_err-push_call-clause-bad
returns-in_err-push_call-clause-bad c = λ line e.
    let first : c.cut.result.0.now ≡ line_in c.loop-rest.rest.now = c.cut.ensures.before in
    let more : 0 < length c.loop-rest.rest.now = grind (arith, nat_tests) in
    let told : c.push_call.result ≡ Err (Bad line) = search rules in
    let bad = c.push_call.ensures.bad line told in
    let number : line ≡ length c.loop-rest.name_ends.items + 1 = search rules in
    stops c.args.text.now c.loop-rest.rest.now _ c.loop-rest.invariant more (rw first at bad.1) ∙ ap Err (sym number)

pub loop-rest-preserved : goal.loop-rest-preserved
loop-rest-preserved c =
    let first : c.cut.result.0.now ≡ line_in c.loop-rest.rest.now = c.cut.ensures.before in
    let after : c.cut.result.1.now ≡ after_line c.loop-rest.rest.now = c.cut.ensures.following in
    let more : 0 < length c.loop-rest.rest.now = grind (arith, nat_tests) in
    let pushed = rw first at c.in_ok-push_call.ensures.pushed in
    let few : length c.push_call.new.names.items + length c.push_call.new.args.items ≤ length c.loop-rest.names.items + length c.loop-rest.args.items + length c.cut.result.0.now = search rules in
    let names : c.len-in-loop-rest.result ≡ length c.push_call.new.names.items = search rules in
    let args : c.len-in-loop-rest-2.result ≡ length c.push_call.new.args.items = search rules in
    let name_ends : c.push.new.self.items ≡ c.loop-rest.name_ends.items ++ length c.push_call.new.names.items ∷ [] = c.in_ok-push.ensures.items ∙ ap (λ n. c.loop-rest.name_ends.items ++ n ∷ []) names in
    let arg_ends : c.push-in-loop-rest.new.self.items ≡ c.loop-rest.arg_ends.items ++ length c.push_call.new.args.items ∷ [] = c.in_ok-push-2.ensures.items ∙ ap (λ n. c.loop-rest.arg_ends.items ++ n ∷ []) args in
    rw (after, name_ends, arg_ends)
    (reads_more c.args.text.now c.loop-rest.rest.now _ c.loop-rest.invariant more c.push_call.new.names.items c.push_call.new.args.items pushed (rw first at few))
