use Rattle.std.proofs.Common.{rules, ◌≡◌, None, Some, refl, arith, slice_get}
use Rattle.vlt_numbers.specs.HostAnswers.{lists_of}
use Rattle.vlt_externals.proofs.Telling.{drop_at, drop_past, answer_below}
use Rattle.vlt_externals.proofs.events.take_answer.Goals as goal

pub overflow_add-host : goal.overflow_add-host
overflow_add-host c =
    let at : slice_get (lists_of c.args.host.now.answers.now) c.args.host.now.taken ≡ Some c.in-Some.answer.now = search rules in
    let l = answer_below c.args.host.now.answers.now c.args.host.now.taken c.in-Some.answer.now at in
    omega (arith, l, c.args.host.now.answers.now.few)

pub returns-in-Some : goal.returns-in-Some
returns-in-Some c =
    let at : slice_get (lists_of c.args.host.now.answers.now) c.args.host.now.taken ≡ Some c.in-Some.answer.now = search rules in
    (drop_at (lists_of c.args.host.now.answers.now) c.args.host.now.taken c.in-Some.answer.now at, refl)

pub returns-in-None : goal.returns-in-None
returns-in-None c =
    let at : slice_get (lists_of c.args.host.now.answers.now) c.args.host.now.taken ≡ None = search rules in
    (drop_past (lists_of c.args.host.now.answers.now) c.args.host.now.taken at, refl)
