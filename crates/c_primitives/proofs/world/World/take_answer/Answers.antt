use Rattle.std.proofs.Common.{rules, ◌≡◌, Some, arith, slice_get}
use Rattle.vlt_numbers.specs.HostAnswers.{lists_of}
use Rattle.c_primitives.proofs.Telling.{answer_below}
use Rattle.c_primitives.proofs.world.World.take_answer.Goals as goal

pub overflow_add-self : goal.overflow_add-self
overflow_add-self c =
    let at : slice_get (lists_of c.args.self.now.answers.now) c.args.self.now.taken ≡ Some c.in-Some.answer.now = search rules in
    let l = answer_below c.args.self.now.answers.now c.args.self.now.taken c.in-Some.answer.now at in
    omega (arith, l, c.args.self.now.answers.now.few)
