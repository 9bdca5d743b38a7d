use Rattle.std.proofs.Common.{sym, subst, arith, Ok}
use Rattle.std.specs.Option.{option_map, option_copied}
use Rattle.vlt_core.specs.View.{operand_of}
use Rattle.vlt_meaning.specs.Calls.{with_returned}
use Rattle.vlt_meaning.specs.Run.{left_function}
use Rattle.vlt_acts.specs.Frames.Left.{IsLeft}
use Rattle.vlt_acts.proofs.OfFrames.Callers.{none_given, some_given}
use Rattle.vlt_acts.proofs.frames.leaving.give.Goals as goal

pub returns-in-None-clause-gives : goal.returns-in-None-clause-gives
returns-in-None-clause-gives k = λ g like c w s func program same.
    subst (λ o. IsLeft c.items k.args.values.now g (Ok tt) (with_returned s.program g (option_map operand_of (option_copied o)) c.frame w (λ a frame w. left_function s g (option_map operand_of (option_copied o)) a frame w))) (sym k.in-None.is)
    (none_given k.args.heap.now k.args.values.now c w s g same)

pub returns-in-Some-clause-gives : goal.returns-in-Some-clause-gives
returns-in-Some-clause-gives k = λ g like c w s func program same.
    subst (λ o. IsLeft c.items k.push_operand.new.values g k.push_operand.result (with_returned s.program g (option_map operand_of (option_copied o)) c.frame w (λ a frame w. left_function s g (option_map operand_of (option_copied o)) a frame w))) (sym k.in-Some.is)
    (some_given k.args.heap.now k.args.values.now k.push_operand.new.values c w s g (operand_of k.in-Some.o.now) k.push_operand.result func program k.push_operand.ensures.grown.base k.push_operand.ensures.grown.width (let t = k.requires.table in omega (arith, t)) k.push_operand.ensures.long (k.push_operand.ensures.value c w same))
