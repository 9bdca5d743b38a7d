use Rattle.std.proofs.Common.{sym, ap, subst, ◌≡◌, ◌∷◌, map, Err}
use Rattle.vlt_core.specs.View.{operand_of}
use Rattle.vlt_meaning_laws.specs.Machine.Got.{operands_got}
use Rattle.vlt_acts.specs.Values.Pushed.{ArePushed}
use Rattle.vlt_acts.proofs.OfValues.Pushing.{all_pushed, trap_pushed}
use Rattle.vlt_acts.proofs.values.operands.+push_operands.Goals as goal

pub returns-in-Ok-clause-value : goal.returns-in-Ok-clause-value
returns-in-Ok-clause-value n k = λ c w same.
    let is : k.args.operands.now ≡ k.in-Some.o.now ∷ k.in-Some.rest.now = k.in-Some.ensures.cases.0 in
    subst (λ os. ArePushed c.items k.args.values.now k.push_operands.new.values k.push_operands.result (operands_got c.program c.func os c.frame w)) (sym (ap (map operand_of) is))
    (all_pushed k.args.heap.now k.args.values.now k.push_operand.new.values k.push_operands.new.values c w (operand_of k.in-Some.o.now) (map operand_of k.in-Some.rest.now) k.push_operand.result k.push_operands.result k.push_operand.ensures.grown k.push_operands.ensures.grown
    k.push_operand.ensures.long (k.push_operand.ensures.value c w same) k.in-Ok.is k.push_operands.ensures.value)

pub returns-in-Err-clause-value : goal.returns-in-Err-clause-value
returns-in-Err-clause-value n k = λ c w same.
    let is : k.args.operands.now ≡ k.in-Some.o.now ∷ k.in-Some.rest.now = k.in-Some.ensures.cases.0 in
    subst (λ os. ArePushed c.items k.args.values.now k.push_operand.new.values (Err k.in-Err.t) (operands_got c.program c.func os c.frame w)) (sym (ap (map operand_of) is))
    (trap_pushed c.items c.program c.func c.frame k.args.values.now k.push_operand.new.values w (operand_of k.in-Some.o.now) (map operand_of k.in-Some.rest.now) k.push_operand.result k.in-Err.t (k.push_operand.ensures.value c w same) k.in-Err.is)
