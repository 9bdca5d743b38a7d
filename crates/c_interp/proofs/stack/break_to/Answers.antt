use Rattle.std.proofs.Common.{None, refl, ap, sym, ◌∙◌, arith}
use Rattle.c_machine.specs.Machine as m
use Rattle.c_interp.specs.Shown.{state_of}
use Rattle.c_interp.proofs.Tasks.{popped}
use Rattle.c_interp.proofs.Plain.{plain_at, plain_on, plain_stop}
use Rattle.c_interp.proofs.stack.break_to.Goals as goal

pub loop-task-preserved : goal.loop-task-preserved
loop-task-preserved c = record {
  same = λ f w. sym (ap (λ l. m.break_to c.args.count l (state_of f w)) (popped _ _ _ _ c.in-Some.ensures.items c.in-List.is)) ∙ c.loop-task.invariant.same f w;
  room = omega (arith, c.loop-task.invariant.room, c.pop.ensures.capacity);
}

pub returns-in-Back-clause-comes : goal.returns-in-Back-clause-comes
returns-in-Back-clause-comes c = λ f w. plain_at _ _ f w _ _ (sym (c.loop-task.invariant.same f w) ∙ ap (λ l. m.break_to c.args.count l (state_of f w)) (popped _ _ _ _ c.in-Some.ensures.items c.in-Back.is)) (plain_stop _ c.args.count _ f w c.no_value.ensures)

pub returns-in-Bottom-clause-comes : goal.returns-in-Bottom-clause-comes
returns-in-Bottom-clause-comes c = λ f w. plain_at _ _ f w _ _ (sym (c.loop-task.invariant.same f w) ∙ ap (λ l. m.break_to c.args.count l (state_of f w)) (popped _ _ _ _ c.in-Some.ensures.items c.in-Bottom.is)) (plain_stop _ c.args.count _ f w c.no_value-in-Bottom.ensures)

pub returns-in-Again-clause-comes : goal.returns-in-Again-clause-comes
returns-in-Again-clause-comes c = λ f w. plain_at None c.pop.new.self.items f w _ _ (sym (c.loop-task.invariant.same f w) ∙ ap (λ l. m.break_to c.args.count l (state_of f w)) (popped _ _ _ _ c.in-Some.ensures.items c.in-Again.is)) (plain_on c.pop.new.self.items f w _ _ refl refl)
