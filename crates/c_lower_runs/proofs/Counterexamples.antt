-- Programs that break no rule, and whose C program doesn't do what they do: what the conditions of the law rule out.
use Rattle.std.proofs.Common.{◌^◌, ◌-◌, ◌≡◌, true, false, pos, [], ◌∷◌, Some, None, codes, refl}
use Rattle.vlt_ops.specs.declared.Op.TheVariants as op
use Rattle.vlt_ops.specs.declared.TrapKind.TheVariants.{ZeroDivisor, Overflow}
use Rattle.vlt_core.specs.Core as core
use Rattle.vlt_core.specs.Core.{Expr, Program}
use Rattle.vlt_core.specs.Kinded.{breaks}
use Rattle.vlt_meaning.specs.World as source
use Rattle.vlt_meaning.specs.Run.{run, call_by}
use Rattle.vlt_meaning.specs.Step as step
use Rattle.vlt_meaning.specs.Operands as operands
use Rattle.vlt_meaning.specs.Externals as externals
use Rattle.c_meaning.specs.Run as crun
use Rattle.c_meaning.specs.Primitives as primitives
use Rattle.c_meaning.specs.World as cw
use Rattle.c_meaning.specs.Run.{c_run}
use Rattle.c_lower.specs.Lowering.{lowered}

prints : Expr → Program
prints e = record {
  sets = [];
  types = [];
  fns = record {
    name = codes "main";
    external = false;
    result = None;
    params = 0;
    clause = [];
    keys = [];
    vars = [];
    body = core.next 0 (core.simple (core.print e)) (core.next 0 (core.return None) core.done);
    end = 0;
  } ∷ [];
  main = 0;
}

-- a division with one operand
one_sided : Program
one_sided = prints (core.unary op.Divide (core.number (pos 1)))

one_sided_is_kinded : breaks one_sided ≡ None
unfolding one_sided prints
one_sided_is_kinded = refl

one_sided_traps : (run one_sided 5 5 5 [] []).outcome ≡ source.trap ZeroDivisor
unfolding one_sided prints step.then_do step.with_found
one_sided_traps = refl

-- its C program has no guard
one_sided_is_undefined : (c_run (lowered one_sided) 5 5 5 [] []).outcome ≡ cw.undefined 4 0
unfolding one_sided prints crun.then_do crun.after primitives.or_broken
one_sided_is_undefined = refl

-- an external whose result may be in no state
no_state : Program
no_state = record {
  sets = [];
  types = core.an_abstract (codes "a") None ∷ [];
  fns = record {
    name = codes "f";
    external = true;
    result = Some (core.owning (λ s. false) 0 []);
    params = 0;
    clause = [];
    keys = [];
    vars = [];
    body = core.done;
    end = 0;
  } ∷ record {
    name = codes "main";
    external = false;
    result = None;
    params = 0;
    clause = [];
    keys = [];
    vars = record { name = codes "v"; ty = core.owning (λ s. false) 0 [] } ∷ [];
    body = core.next 0 (core.call 0 (Some 0) [] []) (core.next 0 (core.loop (core.truth true) (core.block core.done [] 0)) (core.next 0 (core.return None) core.done));
    end = 0;
  } ∷ [];
  main = 1;
}

no_state_is_kinded : breaks no_state ≡ None
unfolding no_state
no_state_is_kinded = refl

-- the source reads a state, and no answer has one
no_state_is_bad : (run no_state 3 5 5 [] ([] ∷ [])).outcome ≡ source.bad_answer 1
unfolding no_state step.then_do step.with_found step.where_so step.spend step.with_answer step.first_answer step.with_moved operands.with_operands call_by externals.call_external
no_state_is_bad = refl

-- C reads none, and goes on into the loop
no_state_goes_on : (c_run (lowered no_state) 3 5 5 [] ([] ∷ [])).outcome ≡ cw.fuel_end
unfolding no_state crun.then_do crun.then_turn crun.after crun.with_found crun.spend crun.enter crun.call_found crun.back_in primitives.or_broken primitives.no_args
no_state_goes_on = refl

-- a sign with two operands, before the least number
two_sided : Program
two_sided = prints (core.binary op.Negate
    (core.binary op.Subtract (core.binary op.Subtract (core.number (pos 0)) (core.number (pos (2 ^ 63 - 1)))) (core.number (pos 1))) (core.number (pos 0)))

two_sided_is_kinded : breaks two_sided ≡ None
unfolding two_sided prints
two_sided_is_kinded = refl

two_sided_traps : (run two_sided 5 5 5 [] []).outcome ≡ source.trap Overflow
unfolding two_sided prints step.then_do step.with_found
two_sided_traps = refl

two_sided_is_undefined : (c_run (lowered two_sided) 5 5 5 [] []).outcome ≡ cw.undefined 3 6
unfolding two_sided prints crun.then_do crun.after crun.with_found primitives.or_broken primitives.on_number
two_sided_is_undefined = refl
