use Rattle.std.proofs.Common.{arith, subst}
use Rattle.vlt_core.specs.View.{program_of, func_of}
use Rattle.vlt_all_faults.specs.Tokens.{IsListed, IsBelow}
use Rattle.vlt_all_faults.proofs.Lists.{listed_var}
use Rattle.vlt_all_faults.proofs.list.with_vars.Goals as goal

pub loop-var-preserved : goal.loop-var-preserved
loop-var-preserved c =
    listed_var (program_of c.args.p.now) (func_of c.args.f.now) c.args.keys c.loop-var.var _ _ _ c.in_ok-first_fault.ensures.first c.in_ok-enter.ensures c.loop-var.invariant

pub returns-clause-listed : goal.returns-clause-listed
returns-clause-listed c =
    subst (λ n. IsListed (IsBelow c.args.keys n) (program_of c.args.p.now) (func_of c.args.f.now) c.loop-var.list.items) (omega (arith, c.loop-var-test.false)) c.loop-var.invariant
