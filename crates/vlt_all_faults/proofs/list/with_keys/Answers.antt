use Rattle.std.proofs.Common.{arith, subst}
use Rattle.vlt_core.specs.View.{program_of, func_of}
use Rattle.vlt_all_faults.specs.Tokens.{IsListed, IsBelow}
use Rattle.vlt_all_faults.proofs.Lists.{listed_key}
use Rattle.vlt_all_faults.proofs.list.with_keys.Goals as goal

pub loop-key-preserved : goal.loop-key-preserved
loop-key-preserved c =
    listed_key (program_of c.args.p.now) (func_of c.args.f.now) c.loop-key.key 0 _ _ _ c.in_ok-first_fault.ensures.first c.in_ok-enter.ensures c.loop-key.invariant

pub returns-clause-listed : goal.returns-clause-listed
returns-clause-listed c =
    subst (λ n. IsListed (IsBelow n 0) (program_of c.args.p.now) (func_of c.args.f.now) c.loop-key.list.items) (omega (arith, c.loop-key-test.false)) c.loop-key.invariant
