use Rattle.std.proofs.Common.{◌∙◌, ap, length, sym, subst, arith}
use Rattle.vlt_core.specs.Instances.{instance, entry_in}
use Rattle.vlt_core.specs.View.{program_of, func_of, entry_of}
use Rattle.vlt_core.specs.Lookups.{before_set}
use Rattle.vlt_paths.specs.declared.comes.Comes.TheVariants.{Held, Absent}
use Rattle.vlt_paths.proofs.Beginning.{Starts, starts_held, starts_absent, looked_held, looked_more, looked_all, looked_in, is_of_in}
use Rattle.vlt_paths.proofs.judge.key_start.Goals as goal

pub returns-then-is_of_key : goal.returns-then-is_of_key
returns-then-is_of_key c =
    let of = is_of_in (program_of c.args.p.now) (func_of c.args.f.now) c.args.origin (entry_of c.e-item.result) c.args.key.0 in
    subst (Starts (Held c.of.result))
    (looked_held (program_of c.args.p.now) (instance (program_of c.args.p.now) (func_of c.args.f.now) c.args.origin) (λ e. entry_in (program_of c.args.p.now) (func_of c.args.f.now) c.args.origin (entry_of e)) c.args.f.now.clause c.args.key.0 c.loop-e.e-index c.e-item.result (omega (arith, c.loop-e-test.true, ap length c.as_slice-e-items.ensures)) (rw c.as_slice-e-items.ensures at c.e-item.is) c.loop-e.invariant (of ∙ sym c.is_of_key.ensures ∙ c.if-is_of_key.true) ∙ looked_in (program_of c.args.p.now) (func_of c.args.f.now) c.args.origin entry_of c.args.f.now.clause c.args.key.0)
    (starts_held c.of.result (before_set (program_of c.args.p.now) (instance (program_of c.args.p.now) (func_of c.args.f.now) c.args.origin) (entry_in (program_of c.args.p.now) (func_of c.args.f.now) c.args.origin (entry_of c.e-item.result))) (c.of.ensures ∙ c.states_before.ensures))

pub loop-e-preserved : goal.loop-e-preserved
loop-e-preserved c =
    let of = is_of_in (program_of c.args.p.now) (func_of c.args.f.now) c.args.origin (entry_of c.e-item.result) c.args.key.0 in
    looked_more (program_of c.args.p.now) (instance (program_of c.args.p.now) (func_of c.args.f.now) c.args.origin) (λ e. entry_in (program_of c.args.p.now) (func_of c.args.f.now) c.args.origin (entry_of e)) c.args.f.now.clause c.args.key.0 c.loop-e.e-index c.e-item.result (omega (arith, c.loop-e-test.true, ap length c.as_slice-e-items.ensures)) (rw c.as_slice-e-items.ensures at c.e-item.is) c.loop-e.invariant (of ∙ sym c.is_of_key.ensures ∙ c.if-is_of_key.false)

pub returns : goal.returns
returns c =
    subst (Starts Absent)
    (looked_all (program_of c.args.p.now) (instance (program_of c.args.p.now) (func_of c.args.f.now) c.args.origin) (λ e. entry_in (program_of c.args.p.now) (func_of c.args.f.now) c.args.origin (entry_of e)) c.args.f.now.clause c.args.key.0 c.loop-e.e-index (omega (arith, c.loop-e-test.false, ap length c.as_slice-e-items.ensures)) c.loop-e.invariant ∙ looked_in (program_of c.args.p.now) (func_of c.args.f.now) c.args.origin entry_of c.args.f.now.clause c.args.key.0)
    starts_absent
