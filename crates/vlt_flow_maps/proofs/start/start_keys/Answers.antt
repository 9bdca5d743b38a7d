use Rattle.std.proofs.Common.{arith, ap, length, ◌∙◌}
use Rattle.vlt_rows.proofs.Instanced.{clause_in, held_before_in}
use Rattle.vlt_core.specs.Instances.{instance, entry_in}
use Rattle.vlt_core.specs.View.{program_of, func_of, entry_of}
use Rattle.vlt_flow_maps.proofs.Starting.{starting_first, entries_more, entries_end, range_kept, entry_unfit, handed_unfit}
use Rattle.vlt_flow_maps.proofs.start.start_keys.Goals as goal

pub loop-e-init : goal.loop-e-init
loop-e-init c = (starting_first _ _ _ _ c.in_ok-held.ensures.absent, c.in_ok-held.ensures.range)

pub loop-e-preserved : goal.loop-e-preserved
loop-e-preserved c = (
  entries_more (λ e. entry_in (program_of c.args.p.now) (func_of c.args.f.now) c.args.origin (entry_of e)) (program_of c.args.p.now) (instance (program_of c.args.p.now) (func_of c.args.f.now) c.args.origin) c.args.f.now.clause _ _ _ _
      (omega (arith, ap length c.as_slice-e-items.ensures)) (rw c.as_slice-e-items.ensures at c.e-item.is)
      c.loop-e.invariant.0 c.in_ok-give_key.ensures.started,
  range_kept _ _ _ c.loop-e.invariant.1 c.in_ok-give_key.ensures.range,
)

pub returns-in_err-give_key-clause-unfit : goal.returns-in_err-give_key-clause-unfit
returns-in_err-give_key-clause-unfit c =
    let u = c.in_err-give_key.ensures.unfit in
    handed_unfit _ _ c.from_residual-in_err-give_key.ensures.1 u.0
    (entry_unfit (λ e. entry_in (program_of c.args.p.now) (func_of c.args.f.now) c.args.origin (entry_of e)) (program_of c.args.p.now) (instance (program_of c.args.p.now) (func_of c.args.f.now) c.args.origin) c.args.f.now.clause _ _
    (omega (arith, ap length c.as_slice-e-items.ensures)) (rw c.as_slice-e-items.ensures at c.e-item.is) (clause_in (program_of c.args.p.now) (func_of c.args.f.now) c.args.origin entry_of c.args.f.now.clause) (held_before_in (program_of c.args.p.now) (func_of c.args.f.now) c.args.origin _ ∙ u.1) u.2)

pub returns-clause-keys : goal.returns-clause-keys
returns-clause-keys c =
    entries_end (λ e. entry_in (program_of c.args.p.now) (func_of c.args.f.now) c.args.origin (entry_of e)) (program_of c.args.p.now) (instance (program_of c.args.p.now) (func_of c.args.f.now) c.args.origin) c.args.f.now.clause _ _
    (omega (arith, c.loop-e-test.false, ap length c.as_slice-e-items.ensures)) (clause_in (program_of c.args.p.now) (func_of c.args.f.now) c.args.origin entry_of c.args.f.now.clause) c.loop-e.invariant.0
