use Rattle.std.proofs.Common.{arith, sym, ◌∙◌}
use Rattle.vlt_core.specs.Instances.{instance}
use Rattle.vlt_core.specs.View.{program_of, func_of}
use Rattle.vlt_flow_maps.proofs.Starting.{vars_first, vars_more, vars_kept, vars_end, range_kept, owning_place}
use Rattle.vlt_flow_maps.proofs.start.start_map_of.Goals as goal
use Rattle.vlt_flow_maps.proofs.start.start_map_of.Goals.{then-is_owning_var, else-is_owning_var}

pub loop-v-init : goal.loop-v-init
loop-v-init c = (vars_first (program_of c.args.p.now) (instance (program_of c.args.p.now) (func_of c.args.f.now) c.args.origin) _ c.in_ok-held.ensures.keys, c.in_ok-held.ensures.range)

pub give-requires : goal.give-requires
give-requires c = owning_place _ _ _ c.loop-v.invariant.1 (sym c.is_owning_var.ensures ∙ c.if-is_owning_var.true)

pub loop-v-preserved : goal.loop-v-preserved
loop-v-preserved c = elim c.if-is_owning_var.branch [
  | then-is_owning_var w ↦
      rw w.held-is (
        vars_more (program_of c.args.p.now) (instance (program_of c.args.p.now) (func_of c.args.f.now) c.args.origin) _ _ _ (sym c.is_owning_var.ensures ∙ w.if-is_owning_var.true) w.give.ensures.given c.loop-v.invariant.0,
        range_kept _ _ _ c.loop-v.invariant.1 w.give.ensures.range,
      )
  | else-is_owning_var w ↦
      rw w.held-is (vars_kept (program_of c.args.p.now) (instance (program_of c.args.p.now) (func_of c.args.f.now) c.args.origin) _ _ (sym c.is_owning_var.ensures ∙ w.if-is_owning_var.false) c.loop-v.invariant.0, c.loop-v.invariant.1)
]

pub returns-clause-map : goal.returns-clause-map
returns-clause-map c = vars_end (program_of c.args.p.now) (instance (program_of c.args.p.now) (func_of c.args.f.now) c.args.origin) _ _ (omega (arith, c.loop-v-test.false)) c.loop-v.invariant.0
