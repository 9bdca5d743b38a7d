use Rattle.std.proofs.Common.{◌∙◌}
use Rattle.vlt_core.specs.View.{func_of}
use Rattle.cert_kinds_exprs.specs.Scopes.{ids_of}
use Rattle.cert_kinds_exprs.specs.Wanted.{wanted_types}
use Rattle.cert_kinds_blocks.proofs.Arms.{arm_next, vars_next}
use Rattle.cert_kinds_blocks.proofs.switches.arm_vars_broken.Goals as goal

pub loop-i-preserved : goal.loop-i-preserved
loop-i-preserved c =
    let f = func_of c.args.f.now in
    let ids = ids_of c.loop-i.ids in
    record {
      broken = rw (c.lesser-found.ensures, c.opened_var_broken.ensures, c.get.ensures, c.in_ok-bind_var.ensures)
          (c.loop-i.invariant.broken ∙ arm_next f ids (wanted_types c.args.wanted) c.loop-i.found c.args.vars.now c.loop-i.i (record { 0 = 0 }) (search));
      bound = rw (c.in_ok-bind_var.ensures)
          (c.loop-i.invariant.bound ∙ vars_next f ids c.args.vars.now c.loop-i.i (record { 0 = 0 }) (search));
    }
