use Rattle.std.proofs.Common.{◌∙◌}
use Rattle.vlt_core.specs.View.{program_of, func_of}
use Rattle.vlt_core.specs.KindedStatements.{opened_types}
use Rattle.cert_kinds_exprs.specs.Scopes.{ids_of}
use Rattle.cert_kinds_stmts.specs.Objects.{object_some}
use Rattle.cert_kinds_stmts.proofs.Owned.{opened_next, bindings_next}
use Rattle.cert_kinds_stmts.proofs.opened.open_vars.Goals as goal

pub loop-i-preserved : goal.loop-i-preserved
loop-i-preserved c =
    let p = program_of c.args.p.now in
    let f = func_of c.args.f.now in
    let ids = ids_of c.loop-i.ids in
    record {
      broken = rw (c.lesser-found.ensures, c.opened_var_broken.ensures, c.opened_type.ensures, c.in_ok-bind.ensures)
          (c.loop-i.invariant.broken ∙ opened_next p f ids (opened_types p (object_some c.args.object)) c.loop-i.found c.args.vars.now c.loop-i.i (record { 0 = 0 }) (search));
      bound = rw (c.in_ok-bind.ensures)
          (c.loop-i.invariant.bound ∙ bindings_next f ids c.args.vars.now c.loop-i.i (record { 0 = 0 }) (search));
    }
