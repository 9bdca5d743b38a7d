use Rattle.std.proofs.Common.{◌∙◌}
use Rattle.vlt_core.specs.View.{program_of, func_of}
use Rattle.cert_kinds_exprs.specs.Scopes.{ids_of}
use Rattle.cert_kinds_exprs.specs.Wanted.{wanted_types}
use Rattle.cert_kinds_exprs.proofs.Parts.{operands_next}
use Rattle.cert_kinds_exprs.proofs.operands.operands_broken.Goals as goal

pub loop-i-preserved : goal.loop-i-preserved
loop-i-preserved c =
    rw (c.lesser-found.ensures, c.operand_broken.ensures, c.get.ensures)
    (c.loop-i.invariant ∙ operands_next (program_of c.args.p.now) (func_of c.args.f.now) (ids_of c.args.ids.now) (wanted_types c.args.wanted) c.loop-i.found c.args.args.now c.loop-i.i c.index-args-i.result c.index-args-i.is (search))
