use Rattle.std.proofs.Common.{◌<◌, length, arith}
use Rattle.vlt_iface.proofs.Tables.{wanted_none, wanted_more, wanted_all}
use Rattle.vlt_iface.proofs.wanted.wanted_by.Goals as goal

pub loop-decl-init : goal.loop-decl-init
loop-decl-init c = wanted_none c.new-wanted.result c.args.decls.now c.new-wanted.ensures

pub loop-decl-preserved : goal.loop-decl-preserved
loop-decl-preserved c =
    let lt : c.loop-decl.decl-index < length c.args.decls.now = omega arith in
    wanted_more c.loop-decl.wanted c.add.new.self c.args.decls.now c.loop-decl.decl-index c.decl-item.result lt c.decl-item.is c.in_ok-add.ensures c.loop-decl.invariant

pub returns : goal.returns
returns c = wanted_all c.loop-decl.wanted c.args.decls.now c.loop-decl.decl-index (omega (arith, c.loop-decl-test.false)) c.loop-decl.invariant
