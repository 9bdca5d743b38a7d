use Rattle.std.proofs.Common.{◌<◌, length, arith}
use Rattle.vlt_syntax.specs.View as view
use Rattle.vlt_iface.specs.Texts.{texts_seen, decl_texts}
use Rattle.vlt_iface.proofs.Texts.{bound_more}
use Rattle.vlt_iface_views.proofs.clash.add_all_bound.Goals as goal

pub loop-decl-preserved : goal.loop-decl-preserved
loop-decl-preserved c =
    let lt : c.loop-decl.decl-index < length c.args.decls.now = omega arith in
    bound_more view.decl_of decl_texts c.args.decls.now c.loop-decl.decl-index c.decl-item.result (texts_seen c.loop-decl.texts) (texts_seen c.add_bound.new.texts)
    _ lt c.decl-item.is c.in_ok-add_bound.ensures c.loop-decl.invariant
