use Rattle.std.proofs.Common.{◌<◌, length, option_map, arith}
use Rattle.vlt_syntax.specs.View.{name_of}
use Rattle.vlt_iface.specs.Texts.{text_seen, texts_seen}
use Rattle.vlt_iface.proofs.Texts.{least_more}
use Rattle.vlt_iface_views.proofs.clash.least_of.Goals as goal

pub loop-decl-preserved : goal.loop-decl-preserved
loop-decl-preserved c =
    let lt : c.loop-decl.decl-index < length c.args.decls.now = omega arith in
    least_more (texts_seen c.args.others.now.keys) c.args.decls.now c.loop-decl.decl-index c.decl-item.result (option_map text_seen c.loop-decl.least) (option_map text_seen c.lesser_if-least.result)
    c.as_slice.result.now (name_of c.name_of_decl.result.now) _ lt c.decl-item.is c.as_slice.ensures c.name_of_decl.ensures c.lesser_if-least.ensures c.loop-decl.invariant
