use Rattle.std.proofs.Common.{◌<◌, length, arith, rules}
use Rattle.vlt_iface.proofs.Texts.{texts_none, texts_more, texts_all}
use Rattle.vlt_iface_views.proofs.clash.set_of.Goals as goal

pub loop-text-init : goal.loop-text-init
loop-text-init c = texts_none c.new-set.result.keys c.args.texts.now (search rules)

pub loop-text-preserved : goal.loop-text-preserved
loop-text-preserved c =
    let lt : c.loop-text.text-index < length c.args.texts.now = omega arith in
    texts_more c.loop-text.set.keys c.add_text.new.set.keys c.args.texts.now c.loop-text.text-index _ c.in_ok-add_text.ensures c.loop-text.invariant lt

pub returns : goal.returns
returns c = texts_all c.loop-text.set.keys c.args.texts.now c.loop-text.text-index (omega (arith, c.loop-text-test.false)) c.loop-text.invariant
