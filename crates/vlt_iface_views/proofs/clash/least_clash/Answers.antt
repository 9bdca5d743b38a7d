use Rattle.std.proofs.Common.{option_map, rules}
use Rattle.vlt_syntax.specs.View.{tree_of}
use Rattle.vlt_iface.specs.Texts.{text_seen, texts_seen}
use Rattle.vlt_iface.proofs.Texts.{least_clash}
use Rattle.vlt_iface_views.proofs.clash.least_clash.Goals as goal

pub returns : goal.returns
returns c =
    least_clash (tree_of c.args.first.now) (tree_of c.args.second.now) (texts_seen c.in_ok-in_first.in_first.keys) (texts_seen c.in_ok-in_second.in_second.keys)
    _ _
    (option_map text_seen c.least_of-found.result) (option_map text_seen c.least_of.result)
    c.in_ok-in_first.ensures c.in_ok-in_second.ensures c.least_of-found.ensures c.least_of.ensures (search rules) (search rules)
