use Rattle.std.proofs.Common.{map}
use Rattle.vlt_syntax.specs.View.{decl_of}
use Rattle.vlt_views.specs.Hidden as h
use Rattle.vlt_iface.specs.Texts.{texts_seen}
use Rattle.vlt_views.proofs.Loops.{all_names}
use Rattle.vlt_views.proofs.hidden.hidden_names.Goals as goal

pub returns : goal.returns
returns c =
    all_names c.args.origins.now c.args.decls.now c.loop-i.i (texts_seen c.loop-i.names.keys) (h.hidden_names c.args.origins.now (map decl_of c.args.decls.now)) c.loop-i-test.false
    c.loop-i.invariant
