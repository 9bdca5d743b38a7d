use Rattle.std.proofs.Common.{map}
use Rattle.vlt_core.specs.View.{type_of}
use Rattle.vlt_kinds_types.specs.Seen.{file_seen}
use Rattle.vlt_iface.specs.Texts.{texts_seen}
use Rattle.vlt_views.proofs.Loops.{all_refused}
use Rattle.vlt_views.proofs.hidden.check_decls.Goals as goal

pub returns : goal.returns
returns c =
    all_refused (texts_seen c.args.names.now.keys) (map type_of c.args.types.now) (file_seen c.args.file.now) c.args.origins.now c.args.decls.now c.loop-i.i c.loop-i.found.least _
    c.loop-i-test.false c.loop-i.invariant
