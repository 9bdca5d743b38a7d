use Rattle.std.proofs.Common.{map}
use Rattle.vlt_syntax.specs.View.{decl_of}
use Rattle.vlt_core.specs.View.{type_of}
use Rattle.vlt_kinds_types.specs.Seen.{file_seen}
use Rattle.vlt_views.specs.Hidden as h
use Rattle.vlt_iface.specs.Texts.{texts_seen}
use Rattle.vlt_views.proofs.Alike.{own_alike}
use Rattle.vlt_views.proofs.hidden.check_own.Goals as goal

pub returns : goal.returns
returns c =
    own_alike (h.hidden_names c.args.origins.now (map decl_of c.args.decls.now)) (texts_seen c.in_ok-names.names.keys) (map type_of c.args.types.now) (file_seen c.args.file.now)
    c.args.origins.now (map decl_of c.args.decls.now) c.args.found.now.least c.check_decls.new.found.least c.in_ok-names.ensures c.check_decls.ensures
