use Rattle.std.proofs.Common.{map, ◌∙◌}
use Rattle.vlt_syntax.specs.View.{decl_of}
use Rattle.vlt_iface.specs.Seen.{decls_seen}
use Rattle.vlt_iface.specs.Given.{giver_of}
use Rattle.vlt_iface.proofs.Standing.{refused_least}
use Rattle.vlt_iface_views.proofs.refused.refused_given.Goals as goal

pub returns : goal.returns
returns c =
    c.check_all.ensures ∙
    refused_least (giver_of c.args.given.now) (decls_seen c.args.given.now.all) c.requires (map decl_of c.args.wanted.now)
