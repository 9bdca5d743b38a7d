use Rattle.vlt_syntax.specs.View.{decl_of}
use Rattle.vlt_iface.specs.Seen.{decls_seen}
use Rattle.vlt_iface.specs.Given.{giver_of}
use Rattle.vlt_iface.proofs.Standing.{view_made}
use Rattle.vlt_iface.proofs.view.make_view.Goals as goal

pub returns : goal.returns
returns c =
    view_made (giver_of c.args.given.now) (decls_seen c.args.given.now.all) c.requires.givers
    decl_of c.args.wanted.now c.in_ok-decls.decls c.as_slice.result.now c.rest_of-others.result.now c.in_ok-origins.origins
    c.as_slice.ensures c.in_ok-decls.ensures c.rest_of-others.ensures c.in_ok-origins.ensures
