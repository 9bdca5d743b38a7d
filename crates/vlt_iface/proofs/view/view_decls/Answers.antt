use Rattle.std.proofs.Common.{map, ap, rules}
use Rattle.vlt_syntax.specs.View.{decl_of}
use Rattle.vlt_iface.specs.Seen.{decls_seen}
use Rattle.vlt_iface.specs.Given.{giver_of, wants}
use Rattle.vlt_iface.proofs.Standing.{decls_made}
use Rattle.vlt_iface.proofs.view.view_decls.Goals as goal

pub returns : goal.returns
returns c =
    decls_made (giver_of c.args.given.now) (decls_seen c.args.given.now.all) c.requires.givers (map decl_of c.args.wanted.now) (wants c.in_ok-left.left) c.in_ok-left.ensures c.requires.places
    (map decl_of c.new-made.result) _ _ _ (search rules) c.in_ok-add_given.ensures (ap decls_seen c.as_slice.ensures) c.in_ok-add_others.ensures
