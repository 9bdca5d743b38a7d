use Rattle.std.proofs.Common.{◌≡◌, subst, IfOk, IfErr, rules}
use Rattle.std.specs.Prelude.{Ok}
use Rattle.vlt_syntax.specs.View.{tree_of}
use Rattle.vlt_iface.specs.Seen.{decls_seen, Tells}
use Rattle.vlt_iface_views.proofs.Whole.{two_within, two_modules}
use Rattle.vlt_iface_views.proofs.join_modules.Goals as goal

pub joined_with-requires-clause-places : goal.joined_with-requires-clause-places
joined_with-requires-clause-places c =
    two_within (tree_of c.args.first.now) (tree_of c.args.second.now) (decls_seen c.in_ok-given.given.all) c.requires.first c.requires.second (search rules)

pub returns-clause-tree : goal.returns-clause-tree
returns-clause-tree c =
    subst (λ r. IfOk c.joined_with.result (λ t. r ≡ Ok (tree_of t)))
    (two_modules (tree_of c.args.interface.now) (tree_of c.args.first.now) (tree_of c.args.second.now) (decls_seen c.in_ok-given.given.all) (search rules) (search rules))
    c.joined_with.ensures.tree

pub returns-clause-told : goal.returns-clause-told
returns-clause-told c =
    subst (λ r. IfErr c.joined_with.result (λ e. Tells r e))
    (two_modules (tree_of c.args.interface.now) (tree_of c.args.first.now) (tree_of c.args.second.now) (decls_seen c.in_ok-given.given.all) (search rules) (search rules))
    c.joined_with.ensures.told
