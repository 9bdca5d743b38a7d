use Rattle.std.proofs.Common.{◌≡◌, map, sym, ap, subst, IfOk, IfErr}
use Rattle.std.specs.Prelude.{Ok}
use Rattle.vlt_base.specs.Limits.{limit_of}
use Rattle.vlt_base.specs.declared.limits.TheConstants.{SOURCE_BYTES}
use Rattle.vlt_syntax.specs.View.{decl_of, tree_of}
use Rattle.vlt_syntax_copies.specs.Within.{AreWithin}
use Rattle.vlt_iface.specs.Told.{view_told}
use Rattle.vlt_iface.specs.Seen.{decls_seen, view_seen, Tells}
use Rattle.vlt_iface_views.proofs.Whole.{one_module}
use Rattle.vlt_iface_views.proofs.view_of.Goals as goal

pub view_with-requires-clause-places : goal.view_with-requires-clause-places
view_with-requires-clause-places c =
    subst (AreWithin (limit_of SOURCE_BYTES))
    (sym (one_module (decls_seen c.in_ok-given.given.all) _ (tree_of c.args.module.now) c.in_ok-given.ensures.all (ap (map decl_of) c.as_slice.ensures)))
    c.requires.places

pub returns-clause-view : goal.returns-clause-view
returns-clause-view c =
    subst (λ t. IfOk c.view_with.result (λ x. view_told (tree_of c.args.interface.now) t ≡ Ok (view_seen x)))
    (one_module (decls_seen c.in_ok-given.given.all) _ (tree_of c.args.module.now) c.in_ok-given.ensures.all (ap (map decl_of) c.as_slice.ensures))
    c.view_with.ensures.view

pub returns-clause-told : goal.returns-clause-told
returns-clause-told c =
    subst (λ t. IfErr c.view_with.result (λ e. Tells (view_told (tree_of c.args.interface.now) t) e))
    (one_module (decls_seen c.in_ok-given.given.all) _ (tree_of c.args.module.now) c.in_ok-given.ensures.all (ap (map decl_of) c.as_slice.ensures))
    c.view_with.ensures.told
