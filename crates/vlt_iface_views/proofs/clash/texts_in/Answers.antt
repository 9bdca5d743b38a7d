use Rattle.std.proofs.Common.{map, ap, rules}
use Rattle.vlt_syntax.specs.View.{decl_of, tree_of}
use Rattle.vlt_iface.specs.Texts.{texts_seen}
use Rattle.vlt_iface.proofs.Texts.{module_made}
use Rattle.vlt_iface_views.proofs.clash.texts_in.Goals as goal

pub returns : goal.returns
returns c =
    module_made (tree_of c.args.module.now) c.as_slice-decls.result.now c.as_slice-decls.result.now (texts_seen c.new-texts.result) (texts_seen c.add_declared.new.texts) (texts_seen c.add_all_bound.new.texts)
    (search rules) c.in_ok-add_declared.ensures c.in_ok-add_all_bound.ensures (ap (map decl_of) c.as_slice-decls.ensures) (ap (map decl_of) c.as_slice-decls.ensures)
