use Rattle.std.proofs.Common.{◌≡◌, ◌||◌, [], ◌∷◌, ap, ◌∙◌, rules}
use Rattle.vlt_syntax.specs.View.{decl_of}
use Rattle.vlt_views.specs.Hidden as h
use Rattle.vlt_iface.specs.Texts.{texts_seen, has_text}
use Rattle.vlt_views.proofs.Loops.{added_text}
use Rattle.vlt_views.proofs.hidden.add_hidden.Goals as goal

pub returns-in_ok-insert : goal.returns-in_ok-insert
returns-in_ok-insert c = λ n.
    let is : c.as_slice.result.now ∷ [] ≡ h.hidden_name c.args.origin (decl_of c.args.decl.now) = search rules in
    ap (λ ks. has_text (texts_seen ks) n) c.in_ok-insert.ensures.keys
    ∙ added_text c.args.names.now.keys c.as_slice.result n
    ∙ ap (λ ts. has_text (texts_seen c.args.names.now.keys) n || has_text ts n) is
