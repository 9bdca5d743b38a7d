use Rattle.std.proofs.Common.{ap, ◌∙◌, subst, IfOk}
use Rattle.vlt_iface.specs.Texts.{texts_seen, AreTextsOf}
use Rattle.vlt_iface_views.proofs.clash.names_set.Goals as goal

pub returns : goal.returns
returns c =
    subst (λ ts. IfOk c.set_of.result (λ set. AreTextsOf ts (texts_seen set.keys)))
    (ap texts_seen c.as_slice.ensures ∙ c.in_ok-texts.ensures)
    c.set_of.ensures
