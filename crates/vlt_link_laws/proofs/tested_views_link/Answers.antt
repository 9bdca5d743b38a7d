use Rattle.vlt_link_laws.proofs.Asked.{tested_link}
use Rattle.vlt_link_laws.proofs.tested_views_link.Goals as goal

pub returns : goal.returns
returns c = tested_link c.told_views_are_views.ensures c.told_joins_are_joined.ensures
