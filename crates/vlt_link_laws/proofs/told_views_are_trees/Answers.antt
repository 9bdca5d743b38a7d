use Rattle.vlt_link_laws.proofs.Asked.{told_trees}
use Rattle.vlt_link_laws.proofs.told_views_are_trees.Goals as goal

pub returns : goal.returns
returns c = told_trees c.told_views_are_views.ensures c.told_views_are_few.ensures
