use Rattle.vlt_link_laws.proofs.Asked.{told_text}
use Rattle.vlt_link_laws.proofs.told_joins_are_text_trees.Goals as goal

pub returns : goal.returns
returns c = told_text c.told_joins_are_joined.ensures
