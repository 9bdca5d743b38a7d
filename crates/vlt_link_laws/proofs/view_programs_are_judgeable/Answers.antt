use Rattle.vlt_link_laws.proofs.Asked.{judgeable_views}
use Rattle.vlt_link_laws.proofs.view_programs_are_judgeable.Goals as goal

pub returns : goal.returns
returns c = judgeable_views c.told_views_are_views.ensures c.told_views_are_few.ensures
