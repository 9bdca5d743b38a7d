use Rattle.vlt_view_verdict.proofs.Linked.{modules_link}
use Rattle.vlt_view_verdict.proofs.accepted_modules_link.Goals as goal

pub returns : goal.returns
returns c = modules_link c.tested_views_link.ensures
