use Rattle.vlt_core.specs.HeldView.{status_of}
use Rattle.vlt_faults.proofs.OfJudge.Parts.{present_stands}
use Rattle.vlt_faults.proofs.judge.telling.present_status.Goals as goal

pub returns : goal.returns
returns c = present_stands (status_of c.status_in.result) c.args.m c.present_in.result c.present_in.ensures c.status_in.ensures
