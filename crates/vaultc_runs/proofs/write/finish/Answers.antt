use Rattle.vaultc_runs.proofs.Finished.{text_cut}
use Rattle.vaultc_runs.proofs.write.finish.Goals as goal

pub returns-in-Err-clause-finishes : goal.returns-in-Err-clause-finishes
returns-in-Err-clause-finishes g c = text_cut g.K.Sink c.args.status c.args.text.now c.args.out.now c.write.new.self c.in-Err.ensures.failed c.in-Err.ensures.part
