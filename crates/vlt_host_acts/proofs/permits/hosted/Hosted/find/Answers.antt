use Rattle.std.proofs.Common.{◌∙◌}
use Rattle.vlt_host_acts.proofs.OfPermits.Seen.{table_has}
use Rattle.vlt_host_acts.proofs.permits.hosted.Hosted.find.Goals as goal

pub returns-in-Some-clause-held : goal.returns-in-Some-clause-held
returns-in-Some-clause-held c = λ objects s. c.in-Some.ensures ∙ table_has c.args.self.now objects s c.args.number

pub returns-in-None-clause-held : goal.returns-in-None-clause-held
returns-in-None-clause-held c = λ objects s. c.in-None.ensures ∙ table_has c.args.self.now objects s c.args.number
