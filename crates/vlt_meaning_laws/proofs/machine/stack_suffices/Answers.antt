use Rattle.vlt_meaning_laws.proofs.OfMachine.Fitting as fitting
use Rattle.vlt_meaning_laws.proofs.machine.stack_suffices.Goals as goal

pub returns : goal.returns
returns c = fitting.stack_suffices
