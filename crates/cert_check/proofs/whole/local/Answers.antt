use Rattle.vlt_core.specs.View.{program_of}
use Rattle.cert_check.specs.Notes.{notes_of_all}
use Rattle.cert_check.proofs.Telling.{is_local, is_refused, is_only, is_never, is_unfit}
use Rattle.cert_check.proofs.whole.local.Goals as goal

pub returns-clause-local : goal.returns-clause-local
returns-clause-local c = is_local (program_of c.args.p.now) (notes_of_all c.args.all.now) _ c.test_all.ensures

pub returns-clause-refused : goal.returns-clause-refused
returns-clause-refused c = is_refused (program_of c.args.p.now) (notes_of_all c.args.all.now) _ c.test_all.ensures

pub returns-clause-only : goal.returns-clause-only
returns-clause-only c = is_only (program_of c.args.p.now) (notes_of_all c.args.all.now) _ c.test_all.ensures

pub returns-clause-never : goal.returns-clause-never
returns-clause-never c = is_never (program_of c.args.p.now) (notes_of_all c.args.all.now) _ c.test_all.ensures

pub returns-clause-unfit : goal.returns-clause-unfit
returns-clause-unfit c = is_unfit (program_of c.args.p.now) (notes_of_all c.args.all.now) _ c.test_all.ensures
