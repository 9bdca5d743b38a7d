use Rattle.cert_read.proofs.Texts.{is_only}
use Rattle.cert_read.proofs.from_text.Goals as goal

pub returns-clause-only : goal.returns-clause-only
returns-clause-only c = is_only c.args.text.now c.read_text.result c.read_text.ensures
