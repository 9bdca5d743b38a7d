use Rattle.cert_format_laws.proofs.BodyRead.{one_thing}
use Rattle.cert_format_laws.proofs.rows_say_one_thing.Goals as goal

pub returns : goal.returns
returns c = one_thing
