use Rattle.cert_verify.proofs.OneWay.{refuses, counts}
use Rattle.cert_verify.proofs.verify.Goals as goal

pub returns-clause-refused : goal.returns-clause-refused
returns-clause-refused c = λ r is.
    refuses c.args.text.now (c.texts_verify_in_one_way.ensures c.args.text.now) c.verify_parts.result c.verify_parts.ensures r is

pub returns-clause-verified : goal.returns-clause-verified
returns-clause-verified c = λ p all is.
    counts c.args.text.now (c.texts_verify_in_one_way.ensures c.args.text.now) c.verify_parts.result c.verify_parts.ensures p all is
