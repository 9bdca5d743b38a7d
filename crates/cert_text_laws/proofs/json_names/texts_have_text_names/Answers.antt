use Rattle.cert_text_laws.proofs.OfJsonNames.Programs.{text_named}
use Rattle.cert_text_laws.proofs.json_names.texts_have_text_names.Goals as goal

pub returns : goal.returns
returns c p is = text_named is.tree is.kinds p is.spelled is.elaborated
