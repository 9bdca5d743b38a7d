use Rattle.cert_fit_laws.proofs.Listed.{all_at}
use Rattle.cert_text_laws.proofs.CNames.{text_names}
use Rattle.cert_text_laws.proofs.Counting.{few_statements}
use Rattle.cert_text_laws.proofs.Functions.{IsSmallFunc}
use Rattle.cert_text_laws.proofs.Limited.{small}
use Rattle.cert_text_laws.proofs.texts.texts_are_light.Goals as goal

pub returns : goal.returns
returns c = λ p is g f at.
    let are = small is.tree is.kinds p (text_names is.tree is.spelled) (few_statements is.tree.decls is.short) is.elaborated in
    (all_at IsSmallFunc p.fns g f are.fns at).light
