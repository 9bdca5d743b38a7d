use Rattle.vlt_core_laws.proofs.Headed.{kinded_parts}
use Rattle.cert_text_laws.proofs.Bounds.{bounds_known}
use Rattle.cert_text_laws.proofs.CNames.{text_names}
use Rattle.cert_text_laws.proofs.Counting.{few_statements}
use Rattle.cert_text_laws.proofs.Limited.{limited}
use Rattle.cert_text_laws.proofs.texts.texts_are_limited.Goals as goal

pub returns : goal.returns
returns c = λ p is.
    limited is.tree is.kinds p (text_names is.tree is.spelled) (few_statements is.tree.decls is.short) is.elaborated
    (c.elaborated_programs_have_proper_bodies.ensures is.tree is.kinds p is.elaborated is.numbers)
    (record {
      keys = λ g f at. c.elaborated_programs_have_few_keys.ensures is.tree is.kinds p is.elaborated g f at;
      vars = λ g f at. c.elaborated_programs_have_few_variables.ensures is.tree is.kinds p is.elaborated g f at;
      bounds = bounds_known is.tree is.kinds p is.elaborated (kinded_parts p (c.elaborated_programs_are_kinded.ensures is.tree is.kinds p is.elaborated));
      blank = λ g f at. c.elaborated_programs_have_blank_externals.ensures is.tree is.kinds p is.elaborated g f at;
    })
