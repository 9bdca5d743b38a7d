use Rattle.vlt_syntax_laws.proofs.Numbers.{text_numbers}
use Rattle.vlt_syntax_laws.proofs.texts_have_numbers.Goals as goal

pub returns : goal.returns
returns c = λ bytes ls t is e. text_numbers bytes ls t is e
