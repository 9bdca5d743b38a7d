use Rattle.vlt_syntax_laws.proofs.Ticks.{text_ticks}
use Rattle.vlt_syntax_laws.proofs.texts_have_ticks.Goals as goal

pub returns : goal.returns
returns c = λ bytes ls t is e. text_ticks bytes ls t is e
