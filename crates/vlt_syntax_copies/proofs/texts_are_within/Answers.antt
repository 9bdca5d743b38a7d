use Rattle.vlt_syntax_copies.proofs.Texts.{text_within}
use Rattle.vlt_syntax_copies.proofs.texts_are_within.Goals as goal

pub returns : goal.returns
returns c = λ bytes ls t end tokens stands short. text_within bytes ls t end tokens stands short
