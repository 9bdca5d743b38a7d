use Rattle.vlt_syntax_copies.proofs.Zero.{shifted_by_nothing}
use Rattle.vlt_syntax_copies.proofs.shifted_by_zero.Goals as goal

pub returns : goal.returns
returns c = λ d. shifted_by_nothing d
