use Rattle.vlt_syntax_copies.proofs.Zero.{raised_by_nothing}
use Rattle.vlt_syntax_copies.proofs.raised_by_zero.Goals as goal

pub returns : goal.returns
returns c = λ d. raised_by_nothing d
