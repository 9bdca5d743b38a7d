use Rattle.vlt_sound_worlds.proofs.Expressions.{expr_fine}
use Rattle.vlt_sound_worlds.proofs.frames.expressions_are_fine.Goals as goal

pub returns : goal.returns
returns c = λ p f x h ids hand frame os a e typed kinded pass. expr_fine typed ids a e kinded pass
