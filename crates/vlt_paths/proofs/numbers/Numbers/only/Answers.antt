use Rattle.std.proofs.Common.{◌∙◌, ◌==◌}
use Rattle.vlt_base.specs.States.{is_bit}
use Rattle.vlt_paths.proofs.Sets.{each_same}
use Rattle.vlt_paths.proofs.numbers.Numbers.only.Goals as goal

pub returns-then-s-lt32 : goal.returns-then-s-lt32
returns-then-s-lt32 c =
    c.low.ensures ∙ each_same (is_bit c.mask.result) (λ i. i == c.args.s) (λ i. c.mask.ensures.states i ∙ c.only.ensures i)
