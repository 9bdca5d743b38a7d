use Rattle.std.proofs.Common.{nat_lt, ap, ◌∙◌}
use Rattle.c_syntax.specs.View.{program_of}
use Rattle.c_lower_program.proofs.Lengths.{over_is}
use Rattle.c_lower_program.proofs.program.is_too_long.Goals as goal

pub returns : goal.returns
returns c =
    ap (λ n. nat_lt n c.program_size.result) c.limit.ensures
    ∙ ap (nat_lt 67108864) c.program_size.ensures
    ∙ over_is (program_of c.args.program.now)
