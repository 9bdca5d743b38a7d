use Rattle.std.proofs.Common.{◌-◌}
use Rattle.vlt_externals.proofs.host_answers.numbers.+first_member.Given as goal

abbrev pub decreases-first_member : goal.decreases-first_member
decreases-first_member l = 32 - l.from
