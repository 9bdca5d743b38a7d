use Rattle.std.proofs.Common.{◌≡◌, ◌≤◌, false, arith}
use Rattle.vlt_base.proofs.Sets.{no_bit_above}
use Rattle.vlt_base.specs.States.{has_state}
use Rattle.vlt_reports.proofs.statuses.has_number.Goals as goal

pub returns-else-number-lt32 : goal.returns-else-number-lt32
returns-else-number-lt32 c =
    let from : 32 ≤ c.args.number = grind arith in
    let none : has_state c.args.states c.args.number ≡ false = no_bit_above c.args.states.mask c.args.number c.args.states.small from in
    grind arith
