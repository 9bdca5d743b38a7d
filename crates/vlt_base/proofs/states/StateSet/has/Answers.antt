use Rattle.std.proofs.Common.{◌≡◌, nat_lt, false, sym, ◌∙◌, arith}
use Rattle.std.proofs.lemmas.Bool.Decides.{nat_tests}
use Rattle.vlt_base.proofs.Sets.{no_bit_above}
use Rattle.vlt_base.proofs.states.StateSet.has.Goals as goal

pub returns-else-s-lt32 : goal.returns-else-s-lt32
returns-else-s-lt32 c =
    let large : nat_lt c.args.s 32 ≡ false = grind (arith, nat_tests) in
    large ∙ sym (no_bit_above c.args.self.mask c.args.s c.args.self.small c.if-s-lt32.false)
