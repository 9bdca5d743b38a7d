use Rattle.std.proofs.Common.{inl, inr, ⊎_elim, arith, rules}
use Rattle.std.proofs.lemmas.Bool.{cases_lt}
use Rattle.std.proofs.lemmas.Bool.Decides.{nat_tests}
use Rattle.vlt_paths.proofs.Sets.{some_number, no_number}
use Rattle.vlt_paths.proofs.numbers.Numbers.is_filled.Goals as goal

pub returns-then-self-ne0 : goal.returns-then-self-ne0
returns-then-self-ne0 c = (λ h. some_number c.args.self (inl (omega (arith, c.if-self-ne0.true))), λ x. search rules)

pub returns : goal.returns
returns c = ⊎_elim
    (λ less. (λ h. some_number c.args.self (inr less), λ x. grind (arith, nat_tests)))
    (λ more. (λ h. absurd (grind (arith, nat_tests)), λ x. absurd (no_number c.args.self x.0 (omega (arith, c.if-self-ne0.false)) more x.1)))
    (cases_lt c.args.self.from c.args.self.to)
