use Rattle.std.proofs.Common.{inl, inr, ⊎_elim, IsTrue, false, arith, rules}
use Rattle.std.proofs.lemmas.Bool.{cases_lt}
use Rattle.std.proofs.lemmas.Bool.Decides.{nat_tests}
use Rattle.vlt_paths.proofs.Sets.{low_exceeds, before_exceeds, after_exceeds, within}
use Rattle.vlt_paths.proofs.numbers.Numbers.exceeds.Goals as goal

never : IsTrue false → ⊥
never h = search rules

pub returns-then-self-o-ne0 : goal.returns-then-self-o-ne0
returns-then-self-o-ne0 c = (λ h. low_exceeds c.args.self c.args.o (omega (arith, c.if-self-o-ne0.true)), λ x. search rules)

pub returns-then-self : goal.returns-then-self
returns-then-self c =
    (λ h. absurd (never h), λ x. absurd (within c.args.self c.args.o (omega (arith, c.if-self-o-ne0.false)) (inl (omega (arith, c.if-self.true))) x))

pub returns-then-self-o : goal.returns-then-self-o
returns-then-self-o c =
    let less = c.if-self-o.true in
    (λ h. before_exceeds c.args.self c.args.o (omega (arith, c.if-self.false)) (omega (arith, less)), λ x. grind (arith, nat_tests))

pub returns-else-self-o : goal.returns-else-self-o
returns-else-self-o c = ⊎_elim
    (λ less. (λ h. after_exceeds c.args.self c.args.o (omega (arith, c.if-self.false)) less, λ x. grind (arith, nat_tests)))
    (λ more. (λ h. absurd (grind (arith, nat_tests)), λ x. absurd (within c.args.self c.args.o (omega (arith, c.if-self-o-ne0.false)) (inr (omega (arith, c.if-self-o.false), more)) x)))
    (cases_lt c.args.o.to c.args.self.to)
