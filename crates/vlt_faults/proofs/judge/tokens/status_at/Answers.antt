use Rattle.std.proofs.Common.{false, IsTrue, rules, subst, sym}
use Rattle.vlt_core.specs.View.{tok_of}
use Rattle.vlt_faults.proofs.OfJudge.Overs.{no_place}
use Rattle.vlt_faults.proofs.judge.tokens.status_at.Goals as goal

pub returns-else-has : goal.returns-else-has
returns-else-has c = sym (no_place c.args.start.now (tok_of c.args.tok) (λ p. not_true (subst IsTrue c.if-has.false (c.has.ensures.1 p))))
  where
    not_true : IsTrue false → ⊥
    not_true h = search rules
