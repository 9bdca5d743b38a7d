use Rattle.std.proofs.Common.{rules, inl, inr, ⊎_elim, ap, refl}
use Rattle.vlt_witness.specs.Ways.{one_of}
use Rattle.vlt_faults.specs.Finding.Ones.{many_of}
use Rattle.vlt_witness.proofs.Steps.{true_or_not}
use Rattle.vlt_witness.proofs.ways.not_on.Goals as goal

pub returns-then-is_same-clause-rest : goal.returns-then-is_same-clause-rest
returns-then-is_same-clause-rest c = λ o h. ⊎_elim
    (λ there. inr (record { from = ap one_of (c.is_same.ensures (search rules)); there = there; path = refl }))
    (λ never. inl ((c.without.ensures o).1 (h, never)))
    (true_or_not (many_of c.args.way.now.ones o))
