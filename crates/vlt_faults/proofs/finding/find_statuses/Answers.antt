use Rattle.std.proofs.Common.{sym, ◌∙◌, arith}
use Rattle.vlt_faults.proofs.finding.find_statuses.Goals as goal

pub spread-requires : goal.spread-requires
spread-requires c =
    let k = c.in_ok-kept.ensures in
    record { room = record { fits = omega (arith, k.around, c.requires.count); long = k.following ∙ sym k.around; few = omega (arith, k.around, c.requires.few); loop = tt }; none = record { around = λ i o h. absurd ((k.none i).none o h); following = λ i o h. absurd ((k.none_after i).none o h) } }
