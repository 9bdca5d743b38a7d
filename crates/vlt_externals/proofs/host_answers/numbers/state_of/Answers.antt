use Rattle.std.proofs.Common.{rules, ◌≡◌, Some}
use Rattle.vlt_externals.specs.HostAnswers.Read.{natural_in}
use Rattle.vlt_externals.proofs.OfHostAnswers.Fronts.{passes_none}
use Rattle.vlt_externals.proofs.host_answers.numbers.state_of.Goals as goal

pub returns-then-k-ge32 : goal.returns-then-k-ge32
returns-then-k-ge32 c =
    let e : Some c.in-Some.k ≡ natural_in c.args.z = search rules in
    passes_none c.args.states.mask c.args.z c.in-Some.k c.args.states.small e c.if-k-ge32.true
