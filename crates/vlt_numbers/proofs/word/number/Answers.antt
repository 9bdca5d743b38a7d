use Rattle.std.proofs.Common.{rules, ◌≢◌, get_or}
use Rattle.vlt_numbers.proofs.Spelled.{spelled, IsUtf8-number}
use Rattle.vlt_numbers.proofs.word.number.Goals as goal

pub returns-in-Ok : goal.returns-in-Ok
returns-in-Ok c =
    let plus : get_or c.args.word.now 0 0 ≢ 43 = search rules in
    let text = c.in-Ok.ensures.cases.0 in
    rw c.ok.ensures.value (spelled c.args.word.now c.parse.result (rw text at c.parse.ensures.value.0) plus)

pub returns-in-Err : goal.returns-in-Err
returns-in-Err c = λ h. c.in-Err.ensures.cases.0 (IsUtf8-number c.args.word.now h)
