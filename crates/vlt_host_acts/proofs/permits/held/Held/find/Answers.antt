use Rattle.std.proofs.Common.{sym}
use Rattle.vlt_host_acts.proofs.OfPermits.Search.{found, not_found, in_them, not_in}
use Rattle.vlt_host_acts.proofs.permits.held.Held.find.Goals as goal

pub returns-in-Ok : goal.returns-in-Ok
returns-in-Ok c =
    let xs = c.args.self.now.numbers.items in
    let i = c.in-Ok.i in
    sym (in_them xs i c.args.number
    (found xs c.as_slice.result.now c.args.number i c.as_slice.ensures.value c.requires.sound.ascending c.in-Ok.ensures.position))

pub returns-in-Err : goal.returns-in-Err
returns-in-Err c =
    let xs = c.args.self.now.numbers.items in
    let i = c.in-Err.field-0 in
    sym (not_in xs i c.args.number
    (not_found xs c.as_slice.result.now c.args.number i c.as_slice.ensures.value c.requires.sound.ascending c.in-Err.ensures.position))
