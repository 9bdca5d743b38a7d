use Rattle.std.proofs.Common.{◌∙◌, sym, subst, arith}
use Rattle.vlt_host_acts.specs.Permits.Numbers.{IsAscending}
use Rattle.vlt_host_acts.proofs.OfPermits.Numbers.{ascending_with}
use Rattle.vlt_host_acts.proofs.OfPermits.Search.{found, not_found, one_inserted, nothing_inserted, one_longer}
use Rattle.vlt_host_acts.proofs.permits.held.Held.add.Goals as goal

pub put_at-requires-clause-room : goal.put_at-requires-clause-room
put_at-requires-clause-room c =
    let xs = c.args.self.now.numbers.items in
    let i = c.in-Err.i in
    let long = one_longer xs i c.args.number
    (not_found xs c.as_slice.result.now c.args.number i c.as_slice.ensures.value c.requires.sound.ascending c.in-Err.ensures.position) in
    omega (arith, long, c.requires.room)

pub put_at-requires-in-Err-clause-room : goal.put_at-requires-in-Err-clause-room
put_at-requires-in-Err-clause-room c =
    let xs = c.args.self.now.numbers.items in
    let i = c.in-Err.i in
    let long = one_longer xs i c.args.number
    (not_found xs c.as_slice.result.now c.args.number i c.as_slice.ensures.value c.requires.sound.ascending c.in-Err.ensures.position) in
    omega (arith, long, c.requires.room, c.requires.sound.places)

pub returns-in-Err-clause-numbers : goal.returns-in-Err-clause-numbers
returns-in-Err-clause-numbers c =
    let xs = c.args.self.now.numbers.items in
    let i = c.in-Err.i in
    c.put_at.ensures.items ∙ one_inserted xs i c.args.number
    (not_found xs c.as_slice.result.now c.args.number i c.as_slice.ensures.value c.requires.sound.ascending c.in-Err.ensures.position)

pub returns-in-Err-clause-sound : goal.returns-in-Err-clause-sound
returns-in-Err-clause-sound c =
    let xs = c.args.self.now.numbers.items in
    let i = c.in-Err.i in
    let is = c.put_at.ensures.items ∙ one_inserted xs i c.args.number
    (not_found xs c.as_slice.result.now c.args.number i c.as_slice.ensures.value c.requires.sound.ascending c.in-Err.ensures.position) in
    record {
      ascending = subst IsAscending (sym is) (ascending_with c.args.number xs c.requires.sound.ascending);
      places = omega (arith, c.put_at.ensures.long, c.put_at-in-Err.ensures.long, c.requires.sound.places);
    }

pub returns-in_default-clause-numbers : goal.returns-in_default-clause-numbers
returns-in_default-clause-numbers c =
    let xs = c.args.self.now.numbers.items in
    let i = c.in_default.field-0 in
    nothing_inserted xs i c.args.number c.requires.sound.ascending
    (found xs c.as_slice.result.now c.args.number i c.as_slice.ensures.value c.requires.sound.ascending c.in_default.ensures.position)
