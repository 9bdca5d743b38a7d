use Rattle.std.proofs.Common.{◌∙◌, sym, subst, arith}
use Rattle.vlt_host_acts.specs.Permits.Numbers.{IsAscending}
use Rattle.vlt_host_acts.proofs.OfPermits.Numbers.{ascending_without}
use Rattle.vlt_host_acts.proofs.OfPermits.Search.{found, not_found, one_removed, nothing_removed}
use Rattle.vlt_host_acts.proofs.permits.held.Held.remove.Goals as goal

pub returns-in-Ok-clause-numbers : goal.returns-in-Ok-clause-numbers
returns-in-Ok-clause-numbers c =
    let xs = c.args.self.now.numbers.items in
    let i = c.in-Ok.i in
    c.remove.ensures.items ∙ one_removed xs i c.args.number c.requires.sound.ascending
    (found xs c.as_slice.result.now c.args.number i c.as_slice.ensures.value c.requires.sound.ascending c.in-Ok.ensures.position)

pub returns-in-Ok-clause-sound : goal.returns-in-Ok-clause-sound
returns-in-Ok-clause-sound c =
    let xs = c.args.self.now.numbers.items in
    let i = c.in-Ok.i in
    let is = c.remove.ensures.items ∙ one_removed xs i c.args.number c.requires.sound.ascending
    (found xs c.as_slice.result.now c.args.number i c.as_slice.ensures.value c.requires.sound.ascending c.in-Ok.ensures.position) in
    record {
      ascending = subst IsAscending (sym is) (ascending_without c.args.number xs c.requires.sound.ascending);
      places = omega (arith, c.remove.ensures.len, c.remove-in-Ok.ensures.len, c.requires.sound.places);
    }

pub returns-in_default-clause-numbers : goal.returns-in_default-clause-numbers
returns-in_default-clause-numbers c =
    let xs = c.args.self.now.numbers.items in
    let i = c.in_default.field-0 in
    nothing_removed xs i c.args.number
    (not_found xs c.as_slice.result.now c.args.number i c.as_slice.ensures.value c.requires.sound.ascending c.in_default.ensures.position)
