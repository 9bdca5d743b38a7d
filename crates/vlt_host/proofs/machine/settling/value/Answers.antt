use Rattle.std.proofs.Common.{rules, subst, SFits, w64}
use Rattle.std.proofs.lemmas.Int.{to_z-of_z}
use Rattle.vlt_acts.specs.Values.Parts.{HasPart}
use Rattle.vlt_host.proofs.OfMachine.Back.{number_part, object_part, owned_part}
use Rattle.vlt_host.proofs.machine.settling.value.Goals as goal

pub returns-in-Number : goal.returns-in-Number
returns-in-Number c = λ items p h.
    let fits : SFits w64 c.in-Number.z = search rules in
    rw (to_z-of_z w64 c.in-Number.z fits) (number_part items c.in-Number.z p (subst (HasPart items p) c.in-Number.is h))

pub returns-in-Object : goal.returns-in-Object
returns-in-Object c = λ items p h. object_part items c.in-Object.field-0 c.in-Object.n p (subst (HasPart items p) c.in-Object.is h)

pub returns-in-Owned : goal.returns-in-Owned
returns-in-Owned c = λ items p h. owned_part items c.in-Owned.field-0 c.in-Owned.n p (subst (HasPart items p) c.in-Owned.is h)
