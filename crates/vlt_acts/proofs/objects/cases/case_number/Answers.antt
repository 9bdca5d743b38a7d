use Rattle.std.proofs.Common.{rules, ap, ◌∙◌, SFits, w64}
use Rattle.std.proofs.lemmas.Int.{to_z-of_z}
use Rattle.vlt_acts.proofs.OfObjects.Arms.{slot_number, number_reads, other_reads, tells_case}
use Rattle.vlt_acts.proofs.objects.cases.case_number.Goals as goal

pub returns-in-Number : goal.returns-in-Number
returns-in-Number k =
    let f : SFits w64 k.in-Number.z = search rules in
    tells_case k.args.values.now k.args.v.0 k.front.result _ k.front.ensures (λ y e. to_z-of_z w64 k.in-Number.z f ∙ number_reads k.front.result k.in-Number.z y k.in-Number.is e)

pub returns-in-Object : goal.returns-in-Object
returns-in-Object k = tells_case k.args.values.now k.args.v.0 k.front.result _ k.front.ensures (λ y e. other_reads k.front.result _ y (ap slot_number k.in-Object.is) e)

pub returns-in-Owned : goal.returns-in-Owned
returns-in-Owned k = tells_case k.args.values.now k.args.v.0 k.front.result _ k.front.ensures (λ y e. other_reads k.front.result _ y (ap slot_number k.in-Owned.is) e)
