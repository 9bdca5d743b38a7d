use Rattle.std.proofs.Common.{◌∙◌, map}
use Rattle.vlt_core.specs.View.{program_of, case_of}
use Rattle.vlt_interp.proofs.OfRooms.Wide.{variant_is}
use Rattle.vlt_interp.proofs.rooms.slots.variant_slots.Goals as goal

pub returns : goal.returns
returns c = variant_is (program_of c.args.p.now) c.args.t.0 (map case_of c.cases_of-cases.result.now) c.from-numbers.result c.from-guarded.result c.from.result c.cases_of-cases.ensures (c.from-numbers.ensures ∙ c.most_of.ensures) (c.from-guarded.ensures ∙ c.most_of-2.ensures) (c.from.ensures ∙ c.most_of-3.ensures)
