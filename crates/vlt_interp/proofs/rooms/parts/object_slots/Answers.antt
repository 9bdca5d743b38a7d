use Rattle.std.proofs.Common.{◌*◌, ap}
use Rattle.vlt_core.specs.View.{program_of}
use Rattle.vlt_interp.specs.Rooms.Rooms.{HoldsFields}
use Rattle.vlt_interp.proofs.OfRooms.Holding.{some_fitted, found_in, fields_held}
use Rattle.vlt_interp.proofs.rooms.parts.object_slots.Goals as goal

pub returns : goal.returns
returns c =
    let k = found_in c.try_from.result c.ok.result c.most_fields.result c.in_ok-fields.fields 4294967296 c.try_from.ensures c.ok.ensures.value c.in_ok-fields.was in
    some_fitted _ _ _ (HoldsFields (program_of c.args.p.now) c.args.width) c.checked_mul.ensures
    (fields_held (program_of c.args.p.now) c.most_fields.result c.args.width (c.in_ok-fields.fields * c.args.width) c.most_fields.ensures k.1 (ap (λ n. n * c.args.width) k.0))
