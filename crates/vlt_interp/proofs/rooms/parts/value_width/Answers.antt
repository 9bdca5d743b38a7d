use Rattle.vlt_core.specs.View.{program_of}
use Rattle.vlt_interp.specs.Tasks.Sizes.{IsWide}
use Rattle.vlt_interp.proofs.OfRooms.Holding.{fitted, is_wide}
use Rattle.vlt_interp.proofs.rooms.parts.value_width.Goals as goal

pub returns : goal.returns
returns c =
    fitted _ _ _ _ (IsWide (program_of c.args.p.now)) c.try_from.ensures c.ok.ensures.value (is_wide (program_of c.args.p.now) c.parts_in_functions.result c.parts_in_results.result c.parts_in_types.result c.max-in_frames.result c.max-most.result c.max.result c.parts_in_functions.ensures c.parts_in_results.ensures c.parts_in_types.ensures c.max-in_frames.ensures c.max-most.ensures c.max.ensures)
