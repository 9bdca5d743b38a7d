use Rattle.std.proofs.Common.{◌≡◌, ◌+◌, ◌*◌, max, ap, ◌∙◌}
use Rattle.vlt_core.specs.View.{program_of}
use Rattle.vlt_interp.specs.Rooms.Rooms.{HoldsFrames}
use Rattle.vlt_interp.proofs.OfRooms.Holding.{fitted, frames_held}
use Rattle.vlt_interp.proofs.rooms.rooms.value_room.Goals as goal

pub returns : goal.returns
returns c =
    let operands : c.in_ok-operands.operands ≡ max c.most_fields.result c.args.width * c.args.width =
    c.in_ok-operands.ensures.1 ∙ ap (λ n. n * c.from-4.result) (c.from-3.ensures ∙ c.max.ensures ∙ ap (max c.most_fields.result) c.from-2.ensures) ∙ ap (λ n. max c.most_fields.result c.args.width * n) c.from-4.ensures in
    let all : c.in_ok-checked_add.field-0 ≡ (c.args.depth + 1) * c.frame_slots.result + c.in_ok-operands.operands =
    c.in_ok-checked_add.ensures.1 ∙ ap (λ n. n + c.in_ok-operands.operands) (c.in_ok-frames.ensures.1 ∙ ap (λ n. (n + 1) * c.frame_slots.result) c.from.ensures) in
    fitted _ _ _ _ (HoldsFrames (program_of c.args.p.now) c.args.depth c.args.width) c.try_from.ensures c.ok.ensures.value
    (frames_held (program_of c.args.p.now) c.args.depth c.args.width c.frame_slots.result c.most_fields.result c.in_ok-operands.operands c.in_ok-checked_add.field-0 c.frame_slots.ensures c.most_fields.ensures operands all)
