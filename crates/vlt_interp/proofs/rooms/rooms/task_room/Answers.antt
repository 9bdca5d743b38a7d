use Rattle.std.proofs.Common.{◌≡◌, ◌+◌, ◌*◌, ap, ◌∙◌}
use Rattle.vlt_core.specs.View.{program_of}
use Rattle.vlt_interp.specs.Rooms.Rooms.{HoldsTasks}
use Rattle.vlt_interp.proofs.OfRooms.Holding.{fitted, tasks_held}
use Rattle.vlt_interp.proofs.rooms.rooms.task_room.Goals as goal

pub returns : goal.returns
returns c =
    let all : c.in_ok-checked_add.field-0 ≡ c.args.depth * (c.from-tall.result + 1) + 3 =
    c.in_ok-checked_add.ensures.1 ∙ ap (λ n. n + 3) (c.in_ok-all.ensures.1 ∙ ap (λ n. n * (c.from-tall.result + 1)) c.from.ensures) in
    fitted _ _ _ _ (HoldsTasks (program_of c.args.p.now) c.args.depth) c.try_from.ensures c.ok.ensures.value
    (tasks_held (program_of c.args.p.now) c.args.depth c.from-tall.result c.in_ok-checked_add.field-0 (c.from-tall.ensures ∙ c.in_ok-tall.ensures) all)
