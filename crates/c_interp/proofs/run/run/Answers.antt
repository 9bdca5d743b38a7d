use Rattle.std.proofs.Common.{arith, vec_capacity}
use Rattle.c_interp.proofs.Beginning.{frame_room, first_room, first_running}
use Rattle.c_interp.proofs.run.run.Goals as goal

pub first_frame-frames-requires : goal.first_frame-frames-requires
first_frame-frames-requires g c = record { room = frame_room c.args.rules.now c.args.main c.args.tasks.now.items _ c.args.values.items _ c.args.world.now c.requires.start }

pub put-requires : goal.put-requires
put-requires g c = record { room = omega (arith, c.requires.start.no_tasks, c.requires.start.room_of_tasks) }

pub finish-requires-clause-room : goal.finish-requires-clause-room
finish-requires-clause-room g c = first_room c.args.rules.now c.args.main c.args.tasks.now.items _ c.args.values.items _ c.args.world.now c.requires.start c.first_frame-frames.result c.put.new.items.items c.put-2.new.items.items c.as_slice.result _ c.first_frame-frames.ensures.func c.first_frame-frames.ensures.base c.first_frame-frames.ensures.glue c.first_frame-frames.ensures.depth c.first_frame-frames.ensures.items c.first_frame-frames.ensures.kept c.put.ensures.items c.put-2.ensures.items c.as_slice.ensures (omega (arith, c.put.ensures.room, c.put-2.ensures.room))

pub finish-requires-clause-start : goal.finish-requires-clause-start
finish-requires-clause-start g c = λ b. first_running c.args.rules.now c.args.main c.args.tasks.now.items _ c.args.values.items _ c.args.world.now c.requires.start c.first_frame-frames.result c.put.new.items.items c.put-2.new.items.items c.as_slice.result (vec_capacity c.put-2.new.items) c.first_frame-frames.ensures.func c.first_frame-frames.ensures.base c.first_frame-frames.ensures.glue c.first_frame-frames.ensures.depth c.first_frame-frames.ensures.items c.first_frame-frames.ensures.kept c.put.ensures.items c.put-2.ensures.items c.as_slice.ensures (omega (arith, c.put.ensures.room, c.put-2.ensures.room)) b
