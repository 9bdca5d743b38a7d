use Rattle.std.proofs.Common.{refl}
use Rattle.vlt_interp.specs.declared.tasks.task.At.TheVariants.{Goes as GoesOn}
use Rattle.vlt_host.proofs.OfMachine.Begun.{few_vars, count, wide, frame_room, task_room, is_hosted, begins}
use Rattle.vlt_host.proofs.machine.calling.Calling.begin.Goals as goal

pub start_called-requires : goal.start_called-requires
start_called-requires c = record {
  hosted = is_hosted c.args.self.now c.args.start c.args.held.now c.args.fuel c.args.supply.now c.requires.can _ refl refl refl;
  few = few_vars c.args.self.now c.args.start c.args.held.now c.args.fuel c.args.supply.now c.requires.can;
  count = count c.args.self.now c.args.start c.args.held.now c.args.fuel c.args.supply.now c.requires.can;
  wide = wide c.args.self.now c.args.start c.args.held.now c.args.fuel c.args.supply.now c.requires.can;
  empty = c.requires.can.room.no_values;
  room = frame_room c.args.self.now c.args.start c.args.held.now c.args.fuel c.args.supply.now c.requires.can;
}

pub put-requires : goal.put-requires
put-requires c = record { room = task_room c.args.self.now c.args.start c.args.held.now c.args.fuel c.args.supply.now c.requires.can }

pub returns-clause-heap : goal.returns-clause-heap
returns-clause-heap c = c.requires.can.room.budget

pub returns-clause-begins : goal.returns-clause-begins
returns-clause-begins c = λ w q b.
    begins c.args.self.now c.args.start c.args.held.now c.args.fuel c.args.supply.now c.requires.can c.start_called.new.values c.as_slice.result
    (record {
      func = c.args.self.now.func;
      tasks = c.put.new.items;
      at = GoesOn;
      depth = 1;
      fuel = c.args.fuel;
      values = c.start_called.new.values;
      heap = c.args.start.heap;
      host = record { input = c.args.supply.now.input; answers = c.args.supply.now.answers; taken = c.args.supply.now.taken; line = c.args.start.line };
    })
    (record {
      base = c.start_called.ensures.base;
      width = c.start_called.ensures.width;
      running = c.start_called.ensures.running;
      values_room = c.start_called.ensures.room;
      shows = c.start_called.ensures.shows;
      tasks = c.put.ensures.items;
      tasks_room = c.put.ensures.room;
      body_is = c.as_slice.ensures;
      run_is = refl;
    })
    c.requires.deep w q b
