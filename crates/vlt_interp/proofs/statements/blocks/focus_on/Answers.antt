use Rattle.std.proofs.Common.{refl, arith}
use Rattle.vlt_core.specs.Core as core
use Rattle.vlt_core.specs.View.{block_of}
use Rattle.vlt_interp.proofs.OfTasks.Staying.{keeps_on}
use Rattle.vlt_interp.proofs.OfStatements.Asking.{can_table, can_var, can_key}
use Rattle.vlt_interp.proofs.OfStatements.Foci.{can_focus, focus_came}
use Rattle.vlt_interp.proofs.statements.blocks.focus_on.Goals as goal

pub begin_focus-focus-requires-clause-table : goal.begin_focus-focus-requires-clause-table
begin_focus-focus-requires-clause-table c = can_table (core.focus c.args.y.0 c.args.z.0 (block_of c.args.body.now)) c.requires.can.rules c.args.run.now c.requires.can.can

pub begin_focus-focus-requires-clause-within : goal.begin_focus-focus-requires-clause-within
begin_focus-focus-requires-clause-within c = can_var (core.focus c.args.y.0 c.args.z.0 (block_of c.args.body.now)) c.requires.can.rules c.args.run.now c.requires.can.can c.args.z.0 c.requires.can.can.own.0

pub begin_focus-focus-requires-clause-key : goal.begin_focus-focus-requires-clause-key
begin_focus-focus-requires-clause-key c = can_key (core.focus c.args.y.0 c.args.z.0 (block_of c.args.body.now)) c.requires.can.rules c.args.run.now c.requires.can.can c.args.z.0

pub begin_focus-focus-requires-clause-can : goal.begin_focus-focus-requires-clause-can
begin_focus-focus-requires-clause-can c = can_focus c.args.y.0 c.args.z.0 (block_of c.args.body.now) c.requires.can.rules c.args.run.now c.requires.can.can

pub returns : goal.returns
returns c =
    let mid = record c.args.run.now { values = c.begin_focus-focus.new.values; heap = c.begin_focus-focus.new.heap } in
    let next = record mid { tasks = c.put.new.items } in
    λ s b. record {
      keeps = keeps_on c.args.run.now next c.enter_block.new.run (record {
        sound = c.begin_focus-focus.ensures.sound;
        size = c.begin_focus-focus.ensures.size;
        width = c.begin_focus-focus.ensures.same.width;
        values = c.begin_focus-focus.ensures.same.room;
        tasks = c.put.ensures.room;
        line = omega arith;
      }) (c.enter_block.ensures s b).keeps;
      comes = λ f ts frame w q. focus_came s c.args.y.0 c.args.z.0 (block_of c.args.body.now) c.args.run.now mid next c.enter_block.new.run c.begin_focus-focus.result
          (record { func = refl; tasks = refl; at = refl; depth = refl; frame = c.begin_focus-focus.ensures.same }) refl refl c.begin_focus-focus.ensures.does refl c.put.ensures.items b
          (λ g us after v k. (c.enter_block.ensures s b).comes g us after v k) f ts frame w q;
    }
