use Rattle.std.proofs.Common.{◌≡◌, ◌≤◌, ◌+◌, vec_capacity, Some, [], refl, subst, sym, ◌∙◌, arith}
use Rattle.vlt_numbers.specs.HostAnswers.{lists_of}
use Rattle.c_syntax.specs.View.{program_of}
use Rattle.c_meaning.specs.Run.{main_of, c_run}
use Rattle.c_meaning.specs.Widths.{block_cells}
use Rattle.c_machine.specs.Within.{longest_name}
use Rattle.c_memory.specs.Shown.{cells_of}
use Rattle.c_primitives.specs.Shown.{Shows}
use Rattle.c_interp.specs.Calling.{numbered_of}
use Rattle.c_interp.specs.Running.{start_of}
use Rattle.c_interp.specs.Start.{EndsAs}
use Rattle.c_interp.proofs.Ending.{main_none, main_some, ends_without_main, ends_without_depth, ended_is, start_shown}
use Rattle.c_interp.proofs.start.run_program.Goals as goal

pub returns-in_default : goal.returns-in_default
returns-in_default g c = ends_without_main (program_of c.args.s.rules.program.now) c.args.fuel c.args.s.rules.heap c.args.s.rules.depth c.args.input.now (lists_of c.args.answers.now) (record { written = g.K.Sink.written c.args.sink.now; faults = g.K.Sink.faults c.args.sink.now }) c.args.s.rules.count (main_none (main_of (program_of c.args.s.rules.program.now)) c.in_default.ensures) c.requires.set.rules.count

pub returns-then-rules-eq0 : goal.returns-then-rules-eq0
returns-then-rules-eq0 g c = ends_without_depth (program_of c.args.s.rules.program.now) c.args.fuel c.args.s.rules.heap c.args.s.rules.depth c.args.input.now (lists_of c.args.answers.now) (record { written = g.K.Sink.written c.args.sink.now; faults = g.K.Sink.faults c.args.sink.now }) (numbered_of c.in-Some.main) (main_some c.in-Some.main (main_of (program_of c.args.s.rules.program.now)) c.in-Some.ensures) c.if-rules-eq0.true

pub run-stop-requires : goal.run-stop-requires
run-stop-requires g c =
    let first : main_of (program_of c.args.s.rules.program.now) ≡ Some (numbered_of c.in-Some.main) = main_some c.in-Some.main (main_of (program_of c.args.s.rules.program.now)) c.in-Some.ensures in
    record {
      start = record {
        rules = c.requires.set.rules;
        runnable = c.requires.runnable.declared;
        first = first;
        no_params = c.requires.runnable.no_params (numbered_of c.in-Some.main) first;
        some = omega (arith, c.if-rules-eq0.false);
        no_tasks = c.requires.set.no_tasks;
        room_of_tasks = c.requires.set.tasks;
        no_values = c.requires.set.no_values;
        room_of_values = c.requires.set.values;
        cells = λ some. subst (λ b. block_cells (program_of c.args.s.rules.program.now) ≤ cells_of b) (sym c.new-world.ensures.blocks) (c.requires.set.cells (omega (arith, some, c.new-world.ensures.heap, c.requires.set.heap)));
        name = subst (λ l. longest_name (program_of c.args.s.rules.program.now) + 674 ≤ vec_capacity l) (sym c.new-world.ensures.line) c.requires.set.name;
        heap = c.new-world.ensures.heap ∙ c.requires.set.heap;
        ready = c.new-world.ensures.ready;
        shown = subst (Shows c.new-world.result []) (sym (start_shown c.new-world.result c.args.fuel c.args.input.now c.args.answers.now c.new-world.ensures.has_fuel c.new-world.ensures.has_input c.new-world.ensures.has_answers)) c.new-world.ensures.shown;
      };
    }

pub returns : goal.returns
returns g c =
    subst (λ f. EndsAs (c_run (program_of c.args.s.rules.program.now) f c.args.s.rules.heap c.args.s.rules.depth c.args.input.now (lists_of c.args.answers.now)) (record { written = g.K.Sink.written c.args.sink.now; faults = g.K.Sink.faults c.args.sink.now }) (record { written = g.K.Sink.written c.run-stop.new.sink; faults = g.K.Sink.faults c.run-stop.new.sink }) (record { stop = c.run-stop.result; fuel = c.run-stop.new.world.fuel })) c.new-world.ensures.has_fuel
    (subst (λ i. EndsAs (c_run (program_of c.args.s.rules.program.now) c.new-world.result.fuel c.args.s.rules.heap c.args.s.rules.depth i (lists_of c.args.answers.now)) (record { written = g.K.Sink.written c.args.sink.now; faults = g.K.Sink.faults c.args.sink.now }) (record { written = g.K.Sink.written c.run-stop.new.sink; faults = g.K.Sink.faults c.run-stop.new.sink }) (record { stop = c.run-stop.result; fuel = c.run-stop.new.world.fuel })) c.new-world.ensures.has_input
    (subst (λ a. EndsAs (c_run (program_of c.args.s.rules.program.now) c.new-world.result.fuel c.args.s.rules.heap c.args.s.rules.depth c.new-world.result.input.now (lists_of a)) (record { written = g.K.Sink.written c.args.sink.now; faults = g.K.Sink.faults c.args.sink.now }) (record { written = g.K.Sink.written c.run-stop.new.sink; faults = g.K.Sink.faults c.run-stop.new.sink }) (record { stop = c.run-stop.result; fuel = c.run-stop.new.world.fuel })) c.new-world.ensures.has_answers
    (ended_is (c_run (program_of c.args.s.rules.program.now) c.new-world.result.fuel c.args.s.rules.heap c.args.s.rules.depth c.new-world.result.input.now (lists_of c.new-world.result.answers.now)) (start_of c.new-world.result) (record { written = g.K.Sink.written c.args.sink.now; faults = g.K.Sink.faults c.args.sink.now }) (record { written = g.K.Sink.written c.run-stop.new.sink; faults = g.K.Sink.faults c.run-stop.new.sink }) c.run-stop.result c.run-stop.new.world refl c.run-stop.ensures)))
