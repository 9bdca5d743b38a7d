use Rattle.std.proofs.Common.{◌<◌, subst}
use Rattle.vlt_numbers.specs.HostAnswers.{lists_of}
use Rattle.vlt_steps.specs.Writing.{Outside}
use Rattle.vlt_steps.specs.declared.end.RunEnd.TheVariants.{Stopped}
use Rattle.vlt_steps.proofs.Ending.{fits}
use Rattle.c_syntax.specs.View.{program_of}
use Rattle.c_meaning.specs.Widths.{slots_needed}
use Rattle.c_interp.specs.Runs.Ends.{EndsRun}
use Rattle.c_interp.proofs.OfRuns.Ending.{stops}
use Rattle.c_interp.proofs.runs.run.run.Goals as goal

pub returns-in-Ok : goal.returns-in-Ok
returns-in-Ok g c =
    let p = program_of c.args.program.now in
    let b = c.args.budgets in
    let lists = lists_of c.args.given.now.answers in
    let before : Outside = record { written = g.K.Sink.written c.args.out.now; faults = g.K.Sink.faults c.args.out.now } in
    let after : Outside = record { written = g.K.Sink.written c.go.new.sink; faults = g.K.Sink.faults c.go.new.sink } in
    subst (λ numbers. EndsRun p numbers lists b before after (Stopped c.go.result)) c.deref.ensures.value (
      fits c.open.result c.in-Ok.machine (16777216 < slots_needed p b.depth b.heap) c.in-Ok.is c.open.ensures.too_wide,
      stops c.in-Ok.machine p b c.deref.result.now lists c.go.result before after c.in-Ok.ensures.program c.in-Ok.ensures.budgets c.in-Ok.ensures.started c.go.ensures.ended,
    )
