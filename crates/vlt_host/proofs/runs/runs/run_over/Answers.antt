use Rattle.std.proofs.Common.{◌<◌, subst}
use Rattle.vlt_core.specs.View.{program_of}
use Rattle.vlt_steps.specs.Writing.{Outside}
use Rattle.vlt_numbers.specs.HostAnswers.{lists_of}
use Rattle.vlt_host_meaning.specs.Tables.{calls_in}
use Rattle.vlt_host_meaning.specs.Widths.{slots_needed_by_host}
use Rattle.vlt_steps.specs.declared.end.RunEnd.TheVariants.{Stopped}
use Rattle.vlt_steps.proofs.Ending.{fits}
use Rattle.vlt_host.specs.Runs.Ends.{EndsRun}
use Rattle.vlt_host.proofs.OfRuns.Ending.{stops}
use Rattle.vlt_host.proofs.runs.runs.run_over.Goals as goal

pub returns-in-Ok : goal.returns-in-Ok
returns-in-Ok g c =
    let p = program_of c.args.program.now in
    let b = c.args.budgets in
    let calls = calls_in c.args.calls.now in
    let lists = lists_of c.args.given.now.answers in
    let before : Outside = record { written = g.K.Sink.written c.args.out.now; faults = g.K.Sink.faults c.args.out.now } in
    let after : Outside = record { written = g.K.Sink.written c.run_calls.new.sink; faults = g.K.Sink.faults c.run_calls.new.sink } in
    subst (λ input. EndsRun p calls input lists b before after (Stopped c.run_calls.result)) c.deref.ensures.value (
      fits c.open.result c.in-Ok.machine (16777216 < slots_needed_by_host p b.depth b.heap) c.in-Ok.is c.open.ensures.too_wide,
      stops c.in-Ok.machine p b c.deref.result.now lists calls c.run_calls.result before after
          c.in-Ok.ensures.budgets c.in-Ok.ensures.fuel c.run_calls.ensures.stops,
    )
