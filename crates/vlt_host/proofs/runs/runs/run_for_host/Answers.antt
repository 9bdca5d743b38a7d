use Rattle.std.proofs.Common.{Err, refl, sym, ap, ◌∙◌, subst}
use Rattle.vlt_core.specs.View.{program_of}
use Rattle.vlt_numbers.specs.HostAnswers.{lists_of}
use Rattle.vlt_numbers.specs.Given.Given.{given_by}
use Rattle.vlt_steps.specs.Writing.{Outside}
use Rattle.vlt_steps.proofs.Ending.{over_numbers, refused}
use Rattle.vlt_host_meaning.specs.Tables.{calls_in}
use Rattle.vlt_host.specs.Runs.Ends.{EndsRun, EndsAs}
use Rattle.vlt_host.proofs.runs.runs.run_for_host.Goals as goal

pub returns-in-Ok : goal.returns-in-Ok
returns-in-Ok g c =
    let p = program_of c.args.program.now in
    let calls = calls_in c.args.calls.now in
    let given = c.in-Ok.given in
    let before : Outside = record { written = g.K.Sink.written c.args.out.now; faults = g.K.Sink.faults c.args.out.now } in
    let after : Outside = record { written = g.K.Sink.written c.run_over.new.out; faults = g.K.Sink.faults c.run_over.new.out } in
    over_numbers (λ input answers. EndsRun p calls input answers c.args.budgets before after) (given_by c.args.input.now c.args.answers.now)
    given.input.items (lists_of given.answers) before after c.run_over.result c.in-Ok.ensures.ok c.run_over.ensures

pub returns-in-Err : goal.returns-in-Err
returns-in-Err g c =
    let p = program_of c.args.program.now in
    let calls = calls_in c.args.calls.now in
    let before : Outside = record { written = g.K.Sink.written c.args.out.now; faults = g.K.Sink.faults c.args.out.now } in
    subst (λ e. EndsAs p calls c.args.input.now c.args.answers.now c.args.budgets before before e) (sym c.end_of.ensures)
    (refused (λ input answers. EndsRun p calls input answers c.args.budgets before before) (given_by c.args.input.now c.args.answers.now) c.in-Err.error before
    (λ line same. c.read_given.ensures.input line (c.in-Err.is ∙ ap (λ e. Err e) same)) (λ line same. c.read_given.ensures.answers line (c.in-Err.is ∙ ap (λ e. Err e) same)) (λ input answers. refl))
