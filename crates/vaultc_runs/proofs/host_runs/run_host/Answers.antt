use Rattle.std.proofs.Common.{Err, ap, ◌∙◌}
use Rattle.vlt_core.specs.View.{program_of}
use Rattle.vlt_numbers.specs.Given.Given.{given_by}
use Rattle.vlt_host.specs.CallsFile.{calls_of}
use Rattle.vlt_host_meaning.specs.Tables.{calls_in}
use Rattle.vaultc_runs.proofs.HostEnded.{calls_ended, calls_refused}
use Rattle.vaultc_runs.proofs.host_runs.run_host.Goals as goal

pub returns-in-Err : goal.returns-in-Err
returns-in-Err g c =
    let given = given_by c.args.files.now.input.items c.args.files.now.answers.items in
    calls_refused g.K.Sink (program_of c.args.program.now) (calls_of c.args.calls.now) c.in-Err.error given c.args.budgets c.args.out.now
    c.finish_calls_error.new.out c.finish_calls_error.result (λ line e. c.read_calls.ensures.bad line (c.in-Err.is ∙ ap (λ x. Err x) e)) c.finish_calls_error.ensures

pub returns : goal.returns
returns g c =
    let files = c.args.files.now in
    calls_ended g.K.Sink (program_of c.args.program.now) (calls_of c.args.calls.now) (calls_in c.in-Ok.calls) c.as_slice-input.result.now c.as_slice-answers.result.now
    files.input.items files.answers.items c.args.budgets c.args.out.now c.run_for_host-end.new.out c.finish_end.new.out c.run_for_host-end.result c.finish_end.result
    c.in-Ok.ensures.ok c.as_slice-input.ensures.value c.as_slice-answers.ensures.value c.requires.callable.never c.run_for_host-end.ensures c.finish_end.ensures
