use Rattle.vlt_core.specs.View.{program_of}
use Rattle.vaultc_runs.proofs.RunEnded.{run_ended}
use Rattle.vaultc_runs.proofs.runs.run_program.Goals as goal

pub returns : goal.returns
returns g c =
    let files = c.args.files.now in
    run_ended g.K.Sink (program_of c.args.program.now) c.as_slice-input.result.now c.as_slice-answers.result.now files.input.items files.answers.items c.args.budgets
    c.args.out.now c.run-end.new.out c.finish_end.new.out c.run-end.result c.finish_end.result
    c.as_slice-input.ensures.value c.as_slice-answers.ensures.value c.requires.runnable.never c.run-end.ensures c.finish_end.ensures
