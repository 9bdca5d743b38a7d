use Rattle.std.proofs.Common.{sym, subst}
use Rattle.vlt_core.specs.View.{program_of}
use Rattle.vlt_numbers.specs.Given.Given.{given_by}
use Rattle.vaultc_runs.specs.Finishes.{Finishes}
use Rattle.vaultc_runs.specs.Shown.{IsReplyToCaller}
use Rattle.vaultc_core.proofs.commands.run_accepted.Goals as goal

pub returns-in-Main : goal.returns-in-Main
returns-in-Main g c =
    let given = given_by c.args.files.now.input.items c.args.files.now.answers.items in
    subst (λ k. Finishes g.K.Sink (IsReplyToCaller k given c.args.budgets (program_of c.args.program.now)) c.args.out.now c.run_program.new.out c.run_program.result)
    (sym c.in-Main.is) c.run_program.ensures

pub returns-in-Host : goal.returns-in-Host
returns-in-Host g c =
    let given = given_by c.args.files.now.input.items c.args.files.now.answers.items in
    subst (λ k. Finishes g.K.Sink (IsReplyToCaller k given c.args.budgets (program_of c.args.program.now)) c.args.out.now c.run_host.new.out c.run_host.result)
    (sym c.in-Host.is) c.run_host.ensures
