use Rattle.vlt_core.specs.View.{program_of}
use Rattle.vlt_core.specs.Core.{Program}
use Rattle.vlt_numbers.specs.Given.Given.{given_by}
use Rattle.vlt_syntax.specs.View.{tree_of}
use Rattle.vaultc_runs.specs.Lines.{Reply}
use Rattle.vaultc_replies.specs.Replies.{IsReplyToRunText}
use Rattle.vaultc_runs.specs.Shown.{IsReplyOf, IsReplyToCaller}
use Rattle.vaultc_runs.proofs.Finished.{finishes_as, reply_is}
use Rattle.vaultc_replies.proofs.Runnable.{RunLaws, HostLaws, runnable, runnable_for_hosts}
use Rattle.vaultc_replies.proofs.Said.{refused_run, accepted_run, accepted_program}
use Rattle.vaultc_core.proofs.commands.run_judged.Goals as goal

pub run_accepted-requires-clause-runnable : goal.run_accepted-requires-clause-runnable
run_accepted-requires-clause-runnable g c =
    let tree = tree_of c.args.tree.now in
    let laws : RunLaws = record {
      fit = c.programs_are_fit.ensures;
      never = c.accepted_programs_go_right.ensures.never;
      calls = c.accepted_programs_know_their_calls.ensures;
      own = c.kinded_programs_name_their_own.ensures;
    } in
    runnable laws tree (program_of c.in-Some.program.now) c.requires.tree (accepted_program tree c.args.judged.now c.in-Some.program.now c.in-Some.ensures.some c.requires.is)

pub run_accepted-requires-clause-callable : goal.run_accepted-requires-clause-callable
run_accepted-requires-clause-callable g c =
    let tree = tree_of c.args.tree.now in
    let laws : HostLaws = record {
      fit = c.programs_are_fit.ensures;
      never = c.hosts_of_accepted_programs_go_right.ensures.never;
      callable = c.accepted_programs_are_callable.ensures;
    } in
    runnable_for_hosts laws tree (program_of c.in-Some.program.now) c.requires.tree (accepted_program tree c.args.judged.now c.in-Some.program.now c.in-Some.ensures.some c.requires.is)

pub returns-in-Some : goal.returns-in-Some
returns-in-Some g c =
    let files = c.args.files.now in
    let tree = tree_of c.args.tree.now in
    let p = program_of c.in-Some.program.now in
    let given = given_by files.input.items files.answers.items in
    let P : Program → Reply → Type 0 = λ q r. IsReplyToCaller c.args.caller given c.args.budgets q r in
    finishes_as g.K.Sink (P p) (IsReplyToRunText P files.text.items) c.args.out.now c.run_accepted.new.out c.run_accepted.result
    (accepted_run P files.text.items tree p c.requires.reads (accepted_program tree c.args.judged.now c.in-Some.program.now c.in-Some.ensures.some c.requires.is)) c.run_accepted.ensures

pub returns-in-None : goal.returns-in-None
returns-in-None g c =
    let files = c.args.files.now in
    let given = given_by files.input.items files.answers.items in
    let P : Program → Reply → Type 0 = λ q r. IsReplyToCaller c.args.caller given c.args.budgets q r in
    finishes_as g.K.Sink (IsReplyOf c.verdict.result) (IsReplyToRunText P files.text.items) c.args.out.now c.finish_reply.new.out c.finish_reply.result
    (λ r is. reply_is (IsReplyToRunText P files.text.items) c.verdict.result r
    (refused_run P files.text.items c.as_slice.result.now (tree_of c.args.tree.now) c.args.judged.now c.verdict.result c.as_slice.ensures.value c.requires.reads c.in-None.ensures.none c.requires.is c.verdict.ensures) is)
    c.finish_reply.ensures
