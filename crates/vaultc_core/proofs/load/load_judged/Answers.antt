use Rattle.vlt_core.specs.View.{program_of}
use Rattle.vlt_syntax.specs.View.{tree_of}
use Rattle.vaultc_replies.specs.Loads.{IsLoaded}
use Rattle.vaultc_replies.specs.Replies.{IsReplyToMade}
use Rattle.vaultc_runs.specs.Shown.{IsReplyOf}
use Rattle.vaultc_replies.proofs.Compilable.{compilable}
use Rattle.vaultc_runs.proofs.Finished.{finishes_as, reply_is}
use Rattle.vaultc_replies.proofs.Loads.{refused_load, accepted_load}
use Rattle.vaultc_replies.proofs.Runnable.{RunLaws, runnable}
use Rattle.vaultc_replies.proofs.Said.{accepted_program}
use Rattle.vaultc_core.proofs.load.load_judged.Goals as goal

pub compile_and_run-requires-clause-compilable : goal.compile_and_run-requires-clause-compilable
compile_and_run-requires-clause-compilable g c =
    let tree = tree_of c.args.tree.now in
    compilable c.programs_are_fit.ensures c.texts_have_text_trees.ensures c.args.made.now.text.items tree (program_of c.in-Some.program.now) c.requires.reads
    (accepted_program tree c.args.judged.now c.in-Some.program.now c.in-Some.ensures.some c.requires.is)

pub compile_and_run-requires-clause-runnable : goal.compile_and_run-requires-clause-runnable
compile_and_run-requires-clause-runnable g c =
    let tree = tree_of c.args.tree.now in
    let laws : RunLaws = record {
      fit = c.programs_are_fit.ensures;
      never = c.accepted_programs_go_right.ensures.never;
      calls = c.accepted_programs_know_their_calls.ensures;
      own = c.kinded_programs_name_their_own.ensures;
    } in
    runnable laws tree (program_of c.in-Some.program.now) c.requires.tree (accepted_program tree c.args.judged.now c.in-Some.program.now c.in-Some.ensures.some c.requires.is)

pub returns-in-Some : goal.returns-in-Some
returns-in-Some g c =
    let n = c.args.made.now.functions in
    let text = c.args.made.now.text.items in
    let tree = tree_of c.args.tree.now in
    let p = program_of c.in-Some.program.now in
    finishes_as g.K.Sink (IsLoaded n text p) (IsReplyToMade n text) c.args.out.now c.compile_and_run.new.out c.compile_and_run.result
    (accepted_load n text tree p c.requires.reads (accepted_program tree c.args.judged.now c.in-Some.program.now c.in-Some.ensures.some c.requires.is)) c.compile_and_run.ensures

pub returns-in-None : goal.returns-in-None
returns-in-None g c =
    let n = c.args.made.now.functions in
    let text = c.args.made.now.text.items in
    finishes_as g.K.Sink (IsReplyOf c.verdict.result) (IsReplyToMade n text) c.args.out.now c.finish_reply.new.out c.finish_reply.result
    (λ r is. reply_is (IsReplyToMade n text) c.verdict.result r
    (refused_load n text c.as_slice.result.now (tree_of c.args.tree.now) c.args.judged.now c.verdict.result c.as_slice.ensures.value c.requires.reads c.in-None.ensures.none c.requires.is c.verdict.ensures) is)
    c.finish_reply.ensures
