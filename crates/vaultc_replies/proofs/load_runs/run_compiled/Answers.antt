use Rattle.std.proofs.Common.{refl, sym}
use Rattle.vlt_core.specs.View.{program_of}
use Rattle.vaultc_replies.specs.Loads.{IsReplyAfterEmit}
use Rattle.vaultc_runs.specs.Loading.{kept_bytes, kept_faults}
use Rattle.vaultc_runs.specs.Shown.{IsReplyOf}
use Rattle.vaultc_runs.proofs.Finished.{finishes_as, reply_is}
use Rattle.vaultc_replies.proofs.Loads.{ends_alone, done_said, run_otherwise}
use Rattle.vaultc_replies.proofs.load_runs.run_compiled.Goals as goal

pub returns-then-is_done : goal.returns-then-is_done
returns-then-is_done g c =
    let n = c.args.made.now.functions in
    let text = c.args.made.now.text.items in
    let p = program_of c.args.program.now in
    let emitted = c.args.emitted in
    let old = c.new-events.result in
    let new = c.run-end.new.out in
    let said = done_said n text p emitted (kept_bytes old) (kept_bytes new) (kept_faults old) (kept_faults new) c.run-end.result c.numbers.result
    (ends_alone p _ _ c.default_budgets.result _ _ c.run-end.result refl refl c.default_budgets.ensures c.run-end.ensures)
    c.new-events.ensures (sym c.if-is_done.ensures) c.bytes.result.now c.bytes.ensures c.numbers.ensures in
    finishes_as g.K.Sink (IsReplyOf c.numbers.result) (IsReplyAfterEmit n text p emitted) c.args.out.now c.finish_reply.new.out c.finish_reply.result
    (λ r is. reply_is (IsReplyAfterEmit n text p emitted) c.numbers.result r said is) c.finish_reply.ensures

pub returns : goal.returns
returns g c =
    let n = c.args.made.now.functions in
    let text = c.args.made.now.text.items in
    let p = program_of c.args.program.now in
    run_otherwise n text p c.args.emitted g.K.Sink c.args.out.now c.finish_end.new.out c.finish_end.result _ _ c.run-end.result
    (ends_alone p _ _ c.default_budgets.result _ _ c.run-end.result refl refl c.default_budgets.ensures c.run-end.ensures)
    (sym c.if-is_done.ensures) (sym c.if-is_cut.ensures) c.finish_end.ensures
