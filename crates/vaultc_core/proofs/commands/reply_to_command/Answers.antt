use Rattle.std.proofs.Common.{[], Some, refl, sym, subst}
use Rattle.vlt_load.specs.Generated.{generated_text}
use Rattle.vaultc_words.specs.Commands.{load}
use Rattle.vaultc_words.specs.Sources.{had}
use Rattle.vaultc_runs.specs.Finishes.{Finishes}
use Rattle.vaultc_replies.specs.Replies.{IsReplyToMade, MayReply}
use Rattle.vaultc_runs.proofs.Finished.{finishes_as}
use Rattle.vaultc_words.specs.View.{seen_command}
use Rattle.vaultc_core.proofs.commands.reply_to_command.Goals as goal

pub returns-in-Text : goal.returns-in-Text
returns-in-Text g c =
    subst (λ k. Finishes g.K.Sink (MayReply g.S.Store c.args.store.now c.reply_to_file.new.store (Some (seen_command k))) c.args.out.now c.reply_to_file.new.out c.reply_to_file.result)
    (sym c.in-Text.is) c.reply_to_file.ensures

pub returns-in-Verify : goal.returns-in-Verify
returns-in-Verify g c =
    subst (λ k. Finishes g.K.Sink (MayReply g.S.Store c.args.store.now c.reply_to_verify.new.store (Some (seen_command k))) c.args.out.now c.reply_to_verify.new.out c.reply_to_verify.result)
    (sym c.in-Verify.is) c.reply_to_verify.ensures

pub returns-in-Run : goal.returns-in-Run
returns-in-Run g c =
    subst (λ k. Finishes g.K.Sink (MayReply g.S.Store c.args.store.now c.reply_to_run.new.store (Some (seen_command k))) c.args.out.now c.reply_to_run.new.out c.reply_to_run.result)
    (sym c.in-Run.is) c.reply_to_run.ensures

pub returns-in-C : goal.returns-in-C
returns-in-C g c =
    subst (λ k. Finishes g.K.Sink (MayReply g.S.Store c.args.store.now c.reply_to_c.new.store (Some (seen_command k))) c.args.out.now c.reply_to_c.new.out c.reply_to_c.result)
    (sym c.in-C.is) c.reply_to_c.ensures

pub returns-in-Load : goal.returns-in-Load
returns-in-Load g c =
    let n = c.in-Load.functions.count in
    let store = c.args.store.now in
    subst (λ k. Finishes g.K.Sink (MayReply g.S.Store store store (Some (seen_command k))) c.args.out.now c.load.new.out c.load.result) (sym c.in-Load.is)
    (finishes_as g.K.Sink (IsReplyToMade n (generated_text n)) (MayReply g.S.Store store store (Some (load n))) c.args.out.now c.load.new.out c.load.result
    (λ r is. (had [], (refl, refl), is)) c.load.ensures)

pub returns-in-Host : goal.returns-in-Host
returns-in-Host g c =
    subst (λ k. Finishes g.K.Sink (MayReply g.S.Store c.args.store.now c.reply_to_host.new.store (Some (seen_command k))) c.args.out.now c.reply_to_host.new.out c.reply_to_host.result)
    (sym c.in-Host.is) c.reply_to_host.ensures

pub returns-in-Module : goal.returns-in-Module
returns-in-Module g c =
    subst (λ k. Finishes g.K.Sink (MayReply g.S.Store c.args.store.now c.reply_to_module.new.store (Some (seen_command k))) c.args.out.now c.reply_to_module.new.out c.reply_to_module.result)
    (sym c.in-Module.is) c.reply_to_module.ensures

pub returns-in-Link : goal.returns-in-Link
returns-in-Link g c =
    subst (λ k. Finishes g.K.Sink (MayReply g.S.Store c.args.store.now c.reply_to_link.new.store (Some (seen_command k))) c.args.out.now c.reply_to_link.new.out c.reply_to_link.result)
    (sym c.in-Link.is) c.reply_to_link.ensures
