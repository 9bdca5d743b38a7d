use Rattle.std.proofs.Common.{◌≡◌, Err, sym, subst, rules, arith}
use Rattle.std.proofs.lemmas.Grind.{common_steps}
use Rattle.std.specs.Prelude.{IfErr}
use Rattle.vlt_core.specs.View.{program_of}
use Rattle.vaultc_replies.specs.Modules.{IsReplyToModule}
use Rattle.vaultc_replies.specs.ModuleSteps.{Replies, file_seen}
use Rattle.vaultc_runs.specs.Shown.{shown_reply}
use Rattle.vaultc_replies.proofs.ModuleSteps.{own_refused, module_untested, module_tested}
use Rattle.vaultc_replies.proofs.modules.module_steps.Goals as goal

pub returns-in_err-own-clause-refused : goal.returns-in_err-own-clause-refused
returns-in_err-own-clause-refused c =
    let x = c.in_ok-interface.interface in
    let m = file_seen c.args.own in
    let e = c.in_err-own.field-0.0 in
    let is : c.from_residual-in_err-own.result ≡ Err e = first_of (search rules, grind (arith, common_steps)) in
    subst (λ r. IfErr r (Replies (IsReplyToModule (file_seen c.args.interface) m))) (sym is)
    (subst (λ t. Replies (IsReplyToModule (file_seen t) m) e) c.in_ok-interface.ensures.same
    (own_refused x c.in_ok-interface.ensures.ok m e c.in_err-own.ensures.refused))

pub returns-in_err-program-clause-refused : goal.returns-in_err-program-clause-refused
returns-in_err-program-clause-refused c =
    let x = c.in_ok-interface.interface in
    let y = c.in_ok-own.own in
    let e = c.in_err-program.field-0.0 in
    let is : c.from_residual-in_err-program.result ≡ Err e = first_of (search rules, grind (arith, common_steps)) in
    subst (λ r. IfErr r (Replies (IsReplyToModule (file_seen c.args.interface) (file_seen c.args.own)))) (sym is)
    (subst (λ t. Replies (IsReplyToModule (file_seen t) (file_seen c.args.own)) e) c.in_ok-interface.ensures.same
    (subst (λ t. Replies (IsReplyToModule (file_seen x.text) (file_seen t)) e) c.in_ok-own.ensures.same
    (module_untested x y c.in_ok-interface.ensures.ok c.in_ok-own.ensures.ok e c.in_err-program.ensures.refused)))

pub returns-clause-ok : goal.returns-clause-ok
returns-clause-ok c =
    let x = c.in_ok-interface.interface in
    let y = c.in_ok-own.own in
    let r = shown_reply c.in_ok-module_line.field-0 in
    subst (λ t. IsReplyToModule (file_seen t) (file_seen c.args.own) r) c.in_ok-interface.ensures.same
    (subst (λ t. IsReplyToModule (file_seen x.text) (file_seen t) r) c.in_ok-own.ensures.same
    (module_tested x y c.in_ok-interface.ensures.ok c.in_ok-own.ensures.ok (program_of c.in_ok-program.program) r c.in_ok-program.ensures.ok c.in_ok-module_line.ensures))
