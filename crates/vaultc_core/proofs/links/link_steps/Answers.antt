use Rattle.std.proofs.Common.{◌≡◌, Err, sym, subst, rules, arith}
use Rattle.std.proofs.lemmas.Grind.{common_steps}
use Rattle.std.specs.Prelude.{IfOk, IfErr}
use Rattle.vaultc_replies.specs.Modules.{IsReplyToLink}
use Rattle.vaultc_replies.specs.ModuleSteps.{Replies, file_seen}
use Rattle.vaultc_runs.specs.Shown.{shown_reply}
use Rattle.vaultc_replies.proofs.ModuleSteps.{first_refused, second_refused}
use Rattle.vaultc_core.proofs.links.link_steps.Goals as goal

pub returns-in_err-first-clause-refused : goal.returns-in_err-first-clause-refused
returns-in_err-first-clause-refused c =
    let x = c.in_ok-interface.interface in
    let f = file_seen c.args.first in
    let g = file_seen c.args.second in
    let e = c.in_err-first.field-0.0 in
    let is : c.from_residual-in_err-first.result ≡ Err e = first_of (search rules, grind (arith, common_steps)) in
    subst (λ r. IfErr r (Replies (IsReplyToLink (file_seen c.args.interface) f g))) (sym is)
    (subst (λ t. Replies (IsReplyToLink (file_seen t) f g) e) c.in_ok-interface.ensures.same
    (first_refused x c.in_ok-interface.ensures.ok f g e c.in_err-first.ensures.refused))

pub returns-in_err-second-clause-refused : goal.returns-in_err-second-clause-refused
returns-in_err-second-clause-refused c =
    let x = c.in_ok-interface.interface in
    let y = c.in_ok-first.first in
    let g = file_seen c.args.second in
    let e = c.in_err-second.field-0.0 in
    let is : c.from_residual-in_err-second.result ≡ Err e = first_of (search rules, grind (arith, common_steps)) in
    subst (λ r. IfErr r (Replies (IsReplyToLink (file_seen c.args.interface) (file_seen c.args.first) g))) (sym is)
    (subst (λ t. Replies (IsReplyToLink (file_seen t) (file_seen c.args.first) g) e) c.in_ok-interface.ensures.same
    (subst (λ t. Replies (IsReplyToLink (file_seen x.text) (file_seen t) g) e) c.in_ok-first.ensures.same
    (second_refused x y c.in_ok-interface.ensures.ok c.in_ok-first.ensures.ok g e c.in_err-second.ensures.refused)))

pub returns-clause-ok : goal.returns-clause-ok
returns-clause-ok c =
    let x = c.in_ok-interface.interface in
    let y = c.in_ok-first.first in
    subst (λ t. IfOk c.link_parsed.result (λ r. IsReplyToLink (file_seen t) (file_seen c.args.first) (file_seen c.args.second) (shown_reply r))) c.in_ok-interface.ensures.same
    (subst (λ t. IfOk c.link_parsed.result (λ r. IsReplyToLink (file_seen x.text) (file_seen t) (file_seen c.args.second) (shown_reply r))) c.in_ok-first.ensures.same
    (subst (λ t. IfOk c.link_parsed.result (λ r. IsReplyToLink (file_seen x.text) (file_seen y.text) (file_seen t) (shown_reply r))) c.in_ok-second.ensures.same
    c.link_parsed.ensures.ok))

pub returns-clause-refused : goal.returns-clause-refused
returns-clause-refused c =
    let x = c.in_ok-interface.interface in
    let y = c.in_ok-first.first in
    subst (λ t. IfErr c.link_parsed.result (Replies (IsReplyToLink (file_seen t) (file_seen c.args.first) (file_seen c.args.second)))) c.in_ok-interface.ensures.same
    (subst (λ t. IfErr c.link_parsed.result (Replies (IsReplyToLink (file_seen x.text) (file_seen t) (file_seen c.args.second)))) c.in_ok-first.ensures.same
    (subst (λ t. IfErr c.link_parsed.result (Replies (IsReplyToLink (file_seen x.text) (file_seen y.text) (file_seen t)))) c.in_ok-second.ensures.same
    c.link_parsed.ensures.refused))
