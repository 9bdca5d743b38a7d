-- `verify` has one reply to a C file, and surely some.
use Rattle.std.proofs.Common.{◌≡◌, ◌⊎◌, inl, inr, ⊎_elim, ℕ, List, Option, Some, None, IfOk, IfSome, Result, Ok, Err, refl, sym, ap, ◌∙◌}
use Rattle.std.proofs.lemmas.Option.{same_Some}
use Rattle.std.specs.Option.{option_map}
use Rattle.std.specs.declared.alloc.AllocError.{AllocError}
use Rattle.vlt_base.specs.Sure.{Surely}
use Rattle.vlt_base.proofs.Surely.{so}
use Rattle.cert_verify.specs.Refusals.{Refusal, IsRefusal}
use Rattle.cert_verify.specs.Laws.{VerifiesInOneWay, VerifiesInSomeWay}
use Rattle.vaultc_runs.specs.declared.status.TheConstants.{DONE}
use Rattle.vaultc_runs.specs.declared.reply.Reply.{Reply as CodeReply}
use Rattle.vaultc_runs.specs.Lines.{Reply, reply}
use Rattle.vaultc_runs.specs.Shown.{shown_reply}
use Rattle.vaultc_replies.specs.Verifying.{verified_line, unverified_reply, IsReplyToVerify}

pub one_verify_reply : ((text : List ℕ) → VerifiesInOneWay text) → (text : List ℕ) (r q : Reply) → IsReplyToVerify text r → IsReplyToVerify text q → r ≡ q
one_verify_reply one text r q (inl (p, all, is, is_r)) (inl (p', all', is', is_q)) =
    is_r ∙ ap (λ p. reply DONE (verified_line p)) ((one text).one_program p p' all all' is is').0 ∙ sym is_q
one_verify_reply one text r q (inl (p, all, is, is_r)) (inr (x, refused, is_q)) = absurd ((one text).never_both p all x is refused)
one_verify_reply one text r q (inr (x, refused, is_r)) (inl (p, all, is, is_q)) = absurd ((one text).never_both p all x is refused)
one_verify_reply one text r q (inr (x, is, is_r)) (inr (y, also, is_q)) = is_r ∙ ap unverified_reply ((one text).one_refusal x y is also) ∙ sym is_q

pub some_verify_reply : ((text : List ℕ) → VerifiesInSomeWay text) → (text : List ℕ) → Surely ((r : Reply) × IsReplyToVerify text r)
some_verify_reply some text = so (some text) (⊎_elim
    (λ x. (reply DONE (verified_line x.0), inl (x.0, x.1, x.2, refl)))
    (λ x. (unverified_reply x.0, inr (x.0, x.1, refl))))

-- ---- the code's reply

no_reply : (r : Reply) → None ≡ Some r → ⊥
no_reply r e = cc

pub refusal_told : (text : List ℕ) (o : Option Refusal) (r : Result CodeReply AllocError) → IfSome o (IsRefusal text) →
    IfOk r (λ x. option_map unverified_reply o ≡ Some (shown_reply x)) → IfOk r (λ x. IsReplyToVerify text (shown_reply x))
refusal_told text o (Err e) refused told = tt
refusal_told text None (Ok x) refused told = absurd (no_reply (shown_reply x) told)
refusal_told text (Some y) (Ok x) refused told = inr (y, refused, sym (same_Some (unverified_reply y) (shown_reply x) told))
