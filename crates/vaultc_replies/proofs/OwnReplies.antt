-- Which statuses a command's replies to the bytes of its files have.
use Rattle.std.proofs.Common.{◌≡◌, inl, inr, ℕ, Bool, true, false, if◌then◌else◌, List, length, arith}
use Rattle.std.specs.Prelude.{nat_lt, Result, Ok, Err}
use Rattle.vlt_base.specs.Limits.{limit_of}
use Rattle.vlt_base.specs.declared.limits.TheConstants.{C_BYTES}
use Rattle.vlt_base.specs.declared.Budgets.{Budgets}
use Rattle.vlt_core.specs.Core.{Program}
use Rattle.vlt_meaning.specs.World.{event_text}
use Rattle.vlt_numbers.specs.Given.Given.{Given, given_by}
use Rattle.vlt_host_meaning.specs.Calls.{HostCall}
use Rattle.vlt_host.specs.CallsFile.{calls_of}
use Rattle.vlt_elaboration.specs.Elaboration.{broken, exceeded}
use Rattle.vlt_syntax.specs.Tree.{Tree}
use Rattle.vlt_verdict.specs.Verdicts as verdict
use Rattle.vlt_verdict.specs.Verdicts.{Verdict}
use Rattle.c_reader.specs.declared.error.CError.{CError}
use Rattle.c_reader.specs.declared.error.CError.TheVariants as error
use Rattle.vaultc_words.specs.Sources.{bytes_at}
use Rattle.vaultc_runs.specs.declared.status.TheConstants.{DONE}
use Rattle.vaultc_words.specs.Commands.{Command, check, explain, run, fmt, emit, verify, crun, load, host, modules, link}
use Rattle.vaultc_runs.specs.Lines.{Reply, reply, over_reply}
use Rattle.vaultc_replies.specs.Replies.{IsReplyToVerdict, IsReplyToTree, IsReplyToText, IsReplyToRunText, IsReplyToMade, IsReplyToContents}
use Rattle.vaultc_runs.specs.Runs.{IsReplyToProgram}
use Rattle.vaultc_runs.specs.HostRuns.{IsReplyToHost}
use Rattle.vaultc_replies.specs.Verdicts.{check_reply, IsExplained}
use Rattle.vaultc_replies.specs.Emitted.{c_file, IsReplyToCompiled}
use Rattle.vaultc_replies.specs.Verifying.{unread_reply, unverified_reply, IsReplyToVerify}
use Rattle.cert_verify.specs.Refusals as unverified
use Rattle.vlt_iface.specs.View.{View}
use Rattle.vlt_iface.specs.Told as told
use Rattle.vaultc_replies.specs.Modules.{File, file_with, module_line, IsReplyByTreeIn, IsReplyToNoView, IsReplyToViewVerdict, IsReplyToView, IsReplyToModule, IsReplyToJoined, IsReplyToLink}
use Rattle.vaultc_replies.specs.Loads.{load_reply, Then, run_alone, IsReplyAfterEmit, IsReplyToLoaded}
use Rattle.vlt_load.specs.Generated.{generated_text}
use Rattle.vaultc_runs.proofs.Own.{IsOwn, own_zero, own, own_as, own_outcome, own_program, own_host, own_refusal, own_c}

-- ---- texts

own_verdict : (text : List ℕ) (v : Verdict) → IsOwn (check_reply text v).status
own_verdict text (verdict.refused (broken rule at)) = own 7 (omega arith)
own_verdict text (verdict.refused (exceeded n)) = own 5 (omega arith)
own_verdict text (verdict.faulty p f x) = own 8 (omega arith)
own_verdict text (verdict.accepted p) = own_zero

own_text_or_limit : (b : Bool) (text : List ℕ) → IsOwn (if b then over_reply C_BYTES else reply DONE text).status
own_text_or_limit true text = own 5 (omega arith)
own_text_or_limit false text = own_zero

own_emitted : (text : List ℕ) (v : Verdict) (r : Reply) → IsReplyToCompiled text v r → IsOwn r.status
own_emitted text (verdict.refused x) r is = own_as r _ is (own_verdict text (verdict.refused x))
own_emitted text (verdict.faulty p f x) r is = own_as r _ is (own_verdict text (verdict.faulty p f x))
own_emitted text (verdict.accepted p) r (notes, least, is) = own_as r _ is (own_text_or_limit (nat_lt (limit_of C_BYTES) (length (c_file p notes))) (c_file p notes))

-- ---- texts that are run; P has the replies to accepted programs

own_judged : (P : Program → Reply → Type 0) → ((p : Program) (r : Reply) → P p r → IsOwn r.status) → (text : List ℕ) (v : Verdict) (r : Reply) → IsReplyToVerdict P text v r → IsOwn r.status
own_judged P owns text (verdict.refused x) r is = own_as r _ is (own_verdict text (verdict.refused x))
own_judged P owns text (verdict.faulty p f x) r is = own_as r _ is (own_verdict text (verdict.faulty p f x))
own_judged P owns text (verdict.accepted p) r is = owns p r is

own_explained : (text : List ℕ) (t : Tree) (v : Verdict) (r : Reply) → IsExplained text t v r → IsOwn r.status
own_explained text t (verdict.refused x) r is = own_as r _ is (own_verdict text (verdict.refused x))
own_explained text t (verdict.faulty p f x) r (first, second, shows, is) = own_as r _ is (own 8 (omega arith))
own_explained text t (verdict.accepted p) r is = own_as r _ is own_zero

own_tree : (command : Command) (text : List ℕ) (t : Tree) (r : Reply) → IsReplyToTree command text t r → IsOwn r.status
own_tree (check file) text t r (v, judged, is) = own_as r _ is (own_verdict text v)
own_tree (explain file) text t r (v, judged, is) = own_explained text t v r is
own_tree (verify file) text t r is = absurd is
own_tree (run file taken) text t r is = absurd is
own_tree (fmt file) text t r is = own_as r _ is own_zero
own_tree (emit file) text t r (v, judged, is) = own_emitted text v r is
own_tree (crun file taken) text t r is = absurd is
own_tree (load n) text t r is = absurd is
own_tree (host file calls taken) text t r is = absurd is
own_tree (modules interface file) text t r is = absurd is
own_tree (link interface first second) text t r is = absurd is

own_text : (command : Command) (text : List ℕ) (r : Reply) → IsReplyToText command text r → IsOwn r.status
own_text command text r (inl (e, refused, is)) = own_as r _ is (own_refusal text e)
own_text command text r (inr (t, reads, is)) = own_tree command text t r is

own_run : (P : Program → Reply → Type 0) → ((p : Program) (r : Reply) → P p r → IsOwn r.status) → (text : List ℕ) (r : Reply) → IsReplyToRunText P text r → IsOwn r.status
own_run P owns text r (inl (e, refused, is)) = own_as r _ is (own_refusal text e)
own_run P owns text r (inr (t, reads, (v, judged, is))) = own_judged P owns text v r is

own_run_text : (given : Given) (b : Budgets) (text : List ℕ) (r : Reply) → IsReplyToRunText (λ p q. IsReplyToProgram p given b q) text r → IsOwn r.status
own_run_text given b text r is = own_run (λ p q. IsReplyToProgram p given b q) (λ p q of. own_program p given b q of) text r is

own_host_text : (asked : Result (List HostCall) ℕ) (given : Given) (b : Budgets) (text : List ℕ) (r : Reply) →
    IsReplyToRunText (λ p q. IsReplyToHost p asked given b q) text r → IsOwn r.status
own_host_text asked given b text r is = own_run (λ p q. IsReplyToHost p asked given b q) (λ p q of. own_host p asked given b q of) text r is

-- ---- C files

own_unread : (e : CError) → IsOwn (unread_reply e).status
own_unread (error.Unexpected at) = own 12 (omega arith)
own_unread error.EndOfText = own 12 (omega arith)
own_unread (error.Kind rule at) = own 12 (omega arith)
own_unread (error.Limit n) = own 5 (omega arith)
own_unread error.Memory = own 12 (omega arith)

own_unverified : (x : unverified.Refusal) → IsOwn (unverified_reply x).status
own_unverified (unverified.unread e) = own_unread e
own_unverified unverified.no_certificate = own 12 (omega arith)
own_unverified (unverified.kind rule) = own 12 (omega arith)
own_unverified (unverified.local first) = own 12 (omega arith)
own_unverified (unverified.not_lowered n) = own 12 (omega arith)

own_verify : (text : List ℕ) (r : Reply) → IsReplyToVerify text r → IsOwn r.status
own_verify text r (inl (p, notes, is, same)) = own_as r _ same own_zero
own_verify text r (inr (x, is, same)) = own_as r _ same (own_unverified x)

-- ---- texts that are loaded

own_then : (step : Reply) (Next : Reply → Type 0) (r : Reply) → IsOwn step.status → ((q : Reply) → Next q → IsOwn q.status) → Then step Next r → IsOwn r.status
own_then step Next r first next (inl x) = own_as r step x.1 first
own_then step Next r first next (inr x) = next r x.1

own_after_emit : (n : ℕ) (text : List ℕ) (p : Program) (emitted : ℕ) (r : Reply) → IsReplyAfterEmit n text p emitted r → IsOwn r.status
own_after_emit n text p emitted r (inl (wide, same)) = own_as r _ same (own 5 (omega arith))
own_after_emit n text p emitted r (inr (fits, (last, of, after))) =
    let told = load_reply n text p emitted (event_text (run_alone p).world.events) in
    own_then last (λ q. q ≡ told) r (own_outcome (run_alone p).outcome last of) (λ q is. own_as q told is own_zero) after

own_loaded : (n : ℕ) (text : List ℕ) (v : Verdict) (r : Reply) → IsReplyToLoaded n text v r → IsOwn r.status
own_loaded n text (verdict.refused x) r is = own_as r _ is (own_verdict text (verdict.refused x))
own_loaded n text (verdict.faulty p f x) r is = own_as r _ is (own_verdict text (verdict.faulty p f x))
own_loaded n text (verdict.accepted p) r (file, written, after) =
    own_then file (IsReplyAfterEmit n text p (length file.text)) r (own_emitted text (verdict.accepted p) file written) (own_after_emit n text p (length file.text)) after

own_made : (n : ℕ) (text : List ℕ) (r : Reply) → IsReplyToMade n text r → IsOwn r.status
own_made n text r (inl (e, refused, is)) = own_as r _ is (own_refusal text e)
own_made n text r (inr (t, reads, (v, judged, is))) = own_loaded n text v r is

-- ---- modules

own_by_tree_in : (f : File) (P : Tree → Reply → Type 0) → ((t : Tree) (r : Reply) → P t r → IsOwn r.status) → (r : Reply) → IsReplyByTreeIn f P r → IsOwn r.status
own_by_tree_in f P own_of r (inl (e, refused, is)) = own_as r _ is (own_refusal f.bytes e)
own_by_tree_in f P own_of r (inr (t, reads, is)) = own_of t r is

own_no_view : (i m : File) (e : told.Told) (r : Reply) → IsReplyToNoView i m e r → IsOwn r.status
own_no_view i m (told.broken rule place) r is = own_as r _ is (own 7 (omega arith))
own_no_view i m (told.exceeded n) r is = own_as r _ is (own 5 (omega arith))
own_no_view i m (told.clash name) r is = absurd is

own_view_verdict : (i m : File) (P : Program → Reply → Type 0) → ((p : Program) (r : Reply) → P p r → IsOwn r.status) → (v : Verdict) (r : Reply) → IsReplyToViewVerdict i m P v r → IsOwn r.status
own_view_verdict i m P own_of (verdict.refused (broken rule at)) r is = own_as r _ is (own 7 (omega arith))
own_view_verdict i m P own_of (verdict.refused (exceeded n)) r is = own_as r _ is (own 5 (omega arith))
own_view_verdict i m P own_of (verdict.faulty p f x) r is = own_as r _ is (own 8 (omega arith))
own_view_verdict i m P own_of (verdict.accepted p) r is = own_of p r is

own_view : (i m : File) (with_main : Bool) (P : Program → Reply → Type 0) → ((p : Program) (r : Reply) → P p r → IsOwn r.status) → (x : Result View told.Told) (r : Reply) →
    IsReplyToView i m with_main P x r → IsOwn r.status
own_view i m with_main P own_of (Err e) r is = own_no_view i m e r is
own_view i m with_main P own_of (Ok v) r (w, of_view, is) = own_view_verdict i m P own_of w r is

own_module : (i m : File) (r : Reply) → IsReplyToModule i m r → IsOwn r.status
own_module i m r is =
    let Counted : Program → Reply → Type 0 = λ p q. q ≡ reply DONE (module_line p) in
    let OfView : Tree → Tree → Reply → Type 0 = λ t u q. IsReplyToView i m false Counted (told.view_told t u) q in
    own_by_tree_in i (λ t q. IsReplyByTreeIn m (OfView t) q)
    (λ t q at_i. own_by_tree_in m (OfView t) (λ u a at_m. own_view i m false Counted (λ p b same. own_as b (reply DONE (module_line p)) same own_zero) (told.view_told t u) a at_m) q at_i) r is

own_joined : (x : Result Tree told.Told) (r : Reply) → IsReplyToJoined x r → IsOwn r.status
own_joined (Err (told.clash name)) r is = own_as r _ is (own 7 (omega arith))
own_joined (Err (told.exceeded n)) r is = own_as r _ is (own 5 (omega arith))
own_joined (Err (told.broken rule place)) r is = absurd is
own_joined (Ok t) r (p, gives, (notes, least, is)) = own_as r _ is (own_text_or_limit (nat_lt (limit_of C_BYTES) (length (c_file p notes))) (c_file p notes))

own_link : (i f g : File) (r : Reply) → IsReplyToLink i f g r → IsOwn r.status
own_link i f g r is =
    let Joined : Tree → Tree → Tree → Program → Reply → Type 0 = λ t u v p q. IsReplyToJoined (told.joined_told t u v) q in
    let Second : Tree → Tree → Tree → Program → Reply → Type 0 = λ t u v p q. IsReplyToView i g true (Joined t u v) (told.view_told t v) q in
    let First : Tree → Tree → Tree → Reply → Type 0 = λ t u v q. IsReplyToView i f false (Second t u v) (told.view_told t u) q in
    own_by_tree_in i (λ t q. IsReplyByTreeIn f (λ u a. IsReplyByTreeIn g (λ v b. First t u v b) a) q)
    (λ t q at_i. own_by_tree_in f (λ u a. IsReplyByTreeIn g (λ v b. First t u v b) a)
    (λ u a at_f. own_by_tree_in g (λ v b. First t u v b)
    (λ v b at_g. own_view i f false (Second t u v)
    (λ p c first. own_view i g true (Joined t u v) (λ o d second. own_joined (told.joined_told t u v) d second) (told.view_told t v) c first) (told.view_told t u) b at_g) a at_f) q at_i) r is

-- ---- commands

pub own_reply : (command : Command) (contents : List (List ℕ)) (r : Reply) → IsReplyToContents command contents r → IsOwn r.status
own_reply (check file) contents r is = own_text (check file) (bytes_at contents 0) r is
own_reply (explain file) contents r is = own_text (explain file) (bytes_at contents 0) r is
own_reply (verify file) contents r is = own_verify (bytes_at contents 0) r is
own_reply (run file taken) contents r is =
    own_run_text (given_by (bytes_at contents 1) (bytes_at contents 2)) taken.budgets (bytes_at contents 0) r is
own_reply (fmt file) contents r is = own_text (fmt file) (bytes_at contents 0) r is
own_reply (emit file) contents r is = own_text (emit file) (bytes_at contents 0) r is
own_reply (crun file taken) contents r is = own_c (bytes_at contents 0) (bytes_at contents 1) (bytes_at contents 2) taken.budgets r is
own_reply (load n) contents r is = own_made n (generated_text n) r is
own_reply (host file calls taken) contents r is =
    own_host_text (calls_of (bytes_at contents 1)) (given_by (bytes_at contents 2) (bytes_at contents 3)) taken.budgets (bytes_at contents 0) r is
own_reply (modules interface file) contents r is = own_module (file_with interface (bytes_at contents 0)) (file_with file (bytes_at contents 1)) r is
own_reply (link interface first second) contents r is =
    own_link (file_with interface (bytes_at contents 0)) (file_with first (bytes_at contents 1)) (file_with second (bytes_at contents 2)) r is
