-- A command has one reply to what it read.
use Rattle.std.proofs.Common.{◌≡◌, inl, inr, ℕ, ℤ, ◌++◌, List, Option, Some, None, Result, Ok, Err, refl, sym, ap, ◌∙◌, subst}
use Rattle.vlt_base.specs.declared.Budgets.{Budgets}
use Rattle.vlt_io.specs.Outside.{Files}
use Rattle.vlt_core.specs.Core.{Program}
use Rattle.vlt_meaning.specs.World.{Ran, event_text}
use Rattle.vlt_meaning.specs.Run as meaning
use Rattle.vlt_syntax.specs.Tree.{Tree}
use Rattle.vlt_fit_laws.specs.Fit.{IsTextTree}
use Rattle.vlt_fit_laws.specs.Texts.{TextsHaveTextTrees}
use Rattle.vlt_numbers.specs.Given.Given.{Given, numbers, bad_input, bad_answers, given_by}
use Rattle.vlt_host_meaning.specs.Calls.{HostCall}
use Rattle.vlt_host_meaning.specs.HostRun.{HostRan, host_run}
use Rattle.vlt_host.specs.CallsFile.{calls_of}
use Rattle.vlt_verdict.specs.Verdicts.{Verdict, IsVerdictOf}
use Rattle.vlt_verdict.specs.Laws.{HasOneVerdict}
use Rattle.vlt_verdict.specs.Verdicts as verdict
use Rattle.vaultc_words.specs.Commands.{Command, check, explain, run, fmt, emit, verify, crun, load, host, modules, link}
use Rattle.vaultc_words.specs.Sources.{Read, had, unread, too_long, sources_of, read_in, bytes_at}
use Rattle.vaultc_runs.specs.Lines.{Reply, reply, following}
use Rattle.vaultc_runs.specs.Texts.{IsTextOf, refusal_reply}
use Rattle.vaultc_runs.specs.declared.status.TheConstants.{NOT_ACCEPTED}
use Rattle.vaultc_replies.specs.Verdicts.{check_reply, IsExplained}
use Rattle.vaultc_replies.specs.Emitted.{IsReplyToCompiled}
use Rattle.vlt_load.specs.Generated.{generated_text}
use Rattle.vaultc_replies.specs.Loads.{IsReplyToLoaded}
use Rattle.cert_least_laws.specs.Laws.{LeastCertificatesAreOne}
use Rattle.vaultc_runs.specs.Runs.{IsReplyToRan, IsReplyOverNumbers, IsReplyToProgram}
use Rattle.vaultc_runs.specs.HostRuns.{IsReplyToHostRan, IsReplyToCallsOver, IsReplyToCalls, IsReplyToHost}
use Rattle.vaultc_replies.specs.Replies.{IsReplyToVerdict, IsReplyToTree, IsReplyByTree, IsReplyToText, IsReplyToRunText, IsReplyToMade, IsReplyToContents, IsReplyToRead, IsReplyToCommand, GoesOn, AreAlike}
use Rattle.c_reader_laws.specs.Laws.{IsReadInOneWay}
use Rattle.cert_verify.specs.Laws.{VerifiesInOneWay}
use Rattle.vaultc_runs.proofs.CReplies.{one_c_reply}
use Rattle.vaultc_replies.proofs.VReplies.{one_verify_reply}
use Rattle.vaultc_replies.proofs.Loads.{one_emitted, one_loaded}
use Rattle.vaultc_replies.proofs.Read.{text_tree, one_text, refusals_alike, text_not_refused}
use Rattle.vlt_view_verdict.specs.Laws.{ViewsHaveOneVerdict}
use Rattle.vaultc_replies.specs.Modules.{file_with}
use Rattle.vaultc_replies.proofs.OneModules.{one_module, one_link}

-- ---- replies to a tree

same_last : (r q : Reply) → Some r ≡ Some q → r ≡ q
same_last r q e = cc

one_of_ran : (ran : Ran) (r q : Reply) → IsReplyToRan ran r → IsReplyToRan ran q → r ≡ q
one_of_ran ran r q (k, of_k, is_r) (l, of_l, is_q) =
    is_r ∙ ap (following (event_text ran.world.events)) (same_last k l (sym of_k ∙ of_l)) ∙ sym is_q

one_over_numbers : (p : Program) (input : List ℤ) (answers : List (List ℤ)) (b : Budgets) (r q : Reply) →
    IsReplyOverNumbers p input answers b r → IsReplyOverNumbers p input answers b q → r ≡ q
one_over_numbers p input answers b r q (inl x) (inl y) = x.1 ∙ sym y.1
one_over_numbers p input answers b r q (inl x) (inr y) = absurd (y.0 x.0)
one_over_numbers p input answers b r q (inr x) (inl y) = absurd (x.0 y.0)
one_over_numbers p input answers b r q (inr x) (inr y) = one_of_ran (meaning.run p b.fuel b.heap b.depth input answers) r q x.1 y.1

one_of_program : (p : Program) (given : Given) (b : Budgets) (r q : Reply) → IsReplyToProgram p given b r → IsReplyToProgram p given b q → r ≡ q
one_of_program p (numbers input answers) b r q x y = one_over_numbers p input answers b r q x y
one_of_program p (bad_input line) b r q x y = x ∙ sym y
one_of_program p (bad_answers line) b r q x y = x ∙ sym y

one_of_host_ran : (ran : HostRan) (r q : Reply) → IsReplyToHostRan ran r → IsReplyToHostRan ran q → r ≡ q
one_of_host_ran ran r q (k, of_k, is_r) (l, of_l, is_q) =
    is_r ∙ ap (following ran.text) (same_last k l (sym of_k ∙ of_l)) ∙ sym is_q

one_of_calls_over : (p : Program) (calls : List HostCall) (input : List ℤ) (answers : List (List ℤ)) (b : Budgets) (r q : Reply) →
    IsReplyToCallsOver p calls input answers b r → IsReplyToCallsOver p calls input answers b q → r ≡ q
one_of_calls_over p calls input answers b r q (inl x) (inl y) = x.1 ∙ sym y.1
one_of_calls_over p calls input answers b r q (inl x) (inr y) = absurd (y.0 x.0)
one_of_calls_over p calls input answers b r q (inr x) (inl y) = absurd (x.0 y.0)
one_of_calls_over p calls input answers b r q (inr x) (inr y) = one_of_host_ran (host_run p b.fuel b.heap b.depth input answers calls) r q x.1 y.1

one_of_calls : (p : Program) (calls : List HostCall) (given : Given) (b : Budgets) (r q : Reply) → IsReplyToCalls p calls given b r → IsReplyToCalls p calls given b q → r ≡ q
one_of_calls p calls (numbers input answers) b r q x y = one_of_calls_over p calls input answers b r q x y
one_of_calls p calls (bad_input line) b r q x y = x ∙ sym y
one_of_calls p calls (bad_answers line) b r q x y = x ∙ sym y

one_of_host : (p : Program) (calls : Result (List HostCall) ℕ) (given : Given) (b : Budgets) (r q : Reply) → IsReplyToHost p calls given b r → IsReplyToHost p calls given b q → r ≡ q
one_of_host p (Ok calls) given b r q x y = one_of_calls p calls given b r q x y
one_of_host p (Err line) given b r q x y = x ∙ sym y

-- where an accepted program has one reply, a verdict has
one_of_verdict : (P : Program → Reply → Type 0) → ((p : Program) (r q : Reply) → P p r → P p q → r ≡ q) → (text : List ℕ) (v : Verdict) (r q : Reply) →
    IsReplyToVerdict P text v r → IsReplyToVerdict P text v q → r ≡ q
one_of_verdict P one text (verdict.refused x) r q p n = p ∙ sym n
one_of_verdict P one text (verdict.faulty p f x) r q a n = a ∙ sym n
one_of_verdict P one text (verdict.accepted p) r q a n = one p r q a n

one_of_compiled : LeastCertificatesAreOne → (text : List ℕ) (v : Verdict) (r q : Reply) → IsReplyToCompiled text v r → IsReplyToCompiled text v q → r ≡ q
one_of_compiled one text (verdict.refused x) r q p n = p ∙ sym n
one_of_compiled one text (verdict.faulty p f x) r q a n = a ∙ sym n
one_of_compiled one text (verdict.accepted p) r q a n = one_emitted one p r q a n

-- ---- replies that are alike

same_alike : (command : Command) (x : Read) (r q : Reply) → r ≡ q → AreAlike command x r q
same_alike (check file) x r q e = e
same_alike (explain file) x r q e = inl e
same_alike (run file b) x r q e = e
same_alike (fmt file) x r q e = e
same_alike (emit file) x r q e = e
same_alike (verify file) x r q e = e
same_alike (crun file taken) x r q e = e
same_alike (load n) x r q e = e
same_alike (host file calls taken) x r q e = e
same_alike (modules interface file) x r q e = e
same_alike (link interface first second) x r q e = e

alike_status : (command : Command) (x : Read) (r q : Reply) → AreAlike command x r q → r.status ≡ q.status
alike_status (check file) x r q e = ap (λ z. z.status) e
alike_status (explain file) x r q (inl e) = ap (λ z. z.status) e
alike_status (explain file) x r q (inr (line, is, status, a, b)) = a.0 ∙ sym b.0
alike_status (run file b) x r q e = ap (λ z. z.status) e
alike_status (fmt file) x r q e = ap (λ z. z.status) e
alike_status (emit file) x r q e = ap (λ z. z.status) e
alike_status (verify file) x r q e = ap (λ z. z.status) e
alike_status (crun file taken) x r q e = ap (λ z. z.status) e
alike_status (load n) x r q e = ap (λ z. z.status) e
alike_status (host file calls taken) x r q e = ap (λ z. z.status) e
alike_status (modules interface file) x r q e = ap (λ z. z.status) e
alike_status (link interface first second) x r q e = ap (λ z. z.status) e

goes_on : (line more : List ℕ) (r : Reply) → r ≡ reply NOT_ACCEPTED (line ++ more) → GoesOn (reply NOT_ACCEPTED line) r
goes_on line more r e = (ap (λ z. z.status) e, (more, ap (λ z. z.text) e))

-- `explain` may tell the one path or the other
explained_alike : (file : List ℕ) (contents : List (List ℕ)) (t : Tree) (v : Verdict) (r q : Reply) → IsTextOf t (bytes_at contents 0) → IsVerdictOf t v →
    IsExplained (bytes_at contents 0) t v r → IsExplained (bytes_at contents 0) t v q → AreAlike (explain file) (had contents) r q
explained_alike file contents t (verdict.refused x) r q reads is a b = inl (a ∙ sym b)
explained_alike file contents t (verdict.accepted p) r q reads is a b = inl (a ∙ sym b)
explained_alike file contents t (verdict.faulty p f x) r q reads is (first, second, shows, a) (first', second', shows', b) =
    let line = check_reply (bytes_at contents 0) (verdict.faulty p f x) in
    inr (line, inr (t, reads, (verdict.faulty p f x, is, refl)), refl, goes_on line.text _ r a, goes_on line.text _ q b)

-- what is known of trees, of texts and by the verdicts on them, of C texts, of certificates, of C files that have one, and of views
pub record Laws : Type 0 where
  pub one : HasOneVerdict
  pub trees : TextsHaveTextTrees
  pub c_texts : (text : List ℕ) → IsReadInOneWay text
  pub certificates : LeastCertificatesAreOne
  pub verified : (text : List ℕ) → VerifiesInOneWay text
  pub views : ViewsHaveOneVerdict

module _ (laws : Laws) where
  one_of_tree : (command : Command) (contents : List (List ℕ)) (t : Tree) (r q : Reply) → IsTextOf t (bytes_at contents 0) → IsTextTree t →
      IsReplyToTree command (bytes_at contents 0) t r → IsReplyToTree command (bytes_at contents 0) t q → AreAlike command (had contents) r q
  one_of_tree (explain file) contents t r q reads tree (a, of_a, is_r) (b, of_b, is_q) =
      let text = bytes_at contents 0 in
      explained_alike file contents t b r q reads of_b (subst (λ v. IsExplained text t v r) (laws.one t a b tree of_a of_b) is_r) is_q
  one_of_tree (check file) contents t r q reads tree (a, of_a, is_r) (b, of_b, is_q) =
      is_r ∙ ap (check_reply (bytes_at contents 0)) (laws.one t a b tree of_a of_b) ∙ sym is_q
  one_of_tree (run file taken) contents t r q reads tree is_r is_q = absurd is_r
  one_of_tree (fmt file) contents t r q reads tree is_r is_q = is_r ∙ sym is_q
  one_of_tree (emit file) contents t r q reads tree (a, of_a, is_r) (b, of_b, is_q) =
      let text = bytes_at contents 0 in
      one_of_compiled laws.certificates text b r q (subst (λ v. IsReplyToCompiled text v r) (laws.one t a b tree of_a of_b) is_r) is_q
  one_of_tree (verify file) contents t r q reads tree is_r is_q = absurd is_r
  one_of_tree (crun file taken) contents t r q reads tree is_r is_q = absurd is_r
  one_of_tree (load n) contents t r q reads tree is_r is_q = absurd is_r
  one_of_tree (host file calls taken) contents t r q reads tree is_r is_q = absurd is_r
  one_of_tree (modules interface file) contents t r q reads tree is_r is_q = absurd is_r
  one_of_tree (link interface first second) contents t r q reads tree is_r is_q = absurd is_r

  -- ---- commands

  one_of_text : (command : Command) (contents : List (List ℕ)) (r q : Reply) → IsReplyToText command (bytes_at contents 0) r →
      IsReplyToText command (bytes_at contents 0) q → AreAlike command (had contents) r q
  one_of_text command contents r q (inl (d, p, is_r)) (inl (e, n, is_q)) =
      let bytes = bytes_at contents 0 in
      same_alike command (had contents) r q (is_r ∙ ap (refusal_reply bytes) (refusals_alike bytes d e p n) ∙ sym is_q)
  one_of_text command contents r q (inl (d, p, is_r)) (inr (u, n, is_q)) = absurd (text_not_refused (bytes_at contents 0) u d n p)
  one_of_text command contents r q (inr (t, p, is_r)) (inl (e, n, is_q)) = absurd (text_not_refused (bytes_at contents 0) t e p n)
  one_of_text command contents r q (inr (t, p, is_r)) (inr (u, n, is_q)) =
      let bytes = bytes_at contents 0 in
      one_of_tree command contents u r q n (text_tree laws.trees bytes u n) (subst (λ x. IsReplyToTree command bytes x r) (one_text bytes t u p n) is_r) is_q

  -- where a verdict has one reply, a text has
  one_by_verdict : (P : Verdict → Reply → Type 0) → ((v : Verdict) (r q : Reply) → P v r → P v q → r ≡ q) → (bytes : List ℕ) (r q : Reply)
      → IsReplyByTree (λ t a. (v : Verdict) × IsVerdictOf t v × P v a) bytes r → IsReplyByTree (λ t a. (v : Verdict) × IsVerdictOf t v × P v a) bytes q → r ≡ q
  one_by_verdict P one bytes r q (inl (d, p, is_r)) (inl (e, n, is_q)) = is_r ∙ ap (refusal_reply bytes) (refusals_alike bytes d e p n) ∙ sym is_q
  one_by_verdict P one bytes r q (inl (d, p, is_r)) (inr (u, n, is_q)) = absurd (text_not_refused bytes u d n p)
  one_by_verdict P one bytes r q (inr (t, p, is_r)) (inl (e, n, is_q)) = absurd (text_not_refused bytes t e p n)
  one_by_verdict P one bytes r q (inr (t, p, (v, of_v, is_r))) (inr (u, n, (w, of_w, is_q))) =
      let here : IsVerdictOf u v = subst (λ x. IsVerdictOf x v) (one_text bytes t u p n) of_v in
      one w r q (subst (λ x. P x r) (laws.one u v w (text_tree laws.trees bytes u n) here of_w) is_r) is_q

  one_of_run : (P : Program → Reply → Type 0) → ((p : Program) (r q : Reply) → P p r → P p q → r ≡ q) → (bytes : List ℕ) (r q : Reply) →
      IsReplyToRunText P bytes r → IsReplyToRunText P bytes q → r ≡ q
  one_of_run P one bytes r q is_r is_q = one_by_verdict (IsReplyToVerdict P bytes) (one_of_verdict P one bytes) bytes r q is_r is_q

  one_of_run_text : (given : Given) (b : Budgets) (bytes : List ℕ) (r q : Reply) →
      IsReplyToRunText (λ p a. IsReplyToProgram p given b a) bytes r → IsReplyToRunText (λ p a. IsReplyToProgram p given b a) bytes q → r ≡ q
  one_of_run_text given b bytes r q is_r is_q =
      one_of_run (λ p a. IsReplyToProgram p given b a) (λ p s t x y. one_of_program p given b s t x y) bytes r q is_r is_q

  one_of_host_text : (asked : Result (List HostCall) ℕ) (given : Given) (b : Budgets) (bytes : List ℕ) (r q : Reply) →
      IsReplyToRunText (λ p a. IsReplyToHost p asked given b a) bytes r → IsReplyToRunText (λ p a. IsReplyToHost p asked given b a) bytes q → r ≡ q
  one_of_host_text asked given b bytes r q is_r is_q =
      one_of_run (λ p a. IsReplyToHost p asked given b a) (λ p s t x y. one_of_host p asked given b s t x y) bytes r q is_r is_q

  one_of_load : (n : ℕ) (bytes : List ℕ) (r q : Reply) → IsReplyToMade n bytes r → IsReplyToMade n bytes q → r ≡ q
  one_of_load n bytes r q is_r is_q = one_by_verdict (IsReplyToLoaded n bytes) (one_loaded laws.certificates n bytes) bytes r q is_r is_q

  one_of_contents : (command : Command) (contents : List (List ℕ)) (r q : Reply) → IsReplyToContents command contents r → IsReplyToContents command contents q →
      AreAlike command (had contents) r q
  one_of_contents (check file) contents r q is_r is_q = one_of_text (check file) contents r q is_r is_q
  one_of_contents (explain file) contents r q is_r is_q = one_of_text (explain file) contents r q is_r is_q
  one_of_contents (run file taken) contents r q is_r is_q =
      one_of_run_text (given_by (bytes_at contents 1) (bytes_at contents 2)) taken.budgets (bytes_at contents 0) r q is_r is_q
  one_of_contents (fmt file) contents r q is_r is_q = one_of_text (fmt file) contents r q is_r is_q
  one_of_contents (emit file) contents r q is_r is_q = one_of_text (emit file) contents r q is_r is_q
  one_of_contents (verify file) contents r q is_r is_q = one_verify_reply laws.verified (bytes_at contents 0) r q is_r is_q
  one_of_contents (crun file taken) contents r q is_r is_q =
      one_c_reply (laws.c_texts (bytes_at contents 0)) (bytes_at contents 1) (bytes_at contents 2) taken.budgets r q is_r is_q
  one_of_contents (load n) contents r q is_r is_q = one_of_load n (generated_text n) r q is_r is_q
  one_of_contents (host file calls taken) contents r q is_r is_q =
      one_of_host_text (calls_of (bytes_at contents 1)) (given_by (bytes_at contents 2) (bytes_at contents 3)) taken.budgets (bytes_at contents 0) r q is_r is_q
  one_of_contents (modules interface file) contents r q is_r is_q =
      one_module laws.views laws.trees (file_with interface (bytes_at contents 0)) (file_with file (bytes_at contents 1)) r q is_r is_q
  one_of_contents (link interface first second) contents r q is_r is_q =
      one_link laws.views laws.trees laws.certificates (file_with interface (bytes_at contents 0)) (file_with first (bytes_at contents 1)) (file_with second (bytes_at contents 2)) r q is_r is_q

  -- a command has one reply to what it read
  pub one_of_read : (command : Command) (x : Read) (r q : Reply) → IsReplyToRead command x r → IsReplyToRead command x q → AreAlike command x r q
  one_of_read command (had contents) r q is_r is_q = one_of_contents command contents r q is_r is_q
  one_of_read command (unread name) r q is_r is_q = same_alike command (unread name) r q (is_r ∙ sym is_q)
  one_of_read command (too_long name n) r q is_r is_q = same_alike command (too_long name n) r q (is_r ∙ sym is_q)

  -- words have replies of one status for a store's files
  pub one_status : (command : Option Command) (files : Files) (r q : Reply) → IsReplyToCommand command files r → IsReplyToCommand command files q →
      r.status ≡ q.status
  one_status None files r q is_r is_q = ap (λ z. z.status) (is_r ∙ sym is_q)
  one_status (Some command) files r q is_r is_q =
      let x = read_in files (sources_of command) in
      alike_status command x r q (one_of_read command x r q is_r is_q)
