-- It can't be that a command has no reply to what it read.
use Rattle.std.proofs.Common.{◌≡◌, ℕ, ℤ, List, ◌⊎◌, inl, inr, ⊎_elim, Result, Ok, Err, refl}
use Rattle.std.specs.Prelude.{false, codes}
use Rattle.vlt_base.specs.declared.Budgets.{Budgets}
use Rattle.vlt_base.specs.declared.limits.TheConstants.{VALUE_SLOTS}
use Rattle.vlt_base.specs.Limits.{limit_of}
use Rattle.vlt_syntax.specs.Tree.{Tree}
use Rattle.vlt_printer.specs.Layout.{layout}
use Rattle.vlt_core.specs.Core.{Program}
use Rattle.vlt_core.specs.Faults.{FlowFault, IsFirstFault}
use Rattle.vlt_core.specs.Widths.{slots_needed}
use Rattle.vlt_core_laws.specs.Fit.{IsWellFormed}
use Rattle.vlt_fit_laws.specs.Fit.{IsTextTree, ProgramsAreFit}
use Rattle.vlt_fit_laws.specs.Texts.{TextsHaveTextTrees}
use Rattle.vlt_numbers.specs.Given.Given.{Given, numbers, bad_input, bad_answers, given_by}
use Rattle.vlt_meaning.specs.Run as meaning
use Rattle.vlt_host_meaning.specs.Calls.{HostCall}
use Rattle.vlt_host_meaning.specs.HostRun.{HostRan, host_run}
use Rattle.vlt_host.specs.CallsFile.{calls_of}
use Rattle.vlt_host_laws.specs.Promise.{is_host_fault, NeverGoesWrongForHosts}
use Rattle.vlt_host_meaning.specs.Widths.{slots_needed_by_host}
use Rattle.vlt_host.specs.Runs.Ends.{IsTooWideForHost}
use Rattle.vlt_meaning.specs.World.{Ran, is_fault, event_text}
use Rattle.vlt_interp.specs.Runs.Ends.{IsTooWide}
use Rattle.vlt_sound.specs.Promise.{NeverGoesWrong}
use Rattle.vlt_base.specs.Sure.{Surely}
use Rattle.vlt_base.proofs.Surely.{sure, so, surely}
use Rattle.vlt_verdict.proofs.Single.{fit_program}
use Rattle.vlt_verdict.specs.Verdicts.{Verdict, refused, faulty, accepted, IsVerdictOf}
use Rattle.vlt_verdict.specs.Laws.{HasSomeVerdict}
use Rattle.vlt_check_laws.specs.Shown.{HasWitness}
use Rattle.vaultc_runs.specs.declared.status.TheConstants.{DONE}
use Rattle.vaultc_words.specs.Commands.{Command, check, explain, run, fmt, emit, verify, crun, load, host, modules, link, names_files}
use Rattle.vaultc_runs.specs.Lines.{Reply, reply, over_reply, long_reply, unread_reply, numbers_reply, following}
use Rattle.vaultc_runs.specs.Runs.{IsReplyToRan, IsReplyOverNumbers, IsReplyToProgram}
use Rattle.vaultc_runs.specs.HostRuns.{IsReplyToHostRan, IsReplyToCallsOver, IsReplyToCalls, IsReplyToHost}
use Rattle.vaultc_words.specs.Sources.{had, unread, too_long, bytes_at}
use Rattle.vaultc_runs.specs.Texts.{IsTextOf, refusal_reply}
use Rattle.cert_least_texts.specs.Texts.{AcceptedTextsHaveOne}
use Rattle.vaultc_replies.specs.Variables.{variable_in}
use Rattle.vaultc_replies.specs.Verdicts.{check_reply, explained_reply, IsExplained}
use Rattle.vaultc_replies.specs.Emitted.{c_file, file_reply, IsReplyToCompiled}
use Rattle.vlt_load.specs.Generated.{generated_text}
use Rattle.vaultc_replies.specs.Loads.{IsReplyToLoaded, IsReplyToLoad}
use Rattle.vaultc_replies.specs.Replies.{IsReplyToCheck, IsReplyToExplain, IsReplyToEmit, IsReplyToVerdict, IsReplyToRun, IsReplyByTree, IsReplyToRunText, IsReplyToContents, HasSomeReply}
use Rattle.c_reader_laws.specs.Laws.{IsReadInOneWay}
use Rattle.vaultc_replies.proofs.OfTexts.{program_of_text}
use Rattle.cert_verify.specs.Laws.{VerifiesInSomeWay}
use Rattle.vaultc_runs.proofs.CReplies.{over_or_not, some_c_reply}
use Rattle.vaultc_replies.proofs.VReplies.{some_verify_reply}
use Rattle.vaultc_replies.proofs.Loads.{some_loaded}
use Rattle.vaultc_replies.proofs.Read.{text_tree, read_in_one_way}
use Rattle.vaultc_runs.proofs.RunEnded.{last_there}
use Rattle.vaultc_runs.proofs.HostEnded.{host_last_there}
use Rattle.vaultc_replies.proofs.Runnable.{OfAccepted}
use Rattle.vlt_view_verdict.specs.Laws.{ViewsHaveSomeVerdict}
use Rattle.vaultc_replies.specs.Modules.{file_with}
use Rattle.vaultc_replies.proofs.Linked.{LinkLaws, linked}
use Rattle.vaultc_replies.proofs.SomeModules.{some_module, some_link}

-- what is known of the trees of texts, of C texts, of certificates, of C files that have one, and of views
pub record Laws : Type 0 where
  pub trees : TextsHaveTextTrees
  pub fit : ProgramsAreFit
  pub verdicts : HasSomeVerdict
  pub witnesses : (p : Program) (x : FlowFault) → IsWellFormed p → IsFirstFault p x → HasWitness p x
  pub never : OfAccepted NeverGoesWrong
  pub never_for_hosts : OfAccepted NeverGoesWrongForHosts
  pub c_texts : (text : List ℕ) → IsReadInOneWay text
  pub certificates : AcceptedTextsHaveOne
  pub verified : (text : List ℕ) → VerifiesInSomeWay text
  pub views : ViewsHaveSomeVerdict
  pub linked : LinkLaws

-- ---- runs of programs that never go wrong

wide_or_not : (p : Program) (b : Budgets) → IsTooWide p b ⊎ (IsTooWide p b → ⊥)
wide_or_not p b = over_or_not (limit_of VALUE_SLOTS) (slots_needed p b.depth b.heap)

of_ran : (ran : Ran) → is_fault ran.outcome ≡ false → (r : Reply) × IsReplyToRan ran r
of_ran ran right = let last = last_there ran.outcome right in (following (event_text ran.world.events) last.0, (last.0, last.1, refl))

over_numbers : (p : Program) (input : List ℤ) (answers : List (List ℤ)) (b : Budgets) → NeverGoesWrong p → (r : Reply) × IsReplyOverNumbers p input answers b r
over_numbers p input answers b never = ⊎_elim
    (λ wide. (over_reply VALUE_SLOTS, inl (wide, refl)))
    (λ fits. let r = of_ran (meaning.run p b.fuel b.heap b.depth input answers) (never b.fuel b.heap b.depth input answers) in (r.0, inr (fits, r.1)))
    (wide_or_not p b)

of_program : (p : Program) (given : Given) (b : Budgets) → NeverGoesWrong p → (r : Reply) × IsReplyToProgram p given b r
of_program p (numbers input answers) b never = over_numbers p input answers b never
of_program p (bad_input line) b never = (numbers_reply (codes "input") line, refl)
of_program p (bad_answers line) b never = (numbers_reply (codes "answers") line, refl)

-- ---- runs for hosts

wide_for_host_or_not : (p : Program) (b : Budgets) → IsTooWideForHost p b ⊎ (IsTooWideForHost p b → ⊥)
wide_for_host_or_not p b = over_or_not (limit_of VALUE_SLOTS) (slots_needed_by_host p b.depth b.heap)

of_host_ran : (ran : HostRan) → is_host_fault ran.outcome ≡ false → (r : Reply) × IsReplyToHostRan ran r
of_host_ran ran right = let last = host_last_there ran.outcome right in (following ran.text last.0, (last.0, last.1, refl))

of_calls_over : (p : Program) (calls : List HostCall) (input : List ℤ) (answers : List (List ℤ)) (b : Budgets) → NeverGoesWrongForHosts p → (r : Reply) × IsReplyToCallsOver p calls input answers b r
of_calls_over p calls input answers b never = ⊎_elim
    (λ wide. (over_reply VALUE_SLOTS, inl (wide, refl)))
    (λ fits. let r = of_host_ran (host_run p b.fuel b.heap b.depth input answers calls) (never b.fuel b.heap b.depth input answers calls) in (r.0, inr (fits, r.1)))
    (wide_for_host_or_not p b)

of_calls : (p : Program) (calls : List HostCall) (given : Given) (b : Budgets) → NeverGoesWrongForHosts p → (r : Reply) × IsReplyToCalls p calls given b r
of_calls p calls (numbers input answers) b never = of_calls_over p calls input answers b never
of_calls p calls (bad_input line) b never = (numbers_reply (codes "input") line, refl)
of_calls p calls (bad_answers line) b never = (numbers_reply (codes "answers") line, refl)

of_host : (p : Program) (calls : Result (List HostCall) ℕ) (given : Given) (b : Budgets) → NeverGoesWrongForHosts p → (r : Reply) × IsReplyToHost p calls given b r
of_host p (Ok calls) given b never = of_calls p calls given b never
of_host p (Err line) given b never = (numbers_reply (codes "calls") line, refl)

module _ (laws : Laws) where
  -- each verdict is explained in some way, since each first fault has a witness
  explained : (text : List ℕ) (t : Tree) → IsTextTree t → (v : Verdict) → IsVerdictOf t v → (r : Reply) × IsExplained text t v r
  explained text t tree (refused e) is = (check_reply text (refused e), refl)
  explained text t tree (accepted p) is = (check_reply text (accepted p), refl)
  explained text t tree (faulty p f x) is =
      let w = laws.witnesses p x (fit_program laws.fit t p tree is.0).well_formed is.1.first in
      (explained_reply text (variable_in t x.function) p f x w.first w.second, (w.first, w.second, w.shown, refl))

  -- where each accepted program has a reply, a verdict has
  of_verdict : (P : Program → Reply → Type 0) → OfAccepted (λ p. (r : Reply) × P p r) → (text : List ℕ) (t : Tree) → IsTextTree t → (v : Verdict) → IsVerdictOf t v →
      (r : Reply) × IsReplyToVerdict P text v r
  of_verdict P some text t tree (refused e) is = (check_reply text (refused e), refl)
  of_verdict P some text t tree (faulty p f x) is = (check_reply text (faulty p f x), refl)
  of_verdict P some text t tree (accepted p) is =
      let x = fit_program laws.fit t p tree is.0 in
      some p x.kinded is.1 x.sizes x.well_formed.states x.narrow

  -- an accepted program surely has a least certificate
  compiled : (text : List ℕ) (t : Tree) → IsTextOf t text → IsTextTree t → (v : Verdict) → IsVerdictOf t v → Surely ((r : Reply) × IsReplyToCompiled text v r)
  compiled text t reads tree (refused e) is = sure (check_reply text (refused e), refl)
  compiled text t reads tree (faulty p f x) is = sure (check_reply text (faulty p f x), refl)
  compiled text t reads tree (accepted p) is =
      so (laws.certificates p (program_of_text text t p reads tree is.0) is.1) (λ n. (file_reply (c_file p n.0), (n.0, n.1, refl)))

  loaded : (n : ℕ) (text : List ℕ) (t : Tree) → IsTextOf t text → IsTextTree t → (v : Verdict) → IsVerdictOf t v → Surely ((r : Reply) × IsReplyToLoaded n text v r)
  loaded n text t reads tree (refused e) is = sure (check_reply text (refused e), refl)
  loaded n text t reads tree (faulty p f x) is = sure (check_reply text (faulty p f x), refl)
  loaded n text t reads tree (accepted p) is =
      let x = fit_program laws.fit t p tree is.0 in
      let never = laws.never p x.kinded is.1 x.sizes x.well_formed.states x.narrow in
      so (laws.certificates p (program_of_text text t p reads tree is.0) is.1) (λ notes. some_loaded n text p notes.0 notes.1 never)

  -- ---- texts

  some_of_check : (text : List ℕ) (t : Tree) → IsTextTree t → Surely ((r : Reply) × IsReplyToCheck text t r)
  some_of_check text t tree = so (laws.verdicts t tree) (λ v. (check_reply text v.0, (v.0, v.1, refl)))

  some_of_explain : (text : List ℕ) (t : Tree) → IsTextTree t → Surely ((r : Reply) × IsReplyToExplain text t r)
  some_of_explain text t tree = so (laws.verdicts t tree) (λ v. let r = explained text t tree v.0 v.1 in (r.0, (v.0, v.1, r.1)))

  some_of_emit : (text : List ℕ) (t : Tree) → IsTextOf t text → IsTextTree t → Surely ((r : Reply) × IsReplyToEmit text t r)
  some_of_emit text t reads tree = surely (laws.verdicts t tree) (λ v. so (compiled text t reads tree v.0 v.1) (λ r. (r.0, (v.0, v.1, r.1))))

  some_of_run : (P : Program → Reply → Type 0) → OfAccepted (λ p. (r : Reply) × P p r) → (text : List ℕ) (t : Tree) → IsTextTree t → Surely ((r : Reply) × IsReplyToRun P text t r)
  some_of_run P some text t tree = so (laws.verdicts t tree) (λ v. let r = of_verdict P some text t tree v.0 v.1 in (r.0, (v.0, v.1, r.1)))

  some_of_load : (n : ℕ) (text : List ℕ) (t : Tree) → IsTextOf t text → IsTextTree t → Surely ((r : Reply) × IsReplyToLoad n text t r)
  some_of_load n text t reads tree = surely (laws.verdicts t tree) (λ v. so (loaded n text t reads tree v.0 v.1) (λ r. (r.0, (v.0, v.1, r.1))))

  by_tree : (P : Tree → Reply → Type 0) (bytes : List ℕ) → ((t : Tree) → IsTextOf t bytes → IsTextTree t → Surely ((r : Reply) × P t r)) → Surely ((r : Reply) × IsReplyByTree P bytes r)
  by_tree P bytes some = ⊎_elim
      (λ x. so (some x.0 x.1 (text_tree laws.trees bytes x.0 x.1)) (λ r. (r.0, inr (x.0, x.1, r.1))))
      (λ x. sure (refusal_reply bytes x.0, inl (x.0, x.1, refl)))
      (read_in_one_way bytes).either

  -- ---- files

  some_of_run_text : (given : Given) (b : Budgets) (bytes : List ℕ) → Surely ((r : Reply) × IsReplyToRunText (λ p q. IsReplyToProgram p given b q) bytes r)
  some_of_run_text given b bytes =
      by_tree (IsReplyToRun (λ p q. IsReplyToProgram p given b q) bytes) bytes
      (λ t reads. some_of_run (λ p q. IsReplyToProgram p given b q)
      (λ p kinded accepts sizes states narrow. of_program p given b (laws.never p kinded accepts sizes states narrow)) bytes t)

  some_of_host_text : (asked : Result (List HostCall) ℕ) (given : Given) (b : Budgets) (bytes : List ℕ) →
      Surely ((r : Reply) × IsReplyToRunText (λ p q. IsReplyToHost p asked given b q) bytes r)
  some_of_host_text asked given b bytes =
      by_tree (IsReplyToRun (λ p q. IsReplyToHost p asked given b q) bytes) bytes
      (λ t reads. some_of_run (λ p q. IsReplyToHost p asked given b q)
      (λ p kinded accepts sizes states narrow. of_host p asked given b (laws.never_for_hosts p kinded accepts sizes states narrow)) bytes t)

  some_of_contents : (command : Command) (contents : List (List ℕ)) → Surely ((r : Reply) × IsReplyToContents command contents r)
  some_of_contents (check file) contents = let bytes = bytes_at contents 0 in by_tree (IsReplyToCheck bytes) bytes (λ t reads. some_of_check bytes t)
  some_of_contents (explain file) contents = let bytes = bytes_at contents 0 in by_tree (IsReplyToExplain bytes) bytes (λ t reads. some_of_explain bytes t)
  some_of_contents (fmt file) contents =
      by_tree (λ t r. r ≡ reply DONE (layout t)) (bytes_at contents 0) (λ t reads tree. sure (reply DONE (layout t), refl))
  some_of_contents (emit file) contents = let bytes = bytes_at contents 0 in by_tree (IsReplyToEmit bytes) bytes (some_of_emit bytes)
  some_of_contents (run file taken) contents = some_of_run_text (given_by (bytes_at contents 1) (bytes_at contents 2)) taken.budgets (bytes_at contents 0)
  some_of_contents (verify file) contents = some_verify_reply laws.verified (bytes_at contents 0)
  some_of_contents (crun file taken) contents =
      sure (some_c_reply (laws.c_texts (bytes_at contents 0)) (bytes_at contents 1) (bytes_at contents 2) taken.budgets)
  some_of_contents (load n) contents = let text = generated_text n in by_tree (IsReplyToLoad n text) text (some_of_load n text)
  some_of_contents (host file calls taken) contents =
      some_of_host_text (calls_of (bytes_at contents 1)) (given_by (bytes_at contents 2) (bytes_at contents 3)) taken.budgets (bytes_at contents 0)
  some_of_contents (modules interface file) contents =
      some_module laws.trees laws.views (file_with interface (bytes_at contents 0)) (file_with file (bytes_at contents 1))
  some_of_contents (link interface first second) contents =
      some_link laws.trees laws.views (file_with interface (bytes_at contents 0)) (file_with first (bytes_at contents 1)) (file_with second (bytes_at contents 2))
      (λ t u v z of_i of_f of_g one two told.
      let x = linked laws.linked t u v z (bytes_at contents 0) (bytes_at contents 1) (bytes_at contents 2) of_i of_f of_g one two told in
      so (laws.certificates x.program x.texts x.accepted) (λ n. (file_reply (c_file x.program n.0), (x.program, x.gives, (n.0, n.1, refl)))))

  pub some_of_read : HasSomeReply
  some_of_read command (had contents) = some_of_contents command contents
  some_of_read command (unread name) = sure (unread_reply name, refl)
  some_of_read command (too_long name n) = sure (long_reply (names_files command) name n, refl)
