-- What `load` replies to a text: one reply, some reply, and what is written of it.
use Rattle.std.proofs.Common.{◌≡◌, inl, inr, ⊎_elim, ℕ, true, false, List, [], ◌++◌, length, Some, refl, sym, ap, ◌∙◌, subst, append_assoc, arith}
use Rattle.std.proofs.lemmas.Bool.Decides.{eqb_tells}
use Rattle.std.proofs.lemmas.Option.{same_Some}
use Rattle.std.specs.Prelude.{◌≢◌, Result, Ok, Err, IfOk, codes}
use Rattle.std.specs.declared.alloc.AllocError.{AllocError}
use Rattle.vlt_base.specs.declared.Budgets.{Budgets}
use Rattle.vlt_base.specs.Limits.{limit_of}
use Rattle.vlt_base.specs.declared.limits.TheConstants.{VALUE_SLOTS}
use Rattle.vlt_io.specs.declared.sink.Sink.{Ghosts}
use Rattle.vlt_core.specs.Core.{Program}
use Rattle.vlt_core.specs.Widths.{slots_needed}
use Rattle.vlt_meaning.specs.World as model
use Rattle.vlt_meaning.specs.World.{Outcome, Ran, event_text}
use Rattle.vlt_numbers.specs.Given.Given.{numbers}
use Rattle.vlt_steps.specs.declared.stop.Stop.{Stop}
use Rattle.vlt_steps.specs.declared.stop.Stop.TheVariants as stop
use Rattle.vlt_steps.specs.declared.end.RunEnd.{RunEnd}
use Rattle.vlt_steps.specs.declared.end.RunEnd.TheVariants.{BadInput, BadAnswers, TooWide, Stopped, Memory}
use Rattle.vlt_steps.specs.Writing.{Outside}
use Rattle.vlt_interp.specs.Runs.Ends.{IsTooWide, EndsGiven, EndsAs}
use Rattle.vlt_sound.specs.Promise.{NeverGoesWrong}
use Rattle.vlt_syntax.specs.Tree.{Tree}
use Rattle.vlt_verdict.specs.Verdicts.{Verdict, refused, faulty, accepted, IsVerdictOf}
use Rattle.vlt_verdict.specs.declared.Verdict as shown
use Rattle.vlt_verdict.specs.declared.Verdict.TheVariants as judged
use Rattle.vlt_verdict.specs.Seen.{IsSeenAs}
use Rattle.cert_format.specs.Notes.{Note}
use Rattle.cert_least_laws.specs.LeastNotes.{IsLeastCertificate}
use Rattle.cert_least_laws.specs.Laws.{LeastCertificatesAreOne}
use Rattle.vaultc_runs.specs.declared.reply.Reply.{Reply as CodeReply}
use Rattle.vaultc_runs.specs.declared.status.TheConstants.{DONE, NO_MEMORY, TRAPPED, OUT_OF_BUDGET, OUT_OF_NUMBERS}
use Rattle.vaultc_replies.specs.Emitted.{c_file, file_reply, IsEmitted}
use Rattle.vaultc_runs.specs.Finishes.{Finishes}
use Rattle.vaultc_runs.specs.Lines.{Reply, reply, over_reply, trap_line, bad_answer_line}
use Rattle.vaultc_runs.specs.Loading.{is_done, is_cut}
use Rattle.vaultc_replies.specs.Loads.{load_reply, Then, IsReplyAfterRun, default_budgets, run_alone, IsReplyAfterEmit, IsLoaded, IsReplyToLoaded}
use Rattle.vaultc_replies.specs.Replies.{IsReplyToMade}
use Rattle.vaultc_runs.specs.Runs.{last_of}
use Rattle.vaultc_runs.specs.Shown.{EndsRun, shown_reply}
use Rattle.vaultc_replies.specs.Judged.{IsJudged, is_accepted}
use Rattle.vaultc_runs.specs.Texts.{IsTextOf}
use Rattle.vaultc_replies.specs.Verdicts.{check_reply}
use Rattle.vaultc_runs.proofs.CReplies.{over_or_not}
use Rattle.vaultc_runs.proofs.Finished.{finishes_as, none_written}
use Rattle.vaultc_runs.proofs.RunEnded.{last_there, not_sink_fault}

-- nine pieces, put together from the last one on or from the first one on
pub nested : (a b c d e f g h i : List ℕ) → a ++ (b ++ (c ++ (d ++ (e ++ (f ++ (g ++ (h ++ i))))))) ≡ a ++ b ++ c ++ d ++ e ++ f ++ g ++ h ++ i
nested a b c d e f g h i =
    sym (append_assoc a b (c ++ (d ++ (e ++ (f ++ (g ++ (h ++ i))))))) ∙
    sym (append_assoc (a ++ b) c (d ++ (e ++ (f ++ (g ++ (h ++ i)))))) ∙
    sym (append_assoc (a ++ b ++ c) d (e ++ (f ++ (g ++ (h ++ i))))) ∙
    sym (append_assoc (a ++ b ++ c ++ d) e (f ++ (g ++ (h ++ i)))) ∙
    sym (append_assoc (a ++ b ++ c ++ d ++ e) f (g ++ (h ++ i))) ∙
    sym (append_assoc (a ++ b ++ c ++ d ++ e ++ f) g (h ++ i)) ∙
    sym (append_assoc (a ++ b ++ c ++ d ++ e ++ f ++ g) h i)

-- ---- one reply

one_then : (step : Reply) (Next : Reply → Type 0) (r q : Reply) → ((a b : Reply) → Next a → Next b → a ≡ b) → Then step Next r → Then step Next q → r ≡ q
one_then step Next r q one (inl x) (inl y) = x.1 ∙ sym y.1
one_then step Next r q one (inl x) (inr y) = absurd (x.0 y.0)
one_then step Next r q one (inr x) (inl y) = absurd (y.0 x.0)
one_then step Next r q one (inr x) (inr y) = one r q x.1 y.1

one_after_run : (n : ℕ) (text : List ℕ) (p : Program) (emitted : ℕ) (ran : Ran) (r q : Reply) → IsReplyAfterRun n text p emitted ran r → IsReplyAfterRun n text p emitted ran q → r ≡ q
one_after_run n text p emitted ran r q (k, of_k, is_r) (l, of_l, is_q) =
    let Next : Reply → Type 0 = λ a. a ≡ load_reply n text p emitted (event_text ran.world.events) in
    one_then l Next r q (λ a b x y. x ∙ sym y) (subst (λ s. Then s Next r) (same_Some k l (sym of_k ∙ of_l)) is_r) is_q

one_after_emit : (n : ℕ) (text : List ℕ) (p : Program) (emitted : ℕ) (r q : Reply) → IsReplyAfterEmit n text p emitted r → IsReplyAfterEmit n text p emitted q → r ≡ q
one_after_emit n text p emitted r q (inl x) (inl y) = x.1 ∙ sym y.1
one_after_emit n text p emitted r q (inl x) (inr y) = absurd (y.0 x.0)
one_after_emit n text p emitted r q (inr x) (inl y) = absurd (x.0 y.0)
one_after_emit n text p emitted r q (inr x) (inr y) = one_after_run n text p emitted (run_alone p) r q x.1 y.1

pub one_emitted : LeastCertificatesAreOne → (p : Program) (r q : Reply) → IsEmitted p r → IsEmitted p q → r ≡ q
one_emitted one p r q (notes, least, is_r) (others, same, is_q) =
    is_r ∙ ap (λ notes. file_reply (c_file p notes)) (one p notes others least same) ∙ sym is_q

pub one_loaded : LeastCertificatesAreOne → (n : ℕ) (text : List ℕ) (v : Verdict) (r q : Reply) → IsReplyToLoaded n text v r → IsReplyToLoaded n text v q → r ≡ q
one_loaded one n text (refused x) r q a b = a ∙ sym b
one_loaded one n text (faulty p f x) r q a b = a ∙ sym b
one_loaded one n text (accepted p) r q (file, is, a) (other, also, b) =
    one_then other (IsReplyAfterEmit n text p (length other.text)) r q (one_after_emit n text p (length other.text))
    (subst (λ f. Then f (IsReplyAfterEmit n text p (length f.text)) r) (one_emitted one p file other is also) a) b

-- ---- some reply

some_then : (step : Reply) (Next : Reply → Type 0) → ((r : Reply) × Next r) → (r : Reply) × Then step Next r
some_then step Next more = elim (eqb_tells step.status DONE) [
  | inl done ↦ (more.0, inr (done.1, more.1))
  | inr other ↦ (step, inl (other.1, refl))
]

some_after_emit : (n : ℕ) (text : List ℕ) (p : Program) (emitted : ℕ) → NeverGoesWrong p → (r : Reply) × IsReplyAfterEmit n text p emitted r
some_after_emit n text p emitted never = ⊎_elim
    (λ wide. (over_reply VALUE_SLOTS, inl (wide, refl)))
    (λ fits. (
    let b = default_budgets in
    let ran = run_alone p in
    let last = last_there ran.outcome (never b.fuel b.heap b.depth [] []) in
    let told = load_reply n text p emitted (event_text ran.world.events) in
    let r = some_then last.0 (λ q. q ≡ told) (told, refl) in
    (r.0, inr (fits, (last.0, last.1, r.1)))
    ))
    (over_or_not (limit_of VALUE_SLOTS) (slots_needed p default_budgets.depth default_budgets.heap))

pub some_loaded : (n : ℕ) (text : List ℕ) (p : Program) (notes : List (List Note)) → IsLeastCertificate p notes → NeverGoesWrong p → (r : Reply) × IsLoaded n text p r
some_loaded n text p notes least never =
    let file = file_reply (c_file p notes) in
    let r = some_then file (IsReplyAfterEmit n text p (length file.text)) (some_after_emit n text p (length file.text) never) in
    (r.0, (file, (notes, least, refl), r.1))

-- ---- the run

-- over files of numbers without bytes, within the budgets that no option sets
pub ends_alone : (p : Program) (input answers : List ℕ) (b : Budgets) (before after : Outside) (end : RunEnd Stop) → input ≡ [] → answers ≡ [] → b ≡ default_budgets
    → EndsAs p input answers b before after end → EndsGiven p (numbers [] []) default_budgets before after end
ends_alone p input answers b before after end no_input no_answers same ends =
    subst (λ c. EndsAs p [] [] c before after end) same
    (subst (λ l. EndsAs p [] l b before after end) no_answers (subst (λ l. EndsAs p l answers b before after end) no_input ends))

module _ (n : ℕ) (text : List ℕ) (p : Program) (emitted : ℕ) where
  -- it came to the end of `main`
  pub run_done : (old new : List ℕ) (before after : ℕ) (end : RunEnd Stop) (r : Reply)
      → EndsGiven p (numbers [] []) default_budgets (record { written = Some old; faults = before }) (record { written = Some new; faults = after }) end
      → old ≡ [] → is_done end ≡ true → r ≡ load_reply n text p emitted new → IsReplyAfterEmit n text p emitted r
  run_done old new before after (Stopped stop.Done) r (fits, x) none done is =
      let ran = run_alone p in
      let events = event_text ran.world.events in
      let all : new ≡ events = same_Some new (old ++ events) x.told ∙ ap (λ l. l ++ events) none in
      inr (fits, (reply DONE [], ap last_of (sym x.outcome), inr (refl, is ∙ ap (load_reply n text p emitted) all)))
  run_done old new before after (Stopped (stop.Trap t)) r x none done is = absurd cc
  run_done old new before after (Stopped stop.FuelEnd) r x none done is = absurd cc
  run_done old new before after (Stopped stop.HeapEnd) r x none done is = absurd cc
  run_done old new before after (Stopped stop.DepthEnd) r x none done is = absurd cc
  run_done old new before after (Stopped stop.InputEnd) r x none done is = absurd cc
  run_done old new before after (Stopped stop.AnswersEnd) r x none done is = absurd cc
  run_done old new before after (Stopped (stop.BadAnswer k)) r x none done is = absurd cc
  run_done old new before after (Stopped stop.SinkFault) r x none done is = absurd cc
  run_done old new before after (BadInput line) r x none done is = absurd cc
  run_done old new before after (BadAnswers line) r x none done is = absurd cc
  run_done old new before after TooWide r x none done is = absurd cc
  run_done old new before after Memory r x none done is = absurd cc

  -- what is said then is a reply
  pub done_said : (old new : List ℕ) (before after : ℕ) (end : RunEnd Stop) (r : Result CodeReply AllocError)
      → EndsGiven p (numbers [] []) default_budgets (record { written = Some old; faults = before }) (record { written = Some new; faults = after }) end
      → old ≡ [] → is_done end ≡ true → (events : List ℕ) → events ≡ new → IfOk r (λ x. shown_reply x ≡ load_reply n text p emitted events)
      → IfOk r (λ x. IsReplyAfterEmit n text p emitted (shown_reply x))
  done_said old new before after end (Ok x) ends none done events same is = run_done old new before after end (shown_reply x) ends none done (is ∙ ap (load_reply n text p emitted) same)
  done_said old new before after end (Err e) ends none done events same is = tt

  module _ {K : Type 0} (g : Ghosts K) (old new : K) (result : ℕ) where
    -- with an outcome whose last line isn't that of a run that is done
    stopped_otherwise : (o : Outcome) (last : Reply) → last_of o ≡ Some last → last.status ≢ DONE → (IsTooWide p default_budgets → ⊥) → o ≡ (run_alone p).outcome
        → Finishes g (λ r. r ≡ last) old new result → Finishes g (IsReplyAfterEmit n text p emitted) old new result
    stopped_otherwise o last of other fits same f =
        finishes_as g (λ r. r ≡ last) (IsReplyAfterEmit n text p emitted) old new result (λ r is. inr (fits, (last, ap last_of (sym same) ∙ of, inl (other, is)))) f

    -- memory ran out
    ran_out : new ≡ old → result ≡ NO_MEMORY → Finishes g (IsReplyAfterEmit n text p emitted) old new result
    ran_out stays four =
        subst (λ k. Finishes g (IsReplyAfterEmit n text p emitted) old k result) (sym stays)
        (subst (λ s. Finishes g (IsReplyAfterEmit n text p emitted) old old s) (sym four) (none_written g (IsReplyAfterEmit n text p emitted) old))

    -- it ended in another way, and its last line was written
    pub run_otherwise : (before after : Outside) (end : RunEnd Stop) → EndsGiven p (numbers [] []) default_budgets before after end → is_done end ≡ false → is_cut end ≡ false
        → EndsRun g end old new result → Finishes g (IsReplyAfterEmit n text p emitted) old new result
    run_otherwise before after (Stopped stop.Done) x other whole f = absurd cc
    run_otherwise before after (Stopped stop.SinkFault) x other whole f = absurd cc
    run_otherwise before after (Stopped (stop.Trap t)) (fits, x) other whole f =
        stopped_otherwise (model.trap t) (reply TRAPPED (trap_line t)) refl (λ e. omega (arith, e)) fits x.outcome f
    run_otherwise before after (Stopped stop.FuelEnd) (fits, x) other whole f =
        stopped_otherwise model.fuel_end (reply OUT_OF_BUDGET (codes "budget fuel\n")) refl (λ e. omega (arith, e)) fits x.outcome f
    run_otherwise before after (Stopped stop.HeapEnd) (fits, x) other whole f =
        stopped_otherwise model.heap_end (reply OUT_OF_BUDGET (codes "budget heap\n")) refl (λ e. omega (arith, e)) fits x.outcome f
    run_otherwise before after (Stopped stop.DepthEnd) (fits, x) other whole f =
        stopped_otherwise model.depth_end (reply OUT_OF_BUDGET (codes "budget depth\n")) refl (λ e. omega (arith, e)) fits x.outcome f
    run_otherwise before after (Stopped stop.InputEnd) (fits, x) other whole f =
        stopped_otherwise model.input_end (reply OUT_OF_NUMBERS (codes "input ended\n")) refl (λ e. omega (arith, e)) fits x.outcome f
    run_otherwise before after (Stopped stop.AnswersEnd) (fits, x) other whole f =
        stopped_otherwise model.answers_end (reply OUT_OF_NUMBERS (codes "answers ended\n")) refl (λ e. omega (arith, e)) fits x.outcome f
    run_otherwise before after (Stopped (stop.BadAnswer k)) (fits, x) other whole f =
        stopped_otherwise (model.bad_answer k) (reply OUT_OF_NUMBERS (bad_answer_line k)) refl (λ e. omega (arith, e)) fits x.outcome f
    run_otherwise before after (BadInput line) x other whole f = absurd x
    run_otherwise before after (BadAnswers line) x other whole f = absurd x
    run_otherwise before after TooWide (wide, same) other whole f =
        finishes_as g (λ r. r ≡ over_reply VALUE_SLOTS) (IsReplyAfterEmit n text p emitted) old new result (λ r is. inl (wide, is)) f
    run_otherwise before after Memory same other whole (stays, inl (three, cut)) = absurd (not_sink_fault cut)
    run_otherwise before after Memory same other whole (stays, inr four) = ran_out stays four

-- ---- the C file

module _ (n : ℕ) (text : List ℕ) (p : Program) (file : Reply) (is : IsEmitted p file) where
  -- it isn't written
  pub unwritten : file.status ≢ DONE → (r : Reply) → r ≡ file → IsLoaded n text p r
  unwritten other r same = (file, is, inl (other, same))

  -- it is, and then the program was run
  pub written : file.status ≡ DONE → (emitted : ℕ) → emitted ≡ length file.text → (r : Reply) → IsReplyAfterEmit n text p emitted r → IsLoaded n text p r
  written done emitted same r after = (file, is, inr (done, subst (λ k. IsReplyAfterEmit n text p k r) same after))

-- ---- verdicts

-- `load` says of a verdict that isn't accepted what `check` says of it
check_is_load : (n : ℕ) (text : List ℕ) (v : shown.Verdict) (s : Verdict) (r : Reply) → is_accepted v ≡ false → IsSeenAs v s → r ≡ check_reply text s → IsReplyToLoaded n text s r
check_is_load n text v (refused x) r other seen e = e
check_is_load n text v (faulty p f x) r other seen e = e
check_is_load n text (judged.Accepted q) (accepted p) r other seen e = absurd cc
check_is_load n text (judged.Broken rule at) (accepted p) r other seen e = absurd cc
check_is_load n text (judged.Exceeded k) (accepted p) r other seen e = absurd cc
check_is_load n text (judged.Faulty q x) (accepted p) r other (f, there, same) e = absurd cc

-- what is said of a verdict that isn't accepted is what `load` replies to the text
pub refused_load : (n : ℕ) (text slice : List ℕ) (t : Tree) (v : shown.Verdict) (r : Result CodeReply AllocError) → slice ≡ text → IsTextOf t text →
    is_accepted v ≡ false → IsJudged t v → IfOk r (λ x. (s : Verdict) → IsSeenAs v s → shown_reply x ≡ check_reply slice s) →
    IfOk r (λ x. IsReplyToMade n text (shown_reply x))
refused_load n text slice t v (Ok x) same reads other (s, is, seen) said =
    inr (t, reads, (s, is, check_is_load n text v s (shown_reply x) other seen (subst (λ l. shown_reply x ≡ check_reply l s) same (said s seen))))
refused_load n text slice t v (Err e) same reads other is said = tt

-- what is replied to an accepted program is what `load` replies to its text
pub accepted_load : (n : ℕ) (text : List ℕ) (t : Tree) (p : Program) → IsTextOf t text → IsVerdictOf t (accepted p) → (r : Reply) → IsLoaded n text p r → IsReplyToMade n text r
accepted_load n text t p reads is r loaded = inr (t, reads, (accepted p, is, loaded))
