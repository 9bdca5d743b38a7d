-- What is written of the run of a program for a host: its text, and the last line of its end.
use Rattle.std.proofs.Common.{◌≡◌, ◌⊎◌, inl, inr, ℕ, ℤ, ◌≤◌, false, List, [], Option, Some, None, refl, sym, ap, subst, ◌∙◌, arith}
use Rattle.std.specs.Prelude.{◌≢◌, MatchOption, IfSome, codes, Result, Ok, Err}
use Rattle.std.specs.Option.{option_and_then}
use Rattle.vlt_base.specs.declared.Budgets.{Budgets}
use Rattle.vlt_base.specs.declared.limits.TheConstants.{VALUE_SLOTS}
use Rattle.vlt_io.specs.Outside.{Rose, Grew}
use Rattle.vlt_io.specs.declared.sink.Sink.{Ghosts}
use Rattle.vlt_core.specs.Core.{Program}
use Rattle.vlt_steps.specs.Writing.{IsUntouched}
use Rattle.vlt_steps.specs.Stops.{IsTold}
use Rattle.vlt_steps.specs.declared.stop.Stop.TheVariants.{SinkFault}
use Rattle.vlt_numbers.specs.Given.Given.{Given, numbers, bad_input, bad_answers, given_by}
use Rattle.vlt_steps.specs.declared.end.RunEnd.{RunEnd}
use Rattle.vlt_steps.specs.declared.end.RunEnd.TheVariants.{BadInput, BadAnswers, TooWide, Stopped, Memory}
use Rattle.vlt_steps.specs.Ends.{IsRefusal}
use Rattle.vlt_host_meaning.specs.Calls.{HostCall}
use Rattle.vlt_host_meaning.specs.HostRun.{HostOutcome, ended, bad_call, HostRan, host_run}
use Rattle.vlt_host_laws.specs.Promise.{is_host_fault, NeverGoesWrongForHosts}
use Rattle.vlt_host.specs.declared.error.CallsError.{CallsError}
use Rattle.vlt_host.specs.declared.error.CallsError.TheVariants as calls_error
use Rattle.vlt_host.specs.Runs.Ends as ends
use Rattle.vlt_host.specs.Runs.Ends.{IsTooWideForHost, host_outcome_of, EndsGiven, EndsAs}
use Rattle.vlt_host.specs.declared.runs.stop.HostStop.{HostStop}
use Rattle.vlt_host.specs.declared.runs.stop.HostStop.TheVariants as host
use Rattle.vaultc_runs.specs.declared.status.TheConstants.{UNREAD, SINK_FAILED, NO_MEMORY}
use Rattle.vaultc_runs.specs.Finishes.{Finishes}
use Rattle.vaultc_runs.specs.Lines.{Reply, over_reply, numbers_reply, following}
use Rattle.vaultc_runs.specs.HostRuns.{bad_call_reply, host_last_of, IsReplyToCallsOver, IsReplyToCalls, IsReplyToHost}
use Rattle.vaultc_runs.specs.Shown.{EndsHost, RefusesCalls}
use Rattle.vaultc_runs.proofs.Ended.{Says, cut_off, came_to_end}
use Rattle.vaultc_runs.proofs.Finished.{none_written}
use Rattle.vaultc_runs.proofs.Own.{own_host_outcome}
use Rattle.vaultc_runs.proofs.RunEnded.{seen, untouched_grew, line_alone, last_there}

not_cut : Memory ≡ Stopped (host.Stopped SinkFault) → ⊥
not_cut e = cc

-- memory ran out, and nothing was written
memory_wanting : {K : Type 0} (g : Ghosts K) (Replies : Reply → Type 0) (old mid new : K) (result : ℕ) → IsUntouched (seen g old) (seen g mid)
    → EndsHost g Memory mid new result → Finishes g Replies old new result
memory_wanting g Replies old mid new result same (stays, inl (three, cut)) = absurd (not_cut cut)
memory_wanting g Replies old mid new result same (stays, inr four) = record {
  whole = λ sink memory. absurd (memory four);
  failed = λ three. absurd (omega (arith, three, four));
  part = λ three. absurd (omega (arith, three, four));
  memory = λ _. inl (subst (λ k. Grew (g.written old) (g.written k) []) (sym stays) (untouched_grew (seen g old) (seen g mid) same));
}

-- ---- a run

-- every outcome but a fault has its last line
pub host_last_there : (o : HostOutcome) → is_host_fault o ≡ false → (last : Reply) × (host_last_of o ≡ Some last)
host_last_there (ended o) right = last_there o right
host_last_there (bad_call n) right = (bad_call_reply n, refl)

-- a run of a program within budgets, over numbers and calls
module _ (p : Program) (calls : List HostCall) (input : List ℤ) (answers : List (List ℤ)) (b : Budgets) where
  abbrev ran : HostRan
  ran = host_run p b.fuel b.heap b.depth input answers calls

  -- the text of the run and this last line are a reply
  ran_says : (last : Reply) → (IsTooWideForHost p b → ⊥) → host_last_of ran.outcome ≡ Some last → Says (IsReplyToCallsOver p calls input answers b) (λ r. r ≡ last) ran.text
  ran_says last fits of = record {
    replies = λ r same. inr (fits, (last, of, ap (following ran.text) same));
    inside = λ r same. subst (λ q. q.status ≢ UNREAD) (sym same) (own_host_outcome ran.outcome last of).1;
    some = (last, refl);
  }

  -- a machine stopped, by its outcome
  by_outcome : {K : Type 0} (g : Ghosts K) (o : Option HostOutcome) (Failed : Type 0) (old mid new : K) (result : ℕ)
      → (IsTooWideForHost p b → ⊥) → is_host_fault ran.outcome ≡ false → IfSome o (λ x. x ≡ ran.outcome) → IsTold o ran.text (g.written old) (g.written mid)
      → (Failed → Rose (g.faults old) (g.faults mid)) → g.faults old ≤ g.faults mid
      → MatchOption (option_and_then host_last_of o) ((new ≡ mid) × (((result ≡ SINK_FAILED) × Failed) ⊎ (result ≡ NO_MEMORY))) (λ last. Finishes g (λ r. r ≡ last) mid new result)
      → Finishes g (IsReplyToCallsOver p calls input answers b) old new result
  by_outcome g None Failed old mid new result fits right outcome told rose counted (same, which) =
      let last = host_last_there ran.outcome right in
      subst (λ k. Finishes g (IsReplyToCallsOver p calls input answers b) old k result) (sym same)
      (cut_off g (IsReplyToCallsOver p calls input answers b) (λ r. r ≡ last.0) ran.text old mid result (ran_says last.0 fits last.1) told
      (λ three. failed which three) (either which))
    where
      failed : ((result ≡ SINK_FAILED) × Failed) ⊎ (result ≡ NO_MEMORY) → result ≡ SINK_FAILED → Rose (g.faults old) (g.faults mid)
      failed (inl (three, f)) also = rose f
      failed (inr four) also = absurd (omega (arith, four, also))

      either : ((result ≡ SINK_FAILED) × Failed) ⊎ (result ≡ NO_MEMORY) → (result ≡ SINK_FAILED) ⊎ (result ≡ NO_MEMORY)
      either (inl (three, f)) = inl three
      either (inr four) = inr four
  by_outcome g (Some o) Failed old mid new result fits right outcome told rose counted f =
      let last = host_last_there ran.outcome right in
      let of : host_last_of o ≡ Some last.0 = ap host_last_of outcome ∙ last.1 in
      came_to_end g (IsReplyToCallsOver p calls input answers b) (λ r. r ≡ last.0) ran.text old mid new result (ran_says last.0 fits last.1) told counted
      (subst (λ m. MatchOption m ((new ≡ mid) × (((result ≡ SINK_FAILED) × Failed) ⊎ (result ≡ NO_MEMORY))) (λ l. Finishes g (λ r. r ≡ l) mid new result)) of f)

stops_same : (s u : HostStop) → Stopped s ≡ Stopped u → s ≡ u
stops_same s u e = cc

over_numbers : {K : Type 0} (g : Ghosts K) (p : Program) (calls : List HostCall) (input : List ℤ) (answers : List (List ℤ)) (b : Budgets) (old mid new : K) (end : RunEnd HostStop) (result : ℕ)
    → NeverGoesWrongForHosts p → ends.EndsRun p calls input answers b (seen g old) (seen g mid) end → EndsHost g end mid new result
    → Finishes g (IsReplyToCallsOver p calls input answers b) old new result
over_numbers g p calls input answers b old mid new (BadInput line) result never x f = absurd x
over_numbers g p calls input answers b old mid new (BadAnswers line) result never x f = absurd x
over_numbers g p calls input answers b old mid new TooWide result never (wide, same) f =
    line_alone g (IsReplyToCallsOver p calls input answers b) old mid new result (over_reply VALUE_SLOTS) same (inl (wide, refl)) (λ two. omega (arith, two)) f
over_numbers g p calls input answers b old mid new (Stopped s) result never (fits, x) f =
    by_outcome p calls input answers b g (host_outcome_of s) (Stopped s ≡ Stopped (host.Stopped SinkFault)) old mid new result fits
    (never b.fuel b.heap b.depth input answers calls) x.outcome x.told (λ cut. x.cause (stops_same s (host.Stopped SinkFault) cut)) x.counted f
over_numbers g p calls input answers b old mid new Memory result never same f =
    memory_wanting g (IsReplyToCallsOver p calls input answers b) old mid new result same f

-- ---- the files of numbers

-- a bad line is told, or memory ran out
refused : {K : Type 0} (g : Ghosts K) (Replies : Reply → Type 0) (old mid new : K) (refusal end : RunEnd HostStop) (result : ℕ) (last : Reply) → Replies last → last.status ≢ UNREAD
    → (EndsHost g refusal mid new result → Finishes g (λ r. r ≡ last) mid new result)
    → IsRefusal refusal (seen g old) (seen g mid) end → EndsHost g end mid new result → Finishes g Replies old new result
refused g Replies old mid new refusal end result last is inside tells (inl is_so, same) f =
    line_alone g Replies old mid new result last same is inside (tells (subst (λ e. EndsHost g e mid new result) is_so f))
refused g Replies old mid new refusal end result last is inside tells (inr memory, same) f =
    memory_wanting g Replies old mid new result same (subst (λ e. EndsHost g e mid new result) memory f)

over_given : {K : Type 0} (g : Ghosts K) (p : Program) (calls : List HostCall) (given : Given) (b : Budgets) (old mid new : K) (end : RunEnd HostStop) (result : ℕ)
    → NeverGoesWrongForHosts p → EndsGiven p calls given b (seen g old) (seen g mid) end → EndsHost g end mid new result → Finishes g (IsReplyToCalls p calls given b) old new result
over_given g p calls (numbers input answers) b old mid new end result never x f = over_numbers g p calls input answers b old mid new end result never x f
over_given g p calls (bad_input line) b old mid new end result never x f =
    refused g (IsReplyToCalls p calls (bad_input line) b) old mid new (BadInput line) end result (numbers_reply (codes "input") line) refl (λ two. omega (arith, two)) (λ e. e) x f
over_given g p calls (bad_answers line) b old mid new end result never x f =
    refused g (IsReplyToCalls p calls (bad_answers line) b) old mid new (BadAnswers line) end result (numbers_reply (codes "answers") line) refl (λ two. omega (arith, two)) (λ e. e) x f

-- ---- the calls file

-- the calls of a file were made on a program, which ended so, and the last line was written
pub calls_ended : {K : Type 0} (g : Ghosts K) (p : Program) (asked : Result (List HostCall) ℕ) (calls : List HostCall) (input answers input' answers' : List ℕ) (b : Budgets) (old mid new : K)
    (end : RunEnd HostStop) (result : ℕ) → asked ≡ Ok calls → input ≡ input' → answers ≡ answers' → NeverGoesWrongForHosts p
    → EndsAs p calls input answers b (seen g old) (seen g mid) end → EndsHost g end mid new result → Finishes g (IsReplyToHost p asked (given_by input' answers') b) old new result
calls_ended g p asked calls input answers input' answers' b old mid new end result is i a never x f =
    let given = given_by input' answers' in
    subst (λ c. Finishes g (IsReplyToHost p c given b) old new result) (sym is)
    (subst (λ l. Finishes g (IsReplyToCalls p calls (given_by l answers') b) old new result) i
    (subst (λ l. Finishes g (IsReplyToCalls p calls (given_by input l) b) old new result) a
    (over_given g p calls (given_by input answers) b old mid new end result never x f)))

-- the first line that is no call is told, or memory ran out
pub calls_refused : {K : Type 0} (g : Ghosts K) (p : Program) (asked : Result (List HostCall) ℕ) (e : CallsError) (given : Given) (b : Budgets) (old new : K) (result : ℕ)
    → ((line : ℕ) → e ≡ calls_error.Bad line → asked ≡ Err line) → RefusesCalls g e old new result → Finishes g (IsReplyToHost p asked given b) old new result
calls_refused g p asked (calls_error.Bad line) given b old new result cause f = subst (λ c. Finishes g (IsReplyToHost p c given b) old new result) (sym (cause line refl)) f
calls_refused g p asked calls_error.Memory given b old new result cause (same, four) =
    subst (λ k. Finishes g (IsReplyToHost p asked given b) old k result) (sym same)
    (subst (λ n. Finishes g (IsReplyToHost p asked given b) old old n) (sym four) (none_written g (IsReplyToHost p asked given b) old))
