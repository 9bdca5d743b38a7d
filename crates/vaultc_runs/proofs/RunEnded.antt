-- What is written of the run of a program: its events, and the last line of its end.
use Rattle.std.proofs.Common.{◌≡◌, ◌⊎◌, inl, inr, ℕ, ℤ, ◌≤◌, false, List, [], Option, Some, None, refl, sym, ap, subst, ◌∙◌, arith}
use Rattle.std.specs.Prelude.{◌≢◌, MatchOption, IfSome, codes}
use Rattle.std.specs.Option.{option_and_then}
use Rattle.vlt_base.specs.declared.Budgets.{Budgets}
use Rattle.vlt_base.specs.declared.limits.TheConstants.{VALUE_SLOTS}
use Rattle.vlt_io.specs.Outside.{Rose, Grew}
use Rattle.vlt_io.specs.declared.sink.Sink.{Ghosts}
use Rattle.vlt_core.specs.Core.{Program}
use Rattle.vlt_meaning.specs.World.{Outcome, done, trap, fuel_end, heap_end, depth_end, input_end, answers_end, bad_answer, fault, is_fault, event_text}
use Rattle.vlt_meaning.specs.Run as meaning
use Rattle.vlt_steps.specs.Writing.{Outside, IsUntouched}
use Rattle.vlt_acts.specs.Hosts.Stops.{outcome_of}
use Rattle.vlt_steps.specs.Stops.{IsTold}
use Rattle.vlt_steps.specs.declared.stop.Stop.{Stop}
use Rattle.vlt_steps.specs.declared.stop.Stop.TheVariants.{SinkFault}
use Rattle.vlt_numbers.specs.Given.Given.{Given, numbers, bad_input, bad_answers, given_by}
use Rattle.vlt_steps.specs.declared.end.RunEnd.{RunEnd}
use Rattle.vlt_steps.specs.declared.end.RunEnd.TheVariants.{BadInput, BadAnswers, TooWide, Stopped, Memory}
use Rattle.vlt_steps.specs.Ends.{IsRefusal}
use Rattle.vlt_interp.specs.Runs.Ends as ends
use Rattle.vlt_interp.specs.Runs.Ends.{IsTooWide, EndsGiven, EndsAs}
use Rattle.vlt_sound.specs.Promise.{NeverGoesWrong}
use Rattle.vaultc_runs.specs.declared.status.TheConstants.{UNREAD, SINK_FAILED, NO_MEMORY}
use Rattle.vaultc_runs.specs.Finishes.{Finishes}
use Rattle.vaultc_runs.specs.Lines.{Reply, over_reply, numbers_reply, following}
use Rattle.vaultc_runs.specs.Runs.{last_of, IsReplyOverNumbers, IsReplyToProgram}
use Rattle.vaultc_runs.specs.Shown.{EndsRun}
use Rattle.vaultc_runs.proofs.Ended.{Says, cut_off, came_to_end}
use Rattle.vaultc_runs.proofs.Finished.{grew_none}
use Rattle.vaultc_runs.proofs.Own.{own_outcome}

-- what is told of a sink
abbrev pub seen : {K : Type 0} (g : Ghosts K) → K → Outside
seen g k = record { written = g.written k; faults = g.faults k }

-- ---- ends before anything was written

pub untouched_grew : (before after : Outside) → IsUntouched before after → Grew before.written after.written []
untouched_grew before after same = subst (λ x. Grew before.written x.written []) (sym same) (grew_none before.written)

pub untouched_counted : (before after : Outside) → IsUntouched before after → before.faults ≤ after.faults
untouched_counted before after same = omega (arith, ap (λ x. x.faults) same)

says_last : (Replies : Reply → Type 0) (last : Reply) → Replies last → last.status ≢ UNREAD → Says Replies (λ r. r ≡ last) []
says_last Replies last is inside = record {
  replies = λ r same. subst Replies (sym same) is;
  inside = λ r same. subst (λ q. q.status ≢ UNREAD) (sym same) inside;
  some = (last, refl);
}

-- nothing was written, and then this line
pub line_alone : {K : Type 0} (g : Ghosts K) (Replies : Reply → Type 0) (old mid new : K) (result : ℕ) (last : Reply) → IsUntouched (seen g old) (seen g mid)
    → Replies last → last.status ≢ UNREAD → Finishes g (λ r. r ≡ last) mid new result → Finishes g Replies old new result
line_alone g Replies old mid new result last same is inside f =
    came_to_end g Replies (λ r. r ≡ last) [] old mid new result (says_last Replies last is inside)
    (untouched_grew (seen g old) (seen g mid) same) (untouched_counted (seen g old) (seen g mid) same) f

pub not_sink_fault : Memory ≡ Stopped SinkFault → ⊥
not_sink_fault e = cc

-- memory ran out, and nothing was written
memory_wanting : {K : Type 0} (g : Ghosts K) (Replies : Reply → Type 0) (old mid new : K) (result : ℕ) → IsUntouched (seen g old) (seen g mid)
    → EndsRun g Memory mid new result → Finishes g Replies old new result
memory_wanting g Replies old mid new result same (stays, inl (three, cut)) = absurd (not_sink_fault cut)
memory_wanting g Replies old mid new result same (stays, inr four) = record {
  whole = λ sink memory. absurd (memory four);
  failed = λ three. absurd (omega (arith, three, four));
  part = λ three. absurd (omega (arith, three, four));
  memory = λ _. inl (subst (λ k. Grew (g.written old) (g.written k) []) (sym stays) (untouched_grew (seen g old) (seen g mid) same));
}

-- ---- a run

-- every outcome but a fault has its last line
pub last_there : (o : Outcome) → is_fault o ≡ false → (last : Reply) × (last_of o ≡ Some last)
last_there done right = (_, refl)
last_there (trap t) right = (_, refl)
last_there fuel_end right = (_, refl)
last_there heap_end right = (_, refl)
last_there depth_end right = (_, refl)
last_there input_end right = (_, refl)
last_there answers_end right = (_, refl)
last_there (bad_answer n) right = (_, refl)
last_there (fault reason object) right = absurd cc

-- the events of the run and this last line are a reply
ran_says : (p : Program) (input : List ℤ) (answers : List (List ℤ)) (b : Budgets) (last : Reply) → (IsTooWide p b → ⊥)
    → last_of (meaning.run p b.fuel b.heap b.depth input answers).outcome ≡ Some last
    → Says (IsReplyOverNumbers p input answers b) (λ r. r ≡ last) (event_text (meaning.run p b.fuel b.heap b.depth input answers).world.events)
ran_says p input answers b last fits of =
    let ran = meaning.run p b.fuel b.heap b.depth input answers in
    record {
      replies = λ r same. inr (fits, (last, of, ap (following (event_text ran.world.events)) same));
      inside = λ r same. subst (λ q. q.status ≢ UNREAD) (sym same) (own_outcome ran.outcome last of).1;
      some = (last, refl);
    }

-- a machine stopped, by its outcome
by_outcome : {K : Type 0} (g : Ghosts K) (p : Program) (input : List ℤ) (answers : List (List ℤ)) (b : Budgets) (o : Option Outcome) (Failed : Type 0) (old mid new : K) (result : ℕ)
    → (IsTooWide p b → ⊥) → is_fault (meaning.run p b.fuel b.heap b.depth input answers).outcome ≡ false
    → IfSome o (λ x. x ≡ (meaning.run p b.fuel b.heap b.depth input answers).outcome)
    → IsTold o (event_text (meaning.run p b.fuel b.heap b.depth input answers).world.events) (g.written old) (g.written mid)
    → (Failed → Rose (g.faults old) (g.faults mid)) → g.faults old ≤ g.faults mid
    → MatchOption (option_and_then last_of o) ((new ≡ mid) × (((result ≡ SINK_FAILED) × Failed) ⊎ (result ≡ NO_MEMORY))) (λ last. Finishes g (λ r. r ≡ last) mid new result)
    → Finishes g (IsReplyOverNumbers p input answers b) old new result
by_outcome g p input answers b None Failed old mid new result fits right outcome told rose counted (same, which) =
    let ran = meaning.run p b.fuel b.heap b.depth input answers in
    let last = last_there ran.outcome right in
    subst (λ k. Finishes g (IsReplyOverNumbers p input answers b) old k result) (sym same)
    (cut_off g (IsReplyOverNumbers p input answers b) (λ r. r ≡ last.0) (event_text ran.world.events) old mid result (ran_says p input answers b last.0 fits last.1) told
    (λ three. failed which three) (either which))
  where
    failed : ((result ≡ SINK_FAILED) × Failed) ⊎ (result ≡ NO_MEMORY) → result ≡ SINK_FAILED → Rose (g.faults old) (g.faults mid)
    failed (inl (three, f)) also = rose f
    failed (inr four) also = absurd (omega (arith, four, also))

    either : ((result ≡ SINK_FAILED) × Failed) ⊎ (result ≡ NO_MEMORY) → (result ≡ SINK_FAILED) ⊎ (result ≡ NO_MEMORY)
    either (inl (three, f)) = inl three
    either (inr four) = inr four
by_outcome g p input answers b (Some o) Failed old mid new result fits right outcome told rose counted f =
    let ran = meaning.run p b.fuel b.heap b.depth input answers in
    let last = last_there ran.outcome right in
    let of : last_of o ≡ Some last.0 = ap last_of outcome ∙ last.1 in
    came_to_end g (IsReplyOverNumbers p input answers b) (λ r. r ≡ last.0) (event_text ran.world.events) old mid new result (ran_says p input answers b last.0 fits last.1) told counted
    (subst (λ m. MatchOption m ((new ≡ mid) × (((result ≡ SINK_FAILED) × Failed) ⊎ (result ≡ NO_MEMORY))) (λ l. Finishes g (λ r. r ≡ l) mid new result)) of f)

stops_same : (s u : Stop) → Stopped s ≡ Stopped u → s ≡ u
stops_same s u e = cc

over_numbers : {K : Type 0} (g : Ghosts K) (p : Program) (input : List ℤ) (answers : List (List ℤ)) (b : Budgets) (old mid new : K) (end : RunEnd Stop) (result : ℕ)
    → NeverGoesWrong p → ends.EndsRun p input answers b (seen g old) (seen g mid) end → EndsRun g end mid new result → Finishes g (IsReplyOverNumbers p input answers b) old new result
over_numbers g p input answers b old mid new (BadInput line) result never x f = absurd x
over_numbers g p input answers b old mid new (BadAnswers line) result never x f = absurd x
over_numbers g p input answers b old mid new TooWide result never (wide, same) f =
    line_alone g (IsReplyOverNumbers p input answers b) old mid new result (over_reply VALUE_SLOTS) same (inl (wide, refl)) (λ two. omega (arith, two)) f
over_numbers g p input answers b old mid new (Stopped s) result never (fits, x) f =
    by_outcome g p input answers b (outcome_of s) (Stopped s ≡ Stopped SinkFault) old mid new result fits (never b.fuel b.heap b.depth input answers) x.outcome x.told
    (λ cut. x.cause (stops_same s SinkFault cut)) x.counted f
over_numbers g p input answers b old mid new Memory result never same f =
    memory_wanting g (IsReplyOverNumbers p input answers b) old mid new result same f

-- ---- the files of numbers

-- a bad line is told, or memory ran out
refused : {K : Type 0} (g : Ghosts K) (Replies : Reply → Type 0) (old mid new : K) (refusal end : RunEnd Stop) (result : ℕ) (last : Reply) → Replies last → last.status ≢ UNREAD
    → (EndsRun g refusal mid new result → Finishes g (λ r. r ≡ last) mid new result)
    → IsRefusal refusal (seen g old) (seen g mid) end → EndsRun g end mid new result → Finishes g Replies old new result
refused g Replies old mid new refusal end result last is inside tells (inl is_so, same) f =
    line_alone g Replies old mid new result last same is inside (tells (subst (λ e. EndsRun g e mid new result) is_so f))
refused g Replies old mid new refusal end result last is inside tells (inr memory, same) f =
    memory_wanting g Replies old mid new result same (subst (λ e. EndsRun g e mid new result) memory f)

over_given : {K : Type 0} (g : Ghosts K) (p : Program) (given : Given) (b : Budgets) (old mid new : K) (end : RunEnd Stop) (result : ℕ)
    → NeverGoesWrong p → EndsGiven p given b (seen g old) (seen g mid) end → EndsRun g end mid new result → Finishes g (IsReplyToProgram p given b) old new result
over_given g p (numbers input answers) b old mid new end result never x f = over_numbers g p input answers b old mid new end result never x f
over_given g p (bad_input line) b old mid new end result never x f =
    refused g (IsReplyToProgram p (bad_input line) b) old mid new (BadInput line) end result (numbers_reply (codes "input") line) refl (λ two. omega (arith, two)) (λ e. e) x f
over_given g p (bad_answers line) b old mid new end result never x f =
    refused g (IsReplyToProgram p (bad_answers line) b) old mid new (BadAnswers line) end result (numbers_reply (codes "answers") line) refl (λ two. omega (arith, two)) (λ e. e) x f

-- a run ended so, and its last line was written
pub run_ended : {K : Type 0} (g : Ghosts K) (p : Program) (input answers input' answers' : List ℕ) (b : Budgets) (old mid new : K) (end : RunEnd Stop) (result : ℕ)
    → input ≡ input' → answers ≡ answers' → NeverGoesWrong p → EndsAs p input answers b (seen g old) (seen g mid) end → EndsRun g end mid new result
    → Finishes g (IsReplyToProgram p (given_by input' answers') b) old new result
run_ended g p input answers input' answers' b old mid new end result i a never x f =
    subst (λ l. Finishes g (IsReplyToProgram p (given_by l answers') b) old new result) i
    (subst (λ l. Finishes g (IsReplyToProgram p (given_by input l) b) old new result) a (over_given g p (given_by input answers) b old mid new end result never x f))
