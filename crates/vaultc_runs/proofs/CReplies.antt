-- `crun` has one reply to what it read, and it has some.
use Rattle.std.proofs.Common.{◌≡◌, ◌<◌, ◌⊎◌, inl, inr, ⊎_elim, ℕ, ℤ, List, [], Option, Some, refl, sym, ap, ◌∙◌, subst, arith}
use Rattle.std.specs.Prelude.{codes}
use Rattle.std.proofs.lemmas.Bool.{cases_lt}
use Rattle.std.proofs.lemmas.Option.{same_Some}
use Rattle.vlt_base.specs.declared.Budgets.{Budgets}
use Rattle.vlt_base.specs.declared.limits.TheConstants.{VALUE_SLOTS}
use Rattle.vlt_base.specs.declared.places.Span.{Span}
use Rattle.vlt_base.specs.Limits.{limit_of}
use Rattle.vlt_numbers.specs.Given.Given.{Given, numbers, bad_input, bad_answers, given_by}
use Rattle.vlt_steps.specs.declared.end.RunEnd.{RunEnd}
use Rattle.vlt_steps.specs.declared.end.RunEnd.TheVariants.{BadInput, BadAnswers, TooWide, Stopped, Memory}
use Rattle.vlt_steps.specs.Writing.{IsUntouched}
use Rattle.c_syntax.specs.C.{Program}
use Rattle.c_syntax.specs.Reading.{IsCProgramOf}
use Rattle.c_meaning.specs.Widths.{slots_needed}
use Rattle.c_meaning.specs.World.{Ran, event_text}
use Rattle.c_meaning.specs.Run.{c_run}
use Rattle.c_reader.specs.Reads.{IsUnread}
use Rattle.c_reader.specs.declared.error.CError.{CError}
use Rattle.c_reader.specs.declared.error.CError.TheVariants as error
use Rattle.c_reader_laws.specs.Laws.{IsReadInOneWay}
use Rattle.c_interp.specs.declared.stop.CStop.{CStop}
use Rattle.c_interp.specs.Halting.{StopsAs}
use Rattle.c_interp.specs.Runs.Ends.{IsTooWide, EndsGiven, EndsWith, EndsAs}
use Rattle.c_interp.specs.declared.runs.end.CEnd.{CEnd}
use Rattle.c_interp.specs.declared.runs.end.CEnd.TheVariants.{Unread, Ended}
use Rattle.vaultc_runs.specs.CRuns.{c_refusal, stop_reply, end_reply, took, IsReplyToC}
use Rattle.vaultc_runs.specs.Runs.{end_line}
use Rattle.vaultc_runs.specs.Lines.{Reply, over_reply, numbers_reply, following}
use Rattle.vaultc_runs.proofs.CEnded.{none_some, outcome_there, stop_for, line_of, stops_whole, of_outcome}

-- ---- what is replied, by what the files are

-- the run's events, and the last line of its outcome
abbrev SaysRan : Ran → Reply → Type 0
SaysRan ran r = r ≡ following (event_text ran.world.events) ((stop_for ran.outcome).last)

-- over the numbers of the files, or the lines of them that are bad
abbrev SaysOver : Program → Given → Budgets → Reply → Type 0
SaysOver p (bad_input line) b r = r ≡ numbers_reply (codes "input") line
SaysOver p (bad_answers line) b r = r ≡ numbers_reply (codes "answers") line
SaysOver p (numbers input answers) b r =
    (IsTooWide p b × (r ≡ over_reply VALUE_SLOTS)) ⊎ ((IsTooWide p b → ⊥) × SaysRan (c_run p b.fuel b.heap b.depth input answers) r)

-- of a text that stands for no program
record SaysUnread (text : List ℕ) (r : Reply) : Type 0 where
  error : CError
  is : IsUnread text error
  last : Reply
  line : c_refusal text error ≡ Some last
  same : r ≡ last

record SaysProgram (text input answers : List ℕ) (b : Budgets) (r : Reply) : Type 0 where
  program : Program
  cert : Option Span
  reads : IsCProgramOf text program cert
  says : SaysOver program (given_by input answers) b r

abbrev Says : (text input answers : List ℕ) → Budgets → Reply → Type 0
Says text input answers b r = SaysUnread text r ⊎ SaysProgram text input answers b r

-- ---- a reply says that

no_events : (events : List ℕ) → IsUntouched (took []) (took events) → events ≡ []
no_events events same = same_Some events [] (ap (λ o. o.written) same)

-- the last line alone
alone : (events : List ℕ) (last r : Reply) → IsUntouched (took []) (took events) → r ≡ following events last → r ≡ last
alone events last r same whole = whole ∙ ap (λ x. following x last) (no_events events same)

-- what a refused file of numbers has as reply
refused_line : (refusal end : RunEnd CStop) (line last r : Reply) → end_line stop_reply refusal ≡ Some line → (end ≡ refusal) ⊎ (end ≡ Memory) → end_line stop_reply end ≡ Some last → r ≡ last → r ≡ line
refused_line refusal end line last r is (inl e) told same = same ∙ same_Some last line (sym told ∙ ap (end_line stop_reply) e ∙ is)
refused_line refusal end line last r is (inr e) told same = absurd (none_some last (sym (ap (end_line stop_reply) e) ∙ told))

ran_says : (p : Program) (b : Budgets) (input : List ℤ) (answers : List (List ℤ)) (s : CStop) (events : List ℕ) (last r : Reply) → StopsAs (c_run p b.fuel b.heap b.depth input answers) (took []) (took events) s → stop_reply s ≡ Some last
    → r ≡ following events last → SaysRan (c_run p b.fuel b.heap b.depth input answers) r
ran_says p b input answers s events last r stops line whole =
    let ran = c_run p b.fuel b.heap b.depth input answers in
    let o = outcome_there s last line in
    let told = of_outcome ran (took []) (took events) s o.0 o.1 stops in
    let written : events ≡ event_text ran.world.events = same_Some events (event_text ran.world.events) told.1 in
    let last_is : last ≡ (stop_for ran.outcome).last = same_Some last ((stop_for ran.outcome).last) (sym line ∙ line_of s ran.outcome told.0) in
    whole ∙ ap (λ e. following e last) written ∙ ap (λ l. following (event_text ran.world.events) l) last_is

over : (p : Program) (given : Given) (b : Budgets) (end : RunEnd CStop) (events : List ℕ) (last r : Reply) → EndsGiven p given b (took []) (took events) end → end_line stop_reply end ≡ Some last → r ≡ following events last → SaysOver p given b r
over p (bad_input n) b end events last r x line whole = refused_line (BadInput n) end (numbers_reply (codes "input") n) last r refl x.0 line (alone events last r x.1 whole)
over p (bad_answers n) b end events last r x line whole = refused_line (BadAnswers n) end (numbers_reply (codes "answers") n) last r refl x.0 line (alone events last r x.1 whole)
over p (numbers input answers) b TooWide events last r x line whole = inl (x.0, alone events last r x.1 whole ∙ sym (same_Some (over_reply VALUE_SLOTS) last line))
over p (numbers input answers) b (Stopped s) events last r x line whole = inr (x.0, ran_says p b input answers s events last r x.1 line whole)
over p (numbers input answers) b (BadInput n) events last r x line whole = absurd x
over p (numbers input answers) b (BadAnswers n) events last r x line whole = absurd x
over p (numbers input answers) b Memory events last r x line whole = absurd (none_some last line)

with_program : (text input answers : List ℕ) (b : Budgets) (end : RunEnd CStop) (events : List ℕ) (last r : Reply) → EndsWith text input answers b (took []) (took events) end → end_line stop_reply end ≡ Some last
    → r ≡ following events last → Says text input answers b r
with_program text input answers b end events last r x line whole = inr (record {
  program = x.program;
  cert = x.cert;
  reads = x.reads;
  says = over x.program (given_by input answers) b end events last r x.ends line whole;
})

says : (text input answers : List ℕ) (b : Budgets) (end : CEnd) (events : List ℕ) (last r : Reply) → EndsAs text input answers b (took []) (took events) end → end_reply text end ≡ Some last
    → r ≡ following events last → Says text input answers b r
says text input answers b (Unread e) events last r ends line whole = inl (record { error = e; is = ends.0; last = last; line = line; same = alone events last r ends.1 whole })
says text input answers b (Ended (BadInput n)) events last r x line whole = with_program text input answers b (BadInput n) events last r x line whole
says text input answers b (Ended (BadAnswers n)) events last r x line whole = with_program text input answers b (BadAnswers n) events last r x line whole
says text input answers b (Ended TooWide) events last r x line whole = with_program text input answers b TooWide events last r x line whole
says text input answers b (Ended (Stopped s)) events last r x line whole = with_program text input answers b (Stopped s) events last r x line whole
says text input answers b (Ended Memory) events last r x line whole = absurd (none_some last line)

-- ---- one reply

over_once : (p : Program) (given : Given) (b : Budgets) (r q : Reply) → SaysOver p given b r → SaysOver p given b q → r ≡ q
over_once p (bad_input line) b r q is also = is ∙ sym also
over_once p (bad_answers line) b r q is also = is ∙ sym also
over_once p (numbers input answers) b r q (inl x) (inl y) = x.1 ∙ sym y.1
over_once p (numbers input answers) b r q (inl x) (inr y) = absurd (y.0 x.0)
over_once p (numbers input answers) b r q (inr x) (inl y) = absurd (x.0 y.0)
over_once p (numbers input answers) b r q (inr x) (inr y) = x.1 ∙ sym y.1

module _ {text : List ℕ} (law : IsReadInOneWay text) where
  says_once : (input answers : List ℕ) (b : Budgets) (r q : Reply) → Says text input answers b r → Says text input answers b q → r ≡ q
  says_once input answers b r q (inl x) (inl y) =
      let one = law.one_reason x.error y.error x.is y.is in
      x.same ∙ same_Some x.last y.last (sym x.line ∙ ap (c_refusal text) one ∙ y.line) ∙ sym y.same
  says_once input answers b r q (inl x) (inr y) = absurd (law.never_both y.program y.cert x.error y.reads x.is)
  says_once input answers b r q (inr x) (inl y) = absurd (law.never_both x.program x.cert y.error x.reads y.is)
  says_once input answers b r q (inr x) (inr y) =
      let one = law.one_program x.program y.program x.cert y.cert x.reads y.reads in
      over_once y.program (given_by input answers) b r q (subst (λ p. SaysOver p (given_by input answers) b r) one.0 x.says) y.says

  pub one_c_reply : (input answers : List ℕ) (b : Budgets) (r q : Reply) → IsReplyToC text input answers b r → IsReplyToC text input answers b q → r ≡ q
  one_c_reply input answers b r q x y =
      says_once input answers b r q (says text input answers b x.end x.events x.last r x.ends x.last_is x.whole) (says text input answers b y.end y.events y.last q y.ends y.last_is y.whole)

-- ---- some reply

pub over_or_not : (limit n : ℕ) → (limit < n) ⊎ ((limit < n) → ⊥)
over_or_not limit n = ⊎_elim inl (λ le. inr (λ lt. omega (arith, le, lt))) (cases_lt limit n)

abbrev HasReply : (text input answers : List ℕ) → Budgets → Type 0
HasReply text input answers b = (r : Reply) × IsReplyToC text input answers b r

-- an end that writes nothing but its line
ends_at_once : (text input answers : List ℕ) (b : Budgets) (end : CEnd) (last : Reply) → EndsAs text input answers b (took []) (took []) end → end_reply text end ≡ Some last → HasReply text input answers b
ends_at_once text input answers b end last ends line = (following [] last, record { end = end; events = []; ends = ends; last = last; last_is = line; whole = refl })

of_unread : (text input answers : List ℕ) (b : Budgets) (e : CError) → IsUnread text e → HasReply text input answers b
of_unread text input answers b (error.Unexpected at) is = ends_at_once text input answers b (Unread (error.Unexpected at)) _ (is, refl) refl
of_unread text input answers b error.EndOfText is = ends_at_once text input answers b (Unread error.EndOfText) _ (is, refl) refl
of_unread text input answers b (error.Kind rule at) is = ends_at_once text input answers b (Unread (error.Kind rule at)) _ (is, refl) refl
of_unread text input answers b (error.Limit n) is = ends_at_once text input answers b (Unread (error.Limit n)) _ (is, refl) refl
of_unread text input answers b error.Memory is = absurd is

module _ (text input answers : List ℕ) (b : Budgets) (p : Program) (c : Option Span) (reads : IsCProgramOf text p c) where
  -- the same over what the files give
  given_ends : (given : Given) → given_by input answers ≡ given → (events : List ℕ) (end : RunEnd CStop) → EndsGiven p given b (took []) (took events) end → EndsWith text input answers b (took []) (took events) end
  given_ends given e events end ends =
      record { program = p; cert = c; reads = reads; ends = subst (λ g. EndsGiven p g b (took []) (took events) end) (sym e) ends }

  of_numbers : (ns : List ℤ) (lists : List (List ℤ)) → given_by input answers ≡ numbers ns lists → IsTooWide p b ⊎ (IsTooWide p b → ⊥) → HasReply text input answers b
  of_numbers ns lists e (inl wide) =
      ends_at_once text input answers b (Ended TooWide) (over_reply VALUE_SLOTS) (given_ends (numbers ns lists) e [] TooWide (wide, refl)) refl
  of_numbers ns lists e (inr fits) =
      let ran = c_run p b.fuel b.heap b.depth ns lists in
      let s = stop_for ran.outcome in
      let events = event_text ran.world.events in (
        following events s.last,
        record {
          end = Ended (Stopped s.stop);
          events = events;
          ends = given_ends (numbers ns lists) e events (Stopped s.stop) (fits, stops_whole ran s.stop s.outcome);
          last = s.last;
          last_is = s.line;
          whole = refl;
        },
      )

  of_given : (given : Given) → given_by input answers ≡ given → HasReply text input answers b
  of_given (bad_input line) e = ends_at_once text input answers b (Ended (BadInput line)) (numbers_reply (codes "input") line) (given_ends (bad_input line) e [] (BadInput line) (inl refl, refl)) refl
  of_given (bad_answers line) e = ends_at_once text input answers b (Ended (BadAnswers line)) (numbers_reply (codes "answers") line) (given_ends (bad_answers line) e [] (BadAnswers line) (inl refl, refl)) refl
  of_given (numbers ns lists) e = of_numbers ns lists e (over_or_not (limit_of VALUE_SLOTS) (slots_needed p b.depth b.heap))

pub some_c_reply : {text : List ℕ} → IsReadInOneWay text → (input answers : List ℕ) (b : Budgets) → HasReply text input answers b
some_c_reply {text} law input answers b = ⊎_elim (λ x. of_given text input answers b x.0 x.1 x.2 (given_by input answers) refl) (λ x. of_unread text input answers b x.0 x.1) law.either
