-- How a run that came to its end, or was cut off, ends.
use Rattle.std.proofs.Common.{◌≡◌, ◌⊎◌, inl, inr, ℕ, ℤ, List, [], Option, None, Result, Ok, Err, IfSome, refl, sym, ap, ◌∙◌, ◌↔◌, subst}
use Rattle.std.specs.List.{flat_map}
use Rattle.std.proofs.lemmas.Option.{none-some}
use Rattle.vlt_io.specs.Outside.{Grew, GrewByPart}
use Rattle.vlt_numbers.specs.Given.Given.{Given, numbers, bad_input, bad_answers}
use Rattle.vlt_numbers.specs.declared.given.GivenError.{GivenError}
use Rattle.vlt_numbers.specs.declared.given.GivenError.TheVariants as error
use Rattle.vlt_steps.specs.declared.end.RunEnd.{RunEnd}
use Rattle.vlt_steps.specs.declared.end.RunEnd.TheVariants.{BadInput, BadAnswers, Memory}
use Rattle.vlt_steps.specs.declared.errors.OpenError.{OpenError}
use Rattle.vlt_steps.specs.declared.errors.OpenError.TheVariants as unopened
use Rattle.vlt_steps.specs.Writing.{Outside, WasCut}
use Rattle.vlt_steps.specs.Stops.{HasStopped, IsTold, EndsAs}
use Rattle.vlt_steps.specs.Ends.{EndsGiven, refusal_of}

-- ---- the machine

module _ {Stop Outcome Event : Type 0} (outcome_of : Stop → Option Outcome) (sink_fault : Stop) (none : outcome_of sink_fault ≡ None) (line : Event → List ℕ)
    (before after : Outside) (o : Outcome) (rest : ℕ) (events : List Event) (stop : Stop) (left : ℕ) where
  -- the run came to its end
  stopped_ends : HasStopped (outcome_of stop) left line [] before after o rest events → EndsAs outcome_of sink_fault o rest (flat_map line events) before after (record { stop = stop; fuel = left })
  stopped_ends h = record {
    stops = record {
      outcome = subst (λ x. IfSome x (λ p. p ≡ o)) (sym h.outcome) refl;
      told = subst (λ x. IsTold x (flat_map line events) before.written after.written) (sym h.outcome) (subst (λ es. Grew before.written after.written (flat_map line es)) (sym h.wrote.added) h.wrote.grew);
      cause = λ fault. absurd (none-some o (sym none ∙ ap outcome_of (sym fault) ∙ h.outcome));
      counted = h.wrote.counted;
    };
    fuel = subst (λ x. IfSome x (λ p. left ≡ rest)) (sym h.outcome) (sym h.fuel);
  }

  -- the sink cut it off
  cut_ends : WasCut sink_fault line [] events before after stop → EndsAs outcome_of sink_fault o rest (flat_map line events) before after (record { stop = stop; fuel = left })
  cut_ends h =
      let no_outcome : outcome_of stop ≡ None = ap outcome_of h.fault ∙ none in
      record {
        stops = record {
          outcome = subst (λ x. IfSome x (λ p. p ≡ o)) (sym no_outcome) tt;
          told = subst (λ x. IsTold x (flat_map line events) before.written after.written) (sym no_outcome) (subst (λ es. GrewByPart before.written after.written (flat_map line es)) (sym h.added) h.grew);
          cause = λ fault. h.rose;
          counted = h.counted;
        };
        fuel = subst (λ x. IfSome x (λ p. left ≡ rest)) (sym no_outcome) tt;
      }

  pub finished_ends : HasStopped (outcome_of stop) left line [] before after o rest events ⊎ WasCut sink_fault line [] events before after stop → EndsAs outcome_of sink_fault o rest (flat_map line events) before after (record { stop = stop; fuel = left })
  finished_ends (inl h) = stopped_ends h
  finished_ends (inr h) = cut_ends h

-- a machine that was opened isn't too wide
pub fits : {Machine : Type 0} (r : Result Machine OpenError) (m : Machine) (Wide : Type 0) → r ≡ Ok m → (r ≡ Err unopened.TooWide) ↔ Wide → Wide → ⊥
fits {Machine} r m Wide is wide w = let e : Ok m ≡ Err unopened.TooWide = sym is ∙ wide.1 w in cc

-- ---- the files of numbers

module _ {Stop : Type 0} (Ends : List ℤ → List (List ℤ) → RunEnd Stop → Type 0) (given : Given) where
  pub over_numbers : (input : List ℤ) (answers : List (List ℤ)) (before after : Outside) (end : RunEnd Stop) → given ≡ numbers input answers → Ends input answers end → EndsGiven Ends given before after end
  over_numbers input answers before after end is h = subst (λ g. EndsGiven Ends g before after end) (sym is) h

  input_refused : (line : ℕ) (b : Outside) → given ≡ bad_input line → EndsGiven Ends given b b (BadInput line)
  input_refused line b is = subst (λ g. EndsGiven Ends g b b (BadInput line)) (sym is) (inl refl, refl)

  answers_refused : (line : ℕ) (b : Outside) → given ≡ bad_answers line → EndsGiven Ends given b b (BadAnswers line)
  answers_refused line b is = subst (λ g. EndsGiven Ends g b b (BadAnswers line)) (sym is) (inl refl, refl)

  -- want of memory, whatever the files give
  memory_ends : (b : Outside) → ((input : List ℤ) (answers : List (List ℤ)) → Ends input answers Memory) → EndsGiven Ends given b b Memory
  memory_ends b h = by given
    where
      by : (g : Given) → EndsGiven Ends g b b Memory
      by (numbers input answers) = h input answers
      by (bad_input line) = (inr refl, refl)
      by (bad_answers line) = (inr refl, refl)

  -- the files give no numbers
  pub refused : (e : GivenError) (b : Outside) → ((line : ℕ) → e ≡ error.BadInput line → given ≡ bad_input line) → ((line : ℕ) → e ≡ error.BadAnswers line → given ≡ bad_answers line)
      → ((input : List ℤ) (answers : List (List ℤ)) → Ends input answers Memory) → EndsGiven Ends given b b (refusal_of e)
  refused (error.BadInput line) b input answers none = input_refused line b (input line refl)
  refused (error.BadAnswers line) b input answers none = answers_refused line b (answers line refl)
  refused error.Memory b input answers none = memory_ends b none
