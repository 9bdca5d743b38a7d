-- Whole answers.
use Rattle.std.proofs.Common.{◌≡◌, ◌<◌, ◌≤◌, length, arith, ℕ, ℤ, List, [], ◌∷◌, Option, None, Some, refl, sym, ap, ◌∙◌, subst}
use Rattle.std.proofs.lemmas.Option.{none-some, same_Some}
use Rattle.vlt_core.specs.Core.{Func, Program}
use Rattle.vlt_core.specs.Lookups.{after_set}
use Rattle.vlt_meaning.specs.Calls.{entries_after}
use Rattle.vlt_meaning.specs.HostAnswers.{reads, then_reads, ◌>>=◌, each, state_in, Result, result_read, Answer, if_last, answer_of}
use Rattle.vlt_externals.specs.HostAnswers.Read.{rest_of}
use Rattle.vlt_externals.specs.HostAnswers.Whole.{Fits}

abbrev pub after_states : Program → Func → Option (List ℕ × List ℤ) → Option (Answer × List ℤ)
after_states p g = then_reads (λ states. result_read p g.result >>= (λ r. reads (record { states = states; result = r })))

abbrev pub after_result : (states : List ℕ) → Option (Result × List ℤ) → Option (Answer × List ℤ)
after_result states = then_reads (λ r. reads (record { states = states; result = r }))

module _ (p : Program) (g : Func) (zs : List ℤ) where
  abbrev states_read : Option (List ℕ × List ℤ)
  states_read = each (λ e. state_in (after_set p g e)) (entries_after g) zs

  -- the states of entries can't be read
  pub no_states : None ≡ rest_of states_read → answer_of p g zs ≡ None
  no_states e = by states_read e
    where
      by : (x : Option (List ℕ × List ℤ)) → None ≡ rest_of x → if_last (after_states p g x) ≡ None
      by None e = refl
      by (Some q) e = absurd (none-some q.1 e)

  record StatesAre (rs : List ℤ) : Type 0 where
    states : List ℕ
    are : states_read ≡ Some (states, rs)

  states_are : (rs : List ℤ) → Some rs ≡ rest_of states_read → StatesAre rs
  states_are rs e = by states_read refl e
    where
      by : (x : Option (List ℕ × List ℤ)) → states_read ≡ x → Some rs ≡ rest_of x → StatesAre rs
      by None at e = absurd (none-some rs (sym e))
      by (Some q) at e = record { states = q.0; are = at ∙ ap (λ ls. Some (q.0, ls)) (sym (same_Some rs q.1 e)) }

  pub no_result : (rs : List ℤ) → Some rs ≡ rest_of states_read → None ≡ rest_of (result_read p g.result rs) → answer_of p g zs ≡ None
  no_result rs e none =
      let s = states_are rs e in
      ap (λ x. if_last (after_states p g x)) s.are ∙ by s.states (result_read p g.result rs) none
    where
      by : (states : List ℕ) (x : Option (Result × List ℤ)) → None ≡ rest_of x → if_last (after_result states x) ≡ None
      by states None e = refl
      by states (Some q) e = absurd (none-some q.1 e)

  pub left_over : (rs : List ℤ) (z : ℤ) (more : List ℤ) → Some rs ≡ rest_of states_read → Some (z ∷ more) ≡ rest_of (result_read p g.result rs) → answer_of p g zs ≡ None
  left_over rs z more e over =
      let s = states_are rs e in
      ap (λ x. if_last (after_states p g x)) s.are ∙ by s.states (result_read p g.result rs) over
    where
      last : (a : Answer) (ls : List ℤ) → z ∷ more ≡ ls → ◌≡◌ {A = Option Answer} (if_last (Some (a, ls))) None
      last a ls is = subst (λ x. ◌≡◌ {A = Option Answer} (if_last (Some (a, x))) None) is refl

      by : (states : List ℕ) (x : Option (Result × List ℤ)) → Some (z ∷ more) ≡ rest_of x → if_last (after_result states x) ≡ None
      by states None e = absurd (none-some (z ∷ more) (sym e))
      by states (Some q) e = last (record { states = states; result = q.0 }) q.1 (same_Some (z ∷ more) q.1 e)

  pub it_fits : (rs : List ℤ) → Some rs ≡ rest_of states_read → Some [] ≡ rest_of (result_read p g.result rs) → Fits p g zs rs
  it_fits rs e all =
      let s = states_are rs e in by s (result_read p g.result rs) refl all
    where
      by : (s : StatesAre rs) (x : Option (Result × List ℤ)) → result_read p g.result rs ≡ x → Some [] ≡ rest_of x → Fits p g zs rs
      by s None at e = absurd (none-some [] (sym e))
      by s (Some q) at e =
          let whole : result_read p g.result rs ≡ Some (q.0, []) = at ∙ ap (λ ls. Some (q.0, ls)) (sym (same_Some [] q.1 e)) in
          record {
            answer = record { states = s.states; result = q.0 };
            is = ap (λ x. if_last (after_states p g x)) s.are ∙ ap (λ x. if_last (after_result s.states x)) whole;
            states = s.are;
            result = whole;
          }

  pub fits_empty : (rs ls : List ℤ) → Some rs ≡ rest_of states_read → Some ls ≡ rest_of (result_read p g.result rs) → length ls < 1 → Fits p g zs rs
  fits_empty rs [] e a l = it_fits rs e a
  fits_empty rs (z ∷ ls) e a l = absurd (omega (arith, l))

  pub fits_not : (rs ls : List ℤ) → Some rs ≡ rest_of states_read → Some ls ≡ rest_of (result_read p g.result rs) → 1 ≤ length ls → answer_of p g zs ≡ None
  fits_not rs [] e a l = absurd (omega (arith, l))
  fits_not rs (z ∷ ls) e a l = left_over rs z ls e a
