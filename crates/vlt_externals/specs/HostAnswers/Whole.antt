-- Whole answers that were read.
use Rattle.std.specs.Prelude.{◌≡◌, ℕ, ℤ, nat_lt, List, [], length, Option, None, Some, slice_get}
use Rattle.std.specs.Borrow.{Bor}
use Rattle.vlt_core.specs.Core.{Func, Program}
use Rattle.vlt_core.specs.Lookups.{cases_of, after_set}
use Rattle.vlt_core.specs.View.{case_of}
use Rattle.vlt_meaning.specs.Calls.{entries_after}
use Rattle.vlt_meaning.specs.HostAnswers.{natural, each, state_in, result_read, Answer, answer_of}
use Rattle.vlt_externals.specs.declared.host_answers.whole.CaseRead.{CaseRead}

-- the case of a variant that a number tells
abbrev pub case_number : Program → (type : ℕ) → List ℤ → Option (ℕ × List ℤ)
case_number p t = natural (λ c. nat_lt c (length (cases_of p t)))

pub record HasCaseRead (p : Program) (t : ℕ) (zs : List ℤ) (r : CaseRead) : Type 0 where
  pub number : case_number p t zs ≡ Some (r.case, r.left.now)
  pub decl : slice_get (cases_of p t) r.case ≡ Some (case_of r.decl.now)

abbrev pub IsCaseRead : Program → (type : ℕ) → List ℤ → Option CaseRead → Type 0
IsCaseRead p t zs None = case_number p t zs ≡ None
IsCaseRead p t zs (Some r) = HasCaseRead p t zs r

-- an answer that fits, of which the result has these numbers
pub record Fits (p : Program) (g : Func) (zs rs : List ℤ) : Type 0 where
  pub answer : Answer
  pub is : answer_of p g zs ≡ Some answer
  pub states : each (λ e. state_in (after_set p g e)) (entries_after g) zs ≡ Some (answer.states, rs)
  pub result : result_read p g.result rs ≡ Some (answer.result, [])

abbrev pub IsFitting : Program → Func → List ℤ → Option (Bor (List ℤ)) → Type 0
IsFitting p g zs None = answer_of p g zs ≡ None
IsFitting p g zs (Some r) = Fits p g zs r.now
