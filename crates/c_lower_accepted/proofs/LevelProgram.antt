-- An accepted program with an ordered set of states and bound entries: all that the law asks of it is so.
use Rattle.std.proofs.Common.{ℤ, pos, ◌≡◌, ◌<◌, ◌≤◌, ℕ, zero, suc, ◌==◌, ◌||◌, Bool, true, false, IsTrue, List, [], ◌∷◌, length, Option, Some, None, IfSome, slice_get, refl, sym, ap, ◌∙◌, subst, arith}
use Rattle.std.proofs.lemmas.Bool.{false≢true, eqb-true}
use Rattle.std.proofs.lemmas.Option.{none-some, same_Some}
use Rattle.vlt_syntax.specs.Lists.{Each}
use Rattle.vlt_core.specs.Core.{States, VarDecl, SetDecl, CaseDecl, Entry, Func}
use Rattle.std.specs.Option.{option_map}
use Rattle.vlt_core.specs.Lookups as lookups
use Rattle.vlt_core.specs.Lookups.{all_states, release_set, cases_of, case_at, owning_states_in}
use Rattle.vlt_core_laws.specs.States.{IsFilledSet, HasStates}
use Rattle.vlt_meaning_samples.specs.Told.{in_set}
use Rattle.vlt_meaning_samples.specs.Levels.{program}
use Rattle.vlt_resolve_laws.proofs.OfKindsLaws.Rows.{each_at}
use Rattle.vlt_sound.specs.Narrow.{HasNarrowHeads}
use Rattle.vlt_sound_worlds.specs.Limited.{IsNarrow}
use Rattle.vlt_meaning_samples.proofs.Levels.{accepted}
use Rattle.vlt_core.specs.Proper.{is_proper, all_in}
use Rattle.vlt_meaning.specs.World as source
use Rattle.vlt_meaning.specs.Run as run
use Rattle.vlt_meaning.specs.Step as step
use Rattle.vlt_meaning.specs.Operands as operands
use Rattle.vlt_meaning.specs.Calls as calls
use Rattle.vlt_meaning.specs.Externals as ext
use Rattle.c_meaning.specs.World as cw
use Rattle.c_meaning.specs.Run as crun
use Rattle.c_lower.specs.Lowering.{lowered}
use Rattle.c_lower_runs.specs.SameRuns.{c_outcome}
use Rattle.c_lower_worlds.specs.Given.{IsFed}
use Rattle.c_lower_accepted.specs.Accepted.{IsAcceptedProgram}
use Rattle.c_lower_accepted.specs.Promise.{RunsAlike, IsDefined}
use Rattle.c_lower_accepted.proofs.Accepted.{accepted_alike, accepted_defined}

-- ---- sets

set_narrow : (ns : List ℕ) → Each (λ (n : ℕ). n < 32) ns → IsNarrow (in_set ns)
set_narrow ns h = record { below = λ s e. by ns s h e }
  where
    by : (ns : List ℕ) (s : ℕ) → Each (λ (n : ℕ). n < 32) ns → IsTrue (in_set ns s) → s < 32
    by [] s h e = absurd (false≢true e)
    by (n ∷ ns) s h e = one (n == s) refl h e (by ns s h.1)
      where
        one : (b : Bool) → (n == s) ≡ b → Each (λ (n : ℕ). n < 32) (n ∷ ns) → (b || in_set ns s) ≡ true → (IsTrue (in_set ns s) → s < 32) → s < 32
        one true q h e rest = subst (λ s. s < 32) (eqb-true n s q) h.0
        one false q h e rest = rest e

no_cases : (t : ℕ) → cases_of program t ≡ []
no_cases zero = refl
no_cases (suc t) = refl

no_case : (t c : ℕ) (d : CaseDecl) → case_at program t c ≡ Some d → ⊥
no_case t c d at = absurd (none-some d (subst (λ (cs : List CaseDecl). slice_get cs c ≡ Some d) (no_cases t) at))

all_filled : (t : ℕ) → IsFilledSet (all_states program t)
all_filled zero = record { state = 0; has = refl }
all_filled (suc t) = record { state = 0; has = refl }

released_filled : (t : ℕ) → IsFilledSet (release_set program t)
released_filled zero = record { state = 0; has = refl }
released_filled (suc t) = record { state = 0; has = refl }

-- ---- functions

abbrev OwnsNone : List VarDecl → Type 0
OwnsNone = Each (λ (d : VarDecl). owning_states_in (Some d.ty) ≡ None)

owned_none : (ds : List VarDecl) → OwnsNone ds → (v : ℕ) → owning_states_in (option_map (λ (d : VarDecl). d.ty) (slice_get ds v)) ≡ None
owned_none [] h v = refl
owned_none (d ∷ ds) h zero = h.0
owned_none (d ∷ ds) h (suc v) = owned_none ds h.1 v

each_owns : Each (λ (f : Func). OwnsNone f.vars) program.fns
each_owns = (tt, ((refl, tt), ((refl, tt), ((refl, tt), ((refl, tt), ((refl, tt), tt))))))

-- of each entry, both sides
abbrev AreFilled : List Entry → Type 0
AreFilled = Each (λ (e : Entry). IfSome e.after IsFilledSet × IfSome e.before IsFilledSet)

each_filled : Each (λ (f : Func). AreFilled f.clause) program.fns
each_filled =
    (((record { state = 0; has = refl }, tt), tt), (((record { state = 1; has = refl }, record { state = 0; has = refl }), tt), (((tt, tt), tt), (((tt, record { state = 0; has = refl }), tt), (((tt, tt), tt), (tt, tt))))))

no_result : Each (λ (f : Func). owning_states_in f.result ≡ None) program.fns
no_result = (refl, (refl, (refl, (refl, (refl, (refl, tt))))))

IsNarrowEntry : Entry → Type 0
IsNarrowEntry e = (states : States) → e.after ≡ Some states → IsNarrow states

each_narrow : Each (λ (f : Func). Each IsNarrowEntry f.clause) program.fns
unfolding IsNarrowEntry
each_narrow =
    ((some (0 ∷ []) (omega arith, tt), tt), ((some (1 ∷ 2 ∷ []) (omega arith, (omega arith, tt)), tt), ((none, tt), ((none, tt), ((none, tt), (tt, tt))))))
  where
    some : (ns : List ℕ) → Each (λ (n : ℕ). n < 32) ns → (states : States) → Some (in_set ns) ≡ Some states → IsNarrow states
    some ns h states e = subst IsNarrow (same_Some (in_set ns) states e) (set_narrow ns h)

    none : (states : States) → (let o : Option States = None in o ≡ Some states) → IsNarrow states
    none states e = absurd (none-some states e)

each_proper : Each (λ (f : Func). all_in is_proper f.body ≡ true) program.fns
each_proper = (refl, (refl, (refl, (refl, (refl, (refl, tt))))))

each_few : Each (λ (f : Func). f.params ≤ 16) program.fns
each_few = (omega arith, (omega arith, (omega arith, (omega arith, (omega arith, (omega arith, tt))))))

-- ---- the program

has_states : HasStates program
unfolding IsNarrowEntry
has_states = record {
  all = all_filled;
  released = released_filled;
  owned = λ g f v states at is. absurd (none-some states (sym (owned_none f.vars (each_at (λ (f : Func). OwnsNone f.vars) program.fns g f each_owns at) v) ∙ is));
  listed = λ t c i d k at is. absurd (no_case t c d at);
  after = λ g f i e at is. (each_at (λ (e : Entry). IfSome e.after IsFilledSet × IfSome e.before IsFilledSet) f.clause i e (each_at (λ (f : Func). AreFilled f.clause) program.fns g f each_filled at) is).0;
  before = λ g f i e at is. (each_at (λ (e : Entry). IfSome e.after IsFilledSet × IfSome e.before IsFilledSet) f.clause i e (each_at (λ (f : Func). AreFilled f.clause) program.fns g f each_filled at) is).1;
}

narrow_heads : HasNarrowHeads program
unfolding IsNarrowEntry
narrow_heads = record {
  heads = λ g f at external. record {
    after = λ i e states is q. each_at IsNarrowEntry f.clause i e (each_at (λ (f : Func). Each IsNarrowEntry f.clause) program.fns g f each_narrow at) is states q;
    owned = λ states t args is. absurd (none-some states (sym (each_at (λ (f : Func). owning_states_in f.result ≡ None) program.fns g f no_result at) ∙ ap owning_states_in is));
    payloads = λ t c i args d states u others v at is. absurd (no_case t c d at);
    listed = λ t c i args d k v at is. absurd (no_case t c d at);
  };
}

pub levels_are_accepted : IsAcceptedProgram program
unfolding lookups.leads_up
levels_are_accepted = record {
  kinded = refl;
  accepted = accepted;
  sizes = record { most = λ i d at. each_at (λ (d : SetDecl). length d.states ≤ 32) program.sets i d (omega arith, tt) at };
  states = has_states;
  narrow = narrow_heads;
  limits = record {
    operators = λ g f at. each_at (λ (f : Func). all_in is_proper f.body ≡ true) program.fns g f each_proper at;
    payloads = λ t c d at. absurd (no_case t c d at);
    parameters = λ g f at external. each_at (λ (f : Func). f.params ≤ 16) program.fns g f each_few at;
    cases = λ t. subst (λ (cs : List CaseDecl). length cs ≤ 32) (sym (no_cases t)) (omega arith);
    given = λ g f states t args at external is. absurd (none-some states (sym (each_at (λ (f : Func). owning_states_in f.result ≡ None) program.fns g f no_result at) ∙ ap owning_states_in is));
    parts = λ t c i d states u others at is. absurd (no_case t c d at);
  };
}

-- so whatever the host answers, its C program does what it does, and breaks no rule of C
pub levels_run_alike : RunsAlike program
levels_run_alike = accepted_alike program levels_are_accepted

pub levels_are_defined : IsDefined program
levels_are_defined = accepted_defined program levels_are_accepted

-- ---- two runs

-- no external is asked for a number: `log` keeps the state that its object has
quiet : List (List ℤ)
quiet = [] ∷ [] ∷ [] ∷ [] ∷ []

quiet_fed : IsFed [] quiet
unfolding quiet
quiet_fed = record { numbers = tt; lists = (tt, (tt, (tt, (tt, tt)))) }

quiet_done : (run.run program 20 9 9 [] quiet).outcome ≡ source.done
unfolding quiet step.fill step.deliver step.then_do step.where_so step.spend step.with_found step.with_made step.with_moved step.with_answer step.first_answer step.with_filled step.left_block operands.with_operand operands.with_operands operands.with_case_opened calls.with_returned calls.back_in run.left_function run.call_by run.call_body ext.call_external ext.with_result ext.with_fresh ext.with_pieces lookups.leads_up
quiet_done = refl

outcome_same : (a b : cw.Outcome) → (let o : Option cw.Outcome = Some a in o ≡ Some b) → a ≡ b
outcome_same a b e = cc

lowered_done : (crun.c_run (lowered program) 20 9 9 [] quiet).outcome ≡ cw.done
lowered_done =
    let h = levels_run_alike 20 9 9 [] quiet quiet_fed in
    sym (outcome_same cw.done (crun.c_run (lowered program) 20 9 9 [] quiet).outcome (ap c_outcome (sym quiet_done) ∙ h.outcome))

-- where the host gives one all the same, the answer is bad
loud : List (List ℤ)
loud = [] ∷ (pos 0 ∷ []) ∷ []

loud_fed : IsFed [] loud
unfolding loud
loud_fed = record { numbers = tt; lists = (tt, ((refl, tt), tt)) }

loud_bad : (run.run program 20 9 9 [] loud).outcome ≡ source.bad_answer 2
unfolding loud step.fill step.deliver step.then_do step.where_so step.spend step.with_found step.with_made step.with_moved step.with_answer step.first_answer step.with_filled step.left_block operands.with_operand operands.with_operands operands.with_case_opened calls.with_returned calls.back_in run.left_function run.call_by run.call_body ext.call_external ext.with_result ext.with_fresh ext.with_pieces lookups.leads_up
loud_bad = refl

lowered_bad : (crun.c_run (lowered program) 20 9 9 [] loud).outcome ≡ cw.bad_answer 2
lowered_bad =
    let h = levels_run_alike 20 9 9 [] loud loud_fed in
    sym (outcome_same (cw.bad_answer 2) (crun.c_run (lowered program) 20 9 9 [] loud).outcome (ap c_outcome (sym loud_bad) ∙ h.outcome))
