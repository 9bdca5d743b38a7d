-- Which sets of states the code has.
use Rattle.std.proofs.Common.{◌≡◌, ℕ, ◌≤◌, ◌<◌, nat_lt, true, false, true≢false, IsTrue, sym, ◌∙◌, ap, arith}
use Rattle.std.proofs.lemmas.Bool.Decides.{nat_tests}
use Rattle.vlt_base.specs.declared.states.StateSet.{StateSet}
use Rattle.vlt_base.specs.States.{has_state}
use Rattle.vlt_base.proofs.Sets.{no_bit_above, lowest_state}
use Rattle.vlt_core.specs.Lookups.{no_states}

-- a set of the code has a state, and none from 32 on
pub state_in : (s : StateSet) → (i : ℕ) × (i < 32) × IsTrue (has_state s i)
state_in s = lowest_state s.mask s.filled s.small

pub none_above : (s : StateSet) (i : ℕ) → 32 ≤ i → has_state s i ≡ false
none_above s i from = no_bit_above s.mask i s.small from

pub never_empty : (s : StateSet) → has_state s ≡ no_states → ⊥
never_empty s e = let some = state_in s in true≢false (sym some.2 ∙ ap (λ f. f some.0) e)

pub never_none_first : (s : StateSet) (n : ℕ) → n ≡ 0 → has_state s ≡ (λ i. nat_lt i n) → ⊥
never_none_first s n zero e =
    let some = state_in s in
    let less : nat_lt some.0 n ≡ true = sym (ap (λ f. f some.0) e) ∙ some.2 in
    grind (arith, nat_tests)

pub never_many_first : (s : StateSet) (n : ℕ) → 32 < n → has_state s ≡ (λ i. nat_lt i n) → ⊥
never_many_first s n many e =
    let none : has_state s 32 ≡ false = none_above s 32 (omega arith) in
    let same : has_state s 32 ≡ nat_lt 32 n = ap (λ f. f 32) e in
    let less : nat_lt 32 n ≡ false = sym same ∙ none in
    grind (arith, nat_tests)
