-- Sets of states, as what they have.
use Rattle.std.specs.Prelude.{ℕ, Bool, ◌==◌, IsTrue}
use Rattle.std.specs.Int.{bit_at}
use Rattle.vlt_base.specs.declared.states.StateSet.{StateSet}

-- whether the bit of this number is 1
abbrev pub is_bit : ℕ → ℕ → Bool
is_bit n i = bit_at n i == 1

-- whether the number is in the set
abbrev pub has_state : StateSet → ℕ → Bool
has_state s i = is_bit s.mask i

-- each number of the first set is in the second
pub record IsWithin (a b : StateSet) : Type 0 where
  pub each : (i : ℕ) → IsTrue (has_state a i) → IsTrue (has_state b i)
