-- The number of a set of states.
use Rattle.std.proofs.Common.{◌≡◌, ℕ, ◌<◌, ◌^◌, sym, ap, ◌∙◌}
use Rattle.vlt_base.specs.States.{is_bit, has_state}
use Rattle.vlt_base.specs.declared.states.StateSet.{StateSet}
use Rattle.cert_rows.specs.Values.{bits_number, mask_of}
use Rattle.cert_rows.proofs.Valued.{bits_back}

pub mask_back : (s : StateSet) (n : ℕ) → n < 2 ^ 32 → ((i : ℕ) → is_bit n i ≡ has_state s i) → n ≡ mask_of (has_state s)
mask_back s n small same = sym (bits_back 32 n small) ∙ ap (bits_number 32) (λ j i. same i j)
