-- Each set of states of the code is a mask.
use Rattle.std.proofs.Common.{◌≡◌, ℕ, ◌<◌, ◌≤◌, ◌^◌, ◌==◌, not, true, ap, ◌∙◌, arith}
use Rattle.std.proofs.lemmas.Bool.Decides.{nat_tests}
use Rattle.vlt_base.specs.States.{is_bit, has_state}
use Rattle.vlt_base.specs.declared.states.StateSet.{StateSet}
use Rattle.cert_rows.specs.Values.{mask}
use Rattle.cert_rows.proofs.Valued.{mask_back}

below : (n : ℕ) → n < 2 ^ 32 → n ≤ 4294967295
below n small = omega (arith, small)

some_bit : (n : ℕ) → 0 < n → not (n == 0) ≡ true
some_bit n some = grind (arith, nat_tests)

up : {a b : ℕ} → a ≡ b → b ≤ 4294967295 → a ≤ 4294967295
up e less = omega (arith, e, less)

pub mask_fits : (s : StateSet) → mask.Fits (has_state s)
mask_fits s =
    let few = below s.mask s.small in
    let back = mask_back s.mask few in
    ((up back few, ap (λ n. not (n == 0)) back ∙ some_bit s.mask s.filled), ap is_bit back)
