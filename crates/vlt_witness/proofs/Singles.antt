-- Tables of single statuses by their parts.
use Rattle.std.proofs.Common.{◌≡◌, ◌↔◌, ◌<◌, ◌%◌, ◌+◌, ℕ, Bool, false, IsTrue, bit_and, min, sym, subst, arith}
use Rattle.std.specs.Int.{bit_at}
use Rattle.std.specs.Int.Bits.{bit_xor}
use Rattle.std.proofs.lemmas.Nat.Bits.{bit_at_and, bit_at_xor, bit_at-lt}
use Rattle.std.proofs.lemmas.Bool.Decides.{nat_tests}
use Rattle.vlt_base.specs.States.{is_bit, has_state, IsWithin}
use Rattle.vlt_base.specs.declared.states.StateSet.{StateSet}
use Rattle.vlt_core.specs.Found.{One, one_absent, one_held, one_lent, one_full}
use Rattle.vlt_core_laws.specs.Sweep.{In}
use Rattle.vlt_faults.specs.declared.finding.ones.Ones.{Ones}
use Rattle.vlt_faults.specs.Finding.Ones.{many_of}
use Rattle.vlt_faults.proofs.OfFinding.Bits.{no_true}

pub by_parts : (r : Ones) (X : One → Type 0) → (IsTrue r.absent ↔ X one_absent) → ((i : ℕ) → IsTrue (is_bit r.held i) ↔ X (one_held i)) → ((i : ℕ) → IsTrue (is_bit r.lent i) ↔ X (one_lent i)) → (IsTrue r.full ↔ X one_full) → (o : One) → In (many_of r) o ↔ X o
by_parts r X a h l f one_absent = a
by_parts r X a h l f (one_held i) = h i
by_parts r X a h l f (one_lent i) = l i
by_parts r X a h l f one_full = f

bits_without : (m n i : ℕ) → IsTrue (is_bit (bit_and m (bit_xor m n)) i) ↔ (IsTrue (is_bit m i) × (IsTrue (is_bit n i) → ⊥))
bits_without m n i =
    let e = bit_at_and m (bit_xor m n) i in
    let x = bit_at_xor m n i in
    let p = bit_at-lt m i in
    let q = bit_at-lt n i in
    (λ h. (first m n i e x p q h, λ k. second m n i e x p q h k), λ h. third m n i e x p q h.0 h.1)
  where
    first : (m n i : ℕ) → bit_at (bit_and m (bit_xor m n)) i ≡ min (bit_at m i) (bit_at (bit_xor m n) i) → bit_at (bit_xor m n) i ≡ (bit_at m i + bit_at n i) % 2 → bit_at m i < 2 → bit_at n i < 2 → IsTrue (is_bit (bit_and m (bit_xor m n)) i) → IsTrue (is_bit m i)
    first m n i e x p q h = grind (arith, nat_tests)

    second : (m n i : ℕ) → bit_at (bit_and m (bit_xor m n)) i ≡ min (bit_at m i) (bit_at (bit_xor m n) i) → bit_at (bit_xor m n) i ≡ (bit_at m i + bit_at n i) % 2 → bit_at m i < 2 → bit_at n i < 2 → IsTrue (is_bit (bit_and m (bit_xor m n)) i) → IsTrue (is_bit n i) → ⊥
    second m n i e x p q h k = grind (arith, nat_tests)

    third : (m n i : ℕ) → bit_at (bit_and m (bit_xor m n)) i ≡ min (bit_at m i) (bit_at (bit_xor m n) i) → bit_at (bit_xor m n) i ≡ (bit_at m i + bit_at n i) % 2 → bit_at m i < 2 → bit_at n i < 2 → IsTrue (is_bit m i) → (IsTrue (is_bit n i) → ⊥) → IsTrue (is_bit (bit_and m (bit_xor m n)) i)
    third m n i e x p q h k = grind (arith, nat_tests)

pub same_true : (b c : Bool) (A : Type 0) → b ≡ c → (IsTrue c ↔ A) → IsTrue b ↔ A
same_true b c A e f = subst (λ x. IsTrue x ↔ A) (sym e) f

pub same_bit : (n m i : ℕ) (A : Type 0) → n ≡ m → (IsTrue (is_bit m i) ↔ A) → IsTrue (is_bit n i) ↔ A
same_bit n m i A e f = subst (λ x. IsTrue (is_bit x i) ↔ A) (sym e) f

pub without_in : (a b r : Ones) (p q : Bool) → r.absent ≡ p → r.full ≡ q → r.held ≡ bit_and a.held (bit_xor a.held b.held) → r.lent ≡ bit_and a.lent (bit_xor a.lent b.lent) → (IsTrue p ↔ (IsTrue a.absent × (IsTrue b.absent → ⊥))) → (IsTrue q ↔ (IsTrue a.full × (IsTrue b.full → ⊥))) → (o : One) → In (many_of r) o ↔ (In (many_of a) o × (In (many_of b) o → ⊥))
without_in a b r p q e0 e1 e2 e3 pe qe = by_parts r (λ o. In (many_of a) o × (In (many_of b) o → ⊥))
    (same_true r.absent p _ e0 pe)
    (λ i. same_bit r.held _ i _ e2 (bits_without a.held b.held i))
    (λ i. same_bit r.lent _ i _ e3 (bits_without a.lent b.lent i))
    (same_true r.full q _ e1 qe)

-- ---- the same states

same_bools : (a b : Bool) → (IsTrue a → IsTrue b) → (IsTrue b → IsTrue a) → a ≡ b
same_bools a b f g = grind arith

same_states : (a b : StateSet) → IsWithin a b → IsWithin b a → has_state a ≡ has_state b
same_states a b f g = λ i s. same_bools (has_state a s) (has_state b s) (f.each s) (g.each s) i

within_own : (a b : StateSet) → has_state a ≡ has_state b → IsWithin a b
within_own a b e = record { each = λ i x. subst (λ h. IsTrue (h i)) e x }

pub both_within : (a b : StateSet) (x y : Bool) → IsTrue x → (IsTrue x ↔ IsWithin a b) → (IsTrue y ↔ IsWithin b a) → IsTrue y ↔ (has_state a ≡ has_state b)
both_within a b x y h u v = (λ k. same_states a b (u.0 h) (v.0 k), λ e. v.1 (within_own b a (sym e)))

pub not_within : (a b : StateSet) (x : Bool) → x ≡ false → (IsTrue x ↔ IsWithin a b) → IsTrue x ↔ (has_state a ≡ has_state b)
not_within a b x h u = (λ k. absurd (no_true x h k), λ e. u.1 (within_own a b e))
