-- Tables of single statuses by their bits.
use Rattle.std.proofs.Common.{◌≡◌, ◌↔◌, ◌<◌, ◌||◌, ℕ, Bool, true, false, IsTrue, bit_or, bit_and, min, refl, sym, subst, ◌⊎◌, inl, inr, ⊎_elim, arith, rules}
use Rattle.std.specs.Int.{bit_at}
use Rattle.std.proofs.lemmas.Nat.Bits.{bit_at_and, bit_at-lt, bit_at_above}
use Rattle.std.proofs.lemmas.Bool.Decides.{nat_tests}
use Rattle.vlt_base.specs.States.{is_bit, has_state}
use Rattle.vlt_base.proofs.Sets.{bit_of_both, lowest_state}
use Rattle.vlt_base.specs.declared.states.StateSet.{StateSet}
use Rattle.vlt_core.specs.Maps.{wants_in, becomes_held, becomes_lent, comes_back}
use Rattle.vlt_core.specs.Found.{One, one_absent, one_held, one_lent, one_full, WantsOne, LeftBy}
use Rattle.vlt_core_laws.specs.Sweep.{In}
use Rattle.vlt_faults.specs.declared.finding.ones.Ones.{Ones}
use Rattle.vlt_faults.specs.Finding.Ones.{many_of}

pub no_bit : (i : ℕ) → IsTrue (is_bit 0 i) → ⊥
no_bit i h = let e : bit_at 0 i ≡ 0 = bit_at_above 0 0 i (search rules) (omega arith) in grind (arith, nat_tests)

pub both_true : (a b : Bool) → IsTrue (a || b) ↔ (IsTrue a ⊎ IsTrue b)
both_true true b = (λ h. inl h, λ h. search rules)
both_true false b = (λ h. inr h, λ h. ⊎_elim (λ x. absurd (never x)) (λ x. x) h)
  where
    never : IsTrue false → ⊥
    never h = search rules

pub bit_and_true : (m n i : ℕ) → IsTrue (is_bit (bit_and m n) i) ↔ (IsTrue (is_bit m i) × IsTrue (is_bit n i))
bit_and_true m n i =
    let e : bit_at (bit_and m n) i ≡ min (bit_at m i) (bit_at n i) = bit_at_and m n i in
    let left : bit_at m i < 2 = bit_at-lt m i in
    let right : bit_at n i < 2 = bit_at-lt n i in
    (λ h. (grind (arith, nat_tests), grind (arith, nat_tests)), λ h. let a = h.0 in let b = h.1 in grind (arith, nat_tests))

pub bit_or_true : (m n i : ℕ) → IsTrue (is_bit (bit_or m n) i) ↔ (IsTrue (is_bit m i) ⊎ IsTrue (is_bit n i))
bit_or_true m n i = (λ h. (both_true (is_bit m i) (is_bit n i)).0 (subst IsTrue (bit_of_both m n i) h), λ h. subst IsTrue (sym (bit_of_both m n i)) ((both_true (is_bit m i) (is_bit n i)).1 h))

pub no_true : (b : Bool) → b ≡ false → IsTrue b → ⊥
no_true true e h = no (subst IsTrue e h)
  where
    no : IsTrue false → ⊥
    no h = search rules
no_true false e h = no h
  where
    no : IsTrue false → ⊥
    no h = search rules

pub no_bits : (n i : ℕ) → n ≡ 0 → IsTrue (is_bit n i) → ⊥
no_bits n i e h = no_bit i (subst (λ n. IsTrue (is_bit n i)) e h)

pub some_held : (a : Ones) → 0 < a.held → (o : One) × In (many_of a) o
some_held a p = let x = lowest_state a.held p a.few_held in (one_held x.0, x.2)

pub some_lent : (a : Ones) → 0 < a.lent → (o : One) × In (many_of a) o
some_lent a p = let x = lowest_state a.lent p a.few_lent in (one_lent x.0, x.2)

pub union_in : (a b r : Ones) → r.absent ≡ (a.absent || b.absent) → r.full ≡ (a.full || b.full) → r.held ≡ bit_or a.held b.held → r.lent ≡ bit_or a.lent b.lent → (o : One) → In (many_of r) o ↔ (In (many_of a) o ⊎ In (many_of b) o)
union_in a b r e0 e1 e2 e3 one_absent = (λ h. (both_true a.absent b.absent).0 (subst IsTrue e0 h), λ h. subst IsTrue (sym e0) ((both_true a.absent b.absent).1 h))
union_in a b r e0 e1 e2 e3 (one_held i) = (λ h. (bit_or_true a.held b.held i).0 (subst (λ n. IsTrue (is_bit n i)) e2 h), λ h. subst (λ n. IsTrue (is_bit n i)) (sym e2) ((bit_or_true a.held b.held i).1 h))
union_in a b r e0 e1 e2 e3 (one_lent i) = (λ h. (bit_or_true a.lent b.lent i).0 (subst (λ n. IsTrue (is_bit n i)) e3 h), λ h. subst (λ n. IsTrue (is_bit n i)) (sym e3) ((bit_or_true a.lent b.lent i).1 h))
union_in a b r e0 e1 e2 e3 one_full = (λ h. (both_true a.full b.full).0 (subst IsTrue e1 h), λ h. subst IsTrue (sym e1) ((both_true a.full b.full).1 h))

pub wanted_states : (s r : Ones) (w : StateSet) (k : ℕ) → ((i : ℕ) → is_bit k i ≡ has_state w i) → r.absent ≡ false → r.full ≡ false → r.held ≡ bit_and s.held k → r.lent ≡ 0 → (o : One) → In (many_of r) o ↔ (In (many_of s) o × WantsOne (wants_in (has_state w)) o)
wanted_states s r w k m e0 e1 e2 e3 one_absent = (λ h. absurd (no_true r.absent e0 h), λ h. absurd h.1)
wanted_states s r w k m e0 e1 e2 e3 (one_held i) = (
  λ h. let x = (bit_and_true s.held k i).0 (subst (λ n. IsTrue (is_bit n i)) e2 h) in (x.0, subst IsTrue (m i) x.1),
  λ h. subst (λ n. IsTrue (is_bit n i)) (sym e2) ((bit_and_true s.held k i).1 (h.0, subst IsTrue (sym (m i)) h.1)),
)
wanted_states s r w k m e0 e1 e2 e3 (one_lent i) = (λ h. absurd (no_bits r.lent i e3 h), λ h. absurd h.1)
wanted_states s r w k m e0 e1 e2 e3 one_full = (λ h. absurd (no_true r.full e1 h), λ h. absurd h.1)

pub left_states : (s r : Ones) (w : StateSet) (k : ℕ) → ((i : ℕ) → is_bit k i ≡ has_state w i) → ((o : One) × In (many_of s) o) → r.absent ≡ false → r.full ≡ false → r.held ≡ k → r.lent ≡ 0 → (o : One) → In (many_of r) o ↔ ((x : One) × In (many_of s) x × LeftBy (becomes_held (has_state w)) x o)
left_states s r w k m some e0 e1 e2 e3 o = (there o, λ h. subst (In (many_of r)) (sym h.2.2) (subst (λ n. IsTrue (is_bit n h.2.0)) (sym e2) (subst IsTrue (sym (m h.2.0)) h.2.1)))
  where
    there : (o : One) → In (many_of r) o → (x : One) × In (many_of s) x × LeftBy (becomes_held (has_state w)) x o
    there one_absent h = absurd (no_true r.absent e0 h)
    there (one_held i) h = (some.0, some.1, (i, subst IsTrue (m i) (subst (λ n. IsTrue (is_bit n i)) e2 h), refl))
    there (one_lent i) h = absurd (no_bits r.lent i e3 h)
    there one_full h = absurd (no_true r.full e1 h)

pub left_lent : (s r : Ones) → r.absent ≡ s.absent → r.full ≡ s.full → r.held ≡ 0 → r.lent ≡ bit_or s.held s.lent → (o : One) → In (many_of r) o ↔ ((x : One) × In (many_of s) x × LeftBy becomes_lent x o)
left_lent s r e0 e1 e2 e3 o = (there o, λ h. back h.0 h.1 o h.2)
  where
    there : (o : One) → In (many_of r) o → (x : One) × In (many_of s) x × LeftBy becomes_lent x o
    there one_absent h = (one_absent, subst IsTrue e0 h, refl)
    there (one_held i) h = absurd (no_bits r.held i e2 h)
    there (one_lent i) h = ⊎_elim (λ x. (one_held i, x, refl)) (λ x. (one_lent i, x, refl)) ((bit_or_true s.held s.lent i).0 (subst (λ n. IsTrue (is_bit n i)) e3 h))
    there one_full h = (one_full, subst IsTrue e1 h, refl)

    back : (x : One) → In (many_of s) x → (o : One) → LeftBy becomes_lent x o → In (many_of r) o
    back one_absent h o e = subst (In (many_of r)) (sym e) (subst IsTrue (sym e0) h)
    back (one_held i) h o e = subst (In (many_of r)) (sym e) (subst (λ n. IsTrue (is_bit n i)) (sym e3) ((bit_or_true s.held s.lent i).1 (inl h)))
    back (one_lent i) h o e = subst (In (many_of r)) (sym e) (subst (λ n. IsTrue (is_bit n i)) (sym e3) ((bit_or_true s.held s.lent i).1 (inr h)))
    back one_full h o e = subst (In (many_of r)) (sym e) (subst IsTrue (sym e1) h)

pub left_held : (s r : Ones) → r.absent ≡ s.absent → r.full ≡ s.full → r.held ≡ bit_or s.held s.lent → r.lent ≡ 0 → (o : One) → In (many_of r) o ↔ ((x : One) × In (many_of s) x × LeftBy comes_back x o)
left_held s r e0 e1 e2 e3 o = (there o, λ h. back h.0 h.1 o h.2)
  where
    there : (o : One) → In (many_of r) o → (x : One) × In (many_of s) x × LeftBy comes_back x o
    there one_absent h = (one_absent, subst IsTrue e0 h, refl)
    there (one_lent i) h = absurd (no_bits r.lent i e3 h)
    there (one_held i) h = ⊎_elim (λ x. (one_held i, x, refl)) (λ x. (one_lent i, x, refl)) ((bit_or_true s.held s.lent i).0 (subst (λ n. IsTrue (is_bit n i)) e2 h))
    there one_full h = (one_full, subst IsTrue e1 h, refl)

    back : (x : One) → In (many_of s) x → (o : One) → LeftBy comes_back x o → In (many_of r) o
    back one_absent h o e = subst (In (many_of r)) (sym e) (subst IsTrue (sym e0) h)
    back (one_held i) h o e = subst (In (many_of r)) (sym e) (subst (λ n. IsTrue (is_bit n i)) (sym e2) ((bit_or_true s.held s.lent i).1 (inl h)))
    back (one_lent i) h o e = subst (In (many_of r)) (sym e) (subst (λ n. IsTrue (is_bit n i)) (sym e2) ((bit_or_true s.held s.lent i).1 (inr h)))
    back one_full h o e = subst (In (many_of r)) (sym e) (subst IsTrue (sym e1) h)

pub some_if : (b : Bool) (A : Type 0) → b ≡ false → IsTrue b ⊎ A → A
some_if b A e x = ⊎_elim (λ h. absurd (no_true b e h)) (λ a. a) x
