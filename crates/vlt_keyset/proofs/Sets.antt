-- Statuses of one kind, and their unions.
use Rattle.std.proofs.Common.{◌≡◌, ◌≢◌, ◌<◌, ◌≤◌, ◌^◌, ◌-◌, ◌↔◌, ◌||◌, ℕ, Bool, true, false, IsTrue, refl, sym, ap, ◌∙◌, subst, arith, ⊎_elim, inl, inr, ◌⊎◌, rules}
use Rattle.std.proofs.lemmas.Nat.{le_or_l}
use Rattle.vlt_base.specs.declared.states.StateSet.{StateSet}
use Rattle.vlt_base.specs.States.{has_state, is_bit}
use Rattle.vlt_base.specs.States as sets
use Rattle.vlt_base.proofs.Sets.{within_bits, same_sets, same_masks}
use Rattle.vlt_core.specs.Core.{States}
use Rattle.vlt_core.specs.Maps.{IsWithin, IsStatusBelow, states_of}
use Rattle.vlt_core.specs.declared.held.Status.{Status}
use Rattle.vlt_core.specs.declared.held.Status.TheVariants.{Held, Lent}
use Rattle.vlt_core.specs.HeldView.{status_of}
use Rattle.vlt_keyset.specs.Statuses.{IsUnion, IsUnited, IsNearer}

either_true : (a b : Bool) → IsTrue (a || b) → IsTrue a ⊎ IsTrue b
either_true true b h = inl h
either_true false b h = inr h

left_true : (a b : Bool) → IsTrue a → IsTrue (a || b)
left_true true b h = h
left_true false b h = absurd (never h)
  where
    never : IsTrue false → ⊥
    never h = search rules

right_true : (a b : Bool) → IsTrue b → IsTrue (a || b)
right_true true b h = search rules
right_true false b h = h

module _ (s t u : StateSet) (e : IsUnited s t u) where
  pub united_left : IsWithin (has_state s) (has_state u)
  united_left = record { each = λ i h. subst IsTrue (sym (e.each i)) (left_true _ _ h) }

  pub united_right : IsWithin (has_state t) (has_state u)
  united_right = record { each = λ i h. subst IsTrue (sym (e.each i)) (right_true _ _ h) }

  pub united_least : (d : States) → IsWithin (has_state s) d → IsWithin (has_state t) d → IsWithin (has_state u) d
  united_least d p q = record { each = λ i h. ⊎_elim (p.each i) (q.each i) (either_true _ _ (subst IsTrue (e.each i) h)) }

  pub united_nearer : (IsWithin (has_state t) (has_state s) → ⊥) → 2 ^ 32 - u.mask < 2 ^ 32 - s.mask
  united_nearer never =
      let low : s.mask ≤ u.mask = subst (λ m. s.mask ≤ m) (within_bits s.mask u.mask united_left.each) (le_or_l s.mask u.mask) in
      let other : s.mask ≢ u.mask = λ same. never (record { each = λ i h. subst (λ m. IsTrue (is_bit m i)) (sym same) (united_right.each i h) }) in
      let small : s.mask < 2 ^ 32 = s.small in
      omega arith

pub held_union : (a b : Status) (s t u : StateSet) → a ≡ Held s → b ≡ Held t → IsUnited s t u → IsUnion (status_of a) (status_of b) (status_of (Held u))
held_union a b s t u p q e = rw (p, q) (record {
  left = record { kind = refl; within = united_left s t u e };
  right = record { kind = refl; within = united_right s t u e };
  least = λ d x y. record { kind = x.kind; within = united_least s t u e (states_of d) x.within y.within };
})

pub lent_union : (a b : Status) (s t u : StateSet) → a ≡ Lent s → b ≡ Lent t → IsUnited s t u → IsUnion (status_of a) (status_of b) (status_of (Lent u))
lent_union a b s t u p q e = rw (p, q) (record {
  left = record { kind = refl; within = united_left s t u e };
  right = record { kind = refl; within = united_right s t u e };
  least = λ d x y. record { kind = x.kind; within = united_least s t u e (states_of d) x.within y.within };
})

pub held_nearer : (a b : Status) (s t u : StateSet) → a ≡ Held s → b ≡ Held t → IsUnited s t u → IsNearer a b (Held u)
held_nearer a b s t u p q e = rw (p, q) (record { nearer = λ never. united_nearer s t u e (λ w. never (record { kind = refl; within = w })) })

pub lent_nearer : (a b : Status) (s t u : StateSet) → a ≡ Lent s → b ≡ Lent t → IsUnited s t u → IsNearer a b (Lent u)
lent_nearer a b s t u p q e = rw (p, q) (record { nearer = λ never. united_nearer s t u e (λ w. never (record { kind = refl; within = w })) })

-- a set within another, in the two words for it
pub within_sets : (s t : StateSet) → sets.IsWithin s t ↔ IsWithin (has_state s) (has_state t)
within_sets s t = (λ p. record { each = p.each }, λ p. record { each = p.each })

pub held_below : (a b : Status) (s t : StateSet) (r : Bool) → a ≡ Held s → b ≡ Held t → IsTrue r ↔ sets.IsWithin s t → IsTrue r ↔ IsStatusBelow (status_of a) (status_of b)
held_below a b s t r p q e = rw (p, q) (λ h. record { kind = refl; within = (within_sets s t).0 (e.0 h) }, λ h. e.1 ((within_sets s t).1 h.within))

pub lent_below : (a b : Status) (s t : StateSet) (r : Bool) → a ≡ Lent s → b ≡ Lent t → IsTrue r ↔ sets.IsWithin s t → IsTrue r ↔ IsStatusBelow (status_of a) (status_of b)
lent_below a b s t r p q e = rw (p, q) (λ h. record { kind = refl; within = (within_sets s t).0 (e.0 h) }, λ h. e.1 ((within_sets s t).1 h.within))

-- sets by their masks
pub same_by_masks : (s t : StateSet) (m n : ℕ) → ((i : ℕ) → is_bit m i ≡ has_state s i) → ((i : ℕ) → is_bit n i ≡ has_state t i) → m ≡ n → s ≡ t
same_by_masks s t m n p q e = same_sets s t (λ i. sym (p i) ∙ ap (λ k. is_bit k i) e ∙ q i)

pub masks_of_same : (s t : StateSet) (m n : ℕ) → ((i : ℕ) → is_bit m i ≡ has_state s i) → ((i : ℕ) → is_bit n i ≡ has_state t i) → s ≡ t → m ≡ n
masks_of_same s t m n p q e = same_masks m n (λ i. p i ∙ ap (λ x. has_state x i) e ∙ sym (q i))
