-- The single statuses of a status that a token begins with.
use Rattle.std.proofs.Common.{◌≡◌, ◌↔◌, ℕ, Bool, true, false, IsTrue, length, sym, ap, subst, ⊎_elim, rules}
use Rattle.vlt_base.specs.States.{is_bit}
use Rattle.vlt_core.specs.Core.{Tok, a_key, a_var}
use Rattle.vlt_core.specs.Maps as maps
use Rattle.vlt_core.specs.Maps.{absent, held, lent, full}
use Rattle.vlt_core.specs.Found.{One, Has}
use Rattle.vlt_core.specs.HeldView.{status_of}
use Rattle.vlt_core.specs.declared.held.Status.TheVariants.{Absent}
use Rattle.vlt_core_laws.specs.Sweep.{In}
use Rattle.vlt_faults.specs.declared.finding.ones.Ones.{Ones}
use Rattle.vlt_faults.specs.Finding.Ones.{many_of}
use Rattle.vlt_faults.proofs.OfFinding.Bits.{no_true, no_bits}
use Rattle.vlt_keyset.specs.Held.{Statuses, map_of, HasPlace}
use Rattle.vlt_witness.proofs.Singles.{by_parts, same_bit}
use Rattle.std.proofs.lemmas.Bool.{cases_lt}
use Rattle.std.proofs.lemmas.List.{get_or_past}

pub no_place : (h : Statuses) (t : Tok) → (HasPlace h t → ⊥) → map_of h t ≡ maps.absent
no_place h (a_key k) f = ap status_of (get_or_past h.keys k Absent (⊎_elim (λ p. absurd (f p)) (λ p. p) (cases_lt k (length h.keys))))
no_place h (a_var v) f = ap status_of (get_or_past h.vars v Absent (⊎_elim (λ p. absurd (f p)) (λ p. p) (cases_lt v (length h.vars))))

none_true : (b : Bool) (A : Type 0) → b ≡ false → (A → ⊥) → IsTrue b ↔ A
none_true b A e f = (λ h. absurd (no_true b e h), λ x. absurd (f x))

none_bit : (n i : ℕ) (A : Type 0) → n ≡ 0 → (A → ⊥) → IsTrue (is_bit n i) ↔ A
none_bit n i A e f = (λ h. absurd (no_bits n i e h), λ x. absurd (f x))

all_true : (b : Bool) → b ≡ true → IsTrue b ↔ Unit {0}
all_true b e = (λ h. tt, λ x. subst IsTrue (sym e) (search rules))

states_bit : (n m i : ℕ) (states : ℕ → Bool) → n ≡ m → ((i : ℕ) → is_bit m i ≡ states i) → IsTrue (is_bit n i) ↔ IsTrue (states i)
states_bit n m i states e f = same_bit n m i (IsTrue (states i)) e (λ h. subst IsTrue (f i) h, λ h. subst IsTrue (sym (f i)) h)

pub singles_absent : (r : Ones) → r.absent ≡ true → r.full ≡ false → r.held ≡ 0 → r.lent ≡ 0 → (o : One) → In (many_of r) o ↔ Has absent o
singles_absent r a f h l = by_parts r (Has absent) (all_true r.absent a) (λ i. none_bit r.held i ⊥ h (λ x. x)) (λ i. none_bit r.lent i ⊥ l (λ x. x)) (none_true r.full ⊥ f (λ x. x))

pub singles_full : (r : Ones) → r.absent ≡ false → r.full ≡ true → r.held ≡ 0 → r.lent ≡ 0 → (o : One) → In (many_of r) o ↔ Has full o
singles_full r a f h l = by_parts r (Has full) (none_true r.absent ⊥ a (λ x. x)) (λ i. none_bit r.held i ⊥ h (λ x. x)) (λ i. none_bit r.lent i ⊥ l (λ x. x)) (all_true r.full f)

pub singles_held : (r : Ones) (states : ℕ → Bool) (m : ℕ) → ((i : ℕ) → is_bit m i ≡ states i) → r.absent ≡ false → r.full ≡ false → r.held ≡ m → r.lent ≡ 0 → (o : One) → In (many_of r) o ↔ Has (held states) o
singles_held r states m e a f h l = by_parts r (Has (held states)) (none_true r.absent ⊥ a (λ x. x)) (λ i. states_bit r.held m i states h e) (λ i. none_bit r.lent i ⊥ l (λ x. x)) (none_true r.full ⊥ f (λ x. x))

pub singles_lent : (r : Ones) (states : ℕ → Bool) (m : ℕ) → ((i : ℕ) → is_bit m i ≡ states i) → r.absent ≡ false → r.full ≡ false → r.held ≡ 0 → r.lent ≡ m → (o : One) → In (many_of r) o ↔ Has (lent states) o
singles_lent r states m e a f h l = by_parts r (Has (lent states)) (none_true r.absent ⊥ a (λ x. x)) (λ i. none_bit r.held i ⊥ h (λ x. x)) (λ i. states_bit r.lent m i states l e) (none_true r.full ⊥ f (λ x. x))
