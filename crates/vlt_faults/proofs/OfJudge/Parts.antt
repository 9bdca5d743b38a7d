-- Tables of single statuses by their parts.
use Rattle.std.proofs.Common.{◌≡◌, ◌↔◌, ◌<◌, ◌+◌, ◌%◌, ℕ, Bool, true, false, IsTrue, bit_and, min, sym, subst, arith, rules}
use Rattle.std.specs.Int.{bit_at}
use Rattle.std.specs.Int.Bits.{bit_xor}
use Rattle.std.proofs.lemmas.Nat.Bits.{bit_at_and, bit_at_xor, bit_at-lt}
use Rattle.std.proofs.lemmas.Bool.Decides.{nat_tests}
use Rattle.vlt_base.specs.States.{is_bit, has_state}
use Rattle.vlt_base.proofs.Sets.{lowest_state}
use Rattle.vlt_base.specs.declared.states.StateSet.{StateSet}
use Rattle.vlt_core.specs.Maps.{Status, absent, held, lent, full, Wanted, wants_absent, wants_held, wants_in, wants_lent, wants_full, is_absent, is_held, is_lent, is_full}
use Rattle.vlt_core.specs.Found.{One, one_absent, one_held, one_lent, one_full, Ones, Has, WantsOne}
use Rattle.vlt_core.specs.Faults.{IsMixed, StandsFor, present_of}
use Rattle.vlt_core_laws.specs.Sweep.{In}
use Rattle.vlt_core_laws.specs.Shown.{IsOneKind}
use Rattle.vlt_faults.specs.declared.finding.ones.Ones as D
use Rattle.vlt_faults.specs.Finding.Ones.{many_of}
use Rattle.vlt_faults.proofs.OfFinding.Bits.{no_true, no_bits}

-- a table by its parts
pub by_parts : (r : D.Ones) (X : One → Type 0) → (IsTrue r.absent ↔ X one_absent) → ((i : ℕ) → IsTrue (is_bit r.held i) ↔ X (one_held i)) → ((i : ℕ) → IsTrue (is_bit r.lent i) ↔ X (one_lent i)) → (IsTrue r.full ↔ X one_full) → (o : One) → In (many_of r) o ↔ X o
by_parts r X a h l f one_absent = a
by_parts r X a h l f (one_held i) = h i
by_parts r X a h l f (one_lent i) = l i
by_parts r X a h l f one_full = f

none_true : (b : Bool) (A : Type 0) → b ≡ false → (A → ⊥) → IsTrue b ↔ A
none_true b A e f = (λ h. absurd (no_true b e h), λ x. absurd (f x))

none_bit : (n i : ℕ) (A : Type 0) → n ≡ 0 → (A → ⊥) → IsTrue (is_bit n i) ↔ A
none_bit n i A e f = (λ h. absurd (no_bits n i e h), λ x. absurd (f x))

all_true : (b : Bool) → b ≡ true → IsTrue b ↔ Unit {0}
all_true b e = (λ h. tt, λ x. subst IsTrue (sym e) (search rules))

same_true : (b c : Bool) (A : Type 0) → b ≡ c → (IsTrue c ↔ A) → IsTrue b ↔ A
same_true b c A e f = subst (λ x. IsTrue x ↔ A) (sym e) f

same_bit : (n m i : ℕ) (A : Type 0) → n ≡ m → (IsTrue (is_bit m i) ↔ A) → IsTrue (is_bit n i) ↔ A
same_bit n m i A e f = subst (λ x. IsTrue (is_bit x i) ↔ A) (sym e) f

-- ---- the single statuses of a status

pub singles_absent : (r : D.Ones) → r.absent ≡ true → r.full ≡ false → r.held ≡ 0 → r.lent ≡ 0 → (o : One) → In (many_of r) o ↔ Has absent o
singles_absent r a f h l = by_parts r (Has absent) (all_true r.absent a) (λ i. none_bit r.held i ⊥ h (λ x. x)) (λ i. none_bit r.lent i ⊥ l (λ x. x)) (none_true r.full ⊥ f (λ x. x))

pub singles_full : (r : D.Ones) → r.absent ≡ false → r.full ≡ true → r.held ≡ 0 → r.lent ≡ 0 → (o : One) → In (many_of r) o ↔ Has full o
singles_full r a f h l = by_parts r (Has full) (none_true r.absent ⊥ a (λ x. x)) (λ i. none_bit r.held i ⊥ h (λ x. x)) (λ i. none_bit r.lent i ⊥ l (λ x. x)) (all_true r.full f)

states_bit : (n m i : ℕ) (states : ℕ → Bool) → n ≡ m → ((i : ℕ) → is_bit m i ≡ states i) → IsTrue (is_bit n i) ↔ IsTrue (states i)
states_bit n m i states e f = same_bit n m i (IsTrue (states i)) e (λ h. subst IsTrue (f i) h, λ h. subst IsTrue (sym (f i)) h)

pub singles_held : (r : D.Ones) (states : ℕ → Bool) (m : ℕ) → ((i : ℕ) → is_bit m i ≡ states i) → r.absent ≡ false → r.full ≡ false → r.held ≡ m → r.lent ≡ 0 → (o : One) → In (many_of r) o ↔ Has (held states) o
singles_held r states m e a f h l = by_parts r (Has (held states)) (none_true r.absent ⊥ a (λ x. x)) (λ i. states_bit r.held m i states h e) (λ i. none_bit r.lent i ⊥ l (λ x. x)) (none_true r.full ⊥ f (λ x. x))

pub singles_lent : (r : D.Ones) (states : ℕ → Bool) (m : ℕ) → ((i : ℕ) → is_bit m i ≡ states i) → r.absent ≡ false → r.full ≡ false → r.held ≡ 0 → r.lent ≡ m → (o : One) → In (many_of r) o ↔ Has (lent states) o
singles_lent r states m e a f h l = by_parts r (Has (lent states)) (none_true r.absent ⊥ a (λ x. x)) (λ i. none_bit r.held i ⊥ h (λ x. x)) (λ i. states_bit r.lent m i states l e) (none_true r.full ⊥ f (λ x. x))

-- ---- those that are present

pub present_parts : (m r : D.Ones) → r.absent ≡ false → r.full ≡ m.full → r.held ≡ m.held → r.lent ≡ m.lent → (o : One) → In (many_of r) o ↔ present_of (In (many_of m)) o
present_parts m r a f h l = by_parts r (present_of (In (many_of m)))
    (none_true r.absent (IsTrue m.absent × ⊥) a (λ x. x.1))
    (λ i. same_bit r.held m.held i _ h (λ x. (x, tt), λ x. x.0))
    (λ i. same_bit r.lent m.lent i _ l (λ x. (x, tt), λ x. x.0))
    (same_true r.full m.full _ f (λ x. (x, tt), λ x. x.0))

pub mixed_parts : (m r : D.Ones) → ((o : One) → In (many_of r) o ↔ present_of (In (many_of m)) o) → IsTrue m.absent → ((o : One) × In (many_of r) o) → IsMixed (In (many_of m))
mixed_parts m r e a x = let y = (e x.0).0 x.1 in (a, (x.0, y.1, y.0))

pub mixed_some : (m r : D.Ones) → ((o : One) → In (many_of r) o ↔ present_of (In (many_of m)) o) → IsMixed (In (many_of m)) → (o : One) × In (many_of r) o
mixed_some m r e x = (x.1.0, (e x.1.0).1 (x.1.2, x.1.1))

-- ---- those that a row doesn't want

-- what is found, and isn't wanted
abbrev Unwanted : Wanted → D.Ones → One → Type 0
Unwanted w m o = In (many_of m) o × (WantsOne w o → ⊥)

kept_true : (b c : Bool) (W : Type 0) → b ≡ c → (W → ⊥) → IsTrue b ↔ (IsTrue c × (W → ⊥))
kept_true b c W e f = same_true b c _ e (λ x. (x, f), λ x. x.0)

kept_bit : (n m i : ℕ) (W : Type 0) → n ≡ m → (W → ⊥) → IsTrue (is_bit n i) ↔ (IsTrue (is_bit m i) × (W → ⊥))
kept_bit n m i W e f = same_bit n m i _ e (λ x. (x, f), λ x. x.0)

lost_true : (b c : Bool) → b ≡ false → IsTrue b ↔ (IsTrue c × (Unit {0} → ⊥))
lost_true b c e = none_true b _ e (λ x. x.1 tt)

lost_bit : (n m i : ℕ) → n ≡ 0 → IsTrue (is_bit n i) ↔ (IsTrue (is_bit m i) × (Unit {0} → ⊥))
lost_bit n m i e = none_bit n i _ e (λ x. x.1 tt)

without : (m n i : ℕ) → IsTrue (is_bit (bit_and m (bit_xor m n)) i) ↔ (IsTrue (is_bit m i) × (IsTrue (is_bit n i) → ⊥))
without m n i =
    let e = bit_at_and m (bit_xor m n) i in
    let x = bit_at_xor m n i in
    let p = bit_at-lt m i in
    let q = bit_at-lt n i in
    (λ h. (first m n i e x p q h, λ k. second m n i e x p q h k), λ h. third m n i e x p q h.0 h.1)
  where
    first : (m n i : ℕ) → bit_at (bit_and m (bit_xor m n)) i ≡ min (bit_at m i) (bit_at (bit_xor m n) i) → bit_at (bit_xor m n) i ≡ (bit_at m i + bit_at n i) % 2 → bit_at m i < 2 → bit_at n i < 2 → IsTrue (is_bit (bit_and m (bit_xor m n)) i) → IsTrue (is_bit m i)
    first m n i e x p q h = grind (arith, nat_tests)

    second : (m n i : ℕ) → bit_at (bit_and m (bit_xor m n)) i ≡ min (bit_at m i) (bit_at (bit_xor m n) i) → bit_at (bit_xor m n) i ≡ (bit_at m i + bit_at n i) % 2 → bit_at m i < 2 → bit_at n i < 2 → IsTrue (is_bit (bit_and m (bit_xor m n)) i) → IsTrue (is_bit n i) → ⊥
    second m n i e x p q h k = grind (arith, nat_tests)

    third : (m n i : ℕ) → bit_at (bit_and m (bit_xor m n)) i ≡ min (bit_at m i) (bit_at (bit_xor m n) i) → bit_at (bit_xor m n) i ≡ (bit_at m i + bit_at n i) % 2 → bit_at m i < 2 → bit_at n i < 2 → IsTrue (is_bit m i) → (IsTrue (is_bit n i) → ⊥) → IsTrue (is_bit (bit_and m (bit_xor m n)) i)
    third m n i e x p q h k = grind (arith, nat_tests)

no_wants : ⊥ → ⊥
no_wants x = x

pub unwanted_absent : (m r : D.Ones) → r.absent ≡ false → r.full ≡ m.full → r.held ≡ m.held → r.lent ≡ m.lent → (o : One) → In (many_of r) o ↔ Unwanted wants_absent m o
unwanted_absent m r a f h l = by_parts r (Unwanted wants_absent m) (lost_true r.absent m.absent a) (λ i. kept_bit r.held m.held i ⊥ h no_wants) (λ i. kept_bit r.lent m.lent i ⊥ l no_wants) (kept_true r.full m.full ⊥ f no_wants)

pub unwanted_held : (m r : D.Ones) → r.absent ≡ m.absent → r.full ≡ m.full → r.held ≡ 0 → r.lent ≡ m.lent → (o : One) → In (many_of r) o ↔ Unwanted wants_held m o
unwanted_held m r a f h l = by_parts r (Unwanted wants_held m) (kept_true r.absent m.absent ⊥ a no_wants) (λ i. lost_bit r.held m.held i h) (λ i. kept_bit r.lent m.lent i ⊥ l no_wants) (kept_true r.full m.full ⊥ f no_wants)

pub unwanted_lent : (m r : D.Ones) → r.absent ≡ m.absent → r.full ≡ m.full → r.held ≡ m.held → r.lent ≡ 0 → (o : One) → In (many_of r) o ↔ Unwanted wants_lent m o
unwanted_lent m r a f h l = by_parts r (Unwanted wants_lent m) (kept_true r.absent m.absent ⊥ a no_wants) (λ i. kept_bit r.held m.held i ⊥ h no_wants) (λ i. lost_bit r.lent m.lent i l) (kept_true r.full m.full ⊥ f no_wants)

pub unwanted_full : (m r : D.Ones) → r.absent ≡ m.absent → r.full ≡ false → r.held ≡ m.held → r.lent ≡ m.lent → (o : One) → In (many_of r) o ↔ Unwanted wants_full m o
unwanted_full m r a f h l = by_parts r (Unwanted wants_full m) (kept_true r.absent m.absent ⊥ a no_wants) (λ i. kept_bit r.held m.held i ⊥ h no_wants) (λ i. kept_bit r.lent m.lent i ⊥ l no_wants) (lost_true r.full m.full f)

pub unwanted_states : (m r : D.Ones) (states : ℕ → Bool) (n : ℕ) → ((i : ℕ) → is_bit n i ≡ states i) → r.absent ≡ m.absent → r.full ≡ m.full → r.held ≡ bit_and m.held (bit_xor m.held n) → r.lent ≡ m.lent → (o : One) → In (many_of r) o ↔ Unwanted (wants_in states) m o
unwanted_states m r states n e a f h l = by_parts r (Unwanted (wants_in states) m) (kept_true r.absent m.absent ⊥ a no_wants)
    (λ i. same_bit r.held (bit_and m.held (bit_xor m.held n)) i _ h (λ x. let y = (without m.held n i).0 x in (y.0, λ z. y.1 (subst IsTrue (sym (e i)) z)), λ x. (without m.held n i).1 (x.0, λ z. x.1 (subst IsTrue (e i) z))))
    (λ i. kept_bit r.lent m.lent i ⊥ l no_wants) (kept_true r.full m.full ⊥ f no_wants)

-- ---- the status that stands for a table of one kind

pub stands_absent : (m : D.Ones) → IsTrue m.absent → IsOneKind (In (many_of m)) → StandsFor absent (In (many_of m))
stands_absent m h k = record { there = there; back = back }
  where
    there : (o : One) → In (many_of m) o → Has absent o
    there one_absent y = tt
    there (one_held i) y = let e = k one_absent (one_held i) h y in absurd (never e)
      where
        never : is_absent ≡ is_held → ⊥
        never e = cc
    there (one_lent i) y = let e = k one_absent (one_lent i) h y in absurd (never e)
      where
        never : is_absent ≡ is_lent → ⊥
        never e = cc
    there one_full y = let e = k one_absent one_full h y in absurd (never e)
      where
        never : is_absent ≡ is_full → ⊥
        never e = cc

    back : (o : One) → Has absent o → In (many_of m) o
    back one_absent y = h
    back (one_held i) y = absurd y
    back (one_lent i) y = absurd y
    back one_full y = absurd y

pub stands_full : (m : D.Ones) → IsTrue m.full → IsOneKind (In (many_of m)) → StandsFor full (In (many_of m))
stands_full m h k = record { there = there; back = back }
  where
    there : (o : One) → In (many_of m) o → Has full o
    there one_full y = tt
    there (one_held i) y = let e = k one_full (one_held i) h y in absurd (never e)
      where
        never : is_full ≡ is_held → ⊥
        never e = cc
    there (one_lent i) y = let e = k one_full (one_lent i) h y in absurd (never e)
      where
        never : is_full ≡ is_lent → ⊥
        never e = cc
    there one_absent y = let e = k one_full one_absent h y in absurd (never e)
      where
        never : is_full ≡ is_absent → ⊥
        never e = cc

    back : (o : One) → Has full o → In (many_of m) o
    back one_full y = h
    back (one_held i) y = absurd y
    back (one_lent i) y = absurd y
    back one_absent y = absurd y

pub stands_held : (m : D.Ones) (states : ℕ → Bool) → ((i : ℕ) → states i ≡ is_bit m.held i) → ((i : ℕ) × IsTrue (is_bit m.held i)) → IsOneKind (In (many_of m)) → StandsFor (held states) (In (many_of m))
stands_held m states e some k = record { there = there; back = back }
  where
    there : (o : One) → In (many_of m) o → Has (held states) o
    there (one_held i) y = subst IsTrue (sym (e i)) y
    there one_absent y = let e = k (one_held some.0) one_absent some.1 y in absurd (never e)
      where
        never : is_held ≡ is_absent → ⊥
        never e = cc
    there (one_lent i) y = let e = k (one_held some.0) (one_lent i) some.1 y in absurd (never e)
      where
        never : is_held ≡ is_lent → ⊥
        never e = cc
    there one_full y = let e = k (one_held some.0) one_full some.1 y in absurd (never e)
      where
        never : is_held ≡ is_full → ⊥
        never e = cc

    back : (o : One) → Has (held states) o → In (many_of m) o
    back (one_held i) y = subst IsTrue (e i) y
    back one_absent y = absurd y
    back (one_lent i) y = absurd y
    back one_full y = absurd y

pub stands_lent : (m : D.Ones) (states : ℕ → Bool) → ((i : ℕ) → states i ≡ is_bit m.lent i) → ((i : ℕ) × IsTrue (is_bit m.lent i)) → IsOneKind (In (many_of m)) → StandsFor (lent states) (In (many_of m))
stands_lent m states e some k = record { there = there; back = back }
  where
    there : (o : One) → In (many_of m) o → Has (lent states) o
    there (one_lent i) y = subst IsTrue (sym (e i)) y
    there one_absent y = let e = k (one_lent some.0) one_absent some.1 y in absurd (never e)
      where
        never : is_lent ≡ is_absent → ⊥
        never e = cc
    there (one_held i) y = let e = k (one_lent some.0) (one_held i) some.1 y in absurd (never e)
      where
        never : is_lent ≡ is_held → ⊥
        never e = cc
    there one_full y = let e = k (one_lent some.0) one_full some.1 y in absurd (never e)
      where
        never : is_lent ≡ is_full → ⊥
        never e = cc

    back : (o : One) → Has (lent states) o → In (many_of m) o
    back (one_lent i) y = subst IsTrue (e i) y
    back one_absent y = absurd y
    back (one_held i) y = absurd y
    back one_full y = absurd y

-- a state of a set of the code
pub state_in : (s : StateSet) (n : ℕ) → ((i : ℕ) → has_state s i ≡ is_bit n i) → (i : ℕ) × IsTrue (is_bit n i)
state_in s n e = let x = lowest_state s.mask s.filled s.small in (x.0, subst IsTrue (e x.0) x.2)

-- the same of a table with the same statuses
pub stands_same : (u : Status) (S T : Ones) → ((o : One) → S o ↔ T o) → StandsFor u S → StandsFor u T
stands_same u S T e x = record { there = λ o y. x.there o ((e o).1 y); back = λ o y. (e o).0 (x.back o y) }

pub kind_same : (S T : Ones) → ((o : One) → S o ↔ T o) → IsOneKind T → IsOneKind S
kind_same S T e k o o' x y = k o o' ((e o).0 x) ((e o').0 y)

pub present_stands : (u : Status) (m r : D.Ones) → ((o : One) → In (many_of r) o ↔ present_of (In (many_of m)) o) → (((o : One) × In (many_of r) o) → IsOneKind (In (many_of r)) → StandsFor u (In (many_of r))) → IsMixed (In (many_of m)) → IsOneKind (present_of (In (many_of m))) → StandsFor u (present_of (In (many_of m)))
present_stands u m r e f x k = stands_same u (In (many_of r)) (present_of (In (many_of m))) e (f (mixed_some m r e x) (kind_same (In (many_of r)) (present_of (In (many_of m))) e k))
