-- What comes, and what is left of it, by kinds of statuses.
use Rattle.std.proofs.Common.{◌≡◌, ◌↔◌, ℕ, Bool, false, IsTrue, refl, sym, subst, rules}
use Rattle.vlt_core.specs.Found.{One, one_absent, one_held, one_lent, one_full, WantsOne, LeftBy}
use Rattle.vlt_core.specs.Faults.{IsPresent}
use Rattle.vlt_core.specs.Maps.{After, wants_in, becomes_lent, comes_back}
use Rattle.vlt_paths.specs.declared.numbers.Numbers.{Numbers}
use Rattle.vlt_paths.specs.Numbers.{holds}
use Rattle.vlt_paths.specs.declared.comes.Comes.{Comes}
use Rattle.vlt_paths.specs.declared.comes.Comes.TheVariants as c
use Rattle.vlt_paths.specs.Comes.{Brings}

never : IsTrue false → ⊥
never h = search rules

only_held : (n : Numbers) (q : One) → Brings (c.Held n) q → (s : ℕ) × IsTrue (holds n s) × (q ≡ one_held s)
only_held n one_absent h = absurd (never h)
only_held n (one_held i) h = (i, h, refl)
only_held n (one_lent i) h = absurd (never h)
only_held n one_full h = absurd (never h)

only_lent : (n : Numbers) (q : One) → Brings (c.Lent n) q → (s : ℕ) × IsTrue (holds n s) × (q ≡ one_lent s)
only_lent n one_absent h = absurd (never h)
only_lent n (one_held i) h = absurd (never h)
only_lent n (one_lent i) h = (i, h, refl)
only_lent n one_full h = absurd (never h)

abbrev IsLeft : Comes → After → Comes → Type 0
IsLeft s a r = (q : One) → Brings r q ↔ ((o : One) × Brings s o × LeftBy a o q)

pub lent_of : (n : Numbers) → IsLeft (c.Held n) becomes_lent (c.Lent n)
lent_of n q = (λ h. let x = only_lent n q h in (one_held x.0, x.1, x.2), λ x. back x.0 x.1 x.2)
  where
    back : (o : One) → Brings (c.Held n) o → LeftBy becomes_lent o q → Brings (c.Lent n) q
    back one_absent h e = absurd (never h)
    back (one_held i) h e = subst (Brings (c.Lent n)) (sym e) h
    back (one_lent i) h e = absurd (never h)
    back one_full h e = absurd (never h)

pub held_again : (n : Numbers) → IsLeft (c.Lent n) comes_back (c.Held n)
held_again n q = (λ h. let x = only_held n q h in (one_lent x.0, x.1, x.2), λ x. back x.0 x.1 x.2)
  where
    back : (o : One) → Brings (c.Lent n) o → LeftBy comes_back o q → Brings (c.Held n) q
    back one_absent h e = absurd (never h)
    back (one_held i) h e = absurd (never h)
    back (one_lent i) h e = subst (Brings (c.Held n)) (sym e) h
    back one_full h e = absurd (never h)

-- ---- whether something comes

pub held_some : (n : Numbers) (b : Bool) → (IsTrue b ↔ ((i : ℕ) × IsTrue (holds n i))) → IsTrue b ↔ ((o : One) × Brings (c.Held n) o)
held_some n b e = (λ h. let x = e.0 h in (one_held x.0, x.1), λ x. let y = only_held n x.0 x.1 in e.1 (y.0, y.1))

pub lent_some : (n : Numbers) (b : Bool) → (IsTrue b ↔ ((i : ℕ) × IsTrue (holds n i))) → IsTrue b ↔ ((o : One) × Brings (c.Lent n) o)
lent_some n b e = (λ h. let x = e.0 h in (one_lent x.0, x.1), λ x. let y = only_lent n x.0 x.1 in e.1 (y.0, y.1))

pub held_present : (n : Numbers) (b : Bool) → (IsTrue b ↔ ((i : ℕ) × IsTrue (holds n i))) → IsTrue b ↔ ((o : One) × Brings (c.Held n) o × IsPresent o)
held_present n b e = (λ h. let x = e.0 h in (one_held x.0, x.1, tt), λ x. let y = only_held n x.0 x.1 in e.1 (y.0, y.1))

pub lent_present : (n : Numbers) (b : Bool) → (IsTrue b ↔ ((i : ℕ) × IsTrue (holds n i))) → IsTrue b ↔ ((o : One) × Brings (c.Lent n) o × IsPresent o)
lent_present n b e = (λ h. let x = e.0 h in (one_lent x.0, x.1, tt), λ x. let y = only_lent n x.0 x.1 in e.1 (y.0, y.1))

pub held_outside : (n m : Numbers) (b : Bool) → (IsTrue b ↔ ((i : ℕ) × IsTrue (holds n i) × (IsTrue (holds m i) → ⊥))) → IsTrue b ↔ ((o : One) × Brings (c.Held n) o × (WantsOne (wants_in (holds m)) o → ⊥))
held_outside n m b e = (
  λ h. let x = e.0 h in (one_held x.0, x.1, x.2),
  λ x. let y = only_held n x.0 x.1 in e.1 (y.0, y.1, λ h. x.2 (subst (WantsOne (wants_in (holds m))) (sym y.2) h)),
)

pub lent_outside : (n m : Numbers) (b : Bool) → (IsTrue b ↔ ((i : ℕ) × IsTrue (holds n i))) → IsTrue b ↔ ((o : One) × Brings (c.Lent n) o × (WantsOne (wants_in (holds m)) o → ⊥))
lent_outside n m b e = (
  λ h. let x = e.0 h in (one_lent x.0, x.1, λ w. w),
  λ x. let y = only_lent n x.0 x.1 in e.1 (y.0, y.1),
)
