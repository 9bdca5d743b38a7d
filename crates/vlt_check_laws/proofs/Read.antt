-- The status that stands for what is found, where that is of one kind.
use Rattle.std.proofs.Common.{◌≡◌, ℕ, Bool, true, false, IsTrue, refl, sym, ◌∙◌, true≢false}
use Rattle.vlt_core.specs.Core.{Tok}
use Rattle.vlt_core.specs.Maps.{Status, absent, held, lent, full, is_absent, is_held, is_lent, is_full}
use Rattle.vlt_core.specs.Found.{One, one_absent, one_held, one_lent, one_full, Has}
use Rattle.vlt_core.specs.Faults.{StandsFor}
use Rattle.vlt_core_laws.specs.Shown.{Every, IsOneKind}
use Rattle.vlt_core_laws.specs.Sweep.{Many, In}
use Rattle.vlt_base.proofs.Surely.{IsTest}
use Rattle.vlt_check_laws.proofs.Told.{IsTabled}

abbrev read_by : Many → (absent full lent : Bool) → Status
read_by m true f l = absent
read_by m false true l = full
read_by m false false true = lent (λ s. m (one_lent s))
read_by m false false false = held (λ s. m (one_held s))

abbrev pub read : Many → (lent : Bool) → Status
read m l = read_by m (m one_absent) (m one_full) l

-- ---- kinds

absent_held : is_absent ≡ is_held → ⊥
absent_held e = cc

absent_lent : is_absent ≡ is_lent → ⊥
absent_lent e = cc

absent_full : is_absent ≡ is_full → ⊥
absent_full e = cc

full_held : is_full ≡ is_held → ⊥
full_held e = cc

full_lent : is_full ≡ is_lent → ⊥
full_lent e = cc

lent_held : is_lent ≡ is_held → ⊥
lent_held e = cc

module _ (m : Many) (k : IsOneKind (In m)) where
  absent_stands : In m one_absent → StandsFor absent (In m)
  absent_stands a = record { there = there; back = back }
    where
      there : (o : One) → In m o → Has absent o
      there one_absent x = tt
      there (one_held s) x = absent_held (k one_absent (one_held s) a x)
      there (one_lent s) x = absent_lent (k one_absent (one_lent s) a x)
      there one_full x = absent_full (k one_absent one_full a x)

      back : (o : One) → Has absent o → In m o
      back one_absent x = a
      back o x = absurd x

  full_stands : In m one_full → StandsFor full (In m)
  full_stands a = record { there = there; back = back }
    where
      there : (o : One) → In m o → Has full o
      there one_full x = tt
      there (one_held s) x = full_held (k one_full (one_held s) a x)
      there (one_lent s) x = full_lent (k one_full (one_lent s) a x)
      there one_absent x = absent_full (k one_absent one_full x a)

      back : (o : One) → Has full o → In m o
      back one_full x = a
      back o x = absurd x

  lent_stands : (s : ℕ) → In m (one_lent s) → StandsFor (lent (λ s. m (one_lent s))) (In m)
  lent_stands i a = record { there = there; back = back }
    where
      there : (o : One) → In m o → Has (lent (λ s. m (one_lent s))) o
      there (one_lent s) x = x
      there (one_held s) x = lent_held (k (one_lent i) (one_held s) a x)
      there one_absent x = absent_lent (k one_absent (one_lent i) x a)
      there one_full x = full_lent (k one_full (one_lent i) x a)

      back : (o : One) → Has (lent (λ s. m (one_lent s))) o → In m o
      back (one_lent s) x = x
      back o x = absurd x

  held_stands : (In m one_absent → ⊥) → (In m one_full → ⊥) → ((s : ℕ) → In m (one_lent s) → ⊥) → StandsFor (held (λ s. m (one_held s))) (In m)
  held_stands a f l = record { there = there; back = back }
    where
      there : (o : One) → In m o → Has (held (λ s. m (one_held s))) o
      there (one_held s) x = x
      there one_absent x = a x
      there one_full x = f x
      there (one_lent s) x = l s x

      back : (o : One) → Has (held (λ s. m (one_held s))) o → In m o
      back (one_held s) x = x
      back o x = absurd x

  not_true : (b : Bool) → b ≡ false → IsTrue b → ⊥
  not_true b e x = true≢false (sym x ∙ e)

  pub read_stands : (l : Bool) → IsTest l ((s : ℕ) × In m (one_lent s)) → StandsFor (read m l) (In m)
  read_stands l test = by (m one_absent) (m one_full) l refl refl refl
    where
      by : (a f b : Bool) → m one_absent ≡ a → m one_full ≡ f → l ≡ b → StandsFor (read_by m a f b) (In m)
      by true f b x y z = absent_stands x
      by false true b x y z = full_stands y
      by false false true x y z = let s = test.there z in lent_stands s.0 s.1
      by false false false x y z = held_stands (not_true (m one_absent) x) (not_true (m one_full) y) (λ s w. not_true l z (test.back (s, w)))

pub lent_test : (S : Every) (x : IsTabled S) (t : Tok) → IsTest (x.lent t) ((s : ℕ) × In (x.many t) (one_lent s))
lent_test S x t = record {
  there = λ e. let y = (x.lends t).there e in (y.0, (x.each t (one_lent y.0)).back y.1);
  back = λ y. (x.lends t).back (y.0, (x.each t (one_lent y.0)).there y.1);
}

-- the same of what has a table
pub tabled_stands : (S : Every) (x : IsTabled S) (t : Tok) → IsOneKind (S t) → StandsFor (read (x.many t) (x.lent t)) (S t)
tabled_stands S x t k =
    let stands = read_stands (x.many t) (λ o q y z. k o q ((x.each t o).there y) ((x.each t q).there z)) (x.lent t) (lent_test S x t) in
    record { there = λ o y. stands.there o ((x.each t o).back y); back = λ o y. (x.each t o).there (stands.back o y) }
