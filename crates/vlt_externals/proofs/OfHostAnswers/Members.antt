-- The states of a set, found one after another.
use Rattle.std.proofs.Common.{◌≡◌, ◌≢◌, ℕ, zero, suc, ◌+◌, true, false, if◌then◌else◌, ◌∷◌, filter, Option, None, Some, refl, sym, ap, ◌∙◌, arith}
use Rattle.std.specs.List.{range_with_len}
use Rattle.vlt_core.specs.Core.{States}
use Rattle.vlt_meaning.specs.HostAnswers.{members}
use Rattle.vlt_externals.specs.HostAnswers.Read.{IsFirst, only_in}

pub first_none : (s : States) (k n : ℕ) → k ≡ 32 → k + n ≡ 32 → IsFirst s k n None
first_none s k zero e all = refl
first_none s k (suc n) e all = absurd (omega (arith, e, all))

pub first_here : (s : States) (k n : ℕ) → k ≢ 32 → k + n ≡ 32 → s k ≡ true → IsFirst s k n (Some k)
first_here s k zero apart all at = absurd (apart (omega (arith, all)))
first_here s k (suc n) apart all at =
    (n, omega arith, ap (λ b. if b then k ∷ filter s (range_with_len (k + 1) n) else filter s (range_with_len (k + 1) n)) at)

pub first_more : (s : States) (k n : ℕ) (r : Option ℕ) → k ≢ 32 → k + n ≡ 32 → s k ≡ false → ((m : ℕ) → k + 1 + m ≡ 32 → IsFirst s (k + 1) m r) → IsFirst s k n r
first_more s k zero r apart all off more = absurd (apart (omega (arith, all)))
first_more s k (suc n) r apart all off more = by r (more n (omega (arith, all)))
  where
    gone : filter s (range_with_len k (suc n)) ≡ filter s (range_with_len (k + 1) n)
    gone = ap (λ b. if b then k ∷ filter s (range_with_len (k + 1) n) else filter s (range_with_len (k + 1) n)) off

    by : (r : Option ℕ) → IsFirst s (k + 1) n r → IsFirst s k (suc n) r
    by None e = gone ∙ e
    by (Some a) f = let l = f.1 in (f.0, omega (arith, l), gone ∙ f.2)

-- ---- the only one

pub only_none : (s : States) → IsFirst s 0 32 None → None ≡ only_in (members s)
only_none s e = sym (ap only_in e)

pub only_one : (s : States) (a : ℕ) → IsFirst s 0 32 (Some a) → ((n : ℕ) → a + 1 + n ≡ 32 → IsFirst s (a + 1) n None) → Some a ≡ only_in (members s)
only_one s a f none = sym (ap only_in (f.2 ∙ ap (λ ks. a ∷ ks) (none f.0 f.1)))

pub only_many : (s : States) (a b : ℕ) → IsFirst s 0 32 (Some a) → ((n : ℕ) → a + 1 + n ≡ 32 → IsFirst s (a + 1) n (Some b)) → None ≡ only_in (members s)
only_many s a b f more = sym (ap only_in (f.2 ∙ ap (λ ks. a ∷ ks) (more f.0 f.1).2))
