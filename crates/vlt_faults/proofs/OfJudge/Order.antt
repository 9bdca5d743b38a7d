-- Where one spot comes no later than another, the first thing in which they differ is less.
use Rattle.std.proofs.Common.{◌≡◌, ◌<◌, ℕ, true, IsTrue, nat_lt, ◌⊎◌, ⊎_elim, subst, sym, rules, arith}
use Rattle.std.proofs.lemmas.Bool.Decides.{nat_tests}
use Rattle.vlt_core.specs.Core.{Tok}
use Rattle.vlt_core.specs.Faults.{Spot, IsNoLater, IsNoLaterTok}

is_less : (a b : ℕ) → a < b → IsTrue (nat_lt a b)
is_less a b l = let e : nat_lt a b ≡ true = grind (arith, nat_tests) in subst IsTrue (sym e) (search rules)

module _ (p q : Spot) (t u : Tok) (x : IsNoLater p t q u) where
  pub at_less : (p.at ≡ q.at → ⊥) → IsTrue (nat_lt p.at q.at)
  at_less apart = is_less p.at q.at (⊎_elim (λ y. y) (λ y. absurd (apart y.0)) x)

  class_on : p.at ≡ q.at → (p.class < q.class) ⊎ ((p.class ≡ q.class) × ((p.number < q.number) ⊎ ((p.number ≡ q.number) × IsNoLaterTok t u)))
  class_on e = ⊎_elim (λ y. absurd (omega (arith, y, e))) (λ y. y.1) x

  pub class_less : p.at ≡ q.at → (p.class ≡ q.class → ⊥) → IsTrue (nat_lt p.class q.class)
  class_less e apart = is_less p.class q.class (⊎_elim (λ y. y) (λ y. absurd (apart y.0)) (class_on e))

  number_on : p.at ≡ q.at → p.class ≡ q.class → (p.number < q.number) ⊎ ((p.number ≡ q.number) × IsNoLaterTok t u)
  number_on e f = ⊎_elim (λ y. absurd (omega (arith, y, f))) (λ y. y.1) (class_on e)

  pub number_less : p.at ≡ q.at → p.class ≡ q.class → (p.number ≡ q.number → ⊥) → IsTrue (nat_lt p.number q.number)
  number_less e f apart = is_less p.number q.number (⊎_elim (λ y. y) (λ y. absurd (apart y.0)) (number_on e f))

  pub tok_on : p.at ≡ q.at → p.class ≡ q.class → p.number ≡ q.number → IsNoLaterTok t u
  tok_on e f g = ⊎_elim (λ y. absurd (omega (arith, y, g))) (λ y. y.1) (number_on e f)
