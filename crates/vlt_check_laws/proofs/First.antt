-- Among faults there is, surely, a first one.
use Rattle.std.proofs.Common.{◌≡◌, ◌<◌, ◌≤◌, ℕ, List, [], ◌∷◌, ◌⊎◌, inl, inr, ⊎_elim, refl, sym, ◌∙◌, subst, arith}
use Rattle.std.proofs.lemmas.Bool.{cases_lt}
use Rattle.vlt_core.specs.Core.{Tok, a_key, a_var}
use Rattle.vlt_core.specs.Faults.{Spot, IsNoLaterTok, IsNoLater}
use Rattle.vlt_base.specs.Sure.{Surely}
use Rattle.vlt_base.proofs.Surely.{sure, surely, so, least_by}

-- a spot with a token
record Place : Type 0 where
  spot : Spot
  tok : Tok

abbrev kind_rank : Tok → ℕ
kind_rank (a_key k) = 0
kind_rank (a_var v) = 1

abbrev number_of : Tok → ℕ
number_of (a_key k) = k
number_of (a_var v) = v

-- by the first of these numbers in which the two differ, the one is less; or they differ in none
abbrev IsLess : List (Place → ℕ) → Place → Place → Type 0
IsLess [] x y = Unit {0}
IsLess (r ∷ rs) x y = (r x < r y) ⊎ ((r x ≡ r y) × IsLess rs x y)

record IsLeast (rs : List (Place → ℕ)) (F : Place → Type 0) : Type 0 where
  place : Place
  there : F place
  least : (y : Place) → F y → IsLess rs place y

less_or_same : (a b : ℕ) (X : Type 0) → a ≤ b → (b ≡ a → X) → (a < b) ⊎ ((a ≡ b) × X)
less_or_same a b X le f = ⊎_elim (λ less. inl less) (λ back. let e : b ≡ a = omega (arith, le, back) in inr (sym e, f e)) (cases_lt a b)

-- among places there is, surely, a least by some numbers
least_place : (rs : List (Place → ℕ)) (F : Place → Type 0) (x : Place) → F x → Surely (IsLeast rs F)
least_place [] F x p = sure (record { place = x; there = p; least = λ y q. tt })
least_place (r ∷ rs) F x p =
    surely (least_by r F x p) (λ a.
    so (least_place rs (λ y. F y × (r y ≡ r a.item)) a.item (a.there, refl)) (λ b. record {
      place = b.place;
      there = b.there.0;
      least = λ y q. less_or_same (r b.place) (r y) (IsLess rs b.place y) (subst (λ n. n ≤ r y) (sym b.there.1) (a.least y q))
          (λ e. b.least y (q, e ∙ b.there.1));
    }))

abbrev ranks : List (Place → ℕ)
ranks = (λ x. x.spot.at) ∷ (λ x. x.spot.class) ∷ (λ x. x.spot.number) ∷ (λ x. kind_rank x.tok) ∷ (λ x. number_of x.tok) ∷ []

no_more : (a b : ℕ) → (a < b) ⊎ ((a ≡ b) × Unit {0}) → a ≤ b
no_more a b x = ⊎_elim (λ y. omega (arith, y)) (λ y. omega (arith, y.0)) x

less_tok : (t u : Tok) → (kind_rank t < kind_rank u) ⊎ ((kind_rank t ≡ kind_rank u) × ((number_of t < number_of u) ⊎ ((number_of t ≡ number_of u) × Unit {0}))) → IsNoLaterTok t u
less_tok (a_key k) (a_key j) x = ⊎_elim (λ y. omega (arith, y)) (λ y. no_more k j y.1) x
less_tok (a_key k) (a_var w) x = tt
less_tok (a_var v) (a_key j) x = ⊎_elim (λ y. omega (arith, y)) (λ y. omega (arith, y.0)) x
less_tok (a_var v) (a_var w) x = ⊎_elim (λ y. omega (arith, y)) (λ y. no_more v w y.1) x

no_later : (p q : Spot) (t u : Tok) → IsLess ranks (record { spot = p; tok = t }) (record { spot = q; tok = u }) → IsNoLater p t q u
no_later p q t u x =
    ⊎_elim (λ y. inl y) (λ y. inr (y.0, ⊎_elim (λ z. inl z) (λ z. inr (z.0, ⊎_elim (λ w. inl w) (λ w. inr (w.0, less_tok t u w.1)) z.1)) y.1)) x

-- ---- the first of faults

pub record First (F : Spot → Tok → Type 0) : Type 0 where
  pub spot : Spot
  pub tok : Tok
  pub there : F spot tok
  pub first : (q : Spot) (u : Tok) → F q u → IsNoLater spot tok q u

pub first_of : (F : Spot → Tok → Type 0) (q : Spot) (t : Tok) → F q t → Surely (First F)
first_of F q t x = so (least_place ranks (λ y. F y.spot y.tok) (record { spot = q; tok = t }) x) (λ a. record {
  spot = a.place.spot;
  tok = a.place.tok;
  there = a.there;
  first = λ r u y. no_later a.place.spot r a.place.tok u (a.least (record { spot = r; tok = u }) y);
})
